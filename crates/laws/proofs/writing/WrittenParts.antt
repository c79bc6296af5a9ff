-- Demand 3 of the order, its second half: "A value our writer accepts, cut between any characters, each part written and the parts joined so at that
-- setting, reads back whole under the same condition." Each part may be written whole or at a part size of its own. Assumes nothing.
use mathlib.Core.Path.{◌≡◌, refl}
use mathlib.Core.Bool.{Bool, true, false, ◌&&◌, not}
use mathlib.Core.List.{List, [], ◌∷◌, ◌++◌}
use Prim.Native.Nat.{ℕ, ◌+◌, ◌≤◌, ◌<◌}
use native.Mathlib.Omega.{arith}
use lib.ListN.{length, length-append}
use lib.Seq.{get_or-append_seam}
use borrow.Author.Tests.{lt-ltb, le-ltb, not-true}
use Rattle.meaning.specs.declared.Settings.{Settings}
use Rattle.meaning.specs.declared.PartSize.{PartSize}
use Rattle.meaning.specs.declared.Literal.{Literal}
use Rattle.meaning.specs.Bytes.{◌!◌, within, has, quote}
use Rattle.meaning.specs.Chars.{utf8}
use Rattle.meaning.specs.Reading.{borrowed, written, read}
use Rattle.meaning.specs.Writer.{part_too_small, over_limit, unwritable_nul, writes, write_question}
use Rattle.meaning.specs.Questions.{cuts_character, is_string, string_question}
use Rattle.laws.proofs.utf8.Sequences.{utf8_split}
use Rattle.laws.proofs.questions.Asked.{Spans}
use Rattle.laws.proofs.joining.JoiningLaw.{Accepts}
use Rattle.laws.proofs.writing.Unchanged.{back_means, back_borrowed, back_written}
use Rattle.laws.proofs.joining.Parts.{Part, text_of, Next, chain, all_of, Joinable, joins}
use Rattle.laws.proofs.questions.Ranges.{Answered, back_answered}
use Rattle.laws.proofs.writing.WriterParts.{Valid, Writable, writable_append, nul_writable, Accepted, limit_length, accepted_writes}
use Rattle.laws.proofs.writing.WriterText.{written_text_joins}

-- THE PARTS. P holds of each
abbrev pub Each : (Part → Type 0) → Part → List Next → Type 0
Each P p [] = P p
Each P p (x ∷ xs) = P p × Each P x.part xs

pub each_of : (P Q : Part → Type 0) → ((q : Part) → P q → Q q) → (p : Part) (xs : List Next) → Each P p xs → Each Q p xs
each_of P Q f p [] e = f p e
each_of P Q f p (x ∷ xs) e = (f p e.0, each_of P Q f x.part xs e.1)

abbrev pub PartValid : Part → Type 0
PartValid q = Valid q.value

-- the writer takes its part size
abbrev pub Sized : Part → Type 0
Sized q = part_too_small q.size ≡ false

-- the writer takes it, at its part size
abbrev pub PartAccepted : Settings → Part → Type 0
PartAccepted σ q = Accepted σ q.size q.value

-- v, cut between characters into p and the parts of xs
pub record CutInto (v : List ℕ) (p : Part) (xs : List Next) : Type 0 where
  pub valid : Each PartValid p xs
  pub together : all_of p xs ≡ v

-- a place that cuts no character
uncut_begins : (a b : List ℕ) → cuts_character (length a) (a ++ b) ≡ false → within 0x80 0xBF (b ! 0) ≡ false
unfolding cuts_character within
uncut_begins a [] c = refl
uncut_begins a (x ∷ b) c =
    let l : length a < length (a ++ (x ∷ b)) = rw length-append (omega arith) in
    rw (lt-ltb (length a) (length (a ++ (x ∷ b))) l, get_or-append_seam a x b 0) at c

-- each part begins at such a place
abbrev pub BetweenCharacters : Part → List Next → Type 0
BetweenCharacters p [] = Unit {0}
BetweenCharacters p (x ∷ xs) =
    (cuts_character (length p.value) (p.value ++ all_of x.part xs) ≡ false) × BetweenCharacters x.part xs

-- so cut, UTF-8 gives UTF-8 parts
between_valid : (p : Part) (xs : List Next) → Valid (all_of p xs) → BetweenCharacters p xs → Each PartValid p xs
between_valid p [] u b = u
between_valid p (x ∷ xs) u b =
    let r = utf8_split p.value (all_of x.part xs) (uncut_begins p.value (all_of x.part xs) b.0) u in
    (r.0, between_valid x.part xs r.1 b.1)

pub between_cuts : (v : List ℕ) (p : Part) (xs : List Next) → utf8 v ≡ true → all_of p xs ≡ v → BetweenCharacters p xs → CutInto v p xs
between_cuts v p xs u e b = record { valid = between_valid p xs (rw e u) b; together = e }

-- THE CHAIN of parts that the writer accepts joins
chain_joins : (σ : Settings) (p : Part) (xs : List Next) → Each (PartAccepted σ) p xs → Joinable σ (chain σ p xs) (all_of p xs)
chain_joins σ p [] e = written_text_joins σ p.size p.value e
chain_joins σ p (x ∷ xs) e =
    joins σ x.first x.rest x.white (written_text_joins σ p.size p.value e.0) (chain_joins σ x.part xs e.1)

module _ (σ : Settings) (p : Part) (xs : List Next) (e : Each (PartAccepted σ) p xs) where
  -- so it is accepted and means the parts together
  pub chain_accepts : Accepts σ (chain σ p xs) (all_of p xs)
  chain_accepts = record { valid = (chain_joins σ p xs e).valid; value = back_means (chain_joins σ p xs e).back }

  -- borrowed, where it has but two bytes more than they; written, where it has more
  pub chain_borrowed : length (chain σ p xs) ≡ length (all_of p xs) + 2
      → (chain σ p xs ≡ quote ∷ (all_of p xs ++ (quote ∷ []))) × (read σ (chain σ p xs) ≡ borrowed 1 (1 + length (all_of p xs)))
  chain_borrowed = back_borrowed (chain_joins σ p xs e).back

  pub chain_longer : length (all_of p xs) + 2 < length (chain σ p xs) → read σ (chain σ p xs) ≡ written (all_of p xs)
  chain_longer = back_written (chain_joins σ p xs e).back

  pub chain_answered : (l : Literal) (S out : List ℕ) → is_string l.kind ≡ true → Spans l S (chain σ p xs)
      → (length (all_of p xs) + 2 < length (chain σ p xs) → length (all_of p xs) ≤ length out)
      → Answered S (all_of p xs) (string_question l S σ out)
  chain_answered l S out k h r =
      back_answered l S σ out k h (chain_joins σ p xs e).valid (chain_joins σ p xs e).back r

-- EACH PART WRITTEN. The writer accepts it
nul_free_lem : (σ : Settings) (q : List ℕ) → Writable σ.backslash q → unwritable_nul σ q ≡ false
unfolding unwritable_nul
nul_free_lem σ q h = go σ.backslash h
  where
    go : (bs : Bool) → Writable bs q → (not bs && has 0 q) ≡ false
    go true h = refl
    go false h = not-true (has 0 q) h

part_accepted : (σ : Settings) (q : Part) → length q.value ≤ 268435456 → PartValid q → Sized q → Writable σ.backslash q.value → PartAccepted σ q
unfolding over_limit
part_accepted σ q l u s w = record { limit = rw (le-ltb 268435456 (length q.value) l, s); valid = u; nul = nul_free_lem σ q.value w }

each_accepted : (σ : Settings) (p : Part) (xs : List Next) → length (all_of p xs) ≤ 268435456 → Each PartValid p xs → Each Sized p xs
    → Writable σ.backslash (all_of p xs) → Each (PartAccepted σ) p xs
each_accepted σ p [] l u s w = part_accepted σ p l u s w
each_accepted σ p (x ∷ xs) l u s w =
    let n = length-append p.value (all_of x.part xs) in
    let r = writable_append σ.backslash p.value (all_of x.part xs) w in
    (part_accepted σ p (omega arith) u.0 s.0 r.0, each_accepted σ x.part xs (omega arith) u.1 s.1 r.1)

module _ (σ : Settings) (size : PartSize) (v : List ℕ) (p : Part) (xs : List Next)
    (a : Accepted σ size v) (c : CutInto v p xs) (s : Each Sized p xs) where
  pub parts_accepted : Each (PartAccepted σ) p xs
  parts_accepted = each_accepted σ p xs (rw c.together (limit_length size v a.limit)) c.valid s (rw c.together (nul_writable σ v a.nul))

  -- and what it writes of it, into any buffer, is the text that the chain has there
  pub parts_written : (out : List ℕ) → Each (λ q. write_question σ q.size q.value out ≡ writes (text_of σ q) out) p xs
  parts_written out = each_of (PartAccepted σ) _ (λ q b. accepted_writes σ q.size q.value out b) p xs parts_accepted

  -- THE LAW, over the string question: "reads back whole under the same condition". A chain that is no longer than v and two marks is borrowed
  pub parts_law : (l : Literal) (S out : List ℕ) → is_string l.kind ≡ true → Spans l S (chain σ p xs)
      → (length v + 2 < length (chain σ p xs) → length v ≤ length out) → Answered S v (string_question l S σ out)
  parts_law l S out k h r = rw c.together at (chain_answered σ p xs parts_accepted l S out k h (rw c.together r))
