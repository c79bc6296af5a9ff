-- How long a value can be. A string's is shorter than its text by its two marks at least (`walking.Short`), and so is a temporal text's, which is a string's in
-- a part of the text; an identifier's by four bytes, U& and two marks. Assumes nothing.
use mathlib.Core.Path.{◌≡◌, refl, ap, sym, ◌∙◌}
use mathlib.Core.Bool.{Bool, true, false}
use mathlib.Core.List.{List, [], ◌∷◌}
use Prim.Native.Nat.{ℕ, ◌+◌, ◌-◌, ◌≤◌, ◌<◌}
use native.Mathlib.Omega.{arith}
use lib.ListN.{length, drop, length-take, length-drop}
use Rattle.meaning.specs.declared.Settings.{Settings}
use Rattle.meaning.specs.Bytes.{part, dquote}
use Rattle.std.specs.Prelude.{if◌then◌else◌}
use Rattle.meaning.specs.Walk.{Trace, walk, size, stops, plain, value}
use Rattle.meaning.specs.Steps.{unicode_step, closing_step, trim}
use Rattle.meaning.specs.Spelling.{Spelling, standard, escape, unicode, dollar, unspelt, chosen, unicode_by, is_unicode, unicode_spelling}
use Rattle.meaning.specs.Reading.{Answer, borrowed, written, refused, means, value_of, answer, read}
use Rattle.meaning.specs.Kinds.{Token, token, no_token, behind, read_token, temporal_token, temporal}
use Rattle.meaning.specs.Helpers.{ident_as, ident}
use Rattle.laws.proofs.walking.StepBounds.{unicode_steady}
use Rattle.laws.proofs.walking.Short.{walk_short, meaning_length, read_length}
use Rattle.laws.proofs.joining.Joining.{fails≢means}
use Rattle.laws.proofs.questions.Ranges.{AnswerIn, BodyIn, read_inside, unicode_body, part_inside}
use Rattle.laws.proofs.room.Told.{Writes}

-- k bytes more than what is written are at hand in a text of n bytes
abbrev pub Less : ℕ → ℕ → ℕ → Type 0
Less k n m = m + k ≤ n

-- whatever is written
pub writes_by : (P : ℕ → Type 0) (a : Answer) → ((v : List ℕ) → a ≡ written v → P (length v)) → Writes P a
writes_by P (borrowed f u) h = tt
writes_by P (written v) h = h v refl
writes_by P (refused p) h = tt

-- A STRING
pub read_writes : (σ : Settings) (t : List ℕ) → Writes (Less 2 (length t)) (read σ t)
read_writes σ t = writes_by (Less 2 (length t)) (read σ t) (λ v. read_length σ t v)

-- A TEMPORAL TEXT, written or borrowed
pub temporal_length : (σ : Settings) (t v : List ℕ) → value_of t (temporal σ t) ≡ means v → length v + 2 ≤ length t
unfolding temporal
temporal_length σ t v = go (temporal_token t)
  where
    moved : (f u : ℕ) (a : Answer) → AnswerIn (length (part f u t)) a → value_of t (behind f a) ≡ means v → value_of (part f u t) a ≡ means v
    moved f u (borrowed g w) i e = ap means (sym (part_inside f u g w t i)) ∙ e
    moved f u (written w) i e = e
    moved f u (refused p) i e = absurd (fails≢means (f + p) v e)

    go : (k : Token) → value_of t (read_token σ t k) ≡ means v → length v + 2 ≤ length t
    go no_token e = absurd (fails≢means 0 v e)
    go (token f u) e =
        omega (
          arith,
          length-take (u - f) (drop f t),
          length-drop f t,
          meaning_length σ (part f u t) v (moved f u (read σ (part f u t)) (read_inside σ (part f u t)) e),
        )

pub temporal_writes : (σ : Settings) (t : List ℕ) → Writes (Less 2 (length t)) (temporal σ t)
temporal_writes σ t = writes_by (Less 2 (length t)) (temporal σ t) (λ v e. temporal_length σ t v (ap (value_of t) e))

-- AN IDENTIFIER. Its body begins behind three bytes
abbrev Third : Spelling → Type 0
Third (unicode e f u) = f ≡ 3
Third (standard q f u) = Unit {0}
Third (escape f u) = Unit {0}
Third (dollar f u) = Unit {0}
Third unspelt = Unit {0}

third_by : (e : List ℕ) (n : ℕ) → Third (unicode_by e n)
third_by [] n = tt
third_by (b ∷ e) n = refl

unicode_third : (q : ℕ) (t : List ℕ) → Third (unicode_spelling q t)
unfolding unicode_spelling
unicode_third q t = go (is_unicode q t) (stops r)
  where
    r : Trace
    r = walk (closing_step false q) 0 (drop 3 t)

    go : (x y : Bool) → Third (if x then (if y then unicode_by (chosen (trim (drop (4 + size r) t))) (3 + size r) else unspelt) else unspelt)
    go true true = third_by (chosen (trim (drop (4 + size r) t))) (3 + size r)
    go true false = tt
    go false y = tt

pub ident_length : (t v : List ℕ) → value_of t (ident t) ≡ means v → length v + 4 ≤ length t
unfolding ident answer
ident_length t v = go (unicode_spelling dquote t) (unicode_third dquote t) (unicode_body dquote t)
  where
    body : (e : List ℕ) (f u : ℕ) → f ≡ 3 → f ≤ u → u < length t → (x y : Bool)
        → value_of t (if x then borrowed f u
        else if y then refused (f + size (walk (unicode_step e dquote) 0 (part f u t)))
        else written (value (walk (unicode_step e dquote) 0 (part f u t)))) ≡ means v
        → length v + 4 ≤ length t
    body e f u i o c true y h =
        let z : part f u t ≡ v = cc in omega (arith, ap length z, length-take (u - f) (drop f t), length-drop f t)
    body e f u i o c false true h = absurd (fails≢means (f + size (walk (unicode_step e dquote) 0 (part f u t))) v h)
    body e f u i o c false false h =
        let z : value (walk (unicode_step e dquote) 0 (part f u t)) ≡ v = cc in
        omega (
          arith,
          ap length z,
          length-take (u - f) (drop f t),
          length-drop f t,
          walk_short (unicode_step e dquote) (unicode_steady e dquote refl) 0 (part f u t) (omega arith),
        )

    go : (s : Spelling) → Third s → BodyIn (length t) s → value_of t (ident_as t s) ≡ means v → length v + 4 ≤ length t
    go (unicode e f u) i b h =
        body e f u i b.ordered b.closed (plain (walk (unicode_step e dquote) 0 (part f u t))) (stops (walk (unicode_step e dquote) 0 (part f u t))) h
    go (standard q f u) i b h = absurd (fails≢means 0 v h)
    go (escape f u) i b h = absurd (fails≢means 0 v h)
    go (dollar f u) i b h = absurd (fails≢means 0 v h)
    go unspelt i b h = absurd (fails≢means 0 v h)

pub ident_writes : (t : List ℕ) → Writes (Less 4 (length t)) (ident t)
ident_writes t = writes_by (Less 4 (length t)) (ident t) (λ v e. ident_length t v (ap (value_of t) e))
