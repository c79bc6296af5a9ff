-- The reading of a temporal text, by its token and what is read of that: each way out, and that the sums on it fit. Assumes nothing.
use mathlib.Core.Path.{◌≡◌, refl, sym, ap, ◌∙◌, subst}
use mathlib.Core.Bool.{Bool, true, false}
use mathlib.Core.List.{List}
use Prim.Native.Nat.{ℕ, ◌+◌, ◌-◌, ◌≤◌}
use native.Mathlib.Omega.{arith}
use lib.Dec.{leb}
use lib.ListN.{length, take, drop, length-take}
use Rattle.meaning.specs.declared.Settings.{Settings}
use Rattle.meaning.specs.declared.ReadText.{ReadText}
use Rattle.meaning.specs.declared.ReadRefusal.{ReadRefusal}
use Rattle.meaning.specs.declared.ReadText.TheVariants as ReadText'
use Rattle.meaning.specs.declared.ReadRefusal.TheVariants as ReadRefusal'
use Rattle.meaning.specs.Bytes.{part}
use Rattle.std.specs.Prelude.{if◌then◌else◌, Result, Ok, Err}
use Rattle.meaning.specs.Reading.{Answer, borrowed, written, refused, read}
use Rattle.meaning.specs.Kinds as kinds
use Rattle.meaning.specs.Kinds.{temporal_token, behind, temporal}
use Rattle.meaning.specs.Reads.{read_of, buffer_of, Reads}
use Rattle.laws.proofs.questions.Ranges.{Bounds}
use Rattle.kinds.specs.declared.temporal.Token.{Token}
use Rattle.kinds.specs.Tokens.{token_of}
use Rattle.kinds.proofs.Bounding.{TokenIn, token_in, ReadIn, read_in}
use Rattle.std.specs.Prelude.{Option, Some, None}
use Rattle.kinds.specs.Tokens.{token_at}

-- THE TOKEN that the code holds
of_found : (k : kinds.Token) (π : Token) → token_of k ≡ Some π → k ≡ kinds.token π.from π.until
of_found (kinds.token g w) π e = let z : token_at g w ≡ π = cc in ap (λ (x : Token). kinds.token x.from x.until) z
of_found kinds.no_token π e = cc

of_nothing : (k : kinds.Token) → token_of k ≡ None → k ≡ kinds.no_token
of_nothing (kinds.token g w) e = cc
of_nothing kinds.no_token e = refl

-- AN ANSWER ON A PART, as one on the text
abbrev moved_on : ℕ → Result ReadText ReadRefusal → Result ReadText ReadRefusal
moved_on f (Ok (ReadText'.Borrowed g w)) = Ok (ReadText'.Borrowed (f + g) (f + w))
moved_on f (Ok (ReadText'.Written n)) = Ok (ReadText'.Written n)
moved_on f (Err (ReadRefusal'.At p)) = Err (ReadRefusal'.At (f + p))
moved_on f (Err (ReadRefusal'.NoRoom n)) = Err (ReadRefusal'.NoRoom n)

moved_answer : (m f : ℕ) (a : Answer) → moved_on f (read_of m a) ≡ read_of m (behind f a)
moved_answer m f (borrowed g w) = refl
moved_answer m f (written v) = go (leb (length v) m)
  where
    go : (x : Bool) → moved_on f (if x then Ok (ReadText'.Written (length v)) else Err (ReadRefusal'.NoRoom (length v)))
        ≡ (if x then Ok (ReadText'.Written (length v)) else Err (ReadRefusal'.NoRoom (length v)))
    go true = refl
    go false = refl
moved_answer m f (refused p) = refl

moved_buffer : (out : List ℕ) (f : ℕ) (a : Answer) → buffer_of out a ≡ buffer_of out (behind f a)
moved_buffer out f (borrowed g w) = refl
moved_buffer out f (written v) = refl
moved_buffer out f (refused p) = refl

module _ (t : List ℕ) (k : Option Token) (ek : k ≡ token_of (temporal_token t)) where
  pub temporal_nothing : (σ : Settings) (out : List ℕ) → k ≡ None → Reads (temporal σ t) out (Err (ReadRefusal'.At 0)) out
  unfolding temporal
  temporal_nothing σ out q = rw (of_nothing (temporal_token t) (sym ek ∙ q)) (record { answer = refl; buffer = refl })

  module _ (π : Token) (q : k ≡ Some π) where
    its : temporal_token t ≡ kinds.token π.from π.until
    its = of_found (temporal_token t) π (sym ek ∙ q)

    range : Bounds (length t) π.from π.until
    range = subst (TokenIn (length t)) its (token_in t)

    pub token_ordered : π.from ≤ π.until
    token_ordered = range.ordered

    pub token_inside : π.until ≤ length t
    token_inside = range.inside

    -- what is read of it, at any setting, lies inside the text
    module _ (σ : Settings) {out after : List ℕ} {r : Result ReadText ReadRefusal} (v : Reads (read σ (take (π.until - π.from) (drop π.from t))) out r after) where
      bounds : (s : Result ReadText ReadRefusal) → r ≡ s → ReadIn (length (part π.from π.until t)) s
      bounds s e = subst (ReadIn (length (part π.from π.until t))) (sym v.answer ∙ e) (read_in (length out) σ (part π.from π.until t))

      room : π.from + length (part π.from π.until t) ≤ length t
      room = omega (arith, length-take (π.until - π.from) (drop π.from t), range.ordered, range.inside)

      pub borrowed_inside : (g w : ℕ) → r ≡ Ok (ReadText'.Borrowed g w) → Bounds (length t) (π.from + g) (π.from + w)
      borrowed_inside g w e =
          let i = bounds (Ok (ReadText'.Borrowed g w)) e in record { ordered = omega (arith, i.ordered); inside = omega (arith, i.inside, room) }

      pub refused_inside : (p : ℕ) → r ≡ Err (ReadRefusal'.At p) → π.from + p ≤ length t
      refused_inside p e = omega (arith, bounds (Err (ReadRefusal'.At p)) e, room)

      -- and is what the text means at that setting
      moved : (s : Result ReadText ReadRefusal) → r ≡ s → Reads (temporal σ t) out (moved_on π.from s) after
      unfolding temporal
      moved s e = rw its (record {
        answer = ap (moved_on π.from) (sym e ∙ v.answer) ∙ moved_answer (length out) π.from (read σ (part π.from π.until t));
        buffer = v.buffer ∙ moved_buffer out π.from (read σ (part π.from π.until t));
      })

      pub temporal_borrowed : (g w : ℕ) → r ≡ Ok (ReadText'.Borrowed g w) → Reads (temporal σ t) out (Ok (ReadText'.Borrowed (π.from + g) (π.from + w))) after
      temporal_borrowed g w e = moved (Ok (ReadText'.Borrowed g w)) e

      pub temporal_written : (n : ℕ) → r ≡ Ok (ReadText'.Written n) → Reads (temporal σ t) out (Ok (ReadText'.Written n)) after
      temporal_written n e = moved (Ok (ReadText'.Written n)) e

      pub temporal_refused : (p : ℕ) → r ≡ Err (ReadRefusal'.At p) → Reads (temporal σ t) out (Err (ReadRefusal'.At (π.from + p))) after
      temporal_refused p e = moved (Err (ReadRefusal'.At p)) e

      pub temporal_short : (n : ℕ) → r ≡ Err (ReadRefusal'.NoRoom n) → Reads (temporal σ t) out (Err (ReadRefusal'.NoRoom n)) after
      temporal_short n e = moved (Err (ReadRefusal'.NoRoom n)) e
