-- What the writer writes is UTF-8 where the value is: so reading it back meets neither 4 nor 6. Assumes nothing.
use mathlib.Core.Path.{◌≡◌, refl, ap, sym, ◌∙◌}
use mathlib.Core.Bool.{Bool, true, false, ◌&&◌}
use mathlib.Core.List.{List, [], ◌∷◌, ◌++◌}
use Prim.Native.Nat.{ℕ, ◌<◌}
use native.Mathlib.Omega.{arith}
use lib.Dec.{eqb}
use borrow.Author.Tests.{eqb-true}
use Rattle.meaning.specs.Bytes.{within, quote, backslash}
use Rattle.std.specs.Prelude.{if◌then◌else◌}
use Rattle.meaning.specs.Chars.{Due, broken, fresh, push, pushes, whole, utf8, lead}
use Rattle.meaning.specs.Writer.{spell, spells, literal}
use Rattle.laws.proofs.basics.Tests.{and_right}
use Rattle.laws.proofs.utf8.Utf8.{pushes_append, utf8_append, Good, push_good, low_lead, ascii_push, fresh_good}

pair_push : (d : Due) (a c b : ℕ) → Good d → a < 0x80 → c < 0x80 → b < 0x80 → push (push d a) c ≡ push d b
pair_push d a c b g ha hc hb =
    ap (λ (e : Due). push e c) (ascii_push d a g ha) ∙ go (whole d) ∙ sym (ascii_push d b g hb)
  where
    go : (x : Bool) → push (if x then fresh else broken) c ≡ (if x then fresh else broken)
    go true = low_lead c hc
    go false = refl

pub spell_push : (bs : Bool) (d : Due) (b : ℕ) → Good d → pushes d (spell bs b) ≡ push d b
unfolding spell
spell_push bs d b g = go (eqb b quote) (bs && eqb b backslash) (bs && eqb b 0) refl refl refl
  where
    is : (c : ℕ) → eqb b c ≡ true → b ≡ c
    is c e = eqb-true b c e

    go : (x y z : Bool) → eqb b quote ≡ x → (bs && eqb b backslash) ≡ y → (bs && eqb b 0) ≡ z → pushes d (spell bs b) ≡ push d b
    go true y z ex ey ez = rw ex (pair_push d quote quote b g (omega arith) (omega arith) (let e = is quote ex in omega arith))
    go false true z ex ey ez = rw (ex, ey) (pair_push d backslash backslash b g (omega arith) (omega arith)
        (let e = is backslash (and_right bs (eqb b backslash) ey) in omega arith))
    go false false true ex ey ez = rw (ex, ey, ez)
        (pair_push d backslash 48 b g (omega arith) (omega arith) (let e = is 0 (and_right bs (eqb b 0) ez) in omega arith))
    go false false false ex ey ez = rw (ex, ey, ez)

pub spells_push : (bs : Bool) (d : Due) (v : List ℕ) → Good d → pushes d (spells bs v) ≡ pushes d v
spells_push bs d [] g = refl
spells_push bs d (b ∷ v) g =
    pushes_append d (spell bs b) (spells bs v) ∙ ap (λ (e : Due). pushes e (spells bs v)) (spell_push bs d b g) ∙ spells_push bs (push d b) v (push_good d b g)

pub literal_utf8 : (bs : Bool) (v : List ℕ) → utf8 v ≡ true → utf8 (literal bs v) ≡ true
unfolding utf8 lead within
literal_utf8 bs v h = utf8_append (quote ∷ []) (spells bs v ++ (quote ∷ [])) one_q ∙ utf8_append (spells bs v) (quote ∷ []) (ap whole' (spells_push' bs v) ∙ h)
    ∙ one_q
  where
    one_q : utf8 (quote ∷ []) ≡ true
    one_q = refl

    whole' : Due → Bool
    whole' = whole

    spells_push' : (bs : Bool) (v : List ℕ) → pushes fresh (spells bs v) ≡ pushes fresh v
    spells_push' bs v = spells_push bs fresh v fresh_good
