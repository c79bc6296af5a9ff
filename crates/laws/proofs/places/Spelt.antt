-- What the spelling of a segment says of its body: a standard body's mark is one, an E body stands between quotes, and an escape character is legal.
-- Assumes nothing.
use mathlib.Core.Path.{◌≡◌, refl}
use mathlib.Core.Bool.{Bool, true, false, ◌&&◌}
use mathlib.Core.List.{List, [], ◌∷◌, map}
use Prim.Native.Nat.{ℕ, zero, suc, ◌+◌, ◌-◌, ◌<◌}
use Prim.Native.Char.{code}
use native.Mathlib.Omega.{arith}
use lib.Dec.{eqb, leb, ltb}
use lib.ListN.{length, take, drop}
use borrow.Author.Tests.{eqb-true, ltb-true}
use Rattle.meaning.specs.Bytes.{◌!◌, part, ascii, has, same, quote, dquote, within, is_mark, digit}
use Rattle.std.specs.Prelude.{if◌then◌else◌}
use Rattle.meaning.specs.Chars.{lead, is_space}
use Rattle.meaning.specs.Walk.{Trace, walk, size, stops}
use Rattle.meaning.specs.Steps.{closing_step, trim}
use Rattle.meaning.specs.Cutting.{opening}
use Rattle.meaning.specs.Spelling.{Spelling, standard, escape, unicode, dollar, unspelt, encloses, legal_escape, argument, upper, chosen, unicode_by}
use Rattle.meaning.specs.Spelling.{closed_unicode, is_unicode, unicode_spelling, delimiter, dollar_by, spelling}
use Rattle.laws.proofs.basics.Tests.{and_left, and_right}
use Rattle.laws.proofs.cutting.Openings.{opening_mark}
use Rattle.laws.proofs.cutting.Arguments.{argument_inner}

abbrev pub Spelt : List ℕ → Spelling → Type 0
Spelt t (standard q f u) = is_mark q ≡ true
Spelt t (escape f u) = (f ≡ 2) × (t ! 1 ≡ quote) × (t ! u ≡ quote)
Spelt t (unicode e f u) = legal_escape e ≡ true
Spelt t (dollar f u) = Unit {0}
Spelt t unspelt = Unit {0}

pick : (t : List ℕ) (x : Bool) (a b : Spelling) → (x ≡ true → Spelt t a) → Spelt t b → Spelt t (if x then a else b)
pick t true a b f g = f refl
pick t false a b f g = g

escape_spelt : (t : List ℕ) → encloses 1 quote t ≡ true → Spelt t (escape 2 (length t - 1))
unfolding encloses
escape_spelt t h =
    let k = and_left (ltb 2 (length t) && eqb (t ! 1) quote) (eqb (t ! (length t - 1)) quote) h in
    let l = and_right (ltb 2 (length t) && eqb (t ! 1) quote) (eqb (t ! (length t - 1)) quote) h in
    (refl, eqb-true (t ! 1) quote (and_right (ltb 2 (length t)) (eqb (t ! 1) quote) k), eqb-true (t ! (length t - 1)) quote l)

charset_spelt : (t : List ℕ) → (eqb (t ! 0) (code "_") && ltb 0 (opening t) && encloses (opening t - 1) (t ! (opening t - 1)) t) ≡ true
    → is_mark (t ! (opening t - 1)) ≡ true
charset_spelt t h = go (opening t) refl (ltb-true 0 (opening t) some)
  where
    go : (n : ℕ) → opening t ≡ n → 0 < n → is_mark (t ! (n - 1)) ≡ true
    go zero e l = absurd (omega arith)
    go (suc n) e l = let j : suc n - 1 ≡ n = omega arith in rw j (opening_mark t n e)

    some : ltb 0 (opening t) ≡ true
    some =
        and_right (eqb (t ! 0) (code "_")) (ltb 0 (opening t))
        (and_left (eqb (t ! 0) (code "_") && ltb 0 (opening t)) (encloses (opening t - 1) (t ! (opening t - 1)) t) h)

-- an escape character that is chosen is legal
abbrev LegalIf : List ℕ → Type 0
LegalIf [] = Unit {0}
LegalIf (b ∷ e) = legal_escape (b ∷ e) ≡ true

legal_if : (x : Bool) (p : List ℕ) → LegalIf (if x && legal_escape p then p else [])
legal_if false p = tt
legal_if true p = go (legal_escape p) p refl
  where
    go : (y : Bool) (p : List ℕ) → legal_escape p ≡ y → LegalIf (if y then p else [])
    go true [] h = tt
    go true (c ∷ e) h = h
    go false p h = tt

chosen_legal : (v : List ℕ) → LegalIf (chosen v)
unfolding lead within digit is_space
chosen_legal [] = refl
chosen_legal (b ∷ t) = go (same (map upper (take 7 (b ∷ t))) (ascii "UESCAPE"))
  where
    a : List ℕ
    a = trim (drop 7 (b ∷ t))

    go : (x : Bool) → LegalIf (if x then argument a else [])
    go true = rw (argument_inner a) (legal_if (encloses 0 quote a) (part 1 (length a - 1) a))
    go false = tt

unicode_spelt : (q : ℕ) (t : List ℕ) → Spelt t (unicode_spelling q t)
unfolding unicode_spelling
unicode_spelt q t =
    pick t (is_unicode q t) (closed_unicode t r) unspelt
    (λ _. pick t (stops r) (unicode_by (chosen v) (3 + size r)) unspelt (λ _. by (chosen v) (chosen_legal v)) tt) tt
  where
    r : Trace
    r = walk (closing_step false q) 0 (drop 3 t)

    v : List ℕ
    v = trim (drop (4 + size r) t)

    by : (e : List ℕ) → LegalIf e → Spelt t (unicode_by e (3 + size r))
    by [] h = tt
    by (b ∷ e) h = h

dollar_spelt : (t : List ℕ) (n : ℕ) → Spelt t (dollar_by t n)
dollar_spelt t zero = tt
dollar_spelt t (suc n) =
    pick t (leb (suc n + suc n) (length t) && same (take (suc n) t) (drop (length t - suc n) t)) (dollar (suc n) (length t - suc n)) unspelt (λ _. tt) tt

pub spelling_spelt : (t : List ℕ) → Spelt t (spelling t)
unfolding spelling is_mark
spelling_spelt t =
    pick t (encloses 0 quote t) _ _ (λ _. refl)
    (pick t (encloses 0 dquote t) _ _ (λ _. refl)
    (pick t _ _ _ (λ h. escape_spelt t (and_right (has (t ! 0) (ascii "Ee")) (encloses 1 quote t) h))
    (pick t (has (t ! 0) (ascii "Nn") && encloses 1 quote t) _ _ (λ _. refl)
    (pick t _ _ _ (charset_spelt t)
    (pick t (is_unicode quote t) _ _ (λ _. unicode_spelt quote t) (dollar_spelt t (delimiter t)))))))
