-- UTF-8 AS STD HAS IT: the texts that the states of `Chars` accept are those that std calls UTF-8 (`utf8_std`). Both are the sequences of scalars' encodings,
-- and the two encodings of a number are one. Assumes nothing.
use Rattle.std.proofs.Common.{◌≡◌, ℕ, ◌+◌, ◌/◌, ◌%◌, ◌^◌, ◌<◌, ◌≤◌, ◌↔◌, Bool, true, false, not, ◌&&◌, length, ap, List, [], ◌∷◌, ◌++◌, refl, sym, ◌∙◌, subst, inl, inr, arith, lt-ltb, le-ltb, le-leb}
use Rattle.std.proofs.lemmas.Bool.{cases_lt, and_parts}
use Rattle.std.specs.Prelude.{IsTrue}
use Rattle.std.specs.Str.{IsUtf8}
use lib.Utf8.{scalar, scalars, scalar_cases, low_scalar, next, encode as std_encode, encodes as std_encodes}
use Rattle.meaning.specs.Bytes.{has}
use Rattle.leaves.specs.Blocks.{free_of, passes}
use Rattle.leaves.proofs.Scans.{nul_found}
use Rattle.meaning.specs.Chars.{utf8, more, encode, is_scalar}
use Rattle.laws.proofs.utf8.Encode.{is_scalar_yes, is_scalar_bounds}
use Rattle.laws.proofs.utf8.Sequences.{encodes, AllScalar, scalars_of_utf8, utf8_of_scalars}

one : (c : ℕ) → c < 128 → std_encode c ≡ encode c
unfolding std_encode encode more
one c h = let p : c ≡ 0 + c / 64 ^ 0 = omega arith in rw (lt-ltb c 128 h) (λ k. p k ∷ [])

two : (c : ℕ) → 128 ≤ c → c < 2048 → std_encode c ≡ encode c
unfolding std_encode encode more
two c l h =
    let p : 192 + c / 64 ≡ 0xC0 + c / 64 ^ 1 = omega arith in
    let q : next c ≡ 0x80 + c / 64 ^ 0 % 64 = omega arith in
    rw (le-ltb c 128 l, lt-ltb c 2048 h) (λ k. p k ∷ q k ∷ [])

three : (c : ℕ) → 2048 ≤ c → c < 65536 → std_encode c ≡ encode c
unfolding std_encode encode more
three c l h =
    let p : 224 + c / 4096 ≡ 0xE0 + c / 64 ^ 2 = omega arith in
    let q : next (c / 64) ≡ 0x80 + c / 64 ^ 1 % 64 = omega arith in
    let r : next c ≡ 0x80 + c / 64 ^ 0 % 64 = omega arith in
    rw (le-ltb c 128 (omega arith), le-ltb c 2048 l, lt-ltb c 65536 h) (λ k. p k ∷ q k ∷ r k ∷ [])

four : (c : ℕ) → 65536 ≤ c → std_encode c ≡ encode c
unfolding std_encode encode more
four c l =
    let p : 240 + c / 262144 ≡ 0xF0 + c / 64 ^ 3 = omega arith in
    let q : next (c / 4096) ≡ 0x80 + c / 64 ^ 2 % 64 = omega arith in
    let r : next (c / 64) ≡ 0x80 + c / 64 ^ 1 % 64 = omega arith in
    let s : next c ≡ 0x80 + c / 64 ^ 0 % 64 = omega arith in
    rw (le-ltb c 128 (omega arith), le-ltb c 2048 (omega arith), le-ltb c 65536 l) (λ k. p k ∷ q k ∷ r k ∷ s k ∷ [])

pub encode_std : (c : ℕ) → std_encode c ≡ encode c
encode_std c =
    elim (cases_lt c 128) [
      | inl a ↦ one c a
      | inr a ↦ elim (cases_lt c 2048) [ inl b ↦ two c a b | inr b ↦ elim (cases_lt c 65536) [ inl d ↦ three c b d | inr d ↦ four c d ] ]
    ]

encodes_std : (cs : List ℕ) → std_encodes cs ≡ encodes cs
encodes_std [] = refl
encodes_std (c ∷ cs) = λ k. encode_std c k ++ encodes_std cs k

high_scalar : (c : ℕ) → 57344 ≤ c → c < 1114112 → scalar c ≡ true
high_scalar c l h = rw (le-ltb c 55296 (omega arith), le-leb 57344 c l, lt-ltb c 1114112 h)

scalar_std : (c : ℕ) → is_scalar c ≡ true → scalar c ≡ true
scalar_std c h =
    let b = is_scalar_bounds c h in
    elim (cases_lt c 55296) [ inl l ↦ low_scalar c l | inr g ↦ let k = b.1 g in high_scalar c (omega arith) (omega (arith, b.0)) ]

std_scalar : (c : ℕ) → scalar c ≡ true → is_scalar c ≡ true
std_scalar c h =
    elim (scalar_cases c h) [ inl l ↦ is_scalar_yes c (omega arith) (λ g. absurd (omega arith)) | inr g ↦ is_scalar_yes c (omega arith) (λ l. omega arith) ]

scalars_std : (cs : List ℕ) → AllScalar cs → scalars cs ≡ true
scalars_std [] a = refl
scalars_std (c ∷ cs) a = rw (scalar_std c a.0) (scalars_std cs a.1)

std_scalars : (cs : List ℕ) → scalars cs ≡ true → AllScalar cs
std_scalars [] e = tt
std_scalars (c ∷ cs) e = let p = and_parts (scalar c) (scalars cs) e in (std_scalar c p.0, std_scalars cs p.1)

pub utf8_std : (t : List ℕ) → (utf8 t ≡ true) ↔ IsUtf8 t
utf8_std t = (
  λ h. (let s = scalars_of_utf8 t h in (s.0, (scalars_std s.0 s.1, encodes_std s.0 ∙ sym s.2))),
  λ u. subst (λ (x : List ℕ). utf8 x ≡ true) (sym (encodes_std u.0) ∙ u.1.1) (utf8_of_scalars u.0 (std_scalars u.0 u.1.0)),
)

-- the same where yes and no are told apart by a match
pub told_yes : (t : List ℕ) → IsUtf8 t → true ≡ utf8 t
told_yes t u = sym ((utf8_std t).1 u)

pub told_no : (t : List ℕ) → ¬ (IsUtf8 t) → false ≡ utf8 t
told_no t n = go (utf8 t) refl
  where
    go : (x : Bool) → utf8 t ≡ x → false ≡ utf8 t
    go true u = absurd (n ((utf8_std t).0 u))
    go false u = sym u

-- a text with no NUL, and one with
module _ (t : List ℕ) (x : Bool) (e : x ≡ passes (free_of (record { first = 0; second = 0; third = 0 })) (length t) t) where
  kept : (y : Bool) → not (not y) ≡ y
  kept true = refl
  kept false = refl

  pub clean_short : (r : Bool) → r ≡ utf8 t → r ≡ true → x ≡ (utf8 t && not (has 0 t))
  clean_short r u h = rw (sym u ∙ h) (sym (ap not (sym (nul_found t x e)) ∙ kept x))
