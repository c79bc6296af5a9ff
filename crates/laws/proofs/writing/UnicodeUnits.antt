-- [02 T-01] U&: each character of a UTF-8 value without NUL is a unit, by its number where it is not visible ASCII. Assumes nothing.
use mathlib.Core.Path.{◌≡◌, refl, sym, ◌∙◌}
use mathlib.Core.Bool.{Bool, true, false, ◌&&◌, ◌||◌, and-false, false≢true}
use mathlib.Core.List.{List, [], ◌∷◌, ◌++◌}
use Prim.Native.Nat.{ℕ, zero, suc, ◌+◌, ◌-◌, ◌/◌, ◌%◌, ◌^◌, ◌≤◌, ◌<◌}
use Prim.Native.Char.{code}
use native.Mathlib.Omega.{arith}
use lib.Dec.{eqb, leb, ltb}
use lib.ListN.{length}
use borrow.Author.Tests.{leb-true, leb-false, le-leb, lt-leb, lt-ltb, le-ltb, ltb-true, ne_eqb}
use Rattle.meaning.specs.declared.Form.TheVariants.{Unicode}
use Rattle.meaning.specs.Bytes.{has, within, quote, backslash, digits, number}
use Rattle.std.specs.Prelude.{if◌then◌else◌}
use Rattle.meaning.specs.Chars.{due, lead, base, later, more, encode, is_scalar, gather, utf8}
use Rattle.meaning.specs.Walk.{Step, keep, give, after, walk, value}
use Rattle.meaning.specs.Steps.{may_escape, scalar_by, uescaped}
use Rattle.meaning.specs.Forms.{figure, figures, is_doubled, unicode_figures, form_step}
use Rattle.laws.proofs.basics.Tests.{within_yes, within_above, within_bounds, eqb_same, eqb_sym, or_left, or_right}
use Rattle.laws.proofs.utf8.Utf8.{low_lead}
use Rattle.laws.proofs.utf8.Encode.{AsDue, gather_append, encode_decodes, encode_utf8, later_length, is_scalar_bounds}
use Rattle.laws.proofs.utf8.Sequences.{encodes, AllScalar, scalars_of_utf8, utf8_begins}
use Rattle.laws.proofs.basics.Enclosed.{has_append}
use Rattle.laws.proofs.walking.Walks.{walk_skip}
use Rattle.laws.proofs.walking.StepBounds.{encode_most}
use Rattle.laws.proofs.writing.FormUnits.{form_cost, form_costs, Spelled, Units, over, itself, spelled}
use Rattle.laws.proofs.writing.Figures.{figures_digits, figures_number, figures_bytes}
use Rattle.laws.proofs.writing.Spellings.{figure_apart, escape_spelled, twice}

-- a high byte is neither doubled nor visible
high_once : (b : ℕ) → 0x80 ≤ b → is_doubled b ≡ false
unfolding is_doubled
high_once b h = rw (ne_eqb b backslash (λ e. omega arith), ne_eqb b quote (λ e. omega arith))

-- HOW LONG. A later byte costs nothing; the first, by the length of the character
high_cost : (b : ℕ) → 0x80 ≤ b → form_cost Unicode b ≡ (if within 0x80 0xBF b then 0 else if leb 0xF0 b then 8 else 5)
unfolding form_cost
high_cost b h = rw (high_once b h, within_above 0x20 0x7E b (omega arith))

later_costs : (n c : ℕ) → form_costs Unicode (later n c) ≡ 0
later_costs zero c = refl
later_costs (suc n) c =
    let b = 0x80 + c / 64 ^ n % 64 in
    rw (high_cost b (omega arith), within_yes 0x80 0xBF b (omega arith) (omega arith)) (omega (arith, later_costs n c))

-- the first byte of a character
abbrev first : ℕ → ℕ
first c = base (more c) + c / 64 ^ more c

encode_first : (c b : ℕ) (t : List ℕ) → encode c ≡ b ∷ t → first c ≡ b
unfolding encode
encode_first c b t e = cc

first_low_lem : (c : ℕ) → c ≤ 0xFFFF → first c < 0xF0
unfolding more
first_low_lem c h = go (ltb c 0x80) (ltb c 0x800) refl refl
  where
    go : (x y : Bool) → ltb c 0x80 ≡ x → ltb c 0x800 ≡ y
        → base (if x then 0 else if y then 1 else if ltb c 0x10000 then 2 else 3)
        + c / 64 ^ (if x then 0 else if y then 1 else if ltb c 0x10000 then 2 else 3) < 0xF0
    go true y ex ey = let l = ltb-true c 0x80 ex in omega arith
    go false true ex ey = let l = ltb-true c 0x800 ey in omega arith
    go false false ex ey = rw (lt-ltb c 0x10000 (omega arith)) (omega arith)

more_high : (c : ℕ) → 0xFFFF < c → more c ≡ 3
unfolding more
more_high c h = rw (le-ltb c 0x80 (omega arith), le-ltb c 0x800 (omega arith), le-ltb c 0x10000 (omega arith))

-- READING. Digits of a scalar's number are read as the scalar
scalar_read : (w n c : ℕ) (r : List ℕ) → is_scalar c ≡ true → 0 < c → c < 16 ^ w → scalar_by w n (figures 16 w c ++ r) ≡ give n (encode c)
unfolding scalar_by may_escape
scalar_read w n c r s some fits =
    rw (figures_digits 16 w c r (omega arith) (omega arith), figures_number 16 w c r (omega arith) (omega arith) fits, eqb_same w, lt-ltb 0 c some, s)

-- a scalar is no half
whole_scalar : (c : ℕ) → is_scalar c ≡ true → within 0xD800 0xDBFF c ≡ false
whole_scalar c s = go (within 0xD800 0xDBFF c) refl
  where
    go : (x : Bool) → within 0xD800 0xDBFF c ≡ x → x ≡ false
    go true w = let k = within_bounds 0xD800 0xDBFF c w in let l = (is_scalar_bounds c s).1 k.0 in absurd (omega arith)
    go false w = refl

-- what is left where three tests fail
fourth : (x y z : Bool) (s t u v : Step) → x ≡ false → y ≡ false → z ≡ false → (if x then s else if y then t else if z then u else v) ≡ v
fourth x y z s t u v ex ey ez = rw (ex, ey, ez)

module _ (c : ℕ) (s : is_scalar c ≡ true) (some : 0 < c) where
  four_read : (r : List ℕ) → c ≤ 0xFFFF → uescaped (backslash ∷ []) (figures 16 4 c ++ r) ≡ give 4 (encode c)
  unfolding uescaped
  four_read r h =
      let t = figures 16 4 c ++ r in
      let d = figure (c / 16 ^ 3 % 16) in
      let a = (figures_bytes 16 4 c (omega arith) (omega arith)).0 in
      let n = figures_number 16 4 c r (omega arith) (omega arith) (omega arith) in
      fourth (eqb backslash d && true) (eqb d (code "+")) (eqb (digits 16 4 t) 4 && within 0xD800 0xDBFF (number 16 4 0 t)) _ _ _ _
      (rw (eqb_sym backslash d, figure_apart d backslash a (λ h. omega arith)))
      (figure_apart d (code "+") a (λ h. omega arith))
      (rw (n, whole_scalar c s) (and-false (eqb (digits 16 4 t) 4)))
      ∙ scalar_read 4 4 c r s some (omega arith)

  six_read : (r : List ℕ) → uescaped (backslash ∷ []) (code "+" ∷ (figures 16 6 c ++ r)) ≡ give 7 (encode c)
  unfolding uescaped
  six_read r = let k = (is_scalar_bounds c s).0 in scalar_read 6 7 c r s some (omega arith)

  -- A CHARACTER by its number
  number_spelled : is_doubled (first c) ≡ false → within 0x20 0x7E (first c) ≡ false → Spelled Unicode (encode c) (unicode_figures c)
  unfolding encode unicode_figures form_cost within
  number_spelled once hidden = go (leb c 0xFFFF) refl
    where
      front : within 0x80 0xBF (first c) ≡ false
      front = utf8_begins (encode c) (encode_utf8 c s)

      go : (x : Bool) → leb c 0xFFFF ≡ x → Spelled Unicode (encode c) (if x then backslash ∷ figures 16 4 c else backslash ∷ code "+" ∷ figures 16 6 c)
      go true e =
          let h = leb-true c 0xFFFF e in
          let d = figure (c / 16 ^ 3 % 16) in
          let a = figures_bytes 16 4 c (omega arith) (omega arith) in
          let k = within_bounds 0x30 0x46 d a.0 in
          let l = later_length (more c) c in
          let m = encode_most c in
          escape_spelled Unicode (first c) (later (more c) c) d (figures 16 3 c) (λ r. four_read r h)
          (within_yes 0x20 0x7E d (omega arith) (omega arith)) (figure_apart d quote a.0 (λ h. omega arith)) a.1 (encode_utf8 c s) (omega arith)
          (rw (once, hidden, front, lt-leb 0xF0 (first c) (first_low_lem c h)) (omega (arith, later_costs (more c) c))) (omega arith)
      go false e =
          let h = leb-false c 0xFFFF e in
          let l = later_length (more c) c in
          let m = encode_most c in
          let n = more_high c h in
          let b : 0xF0 ≤ first c = rw n (omega arith) in
          escape_spelled Unicode (first c) (later (more c) c) (code "+") (figures 16 6 c) six_read
          refl refl (figures_bytes 16 6 c (omega arith) (omega arith)) (encode_utf8 c s) (omega arith)
          (rw (once, hidden, front, le-leb 0xF0 (first c) b) (omega (arith, later_costs (more c) c))) (omega arith)

-- an ASCII byte is a character alone
nothing : (t : List ℕ) → length t ≡ 0 → t ≡ []
nothing [] e = refl
nothing (b ∷ t) e = absurd (omega arith)

alone : (b n lo hi : ℕ) (t : List ℕ) → lead b ≡ due n lo hi → length t ≡ n → within 0x20 0x7E b ≡ true → t ≡ []
alone b n lo hi t e l w =
    let k = within_bounds 0x20 0x7E b w in
    let f = low_lead b (omega arith) in
    let z : n ≡ 0 = cc in
    nothing t (l ∙ z)

abbrev written : List ℕ → List ℕ
written v = value (walk (form_step Unicode) 0 v)

-- A CHARACTER, whatever follows
unicode_unit : (c : ℕ) (r : List ℕ) → is_scalar c ≡ true → 0 < c → Units Unicode r (written r) → Units Unicode (encode c ++ r) (written (encode c ++ r))
unicode_unit c r s some ih =
    let d = encode_decodes c s in
    rw d.spelled (character d.b d.n d.lo d.hi d.t d.spelled d.begins d.as_due d.sized d.value)
  where
    character : (b n lo hi : ℕ) (t : List ℕ) → encode c ≡ b ∷ t → lead b ≡ due n lo hi → AsDue n lo hi t → length t ≡ n → gather n lo hi (b - base n) t ≡ c
        → Units Unicode (b ∷ (t ++ r)) (written (b ∷ (t ++ r)))
    character b n lo hi t e f a l v =
        rw (f, gather_append n lo hi (b - base n) t r a, v) (go (is_doubled b) (within 0x20 0x7E b) refl refl)
      where
        go : (x y : Bool) → is_doubled b ≡ x → within 0x20 0x7E b ≡ y
            → Units Unicode (b ∷ (t ++ r))
            (value (after (if x then give 0 (b ∷ b ∷ []) else if y then keep else give n (unicode_figures c)) b (λ n. walk (form_step Unicode) n (t ++ r))))
        go true y ex ey =
            let z = twice Unicode b ex in
            rw (alone b n lo hi t f l z.visible.0) (spelled z ih)
        go false true ex ey = rw (alone b n lo hi t f l ey) (itself (record { visible = ey; single = ex }) ih)
        go false false ex ey =
            let z = encode_first c b t e in
            let q : Spelled Unicode (b ∷ t) (unicode_figures c) = rw e at (number_spelled c s some (rw z ex) (rw z ey)) in
            rw (← l, walk_skip (form_step Unicode) t r) (spelled q ih)

-- the only character with the number 0 is NUL
not_nul : (c : ℕ) → has 0 (encode c) ≡ false → 0 < c
unfolding encode more
not_nul zero h = absurd (false≢true (sym h))
not_nul (suc c) h = omega arith

-- A VALUE
scalars_units : (cs : List ℕ) → AllScalar cs → has 0 (encodes cs) ≡ false → Units Unicode (encodes cs) (written (encodes cs))
scalars_units [] a h = over
scalars_units (c ∷ cs) a h =
    let k : (has 0 (encode c) || has 0 (encodes cs)) ≡ false = sym (has_append 0 (encode c) (encodes cs)) ∙ h in
    unicode_unit c (encodes cs) a.0 (not_nul c (or_left (has 0 (encode c)) (has 0 (encodes cs)) k))
    (scalars_units cs a.1 (or_right (has 0 (encode c)) (has 0 (encodes cs)) k))

pub unicode_units : (v : List ℕ) → utf8 v ≡ true → has 0 v ≡ false → Units Unicode v (written v)
unicode_units v valid h = let k = scalars_of_utf8 v valid in rw k.2 (scalars_units k.0 k.1 (rw k.2 at h))
