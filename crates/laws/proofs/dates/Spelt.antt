-- [02 T-05] "exactly ten bytes, yyyy-mm-dd": a value is accepted exactly if it is the ten bytes of a day, as that day (`spelled_date`, `date_spelled`); and no
-- two days have the same bytes (`spelled_same`). Assumes nothing.
use mathlib.Core.Path.{◌≡◌, refl, ap, sym, ◌∙◌, subst}
use mathlib.Core.Bool.{Bool, true, false, ◌&&◌}
use mathlib.Core.List.{List, [], ◌∷◌, ◌++◌, append-nil}
use Prim.Native.Nat.{ℕ, zero, suc, ◌+◌, ◌-◌, ◌*◌, ◌/◌, ◌^◌, ◌≤◌, ◌<◌}
use Prim.Native.Char.{code}
use native.Mathlib.Nat.{pow-zero, pow-suc, div-one, div-div-eq-div-mul}
use native.Mathlib.Omega.{arith}
use borrow.Author.Tests.{lt-ltb, eqb-true, ne_eqb}
use lib.Arith.{digits_div, digits_mod}
use lib.Dec.{eqb}
use lib.ListN.{length, take, drop, length-drop, take-append-drop}
use lib.Seq.{take_all, drop-cons, drop-drop, length-take-le}
use Rattle.meaning.specs.declared.CalendarDay.{CalendarDay}
use Rattle.meaning.specs.Bytes.{◌!◌, part, has, within, digit, number, all_digits}
use Rattle.std.specs.Prelude.{if◌then◌else◌}
use Rattle.meaning.specs.Forms.{figure, figures}
use Rattle.meaning.specs.Dates.{is_leap, month_length, is_day, calendar_day, digits_in, is_ten_bytes, is_date, spelled_day, day_in}
use Rattle.laws.proofs.basics.Digits.{DigitsTo, all_digits_at}
use Rattle.laws.proofs.basics.Tests.{and_left, and_right, eqb_same, within_bounds}
use Rattle.laws.proofs.dates.Calendar.{is_day_lem}
use Rattle.laws.proofs.basics.Enclosed.{has_append}
use Rattle.laws.proofs.writing.FormUnits.{Every}
use Rattle.laws.proofs.writing.Figures.{figures_bytes, figures_length, figures_digits, figures_number}
use Rattle.std.specs.Prelude.{Some, None}

-- WHAT A DAY'S NUMBERS ARE. A month has 31 days at the most
month_most : (y m : ℕ) → month_length y m ≤ 31
unfolding month_length
month_most y m = go (eqb m 2) (is_leap y) (has m (4 ∷ 6 ∷ 9 ∷ 11 ∷ []))
  where
    go : (x y z : Bool) → (if x then (if y then 29 else 28) else if z then 30 else 31) ≤ 31
    go true true z = omega arith
    go true false z = omega arith
    go false y true = omega arith
    go false y false = omega arith

-- so they fit four digits, two and two
pub record Fitting (y m d : ℕ) : Type 0 where
  pub year : y < 10 ^ 4
  pub month : m < 10 ^ 2
  pub day : d < 10 ^ 2

pub day_fits : (y m d : ℕ) → is_day y m d ≡ true → Fitting y m d
day_fits y m d h =
    let a = is_day_lem h in
    record { year = omega (arith, a.last_year); month = omega (arith, a.last_month); day = omega (arith, a.last_day, month_most y m) }

-- FIGURES of base ten, read and printed again. A digit below ten has one byte only
pub decimal_byte : (b : ℕ) → digit b < 10 → code "0" + digit b ≡ b
unfolding digit
decimal_byte b h = go (within 48 57 b) (within 65 70 b) (within 97 102 b) refl refl refl h
  where
    go : (x y z : Bool) → within 48 57 b ≡ x → within 65 70 b ≡ y → within 97 102 b ≡ z
        → (if x then b - 48 else if y then b - 55 else if z then b - 87 else 16) < 10
        → 48 + (if x then b - 48 else if y then b - 55 else if z then b - 87 else 16) ≡ b
    go true y z e f g h = let k = within_bounds 48 57 b e in omega arith
    go false true z e f g h = let k = within_bounds 65 70 b f in absurd (omega arith)
    go false false true e f g h = let k = within_bounds 97 102 b g in absurd (omega arith)
    go false false false e f g h = absurd (omega arith)

figure_of : (b : ℕ) → digit b < 10 → figure (digit b) ≡ b
unfolding figure
figure_of b h = rw (lt-ltb (digit b) 10 h) (decimal_byte b h)

-- w digits behind v leave v as what stands above them
number_above : (w v : ℕ) (t : List ℕ) → w ≤ length t → DigitsTo 10 w t → number 10 w v t / 10 ^ w ≡ v
number_above zero v t h all = rw (pow-zero 10) (div-one v)
number_above (suc w) v [] h all = absurd (omega arith)
number_above (suc w) v (b ∷ t) h all =
    rw (
      pow-suc 10 w,
      ← div-div-eq-div-mul (number 10 w (v * 10 + digit b) t) (10 ^ w) 10,
      number_above w (v * 10 + digit b) t (omega arith) (λ i k. all (suc i) (omega arith)),
    )
    (digits_div v (all 0 (omega arith)))

number_figures : (v : ℕ) (t : List ℕ) → DigitsTo 10 (length t) t → figures 10 (length t) (number 10 (length t) v t) ≡ t
number_figures v [] all = refl
number_figures v (b ∷ t) all =
    let d : digit b < 10 = all 0 (omega arith) in
    let rest : DigitsTo 10 (length t) t = λ i k. all (suc i) (omega arith) in
    rw (number_above (length t) (v * 10 + digit b) t (omega arith) rest, digits_mod v d, figure_of b d)
    (ap (b ∷◌) (number_figures (v * 10 + digit b) t rest))

pub digits_figures : (t : List ℕ) → all_digits 10 t ≡ true → figures 10 (length t) (number 10 (length t) 0 t) ≡ t
digits_figures t h = number_figures 0 t (all_digits_at 10 t h)

-- and the other way: they are digits, and make the number
pub figures_all : (w c : ℕ) → all_digits 10 (figures 10 w c) ≡ true
unfolding all_digits
figures_all w c =
    let n = figures_digits 10 w c [] (omega arith) (omega arith) in
    rw (figures_length 10 w c, rw (append-nil (figures 10 w c)) at n) (eqb_same w)

pub figures_make : (w c : ℕ) → c < 10 ^ w → number 10 w 0 (figures 10 w c) ≡ c
figures_make w c h = rw (append-nil (figures 10 w c)) at (figures_number 10 w c [] (omega arith) (omega arith) h)

-- TEN BYTES
pub spelled_length : (y m d : ℕ) → length (spelled_day y m d) ≡ 10
unfolding spelled_day
spelled_length y m d = refl

spelled_ten : (y m d : ℕ) → is_ten_bytes (spelled_day y m d) ≡ true
unfolding is_ten_bytes spelled_day
spelled_ten y m d = rw (figures_all 4 y, figures_all 2 m, figures_all 2 d)

-- what its digits make
spelled_digits : (y m d : ℕ) → Fitting y m d
    → (digits_in 0 4 (spelled_day y m d) ≡ y) × (digits_in 5 7 (spelled_day y m d) ≡ m) × (digits_in 8 10 (spelled_day y m d) ≡ d)
unfolding spelled_day
spelled_digits y m d f = (figures_make 4 y f.year, figures_make 2 m f.month, figures_make 2 d f.day)

-- a value of ten bytes, cut at its fifth and its eighth
ten_parts : (v : List ℕ) → length v ≡ 10 → v ≡ part 0 4 v ++ (v ! 4 ∷ part 5 7 v ++ (v ! 7 ∷ part 8 10 v))
ten_parts v n =
    sym (take-append-drop 4 v)
    ∙ ap (take 4 v ++◌)
    (drop-cons v 4 0 (omega arith)
    ∙ ap (v ! 4 ∷◌)
    (sym (take-append-drop 2 (drop 5 v))
    ∙ ap (take 2 (drop 5 v) ++◌)
    (drop-drop 2 5 v ∙ drop-cons v 7 0 (omega arith) ∙ ap (v ! 7 ∷◌) (sym (take_all 2 (drop 8 v) (omega (arith, length-drop 8 v)))))))

figures_part : (f u : ℕ) (v : List ℕ) → u ≤ length v → all_digits 10 (part f u v) ≡ true → figures 10 (u - f) (digits_in f u v) ≡ part f u v
figures_part f u v h a =
    let n : length (part f u v) ≡ u - f = length-take-le (u - f) (drop f v) (omega (arith, length-drop f v)) in
    subst (λ (k : ℕ). figures 10 k (number 10 k 0 (part f u v)) ≡ part f u v) n (digits_figures (part f u v) a)

-- what the test of ten bytes says
record TenBytes (v : List ℕ) : Type 0 where
  ten : length v ≡ 10
  year : all_digits 10 (part 0 4 v) ≡ true
  dash : v ! 4 ≡ code "-"
  month : all_digits 10 (part 5 7 v) ≡ true
  dash' : v ! 7 ≡ code "-"
  day : all_digits 10 (part 8 10 v) ≡ true

ten_bytes : (v : List ℕ) → is_ten_bytes v ≡ true → TenBytes v
unfolding is_ten_bytes
ten_bytes v h =
    let a : Bool = eqb (length v) 10 in
    let b : Bool = a && all_digits 10 (part 0 4 v) in
    let c : Bool = b && eqb (v ! 4) (code "-") in
    let d : Bool = c && all_digits 10 (part 5 7 v) in
    let e : Bool = d && eqb (v ! 7) (code "-") in
    let he = and_left e (all_digits 10 (part 8 10 v)) h in
    let hd = and_left d (eqb (v ! 7) (code "-")) he in
    let hc = and_left c (all_digits 10 (part 5 7 v)) hd in
    let hb = and_left b (eqb (v ! 4) (code "-")) hc in
    record {
      ten = eqb-true (length v) 10 (and_left a (all_digits 10 (part 0 4 v)) hb);
      year = and_right a (all_digits 10 (part 0 4 v)) hb;
      dash = eqb-true (v ! 4) (code "-") (and_right b (eqb (v ! 4) (code "-")) hc);
      month = and_right c (all_digits 10 (part 5 7 v)) hd;
      dash' = eqb-true (v ! 7) (code "-") (and_right d (eqb (v ! 7) (code "-")) he);
      day = and_right e (all_digits 10 (part 8 10 v)) h;
    }

-- such a value is its digits, printed
dashed : (a b c a' b' c' : List ℕ) (p q : ℕ) → a' ≡ a → p ≡ code "-" → b' ≡ b → q ≡ code "-" → c' ≡ c
    → a ++ (p ∷ b ++ (q ∷ c)) ≡ a' ++ (code "-" ∷ b' ++ (code "-" ∷ c'))
dashed a b c a' b' c' p q year dash month dash' day = rw (year, dash, month, dash', day)

ten_spelled : (v : List ℕ) → TenBytes v → v ≡ spelled_day (digits_in 0 4 v) (digits_in 5 7 v) (digits_in 8 10 v)
unfolding spelled_day
ten_spelled v t =
    let n : length v ≡ 10 = t.ten in
    ten_parts v n
    ∙ dashed (part 0 4 v) (part 5 7 v) (part 8 10 v) _ _ _ (v ! 4) (v ! 7) (figures_part 0 4 v (omega arith) t.year) t.dash
    (figures_part 5 7 v (omega arith) t.month) t.dash' (figures_part 8 10 v (omega arith) t.day)

-- DATES have ten bytes
pub date_length : (v : List ℕ) → is_date v ≡ true → length v ≡ 10
unfolding is_date
date_length v h = (ten_bytes v (and_left (is_ten_bytes v) (is_day (digits_in 0 4 v) (digits_in 5 7 v) (digits_in 8 10 v)) h)).ten

-- what is no date is no day
pub no_date : (v : List ℕ) → is_date v ≡ false → day_in v ≡ None
unfolding day_in
no_date v h = rw h

pub no_day_lem : (v : List ℕ) → day_in v ≡ None → is_date v ≡ false
unfolding day_in
no_day_lem v h = go (is_date v) _ h
  where
    go : (x : Bool) (k : CalendarDay) → (if x then Some k else None) ≡ None → x ≡ false
    go true k e = let z : ◌≡◌ {A = ℕ} 0 1 = cc in absurd (omega arith)
    go false k e = refl

-- so any value of another length
pub other_length : (v : List ℕ) → (length v ≡ 10 → ⊥) → day_in v ≡ None
other_length v h = go (is_date v) refl
  where
    go : (x : Bool) → is_date v ≡ x → day_in v ≡ None
    go true e = absurd (h (date_length v e))
    go false e = no_date v e

-- the ten bytes of a day are accepted, as that day
pub spelled_date : (y m d : ℕ) → is_day y m d ≡ true → day_in (spelled_day y m d) ≡ Some (calendar_day y m d)
unfolding day_in is_date
spelled_date y m d h =
    let s = spelled_digits y m d (day_fits y m d h) in
    rw (spelled_ten y m d, s.0, s.1, s.2, h)

-- and what is accepted is the ten bytes of the day that it is accepted as
day_by : (x : Bool) (c k : CalendarDay) → (if x then Some k else None) ≡ Some c → (x ≡ true) × (c ≡ k)
day_by true c k e = (refl, cc)
day_by false c k e = let z : ◌≡◌ {A = ℕ} 0 1 = cc in absurd (omega arith)

pub date_spelled : (v : List ℕ) (c : CalendarDay) → day_in v ≡ Some c
    → (is_day c.year c.month c.day ≡ true)
    × (v ≡ spelled_day c.year c.month c.day)
    × (c ≡ calendar_day c.year c.month c.day)
unfolding day_in is_date calendar_day
date_spelled v c h =
    let k : CalendarDay = calendar_day (digits_in 0 4 v) (digits_in 5 7 v) (digits_in 8 10 v) in
    let ten = is_ten_bytes v in
    let day = is_day (digits_in 0 4 v) (digits_in 5 7 v) (digits_in 8 10 v) in
    let w = day_by (is_date v) c k h in
    rw w.1 (and_right ten day w.0, ten_spelled v (ten_bytes v (and_left ten day w.0)), refl)

-- no two days have the same bytes
pub spelled_same : (y m d y' m' d' : ℕ) → is_day y m d ≡ true → is_day y' m' d' ≡ true → spelled_day y m d ≡ spelled_day y' m' d'
    → (y ≡ y') × (m ≡ m') × (d ≡ d')
unfolding calendar_day
spelled_same y m d y' m' d' h h' e =
    let on : Some (calendar_day y m d) ≡ Some (calendar_day y' m' d') = sym (spelled_date y m d h) ∙ ap day_in e ∙ spelled_date y' m' d' h' in
    let same : calendar_day y m d ≡ calendar_day y' m' d' = cc in
    (ap (λ (c : CalendarDay). c.year) same, ap (λ (c : CalendarDay). c.month) same, ap (λ (c : CalendarDay). c.day) same)

-- NO OTHER BYTE than figures and hyphens is in it
low_none : (b : ℕ) (t : List ℕ) → b < 0x30 → Every (within 0x30 0x46) t → has b t ≡ false
low_none b [] h e = refl
low_none b (c ∷ t) h e =
    rw (ne_eqb b c (λ q. let o : ⊥ = omega (arith, q, within_bounds 0x30 0x46 c e.0) in o)) (low_none b t h e.1)

three_none : (b : ℕ) (u v w : List ℕ) → eqb b (code "-") ≡ false → has b u ≡ false → has b v ≡ false → has b w ≡ false
    → has b (u ++ (code "-" ∷ v ++ (code "-" ∷ w))) ≡ false
three_none b u v w h p q r = rw (has_append b u (code "-" ∷ v ++ (code "-" ∷ w)), p, h, has_append b v (code "-" ∷ w), q, h, r)

pub spelled_free : (b y m d : ℕ) → b < code "-" → has b (spelled_day y m d) ≡ false
unfolding spelled_day
spelled_free b y m d h =
    three_none b (figures 10 4 y) (figures 10 2 m) (figures 10 2 d) (ne_eqb b (code "-") (λ q. let o : ⊥ = omega (arith, q) in o)) (none 4 y) (none 2 m) (none 2 d)
  where
    none : (w c : ℕ) → has b (figures 10 w c) ≡ false
    none w c = low_none b (figures 10 w c) (omega arith) (figures_bytes 10 w c (omega arith) (omega arith))
