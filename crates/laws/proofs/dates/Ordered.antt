-- [02 T-05] "later dates have larger numbers", of what is answered: of two literals, the one with the smaller number is the earlier day (`date_order`). And the
-- ten bytes of an earlier day are the smaller ones, byte by byte (`earlier_below`). Assumes nothing.
use Rattle.std.specs.Prelude.{Ok}
use mathlib.Core.Logic.{◌⊎◌, inl, inr, ◌↔◌}
use mathlib.Core.Path.{◌≡◌, refl, ap, sym, ◌∙◌}
use mathlib.Core.Bool.{Bool, true, false, ◌&&◌, ◌||◌, false≢true}
use mathlib.Core.List.{List, [], ◌∷◌, ◌++◌}
use Prim.Native.Nat.{ℕ, zero, suc, ◌+◌, ◌*◌, ◌^◌, ◌<◌}
use Prim.Native.Char.{code}
use native.Mathlib.Omega.{arith}
use borrow.Author.Tests.{ltb-true, ltb-false, eqb-true}
use lib.Dec.{eqb, ltb}
use lib.ListN.{length}
use Rattle.meaning.specs.declared.Literal.{Literal}
use Rattle.meaning.specs.declared.CalendarDay.{CalendarDay}
use Rattle.meaning.specs.Bytes.{digit, number}
use Rattle.meaning.specs.Forms.{figures}
use Rattle.meaning.specs.Dates.{day_number, is_day, calendar_day, spelled_day, date_question}
use Rattle.laws.proofs.basics.Digits.{DigitsTo, all_digits_at}
use Rattle.laws.proofs.basics.Tests.{eqb_same}
use Rattle.laws.proofs.writing.Figures.{figures_length}
use Rattle.laws.proofs.dates.Calendar.{Earlier, by_year, by_month, by_day, later_larger, larger_later, same_number}
use Rattle.laws.proofs.dates.Spelt.{Fitting, day_fits, decimal_byte, figures_all, figures_make, spelled_same}
use Rattle.laws.proofs.dates.Asked.{date_day}

-- BYTE BY BYTE: the first that differs decides
abbrev pub bytes_below : List ℕ → List ℕ → Bool
bytes_below [] [] = false
bytes_below [] (c ∷ u) = true
bytes_below (b ∷ t) [] = false
bytes_below (b ∷ t) (c ∷ u) = ltb b c || eqb b c && bytes_below t u

-- of two that differ one is below the other
below_total : (t u : List ℕ) → (bytes_below t u ≡ true) ⊎ ((bytes_below u t ≡ true) ⊎ (t ≡ u))
below_total [] [] = inr (inr refl)
below_total [] (c ∷ u) = inl refl
below_total (b ∷ t) [] = inr (inl refl)
below_total (b ∷ t) (c ∷ u) = go (ltb b c) (ltb c b) refl refl (below_total t u)
  where
    go : (x y : Bool) → ltb b c ≡ x → ltb c b ≡ y → (bytes_below t u ≡ true) ⊎ ((bytes_below u t ≡ true) ⊎ (t ≡ u))
        → ((x || eqb b c && bytes_below t u) ≡ true) ⊎ (((y || eqb c b && bytes_below u t) ≡ true) ⊎ (b ∷ t ≡ c ∷ u))
    go true y e f i = inl refl
    go false true e f i = inr (inl refl)
    go false false e f i = let z : b ≡ c = omega (arith, ltb-false b c e, ltb-false c b f) in rw z (rest i)
      where
        rest : (bytes_below t u ≡ true) ⊎ ((bytes_below u t ≡ true) ⊎ (t ≡ u))
            → ((false || eqb c c && bytes_below t u) ≡ true) ⊎ (((false || eqb c c && bytes_below u t) ≡ true) ⊎ (c ∷ t ≡ c ∷ u))
        rest (inl h) = inl (rw (eqb_same c) h)
        rest (inr (inl h)) = inr (inl (rw (eqb_same c) h))
        rest (inr (inr h)) = inr (inr (ap (c ∷◌) h))

-- DIGITS of one width: what is below makes a smaller number; or the numbers are the same, and what follows decides
number_grows : (n v v' : ℕ) (t t' : List ℕ) → length t ≡ n → length t' ≡ n → DigitsTo 10 n t → v < v' → number 10 n v t < number 10 n v' t'
number_grows zero v v' t t' e e' all h = h
number_grows (suc n) v v' [] t' e e' all h = absurd (omega arith)
number_grows (suc n) v v' (b ∷ t) [] e e' all h = absurd (omega arith)
number_grows (suc n) v v' (b ∷ t) (c ∷ t') e e' all h =
    number_grows n (v * 10 + digit b) (v' * 10 + digit c) t t' (omega arith) (omega arith) (λ i k. all (suc i) (omega arith))
    (omega (arith, all 0 (omega arith)))

below_digits : (n v : ℕ) (t t' s s' : List ℕ) → length t ≡ n → length t' ≡ n → DigitsTo 10 n t → DigitsTo 10 n t' → bytes_below (t ++ s) (t' ++ s') ≡ true
    → (number 10 n v t < number 10 n v t') ⊎ ((number 10 n v t ≡ number 10 n v t') × (bytes_below s s' ≡ true))
below_digits zero v [] [] s s' e e' all all' h = inr (refl, h)
below_digits zero v [] (c ∷ t') s s' e e' all all' h = absurd (omega arith)
below_digits zero v (b ∷ t) t' s s' e e' all all' h = absurd (omega arith)
below_digits (suc n) v [] t' s s' e e' all all' h = absurd (omega arith)
below_digits (suc n) v (b ∷ t) [] s s' e e' all all' h = absurd (omega arith)
below_digits (suc n) v (b ∷ t) (c ∷ t') s s' e e' all all' h =
    go (ltb b c) (eqb b c) refl refl h
    (below_digits n (v * 10 + digit b) t t' s s' (omega arith) (omega arith) (λ i k. all (suc i) (omega arith)) (λ i k. all' (suc i) (omega arith)))
  where
    go : (x y : Bool) → ltb b c ≡ x → eqb b c ≡ y → (x || y && bytes_below (t ++ s) (t' ++ s')) ≡ true
        → (bytes_below (t ++ s) (t' ++ s') ≡ true → (number 10 n (v * 10 + digit b) t < number 10 n (v * 10 + digit b) t')
        ⊎ ((number 10 n (v * 10 + digit b) t ≡ number 10 n (v * 10 + digit b) t') × (bytes_below s s' ≡ true)))
        → (number 10 n (v * 10 + digit b) t < number 10 n (v * 10 + digit c) t')
        ⊎ ((number 10 n (v * 10 + digit b) t ≡ number 10 n (v * 10 + digit c) t') × (bytes_below s s' ≡ true))
    go true y p q h ih =
        let d : digit b < digit c = omega (arith, ltb-true b c p, decimal_byte b (all 0 (omega arith)), decimal_byte c (all' 0 (omega arith))) in
        inl (number_grows n (v * 10 + digit b) (v * 10 + digit c) t t' (omega arith) (omega arith) (λ i k. all (suc i) (omega arith)) (omega arith))
    go false true p q h ih = let z : b ≡ c = eqb-true b c q in rw (← ap digit z) (ih h)
    go false false p q h ih = absurd (false≢true h)

-- two numbers printed in n digits
below_figures : (n c c' : ℕ) (s s' : List ℕ) → c < 10 ^ n → c' < 10 ^ n → bytes_below (figures 10 n c ++ s) (figures 10 n c' ++ s') ≡ true
    → (c < c') ⊎ ((c ≡ c') × (bytes_below s s' ≡ true))
below_figures n c c' s s' h h' e =
    rw (figures_make n c h, figures_make n c' h')
    at (below_digits n 0 (figures 10 n c) (figures 10 n c') s s' (figures_length 10 n c) (figures_length 10 n c') (all c) (all c') e)
  where
    all : (c : ℕ) → DigitsTo 10 n (figures 10 n c)
    all c i k = all_digits_at 10 (figures 10 n c) (figures_all n c) i (omega (arith, figures_length 10 n c))

-- THE TEN BYTES OF TWO DAYS
module _ (y m d y' m' d' : ℕ) (h : is_day y m d ≡ true) (h' : is_day y' m' d' ≡ true) where
  below_earlier : bytes_below (spelled_day y m d) (spelled_day y' m' d') ≡ true → Earlier y m d y' m' d'
  unfolding spelled_day
  below_earlier e = year (below_figures 4 y y' (code "-" ∷ months) (code "-" ∷ months') f.year f'.year e)
    where
      f : Fitting y m d
      f = day_fits y m d h

      f' : Fitting y' m' d'
      f' = day_fits y' m' d' h'

      months : List ℕ
      months = figures 10 2 m ++ (code "-" ∷ figures 10 2 d)

      months' : List ℕ
      months' = figures 10 2 m' ++ (code "-" ∷ figures 10 2 d')

      day : y ≡ y' → m ≡ m' → (d < d') ⊎ ((d ≡ d') × (false ≡ true)) → Earlier y m d y' m' d'
      day p q (inl l) = by_day p q l
      day p q (inr r) = absurd (false≢true r.1)

      month : y ≡ y' → (m < m') ⊎ ((m ≡ m') × (bytes_below (figures 10 2 d) (figures 10 2 d') ≡ true)) → Earlier y m d y' m' d'
      month p (inl l) = by_month p l
      month p (inr r) = day p r.0 (below_figures 2 d d' [] [] f.day f'.day r.1)

      year : (y < y') ⊎ ((y ≡ y') × (bytes_below months months' ≡ true)) → Earlier y m d y' m' d'
      year (inl l) = by_year l
      year (inr r) = month r.0 (below_figures 2 m m' (code "-" ∷ figures 10 2 d) (code "-" ∷ figures 10 2 d') f.month f'.month r.1)

-- the earlier day has the smaller bytes, and the other way
pub earlier_below : (y m d y' m' d' : ℕ) → is_day y m d ≡ true → is_day y' m' d' ≡ true
    → Earlier y m d y' m' d' ↔ (bytes_below (spelled_day y m d) (spelled_day y' m' d') ≡ true)
earlier_below y m d y' m' d' h h' = (λ e. go (later_larger y m d y' m' d' h h' e) (below_total v v'), below_earlier y m d y' m' d' h h')
  where
    v : List ℕ
    v = spelled_day y m d

    v' : List ℕ
    v' = spelled_day y' m' d'

    go : day_number y m d < day_number y' m' d' → (bytes_below v v' ≡ true) ⊎ ((bytes_below v' v ≡ true) ⊎ (v ≡ v')) → bytes_below v v' ≡ true
    go l (inl b) = b
    go l (inr (inl b)) = absurd (omega (arith, later_larger y' m' d' y m d h' h (below_earlier y' m' d' y m d h' h b)))
    go l (inr (inr b)) =
        let s = spelled_same y m d y' m' d' h h' b in
        let n : day_number y m d ≡ day_number y' m' d' = rw (s.0, s.1, s.2) in
        absurd (omega arith)

-- OF TWO ANSWERS: their days' order and their numbers' order are the same
module _ (l l' : Literal) (S S' : List ℕ) (c c' : CalendarDay) (e : date_question l S ≡ Ok c) (e' : date_question l' S' ≡ Ok c') where
  pub date_order : Earlier c.year c.month c.day c'.year c'.month c'.day ↔ (c.number < c'.number)
  unfolding calendar_day
  date_order =
      let a = date_day l S c e in
      let a' = date_day l' S' c' e' in
      let n : c.number ≡ day_number c.year c.month c.day = ap (λ (x : CalendarDay). x.number) a.1 in
      let n' : c'.number ≡ day_number c'.year c'.month c'.day = ap (λ (x : CalendarDay). x.number) a'.1 in (
        λ q. let i = later_larger c.year c.month c.day c'.year c'.month c'.day a.0 a'.0 q in omega arith,
        λ q. larger_later c.year c.month c.day c'.year c'.month c'.day a.0 a'.0 (omega arith),
      )

  -- and one number is one day
  pub date_same_number : c.number ≡ c'.number → c ≡ c'
  unfolding calendar_day
  date_same_number q =
      let a = date_day l S c e in
      let a' = date_day l' S' c' e' in
      let n : c.number ≡ day_number c.year c.month c.day = ap (λ (x : CalendarDay). x.number) a.1 in
      let n' : c'.number ≡ day_number c'.year c'.month c'.day = ap (λ (x : CalendarDay). x.number) a'.1 in
      let s = same_number c.year c.month c.day c'.year c'.month c'.day a.0 a'.0 (sym n ∙ q ∙ n') in
      let z : calendar_day c.year c.month c.day ≡ calendar_day c'.year c'.month c'.day = rw (s.0, s.1, s.2) in
      a.1 ∙ z ∙ sym a'.1
