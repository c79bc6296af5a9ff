-- The scans by places: what stands at a place is told by the four bytes up to it; a front byte after byte, the rest by blocks. Assumes nothing.
use Rattle.std.proofs.Common.{◌≡◌, ℕ, zero, suc, ◌+◌, ◌-◌, ◌<◌, ◌≤◌, Bool, true, false, not, ◌&&◌, ◌||◌, leb, List, [], ◌∷◌, length, get_or, drop, sym, refl, ap, ◌∙◌, add-one, arith, drop-cons, ne_eqb, le-leb}
use mir.Val.{bool_byte}
use mathlib.Core.Bool.{and-true, and-false}
use borrow.Author.Tests.{not-true, not-false}
use Rattle.meaning.specs.Bytes.{◌!◌, within, has}
use Rattle.std.specs.Prelude.{if◌then◌else◌}
use Rattle.meaning.specs.Chars.{utf8}
use Rattle.leaves.specs.Blocks.{passes}
use Rattle.leaves.proofs.Scans.{passes_append, Counting, counting_start, counting_on, Before, block_passes, block_fails, block_last}
use Rattle.leaves.proofs.Chunks.{byte_one}
use Rattle.utf8.specs.Places.{low_of, high_of, is_due, begins, follows, fits, fitted, is_one, padded}
use Rattle.utf8.proofs.ByPlaces.{due_behind, by_places}

-- ONE BYTE, as the code asks
pub fits_by_bits : (least p₃ p₂ p₁ b : ℕ) (d : Bool) → d ≡ is_due p₃ p₂ p₁ → (lo hi : ℕ) → lo ≡ low_of p₁ → hi ≡ high_of p₁
    → (leb least b && ((d && within lo hi b) || (not d && begins b))) ≡ fits least p₃ p₂ p₁ b
unfolding fits follows
fits_by_bits least p₃ p₂ p₁ b d e lo hi el eh = ap (leb least b &&◌) (go d e)
  where
    go : (d : Bool) → d ≡ is_due p₃ p₂ p₁ → ((d && within lo hi b) || (not d && begins b)) ≡ (if is_due p₃ p₂ p₁ then within (low_of p₁) (high_of p₁) b else begins b)
    go true e = rw (← e, ← el, ← eh) (or_false (within lo hi b))
      where
        or_false : (x : Bool) → (x || false) ≡ x
        or_false true = refl
        or_false false = refl
    go false e = rw (← e)

-- A PLACE with three before it
place_bit : (least : ℕ) (t : List ℕ) (i p₃ p₂ p₁ : ℕ) → suc (suc (suc i)) < length t
    → get_or (fitted least p₃ p₂ p₁ t) (suc (suc (suc i))) 0 ≡ (if fits least (t ! i) (t ! suc i) (t ! suc (suc i)) (t ! suc (suc (suc i))) then 1 else 0)
place_bit least (a ∷ b ∷ c ∷ d ∷ t) zero p₃ p₂ p₁ h = refl
place_bit least (a ∷ t) (suc i) p₃ p₂ p₁ h = place_bit least t i p₂ p₁ a (omega arith)
place_bit least [] i p₃ p₂ p₁ h = absurd (omega arith)
place_bit least (a ∷ []) zero p₃ p₂ p₁ h = absurd (omega arith)
place_bit least (a ∷ b ∷ []) zero p₃ p₂ p₁ h = absurd (omega arith)
place_bit least (a ∷ b ∷ c ∷ []) zero p₃ p₂ p₁ h = absurd (omega arith)

one_bit : (x : Bool) → is_one (if x then 1 else 0) ≡ x
one_bit true = refl
one_bit false = refl

fitted_length : (least p₃ p₂ p₁ : ℕ) (t : List ℕ) → length (fitted least p₃ p₂ p₁ t) ≡ length t
fitted_length least p₃ p₂ p₁ [] = refl
fitted_length least p₃ p₂ p₁ (b ∷ t) = ap suc (fitted_length least p₂ p₁ b t)

module _ (least : ℕ) (t : List ℕ) where
  place_one : (i : ℕ) → 3 ≤ i → i < length t → is_one (get_or (fitted least 0 0 0 t) i 0) ≡ fits least (t ! (i - 3)) (t ! (i - 2)) (t ! (i - 1)) (t ! i)
  place_one (suc (suc (suc i))) h k =
      let x : suc (suc (suc i)) - 3 ≡ i = omega arith in
      let y : suc (suc (suc i)) - 2 ≡ suc i = omega arith in
      let z : suc (suc (suc i)) - 1 ≡ suc (suc i) = omega arith in
      rw (x, y, z) (ap is_one (place_bit least t i 0 0 0 k) ∙ one_bit (fits least (t ! i) (t ! suc i) (t ! suc (suc i)) (t ! suc (suc (suc i)))))
  place_one zero h k = absurd (omega arith)
  place_one (suc zero) h k = absurd (omega arith)
  place_one (suc (suc zero)) h k = absurd (omega arith)

  long : length (fitted least 0 0 0 t) ≡ length t
  long = fitted_length least 0 0 0 t

  -- A BLOCK
  pub places_start : (n at : ℕ) → at + n ≤ length t → Counting is_one n (fitted least 0 0 0 t) at 0 0
  places_start n at h = counting_start is_one n (fitted least 0 0 0 t) at (omega (arith, long))

  pub places_on : {n at c j : ℕ} → Counting is_one n (fitted least 0 0 0 t) at c j → 3 ≤ at → j < n → (x : Bool)
      → x ≡ fits least (t ! (at + j - 3)) (t ! (at + j - 2)) (t ! (at + j - 1)) (t ! (at + j)) → (k : ℕ) → k ≡ bool_byte x
      → Counting is_one n (fitted least 0 0 0 t) at (c + k) (j + 1)
  places_on {n} {at} {c} {j} v f h x e k ek = counting_on v h x (e ∙ sym (place_one (at + j) (omega arith) (omega (arith, v.room, long)))) k (byte_one x k ek)

  -- BLOCKS, from the fourth place on
  pub record Fitting (i : ℕ) : Type 0 where
    pub behind : 3 ≤ i
    pub before : Before is_one (fitted least 0 0 0 t) i

  pub fitting_three : (n : ℕ) → 3 + n ≤ length t → passes is_one 3 (fitted least 0 0 0 t) ≡ true → Fitting 3
  fitting_three n h e = record { behind = omega arith; before = record { inside = omega (arith, long); pass = e } }

  module _ {i : ℕ} (v : Fitting i) (n : ℕ) (room : 3 + n ≤ length t) (x : Bool) where
    pub fitting_passes : i < length t - n → x ≡ passes is_one n (drop i (fitted least 0 0 0 t)) → not x ≡ false → Fitting (i + n)
    fitting_passes h e y = record { behind = omega (arith, v.behind); before = block_passes v.before n (omega (arith, long)) x (omega (arith, long)) e y }

    pub fitting_fails : i < length t - n → x ≡ passes is_one n (drop i (fitted least 0 0 0 t)) → not x ≡ true → false ≡ passes is_one (length t) (fitted least 0 0 0 t)
    fitting_fails h e y =
        block_fails v.before n (omega (arith, long)) x (omega (arith, long)) e y ∙ ap (λ (m : ℕ). passes is_one m (fitted least 0 0 0 t)) long

    pub fitting_last : length t - n ≤ i → x ≡ passes is_one n (drop (length t - n) (fitted least 0 0 0 t)) → x ≡ passes is_one (length t) (fitted least 0 0 0 t)
    fitting_last h e =
        let z : length (fitted least 0 0 0 t) - n ≡ length t - n = ap (◌- n) long in
        block_last v.before n (omega (arith, long)) x (omega (arith, long)) (e ∙ ap (λ (m : ℕ). passes is_one n (drop m (fitted least 0 0 0 t))) (sym z))
        ∙ ap (λ (m : ℕ). passes is_one m (fitted least 0 0 0 t)) long

  -- A FRONT of n bytes, one after the other: those before i fit, and the last three are at hand
  pub record Fronting (n p₃ p₂ p₁ i : ℕ) : Type 0 where
    pub inside : i ≤ n
    pub room : n ≤ length t
    pub pass : passes is_one i (fitted least 0 0 0 t) ≡ true
    pub rest : drop i (fitted least 0 0 0 t) ≡ fitted least p₃ p₂ p₁ (drop i t)

  pub fronting_start : (n : ℕ) → n ≤ length t → Fronting n 0 0 0 0
  fronting_start n h = record { inside = omega arith; room = h; pass = refl; rest = refl }

  -- the first of two parts does not fit
  front_not : (m n k : ℕ) → k ≡ m + n → passes is_one m (fitted least 0 0 0 t) ≡ false → false ≡ passes is_one k (fitted least 0 0 0 t)
  front_not m n k e h = sym (passes_append is_one m n k (fitted least 0 0 0 t) e ∙ rw h)

  module _ {n p₃ p₂ p₁ i : ℕ} (v : Fronting n p₃ p₂ p₁ i) where
    next : i < n → (x : Bool) → x ≡ fits least p₃ p₂ p₁ (t ! i) → passes is_one (i + 1) (fitted least 0 0 0 t) ≡ x
    next h x e =
        passes_append is_one i 1 (i + 1) (fitted least 0 0 0 t) refl
        ∙ rw (v.pass, v.rest, drop-cons t i 0 (omega (arith, v.room))) (and-true (is_one (if fits least p₃ p₂ p₁ (t ! i) then 1 else 0)) ∙ one_bit (fits least p₃ p₂ p₁ (t ! i)) ∙ sym e)

    pub fronting_on : i < n → (x : Bool) → x ≡ fits least p₃ p₂ p₁ (t ! i) → not x ≡ false → Fronting n p₂ p₁ (t ! i) (i + 1)
    fronting_on h x e y = record {
      inside = omega arith;
      room = v.room;
      pass = next h x e ∙ not-false x y;
      rest = rw (add-one i) (drop_suc i (fitted least 0 0 0 t) ∙ ap (drop 1) v.rest ∙ ap (λ (l : List ℕ). drop 1 (fitted least p₃ p₂ p₁ l)) (drop-cons t i 0 (omega (arith, v.room))));
    }
      where
        drop_suc : (i : ℕ) (l : List ℕ) → drop (suc i) l ≡ drop 1 (drop i l)
        drop_suc zero l = refl
        drop_suc (suc i) [] = refl
        drop_suc (suc i) (b ∷ l) = drop_suc i l

    pub fronting_fails : i < n → (x : Bool) → x ≡ fits least p₃ p₂ p₁ (t ! i) → not x ≡ true → false ≡ passes is_one n (fitted least 0 0 0 t)
    fronting_fails h x e y = front_not (i + 1) (n - (i + 1)) n (omega arith) (next h x e ∙ not-true x y)

    pub fronting_end : n ≤ i → true ≡ passes is_one n (fitted least 0 0 0 t)
    fronting_end h = let z : i ≡ n = omega (arith, v.inside) in sym (ap (λ (m : ℕ). passes is_one m (fitted least 0 0 0 t)) (sym z) ∙ v.pass)

  -- the first three do not fit
  pub three_fail : 19 ≤ length t → (x : Bool) → x ≡ passes is_one 3 (fitted least 0 0 0 t) → x ≡ false → x ≡ passes is_one (length t) (fitted least 0 0 0 t)
  three_fail h x e y = y ∙ front_not 3 (length t - 3) (length t) (omega arith) (sym e ∙ y)

  -- THE END, and the answer
  due_end : (l : List ℕ) (p₃ p₂ p₁ : ℕ) → due_behind p₃ p₂ p₁ l
      ≡ is_due ((p₃ ∷ p₂ ∷ p₁ ∷ l) ! length l) ((p₃ ∷ p₂ ∷ p₁ ∷ l) ! suc (length l)) ((p₃ ∷ p₂ ∷ p₁ ∷ l) ! suc (suc (length l)))
  due_end [] p₃ p₂ p₁ = refl
  due_end (b ∷ l) p₃ p₂ p₁ = due_end l p₂ p₁ b

  module _ (a b c : ℕ) (ea : a ≡ padded t ! (length t + 3 - 3)) (eb : b ≡ padded t ! (length t + 3 - 2)) (ec : c ≡ padded t ! (length t + 3 - 1))
      (d : Bool) (e : d ≡ is_due a b c) where
    behind : d ≡ due_behind 0 0 0 t
    behind =
        let x : length t + 3 - 3 ≡ length t = omega arith in
        let y : length t + 3 - 2 ≡ suc (length t) = omega arith in
        let z : length t + 3 - 1 ≡ suc (suc (length t)) = omega arith in
        e ∙ rw (ea ∙ ap (padded t !◌) x, eb ∙ ap (padded t !◌) y, ec ∙ ap (padded t !◌) z) (sym (due_end t 0 0 0))

    pub text_due : d ≡ true → false ≡ (utf8 t && passes (leb least) (length t) t)
    text_due h = sym (by_places least t ∙ rw (sym behind ∙ h) (and-false (passes is_one (length t) (fitted least 0 0 0 t))))

    pub text_fits : d ≡ false → (r : Bool) → r ≡ passes is_one (length t) (fitted least 0 0 0 t) → r ≡ (utf8 t && passes (leb least) (length t) t)
    text_fits h r er = er ∙ sym (by_places least t ∙ rw (sym behind ∙ h) (and-true (passes is_one (length t) (fitted least 0 0 0 t))))

-- THE BYTE k places before the end
pub back_none : (t : List ℕ) (k : ℕ) → 0 < k → k ≤ 3 → length t < k → 0 ≡ padded t ! (length t + 3 - k)
back_none t k p q h = go (length t + 3 - k) (omega arith)
  where
    go : (i : ℕ) → i < 3 → 0 ≡ padded t ! i
    go zero h = refl
    go (suc zero) h = refl
    go (suc (suc zero)) h = refl
    go (suc (suc (suc i))) h = absurd (omega arith)

pub back_some : (t : List ℕ) (k : ℕ) → k ≤ length t → get_or t (length t - k) 0 ≡ padded t ! (length t + 3 - k)
back_some t k h = let z : length t + 3 - k ≡ suc (suc (suc (length t - k))) = omega arith in rw z

-- WITH NO LEAST BYTE, and with NUL below it
none_below : (t : List ℕ) → passes (leb 0) (length t) t ≡ true
none_below [] = refl
none_below (b ∷ t) = rw (le-leb 0 b (omega arith)) (none_below t)

nul_below : (t : List ℕ) → passes (leb 1) (length t) t ≡ not (has 0 t)
nul_below [] = refl
nul_below (zero ∷ t) = refl
nul_below (suc b ∷ t) = rw (le-leb 1 (suc b) (omega arith), ne_eqb 0 (suc b) (λ e. omega arith)) (nul_below t)

pub text_utf8 : (t : List ℕ) (r : Bool) → r ≡ (utf8 t && passes (leb 0) (length t) t) → r ≡ utf8 t
text_utf8 t r e = e ∙ rw (none_below t) (and-true (utf8 t))

pub text_clean : (t : List ℕ) (r : Bool) → r ≡ (utf8 t && passes (leb 1) (length t) t) → r ≡ (utf8 t && not (has 0 t))
text_clean t r e = e ∙ ap (utf8 t &&◌) (nul_below t)
