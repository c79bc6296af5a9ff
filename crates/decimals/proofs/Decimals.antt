-- The decimal digits of a number: how many they are, and filling a buffer with them from the end back, one at a time or nine. Assumes nothing.
use Rattle.std.proofs.Common.{◌≡◌, ℕ, zero, suc, ◌+◌, ◌-◌, ◌*◌, ◌/◌, ◌%◌, ◌^◌, ◌<◌, ◌≤◌, List, [], ◌∷◌, ◌++◌, length, drop, set, sym, refl, ap, ◌∙◌, subst, append_assoc, append-nil, lt_of_lt_of_le, add-zero, add-suc, mod-eq_of_lt, pow-suc, le-div_iff_mul-le, zero-add, div-one, add-one, arith, lit≤, length-set, w64, Fits}
use native.Mathlib.Nat.{div-div-eq-div-mul, pow-succ'}
use lib.Arith.{mod-mul}
use lib.ListN.{take}
use lib.Seq.{drop-length, drop_at, drop-drop, length-take-le}
use borrow.Rule.Slice.PartMut.{mid_of, put_mid, mid_len, same_len_mid}
use Rattle.meaning.specs.Numbers.{digits_of}
use Rattle.meaning.specs.Halves.{joined_halves}
use Rattle.laws.proofs.basics.Halves.{joined_halves_lt, small_or, digits_of_small, digits_of_step, digits_of_more, digits_of_length}
use Rattle.laws.proofs.basics.Lists.{drop_set_here}
use Rattle.decimals.specs.Printing.{Parts, last_of}
use Rattle.decimals.specs.declared.printing.Parted.{Parted}

ten_pos : (k : ℕ) → 0 < 10 ^ k
ten_pos zero = omega arith
ten_pos (suc k) = rw (pow-suc 10 k) (let h = ten_pos k in omega arith)

-- HOW MANY
size_small : (n : ℕ) → n < 10 → length (digits_of n) ≡ 1
size_small n h = ap length (digits_of_small n h)

-- k digits fewer
size_by : (k n : ℕ) → 10 ^ k ≤ n → length (digits_of n) ≡ length (digits_of (n / 10 ^ k)) + k
size_by zero n h = rw (div-one n) (sym (add-zero (length (digits_of n))))
size_by (suc k) n h =
    let g : 10 ^ k * 10 ≤ n = rw (pow-suc 10 k) at h in
    let p = ten_pos k in
    let q : 10 ^ k ≤ n / 10 = (le-div_iff_mul-le {k = 10} {x = 10 ^ k} {y = n} (omega arith)).1 g in
    let e : n / 10 / 10 ^ k ≡ n / 10 ^ suc k = div-div-eq-div-mul n 10 (10 ^ k) ∙ ap (λ (x : ℕ). n / x) (sym (pow-succ' 10 k)) in
    let s : length (digits_of (n / 10)) ≡ length (digits_of (n / 10 ^ suc k)) + k = size_by k (n / 10) q ∙ ap (λ (x : ℕ). length (digits_of x) + k) e in
    let t = digits_of_more n (omega arith) in
    omega arith

-- the loops that count: m digits are passed, and those of cur are left
pub record Counting (v cur m : ℕ) : Type 0 where
  pub bounded : v < 10 ^ 39
  pub same : m + length (digits_of cur) ≡ length (digits_of v)

pub count_low_start : (v : ℕ) → Fits w64 v → Counting v v 0
count_low_start v f = record { bounded = lt_of_lt_of_le f.fits (lit≤ tt); same = zero-add (length (digits_of v)) }

pub count_start : (hi lo : ℕ) → Fits w64 hi → Fits w64 lo → Counting (joined_halves hi lo) (joined_halves hi lo) 0
count_start hi lo f g = record {
  bounded = lt_of_lt_of_le (joined_halves_lt hi lo f.fits g.fits) (lit≤ tt);
  same = zero-add (length (digits_of (joined_halves hi lo)));
}

module _ {v cur m : ℕ} (c : Counting v cur m) where
  counted_fits : m + length (digits_of cur) ≤ 39
  counted_fits = let h = digits_of_length 38 v c.bounded in omega (arith, c.same)

  pub count_on : (k : ℕ) → 10 ^ k ≤ cur → (next : ℕ) → next ≡ cur / 10 ^ k → Counting v next (m + k)
  count_on k h next e = record { bounded = c.bounded; same = rw e (let s = size_by k cur h in omega (arith, c.same)) }

  pub count_fits : (k : ℕ) → k ≤ 9 → Fits w64 (m + k)
  count_fits k h = let s = counted_fits in omega arith

  pub count_end : cur < 10 → m + 1 ≡ length (digits_of v)
  count_end h = ap (m +◌) (sym (size_small cur h)) ∙ c.same

-- a high half that is not 0 means nine digits and more
high_great : (h l : ℕ) → (h ≡ 0 → ⊥) → 10 ^ 9 ≤ joined_halves h l
high_great zero l n = absurd (n refl)
high_great (suc h) l n = omega arith

pub low_only : (h l : ℕ) → h ≡ 0 → joined_halves h l ≡ l
low_only h l e = rw e (zero-add l)

module _ (h l : ℕ) (n : h ≡ 0 → ⊥) (p : Parted) (q : Parts (joined_halves h l) p) where
  pub billion_less : joined_halves p.quotient.hi p.quotient.lo < joined_halves h l
  billion_less = let s = high_great h l n in rw q.quotient (omega arith)

  pub count_nine : {v m : ℕ} → Counting v (joined_halves h l) m → Counting v (joined_halves p.quotient.hi p.quotient.lo) (m + 9)
  count_nine c = count_on c 9 (high_great h l n) (joined_halves p.quotient.hi p.quotient.lo) q.quotient

module _ (h l k : ℕ) {v m : ℕ} (c : Counting v (joined_halves h l) m) (z : h ≡ 0) (e : k ≡ length (digits_of l)) where
  pub count_all : m + k ≡ length (digits_of v)
  count_all = ap (m +◌) (e ∙ ap (λ (x : ℕ). length (digits_of x)) (sym (low_only h l z))) ∙ c.same

  pub count_all_fits : Fits w64 (m + k)
  count_all_fits = let s = counted_fits c in let t = count_all in omega (arith, c.same)

-- THE LAST k DIGITS: of more than k, those before them; of the rest by 10^k
last_split : (j k n : ℕ) → last_of (j + k) n ≡ last_of j (n / 10 ^ k) ++ last_of k n
last_split j zero n = rw (add-zero j, div-one n) (sym (append-nil (last_of j n)))
last_split j (suc k) n =
    ap (λ (x : ℕ). last_of x n) (add-suc j k)
    ∙ ap (◌++ ((48 + n % 10) ∷ [])) (last_split j k (n / 10))
    ∙ append_assoc (last_of j (n / 10 / 10 ^ k)) (last_of k (n / 10)) ((48 + n % 10) ∷ [])
    ∙ ap (λ (x : ℕ). last_of j x ++ last_of (suc k) n) (div-div-eq-div-mul n 10 (10 ^ k) ∙ ap (λ (x : ℕ). n / x) (sym (pow-succ' 10 k)))

last_mod : (k n : ℕ) → last_of k (n % 10 ^ k) ≡ last_of k n
last_mod zero n = refl
last_mod (suc k) n =
    let e : n % 10 ^ suc k ≡ (n / 10 % 10 ^ k) * 10 + n % 10 = ap (n %◌) (pow-suc 10 k) ∙ mod-mul n {m = 10 ^ k} {c = 10} (ten_pos k) (omega arith) in
    let q : n % 10 ^ suc k / 10 ≡ n / 10 % 10 ^ k = omega arith in
    let r : n % 10 ^ suc k % 10 ≡ n % 10 = omega arith in
    rw (q, r) (ap (◌++ ((48 + n % 10) ∷ [])) (last_mod k (n / 10)))

-- all digits are the last ones, as many as there are
all_last : (n : ℕ) → digits_of n ≡ last_of (length (digits_of n)) n
all_last n = go n n (omega arith)
  where
    few : (n : ℕ) → n < 10 → digits_of n ≡ last_of (length (digits_of n)) n
    few n h = rw (digits_of_small n h, mod-eq_of_lt h)

    more : (n : ℕ) → 10 ≤ n → digits_of (n / 10) ≡ last_of (length (digits_of (n / 10))) (n / 10) → digits_of n ≡ last_of (length (digits_of n)) n
    more n h e =
        digits_of_step n h ∙ ap (◌++ ((48 + n % 10) ∷ [])) e
        ∙ ap (λ (k : ℕ). last_of k n) (sym (add-one (length (digits_of (n / 10)))) ∙ sym (digits_of_more n h))

    go : (f n : ℕ) → n ≤ f → digits_of n ≡ last_of (length (digits_of n)) n
    go zero n h = few n (omega arith)
    go (suc f) n h = small_or n (few n) (λ s. more n s (go f (n / 10) (omega arith)))

-- THE LOOPS THAT FILL a buffer of so many bytes: up to place i, the last digits of cur are still to come before what stands from i on
pub record Filling (w : List ℕ) (size i cur : ℕ) (out : List ℕ) : Type 0 where
  pub inside : i ≤ size
  pub long : length out ≡ size
  pub same : last_of i cur ++ drop i out ≡ w

pub fill_start : (v : ℕ) (out : List ℕ) → Filling (last_of (length out) v) (length out) (length out) v out
fill_start v out = record {
  inside = omega arith;
  long = refl;
  same = ap (last_of (length out) v ++◌) (drop-length out) ∙ append-nil (last_of (length out) v);
}

module _ {w : List ℕ} {size i cur : ℕ} {out : List ℕ} (f : Filling w size i cur out) where
  -- one digit
  pub fill_on : 0 < i → (d next : ℕ) → d ≡ 48 + cur % 10 → next ≡ cur / 10 → Filling w size (i - 1) next (set out (i - 1) d)
  fill_on h d next g q =
      let s : suc (i - 1) ≡ i = omega arith in
      let t : last_of (suc (i - 1)) cur ++ drop (suc (i - 1)) out ≡ w = subst (λ (k : ℕ). last_of k cur ++ drop k out ≡ w) (sym s) f.same in
      record {
        inside = omega (arith, f.inside);
        long = length-set out (i - 1) d ∙ f.long;
        same =
            rw (q, drop_set_here out (i - 1) d (omega (arith, f.inside, f.long)), g)
            (sym (append_assoc (last_of (i - 1) (cur / 10)) ((48 + cur % 10) ∷ []) (drop (suc (i - 1)) out)) ∙ t);
      }

  pub fill_end : i ≤ 0 → out ≡ w
  fill_end h = let z : i ≡ 0 = omega arith in rw z at f.same

  -- nine digits, by what `fill_low` leaves
  nine : (j cur : ℕ) → last_of (j + 9) cur ≡ last_of j (cur / 1000000000) ++ last_of 9 (cur % 1000000000)
  nine j cur = last_split j 9 cur ∙ ap (last_of j (cur / 1000000000) ++◌) (sym (last_mod 9 cur))

  fill_nine : 9 ≤ i → (next rest : ℕ) → next ≡ cur / 1000000000 → rest ≡ cur % 1000000000 → (new : List ℕ)
      → new ≡ last_of (length (mid_of (i - 9) (i - (i - 9)) out)) rest → length new ≡ length (mid_of (i - 9) (i - (i - 9)) out)
      → Filling w size (i - 9) next (put_mid (i - 9) (i - (i - 9)) out new)
  fill_nine h next rest q r new e l =
      let n : i ≡ i - 9 + 9 = omega arith in
      let m : i - (i - 9) ≡ 9 = omega arith in
      let k : i - 9 ≤ length out = omega (arith, f.inside, f.long) in
      let long : length (mid_of (i - 9) (i - (i - 9)) out) ≡ 9 = mid_len (i - 9) i out (omega (arith, f.inside, f.long)) ∙ m in
      let t : last_of (i - 9 + 9) cur ++ drop i out ≡ w = subst (λ (k : ℕ). last_of k cur ++ drop i out ≡ w) n f.same in
      let j : i - 9 + (i - (i - 9)) ≡ i = omega arith in
      let u : drop (i - 9) (put_mid (i - 9) (i - (i - 9)) out new) ≡ last_of 9 rest ++ drop i out =
      drop_at (take (i - 9) out) (new ++ drop (i - (i - 9)) (drop (i - 9) out)) (i - 9) (length-take-le (i - 9) out k)
      ∙ ap (new ++◌) (drop-drop (i - (i - 9)) (i - 9) out ∙ ap (λ (k : ℕ). drop k out) j)
      ∙ ap (◌++ drop i out) (e ∙ ap (λ (k : ℕ). last_of k rest) long) in
      record {
        inside = omega (arith, f.inside);
        long = same_len_mid (i - 9) (i - (i - 9)) out new l ∙ f.long;
        same =
            rw (u, q, r)
            (sym (append_assoc (last_of (i - 9) (cur / 1000000000)) (last_of 9 (cur % 1000000000)) (drop i out))
            ∙ ap (◌++ drop i out) (sym (nine (i - 9) cur)) ∙ t);
      }

-- and as many as are left
pub record Chunking (w : List ℕ) (size i cur : ℕ) (out : List ℕ) : Type 0 where
  pub filling : Filling w size i cur out
  pub exact : length (digits_of cur) ≡ i

pub chunk_start : (v : ℕ) (out : List ℕ) → length (digits_of v) ≡ length out → Chunking (digits_of v) (length out) (length out) v out
chunk_start v out e = record {
  filling = subst (λ (w : List ℕ). Filling w (length out) (length out) v out) (ap (λ (k : ℕ). last_of k v) (sym e) ∙ sym (all_last v)) (fill_start v out);
  exact = e;
}

module _ {w : List ℕ} {size i : ℕ} (h l : ℕ) {out : List ℕ} (c : Chunking w size i (joined_halves h l) out) where
  pub chunk_room : (h ≡ 0 → ⊥) → 9 ≤ i
  chunk_room n = let s = size_by 9 (joined_halves h l) (high_great h l n) in omega (arith, c.exact)

  pub chunk_inside : i ≤ length out
  chunk_inside = omega (arith, c.filling.inside, c.filling.long)

  pub chunk_on : (h ≡ 0 → ⊥) → (p : Parted) → Parts (joined_halves h l) p → (new : List ℕ)
      → new ≡ last_of (length (mid_of (i - 9) (i - (i - 9)) out)) p.rest → length new ≡ length (mid_of (i - 9) (i - (i - 9)) out)
      → Chunking w size (i - 9) (joined_halves p.quotient.hi p.quotient.lo) (put_mid (i - 9) (i - (i - 9)) out new)
  chunk_on n p q new e k =
      let s = size_by 9 (joined_halves h l) (high_great h l n) in
      record {
        filling = fill_nine c.filling (chunk_room n) (joined_halves p.quotient.hi p.quotient.lo) p.rest q.quotient q.left new e k;
        exact = rw q.quotient (omega (arith, c.exact));
      }

  pub chunk_end : h ≡ 0 → (new : List ℕ) → new ≡ last_of (length (take i out)) l → new ++ drop i out ≡ w
  chunk_end z new e =
      ap (◌++ drop i out) (e ∙ ap (λ (k : ℕ). last_of k l) (length-take-le i out chunk_inside) ∙ ap (last_of i) (sym (low_only h l z))) ∙ c.filling.same
