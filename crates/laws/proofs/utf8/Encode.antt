-- A scalar's encoding is UTF-8 and decodes to it, and what decodes is encoded so. The later bytes once over the sequence's length; the
-- first two bytes by RFC 3629's rows: a row has the scalars from `least` to `most`, and the rows follow each other with a gap of
-- D800 .. DFFF. Assumes nothing.
use mathlib.Core.Path.{◌≡◌, refl, ap, ◌∙◌}
use mathlib.Core.Bool.{Bool, true, false, ◌&&◌, not}
use mathlib.Core.List.{List, [], ◌∷◌, ◌++◌}
use Prim.Native.Nat.{ℕ, zero, suc, ◌+◌, ◌-◌, ◌*◌, ◌/◌, ◌%◌, ◌^◌, ◌≤◌, ◌<◌}
use native.Mathlib.Nat.{pow-suc, div-div-eq-div-mul}
use native.Mathlib.Omega.{arith}
use native.Mathlib.Decide.{dec_le}
use lib.Dec.{eqb, leb}
use lib.ListN.{length}
use borrow.Author.Tests.{le-leb, leb-true, lt-ltb, le-ltb, eqb-true, not-true}
use Rattle.meaning.specs.Bytes.{within}
use Rattle.std.specs.Prelude.{if◌then◌else◌}
use Rattle.meaning.specs.Chars.{Due, due, pushes, whole, utf8, lead, leads, lead_in, base, later, more, encode, is_scalar, gather}
use Rattle.laws.proofs.basics.Tests.{and_left, and_right, within_yes, within_above, within_bounds, within_outside}
use Rattle.laws.proofs.utf8.Utf8.{Rows, lead_row, Ranged, ranged_all, lead_good}

-- n later bytes that are as due, and nothing more
abbrev pub AsDue : ℕ → ℕ → ℕ → List ℕ → Type 0
AsDue zero lo hi [] = Unit {0}
AsDue zero lo hi (b ∷ t) = ⊥
AsDue (suc n) lo hi [] = ⊥
AsDue (suc n) lo hi (b ∷ t) = (lo ≤ b) × (b ≤ hi) × AsDue n 0x80 0xBF t

pub due_length : (n lo hi : ℕ) (t : List ℕ) → AsDue n lo hi t → length t ≡ n
due_length zero lo hi [] a = refl
due_length zero lo hi (b ∷ t) a = absurd a
due_length (suc n) lo hi [] a = absurd a
due_length (suc n) lo hi (b ∷ t) a = ap suc (due_length n 0x80 0xBF t a.2)

pub due_whole : (n lo hi : ℕ) (t : List ℕ) → AsDue n lo hi t → whole (pushes (due n lo hi) t) ≡ true
due_whole zero lo hi [] a = refl
due_whole zero lo hi (b ∷ t) a = absurd a
due_whole (suc n) lo hi [] a = absurd a
due_whole (suc n) lo hi (b ∷ t) a = rw (within_yes lo hi b a.0 a.1) (due_whole n 0x80 0xBF t a.2)

-- what follows a character changes nothing in it
pub gather_append : (n lo hi v : ℕ) (t r : List ℕ) → AsDue n lo hi t → gather n lo hi v (t ++ r) ≡ gather n lo hi v t
gather_append zero lo hi v t r a = refl
gather_append (suc n) lo hi v [] r a = absurd a
gather_append (suc n) lo hi v (b ∷ t) r a = rw (within_yes lo hi b a.0 a.1) (gather_append n 0x80 0xBF (v * 64 + (b - 0x80)) t r a.2)

pub later_due : (n c : ℕ) → AsDue n 0x80 0xBF (later n c)
later_due zero c = tt
later_due (suc n) c = (omega arith, omega arith, later_due n c)

div_suc : (n c : ℕ) → c / 64 ^ suc n ≡ c / 64 ^ n / 64
div_suc n c = rw (pow-suc 64 n, ← div-div-eq-div-mul c (64 ^ n) 64)

-- over the length: the later bytes of c give c back, and the number that later bytes make has these later bytes
pub gather_later : (n lo hi c : ℕ) → AsDue n lo hi (later n c) → gather n lo hi (c / 64 ^ n) (later n c) ≡ c
gather_later zero lo hi c a = omega arith
gather_later (suc n) lo hi c a =
    let d = div_suc n c in
    let e : c / 64 ^ suc n * 64 + (0x80 + c / 64 ^ n % 64 - 0x80) ≡ c / 64 ^ n = omega arith in
    rw (within_yes lo hi (0x80 + c / 64 ^ n % 64) a.0 a.1, e) (gather_later n 0x80 0xBF c a.2)

pub later_gather : (n lo hi v : ℕ) (t : List ℕ) → Ranged n lo hi → AsDue n lo hi t → (later n (gather n lo hi v t) ≡ t) × (gather n lo hi v t / 64 ^ n ≡ v)
later_gather zero lo hi v [] g a = (refl, omega arith)
later_gather zero lo hi v (b ∷ t) g a = absurd a
later_gather (suc n) lo hi v [] g a = absurd a
later_gather (suc n) lo hi v (b ∷ t) g a =
    let c = gather n 0x80 0xBF (v * 64 + (b - 0x80)) t in
    let ih = later_gather n 0x80 0xBF (v * 64 + (b - 0x80)) t (ranged_all n) a.2 in
    let d = div_suc n c in
    let e : 0x80 + c / 64 ^ n % 64 ≡ b = omega arith in
    rw (within_yes lo hi b a.0 a.1) (rw (e, ih.0) refl, omega arith)

-- the first of the later bytes of c is as due
abbrev Second : ℕ → ℕ → ℕ → ℕ → Type 0
Second zero lo hi c = Unit {0}
Second (suc n) lo hi c = (lo ≤ 0x80 + c / 64 ^ n % 64) × (0x80 + c / 64 ^ n % 64 ≤ hi)

second_due : (n lo hi c : ℕ) → Second n lo hi c → AsDue n lo hi (later n c)
second_due zero lo hi c s = tt
second_due (suc n) lo hi c s = (s.0, s.1, later_due n c)

due_second : (n lo hi c : ℕ) → AsDue n lo hi (later n c) → Second n lo hi c
due_second zero lo hi c a = tt
due_second (suc n) lo hi c a = (a.0, a.1)

-- where the scalars of n later bytes begin
abbrev edge : ℕ → ℕ
edge zero = 0
edge (suc zero) = 0x80
edge (suc (suc zero)) = 0x800
edge (suc (suc (suc zero))) = 0x10000
edge (suc (suc (suc (suc n)))) = 0x110000

more_edge : (n c : ℕ) → edge n ≤ c → c < edge (suc n) → more c ≡ n
unfolding more
more_edge zero c p q = rw (lt-ltb c 0x80 q)
more_edge (suc zero) c p q = rw (le-ltb c 0x80 p, lt-ltb c 0x800 q)
more_edge (suc (suc zero)) c p q = rw (le-ltb c 0x80 (omega arith), le-ltb c 0x800 p, lt-ltb c 0x10000 q)
more_edge (suc (suc (suc zero))) c p q = rw (le-ltb c 0x80 (omega arith), le-ltb c 0x800 (omega arith), le-ltb c 0x10000 p)
more_edge (suc (suc (suc (suc n)))) c p q = absurd (omega arith)

pub is_scalar_yes : (c : ℕ) → c ≤ 0x10FFFF → (0xD800 ≤ c → 0xDFFF < c) → is_scalar c ≡ true
unfolding is_scalar
is_scalar_yes c p q = go (within 0xD800 0xDFFF c) refl
  where
    go : (x : Bool) → within 0xD800 0xDFFF c ≡ x → (leb c 0x10FFFF && not (within 0xD800 0xDFFF c)) ≡ true
    go true w = let k = within_bounds 0xD800 0xDFFF c w in let l = q k.0 in absurd (omega arith)
    go false w = rw (le-leb c 0x10FFFF p, w)

pub is_scalar_bounds : (c : ℕ) → is_scalar c ≡ true → (c ≤ 0x10FFFF) × (0xD800 ≤ c → 0xDFFF < c)
unfolding is_scalar
is_scalar_bounds c h = (
  leb-true c 0x10FFFF (and_left (leb c 0x10FFFF) (not (within 0xD800 0xDFFF c)) h),
  within_outside 0xD800 0xDFFF c (not-true (within 0xD800 0xDFFF c) (and_right (leb c 0x10FFFF) (not (within 0xD800 0xDFFF c)) h)),
)

-- a row's characters are scalars that have its length
abbrev Sound : ℕ → ℕ → ℕ → ℕ → ℕ → Type 0
Sound f u n lo hi =
    (c : ℕ) → f ≤ base n + c / 64 ^ n → base n + c / 64 ^ n ≤ u → Second n lo hi c
    → (edge n ≤ c) × (c < edge (suc n)) × (c ≤ 0x10FFFF) × (0xD800 ≤ c → 0xDFFF < c)

rows_sound : Rows Sound leads
rows_sound = (omega arith, (omega arith, (omega arith, (omega arith, (omega arith, (omega arith, (omega arith, (omega arith, (omega arith, tt)))))))))

lead_sound : (n lo hi c : ℕ) → lead (base n + c / 64 ^ n) ≡ due n lo hi → Second n lo hi c → (more c ≡ n) × (is_scalar c ≡ true)
lead_sound n lo hi c e s =
    let r = lead_row Sound rows_sound (base n + c / 64 ^ n) n lo hi e in
    let k = r.holds c r.above r.below s in
    (more_edge n c k.0 k.1, is_scalar_yes c k.2 k.3)

-- the scalars of a row, and their first two bytes
abbrev least : ℕ → ℕ → ℕ → ℕ
least f zero lo = f
least f (suc n) lo = ((f - base (suc n)) * 64 + (lo - 0x80)) * 64 ^ n

abbrev most : ℕ → ℕ → ℕ → ℕ
most u zero hi = u
most u (suc n) hi = ((u - base (suc n)) * 64 + (hi - 0x80)) * 64 ^ n + (64 ^ n - 1)

abbrev Inside : ℕ → ℕ → ℕ → ℕ → ℕ → Type 0
Inside f u n lo hi = (c : ℕ) → least f n lo ≤ c → c ≤ most u n hi → (f ≤ base n + c / 64 ^ n) × (base n + c / 64 ^ n ≤ u) × Second n lo hi c

rows_inside : Rows Inside leads
rows_inside = (omega arith, (omega arith, (omega arith, (omega arith, (omega arith, (omega arith, (omega arith, (omega arith, (omega arith, tt)))))))))

-- the next scalar
abbrev next : ℕ → ℕ
next c = if eqb c 0xD7FF then 0xE000 else suc c

next_least : (h c : ℕ) → h < c → (0xD800 ≤ c → 0xDFFF < c) → next h ≤ c
next_least h c p q = go (eqb h 0xD7FF) refl
  where
    go : (x : Bool) → eqb h 0xD7FF ≡ x → (if x then 0xE000 else suc h) ≤ c
    go true e = let z = eqb-true h 0xD7FF e in q (omega arith)
    go false e = p

-- the rows' first bytes rise from x, and their scalars from k on leave none out
abbrev Covers : ℕ → ℕ → List (ℕ × ℕ × ℕ × ℕ × ℕ) → Type 0
Covers x k [] = 0x10FFFF < k
Covers x k (r ∷ rs) = (x ≤ r.0) × (r.0 ≤ r.1) × (least r.0 r.2 r.3 ≤ k) × Covers (suc r.1) (next (most r.1 r.2 r.4)) rs

rows_cover : Covers 0 0 leads
rows_cover = omega arith

-- the row of a scalar
record Found (rs : List (ℕ × ℕ × ℕ × ℕ × ℕ)) (x c : ℕ) : Type 0 where
  n : ℕ
  lo : ℕ
  hi : ℕ
  from : x ≤ base n + c / 64 ^ n
  begins : lead_in rs (base n + c / 64 ^ n) ≡ due n lo hi
  second : Second n lo hi c

lead_in_scalar : (rs : List (ℕ × ℕ × ℕ × ℕ × ℕ)) (x k : ℕ) → Rows Inside rs → Covers x k rs
    → (c : ℕ) → k ≤ c → c ≤ 0x10FFFF → (0xD800 ≤ c → 0xDFFF < c) → Found rs x c
lead_in_scalar [] x k i v c p q s = absurd (omega arith)
lead_in_scalar (r ∷ rs) x k i v c p q s =
    go (dec_le c (most r.1 r.2 r.4)) (λ p. lead_in_scalar rs (suc r.1) (next (most r.1 r.2 r.4)) i.1 v.3 c p q s)
  where
    go : Dec (c ≤ most r.1 r.2 r.4) → (next (most r.1 r.2 r.4) ≤ c → Found rs (suc r.1) c) → Found (r ∷ rs) x c
    go (yes l) ih =
        let m : least r.0 r.2 r.3 ≤ c = omega arith in
        let k = i.0 c m l in
        record {
          n = r.2;
          lo = r.3;
          hi = r.4;
          from = omega arith;
          begins = rw (within_yes r.0 r.1 (base r.2 + c / 64 ^ r.2) k.0 k.1);
          second = k.2;
        }
    go (no l) ih =
        let f = ih (next_least (most r.1 r.2 r.4) c (omega arith) s) in
        let b = base f.n + c / 64 ^ f.n in
        record {
          n = f.n;
          lo = f.lo;
          hi = f.hi;
          from = omega arith;
          begins = rw (within_above r.0 r.1 b (omega arith)) f.begins;
          second = f.second;
        }

-- a scalar's encoding, byte by byte: b its first byte, t the n later ones
pub record Decodes (c : ℕ) : Type 0 where
  pub b : ℕ
  pub t : List ℕ
  pub n : ℕ
  pub lo : ℕ
  pub hi : ℕ
  pub spelled : encode c ≡ b ∷ t
  pub begins : lead b ≡ due n lo hi
  pub as_due : AsDue n lo hi t
  pub sized : length t ≡ n
  pub value : gather n lo hi (b - base n) t ≡ c

pub encode_more : (c n : ℕ) → more c ≡ n → encode c ≡ (base n + c / 64 ^ n) ∷ later n c
unfolding encode
encode_more c n e = rw e

pub encode_decodes : (c : ℕ) → is_scalar c ≡ true → Decodes c
unfolding lead
encode_decodes c h =
    let k = is_scalar_bounds c h in
    let f = lead_in_scalar leads 0 0 rows_inside rows_cover c (omega arith) k.0 k.1 in
    let a = second_due f.n f.lo f.hi c f.second in
    let v : base f.n + c / 64 ^ f.n - base f.n ≡ c / 64 ^ f.n = omega arith in
    record {
      b = base f.n + c / 64 ^ f.n;
      t = later f.n c;
      n = f.n;
      lo = f.lo;
      hi = f.hi;
      spelled = encode_more c f.n (lead_sound f.n f.lo f.hi c f.begins f.second).0;
      begins = f.begins;
      as_due = a;
      sized = due_length f.n f.lo f.hi (later f.n c) a;
      value = rw v (gather_later f.n f.lo f.hi c a);
    }

rows_base : Rows (λ f u n lo hi. base n ≤ f) leads
rows_base = omega arith

-- a first byte and the bytes that it makes due are the encoding of a scalar, of the number that they make
pub gather_encode : (b n lo hi : ℕ) (t : List ℕ) → lead b ≡ due n lo hi → AsDue n lo hi t
    → (is_scalar (gather n lo hi (b - base n) t) ≡ true) × (encode (gather n lo hi (b - base n) t) ≡ b ∷ t)
gather_encode b n lo hi t e a =
    let c = gather n lo hi (b - base n) t in
    let k = later_gather n lo hi (b - base n) t (rw e at (lead_good b)) a in
    let r = lead_row (λ f u n lo hi. base n ≤ f) rows_base b n lo hi e in
    let w : base n + c / 64 ^ n ≡ b = omega arith in
    let m = lead_sound n lo hi c (rw w e) (due_second n lo hi c (rw k.0 a)) in
    (m.1, encode_more c n m.0 ∙ rw (w, k.0) refl)

pub encode_utf8 : (c : ℕ) → is_scalar c ≡ true → utf8 (encode c) ≡ true
unfolding utf8
encode_utf8 c h =
    let d = encode_decodes c h in
    rw d.spelled (ap (λ (s : Due). whole (pushes s d.t)) d.begins ∙ due_whole d.n d.lo d.hi d.t d.as_due)

pub later_length : (n c : ℕ) → length (later n c) ≡ n
later_length n c = due_length n 0x80 0xBF (later n c) (later_due n c)

pub encode_length : (c : ℕ) → length (encode c) ≡ suc (more c)
unfolding encode
encode_length c = ap suc (later_length (more c) c)
