-- A loop that gathers the number of a character, byte after byte: what the bytes still due make of the number so far is the character's number.
-- The number keeps below `room`, so that it fits 32 bits. Assumes nothing.
use mathlib.Core.Path.{◌≡◌, refl, sym, ◌∙◌}
use mathlib.Core.Bool.{Bool, true, false, false≢true}
use mathlib.Core.List.{List, [], ◌∷◌}
use Prim.Native.Nat.{ℕ, zero, suc, ◌+◌, ◌-◌, ◌*◌, ◌%◌, ◌≤◌, ◌<◌}
use native.Mathlib.Numerals.{add-one}
use native.Mathlib.Omega.{arith}
use lib.ListN.{length, drop, get_or, drop_of_length-le}
use lib.Seq.{drop-cons}
use Rattle.meaning.specs.Bytes.{within}
use Rattle.std.specs.Prelude.{if◌then◌else◌}
use Rattle.meaning.specs.Chars.{Due, due, broken, lead, push, whole, gather}
use Rattle.laws.proofs.basics.Tests.{within_bounds}
use Rattle.laws.proofs.utf8.Utf8.{Good, lead_good, push_good}
use Rattle.scalars.specs.Scalars.{pending, lead_bits_by, lead_bits, scalar_from, scalar_of}
use Rattle.laws.proofs.utf8.Leads.{lead_by}

abbrev gather_by : Due → ℕ → List ℕ → ℕ
gather_by broken v t = 0
gather_by (due n lo hi) v t = gather n lo hi v t

scalar_gathers : (d : Due) (b : ℕ) (t : List ℕ) → gather_by d (lead_bits_by d b) t ≡ scalar_from d b t
scalar_gathers broken b t = refl
scalar_gathers (due n lo hi) b t = refl

-- a byte that is due is from 80 to BF, so its low six bits are what it adds
gather_push : (d : Due) → pending d ≡ true → Good d → (v b : ℕ) (t : List ℕ) → gather_by (push d b) (v * 64 + b % 64) t ≡ gather_by d v (b ∷ t)
gather_push broken p g v b t = refl
gather_push (due zero lo hi) p g v b t = absurd (false≢true p)
gather_push (due (suc n) lo hi) p g v b t = go (within lo hi b) refl
  where
    go : (x : Bool) → within lo hi b ≡ x
        → gather_by (if x then due n 0x80 0xBF else broken) (v * 64 + b % 64) t ≡ (if x then gather n 0x80 0xBF (v * 64 + (b - 0x80)) t else 0)
    go true w =
        let k = within_bounds lo hi b w in
        let e : v * 64 + b % 64 ≡ v * 64 + (b - 0x80) = omega arith in
        rw e
    go false w = refl

-- how large a number is to which n bytes are to come
abbrev room : ℕ → ℕ
room zero = 0x200000
room (suc zero) = 0x8000
room (suc (suc zero)) = 0x200
room (suc (suc (suc zero))) = 8
room (suc (suc (suc (suc n)))) = 0

abbrev Small : Due → ℕ → Type 0
Small broken v = Unit {0}
Small (due n lo hi) v = v < room n

lead_small : (b : ℕ) → Small (lead b) (lead_bits_by (lead b) b)
lead_small b = lead_by (λ d. Small d (lead_bits_by d b)) b (omega arith)

room_next : (n v x : ℕ) → v < room (suc n) → x < 64 → v * 64 + x < room n
room_next zero v x h k = omega arith
room_next (suc zero) v x h k = omega arith
room_next (suc (suc zero)) v x h k = omega arith
room_next (suc (suc (suc n))) v x h k = absurd (omega arith)

small_push : (d : Due) → pending d ≡ true → (v b : ℕ) → Small d v → Small (push d b) (v * 64 + b % 64)
small_push broken p v b s = tt
small_push (due zero lo hi) p v b s = absurd (false≢true p)
small_push (due (suc n) lo hi) p v b s = go (within lo hi b)
  where
    go : (x : Bool) → Small (if x then due n 0x80 0xBF else broken) (v * 64 + b % 64)
    go true = room_next n v (b % 64) s (omega arith)
    go false = tt

room_low : (n : ℕ) → room (suc n) ≤ 0x8000
room_low zero = omega arith
room_low (suc zero) = omega arith
room_low (suc (suc zero)) = omega arith
room_low (suc (suc (suc n))) = omega arith

small_low : (d : Due) → pending d ≡ true → (v : ℕ) → Small d v → v < 0x8000
small_low broken p v s = absurd (false≢true p)
small_low (due zero lo hi) p v s = absurd (false≢true p)
small_low (due (suc n) lo hi) p v s = omega (arith, room_low n)

-- THE LOOP
pub record Gathering (text : List ℕ) (at : ℕ) (d : Due) (number i : ℕ) : Type 0 where
  pub inside : i ≤ length text
  pub same : gather_by d number (drop i text) ≡ scalar_of (drop at text)
  pub small : Small d number
  pub good : Good d

pub gathering_none : (text : List ℕ) (at : ℕ) → length text ≤ at → 0 ≡ scalar_of (drop at text)
gathering_none text at h = rw (drop_of_length-le text h)

pub gathering_start : (text : List ℕ) (at : ℕ) (d : Due) (number : ℕ) → at < length text → d ≡ lead (get_or text at 0) → number ≡ lead_bits (get_or text at 0)
    → Gathering text at d number (at + 1)
unfolding lead_bits
gathering_start text at d number h p q = record {
  inside = omega arith;
  same = rw (q, p, add-one at, drop-cons text at 0 h) (scalar_gathers (lead (get_or text at 0)) (get_or text at 0) (drop (suc at) text));
  small = rw (q, p) (lead_small (get_or text at 0));
  good = rw p (lead_good (get_or text at 0));
}

module _ {text : List ℕ} {at : ℕ} {d : Due} {number i : ℕ} (v : Gathering text at d number i) {more : Bool} (m : more ≡ pending d) where
  module _ (y : more ≡ true) where
    pub gathering_low : number < 0x8000
    gathering_low = small_low d (sym m ∙ y) number v.small

    pub gathering_on : i < length text → (next : Due) → next ≡ push d (get_or text i 0) → (low : ℕ) → low ≡ get_or text i 0 % 64
        → Gathering text at next (number * 64 + low) (i + 1)
    gathering_on h next e low el = rw el record {
      inside = omega arith;
      same =
          rw (e, add-one i) (gather_push d (sym m ∙ y) v.good number (get_or text i 0) (drop (suc i) text))
          ∙ (rw (drop-cons text i 0 h) at v.same);
      small = rw e (small_push d (sym m ∙ y) number (get_or text i 0) v.small);
      good = rw e (push_good d (get_or text i 0) v.good);
    }

-- THE END of the loop, told by whether the character is whole
module _ {text : List ℕ} {at : ℕ} {d : Due} {number i : ℕ} (v : Gathering text at d number i) {all : Bool} (w : all ≡ whole d) where
  pub gathering_whole : all ≡ true → number ≡ scalar_of (drop at text)
  gathering_whole y = go d (sym w ∙ y) v.same
    where
      go : (d : Due) → whole d ≡ true → gather_by d number (drop i text) ≡ scalar_of (drop at text) → number ≡ scalar_of (drop at text)
      go broken p e = absurd (false≢true p)
      go (due zero lo hi) p e = e
      go (due (suc k) lo hi) p e = absurd (false≢true p)

  -- the text is at its end, with a byte due or not
  pub gathering_short : all ≡ false → length text ≤ i → 0 ≡ scalar_of (drop at text)
  gathering_short y h = go d (sym w ∙ y) (rw (drop_of_length-le text h) at v.same)
    where
      go : (d : Due) → whole d ≡ false → gather_by d number [] ≡ scalar_of (drop at text) → 0 ≡ scalar_of (drop at text)
      go broken p e = e
      go (due zero lo hi) p e = absurd (false≢true (sym p))
      go (due (suc n) lo hi) p e = e

  pub gathering_broken : all ≡ false → {more : Bool} → more ≡ pending d → more ≡ false → 0 ≡ scalar_of (drop at text)
  gathering_broken y m n = go d (sym m ∙ n) (sym w ∙ y) v.same
    where
      go : (d : Due) → pending d ≡ false → whole d ≡ false → gather_by d number (drop i text) ≡ scalar_of (drop at text) → 0 ≡ scalar_of (drop at text)
      go broken p q e = e
      go (due zero lo hi) p q e = absurd (false≢true (sym q))
      go (due (suc k) lo hi) p q e = absurd (false≢true (sym p))
