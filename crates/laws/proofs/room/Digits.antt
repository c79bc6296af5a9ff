-- How long a bit string's digits can be: shorter than the text by a letter and two marks at least, joined or not; so its packed bytes, of two digits each but
-- for a last one, are fewer than half of the text's. Assumes nothing.
use mathlib.Core.Path.{◌≡◌, refl, ap, sym, ◌∙◌}
use mathlib.Core.Bool.{Bool, true, false, ◌&&◌}
use mathlib.Core.List.{List, [], ◌∷◌}
use Prim.Native.Nat.{ℕ, zero, suc, ◌+◌, ◌-◌, ◌*◌, ◌≤◌}
use native.Mathlib.Omega.{arith}
use lib.Dec.{eqb}
use lib.ListN.{length, take, drop, length-take}
use Rattle.meaning.specs.declared.Settings.{Settings}
use Rattle.meaning.specs.Bytes.{◌!◌, part, ascii, has, quote, all_digits}
use Rattle.std.specs.Prelude.{if◌then◌else◌}
use Rattle.meaning.specs.Walk.{after, walk}
use Rattle.meaning.specs.Cutting.{segment, segment_by, segment_step, cut}
use Rattle.meaning.specs.Reading.{Value, means, fails, value_of, both, as_written}
use Rattle.meaning.specs.Kinds.{bit_body, first_bits, later_bits, borrowed_as, bits_by, bits}
use Rattle.meaning.specs.Packing.{bits_per, bits_in, pack_bits, packed_length}
use Rattle.laws.proofs.walking.Short.{first_short, each_short}
use Rattle.laws.proofs.cutting.Openings.{segment_of_lem, segment_fits}
use Rattle.laws.proofs.joining.Joining.{fails≢means, value_written}
use Rattle.laws.proofs.packing.Gathered.{units_most, length_bits_in, length_pack_bits}
use Rattle.laws.proofs.packing.Segment.{letter_opens, body_right, bits_inside}
use Rattle.laws.proofs.questions.Ranges.{AnswerIn}
use Rattle.laws.proofs.room.Told.{Writes}
use Rattle.laws.proofs.room.Values.{Less, writes_by}

-- BITS. What a segment means is its bytes behind the opening and before the closing mark
body_length : (β n : ℕ) (x : Bool) (s v : List ℕ) → bit_body β n x s ≡ means v → length v ≤ length s - 1 - n
unfolding bit_body
body_length β n x s v e = go (x && all_digits β (part n (length s - 1) s)) e
  where
    go : (y : Bool) → (if y then means (part n (length s - 1) s) else fails 0) ≡ means v → length v ≤ length s - 1 - n
    go true h = let z : part n (length s - 1) s ≡ v = cc in omega (arith, ap length z, length-take (length s - 1 - n) (drop n s))
    go false h = absurd (fails≢means 0 v h)

later_short : (β : ℕ) (s v : List ℕ) → later_bits β s ≡ means v → length v ≤ length s
later_short β s v e = omega (arith, body_length β 1 (eqb (s ! 0) quote) s v e)

-- the first one has a letter before its mark
first_letter : (σ : Settings) (β b n : ℕ) (u v : List ℕ) → segment σ (b ∷ u) ≡ suc n → first_bits β (take (suc n) (b ∷ u)) ≡ means v
    → length v + 3 ≤ length (take (suc n) (b ∷ u))
first_letter σ β b n u v q e =
    let s = segment_of_lem σ (b ∷ u) n q in
    let o = letter_opens b u s.0 (body_right β (take (suc n) (b ∷ u)) v (has b (ascii "BbXx")) e) s.1 in
    omega (
      arith,
      s.3,
      o.0,
      segment_fits σ (b ∷ u) n q,
      length-take (suc n) (b ∷ u),
      body_length β 2 (has b (ascii "BbXx")) (take (suc n) (b ∷ u)) v e,
    )

pub bits_length : (σ : Settings) (β : ℕ) (t v : List ℕ) → value_of t (bits σ β t) ≡ means v → length v + 3 ≤ length t
unfolding bits cut segment_step
bits_length σ β [] v e = absurd (fails≢means 0 v e)
bits_length σ β (b ∷ u) v e = go (segment σ (b ∷ u)) refl (bits_inside σ β (b ∷ u)) e
  where
    t : List ℕ
    t = b ∷ u

    lone : (x : Bool) (y z : Value) → AnswerIn (length t) (if x then borrowed_as 2 (length t - 1) y else as_written (both y z))
        → (both y z ≡ means v → length v + 3 ≤ suc (length u))
        → value_of t (if x then borrowed_as 2 (length t - 1) y else as_written (both y z)) ≡ means v → length v + 3 ≤ suc (length u)
    lone true (means w) z i h g =
        let p : part 2 (length t - 1) t ≡ v = cc in
        omega (arith, i.ordered, ap length p, length-take (length t - 1 - 2) (drop 2 t))
    lone true (fails p) z i h g = absurd (fails≢means p v g)
    lone false y z i h g = h (sym (value_written t (both y z)) ∙ g)

    go : (m : ℕ) → segment σ t ≡ m → AnswerIn (length t) (bits_by β t (after (segment_by t m) b (λ k. walk (segment_step σ) k u)))
        → value_of t (bits_by β t (after (segment_by t m) b (λ k. walk (segment_step σ) k u))) ≡ means v → length v + 3 ≤ suc (length u)
    go zero q i g = absurd (fails≢means 0 v g)
    go (suc n) q i g =
        lone (eqb (length (take (suc n) t)) (length t)) (first_bits β (take (suc n) t)) _ i
        (first_short σ 3 n b u v (first_bits β (take (suc n) t)) (later_bits β) (λ w. first_letter σ β b n u w q) (each_short σ (later_bits β) (later_short β) u)) g

pub bits_writes : (σ : Settings) (β : ℕ) (t : List ℕ) → Writes (Less 3 (length t)) (bits σ β t)
bits_writes σ β t = writes_by (Less 3 (length t)) (bits σ β t) (λ v e. bits_length σ β t v (ap (value_of t) e))

-- PACKED: four bits a digit at the most
pub packed_half : (β : ℕ) (v : List ℕ) → 2 * length (pack_bits (bits_in (bits_per β) v)) ≤ length v + 1
packed_half β v = go (eqb β 2)
  where
    go : (x : Bool) → 2 * length (pack_bits (bits_in (if x then 1 else 4) v)) ≤ length v + 1
    go true = omega (arith, length_pack_bits (bits_in 1 v), ap packed_length (length_bits_in 1 v), (units_most 8 (omega arith) (1 * length v)).1)
    go false = omega (arith, length_pack_bits (bits_in 4 v), ap packed_length (length_bits_in 4 v), (units_most 8 (omega arith) (4 * length v)).1)
