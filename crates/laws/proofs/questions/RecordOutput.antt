-- [01 Record program litrec] What the record program prints, record by record and block by block: "a line for each 64 bytes, and one for a short last
-- record; nothing for no input". Assumes nothing.
use mathlib.Core.Path.{◌≡◌, refl, ap, ap₂, sym, ◌∙◌}
use mathlib.Core.List.{List, [], ◌∷◌, ◌++◌, append_assoc, map, flatten}
use Prim.Native.Nat.{ℕ, zero, suc, ◌*◌, ◌≤◌, ◌<◌}
use native.Mathlib.Omega.{arith}
use lib.ListN.{length, take, drop, length-append, length-drop}
use lib.Seq.{take-append-le, drop-append-le}
use Rattle.meaning.specs.Walk.{value}
use Rattle.meaning.specs.Records.{record_line, record_step, output}
use Rattle.laws.proofs.walking.Walks.{walk_drop}
use Rattle.laws.proofs.cutting.Cuts.{Each}

pub output_none : output [] ≡ []
unfolding output
output_none = refl

-- the first record, and the rest
pub output_first : (t : List ℕ) → 0 < length t → output t ≡ record_line (take 64 t) ++ output (drop 64 t)
unfolding output
output_first [] h = absurd (omega arith)
output_first (b ∷ t) h = ap (λ (r : List ℕ). record_line (take 64 (b ∷ t)) ++ r) (ap value (walk_drop record_step 63 t))

-- whole records, and what follows them
pub output_append : (k : ℕ) (a b : List ℕ) → length a ≡ 64 * k → output (a ++ b) ≡ output a ++ output b
output_append zero [] b h = ap (◌++ output b) (sym output_none)
output_append zero (x ∷ a) b h = absurd (let z : ⊥ = omega arith in z)
output_append (suc k) a b h =
    let l : 64 ≤ length a = omega arith in
    let n : length (drop 64 a) ≡ 64 * k = length-drop 64 a ∙ omega arith in
    output_first (a ++ b) (omega (arith, length-append a b))
    ∙ ap₂ (λ (x y : List ℕ). record_line x ++ output y) (take-append-le 64 a b l) (drop-append-le 64 a b l)
    ∙ ap (record_line (take 64 a) ++◌) (output_append k (drop 64 a) b n)
    ∙ sym (append_assoc (record_line (take 64 a)) (output (drop 64 a)) (output b))
    ∙ ap (◌++ output b) (sym (output_first a (omega arith)))

-- BLOCK BY BLOCK: where every block but the last is of whole records, what the blocks print, one behind the other, is what the whole input prints
pub blocks_output : (k : ℕ) (whole : List (List ℕ)) (last : List ℕ) → Each (λ b. length b ≡ 64 * k) whole
    → output (flatten whole ++ last) ≡ flatten (map output whole) ++ output last
unfolding flatten
blocks_output k [] last h = refl
blocks_output k (b ∷ bs) last h =
    ap output (append_assoc b (flatten bs) last)
    ∙ output_append k b (flatten bs ++ last) h.0
    ∙ ap (output b ++◌) (blocks_output k bs last h.1)
    ∙ sym (append_assoc (output b) (flatten (map output bs)) (output last))
