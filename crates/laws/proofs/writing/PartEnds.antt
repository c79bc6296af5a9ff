-- [01 The writer] Where the first part of a value ends: at the last byte in its reach that goes on with no character; the other parts are those of the rest.
-- Assumes nothing.
use mathlib.Core.Path.{◌≡◌, refl, ap, sym, ◌∙◌}
use mathlib.Core.Bool.{Bool, true, false, false≢true}
use mathlib.Core.List.{List, [], ◌∷◌, ◌++◌, append-nil}
use Prim.Native.Nat.{ℕ, zero, suc, ◌+◌, ◌-◌, ◌≤◌, ◌<◌}
use native.Mathlib.Omega.{arith}
use lib.ListN.{length, take, drop, length-append, drop_of_length-le}
use lib.Seq.{take-append_seam, drop-append_seam, take_all, get_or-drop}
use borrow.Author.Tests.{lt-ltb, le-ltb}
use Rattle.meaning.specs.Bytes.{◌!◌, within}
use Rattle.std.specs.Prelude.{if◌then◌else◌}
use Rattle.meaning.specs.Chars.{Due, due, broken, pushes, whole, utf8, lead, width, width_by}
use Rattle.meaning.specs.Writer.{on_first, parts_from}
use Rattle.laws.proofs.basics.Tests.{within_yes, within_bounds}
use Rattle.laws.proofs.utf8.Utf8.{pushes_broken, utf8_append, Ranged, ranged_all, Good, lead_good, fresh_good}
use Rattle.laws.proofs.utf8.Sequences.{utf8_uncut}
use Rattle.laws.proofs.writing.WriterParts.{concat, Every, Fill, over, opens, takes, parts_from_fills, fill_concat, fill_some, fill_full}
use Rattle.laws.proofs.writing.WriterParts.{width_most, Fine, fill_fine, fill_first, first_fits}

-- the bytes of a character behind its first are 80 to BF
due_later : (k lo hi : ℕ) (t : List ℕ) → Ranged k lo hi → whole (pushes (due k lo hi) t) ≡ true → (j : ℕ) → j < k → within 0x80 0xBF (t ! j) ≡ true
due_later zero lo hi t g h j l = absurd (omega arith)
due_later (suc k) lo hi [] g h j l = absurd (false≢true h)
due_later (suc k) lo hi (b ∷ t) g h j l = go (within lo hi b) refl h (due_later k 0x80 0xBF t (ranged_all k)) j l
  where
    go : (x : Bool) → within lo hi b ≡ x → whole (pushes (if x then due k 0x80 0xBF else broken) t) ≡ true
        → (whole (pushes (due k 0x80 0xBF) t) ≡ true → (j : ℕ) → j < k → within 0x80 0xBF (t ! j) ≡ true)
        → (j : ℕ) → j < suc k → within 0x80 0xBF ((b ∷ t) ! j) ≡ true
    go true w h ih zero l = let i = within_bounds lo hi b w in within_yes 0x80 0xBF b (omega arith) (omega arith)
    go true w h ih (suc j) l = ih h j (omega arith)
    go false w h ih j l = absurd (false≢true (rw (pushes_broken t) at h))

char_later : (b : ℕ) (t : List ℕ) → utf8 (b ∷ t) ≡ true → (j : ℕ) → suc j < width b → within 0x80 0xBF (t ! j) ≡ true
unfolding utf8 width
char_later b t h j l = go (lead b) (lead_good b) h l
  where
    go : (d : Due) → Good d → whole (pushes d t) ≡ true → suc j < width_by d → within 0x80 0xBF (t ! j) ≡ true
    go broken g h l = absurd (omega arith)
    go (due k lo hi) g h l = due_later k lo hi t g h j (omega arith)

-- the cutting is the definition's, and behind the first part it goes on as from the start
fill_parts : {w n : ℕ} {v p : List ℕ} {ps : List (List ℕ)} → Fill w n v p ps → parts_from w n v ≡ p ∷ ps
fill_parts over = refl
fill_parts {n = n} (opens {b = b} h f) = rw (lt-ltb n (width b) h, parts_from) (ap (λ (qs : List (List ℕ)). [] ∷ on_first b qs) (fill_parts f))
fill_parts {n = n} (takes {b = b} h f) = rw (le-ltb n (width b) h, parts_from) (ap (on_first b) (fill_parts f))

fill_behind : {w n : ℕ} {v p q : List ℕ} {qs : List (List ℕ)} → Fill w n v p (q ∷ qs) → 4 ≤ w → Fill w w (drop (length p) v) q qs
fill_behind {w} (opens {b = b} h f) k = let l : width b ≤ w = omega (arith, width_most b) in takes l f
fill_behind (takes h f) k = fill_behind f k

-- the parts of what is left, of which there may be nothing
abbrev pub parts_behind : ℕ → List ℕ → List (List ℕ)
parts_behind w [] = []
parts_behind w (b ∷ v) = parts_from w w (b ∷ v)

pub record FirstEnds (w : ℕ) (v : List ℕ) : Type 0 where
  pub end : ℕ
  pub are : parts_from w w v ≡ take end v ∷ parts_behind w (drop end v)
  pub inside : end ≤ length v
  pub few : end ≤ w
  pub some : 0 < length v → 0 < end
  pub front : utf8 (take end v) ≡ true
  pub rest : utf8 (drop end v) ≡ true
  -- which the bytes show
  pub last : length v ≤ w → end ≡ length v
  pub begins : within 0x80 0xBF (v ! end) ≡ false
  pub later : w < length v → (j : ℕ) → end < j → j ≤ w → within 0x80 0xBF (v ! j) ≡ true

pub first_ends : (w : ℕ) (v : List ℕ) → 4 ≤ w → utf8 v ≡ true → FirstEnds w v
unfolding utf8
first_ends w v h u =
    let f = parts_from_fills w w v in
    let i = fill_fine f.course h [] (omega arith, fresh_good) u in
    go f.first f.others f.course i.0 i.1
  where
    go : (p : List ℕ) (ps : List (List ℕ)) → Fill w w v p ps → Fine [] w p → Every (Fine [] w) ps → FirstEnds w v
    go p [] c i k =
        let e : p ≡ v = sym (append-nil p) ∙ fill_concat c in
        let n = length v in
        let s : drop n v ≡ [] = drop_of_length-le v {i = n} (omega arith) in
        let t : take n v ≡ v = take_all n v (omega arith) in
        let a : utf8 (take n v) ≡ true = rw t u in
        let z : utf8 (drop n v) ≡ true = rw s refl in
        record {
          end = n;
          are = fill_parts c ∙ rw (e, t, s);
          inside = omega arith;
          few = omega (arith, i.short, ap length e);
          some = λ l. l;
          front = a;
          rest = z;
          last = λ l. refl;
          begins = (utf8_uncut n v a z).1;
          later = λ l j. absurd (omega (arith, i.short, ap length e));
        }
    go p ([] ∷ qs) c i k = let s = (fill_some c).0 in absurd (omega arith)
    go p ((b ∷ q) ∷ qs) c i k =
        let r = q ++ concat qs in
        let n = length p in
        let e : p ++ (b ∷ r) ≡ v = fill_concat c in
        let s : drop n v ≡ b ∷ r = rw e at (drop-append_seam p (b ∷ r)) in
        let t : take n v ≡ p = rw e at (take-append_seam p (b ∷ r)) in
        let a : utf8 (take n v) ≡ true = rw t i.valid in
        let y : utf8 (b ∷ r) ≡ true = sym (utf8_append p (b ∷ r) i.valid) ∙ rw e u in
        let z : utf8 (drop n v) ≡ true = rw s y in
        let full = (fill_full c).0 in
        record {
          end = n;
          are = fill_parts c ∙ rw (t, s) (ap (p ∷◌) (sym (rw s at (fill_parts (fill_behind c h)))));
          inside = omega (arith, ap length e, length-append p (b ∷ r));
          few = i.short;
          some = fill_first c h;
          front = a;
          rest = z;
          last = λ l. absurd (omega (arith, full, first_fits b r y, ap length e, length-append p (b ∷ r)));
          begins = (utf8_uncut n v a z).1;
          later =
              λ l j d k.
              let o : n + suc (j - n - 1) ≡ j = omega arith in
              let g : (b ∷ r) ! (suc (j - n - 1)) ≡ v ! j = rw (s, o) at (get_or-drop n v (suc (j - n - 1)) 0) in
              rw g at (char_later b r y (j - n - 1) (omega (arith, full)));
        }
