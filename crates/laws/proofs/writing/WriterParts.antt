-- [01 The writer] The parts that a value is cut into: together they are the value; each is UTF-8; none but the empty value's is empty; none is longer
-- than the part size; and none could have taken one more character. Assumes nothing.
use mathlib.Core.Path.{◌≡◌, refl, ap, sym, subst}
use mathlib.Core.Bool.{Bool, true, false, ◌&&◌, ◌||◌, not, false≢true}
use mathlib.Core.List.{List, [], ◌∷◌, ◌++◌, append-nil, append_assoc}
use Prim.Native.Nat.{ℕ, zero, suc, ◌+◌, ◌-◌, ◌≤◌, ◌<◌}
use native.Mathlib.Omega.{arith}
use lib.Dec.{ltb}
use lib.ListN.{length}
use borrow.Author.Tests.{lt-ltb, le-ltb, ltb-true, ltb-false}
use Rattle.meaning.specs.declared.Settings.{Settings}
use Rattle.meaning.specs.declared.PartSize.{PartSize}
use Rattle.meaning.specs.declared.PartSize.TheVariants.{Whole, AtMost}
use Rattle.meaning.specs.Bytes.{◌!◌, has, within}
use Rattle.std.specs.Prelude.{if◌then◌else◌}
use Rattle.meaning.specs.Chars.{Due, due, broken, fresh, push, pushes, whole, utf8, lead, leads, width, width_by}
use Rattle.meaning.specs.Writer.{on_first, parts_from, parts_of, part_too_small, over_limit, unwritable_nul, written_text, writes, write_question}
use Rattle.laws.proofs.basics.Tests.{or_left, or_right}
use Rattle.laws.proofs.utf8.Utf8.{pushes_append, pushes_broken, Rows, lead_row, Good, lead_good, push_good, fresh_good, later_lead}
use Rattle.laws.proofs.utf8.Sequences.{utf8_split}
use Rattle.laws.proofs.basics.Enclosed.{has_append}
use Rattle.laws.proofs.writing.Written.{writable}
use Rattle.laws.proofs.writing.Writers.{tried_writes}

abbrev pub concat : List (List ℕ) → List ℕ
concat [] = []
concat (p ∷ ps) = p ++ concat ps

abbrev pub Every : (List ℕ → Type 0) → List (List ℕ) → Type 0
Every P [] = Unit {0}
Every P (p ∷ ps) = P p × Every P ps

-- The cutting of v, as it goes: the part p at hand, which may take n bytes more, and the parts ps behind it. A byte that begins a character too wide
-- for p begins the next part.
pub data Fill (w : ℕ) : ℕ → List ℕ → List ℕ → List (List ℕ) → Type 0 where
  over : {n : ℕ} → Fill w n [] [] []
  opens : {n b : ℕ} {v p : List ℕ} {ps : List (List ℕ)} → n < width b → Fill w (w - 1) v p ps → Fill w n (b ∷ v) [] ((b ∷ p) ∷ ps)
  takes : {n b : ℕ} {v p : List ℕ} {ps : List (List ℕ)} → width b ≤ n → Fill w (n - 1) v p ps → Fill w n (b ∷ v) (b ∷ p) ps

pub record FillsAs (w n : ℕ) (v : List ℕ) (all : List (List ℕ)) : Type 0 where
  pub first : List ℕ
  pub others : List (List ℕ)
  pub are : all ≡ first ∷ others
  pub course : Fill w n v first others

pub parts_from_fills : (w n : ℕ) (v : List ℕ) → FillsAs w n v (parts_from w n v)
parts_from_fills w n [] = record { first = []; others = []; are = refl; course = over }
parts_from_fills w n (b ∷ v) = go (ltb n (width b)) refl (parts_from_fills w (w - 1) v) (parts_from_fills w (n - 1) v)
  where
    go : (x : Bool) → ltb n (width b) ≡ x → FillsAs w (w - 1) v (parts_from w (w - 1) v) → FillsAs w (n - 1) v (parts_from w (n - 1) v)
        → FillsAs w n (b ∷ v) (elim x [ true ↦ [] ∷ on_first b (parts_from w (w - 1) v) | false ↦ on_first b (parts_from w (n - 1) v) ])
    go true e f g =
        record { first = []; others = (b ∷ f.first) ∷ f.others; are = rw f.are; course = opens (ltb-true n (width b) e) f.course }
    go false e f g = record { first = b ∷ g.first; others = g.others; are = rw g.are; course = takes (ltb-false n (width b) e) g.course }

-- TOGETHER they are the value
pub fill_concat : {w n : ℕ} {v p : List ℕ} {ps : List (List ℕ)} → Fill w n v p ps → p ++ concat ps ≡ v
fill_concat over = refl
fill_concat (opens {b = b} h f) = ap (b ∷◌) (fill_concat f)
fill_concat (takes {b = b} h f) = ap (b ∷◌) (fill_concat f)

pub parts_from_concat : (w n : ℕ) (v : List ℕ) → concat (parts_from w n v) ≡ v
parts_from_concat w n v = let f = parts_from_fills w n v in rw f.are (fill_concat f.course)

-- NONE EMPTY, of those behind the first
abbrev pub Some : List ℕ → Type 0
Some p = 0 < length p

pub fill_some : {w n : ℕ} {v p : List ℕ} {ps : List (List ℕ)} → Fill w n v p ps → Every Some ps
fill_some over = tt
fill_some (opens h f) = (omega arith, fill_some f)
fill_some (takes h f) = fill_some f

-- GREEDY. A part and the first character of the next are more than fits: n bytes for the first part, w for each other
abbrev pub Full : ℕ → ℕ → List ℕ → List (List ℕ) → Type 0
Full w n p [] = Unit {0}
Full w n p (q ∷ qs) = (n < length p + width (q ! 0)) × Full w w q qs

full_more : (w n b : ℕ) (p : List ℕ) (ps : List (List ℕ)) → Full w (n - 1) p ps → Full w n (b ∷ p) ps
full_more w n b p [] f = tt
full_more w n b p (q ∷ qs) f = let h = f.0 in (omega arith, f.1)

pub fill_full : {w n : ℕ} {v p : List ℕ} {ps : List (List ℕ)} → Fill w n v p ps → Full w n p ps
fill_full over = tt
fill_full {w} (opens {b = b} {p = p} {ps = ps} h f) = (omega arith, full_more w w b p ps (fill_full f))
fill_full {w} {n} (takes {b = b} {p = p} {ps = ps} h f) = full_more w n b p ps (fill_full f)

-- UTF-8, AND NOT TOO LONG. What is due fits into the part at hand
abbrev pub Room : Due → ℕ → Type 0
Room broken n = ⊥
Room (due k lo hi) n = (k ≤ n) × Good (due k lo hi)

rows_short : Rows (λ f u n lo hi. n ≤ 3) leads
rows_short = omega arith

-- a character has four bytes at the most
pub lead_short : (b n lo hi : ℕ) → lead b ≡ due n lo hi → n ≤ 3
lead_short b n lo hi e = (lead_row (λ f u n lo hi. n ≤ 3) rows_short b n lo hi e).holds

pub width_most : (b : ℕ) → width b ≤ 4
unfolding width
width_most b = go (lead b) refl
  where
    go : (d : Due) → lead b ≡ d → width_by d ≤ 4
    go broken e = omega arith
    go (due n lo hi) e = let s = lead_short b n lo hi e in omega arith

broken_never : (t : List ℕ) → whole (pushes broken t) ≡ true → ⊥
broken_never t h = false≢true (rw (pushes_broken t) at h)

-- a byte that fits leaves room for what is then due
room_push : (d : Due) (b n : ℕ) (t : List ℕ) → Room d n → width b ≤ n → whole (pushes (push d b) t) ≡ true → Room (push d b) (n - 1) × (0 < n)
unfolding width
room_push broken b n t r l h = absurd r
room_push (due zero lo hi) b n t r l h = go (lead b) (lead_good b) l h
  where
    go : (d : Due) → Good d → width_by d ≤ n → whole (pushes d t) ≡ true → Room d (n - 1) × (0 < n)
    go broken g l h = absurd (broken_never t h)
    go (due k lo hi) g l h = ((omega arith, g), omega arith)
room_push (due (suc k) lo hi) b n t r l h = go (within lo hi b) (push_good (due (suc k) lo hi) b r.1) h
  where
    go : (x : Bool) → Good (if x then due k 0x80 0xBF else broken) → whole (pushes (if x then due k 0x80 0xBF else broken) t) ≡ true
        → Room (if x then due k 0x80 0xBF else broken) (n - 1) × (0 < n)
    go true g h = let i = r.0 in ((omega arith, g), omega arith)
    go false g h = absurd (broken_never t h)

-- a byte that begins a character is none of 80 to BF
pub width_apart : (b : ℕ) → 0 < width b → within 0x80 0xBF b ≡ false
unfolding width
width_apart b h = go (within 0x80 0xBF b) refl
  where
    go : (x : Bool) → within 0x80 0xBF b ≡ x → x ≡ false
    go true w = let z : width_by (lead b) ≡ 0 = rw (later_lead b w) in absurd (omega arith)
    go false w = refl

-- p, of w bytes at the most, is UTF-8 behind a
pub record Fine (a : List ℕ) (w : ℕ) (p : List ℕ) : Type 0 where
  pub valid : utf8 (a ++ p) ≡ true
  pub short : length p ≤ w

-- a is what the part at hand has already
pub fill_fine : {w n : ℕ} {v p : List ℕ} {ps : List (List ℕ)} → Fill w n v p ps → 4 ≤ w → (a : List ℕ) → Room (pushes fresh a) n → utf8 (a ++ v) ≡ true
    → Fine a n p × Every (Fine [] w) ps
unfolding utf8
fill_fine over h a r e = (record { valid = e; short = omega arith }, tt)
fill_fine {n = n} (takes {b = b} {v = v} {p = p} l f) h a r e =
    let g = room_push (pushes fresh a) b n v r l (rw (pushes_append fresh a (b ∷ v)) at e) in
    let i = fill_fine f h (a ++ (b ∷ [])) (rw (pushes_append fresh a (b ∷ [])) g.0) (rw (append_assoc a (b ∷ []) v) e) in
    (record { valid = rw (append_assoc a (b ∷ []) p) at i.0.valid; short = omega arith }, i.1)
fill_fine {w = w} (opens {b = b} {v = v} l f) h a r e =
    let s = utf8_split a (b ∷ v) (width_apart b (omega arith)) e in
    let k = width_most b in
    let g = room_push fresh b w v (omega arith, fresh_good) (omega arith) s.1 in
    let i = fill_fine f h (b ∷ []) g.0 s.1 in
    (record { valid = rw (append-nil a) s.0; short = omega arith }, (record { valid = i.0.valid; short = omega arith }, i.1))

pub fill_first : {w n : ℕ} {v p : List ℕ} {ps : List (List ℕ)} → Fill w n v p ps → 4 ≤ n → Some v → Some p
fill_first over h s = absurd (omega arith)
fill_first (opens {b = b} l f) h s = let k = width_most b in absurd (omega arith)
fill_first (takes l f) h s = omega arith

-- TWO NEIGHBOURS hold five bytes or more: what is due is there
due_fits : (k lo hi : ℕ) (t : List ℕ) → whole (pushes (due k lo hi) t) ≡ true → k ≤ length t
due_fits zero lo hi t h = omega arith
due_fits (suc k) lo hi [] h = absurd (false≢true h)
due_fits (suc k) lo hi (b ∷ t) h = go (within lo hi b) h (due_fits k 0x80 0xBF t)
  where
    go : (x : Bool) → whole (pushes (if x then due k 0x80 0xBF else broken) t) ≡ true → (whole (pushes (due k 0x80 0xBF) t) ≡ true → k ≤ length t)
        → suc k ≤ suc (length t)
    go true h ih = let i = ih h in omega arith
    go false h ih = absurd (broken_never t h)

pub first_fits : (b : ℕ) (t : List ℕ) → utf8 (b ∷ t) ≡ true → width b ≤ length (b ∷ t)
unfolding utf8 width
first_fits b t h = go (lead b) h
  where
    go : (d : Due) → whole (pushes d t) ≡ true → width_by d ≤ suc (length t)
    go broken h = omega arith
    go (due k lo hi) h = let i = due_fits k lo hi t h in omega arith

abbrev pub Five : List (List ℕ) → Type 0
Five [] = Unit {0}
Five (p ∷ []) = Unit {0}
Five (p ∷ (q ∷ ps)) = (5 ≤ length p + length q) × Five (q ∷ ps)

full_five : (w : ℕ) → 4 ≤ w → (p : List ℕ) (ps : List (List ℕ)) → Full w w p ps → Every Some ps → Every (Fine [] w) ps → Five (p ∷ ps)
full_five w h p [] f s u = tt
full_five w h p ([] ∷ qs) f s u = let i = s.0 in absurd (omega arith)
full_five w h p ((c ∷ q) ∷ qs) f s u =
    let i = f.0 in let k = first_fits c q u.0.valid in (omega arith, full_five w h (c ∷ q) qs f.1 s.1 u.1)

-- ALL OF IT, for a part size
abbrev pub Greedy : ℕ → List (List ℕ) → Type 0
Greedy w [] = Unit {0}
Greedy w (p ∷ ps) = Full w w p ps

pub record Portioned (w : ℕ) (v : List ℕ) (ps : List (List ℕ)) : Type 0 where
  pub together : concat ps ≡ v
  pub fine : Every (Fine [] w) ps
  pub some : Some v → Every Some ps
  pub greedy : Greedy w ps
  pub five : Five ps

pub parts_from_portions : (w : ℕ) (v : List ℕ) → 4 ≤ w → utf8 v ≡ true → Portioned w v (parts_from w w v)
unfolding utf8
parts_from_portions w v h u =
    let f = parts_from_fills w w v in
    let c = f.course in
    let i = fill_fine c h [] (omega arith, fresh_good) u in
    subst (Portioned w v) (sym f.are) (record {
      together = fill_concat c;
      fine = i;
      some = λ s. (fill_first c h s, fill_some c);
      greedy = fill_full c;
      five = full_five w h f.first f.others (fill_full c) (fill_some c) i.1;
    })

-- WHOLE OR IN PARTS
abbrev pub Valid : List ℕ → Type 0
Valid p = utf8 p ≡ true

-- at every size, and of every value
pub parts_of_concat : (size : PartSize) (v : List ℕ) → concat (parts_of size v) ≡ v
parts_of_concat Whole v = append-nil v
parts_of_concat (AtMost w) v = parts_from_concat w w v

-- there is always one
pub parts_of_some : (size : PartSize) (v : List ℕ) → 0 < length (parts_of size v)
parts_of_some Whole v = omega arith
parts_of_some (AtMost w) v = rw (parts_from_fills w w v).are (omega arith)

-- at a size that is not too small, of UTF-8
pub record Parted (v : List ℕ) (ps : List (List ℕ)) : Type 0 where
  pub any : 0 < length ps
  pub together : concat ps ≡ v
  pub valid : Every Valid ps
  pub five : Five ps

fine_valid : (w : ℕ) (ps : List (List ℕ)) → Every (Fine [] w) ps → Every Valid ps
fine_valid w [] f = tt
fine_valid w (p ∷ ps) f = (f.0.valid, fine_valid w ps f.1)

pub parts_of_parts : (size : PartSize) (v : List ℕ) → part_too_small size ≡ false → utf8 v ≡ true → Parted v (parts_of size v)
parts_of_parts Whole v h u = record { any = omega arith; together = parts_of_concat Whole v; valid = (u, tt); five = tt }
parts_of_parts (AtMost w) v h u =
    let r = parts_from_portions w v (ltb-false w 4 h) u in
    record { any = rw (parts_from_fills w w v).are (omega arith); together = r.together; valid = fine_valid w (parts_from w w v) r.fine; five = r.five }

-- NUL: the parts of what may be written may be written
abbrev pub Writable : Bool → List ℕ → Type 0
Writable bs p = writable bs p ≡ true

pub writable_append : (bs : Bool) (p q : List ℕ) → writable bs (p ++ q) ≡ true → Writable bs p × Writable bs q
writable_append true p q h = (refl, refl)
writable_append false p q h = go (has 0 p) (has 0 q) (rw (has_append 0 p q) at h)
  where
    go : (x y : Bool) → not (x || y) ≡ true → (not x ≡ true) × (not y ≡ true)
    go true y h = absurd (false≢true h)
    go false y h = (refl, h)

pub nul_writable : (σ : Settings) (v : List ℕ) → unwritable_nul σ v ≡ false → Writable σ.backslash v
unfolding unwritable_nul
nul_writable σ v h = go σ.backslash h
  where
    go : (bs : Bool) → (not bs && has 0 v) ≡ false → Writable bs v
    go true h = refl
    go false h = rw h

-- WHAT THE WRITER ACCEPTS
pub record Accepted (σ : Settings) (size : PartSize) (v : List ℕ) : Type 0 where
  pub limit : over_limit size v ≡ false
  pub valid : utf8 v ≡ true
  pub nul : unwritable_nul σ v ≡ false

pub limit_length : (size : PartSize) (v : List ℕ) → over_limit size v ≡ false → length v ≤ 268435456
unfolding over_limit
limit_length size v h = ltb-false 268435456 (length v) (or_left (ltb 268435456 (length v)) (part_too_small size) h)

pub limit_size : (size : PartSize) (v : List ℕ) → over_limit size v ≡ false → part_too_small size ≡ false
unfolding over_limit
limit_size size v h = or_right (ltb 268435456 (length v)) (part_too_small size) h

-- what is written whole is tested by its length alone
pub whole_within : (v : List ℕ) → length v ≤ 268435456 → over_limit Whole v ≡ false
unfolding over_limit
whole_within v h = rw (le-ltb 268435456 (length v) h)

pub whole_over : (v : List ℕ) → 268435456 < length v → over_limit Whole v ≡ true
unfolding over_limit
whole_over v h = rw (lt-ltb 268435456 (length v) h)

pub accepted_writes : (σ : Settings) (size : PartSize) (v out : List ℕ) → Accepted σ size v → write_question σ size v out ≡ writes (written_text σ size v) out
unfolding write_question
accepted_writes σ size v out a =
    tried_writes (over_limit size v) (utf8 v) (unwritable_nul σ v) (written_text σ size v) out a.limit a.valid a.nul
