-- How long a value's text is: what its bytes cost, summed by blocks, is the length of its spelling; one of which each byte stands for itself is its own
-- spelling. Assumes nothing.
use mathlib.Core.Path.{◌≡◌, refl, ap, sym, ◌∙◌}
use mathlib.Core.Bool.{Bool, true, false, ◌&&◌, ◌||◌, not, false≢true}
use mathlib.Core.List.{List, [], ◌∷◌, ◌++◌, append-nil}
use Prim.Native.Nat.{ℕ, zero, suc, ◌+◌, ◌-◌, ◌*◌, ◌≤◌, ◌<◌}
use native.Mathlib.Omega.{arith}
use lib.Dec.{eqb, leb}
use lib.ListN.{length, get_or, take, drop, length-append, length-take, take-append-drop}
use lib.Seq.{take-suc, take-length, drop-length, drop-drop}
use borrow.Author.Tests.{leb-true, ne_eqb, not-true}
use Rattle.meaning.specs.declared.Form.{Form}
use Rattle.meaning.specs.declared.Form.TheVariants as Form'
use Rattle.meaning.specs.Bytes.{has, quote, backslash}
use Rattle.std.specs.Prelude.{if◌then◌else◌}
use Rattle.meaning.specs.Chars.{utf8}
use Rattle.meaning.specs.Walk.{Step, keep, give, stop, Trace, kept, gave, after, walk, value}
use Rattle.meaning.specs.Writer.{spell, spells}
use Rattle.meaning.specs.Forms.{form_step}
use Rattle.leaves.specs.Blocks.{passes}
use Rattle.laws.proofs.basics.Tests.{and_left, and_right}
use Rattle.laws.proofs.writing.WriterText.{cost, costs, spells_length}
use Rattle.laws.proofs.writing.FormUnits.{form_cost, form_costs}
use Rattle.laws.proofs.writing.FormSpelling.{units_of}
use Rattle.laws.proofs.writing.FormText as FormText'
use Rattle.writer.specs.Manners.{Manner, Plain, Escape, Unicode, manner_of, kept_by, keeps, step_by, cost_by, costs_by, opening_by, units_by, text_by}
use Rattle.writer.specs.declared.lengths.Measured.{Measured}
use Rattle.writer.specs.Texts.{Spellable, all_kept, measured_by}
use Rattle.writer.proofs.Steps.{kept_step}
use Rattle.writer.proofs.Costs.{byte_cost_most}

-- WHAT BYTES COST: eight each at the most
pub bytes_most : (m : Manner) (v : List ℕ) → costs_by m v ≤ 8 * length v
bytes_most m [] = omega arith
bytes_most m (b ∷ v) = omega (arith, byte_cost_most m b, bytes_most m v)

costs_append : (m : Manner) (u v : List ℕ) → costs_by m (u ++ v) ≡ costs_by m u + costs_by m v
costs_append m [] v = omega arith
costs_append m (b ∷ u) v = omega (arith, costs_append m u v)

-- A BLOCK: its first j bytes cost c
pub record Summing (m : Manner) (s : List ℕ) (c j : ℕ) : Type 0 where
  pub inside : j ≤ length s
  pub sum : c ≡ costs_by m (take j s)

module _ {m : Manner} {s : List ℕ} {c j : ℕ} (v : Summing m s c j) where
  pub summing_more : j < length s → (k : ℕ) → k ≡ cost_by m (get_or s j 0) → c + k ≤ 8 * length s
  summing_more h k e = omega (arith, v.sum, bytes_most m (take j s), length-take j s, byte_cost_most m (get_or s j 0))

  pub summing_on : j < length s → (k : ℕ) → k ≡ cost_by m (get_or s j 0) → Summing m s (c + k) (j + 1)
  summing_on h k e =
      let b = get_or s j 0 in
      let z : suc j ≡ j + 1 = omega arith in
      let t : take (j + 1) s ≡ take j s ++ (b ∷ []) = ap (λ (i : ℕ). take i s) (sym z) ∙ take-suc s j 0 h in
      record { inside = omega arith; sum = omega (arith, v.sum, ap (costs_by m) t, costs_append m (take j s) (b ∷ [])) }

-- BLOCK BY BLOCK: what is counted, with what the rest costs, is what all cost
pub record Adding (m : Manner) (v : List ℕ) (c at : ℕ) : Type 0 where
  pub inside : at ≤ length v
  pub left : c + costs_by m (drop at v) ≡ costs_by m v

pub adding_start : (m : Manner) (v : List ℕ) → Adding m v 0 0
adding_start m v = record { inside = omega arith; left = omega arith }

module _ {m : Manner} {v : List ℕ} {c at : ℕ} (a : Adding m v c at) where
  split : (n : ℕ) → costs_by m (drop at v) ≡ costs_by m (take n (drop at v)) + costs_by m (drop (at + n) v)
  split n =
      ap (costs_by m) (sym (take-append-drop n (drop at v))) ∙ costs_append m (take n (drop at v)) (drop n (drop at v))
      ∙ ap (λ (t : List ℕ). costs_by m (take n (drop at v)) + costs_by m t) (drop-drop n at v)

  pub adding_small : (n k : ℕ) → k ≡ costs_by m (take n (drop at v)) → c + k ≤ 8 * length v
  adding_small n k e = omega (arith, a.left, split n, bytes_most m v)

  pub adding_on : 16 ≤ length v - at → (k : ℕ) → k ≡ costs_by m (take 16 (drop at v)) → Adding m v (c + k) (at + 16)
  adding_on h k e = record { inside = omega (arith, a.inside); left = omega (arith, a.left, split 16) }

  pub adding_end : (k : ℕ) → k ≡ costs_by m (drop at v) → c + k ≡ costs_by m v
  adding_end k e = omega (arith, a.left)

-- THE SPELLING between quote marks is the definition's
plain_kept : (bs : Bool) (b : ℕ) → keeps (kept_by (Plain bs)) b ≡ true → spell bs b ≡ b ∷ []
unfolding keeps spell
plain_kept true b h =
    go (leb 1 b) (leb b 0x7E || true) (eqb b quote) (eqb b backslash) (eqb b 0) h (λ e. let l = leb-true 1 b e in ne_eqb b 0 (λ z. omega arith))
  where
    go : (x y q s n : Bool) → (x && y && not q && not s) ≡ true → (x ≡ true → n ≡ false)
        → (if q then quote ∷ quote ∷ [] else if s then backslash ∷ backslash ∷ [] else if n then backslash ∷ 48 ∷ [] else b ∷ []) ≡ b ∷ []
    go false y q s n h k = absurd (false≢true h)
    go true false q s n h k = absurd (false≢true h)
    go true true true s n h k = absurd (false≢true h)
    go true true false true n h k = absurd (false≢true h)
    go true true false false n h k = rw (k refl)
plain_kept false b h = go (leb 0 b) (leb b 0x7E || true) (eqb b quote) h
  where
    go : (x y q : Bool) → (x && y && not q && not q) ≡ true → (if q then quote ∷ quote ∷ [] else b ∷ []) ≡ b ∷ []
    go false y q h = absurd (false≢true h)
    go true false q h = absurd (false≢true h)
    go true true true h = absurd (false≢true h)
    go true true false h = refl

pub plain_units : (bs : Bool) (v : List ℕ) → units_by (Plain bs) v ≡ spells bs v
unfolding units_by
plain_units bs [] = refl
plain_units bs (b ∷ v) = go (keeps (kept_by (Plain bs)) b) refl (plain_units bs v)
  where
    go : (x : Bool) → keeps (kept_by (Plain bs)) b ≡ x → value (walk (step_by (Plain bs)) 0 v) ≡ spells bs v
        → value (after (if x then keep else give 0 (spell bs b)) b (λ n. walk (step_by (Plain bs)) n v)) ≡ spell bs b ++ spells bs v
    go true e ih = rw (plain_kept bs b e) (ap (b ∷◌) ih)
    go false e ih = ap (spell bs b ++◌) ih

-- and in a form: steps that are the same where any byte stands make the same walk
after_same : (s : Step) (b : ℕ) (f g : ℕ → Trace) → ((n : ℕ) → f n ≡ g n) → after s b f ≡ after s b g
after_same keep b f g e = ap (kept b) (e 0)
after_same (give n out) b f g e = ap (gave n out) (e n)
after_same stop b f g e = refl

walk_same : (f g : List ℕ → Step) → ((b : ℕ) (t : List ℕ) → f (b ∷ t) ≡ g (b ∷ t)) → (k : ℕ) (t : List ℕ) → walk f k t ≡ walk g k t
walk_same f g e k [] = refl
walk_same f g e zero (b ∷ t) =
    ap (λ (s : Step). after s b (λ n. walk f n t)) (e b t) ∙ after_same (g (b ∷ t)) b (λ n. walk f n t) (λ n. walk g n t) (λ n. walk_same f g e n t)
walk_same f g e (suc k) (b ∷ t) = walk_same f g e k t

form_step_lem : (f : Form) (b : ℕ) (v : List ℕ) → step_by (manner_of f) (b ∷ v) ≡ form_step f (b ∷ v)
form_step_lem Form'.Escape b v = refl
form_step_lem Form'.Unicode b v = refl

pub form_units : (f : Form) (v : List ℕ) → units_by (manner_of f) v ≡ value (walk (form_step f) 0 v)
unfolding units_by
form_units f v = ap value (walk_same (step_by (manner_of f)) (form_step f) (form_step_lem f) 0 v)

-- ITS LENGTH: the costs, summed either way
plain_costs : (bs : Bool) (v : List ℕ) → costs bs v ≡ costs_by (Plain bs) v
plain_costs bs [] = refl
plain_costs bs (b ∷ v) = ap (cost bs b +◌) (plain_costs bs v)

form_costs_lem : (f : Form) (v : List ℕ) → form_costs f v ≡ costs_by (manner_of f) v
form_costs_lem f [] = refl
form_costs_lem Form'.Escape (b ∷ v) = ap (form_cost Form'.Escape b +◌) (form_costs_lem Form'.Escape v)
form_costs_lem Form'.Unicode (b ∷ v) = ap (form_cost Form'.Unicode b +◌) (form_costs_lem Form'.Unicode v)

form_spelled : (f : Form) (v : List ℕ) → utf8 v ≡ true → not (has 0 v) ≡ true → length (units_by (manner_of f) v) ≡ costs_by (manner_of f) v
form_spelled f v valid free = ap length (form_units f v) ∙ FormText'.units_length (units_of f v valid (not-true (has 0 v) free)) ∙ form_costs_lem f v

pub units_length : (m : Manner) (v : List ℕ) → Spellable m v → length (units_by m v) ≡ costs_by m v
units_length (Plain bs) v s = ap length (plain_units bs v) ∙ spells_length bs v ∙ plain_costs bs v
units_length Escape v s = form_spelled Form'.Escape v s.valid s.free
units_length Unicode v s = form_spelled Form'.Unicode v s.valid s.free

-- EACH BYTE STANDS FOR ITSELF
pub kept_front : (m : Manner) (n : ℕ) (t : List ℕ) → passes (keeps (kept_by m)) n t ≡ true → units_by m t ≡ take n t ++ units_by m (drop n t)
unfolding units_by
kept_front m zero t h = refl
kept_front m (suc n) [] h = absurd (false≢true h)
kept_front m (suc n) (b ∷ t) h =
    let p = keeps (kept_by m) in
    rw (kept_step m b t (and_left (p b) (passes p n t) h)) (ap (b ∷◌) (kept_front m n t (and_right (p b) (passes p n t) h)))

pub kept_units : (m : Manner) (v : List ℕ) → all_kept m v ≡ true → units_by m v ≡ v
unfolding units_by
kept_units m v h = kept_front m (length v) v h ∙ rw (take-length v, drop-length v) (append-nil v)

-- THE TEXT'S
pub opening_most : (m : Manner) → length (opening_by m) ≤ 3
opening_most (Plain bs) = omega arith
opening_most Escape = omega arith
opening_most Unicode = omega arith

text_length : (m : Manner) (v : List ℕ) → length (text_by m v) ≡ length (opening_by m) + 1 + length (units_by m v)
unfolding text_by
text_length m v = omega (arith, length-append (opening_by m) (units_by m v ++ (quote ∷ [])), length-append (units_by m v) (quote ∷ []))

module _ (m : Manner) (v : List ℕ) (s : Spellable m v) (o : ℕ) (eo : o ≡ length (opening_by m)) where
  module _ (x : Bool) (ex : x ≡ passes (keeps (kept_by m)) (length v) v) where
    pub measured_whole : x ≡ true → ◌≡◌ {A = Measured} (record { len = o + 1 + length v; whole = true }) (measured_by m v)
    measured_whole h =
        let y : all_kept m v ≡ true = sym ex ∙ h in
        let l : o + 1 + length v ≡ length (text_by m v) = omega (arith, text_length m v, ap length (kept_units m v y)) in
        cc

    pub measured_units : x ≡ false → (c : ℕ) → c ≡ costs_by m v → ◌≡◌ {A = Measured} (record { len = o + 1 + c; whole = false }) (measured_by m v)
    measured_units h c ec =
        let y : all_kept m v ≡ false = sym ex ∙ h in
        let l : o + 1 + c ≡ length (text_by m v) = omega (arith, text_length m v, units_length m v s) in
        cc
