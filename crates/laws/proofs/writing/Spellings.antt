-- [02 T-01] Bytes spelled by a backslash, a byte and digits; and backslash and quote, doubled: what is alike in the two forms. Assumes nothing.
use mathlib.Core.Path.{◌≡◌, refl, ap, sym, ◌∙◌}
use mathlib.Core.Bool.{Bool, true, false, ◌||◌, false≢true}
use mathlib.Core.List.{List, [], ◌∷◌, ◌++◌}
use Prim.Native.Nat.{ℕ, zero, suc, ◌-◌, ◌*◌, ◌≤◌, ◌<◌}
use native.Mathlib.Omega.{arith}
use lib.Dec.{eqb}
use lib.ListN.{length}
use borrow.Author.Tests.{eqb-true, ne_eqb}
use Rattle.meaning.specs.declared.Form.{Form}
use Rattle.meaning.specs.declared.Form.TheVariants.{Escape, Unicode}
use Rattle.meaning.specs.Bytes.{within, quote, backslash, digit}
use Rattle.std.specs.Prelude.{if◌then◌else◌}
use Rattle.meaning.specs.Chars.{Due, due, broken, fresh, lead, pushes, whole, utf8}
use Rattle.meaning.specs.Walk.{give}
use Rattle.meaning.specs.Steps.{closing_step, doubled, one_byte, uescaped}
use Rattle.meaning.specs.Forms.{is_doubled}
use Rattle.laws.proofs.basics.Tests.{within_yes, within_bounds}
use Rattle.laws.proofs.utf8.Utf8.{Good, fresh_good, pushes_good, pushes_broken, low_lead}
use Rattle.laws.proofs.utf8.Sequences.{utf8_begins}
use Rattle.laws.proofs.walking.Walks.{Exact}
use Rattle.laws.proofs.writing.FormUnits.{read_step, form_cost, form_costs, most, Every, Spelled}

-- UTF-8. Whole characters are taken where one may begin, and break a character anywhere else
good_whole : (d : Due) → Good d → whole d ≡ true → d ≡ fresh
good_whole broken g h = absurd (false≢true h)
good_whole (due zero lo hi) g h = rw (g.0, g.1)
good_whole (due (suc n) lo hi) g h = absurd (false≢true h)

utf8_pushes : (d : Due) (b : ℕ) (t : List ℕ) → Good d → utf8 (b ∷ t) ≡ true → pushes d (b ∷ t) ≡ (if whole d then fresh else broken)
unfolding utf8
utf8_pushes broken b t g h = pushes_broken t
utf8_pushes (due zero lo hi) b t g h = good_whole (pushes fresh (b ∷ t)) (pushes_good fresh (b ∷ t) fresh_good) h
utf8_pushes (due (suc n) lo hi) b t g h = go (within lo hi b) refl
  where
    go : (x : Bool) → within lo hi b ≡ x → pushes (if x then due n 0x80 0xBF else broken) t ≡ broken
    go true w =
        let k = within_bounds lo hi b w in
        absurd (false≢true (sym (utf8_begins (b ∷ t) h) ∙ within_yes 0x80 0xBF b (omega arith) (omega arith)))
    go false w = pushes_broken t

visible_utf8 : (t : List ℕ) → Every (within 0x20 0x7E) t → utf8 t ≡ true
unfolding utf8
visible_utf8 [] a = refl
visible_utf8 (b ∷ t) a =
    let k = within_bounds 0x20 0x7E b a.0 in
    ap (λ (d : Due). whole (pushes d t)) (low_lead b (omega arith)) ∙ visible_utf8 t a.1

pub low_utf8 : (b : ℕ) → b < 0x80 → utf8 (b ∷ []) ≡ true
unfolding utf8
low_utf8 b h = ap whole (low_lead b h)

-- DIGITS are visible, and the search for the closing mark passes them
figures_visible : (t : List ℕ) → Every (within 0x30 0x46) t → Every (within 0x20 0x7E) t
figures_visible [] a = tt
figures_visible (b ∷ t) a =
    let k = within_bounds 0x30 0x46 b a.0 in
    (within_yes 0x20 0x7E b (omega arith) (omega arith), figures_visible t a.1)

-- a digit is none of the marks and letters
pub figure_apart : (b c : ℕ) → within 0x30 0x46 b ≡ true → (0x30 ≤ c → 0x46 < c) → eqb b c ≡ false
figure_apart b c w h =
    let k = within_bounds 0x30 0x46 b w in
    ne_eqb b c (λ e. let l = h (omega arith) in omega arith)

figures_passed : (hides : Bool) (t : List ℕ) → Every (within 0x30 0x46) t → Exact (closing_step hides quote) t
figures_passed hides [] a = refl
figures_passed true (b ∷ t) a =
    rw (figure_apart b backslash a.0 (λ h. omega arith), figure_apart b quote a.0 (λ h. omega arith)) (ap suc (figures_passed true t a.1))
figures_passed false (b ∷ t) a = rw (figure_apart b quote a.0 (λ h. omega arith)) (ap suc (figures_passed false t a.1))

escape_passed : (hides : Bool) (c : ℕ) (t : List ℕ) → eqb c quote ≡ false → Every (within 0x30 0x46) t → Exact (closing_step hides quote) (backslash ∷ c ∷ t)
escape_passed true c t e a = omega (arith, figures_passed true t a)
escape_passed false c t e a = rw e (omega (arith, figures_passed false t a))

-- A BACKSLASH, a byte, and digits behind it
module _ (f : Form) (b : ℕ) (p : List ℕ) (c : ℕ) (t : List ℕ) where
  pub escape_spelled : ((r : List ℕ) → read_step f (backslash ∷ c ∷ (t ++ r)) ≡ give (suc (length t)) (b ∷ p))
      → within 0x20 0x7E c ≡ true → eqb c quote ≡ false → Every (within 0x30 0x46) t → utf8 (b ∷ p) ≡ true
      → suc (length p) < suc (suc (length t)) → suc (suc (length t)) ≡ form_costs f (b ∷ p) → suc (suc (length t)) ≤ most f * suc (length p)
      → Spelled f (b ∷ p) (backslash ∷ c ∷ t)
  unfolding within
  escape_spelled reads shown apart digits valid longer counted bounded =
      let v : Every (within 0x20 0x7E) (backslash ∷ c ∷ t) = (refl, (shown, figures_visible t digits)) in
      let n : suc (length t) ≡ suc (suc (length t)) - 1 = omega arith in
      record {
        reads = λ r. reads r ∙ ap (λ (n : ℕ). give n (b ∷ p)) n;
        passed = λ hides. escape_passed hides c t apart digits;
        pushed = λ d g. utf8_pushes d backslash (c ∷ t) g (visible_utf8 (backslash ∷ c ∷ t) v) ∙ sym (utf8_pushes d b p g valid);
        visible = v;
        longer = longer;
        counted = counted;
        bounded = bounded;
      }

-- DOUBLED
abbrev Twice : Form → ℕ → Type 0
Twice f b = Spelled f (b ∷ []) (b ∷ b ∷ [])

backslash_twice : (f : Form) → Twice f backslash
unfolding within digit one_byte uescaped utf8 lead form_cost is_doubled
backslash_twice Escape =
    escape_spelled Escape backslash [] backslash [] (λ r. refl) refl refl tt refl (omega arith) refl (omega arith)
backslash_twice Unicode =
    escape_spelled Unicode backslash [] backslash [] (λ r. refl) refl refl tt refl (omega arith) refl (omega arith)

quote_twice : (f : Form) → ((r : List ℕ) → read_step f (quote ∷ quote ∷ r) ≡ give 1 (quote ∷ [])) → form_cost f quote ≡ 2 → 2 ≤ most f → Twice f quote
unfolding within doubled utf8 lead
quote_twice f reads cost enough =
    record {
      reads = reads;
      passed = passes;
      pushed = λ d g. utf8_pushes d quote (quote ∷ []) g refl ∙ sym (utf8_pushes d quote [] g refl);
      visible = (refl, (refl, tt));
      longer = omega arith;
      counted = omega arith;
      bounded = omega arith;
    }
  where
    passes : (hides : Bool) → Exact (closing_step hides quote) (quote ∷ quote ∷ [])
    passes true = refl
    passes false = refl

pub twice : (f : Form) (b : ℕ) → is_doubled b ≡ true → Twice f b
unfolding is_doubled doubled form_cost
twice f b h = go f (eqb b backslash) (eqb b quote) refl refl h
  where
    go : (f : Form) (x y : Bool) → eqb b backslash ≡ x → eqb b quote ≡ y → (x || (y || false)) ≡ true → Twice f b
    go f true y ex ey h = rw (eqb-true b backslash ex) (backslash_twice f)
    go Escape false true ex ey h = rw (eqb-true b quote ey) (quote_twice Escape (λ r. refl) refl (omega arith))
    go Unicode false true ex ey h = rw (eqb-true b quote ey) (quote_twice Unicode (λ r. refl) refl (omega arith))
    go f false false ex ey h = absurd (false≢true h)
