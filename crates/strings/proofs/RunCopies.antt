-- Runs copied to a buffer's start while they are looked for: a block of sixteen bytes at once, a shorter text by two words of eight, or its bytes one by one.
-- Assumes nothing.
use mathlib.Core.Path.{◌≡◌, refl, ap, ap₂, sym, ◌∙◌}
use mathlib.Core.Bool.{Bool, true, false, ◌||◌, false≢true}
use mathlib.Core.List.{List, [], ◌∷◌, ◌++◌}
use Prim.Native.Nat.{ℕ, zero, suc, ◌+◌, ◌-◌, ◌≤◌, ◌<◌}
use native.Mathlib.Omega.{arith}
use lib.Dec.{eqb, leb}
use lib.ListN.{length, take, drop, get_or, set, length-append, length-take, length-drop}
use lib.Seq.{drop-cons, length-take-le, take-take, take-append-le, take-add, take_at}
use Rattle.meaning.specs.Bytes.{span}
use Rattle.std.specs.Prelude.{if◌then◌else◌}
use Rattle.laws.proofs.basics.Copies.{Copying, copying_none, copying_turn}
use Rattle.laws.proofs.basics.Lists.{part_tail}
use Rattle.laws.proofs.basics.Tests.{and_left, and_right, or_left, or_right}
use Rattle.leaves.proofs.RunSteps.{span_length}
use Rattle.leaves.specs.Blocks.{passes}
use Rattle.leaves.specs.Words.{neither, eight_run}
use Rattle.leaves.proofs.Scans.{passes_append, span_passes}
use Rattle.strings.specs.Quick.{Copies}
use Rattle.strings.proofs.Lending.{lent, back, back_same, back_take}

-- THE LAST BYTES: those before j are copied, and belong to the run
pub record Lasting (first second : ℕ) (s d out : List ℕ) (j : ℕ) : Type 0 where
  pub copying : Copying s d out j
  pub free : passes (neither first second) j s ≡ true

pub lasting_none : (first second : ℕ) (s d : List ℕ) → length s < 8 → 16 ≤ length d → Lasting first second s d d 0
lasting_none first second s d h k = record {
  copying = copying_none s d (omega arith);
  free = refl;
}

module _ {first second : ℕ} {s d out : List ℕ} {j : ℕ} (l : Lasting first second s d out j) where
  pub lasting_turn : j < length s → (eqb (get_or s j 0) first || eqb (get_or s j 0) second) ≡ false → Lasting first second s d (set out j (get_or s j 0)) (j + 1)
  unfolding neither
  lasting_turn h e = record {
    copying = copying_turn l.copying h;
    free =
        passes_append (neither first second) j 1 (j + 1) s refl
        ∙ rw (l.free, drop-cons s j 0, or_left (eqb (get_or s j 0) first) (eqb (get_or s j 0) second) e, or_right (eqb (get_or s j 0) first) (eqb (get_or s j 0) second) e);
  }

  pub lasting_end : length s < 8 → Copies first second s d j out
  lasting_end h = record {
    same = l.copying.same;
    most = omega (arith, l.copying.inside);
    free = l.free;
    copied = ap (take j) l.copying.put ∙ take_at (take j s) (drop j d) j (length-take-le j s l.copying.inside);
  }

-- THE RUN in bytes that were put, told by eight bytes and, where these all belong to it, by eight more
passes_part : (p : ℕ → Bool) (n k : ℕ) (t : List ℕ) → passes p n (take k t) ≡ true → passes p n t ≡ true
passes_part p zero k t h = refl
passes_part p (suc n) zero t h = absurd (false≢true h)
passes_part p (suc n) (suc k) [] h = h
passes_part p (suc n) (suc k) (b ∷ t) h = rw (and_left (p b) (passes p n (take k t)) h) (passes_part p n k t (and_right (p b) (passes p n (take k t)) h))

eight_part : (p : ℕ → Bool) (t : List ℕ) (at r : ℕ) → r ≡ eight_run p t at → (r ≤ 8) × (passes p r (drop at t) ≡ true)
unfolding eight_run
eight_part p t at r e = rw e (go (leb (at + 8) (length t)))
  where
    go : (x : Bool) → let n = if x then span p (take 8 (drop at t)) else 0 in (n ≤ 8) × (passes p n (drop at t) ≡ true)
    go true =
        let n = span p (take 8 (drop at t)) in
        (omega (arith, span_length p (take 8 (drop at t)), length-take 8 (drop at t)), passes_part p n 8 (drop at t) (span_passes p (take 8 (drop at t))))
    go false = (omega arith, refl)

pub eight_most : (p : ℕ → Bool) (t : List ℕ) (at r : ℕ) → r ≡ eight_run p t at → r ≤ 8
eight_most p t at r e = (eight_part p t at r e).0

-- a buffer that held d begins with a text's first m bytes
record Begins (s d out : List ℕ) (m : ℕ) : Type 0 where
  same : length out ≡ length d
  most : m ≤ 16
  put : take m out ≡ take m s

module _ {s d out : List ℕ} {m : ℕ} (v : Begins s d out m) (first second low : ℕ) (el : low ≡ eight_run (neither first second) s 0) where
  free_low : passes (neither first second) low s ≡ true
  free_low = (eight_part (neither first second) s 0 low el).1

  run_of : (r : ℕ) → r ≤ m → passes (neither first second) r s ≡ true → Copies first second s d r out
  run_of r h f = record {
    same = v.same;
    most = omega (arith, v.most);
    free = f;
    copied = sym (take-take r m out h) ∙ ap (take r) v.put ∙ take-take r m s h;
  }

  run_low : 8 ≤ m → low < 8 → Copies first second s d low out
  run_low h i = run_of low (omega arith) free_low

  -- the eight more may overlap the first
  run_high : 8 ≤ low → (at high : ℕ) → at ≤ 8 → at + 8 ≤ m → high ≡ eight_run (neither first second) s at → Copies first second s d (at + high) out
  run_high i at high h k eh =
      let p = neither first second in
      let b = eight_part p s at high eh in
      let z : passes p at s ≡ true = and_left (passes p at s) (passes p (low - at) (drop at s))
      (sym (passes_append p at (low - at) low s (omega arith)) ∙ free_low) in
      run_of (at + high) (omega (arith, b.0)) (passes_append p at high (at + high) s refl ∙ rw (z, b.1))

-- a block of sixteen bytes was put
module _ (first second : ℕ) (s d b out : List ℕ) (h : 16 ≤ length s) (k : 16 ≤ length d) (eb : b ≡ take 16 s) (eo : out ≡ b ++ drop 16 d) where
  sixteen : Begins s d out 16
  sixteen =
      let n : length b ≡ 16 = ap length eb ∙ length-take-le 16 s h in
      record {
        same = ap length eo ∙ length-append b (drop 16 d) ∙ omega (arith, length-drop 16 d);
        most = omega arith;
        put = ap (take 16) eo ∙ take_at b (drop 16 d) 16 n ∙ eb;
      }

  module _ (low : ℕ) (el : low ≡ eight_run (neither first second) s 0) where
    pub copied_low : low < 8 → Copies first second s d low out
    copied_low = run_low sixteen first second low el (omega arith)

    pub copied_high : 8 ≤ low → (high : ℕ) → high ≡ eight_run (neither first second) s 8 → Copies first second s d (8 + high) out
    copied_high i high = run_high sixteen first second low el i 8 high (omega arith) (omega arith)

-- a text's first eight bytes were put, and then, at their own place, its last eight
abbrev last_at : List ℕ → ℕ
last_at s = length s - 8

module _ (first second : ℕ) (s d b o e last : List ℕ) (h : 8 ≤ length s) (l : length s < 16) (k : 16 ≤ length d) (eb : b ≡ take 8 s) (eo : o ≡ b ++ drop 8 d)
    (ee : e ≡ take 8 (lent (last_at s) s)) (el : last ≡ e ++ drop 8 (lent (last_at s) o)) where
  whole : Begins s d (back (last_at s) o last) (last_at s + 8)
  whole =
      let at = last_at s in
      let nb : length b ≡ 8 = ap length eb ∙ length-take-le 8 s h in
      let no : length o ≡ length d = ap length eo ∙ length-append b (drop 8 d) ∙ omega (arith, length-drop 8 d) in
      let te : e ≡ take 8 (drop at s) = ee ∙ ap (take 8) (part_tail s at) in
      let ne : length e ≡ 8 = ap length te ∙ length-take-le 8 (drop at s) (omega (arith, length-drop at s)) in
      let nl : length last ≡ length (lent at o) = ap length el ∙ length-append e (drop 8 (lent at o))
      ∙ omega (arith, length-drop 8 (lent at o), length-take (length o - at) (drop at o), length-drop at o) in
      let room : at ≤ length o = omega arith in
      let front : take at o ≡ take at s = ap (take at) eo ∙ take-append-le at b (drop 8 d) (omega arith) ∙ ap (take at) eb ∙ take-take at 8 s (omega arith) in
      let word : take 8 last ≡ take 8 (drop at s) = ap (take 8) el ∙ take_at e (drop 8 (lent at o)) 8 ne ∙ te in
      record {
        same = back_same o last at room nl ∙ no;
        most = omega arith;
        put = back_take o last at room nl 8 ∙ ap₂ (λ (x y : List ℕ). x ++ y) front word ∙ sym (take-add at 8 s);
      }

  module _ (low : ℕ) (er : low ≡ eight_run (neither first second) s 0) where
    pub short_low : low < 8 → Copies first second s d low (back (last_at s) o last)
    short_low = run_low whole first second low er (omega arith)

    pub short_high : 8 ≤ low → (high : ℕ) → high ≡ eight_run (neither first second) s (last_at s)
        → Copies first second s d (last_at s + high) (back (last_at s) o last)
    short_high i high = run_high whole first second low er i (last_at s) high (omega arith) (omega arith)
