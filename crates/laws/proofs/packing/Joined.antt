-- [02 T-07] Segments run on (D07-2): the digits of all segments are one run, packed once, and no segment begins a byte of its own. So B'1' '0' is packed as
-- B'10' is. Assumes nothing.
use mathlib.Core.Path.{◌≡◌, refl, ap, sym, ◌∙◌}
use mathlib.Core.Bool.{true}
use mathlib.Core.List.{List, [], ◌∷◌, ◌++◌, map, flatten, append-nil}
use Prim.Native.Nat.{ℕ, zero, suc, pred, ◌+◌, ◌^◌, ◌≤◌, ◌<◌}
use native.Mathlib.Nat.{lt_of_lt_of_le}
use native.Mathlib.Omega.{arith}
use borrow.Author.Tests.{ne_eqb}
use lib.Pow.{pow_mono}
use lib.ListN.{length, length-append}
use Rattle.meaning.specs.declared.Settings.{Settings}
use Rattle.meaning.specs.declared.BitStringRadix.{BitStringRadix}
use Rattle.meaning.specs.declared.LiteralKind.TheVariants as Kind
use Rattle.meaning.specs.declared.Literal.{Literal}
use Rattle.meaning.specs.Bytes.{quote, is_mark}
use Rattle.meaning.specs.Chars.{utf8}
use Rattle.meaning.specs.Cutting.{off, hides, segment}
use Rattle.meaning.specs.Walk.{Trace, ended, gave}
use Rattle.meaning.specs.Reading.{written, means, value_of, each}
use Rattle.meaning.specs.Kinds.{bit_body, first_bits, later_bits, bits_by, bits}
use Rattle.meaning.specs.Packing.{bits_in, packs_as, packed_question, radix_bits}
use Rattle.laws.proofs.basics.Digits.{DigitsTo, all_digits_of}
use Rattle.laws.proofs.basics.Enclosed.{part_body}
use Rattle.laws.proofs.writing.Written.{closes_behind}
use Rattle.laws.proofs.utf8.Utf8.{utf8_append}
use Rattle.laws.proofs.utf8.WhiteUtf8.{white_utf8}
use Rattle.laws.proofs.cutting.Cuts.{Values, values_each}
use Rattle.laws.proofs.joining.Joining.{White}
use Rattle.laws.proofs.joining.JoiningLaw.{Gap}
use Rattle.laws.proofs.joining.Segments.{Whole}
use Rattle.laws.proofs.joining.Strung.{Further, behind, strung, cut_of, cut_of_segments, cut_of_covered, segments_cut}
use Rattle.laws.proofs.questions.Asked.{Spans}
use Rattle.laws.proofs.dates.Joined.{quoted}
use Rattle.laws.proofs.packing.Gathered.{below_append, bits_in_append}
use Rattle.laws.proofs.packing.Digits.{radix_few}
use Rattle.laws.proofs.packing.Segment.{digits_exact, bit_text, bit_text_segment, bit_text_first, bit_text_means, bit_text_utf8, digits_low, low_utf8}
use Rattle.laws.proofs.packing.Asked.{packed_value}

-- SEGMENTS whose bits mean something, white space between each two: their values, one after the other
bits_by_more : (β : ℕ) (t : List ℕ) (n : ℕ) (s : List ℕ) (r : Trace) (v w : List ℕ) → length s < length t → first_bits β s ≡ means v
    → each (later_bits β) r ≡ means w → bits_by β t (gave n s r) ≡ written (v ++ w)
bits_by_more β t n s r v w h e f = rw (ne_eqb (length s) (length t) (λ z. absurd (omega arith)), e, f)

pub strung_bits : (σ : Settings) (β : ℕ) (s : List ℕ) (ps : List (Further σ)) (tail : List ℕ) → Whole σ s → White tail → (v : List ℕ) (vs : List (List ℕ))
    → first_bits β s ≡ means v → Values (later_bits β) (map (λ p. p.text) ps) vs → length s < length (strung s ps tail)
    → bits σ β (strung s ps tail) ≡ written (v ++ flatten vs)
unfolding bits flatten
strung_bits σ β s [] tail first white v [] e f h =
    rw (segments_cut σ s [] tail first white) (bits_by_more β (s ++ tail) (pred (length s) + length tail) s ended v [] h e refl)
strung_bits σ β s [] tail first white v (w ∷ vs) e f h = absurd f
strung_bits σ β s (p ∷ ps) tail first white v vs e f h =
    rw (segments_cut σ s (p ∷ ps) tail first white)
    (bits_by_more β (strung s (p ∷ ps) tail) (pred (length s) + length p.gap) s (cut_of p.text ps tail) v (flatten vs) h e
    (values_each (later_bits β) (cut_of p.text ps tail) vs (cut_of_covered p.text ps tail) (rw (cut_of_segments p.text ps tail) f)))

-- DIGITS between quote marks, and the white space before them
pub record Run (β : ℕ) : Type 0 where
  pub gap : List ℕ
  pub white : Gap gap
  pub digits : List ℕ
  pub are : DigitsTo β (length digits) digits

abbrev pub runs : {β : ℕ} → List (Run β) → List ℕ → List ℕ
runs [] tail = tail
runs (p ∷ ps) tail = p.gap ++ (quoted p.digits ++ runs ps tail)

-- all their digits
abbrev pub run_digits : {β : ℕ} → List (Run β) → List ℕ
run_digits [] = []
run_digits (p ∷ ps) = p.digits ++ run_digits ps

module _ (σ : Settings) (β : ℕ) (low : β ≤ 16) where
  quoted_whole : (ds : List ℕ) → DigitsTo β (length ds) ds → Whole σ (quoted ds)
  unfolding segment is_mark
  quoted_whole ds d = record {
    some = omega arith;
    all = closes_behind (hides σ (quoted ds)) ds [] (digits_exact _ ds (λ i k. lt_of_lt_of_le (d i k) low)) refl 1
        ∙ omega (arith, length-append ds (quote ∷ []));
  }

  unfoldable further : Run β → Further σ
  further p = record { gap = p.gap; white = p.white; text = quoted p.digits; whole = quoted_whole p.digits p.are }

  behind_runs : (ps : List (Run β)) (tail : List ℕ) → behind (map further ps) tail ≡ runs ps tail
  unfolding further
  behind_runs [] tail = refl
  behind_runs (p ∷ ps) tail = ap (λ (t : List ℕ). p.gap ++ (quoted p.digits ++ t)) (behind_runs ps tail)

  runs_values : (ps : List (Run β)) → Values (later_bits β) (map (λ p. p.text) (map further ps)) (map (λ p. p.digits) ps)
  unfolding further bit_body
  runs_values [] = tt
  runs_values (p ∷ ps) = (rw (part_body quote p.digits, all_digits_of β p.digits p.are), runs_values ps)

  flatten_runs : (ps : List (Run β)) → flatten (map (λ p. p.digits) ps) ≡ run_digits ps
  unfolding flatten
  flatten_runs [] = refl
  flatten_runs (p ∷ ps) = ap (p.digits ++◌) (flatten_runs ps)

  -- they mean all their digits, in one run
  module _ (r : BitStringRadix) (ds : List ℕ) (d : DigitsTo β (length ds) ds) where
    text_whole : Whole σ (bit_text r ds)
    text_whole = record { some = omega arith; all = bit_text_segment r σ ds (λ i k. lt_of_lt_of_le (d i k) low) }

    longer : (ps : List (Run β)) (tail : List ℕ) → White tail → 0 < length (runs ps tail)
        → value_of (bit_text r ds ++ runs ps tail) (bits σ β (bit_text r ds ++ runs ps tail)) ≡ means (ds ++ run_digits ps)
    longer ps tail white h =
        let e = strung_bits σ β (bit_text r ds) (map further ps) tail text_whole white ds (map (λ p. p.digits) ps) (bit_text_first r σ β low ds d)
        (runs_values ps) (rw (behind_runs ps tail) (omega (arith, length-append (bit_text r ds) (runs ps tail)))) in
        ap (value_of (bit_text r ds ++ runs ps tail)) (rw (behind_runs ps tail, flatten_runs ps) at e)

    pub runs_mean : (ps : List (Run β)) (tail : List ℕ) → White tail
        → value_of (bit_text r ds ++ runs ps tail) (bits σ β (bit_text r ds ++ runs ps tail)) ≡ means (ds ++ run_digits ps)
    runs_mean [] [] white = rw (append-nil (ds ++ (quote ∷ [])), append-nil ds) (bit_text_means r σ β low ds d)
    runs_mean [] (b ∷ tail) white = longer [] (b ∷ tail) white (omega arith)
    runs_mean (p ∷ ps) tail white =
        longer (p ∷ ps) tail white (omega (arith, length-append p.gap (quoted p.digits ++ runs ps tail), p.white.some))

    -- and are UTF-8
    pub runs_utf8 : (ps : List (Run β)) (tail : List ℕ) → White tail → utf8 (bit_text r ds ++ runs ps tail) ≡ true
    runs_utf8 ps tail white = utf8_append (bit_text r ds) (runs ps tail) (bit_text_utf8 r ds (λ i k. lt_of_lt_of_le (d i k) low)) ∙ go ps
      where
        go : (ps : List (Run β)) → utf8 (runs ps tail) ≡ true
        go [] = white_utf8 tail white
        go (p ∷ ps) =
            let b = below_append 0x80 p.digits (quote ∷ []) (digits_low p.digits (λ i k. lt_of_lt_of_le (p.are i k) low)) (omega arith, tt) in
            utf8_append p.gap (quoted p.digits ++ runs ps tail) (white_utf8 p.gap p.white.white)
            ∙ utf8_append (quoted p.digits) (runs ps tail) (low_utf8 (quoted p.digits) (omega arith, b)) ∙ go ps

-- THE QUESTION: so they are packed as one run; as the literal of one segment that holds all their digits
digits_append : (β : ℕ) (a b : List ℕ) → DigitsTo β (length a) a → DigitsTo β (length b) b → DigitsTo β (length (a ++ b)) (a ++ b)
digits_append β [] b d e i h = e i h
digits_append β (c ∷ a) b d e zero h = d 0 (omega arith)
digits_append β (c ∷ a) b d e (suc i) h = digits_append β a b (λ j k. d (suc j) (omega arith)) e i (omega arith)

run_digits_are : {β : ℕ} (ps : List (Run β)) → DigitsTo β (length (run_digits ps)) (run_digits ps)
run_digits_are [] i h = absurd (omega arith)
run_digits_are {β} (p ∷ ps) i h = digits_append β p.digits (run_digits ps) p.are (run_digits_are ps) i h

module _ (r : BitStringRadix) (ds : List ℕ) (d : DigitsTo (2 ^ radix_bits r) (length ds) ds) (ps : List (Run (2 ^ radix_bits r))) (tail : List ℕ)
    (white : White tail) (l : Literal) (S out : List ℕ) (k : l.kind ≡ Kind.BitString r) (h : Spans l S (bit_text r ds ++ runs ps tail)) where
  low : 2 ^ radix_bits r ≤ 16
  low = pow_mono (radix_few r)

  pub packed_run : packed_question l S out ≡ packs_as l.span (radix_bits r) out (means (ds ++ run_digits ps))
  packed_run =
      packed_value r l S (bit_text r ds ++ runs ps tail) out k h (runs_utf8 off (2 ^ radix_bits r) low r ds d ps tail white) (ds ++ run_digits ps)
      (runs_mean off (2 ^ radix_bits r) low r ds d ps tail white)

  pub packed_joined : (l' : Literal) (S' : List ℕ) → l'.kind ≡ Kind.BitString r → Spans l' S' (bit_text r (ds ++ run_digits ps))
      → packed_question l S out ≡ packed_question l' S' out
  packed_joined l' S' k' h' =
      let all = digits_append (2 ^ radix_bits r) ds (run_digits ps) d (run_digits_are ps) in
      packed_run
      ∙ sym (packed_value r l' S' (bit_text r (ds ++ run_digits ps)) out k' h' (bit_text_utf8 r (ds ++ run_digits ps) (λ i j. lt_of_lt_of_le (all i j) low))
      (ds ++ run_digits ps) (bit_text_means r off (2 ^ radix_bits r) low (ds ++ run_digits ps) all))

-- whose bits are the segments' bits, one after the other
pub run_bits : (k : ℕ) {β : ℕ} (p : Run β) (ps : List (Run β)) → bits_in k (run_digits (p ∷ ps)) ≡ bits_in k p.digits ++ bits_in k (run_digits ps)
run_bits k p ps = bits_in_append k p.digits (run_digits ps)
