-- [02 T-05] "Joined segments count as one value": where a text's token is two texts joined, its value is the one's followed by the other's, and the day is
-- that value's. So DATE 'a' 'b' and DATE 'ab' are the same day. Assumes nothing.
use Rattle.std.specs.Prelude.{Ok}
use mathlib.Core.Logic.{◌↔◌, inl}
use mathlib.Core.Path.{◌≡◌, refl, ap, sym, ◌∙◌, subst}
use mathlib.Core.Bool.{Bool, true, false, ◌&&◌, not}
use mathlib.Core.List.{List, [], ◌∷◌, ◌++◌, append_assoc}
use Prim.Native.Nat.{ℕ, zero, suc, ◌+◌, ◌-◌, ◌≤◌, ◌<◌}
use Prim.Native.Char.{code}
use native.Mathlib.Omega.{arith}
use borrow.Author.Tests.{lt-ltb, le-ltb}
use lib.Dec.{eqb, ltb}
use lib.ListN.{length, take, drop, length-append, take-append-drop}
use lib.Seq.{get_or-take, take_all, take-append_seam, drop-length, drop-cons, drop-drop, drop-append-add, drop-append_seam}
use Rattle.meaning.specs.declared.Literal.{Literal}
use Rattle.meaning.specs.declared.LiteralKind.TheVariants as Kind
use Rattle.meaning.specs.declared.CalendarDay.{CalendarDay}
use Rattle.meaning.specs.Bytes.{◌!◌, part, ascii, has, quote, within, is_letter, is_decimal, starts_tag, in_tag, is_mark, digit, all_digits}
use Rattle.meaning.specs.Chars.{lead, utf8, is_space}
use Rattle.meaning.specs.Cutting.{off}
use Rattle.meaning.specs.Reading.{Answer, borrowed, written, refused, means, value_of, read, meaning}
use Rattle.meaning.specs.Kinds.{token, first_place_of, last_by, past_last, token_start, quote_token, temporal_token, behind, temporal}
use Rattle.meaning.specs.Writer.{spell, spells, literal}
use Rattle.meaning.specs.Questions.{cuts_character, bad_span}
use Rattle.meaning.specs.Dates.{is_leap, month_length, year_length, day_number, is_day, calendar_day, is_ten_bytes, is_date, day_in, is_date_kind, dated_on, date_question}
use Rattle.laws.proofs.basics.Enclosed.{has_append}
use Rattle.laws.proofs.basics.Tests.{eqb_same, eqb_sym, or_left, or_right}
use Rattle.laws.proofs.joining.Joining.{fails≢means, join}
use Rattle.laws.proofs.joining.JoiningLaw.{Complete, Gap, join_read}
use Rattle.laws.proofs.joining.Parts.{is_quote}
use Rattle.laws.proofs.questions.Asked.{Spans}
use Rattle.laws.proofs.writing.Unchanged.{back_means, literal_whole, literal_back}
use Rattle.laws.proofs.dates.Asked.{date_value, date_same_value}
use Rattle.std.specs.Prelude.{Some}

-- A TOKEN that is A and B, joined
module _ (t : List ℕ) (f u : ℕ) (A G B v w : List ℕ) (k : temporal_token t ≡ token f u) (p : part f u t ≡ A ++ (G ++ B)) where
  value_read : read off (A ++ (G ++ B)) ≡ written (v ++ w) → value_of t (temporal off t) ≡ means (v ++ w)
  unfolding temporal
  value_read r = rw (k, p, r)

  module _ (a : Complete off A v) (g : Gap G) (b : Complete off B w) (m : is_mark (B ! 0) ≡ true) where
    pub token_joined : value_of t (temporal off t) ≡ means (v ++ w)
    token_joined = value_read (join_read off A G B v w a g b m)

    pub date_joined : (l : Literal) (S : List ℕ) → is_date_kind l.kind ≡ true → Spans l S t → utf8 t ≡ true
        → date_question l S ≡ dated_on l.span (day_in (v ++ w))
    date_joined l S kind h valid = date_value l S t kind h valid (v ++ w) token_joined

-- THE TOKEN behind words w, and from a quote mark to one at the end. Before a byte that words don't hold
first_behind : (q : ℕ) (w r : List ℕ) → has q w ≡ false → first_place_of q (w ++ r) ≡ length w + first_place_of q r
first_behind q [] r h = omega arith
first_behind q (b ∷ w) r h =
    let n : eqb b q ≡ false = eqb_sym b q ∙ or_left (eqb q b) (has q w) h in
    rw n (let i = first_behind q w r (or_right (eqb q b) (has q w) h) in omega arith)

last_end : (q : ℕ) (t : List ℕ) → past_last q (t ++ (q ∷ [])) ≡ suc (length t)
last_end q [] = rw (eqb_same q)
last_end q (b ∷ t) = rw (last_end q t) (go (eqb b q))
  where
    go : (x : Bool) → last_by x (suc (length t)) ≡ suc (suc (length t))
    go true = refl
    go false = refl

-- an E that makes an E string stands at their end: a tag byte before it makes it a word's last letter, as in DATE
unfoldable pub ends_in_e : List ℕ → Bool
ends_in_e w = ltb 0 (length w) && has (w ! (length w - 1)) (ascii "Ee") && not (ltb 1 (length w) && in_tag (w ! (length w - 2)))

front_byte : (w r : List ℕ) (i : ℕ) → i < length w → (w ++ r) ! i ≡ w ! i
front_byte w r i h = sym (get_or-take (length w) (w ++ r) i 0 h) ∙ ap (◌! i) (take-append_seam w r)

start_behind : (w r : List ℕ) → ends_in_e w ≡ false → token_start (length w) (w ++ r) ≡ length w
unfolding ends_in_e token_start
start_behind [] r h = refl
start_behind (b ∷ w) r h =
    rw (front_byte (b ∷ w) r (length (b ∷ w) - 1) (omega arith), front_byte (b ∷ w) r (length (b ∷ w) - 2) (omega arith), h)

-- words that hold no quote mark and no dollar sign, and don't end in such an E
pub record Words (w : List ℕ) : Type 0 where
  pub no_quote : has quote w ≡ false
  pub no_dollar : has (code "$") w ≡ false
  pub no_e : ends_in_e w ≡ false

module _ (w r : List ℕ) (words : Words w) where
  words_token : temporal_token (w ++ (quote ∷ (r ++ (quote ∷ [])))) ≡ token (length w) (length (w ++ (quote ∷ (r ++ (quote ∷ [])))))
  unfolding temporal_token quote_token
  words_token =
      let t : List ℕ = quote ∷ (r ++ (quote ∷ [])) in
      let n : length (w ++ t) ≡ length w + suc (suc (length r)) = simp length-append (omega arith) in
      let q : first_place_of quote (w ++ t) ≡ length w = first_behind quote w t words.no_quote ∙ omega arith in
      let e : past_last quote (w ++ t) ≡ length (w ++ t) =
      ap (past_last quote) (sym (append_assoc w (quote ∷ r) (quote ∷ []))) ∙ last_end quote (w ++ (quote ∷ r)) ∙ simp length-append (omega arith) in
      rw (
        q,
        first_behind (code "$") w t words.no_dollar,
        le-ltb (length w + first_place_of (code "$") t) (length w) (omega arith),
        n,
        lt-ltb (length w) (length w + suc (suc (length r))) (omega arith),
        start_behind w t words.no_e,
        e,
        n,
      )

-- what a text means stands so behind words
behind_value : (w s v : List ℕ) (x : Answer) → value_of s x ≡ means v → value_of (w ++ s) (behind (length w) x) ≡ means v
behind_value w s v (borrowed g u) e =
    let n : length w + u - (length w + g) ≡ u - g = omega arith in
    rw (n, drop-append-add w s g) e
behind_value w s v (written b) e = e
behind_value w s v (refused p) e = absurd (fails≢means p v e)

pub words_value : (w r v : List ℕ) → Words w → meaning off (quote ∷ (r ++ (quote ∷ []))) ≡ means v
    → value_of (w ++ (quote ∷ (r ++ (quote ∷ [])))) (temporal off (w ++ (quote ∷ (r ++ (quote ∷ []))))) ≡ means v
unfolding temporal
words_value w r v words e =
    let t : List ℕ = quote ∷ (r ++ (quote ∷ [])) in
    let p : part (length w) (length (w ++ t)) (w ++ t) ≡ t =
    ap (take (length (w ++ t) - length w)) (drop-append_seam w t)
    ∙ take_all (length (w ++ t) - length w) t (let n = length-append w t in omega arith) in
    rw (words_token w r words, p) (behind_value w t v (read off t) e)

-- SEGMENTS in quotes, their own quote marks doubled
spells_plain : (v : List ℕ) → has quote v ≡ false → spells false v ≡ v
unfolding spell
spells_plain [] h = refl
spells_plain (b ∷ v) h =
    rw (eqb_sym b quote ∙ or_left (eqb quote b) (has quote v) h) (ap (b ∷◌) (spells_plain v (or_right (eqb quote b) (has quote v) h)))

literal_means : (v : List ℕ) → has 0 v ≡ false → meaning off (literal false v) ≡ means v
literal_means v h = back_means (literal_back off v (ap not h))

pub value_of_one : (w v : List ℕ) → Words w → has 0 v ≡ false → value_of (w ++ literal false v) (temporal off (w ++ literal false v)) ≡ means v
value_of_one w v words n = words_value w (spells false v) v words (literal_means v n)

joined_means : (a g b : List ℕ) → Gap g → has 0 a ≡ false → has 0 b ≡ false → meaning off (literal false a ++ (g ++ literal false b)) ≡ means (a ++ b)
joined_means a [] b gap na nb = absurd (let z : 0 < 0 = gap.some in omega arith)
joined_means a (c ∷ g) b gap na nb =
    ap (value_of (literal false a ++ ((c ∷ g) ++ literal false b)))
    (join off c g gap.white quote (spells false b ++ (quote ∷ [])) is_quote quote (spells false a ++ (quote ∷ [])) a b
    (inl (literal_whole off a)) (literal_means a na) (inl (literal_whole off b)) (literal_means b nb))

pub value_of_two : (w a g b : List ℕ) → Words w → Gap g → has 0 a ≡ false → has 0 b ≡ false
    → value_of (w ++ (literal false a ++ (g ++ literal false b))) (temporal off (w ++ (literal false a ++ (g ++ literal false b)))) ≡ means (a ++ b)
value_of_two w a g b words gap na nb =
    let x : List ℕ = spells false a ++ (quote ∷ []) in
    let y : List ℕ = quote ∷ spells false b in
    let e : quote ∷ ((x ++ (g ++ y)) ++ (quote ∷ [])) ≡ literal false a ++ (g ++ literal false b) =
    ap (quote ∷◌) (append_assoc x (g ++ y) (quote ∷ []) ∙ ap (x ++◌) (append_assoc g y (quote ∷ []))) in
    subst (λ (s : List ℕ). value_of (w ++ s) (temporal off (w ++ s)) ≡ means (a ++ b)) e
    (words_value w (x ++ (g ++ y)) (a ++ b) words (subst (λ (s : List ℕ). meaning off s ≡ means (a ++ b)) (sym e) (joined_means a g b gap na nb)))

-- THE SAME DAY. A value between quote marks
abbrev pub quoted : List ℕ → List ℕ
quoted v = quote ∷ (v ++ (quote ∷ []))

-- and nothing else behind words is the text's value
pub quoted_value : (w v : List ℕ) → Words w → has quote v ≡ false → has 0 v ≡ false → value_of (w ++ quoted v) (temporal off (w ++ quoted v)) ≡ means v
quoted_value w v words q n = rw (spells_plain v q) at (value_of_one w v words n)

-- a text that ends so, from a quote mark at place k to one at its end
pub quoted_end : (t : List ℕ) (k : ℕ) → k + 2 ≤ length t → t ! k ≡ quote → t ! (length t - 1) ≡ quote
    → t ≡ take k t ++ quoted (part (suc k) (length t - 1) t)
quoted_end t k h e f =
    let m : ℕ = length t - 1 - suc k in
    let z : suc k + m ≡ length t - 1 = omega arith in
    let y : suc (length t - 1) ≡ length t = omega arith in
    let last : drop m (drop (suc k) t) ≡ quote ∷ [] =
    drop-drop m (suc k) t ∙ ap (λ (n : ℕ). drop n t) z ∙ drop-cons t (length t - 1) 0 (omega arith)
    ∙ ap (λ (b : ℕ). b ∷ drop (suc (length t - 1)) t) f ∙ ap (quote ∷◌) (ap (λ (n : ℕ). drop n t) y ∙ drop-length t) in
    sym (take-append-drop k t)
    ∙ ap (take k t ++◌) (drop-cons t k 0 (omega arith) ∙ ap (λ (b : ℕ). b ∷ drop (suc k) t) e
    ∙ ap (quote ∷◌) (sym (take-append-drop m (drop (suc k) t)) ∙ ap (take m (drop (suc k) t) ++◌) last))

-- white space g between two values without quote marks and NUL, behind words w: the texts w 'a' g 'b' and w 'ab'
pub record TwoOf (w a g b : List ℕ) : Type 0 where
  pub words : Words w
  pub gap : Gap g
  pub no_quote : (has quote a ≡ false) × (has quote b ≡ false)
  pub no_nul : (has 0 a ≡ false) × (has 0 b ≡ false)

module _ (w a g b : List ℕ) (h : TwoOf w a g b) where
  pub two_means : value_of (w ++ (quoted a ++ (g ++ quoted b))) (temporal off (w ++ (quoted a ++ (g ++ quoted b)))) ≡ means (a ++ b)
  two_means =
      rw (spells_plain a h.no_quote.0, spells_plain b h.no_quote.1)
      at (value_of_two w a g b h.words h.gap h.no_nul.0 h.no_nul.1)

  pub one_means : value_of (w ++ quoted (a ++ b)) (temporal off (w ++ quoted (a ++ b))) ≡ means (a ++ b)
  one_means =
      quoted_value w (a ++ b) h.words (rw (has_append quote a b, h.no_quote.0, h.no_quote.1))
      (rw (has_append 0 a b, h.no_nul.0, h.no_nul.1))

  -- asked of a literal: each has the value's day, or none
  pub two_dated : (l : Literal) (S : List ℕ) → is_date_kind l.kind ≡ true → Spans l S (w ++ (quoted a ++ (g ++ quoted b)))
      → utf8 (w ++ (quoted a ++ (g ++ quoted b))) ≡ true → date_question l S ≡ dated_on l.span (day_in (a ++ b))
  two_dated l S k s u = date_value l S (w ++ (quoted a ++ (g ++ quoted b))) k s u (a ++ b) two_means

  pub one_dated : (l : Literal) (S : List ℕ) → is_date_kind l.kind ≡ true → Spans l S (w ++ quoted (a ++ b)) → utf8 (w ++ quoted (a ++ b)) ≡ true
      → date_question l S ≡ dated_on l.span (day_in (a ++ b))
  one_dated l S k s u = date_value l S (w ++ quoted (a ++ b)) k s u (a ++ b) one_means

  -- so of two literals, wherever they stand
  pub same_day : (l l' : Literal) (S S' : List ℕ) → is_date_kind l.kind ≡ true → is_date_kind l'.kind ≡ true
      → Spans l S (w ++ (quoted a ++ (g ++ quoted b))) → Spans l' S' (w ++ quoted (a ++ b)) → utf8 (w ++ (quoted a ++ (g ++ quoted b))) ≡ true
      → utf8 (w ++ quoted (a ++ b)) ≡ true → (c : CalendarDay) → (date_question l S ≡ Ok c) ↔ (date_question l' S' ≡ Ok c)
  same_day l l' S S' k k' s s' u u' =
      date_same_value l l' S S' (w ++ (quoted a ++ (g ++ quoted b))) (w ++ quoted (a ++ b)) k k' s s' u u' (two_means ∙ sym one_means)

-- A WITNESS: DATE '2024-' '01-02' and DATE '2024-01-02', each all of its source
abbrev all_of : List ℕ → Literal
all_of t = record { kind = Kind.Date; synthetic = false; span = record { start = 0; end = length t } }

date_words : TwoOf (ascii "DATE ") (ascii "2024-") (ascii " ") (ascii "01-02")
unfolding ends_in_e in_tag starts_tag is_letter is_decimal within is_space lead
date_words = record {
  words = record { no_quote = refl; no_dollar = refl; no_e = refl };
  gap = record { white = refl; some = omega arith };
  no_quote = (refl, refl);
  no_nul = (refl, refl);
}

-- DATE directly before the mark is words too, and E alone is not
pub date_itself : Words (ascii "DATE") × (ends_in_e (ascii "E") ≡ true)
unfolding ends_in_e in_tag starts_tag is_letter is_decimal within
date_itself = (record { no_quote = refl; no_dollar = refl; no_e = refl }, refl)

abbrev pub second_of_january : CalendarDay
second_of_january = record { year = 2024; month = 1; day = 2; number = 738887 }

is_second : day_in (ascii "2024-01-02") ≡ Some second_of_january
unfolding day_in is_date is_ten_bytes is_day month_length year_length is_leap calendar_day day_number within digit all_digits
is_second = refl

pub both_second : (date_question (all_of (ascii "DATE '2024-' '01-02'")) (ascii "DATE '2024-' '01-02'") ≡ Ok second_of_january)
    × (date_question (all_of (ascii "DATE '2024-01-02'")) (ascii "DATE '2024-01-02'") ≡ Ok second_of_january)
unfolding bad_span cuts_character within utf8 lead
both_second =
    let two : List ℕ = ascii "DATE '2024-' '01-02'" in
    let one : List ℕ = ascii "DATE '2024-01-02'" in
    let s : Spans (all_of two) two two = record { real = refl; fits = refl; text = refl } in
    let s' : Spans (all_of one) one one = record { real = refl; fits = refl; text = refl } in (
      two_dated (ascii "DATE ") (ascii "2024-") (ascii " ") (ascii "01-02") date_words (all_of two) two refl s refl
          ∙ ap (dated_on (all_of two).span) is_second,
      one_dated (ascii "DATE ") (ascii "2024-") (ascii " ") (ascii "01-02") date_words (all_of one) one refl s' refl
          ∙ ap (dated_on (all_of one).span) is_second,
    )
