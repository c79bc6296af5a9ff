-- [02 T-01] What the writer writes in a form is UTF-8, means the value at either setting, gets yes from both validators, and holds only bytes that show; and
-- how long it is. First of a body beside its value, unit by unit, and then of the text. Assumes nothing.
use mathlib.Core.Path.{◌≡◌, refl, ap, sym, ◌∙◌}
use mathlib.Core.Bool.{Bool, true, false, ◌||◌, or-false, and-false, false≢true}
use mathlib.Core.List.{List, [], ◌∷◌, ◌++◌}
use Prim.Native.Nat.{ℕ, zero, suc, ◌+◌, ◌-◌, ◌*◌, ◌≤◌, ◌<◌}
use Prim.Native.Char.{code}
use native.Mathlib.Nat.{mul-add}
use native.Mathlib.Omega.{arith}
use lib.Dec.{eqb, ltb}
use lib.ListN.{length, replicate, length-append, length-replicate, drop_of_length-le}
use borrow.Author.Tests.{leb-true, le-leb, le-ltb, ne_eqb, eqb-true}
use Rattle.meaning.specs.declared.Settings.{Settings}
use Rattle.meaning.specs.declared.Form.{Form}
use Rattle.meaning.specs.declared.Form.TheVariants.{Escape, Unicode}
use Rattle.meaning.specs.declared.PartSize.TheVariants.{Whole}
use Rattle.meaning.specs.Bytes.{◌!◌, part, has, within, quote, dquote, backslash, is_mark}
use Rattle.meaning.specs.Chars.{Due, fresh, push, pushes, whole, utf8, lead}
use Rattle.meaning.specs.Walk.{keep, Trace, kept, gave, walk, stops, plain, value}
use Rattle.meaning.specs.Steps.{escape_table, escape_step, checked, closing_step}
use Rattle.meaning.specs.Cutting.{hides, segment}
use Rattle.meaning.specs.Spelling.{Spelling, escape, unicode, encloses, is_unicode, unicode_spelling, spelling}
use Rattle.meaning.specs.Reading.{borrowed, written, answer, read_as, one, read}
use Rattle.meaning.specs.Helpers.{escape_valid, unicode_valid}
use Rattle.meaning.specs.Writer.{over_limit}
use Rattle.meaning.specs.Forms.{letter_of, is_doubled, form_step, form_opening, form_text}
use Rattle.laws.proofs.basics.Tests.{eqb_sym, or_left, or_right, within_bounds}
use Rattle.laws.proofs.utf8.Utf8.{pushes_append, utf8_append, low_lead, Good, push_good, pushes_good, fresh_good}
use Rattle.laws.proofs.basics.Enclosed.{encloses_behind, part_behind}
use Rattle.laws.proofs.walking.Walks.{walk_skip, Exact, exact_append}
use Rattle.laws.proofs.walking.Courses.{checked_whole}
use Rattle.laws.proofs.writing.Written.{closing_local, closes, closes_at, closes_behind, lone}
use Rattle.laws.proofs.writing.Unchanged.{ReadsBack, back_means, back_borrowed, back_written, BodyMeans, course_back}
use Rattle.laws.proofs.joining.JoiningLaw.{Accepts}
use Rattle.laws.proofs.writing.WriterParts.{limit_length, whole_within}
use Rattle.laws.proofs.writing.FormUnits.{read_step, shows, form_cost, form_costs, most, Every, Itself, Spelled, Units, over, itself, spelled}
use Rattle.laws.proofs.writing.FormSpelling.{units_of}

-- A BODY u beside its value v. A byte that stands for itself is neither a backslash nor a quote mark
single_apart : (b : ℕ) → is_doubled b ≡ false → (eqb b backslash ≡ false) × (eqb b quote ≡ false)
unfolding is_doubled
single_apart b h =
    (or_left (eqb b backslash) (eqb b quote || false) h, sym (or-false (eqb b quote)) ∙ or_right (eqb b backslash) (eqb b quote || false) h)

-- READING: so it is read as itself
reads_itself : (f : Form) (b : ℕ) (t : List ℕ) → is_doubled b ≡ false → read_step f (b ∷ t) ≡ keep
reads_itself f b t h = let a = single_apart b h in go f a.0 a.1
  where
    go : (f : Form) → eqb b backslash ≡ false → eqb b quote ≡ false → read_step f (b ∷ t) ≡ keep
    go Escape x y = rw (x, y)
    go Unicode x y = rw (y, eqb_sym backslash b, x)

itself_course : (f : Form) (b : ℕ) (u : List ℕ) → Itself f b → walk (read_step f) 0 (b ∷ u) ≡ kept b (walk (read_step f) 0 u)
itself_course f b u i = rw (reads_itself f b u i.single)

spelled_course : (f : Form) (p out u : List ℕ) → Spelled f p out → walk (read_step f) 0 (out ++ u) ≡ gave (length out - 1) p (walk (read_step f) 0 u)
spelled_course f p [] u s = let l = s.longer in absurd (omega arith)
spelled_course f p (c ∷ out) u s =
    let n : length (c ∷ out) - 1 ≡ length out = omega arith in
    rw (s.reads u, n) (ap (gave (length out) p) (walk_skip (read_step f) out u))

-- a body is no shorter than its value; and where a unit was spelled it is longer
units_least : {f : Form} {v u : List ℕ} → Units f v u → length v ≤ length u
units_least over = omega arith
units_least (itself i r) = omega (arith, units_least r)
units_least (spelled {p} {v} {out} {u} s r) = omega (arith, s.longer, units_least r, length-append p v, length-append out u)

units_goes : {f : Form} {v u : List ℕ} → Units f v u → stops (walk (read_step f) 0 u) ≡ false
units_goes over = refl
units_goes {f} (itself {b} {v} {u} i r) = ap stops (itself_course f b u i) ∙ units_goes r
units_goes {f} (spelled {p} {v} {out} {u} s r) = ap stops (spelled_course f p out u s) ∙ units_goes r

units_value : {f : Form} {v u : List ℕ} → Units f v u → value (walk (read_step f) 0 u) ≡ v
units_value over = refl
units_value {f} (itself {b} {v} {u} i r) = ap value (itself_course f b u i) ∙ ap (b ∷◌) (units_value r)
units_value {f} (spelled {p} {v} {out} {u} s r) = ap value (spelled_course f p out u s) ∙ ap (p ++◌) (units_value r)

units_longer : {f : Form} {v u : List ℕ} → Units f v u → plain (walk (read_step f) 0 u) ≡ false → length v < length u
units_longer over h = absurd (false≢true (sym h))
units_longer {f} (itself {b} {v} {u} i r) h = omega (arith, units_longer r (sym (ap plain (itself_course f b u i)) ∙ h))
units_longer (spelled {p} {v} {out} {u} s r) h = omega (arith, s.longer, units_least r, length-append p v, length-append out u)

pub units_means : {f : Form} {v u : List ℕ} → Units f v u → BodyMeans (read_step f) u v
units_means r = record { goes = units_goes r; means = units_value r; longer = units_longer r }

-- CLOSING: the search for the closing mark takes all of it, whether a backslash hides or not
itself_exact : (hides : Bool) (b : ℕ) → is_doubled b ≡ false → Exact (closing_step hides quote) (b ∷ [])
itself_exact hides b h = let a = single_apart b h in go hides a.0 a.1
  where
    go : (hides : Bool) → eqb b backslash ≡ false → eqb b quote ≡ false → Exact (closing_step hides quote) (b ∷ [])
    go true x y = rw (x, y)
    go false x y = rw y

pub units_exact : {f : Form} {v u : List ℕ} → Units f v u → (hides : Bool) → Exact (closing_step hides quote) u
units_exact over hides = refl
units_exact (itself {b} {v} {u} i r) hides =
    exact_append (closing_step hides quote) (b ∷ []) u (closing_local hides quote u refl) (itself_exact hides b i.single) (units_exact r hides)
units_exact (spelled {p} {v} {out} {u} s r) hides =
    exact_append (closing_step hides quote) out u (closing_local hides quote u refl) (s.passed hides) (units_exact r hides)

-- UTF-8: it is where the value is
pub units_pushes : {f : Form} {v u : List ℕ} → Units f v u → (d : Due) → Good d → pushes d u ≡ pushes d v
units_pushes over d g = refl
units_pushes (itself {b} i r) d g = units_pushes r (push d b) (push_good d b g)
units_pushes (spelled {p} {v} {out} {u} s r) d g =
    pushes_append d out u ∙ ap (λ (e : Due). pushes e u) (s.pushed d g) ∙ units_pushes r (pushes d p) (pushes_good d p g) ∙ sym (pushes_append d p v)

-- BYTES: each shows
every_append : (q : ℕ → Bool) (t r : List ℕ) → Every q t → Every q r → Every q (t ++ r)
every_append q [] r a b = b
every_append q (c ∷ t) r a b = (a.0, every_append q t r a.1 b)

every_of : (q q' : ℕ → Bool) → ((b : ℕ) → q b ≡ true → q' b ≡ true) → (t : List ℕ) → Every q t → Every q' t
every_of q q' h [] a = tt
every_of q q' h (b ∷ t) a = (h b a.0, every_of q q' h t a.1)

every_without : (q : ℕ → Bool) (b : ℕ) → q b ≡ false → (t : List ℕ) → Every q t → has b t ≡ false
every_without q b h [] a = refl
every_without q b h (c ∷ t) a = go (eqb b c) refl (every_without q b h t a.1)
  where
    go : (x : Bool) → eqb b c ≡ x → has b t ≡ false → (x || has b t) ≡ false
    go true e ih = absurd (false≢true (sym h ∙ ap q (eqb-true b c e) ∙ a.0))
    go false e ih = ih

ascii_shows : (f : Form) (b : ℕ) → within 0x20 0x7E b ≡ true → shows f b ≡ true
ascii_shows Escape b h = le-leb 0x20 b (within_bounds 0x20 0x7E b h).0
ascii_shows Unicode b h = h

pub units_shows : {f : Form} {v u : List ℕ} → Units f v u → Every (shows f) u
units_shows over = tt
units_shows (itself i r) = (i.visible, units_shows r)
units_shows {f} (spelled {p} {v} {out} {u} s r) =
    every_append (shows f) out u (every_of (within 0x20 0x7E) (shows f) (ascii_shows f) out s.visible) (units_shows r)

-- HOW LONG, by bytes of the value
-- no letter means a byte that has none in the table
pub letter_none : (b : ℕ) → (b ≡ 8 → ⊥) → (b ≡ 9 → ⊥) → (b ≡ 10 → ⊥) → (b ≡ 12 → ⊥) → (b ≡ 13 → ⊥) → letter_of escape_table b ≡ 256
letter_none b p q r s t =
    rw (
      ne_eqb 8 b (λ e. p (sym e)),
      ne_eqb 12 b (λ e. s (sym e)),
      ne_eqb 10 b (λ e. r (sym e)),
      ne_eqb 13 b (λ e. t (sym e)),
      ne_eqb 9 b (λ e. q (sym e)),
    )

pub no_letter : (b : ℕ) → 0x20 ≤ b → letter_of escape_table b ≡ 256
no_letter b h = letter_none b (λ e. omega arith) (λ e. omega arith) (λ e. omega arith) (λ e. omega arith) (λ e. omega arith)

itself_cost : (f : Form) (b : ℕ) → Itself f b → form_cost f b ≡ 1
unfolding form_cost
itself_cost Escape b i =
    let l : 0x20 ≤ b = leb-true 0x20 b i.visible in
    rw (i.single, no_letter b l, le-ltb b 0x20 l)
itself_cost Unicode b i = rw (i.single, i.visible)

form_costs_append : (f : Form) (p v : List ℕ) → form_costs f (p ++ v) ≡ form_costs f p + form_costs f v
form_costs_append f [] v = omega arith
form_costs_append f (b ∷ p) v = omega (arith, form_costs_append f p v)

pub units_length : {f : Form} {v u : List ℕ} → Units f v u → length u ≡ form_costs f v
units_length over = refl
units_length {f} (itself {b} i r) = omega (arith, itself_cost f b i, units_length r)
units_length {f} (spelled {p} {v} {out} {u} s r) = omega (arith, length-append out u, s.counted, units_length r, form_costs_append f p v)

most_some : (f : Form) → 1 ≤ most f
most_some Escape = omega arith
most_some Unicode = omega arith

pub units_bound : {f : Form} {v u : List ℕ} → Units f v u → length u ≤ most f * length v
units_bound over = omega arith
units_bound {f} (itself {b} {v} i r) = omega (arith, most_some f, units_bound r, mul-add (most f) 1 (length v))
units_bound {f} (spelled {p} {v} {out} {u} s r) =
    let d : most f * length (p ++ v) ≡ most f * length p + most f * length v = ap (most f *◌) (length-append p v) ∙ mul-add (most f) (length p) (length v) in
    omega (arith, length-append out u, s.bounded, units_bound r)

-- THE TEXT of a body: an opening, the body and a quote mark
abbrev pub form_of : Form → List ℕ → List ℕ
form_of f u = form_opening f ++ (u ++ (quote ∷ []))

form_of_length : (f : Form) (u : List ℕ) → length (form_of f u) ≡ length u + suc (length (form_opening f))
form_of_length f u = simp length-append (omega arith)

opening_shows : (f : Form) → Every (shows f) (form_opening f) × (shows f quote ≡ true)
unfolding within
opening_shows Escape = ((refl, (refl, tt)), refl)
opening_shows Unicode = ((refl, (refl, (refl, tt))), refl)

text_shows : {f : Form} {v u : List ℕ} → Units f v u → Every (shows f) (form_of f u)
text_shows {f} {v} {u} r =
    every_append (shows f) (form_opening f) (u ++ (quote ∷ [])) (opening_shows f).0
    (every_append (shows f) u (quote ∷ []) (units_shows r) ((opening_shows f).1, tt))

-- NUL does not
nul_hidden : (f : Form) → shows f 0 ≡ false
unfolding within
nul_hidden Escape = refl
nul_hidden Unicode = refl

text_nul : {f : Form} {v u : List ℕ} → Units f v u → has 0 (form_of f u) ≡ false
text_nul {f} {v} {u} r = every_without (shows f) 0 (nul_hidden f) (form_of f u) (text_shows r)

opening_utf8 : (f : Form) → (utf8 (form_opening f) ≡ true) × (utf8 (quote ∷ []) ≡ true)
unfolding utf8 lead within
opening_utf8 Escape = (refl, refl)
opening_utf8 Unicode = (refl, refl)

text_utf8 : {f : Form} {v u : List ℕ} → Units f v u → utf8 v ≡ true → utf8 (form_of f u) ≡ true
unfolding utf8
text_utf8 {f} {v} {u} r h =
    utf8_append (form_opening f) (u ++ (quote ∷ [])) (opening_utf8 f).0
    ∙ utf8_append u (quote ∷ []) (ap whole (units_pushes r fresh fresh_good) ∙ h)
    ∙ (opening_utf8 f).1

-- its first segment is all of it, at either setting
text_segment : (f : Form) (σ : Settings) (u : List ℕ) → ((hides : Bool) → Exact (closing_step hides quote) u) → segment σ (form_of f u) ≡ length (form_of f u)
unfolding segment is_mark
text_segment Escape σ u e = closes_behind (hides σ (form_of Escape u)) u [] (e (hides σ (form_of Escape u))) refl 2 ∙ omega (arith, form_of_length Escape u)
text_segment Unicode σ u e = closes_behind (hides σ (form_of Unicode u)) u [] (e (hides σ (form_of Unicode u))) refl 3 ∙ omega (arith, form_of_length Unicode u)

-- how it is spelled
abbrev pub spelled_as : Form → ℕ → Spelling
spelled_as Escape n = escape 2 n
spelled_as Unicode n = unicode (backslash ∷ []) 3 n

other_mark : (n q : ℕ) (t : List ℕ) → eqb (t ! n) q ≡ false → encloses n q t ≡ false
unfolding encloses
other_mark n q t h = rw (h, and-false (ltb (suc n) (length t)))

-- of U&: nothing follows the closing mark, so a backslash is the escape character
unicode_spelling_lem : (u : List ℕ) → Exact (closing_step false quote) u
    → unicode_spelling quote (form_of Unicode u) ≡ spelled_as Unicode (length (form_of Unicode u) - 1)
unfolding unicode_spelling is_unicode
unicode_spelling_lem u e =
    let l : length (form_of Unicode u) ≤ 4 + length u = omega (arith, form_of_length Unicode u) in
    let n : 3 + length u ≡ length (form_of Unicode u) - 1 = omega (arith, form_of_length Unicode u) in
    rw (closes false u [] e refl, closes_at false u [] e refl, drop_of_length-le (form_of Unicode u) l, n)

text_spelling : (f : Form) (u : List ℕ) → Exact (closing_step false quote) u → spelling (form_of f u) ≡ spelled_as f (length (form_of f u) - 1)
unfolding spelling is_unicode
text_spelling Escape u e =
    rw (other_mark 0 quote (form_of Escape u) refl, other_mark 0 dquote (form_of Escape u) refl, encloses_behind (code "E" ∷ []) quote u)
text_spelling Unicode u e = rw (other_mark 0 quote (form_of Unicode u) refl, other_mark 0 dquote (form_of Unicode u) refl) (unicode_spelling_lem u e)

-- how its body is walked: E's course is checked, which changes nothing since the value is UTF-8
abbrev pub course_of : Form → List ℕ → Trace
course_of Escape u = checked fresh (walk escape_step 0 u)
course_of Unicode u = walk (read_step Unicode) 0 u

text_course : (f : Form) {v u : List ℕ} → Units f v u → utf8 v ≡ true → course_of f u ≡ walk (read_step f) 0 u
unfolding utf8
text_course Escape {v} {u} r h = checked_whole fresh (walk escape_step 0 u) (units_goes r) (rw (units_value r) h)
text_course Unicode r h = refl

text_reads : (f : Form) (σ : Settings) (t : List ℕ) (n : ℕ)
    → read_as σ t (spelled_as f n) ≡ answer (length (form_opening f)) n (course_of f (part (length (form_opening f)) n t))
text_reads Escape σ t n = refl
text_reads Unicode σ t n = refl

module _ {f : Form} {v u : List ℕ} (r : Units f v u) (h : utf8 v ≡ true) where
  text_read : (σ : Settings) → read σ (form_of f u) ≡ answer (length (form_opening f)) (length (form_of f u) - 1) (walk (read_step f) 0 u)
  unfolding one
  text_read σ =
      lone σ (form_of f u) (text_segment f σ u (units_exact r))
      ∙ rw (text_nul r, text_spelling f u (units_exact r false))
      (text_reads f σ (form_of f u) (length (form_of f u) - 1) ∙ rw (part_behind (form_opening f) quote u, text_course f r h))

  text_back : (σ : Settings) → ReadsBack σ (form_opening f) (form_of f u) v
  text_back σ = course_back σ (form_opening f) u v (read_step f) (units_means r) (text_read σ)

-- THE VALIDATORS: of a text in the other form they say yes too, since it is UTF-8
text_escape_valid : (f : Form) {v u : List ℕ} → Units f v u → utf8 v ≡ true → escape_valid (form_of f u) ≡ true
unfolding escape_valid
text_escape_valid Escape {v} {u} r h =
    rw (text_utf8 r h, encloses_behind (code "E" ∷ []) quote u, part_behind (form_opening Escape) quote u, text_course Escape r h, units_goes r)
text_escape_valid Unicode r h = rw (text_utf8 r h)

text_unicode_valid : (f : Form) {v u : List ℕ} → Units f v u → utf8 v ≡ true → unicode_valid (form_of f u) ≡ true
unfolding unicode_valid unicode_spelling is_unicode
text_unicode_valid Escape r h = rw (text_utf8 r h)
text_unicode_valid Unicode {v} {u} r h =
    rw (text_utf8 r h, unicode_spelling_lem u (units_exact r false), part_behind (form_opening Unicode) quote u, units_goes r)

-- ONE BYTE OVER AND OVER, of ASCII and not NUL
repeated_costs : (f : Form) (n b : ℕ) → form_costs f (replicate n b) ≡ form_cost f b * n
repeated_costs f zero b = omega arith
repeated_costs f (suc n) b = omega (arith, repeated_costs f n b, mul-add (form_cost f b) 1 n)

pub repeated_utf8 : (n b : ℕ) → b < 0x80 → utf8 (replicate n b) ≡ true
unfolding utf8
repeated_utf8 zero b h = refl
repeated_utf8 (suc n) b h = ap (λ (d : Due). whole (pushes d (replicate n b))) (low_lead b h) ∙ repeated_utf8 n b h

repeated_nul : (n b : ℕ) → 0 < b → has 0 (replicate n b) ≡ false
repeated_nul zero b h = refl
repeated_nul (suc n) b h = rw (ne_eqb 0 b (λ e. omega arith)) (repeated_nul n b h)

-- WHAT THE WRITER ACCEPTS, in either form
pub record FormAccepted (v : List ℕ) : Type 0 where
  pub limit : over_limit Whole v ≡ false
  pub valid : utf8 v ≡ true
  pub nul : has 0 v ≡ false

pub repeated_accepted : (n b : ℕ) → n ≤ 268435456 → 0 < b → b < 0x80 → FormAccepted (replicate n b)
repeated_accepted n b h some low = record {
  limit = whole_within (replicate n b) (omega (arith, length-replicate {A = ℕ} n b));
  valid = repeated_utf8 n b low;
  nul = repeated_nul n b some;
}

-- WHAT IT WRITES
module _ (f : Form) (v : List ℕ) (a : FormAccepted v) where
  units : Units f v (value (walk (form_step f) 0 v))
  units = units_of f v a.valid a.nul

  pub form_text_utf8 : utf8 (form_text f v) ≡ true
  unfolding form_text
  form_text_utf8 = text_utf8 units a.valid

  -- it reads back, whatever the setting
  pub form_back : (σ : Settings) → ReadsBack σ (form_opening f) (form_text f v) v
  unfolding form_text
  form_back = text_back units a.valid

  pub form_accepts : (σ : Settings) → Accepts σ (form_text f v) v
  form_accepts σ = record { valid = form_text_utf8; value = back_means (form_back σ) }

  -- borrowed, where the text has but its opening and its mark more than the value; written, where it has more
  pub form_borrowed : (σ : Settings) → length (form_text f v) ≡ length v + suc (length (form_opening f))
      → (form_text f v ≡ form_opening f ++ (v ++ (quote ∷ [])))
      × (read σ (form_text f v) ≡ borrowed (length (form_opening f)) (length (form_opening f) + length v))
  form_borrowed σ = back_borrowed (form_back σ)

  pub form_longer : (σ : Settings) → length v + suc (length (form_opening f)) < length (form_text f v) → read σ (form_text f v) ≡ written v
  form_longer σ = back_written (form_back σ)

  pub form_text_escape_valid : escape_valid (form_text f v) ≡ true
  unfolding form_text
  form_text_escape_valid = text_escape_valid f units a.valid

  pub form_text_unicode_valid : unicode_valid (form_text f v) ≡ true
  unfolding form_text
  form_text_unicode_valid = text_unicode_valid f units a.valid

  -- of E no byte is below 20 hex; of U& each is from 20 to 7E
  pub form_text_shows : Every (shows f) (form_text f v)
  unfolding form_text
  form_text_shows = text_shows units

  -- how long it is
  pub form_text_length : length (form_text f v) ≡ length (form_opening f) + form_costs f v + 1
  unfolding form_text
  form_text_length = omega (arith, form_of_length f (value (walk (form_step f) 0 v)), units_length units)

  -- n bytes of value write 4 n + 3 bytes of E at the most, and 5 n + 4 of U&
  pub form_text_bound : length (form_text f v) ≤ most f * length v + suc (length (form_opening f))
  unfolding form_text
  form_text_bound = omega (arith, form_of_length f (value (walk (form_step f) 0 v)), units_bound units)

pub repeated_length : (f : Form) (n b : ℕ) → n ≤ 268435456 → 0 < b → b < 0x80
    → length (form_text f (replicate n b)) ≡ form_cost f b * n + suc (length (form_opening f))
repeated_length f n b h some low = omega (arith, form_text_length f (replicate n b) (repeated_accepted n b h some low), repeated_costs f n b)

-- THE BOUND IS REACHED by bytes 01, which neither form leaves as they are
one_costs : (f : Form) → form_cost f 1 ≡ most f
unfolding form_cost is_doubled within
one_costs Escape = refl
one_costs Unicode = refl

pub form_text_reached : (f : Form) (n : ℕ) → n ≤ 268435456 → length (form_text f (replicate n 1)) ≡ most f * n + suc (length (form_opening f))
form_text_reached f n h = repeated_length f n 1 h (omega arith) (omega arith) ∙ ap (λ (c : ℕ). c * n + suc (length (form_opening f))) (one_costs f)

-- 32 bits hold every length
pub escape_text_fits : (v : List ℕ) → FormAccepted v → length (form_text Escape v) ≤ 1073741827
escape_text_fits v a = omega (arith, form_text_bound Escape v a, limit_length Whole v a.limit)

pub form_text_fits : (f : Form) (v : List ℕ) → FormAccepted v → length (form_text f v) ≤ 1342177284
form_text_fits Escape v a = omega (arith, escape_text_fits v a)
form_text_fits Unicode v a = omega (arith, form_text_bound Unicode v a, limit_length Whole v a.limit)
