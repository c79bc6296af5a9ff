-- [02 T-01] What the writer of forms answers behind its tests; and that the text it writes is the definition's. Assumes nothing.
use mathlib.Core.Path.{◌≡◌, refl, ap, sym, ◌∙◌}
use mathlib.Core.Bool.{true, false}
use mathlib.Core.List.{List, ◌++◌}
use Prim.Native.Nat.{ℕ, ◌≤◌, ◌<◌}
use native.Mathlib.Omega.{arith}
use lib.ListN.{length, drop}
use Rattle.meaning.specs.declared.Form.{Form}
use Rattle.meaning.specs.declared.Form.TheVariants as Form'
use Rattle.meaning.specs.declared.PartSize.TheVariants.{Whole}
use Rattle.meaning.specs.declared.WritingError.TheVariants.{NoRoom}
use Rattle.meaning.specs.Bytes.{has}
use Rattle.meaning.specs.Chars.{utf8}
use Rattle.meaning.specs.Answers.{Meets}
use Rattle.meaning.specs.Writer.{over_limit, writes}
use Rattle.meaning.specs.Forms.{form_opening, form_text, form_question}
use Rattle.laws.proofs.writing.Writers.{Passed, writes_all, writes_none}
use Rattle.laws.proofs.writing.WriterParts.{limit_length}
use Rattle.laws.proofs.writing.FormText.{FormAccepted}
use Rattle.laws.proofs.writing.FormRoundTrip.{form_accepted_writes}
use Rattle.writer.specs.Manners.{Manner, manner_of, opening_by, text_by}
use Rattle.writer.specs.declared.lengths.Measured.{Measured}
use Rattle.writer.specs.Texts.{nul_free, Spellable, measured_by, Fits, PutBytes}
use Rattle.writer.proofs.Measuring.{form_units}
use Rattle.writer.proofs.Refusing.{met}
use Rattle.std.specs.Prelude.{Ok, Err}

-- THE TEXT
opening_is : (f : Form) → opening_by (manner_of f) ≡ form_opening f
opening_is Form'.Escape = refl
opening_is Form'.Unicode = refl

pub text_is : (f : Form) (v : List ℕ) → text_by (manner_of f) v ≡ form_text f v
unfolding text_by form_text
text_is f v = rw (opening_is f, form_units f v)

nul_free_lem : (f : Form) (v : List ℕ) → has 0 v ≡ false → nul_free (manner_of f) v ≡ true
nul_free_lem Form'.Escape v e = rw e
nul_free_lem Form'.Unicode v e = rw e

pub form_accepted : (v : List ℕ) → Passed (over_limit Whole v) (utf8 v) (has 0 v) → FormAccepted v
form_accepted v p = record { limit = p.limit; valid = p.valid; nul = p.nul }

-- ACCEPTED: the text is asked for by its form
module _ (f : Form) {v : List ℕ} (a : FormAccepted v) where
  pub spellable : Spellable (manner_of f) v
  spellable = record { short = limit_length Whole v a.limit; valid = a.valid; free = nul_free_lem f v a.nul }

  pub asked : (out : List ℕ) → form_question f v out ≡ writes (text_by (manner_of f) v) out
  asked out = form_accepted_writes f v out a ∙ ap (λ (t : List ℕ). writes t out) (sym (text_is f v))

-- A TEXT is measured, and written where there is room
module _ {m : Manner} {v : List ℕ} (s : Spellable m v) {r : Measured} (er : r ≡ measured_by m v) (out : List ℕ) where
  needed : r.len ≡ length (text_by m v)
  needed = ap (λ (x : Measured). x.len) er

  pub no_room : length out < r.len → Meets (writes (text_by m v) out) (Err (NoRoom r.len)) out
  no_room h = rw needed (met (writes (text_by m v) out) (Err (NoRoom (length (text_by m v)))) out (writes_none (text_by m v) out (omega (arith, needed))))

  pub text_fits : r.len ≤ length out → Fits m r.whole v (text_by m v) (length out)
  text_fits h = record { valid = s.valid; copied = λ e. sym (ap (λ (x : Measured). x.whole) er) ∙ e; room = omega (arith, needed) }

  pub text_written : r.len ≤ length out → {n : ℕ} {after : List ℕ} → PutBytes (text_by m v) out n after → Meets (writes (text_by m v) out) (Ok r.len) after
  text_written h p =
      rw (needed, p.buffer)
      (met (writes (text_by m v) out) (Ok (length (text_by m v))) (text_by m v ++ drop (length (text_by m v)) out)
      (writes_all (text_by m v) out (omega (arith, needed))))
