-- How a text may be read, and what is told of it then. Assumes nothing.
use Rattle.std.specs.Prelude.{Result, Ok, Err}
use mathlib.Core.Path.{◌≡◌, refl, sym, ◌∙◌, subst}
use mathlib.Core.Bool.{Bool, true, false, ◌&&◌, not}
use mathlib.Core.List.{List}
use Prim.Native.Nat.{ℕ, ◌-◌, ◌≤◌}
use lib.ListN.{length, take, drop}
use borrow.Author.Tests.{not-true, not-false}
use Rattle.meaning.specs.declared.Settings.{Settings}
use Rattle.meaning.specs.declared.ReadText.{ReadText}
use Rattle.meaning.specs.declared.ReadRefusal.{ReadRefusal}
use Rattle.meaning.specs.declared.ReadText.TheVariants as ReadText'
use Rattle.meaning.specs.declared.ReadRefusal.TheVariants as ReadRefusal'
use Rattle.meaning.specs.Bytes.{has}
use Rattle.meaning.specs.Chars.{utf8}
use Rattle.meaning.specs.Reading.{read}
use Rattle.meaning.specs.Reads.{Reads}
use Rattle.laws.proofs.basics.Lists.{part_tail}
use Rattle.laws.proofs.basics.Tests.{and_left, and_right}
use Rattle.leaves.specs.Blocks.{passes}
use Rattle.utf8.specs.Plain.{plain_of}
use Rattle.utf8.proofs.PlainBytes.{run_clean}
use Rattle.strings.specs.declared.reading.Fit.{Fit}
use Rattle.strings.specs.declared.reading.Fit.TheVariants as Fit'
use Rattle.strings.specs.declared.reading.NotUtf8.{NotUtf8}
use Rattle.strings.specs.declared.quick.Untold.{Untold}
use Rattle.strings.specs.declared.quick.Untold.TheVariants as Untold'
use Rattle.strings.specs.Plain.{is_plain, is_plain_ascii}
use Rattle.strings.specs.Driving.{FitBy, FitsAs, Checks, TriesBy, Tries}
use Rattle.strings.proofs.AsciiRows.{ascii_plain, ascii_utf8}
use Rattle.strings.proofs.Plains.{plain_long, plain_borrowed}
use Rattle.strings.proofs.QuickAnswers.{onward_reads}

module _ (σ : Settings) (t : List ℕ) where
  -- THE TEXT, taken as the part of itself that it is
  pub whole : (out : List ℕ) (r : Result ReadText Untold) (after : List ℕ)
      → Tries (utf8 (take (length t - 0) (drop 0 t))) (read σ (take (length t - 0) (drop 0 t))) out r after → Tries (utf8 t) (read σ t) out r after
  whole out r after = subst (λ s. Tries (utf8 s) (read σ s) out r after) (part_tail t 0)

  -- WHAT THE SCANS TELL
  pub fit_run : (a b : ℕ) (x : Bool) → x ≡ passes (plain_of a b) (length t) t → x ≡ true → FitsAs σ t Fit'.Clean
  fit_run a b x e h = record { by = run_clean a b t x e h }

  pub fit_other : FitsAs σ t Fit'.Other
  fit_other = record { by = tt }

  module _ (x : Bool) (e : x ≡ (utf8 t && not (has 0 t))) (y : not x ≡ false) where
    both : (utf8 t && not (has 0 t)) ≡ true
    both = sym e ∙ not-false x y

    pub fit_plain : (p : Bool) → p ≡ is_plain σ t → p ≡ true → FitsAs σ t Fit'.Plain
    fit_plain p ep h = record { by = (sym ep ∙ h, and_left (utf8 t) (not (has 0 t)) both) }

    pub fit_clean : FitsAs σ t Fit'.Clean
    fit_clean = record { by = (not-true (has 0 t) (and_right (utf8 t) (not (has 0 t)) both), and_left (utf8 t) (not (has 0 t)) both) }

  -- A PLAIN TEXT is its body
  module _ (f : Fit) (k : FitsAs σ t f) where
    module _ (e : f ≡ Fit'.Plain) where
      plain : (is_plain σ t ≡ true) × (utf8 t ≡ true)
      plain = subst (FitBy σ t) e k.by

      pub fit_long : 1 ≤ length t
      fit_long = plain_long σ t true (sym plain.0) refl

      pub fit_reads : (out : List ℕ) → Reads (read σ t) out (Ok (ReadText'.Borrowed 1 (length t - 1))) out
      fit_reads out = plain_borrowed σ t true (sym plain.0) refl out

      pub fit_tries : (out : List ℕ) → Tries (utf8 t) (read σ t) out (Ok (ReadText'.Borrowed 1 (length t - 1))) out
      fit_tries out = record { by = (plain.1, fit_reads out) }

    -- A CLEAN ONE is read quickly, or left to be read by units
    module _ (e : f ≡ Fit'.Clean) where
      pub clean : (has 0 t ≡ false) × (utf8 t ≡ true)
      clean = subst (FitBy σ t) e k.by

      pub quick_tries : (out : List ℕ) (q : Result ReadText Untold) (after : List ℕ) → Tries true (read σ t) out q after → Tries (utf8 t) (read σ t) out q after
      quick_tries out q after = subst (λ (u : Bool). Tries u (read σ t) out q after) (sym clean.1)

  -- ANY OTHER is tested, and left
  module _ (x : Bool) (e : x ≡ utf8 t) (out : List ℕ) where
    pub other_unread : x ≡ true → Tries (utf8 t) (read σ t) out (Err Untold'.Unread) out
    other_unread y = record { by = (sym e ∙ y, (refl, refl)) }

    pub other_not : x ≡ false → Tries (utf8 t) (read σ t) out (Err Untold'.NotUtf8) out
    other_not y = record { by = (sym e ∙ y, refl) }

  -- WHAT WAS TRIED: told, and what is left is read behind it
  module _ (out : List ℕ) (q : Result ReadText Untold) (after : List ℕ) (x : Tries (utf8 t) (read σ t) out q after) where
    tried : (d : Result ReadText Untold) → q ≡ d → TriesBy (utf8 t) (read σ t) out d after
    tried d z = subst (λ d. TriesBy (utf8 t) (read σ t) out d after) z x.by

    pub text_reads : (s : ReadText) → q ≡ Ok s → Reads (read σ t) out (Ok s) after
    text_reads s z = (tried (Ok s) z).1

    pub lacking_reads : (n : ℕ) → q ≡ Err (Untold'.NoRoom n) → Reads (read σ t) out (Err (ReadRefusal'.NoRoom n)) after
    lacking_reads n z = (tried (Err (Untold'.NoRoom n)) z).1

    pub text_checks : (s : ReadText) → q ≡ Ok s → Checks (utf8 t) (read σ t) out (Ok (Ok s)) after
    text_checks s z = record { by = tried (Ok s) z }

    pub lacking_checks : (n : ℕ) → q ≡ Err (Untold'.NoRoom n) → Checks (utf8 t) (read σ t) out (Ok (Err (ReadRefusal'.NoRoom n))) after
    lacking_checks n z = record { by = tried (Err (Untold'.NoRoom n)) z }

    pub not_checks : q ≡ Err Untold'.NotUtf8 → (n : NotUtf8) → Checks (utf8 t) (read σ t) out (Err n) after
    not_checks z n = record { by = tried (Err Untold'.NotUtf8) z }

    module _ (r : Result ReadText ReadRefusal) (last : List ℕ) (w : Reads (read σ t) after r last) where
      pub not_reads : q ≡ Err Untold'.NotUtf8 → Reads (read σ t) out r last
      not_reads z = subst (λ b. Reads (read σ t) b r last) (tried (Err Untold'.NotUtf8) z).1 w

      pub unread_reads : q ≡ Err Untold'.Unread → Reads (read σ t) out r last
      unread_reads z = let k = (tried (Err Untold'.Unread) z).1 in onward_reads (read σ t) out after k.0 k.1 r last w

      pub unread_checks : q ≡ Err Untold'.Unread → Checks (utf8 t) (read σ t) out (Ok r) last
      unread_checks z = record { by = ((tried (Err Untold'.Unread) z).0, unread_reads z) }

  -- A PLAIN TEXT IN ASCII, told by its scan
  module _ (x : Bool) (p : x ≡ is_plain_ascii σ t) (e : x ≡ true) where
    plain_told : is_plain σ t ≡ true
    plain_told = ascii_plain σ t (sym p ∙ e)

    pub ascii_long : 1 ≤ length t
    ascii_long = plain_long σ t true (sym plain_told) refl

    pub ascii_reads : (out : List ℕ) → Reads (read σ t) out (Ok (ReadText'.Borrowed 1 (length t - 1))) out
    ascii_reads out = plain_borrowed σ t true (sym plain_told) refl out

    pub ascii_checks : (out : List ℕ) → Checks (utf8 t) (read σ t) out (Ok (Ok (ReadText'.Borrowed 1 (length t - 1)))) out
    ascii_checks out = record { by = (ascii_utf8 σ t (sym p ∙ e), ascii_reads out) }
