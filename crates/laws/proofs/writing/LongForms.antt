-- [02 T-01] The long rows of the request's table of refusals and room: values at the limit and one byte above it, too long to be computed, so by the laws, over
-- every length. The table's own numbers follow. Assumes nothing.
use mathlib.Core.Path.{◌≡◌, ap, ◌∙◌}
use mathlib.Core.Bool.{or-true}
use mathlib.Core.List.{List, [], ◌∷◌, ◌++◌}
use Prim.Native.Nat.{ℕ, suc, ◌+◌, ◌*◌, ◌≤◌, ◌<◌}
use native.Mathlib.Omega.{arith}
use lib.ListN.{length, replicate, length-append, length-replicate}
use Rattle.meaning.specs.declared.Form.{Form}
use Rattle.meaning.specs.declared.Form.TheVariants.{Escape, Unicode}
use Rattle.meaning.specs.declared.WritingError.TheVariants.{OverLimit, NotUtf8, HoldsNul, NoRoom}
use Rattle.meaning.specs.Bytes.{has, within}
use Rattle.meaning.specs.Chars.{utf8, lead}
use Rattle.meaning.specs.Forms.{form_opening, is_doubled, form_question}
use Rattle.laws.proofs.utf8.Utf8.{utf8_append}
use Rattle.laws.proofs.basics.Enclosed.{has_append}
use Rattle.laws.proofs.writing.FormUnits.{form_cost}
use Rattle.laws.proofs.writing.FormText.{repeated_utf8, repeated_accepted, repeated_length}
use Rattle.laws.proofs.writing.FormRoundTrip.{form_limit, form_utf8, form_nul, form_room}
use Rattle.std.specs.Prelude.{Err}

-- n bytes 61 hex and one more
abbrev pub letters_and : ℕ → ℕ → List ℕ
letters_and n b = replicate n 0x61 ++ (b ∷ [])

letters_length : (n b : ℕ) → length (letters_and n b) ≡ n + 1
letters_length n b = length-append (replicate n 0x61) (b ∷ []) ∙ ap (◌+ 1) (length-replicate n 0x61)

letters_utf8 : (n b : ℕ) → utf8 (letters_and n b) ≡ utf8 (b ∷ [])
letters_utf8 n b = utf8_append (replicate n 0x61) (b ∷ []) (repeated_utf8 n 0x61 (omega arith))

-- REFUSALS: n bytes b, whatever b is; and behind n bytes 61 hex FF, or 00
module _ (f : Form) (n : ℕ) (out : List ℕ) where
  pub long_limit : (b : ℕ) → 268435456 < n → form_question f (replicate n b) out ≡ record { answer = Err OverLimit; buffer = out }
  long_limit b h = form_limit f (replicate n b) out (omega (arith, length-replicate {A = ℕ} n b))

  pub long_utf8 : n + 1 ≤ 268435456 → form_question f (letters_and n 0xFF) out ≡ record { answer = Err NotUtf8; buffer = out }
  unfolding utf8 lead within
  long_utf8 h = form_utf8 f (letters_and n 0xFF) out (omega (arith, letters_length n 0xFF)) (letters_utf8 n 0xFF)

  pub long_nul : n + 1 ≤ 268435456 → form_question f (letters_and n 0) out ≡ record { answer = Err HoldsNul; buffer = out }
  unfolding utf8 lead within
  long_nul h =
      form_nul f (letters_and n 0) out (omega (arith, letters_length n 0)) (letters_utf8 n 0)
      (has_append 0 (replicate n 0x61) (0 ∷ []) ∙ or-true (has 0 (replicate n 0x61)))

-- ROOM: with no buffer the text's length is asked for
room : (f : Form) (n b k : ℕ) → n ≤ 268435456 → 0 < b → b < 0x80 → form_cost f b * n + suc (length (form_opening f)) ≡ k
    → form_question f (replicate n b) [] ≡ record { answer = Err (NoRoom k); buffer = [] }
room f n b k h some low e =
    let l = repeated_length f n b h some low in
    form_room f (replicate n b) [] (repeated_accepted n b h some low) (omega (arith, l))
    ∙ ap (λ (j : ℕ). record { answer = Err (NoRoom j); buffer = [] }) (l ∙ e)

module _ (n : ℕ) (h : n ≤ 268435456) where
  pub escape_letters : form_question Escape (replicate n 0x61) [] ≡ record { answer = Err (NoRoom (n + 3)); buffer = [] }
  unfolding form_cost is_doubled within
  escape_letters = room Escape n 0x61 (n + 3) h (omega arith) (omega arith) (omega arith)

  pub unicode_letters : form_question Unicode (replicate n 0x61) [] ≡ record { answer = Err (NoRoom (n + 4)); buffer = [] }
  unfolding form_cost is_doubled within
  unicode_letters = room Unicode n 0x61 (n + 4) h (omega arith) (omega arith) (omega arith)

  pub escape_ones : form_question Escape (replicate n 0x01) [] ≡ record { answer = Err (NoRoom (4 * n + 3)); buffer = [] }
  unfolding form_cost is_doubled within
  escape_ones = room Escape n 0x01 (4 * n + 3) h (omega arith) (omega arith) (omega arith)

  pub unicode_ones : form_question Unicode (replicate n 0x01) [] ≡ record { answer = Err (NoRoom (5 * n + 4)); buffer = [] }
  unfolding form_cost is_doubled within
  unicode_ones = room Unicode n 0x01 (5 * n + 4) h (omega arith) (omega arith) (omega arith)

-- THE TABLE'S ROWS. Of the first four the table's buffer has 16 bytes; any is as good
module _ (f : Form) (out : List ℕ) where
  pub row_limit : (b : ℕ) → form_question f (replicate 268435457 b) out ≡ record { answer = Err OverLimit; buffer = out }
  row_limit b = long_limit f 268435457 out b (omega arith)

  pub row_utf8 : form_question f (letters_and 268435455 0xFF) out ≡ record { answer = Err NotUtf8; buffer = out }
  row_utf8 = long_utf8 f 268435455 out (omega arith)

  pub row_nul : form_question f (letters_and 268435455 0x00) out ≡ record { answer = Err HoldsNul; buffer = out }
  row_nul = long_nul f 268435455 out (omega arith)

pub row_escape_letters : form_question Escape (replicate 268435456 0x61) [] ≡ record { answer = Err (NoRoom 268435459); buffer = [] }
row_escape_letters = escape_letters 268435456 (omega arith)

pub row_unicode_letters : form_question Unicode (replicate 268435456 0x61) [] ≡ record { answer = Err (NoRoom 268435460); buffer = [] }
row_unicode_letters = unicode_letters 268435456 (omega arith)

pub row_escape_ones : form_question Escape (replicate 268435456 0x01) [] ≡ record { answer = Err (NoRoom 1073741827); buffer = [] }
row_escape_ones = escape_ones 268435456 (omega arith)

pub row_unicode_ones : form_question Unicode (replicate 268435456 0x01) [] ≡ record { answer = Err (NoRoom 1342177284); buffer = [] }
row_unicode_ones = unicode_ones 268435456 (omega arith)
