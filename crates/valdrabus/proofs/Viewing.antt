-- The view of an answer by its numbers shows what the definition shows of the answer. Assumes nothing.
use mathlib.Core.Path.{◌≡◌, refl}
use mathlib.Core.Bool.{Bool, true, false, ◌&&◌}
use mathlib.Core.List.{List, []}
use Prim.Native.Nat.{ℕ}
use lib.Dec.{eqb, leb}
use lib.ListN.{length}
use Rattle.meaning.specs.declared.Refusal.{Refusal}
use Rattle.meaning.specs.declared.Refusal.TheVariants as Refusal'
use Rattle.meaning.specs.declared.Text.{Text}
use Rattle.meaning.specs.declared.Text.TheVariants as Text'
use Rattle.meaning.specs.Bytes.{part}
use Rattle.std.specs.Prelude.{if◌then◌else◌}
use Rattle.meaning.specs.Answers.{part_shown, shown}
use Rattle.valdrabus.specs.declared.told.Told.{Told}
use Rattle.valdrabus.specs.Numbers.{text_told}
use Rattle.valdrabus.specs.Views.{viewed, view_call, view_bytes}
use Rattle.std.specs.Prelude.{Result, Ok, Err}

-- THE TWO TESTS
module _ (how f u m n : ℕ) where
  pub view_source : eqb how 1 && (leb f u && leb u m) ≡ true → viewed 1 f u ≡ view_call how f u m n
  unfolding view_call
  view_source h = rw h

  module _ (x : eqb how 1 && (leb f u && leb u m) ≡ false) where
    pub view_buffer : eqb how 2 && (leb f u && leb u n) ≡ true → viewed 2 f u ≡ view_call how f u m n
    unfolding view_call
    view_buffer h = rw (x, h)

    pub view_none : eqb how 2 && (leb f u && leb u n) ≡ false → viewed 0 0 0 ≡ view_call how f u m n
    unfolding view_call
    view_none h = rw (x, h)

-- WHAT IS SHOWN
module _ (S out : List ℕ) where
  -- the bytes that the view of four numbers stands for
  abbrev seen : Told → List ℕ
  seen t = view_bytes S out (view_call t.how t.first t.second (length S) (length out))

  of_source : (f u : ℕ) (fits : Bool) → view_bytes S out (if fits then viewed 1 f u else viewed 0 0 0) ≡ (if fits then part f u S else [])
  of_source f u true = refl
  of_source f u false = refl

  of_buffer : (f u : ℕ) (fits : Bool) → view_bytes S out (if fits then viewed 2 f u else viewed 0 0 0) ≡ (if fits then part f u out else [])
  of_buffer f u true = refl
  of_buffer f u false = refl

  refused : (r : Refusal) → seen (text_told (Err r)) ≡ []
  unfolding view_call
  refused (Refusal'.WrongKind e k) = refl
  refused (Refusal'.MissingSource s) = refl
  refused (Refusal'.InvalidSourceRange s) = refl
  refused (Refusal'.NotUtf8 s) = refl
  refused (Refusal'.InvalidInteger s) = refl
  refused (Refusal'.InvalidString s p) = refl
  refused (Refusal'.InvalidBitString s) = refl
  refused (Refusal'.InvalidMoney s) = refl
  refused (Refusal'.NoRoom n) = refl
  refused (Refusal'.InvalidDate s) = refl

  pub view_shows : (a : Result Text Refusal) → seen (text_told a) ≡ shown S out a
  unfolding view_call part_shown
  view_shows (Ok (Text'.Borrowed f u)) = of_source f u (leb f u && leb u (length S))
  view_shows (Ok (Text'.Written n)) = of_buffer 0 n (leb 0 n && leb n (length out))
  view_shows (Err r) = refused r
