-- A segment, read alone and put at a buffer's start. Assumes nothing.
use mathlib.Core.Path.{◌≡◌, refl, sym, ◌∙◌, subst}
use mathlib.Core.Bool.{Bool, true, false}
use mathlib.Core.List.{List}
use Prim.Native.Nat.{ℕ, ◌≤◌}
use lib.Dec.{leb}
use lib.ListN.{length}
use Rattle.meaning.specs.declared.Settings.{Settings}
use Rattle.meaning.specs.declared.ReadText.{ReadText}
use Rattle.meaning.specs.declared.ReadRefusal.{ReadRefusal}
use Rattle.meaning.specs.declared.ReadText.TheVariants as ReadText'
use Rattle.meaning.specs.declared.ReadRefusal.TheVariants as ReadRefusal'
use Rattle.std.specs.Prelude.{if◌then◌else◌, Result, Ok, Err}
use Rattle.meaning.specs.Reading.{Answer, borrowed, written, refused, one}
use Rattle.meaning.specs.Reads.{read_of, Reads}
use Rattle.laws.proofs.questions.Ranges.{Bounds, AnswerIn, one_inside}
use Rattle.spellings.specs.declared.spelling.Spelled.{Spelled}
use Rattle.strings.specs.Answers.{spelled_as, SpellsAlone}
use Rattle.strings.proofs.Bodies.{alone_reads}

-- what is read, by what was told of it
record Long (a : Answer) (n : ℕ) : Type 0 where
  bytes : List ℕ
  is : a ≡ written bytes
  long : length bytes ≡ n

abbrev Told : Answer → Result ReadText ReadRefusal → Type 0
Told a (Ok (ReadText'.Borrowed f u)) = a ≡ borrowed f u
Told a (Ok (ReadText'.Written n)) = Long a n
Told a (Err (ReadRefusal'.At p)) = a ≡ refused p
Told a (Err (ReadRefusal'.NoRoom n)) = Long a n

told : (a : Answer) (m : ℕ) → Told a (read_of m a)
told (borrowed f u) m = refl
told (written v) m = go (leb (length v) m)
  where
    go : (x : Bool) → Told (written v) (if x then Ok (ReadText'.Written (length v)) else Err (ReadRefusal'.NoRoom (length v)))
    go true = record { bytes = v; is = refl; long = refl }
    go false = record { bytes = v; is = refl; long = refl }
told (refused p) m = refl

module _ (σ : Settings) (t : List ℕ) (s : Spelled) (z : SpellsAlone σ t s) (out : List ℕ) (r : Result ReadText ReadRefusal) (after : List ℕ)
    (g : Reads (spelled_as t s) out r after) where
  k : Reads (one σ t) out r after
  k = alone_reads σ t s z out r after g

  tells : (s : Result ReadText ReadRefusal) → r ≡ s → Told (one σ t) s
  tells s q = subst (Told (one σ t)) (sym k.answer ∙ q) (told (one σ t) (length out))

  -- a part of the text that was read lies in it
  module _ (f u : ℕ) (q : r ≡ Ok (ReadText'.Borrowed f u)) where
    bounds : Bounds (length t) f u
    bounds = subst (AnswerIn (length t)) (tells (Ok (ReadText'.Borrowed f u)) q) (one_inside σ t)

    pub part_ordered : f ≤ u
    part_ordered = bounds.ordered

    pub part_inside : u ≤ length t
    part_inside = bounds.inside
