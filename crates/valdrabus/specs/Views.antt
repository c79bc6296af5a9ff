-- What an answer by its numbers shows: which of source and buffer, and the range in it. Assumes nothing.
use Rattle.std.specs.Prelude.{◌≡◌, ◌&&◌, List, [], ℕ, eqb, leb}
use Rattle.meaning.specs.Bytes.{part}
use Rattle.std.specs.Prelude.{if◌then◌else◌}
use Rattle.valdrabus.specs.declared.views.View.{View}

abbrev pub viewed : ℕ → ℕ → ℕ → View
viewed which from until = record { which = which; from = from; until = until }

-- "a range that doesn't fit its slice, or a refusal, shows an empty part"; m and n are the lengths of source and buffer
unfoldable pub view_call : ℕ → ℕ → ℕ → ℕ → ℕ → View
view_call how f u m n =
    if eqb how 1 && (leb f u && leb u m) then viewed 1 f u
    else if eqb how 2 && (leb f u && leb u n) then viewed 2 f u
    else viewed 0 0 0

-- the bytes that a view stands for
abbrev pub view_bytes : List ℕ → List ℕ → View → List ℕ
view_bytes source out v =
    if eqb v.which 1 then part v.from v.until source else if eqb v.which 2 then part v.from v.until out else []

pub record Shows (v : View) (r from until : ℕ) : Type 0 where
  pub result : r ≡ v.which
  pub first : from ≡ v.from
  pub last : until ≡ v.until
