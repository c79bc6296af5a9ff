-- What the code's spellings mean. Assumes nothing.
use Rattle.std.specs.Prelude.{Bool, ◌&&◌, ◌≡◌, List, [], ◌∷◌, ℕ, ◌-◌, ◌≤◌, eqb, ltb, length}
use Prim.Native.Char.{code}
use Rattle.meaning.specs.Bytes.{◌!◌, part, quote, backslash}
use Rattle.std.specs.Prelude.{if◌then◌else◌}
use Rattle.meaning.specs.Cutting.{opening}
use Rattle.meaning.specs.Spelling.{Spelling, standard, escape, unicode, dollar, unspelt, encloses, is_unicode, unicode_spelling, delimiter, dollar_by}
use Rattle.cutting.specs.declared.marks.Mark.{Mark}
use Rattle.cutting.specs.declared.marks.Mark.TheVariants.{Quote}
use Rattle.cutting.specs.Marks.{mark_of}
use Rattle.escapes.specs.declared.units.Family.{Family}
use Rattle.escapes.specs.declared.units.Family.TheVariants.{Standard, Escape, Unicode}
use Rattle.spellings.specs.declared.spelling.Spelled.{Spelled}
use Rattle.spellings.specs.declared.spelling.Spelled.TheVariants.{Body, Dollar, Unspelt}

-- an empty part stands for the backslash
abbrev pub escape_of : List ℕ → ℕ → ℕ → List ℕ
escape_of t a z = if eqb a z then backslash ∷ [] else part a z t

-- by the escape character's bytes e
abbrev pub spelling_by : List ℕ → Family → ℕ → ℕ → Spelling
spelling_by e (Standard m bs) f u = standard (mark_of m) f u
spelling_by e Escape f u = escape f u
spelling_by e (Unicode m) f u = unicode e f u

abbrev pub spelled_of : List ℕ → Spelled → Spelling
spelled_of t (Body b) = spelling_by (escape_of t b.escape_from b.escape_until) b.family b.from b.until
spelled_of t (Dollar f u) = dollar f u
spelled_of t Unspelt = unspelt

-- a body that no clause follows
abbrev pub enclosed_of : Family → ℕ → ℕ → Spelled
enclosed_of k f u = Body (record { family = k; from = f; until = u; escape_from = 0; escape_until = 0 })

-- the part of the escape character lies in a text of n bytes
abbrev pub EscapeInside : ℕ → Spelled → Type 0
EscapeInside n (Body b) = (b.escape_from ≤ b.escape_until) × (b.escape_until ≤ n)
EscapeInside n (Dollar f u) = Unit {0}
EscapeInside n Unspelt = Unit {0}

-- a string's family: at the setting x, and with ' for U&
abbrev pub StringFamily : Bool → Family → Type 0
StringFamily x (Standard m bs) = bs ≡ x
StringFamily x Escape = Unit {0}
StringFamily x (Unicode m) = m ≡ Quote

abbrev pub StringSpelled : Bool → Spelled → Type 0
StringSpelled x (Body b) = StringFamily x b.family
StringSpelled x (Dollar f u) = Unit {0}
StringSpelled x Unspelt = Unit {0}

-- what spells a string, at the setting x
pub record Spells (x : Bool) (t : List ℕ) (r : Spelled) (s : Spelling) : Type 0 where
  pub means : spelled_of t r ≡ s
  pub inside : EscapeInside (length t) r
  pub family : StringSpelled x r

-- what spells U& with a mark: a body of that family, or nothing
abbrev pub LexemeSpelled : Mark → Spelled → Type 0
LexemeSpelled m (Body b) = b.family ≡ Unicode m
LexemeSpelled m (Dollar f u) = ⊥
LexemeSpelled m Unspelt = Unit {0}

pub record Lexes (m : Mark) (t : List ℕ) (r : Spelled) : Type 0 where
  pub means : spelled_of t r ≡ unicode_spelling (mark_of m) t
  pub inside : EscapeInside (length t) r
  pub family : LexemeSpelled m r

-- what spells a dollar string: no body of a family
abbrev pub DollarSpelled : Spelled → Type 0
DollarSpelled (Body b) = ⊥
DollarSpelled (Dollar f u) = Unit {0}
DollarSpelled Unspelt = Unit {0}

pub record Dollars (t : List ℕ) (r : Spelled) : Type 0 where
  pub means : spelled_of t r ≡ dollar_by t (delimiter t)
  pub family : DollarSpelled r

-- a charset introducer and its string
unfoldable pub introduced_of : List ℕ → Spelling
introduced_of t =
    if ltb 0 (opening t) && encloses (opening t - 1) (t ! (opening t - 1)) t
    then standard (t ! (opening t - 1)) (opening t) (length t - 1) else unspelt

-- what is left once no string between marks, with or without a letter before it, is found
unfoldable pub other_of : List ℕ → Spelling
other_of t =
    if eqb (t ! 0) (code "_") && ltb 0 (opening t) && encloses (opening t - 1) (t ! (opening t - 1)) t
    then standard (t ! (opening t - 1)) (opening t) (length t - 1)
    else if is_unicode quote t then unicode_spelling quote t
    else dollar_by t (delimiter t)
