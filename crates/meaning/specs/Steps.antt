-- What may stand at one place of a body: the three escape languages; and what a search for the closing mark, and for the end of
-- white space, sees there. (No walk asks a step of no bytes: `stop` stands there for nothing.) Assumes nothing.
use Rattle.std.specs.Prelude.{Bool, ◌&&◌, List, [], ◌∷◌, ℕ, zero, suc, ◌+◌, ◌-◌, ◌*◌, ◌%◌, eqb, ltb, length, drop}
use Prim.Native.Char.{code}
use Rattle.meaning.specs.Bytes.{◌!◌, ascii, has, starts, within, quote, backslash, digits, number}
use Rattle.std.specs.Prelude.{if◌then◌else◌}
use Rattle.meaning.specs.Chars.{Due, due, broken, push, pushes, whole, encode, is_scalar, space}
use Rattle.meaning.specs.Walk.{Step, keep, give, stop, Trace, ended, stopped, kept, gave, walk, size}

-- A letter's byte by a table, 256 where it has none
abbrev pub byte_of : List (ℕ × ℕ) → ℕ → ℕ
byte_of [] c = 256
byte_of (r ∷ rs) c = if eqb r.0 c then r.1 else byte_of rs c

-- [01 One segment] The mark q in a body: doubled it is one, alone it refuses
unfoldable pub doubled : ℕ → List ℕ → Step
doubled q t = if eqb (t ! 0) q then give 1 (q ∷ []) else stop

-- STANDARD. [01 One segment, Standard; MySQL manual, String Literals, table of special character escape sequences] What follows
-- a backslash: \0 \b \n \r \t \Z are bytes; \% and \_ stay two characters; a backslash at the end stays; any other byte is itself
abbrev pub mysql_table : List (ℕ × ℕ)
mysql_table = (code "0", 0x00) ∷ (code "b", 0x08) ∷ (code "n", 0x0A) ∷ (code "r", 0x0D) ∷ (code "t", 0x09) ∷ (code "Z", 0x1A) ∷ []

abbrev pub mysql : List ℕ → Step
mysql [] = give 0 (backslash ∷ [])
mysql (c ∷ t) =
    if ltb (byte_of mysql_table c) 256 then give 1 (byte_of mysql_table c ∷ [])
    else if has c (ascii "%_") then give 1 (backslash ∷ c ∷ [])
    else give 1 (c ∷ [])

abbrev pub standard_step : Bool → ℕ → List ℕ → Step
standard_step bs q [] = stop
standard_step bs q (b ∷ t) = if bs && eqb b backslash then mysql t else if eqb b q then doubled q t else keep

-- E. [01 One segment, E; PostgreSQL manual 4.1.2.2, table of backslash escape sequences] What follows a backslash: \b \f \n \r \t;
-- one to three octal digits, modulo 256; x and one or two hex digits; u and four, U and eight hex digits, a scalar; x without a
-- digit, or any other byte, is itself. A zero refuses, and so does the end.
abbrev pub escape_table : List (ℕ × ℕ)
escape_table = (code "b", 0x08) ∷ (code "f", 0x0C) ∷ (code "n", 0x0A) ∷ (code "r", 0x0D) ∷ (code "t", 0x09) ∷ []

unfoldable pub one_byte : ℕ → ℕ → Step
one_byte n b = if eqb b 0 then stop else give n (b ∷ [])

-- a scalar other than zero
unfoldable pub may_escape : ℕ → Bool
may_escape c = ltb 0 c && is_scalar c

-- w hex digits, a scalar; the unit takes n bytes more than one
unfoldable pub scalar_by : ℕ → ℕ → List ℕ → Step
scalar_by w n t = if eqb (digits 16 w t) w && may_escape (number 16 w 0 t) then give n (encode (number 16 w 0 t)) else stop

abbrev pub escaped : List ℕ → Step
escaped [] = stop
escaped (c ∷ t) =
    if ltb (byte_of escape_table c) 256 then give 1 (byte_of escape_table c ∷ [])
    else if ltb 0 (digits 8 3 (c ∷ t)) then one_byte (digits 8 3 (c ∷ t)) (number 8 (digits 8 3 (c ∷ t)) 0 (c ∷ t) % 256)
    else if eqb c (code "x") && ltb 0 (digits 16 2 t) then one_byte (suc (digits 16 2 t)) (number 16 (digits 16 2 t) 0 t)
    else if eqb c (code "u") then scalar_by 4 5 t
    else if eqb c (code "U") then scalar_by 8 9 t
    else one_byte 1 c

abbrev pub escape_step : List ℕ → Step
escape_step [] = stop
escape_step (b ∷ t) = if eqb b backslash then escaped t else if eqb b quote then doubled quote t else keep

abbrev pub unless_broken : Due → (Due → Trace) → Trace
unless_broken broken go = stopped
unless_broken (due n lo hi) go = go (due n lo hi)

-- [01 One segment, E] "The expansion must be UTF-8": the course up to the first unit whose bytes break it
abbrev pub checked : Due → Trace → Trace
checked d ended = if whole d then ended else stopped
checked d stopped = stopped
checked d (kept b r) = unless_broken (push d b) (λ d'. kept b (checked d' r))
checked d (gave n out r) = unless_broken (pushes d out) (λ d'. gave n out (checked d' r))

-- U&, with the escape character's bytes e. [01 One segment, U&; PostgreSQL manual 4.1.2.3] What follows the escape: e again is e;
-- + and six hex digits, or four, a scalar; a high half by four needs e and a low half by four next
unfoldable pub pair : ℕ → ℕ → ℕ
pair h l = 0x10000 + (h - 0xD800) * 0x400 + (l - 0xDC00)

unfoldable pub low_half : List ℕ → ℕ → List ℕ → Step
low_half e h t =
    if starts e t && eqb (digits 16 4 (drop (length e) t)) 4 && within 0xDC00 0xDFFF (number 16 4 0 (drop (length e) t))
    then give (length e + length e + 7) (encode (pair h (number 16 4 0 (drop (length e) t))))
    else stop

unfoldable pub uescaped : List ℕ → List ℕ → Step
uescaped e t =
    if starts e t then give (length e + length e - 1) e
    else if eqb (t ! 0) (code "+") then scalar_by 6 (length e + 6) (drop 1 t)
    else if eqb (digits 16 4 t) 4 && within 0xD800 0xDBFF (number 16 4 0 t) then low_half e (number 16 4 0 t) (drop 4 t)
    else scalar_by 4 (length e + 3) t

abbrev pub unicode_step : List ℕ → ℕ → List ℕ → Step
unicode_step e q [] = stop
unicode_step e q (b ∷ t) = if eqb b q then doubled q t else if starts e (b ∷ t) then uescaped e (drop (length e) (b ∷ t)) else keep

-- THE CLOSING MARK q [01 Cutting] is where this walk stops: it steps over a doubled mark, and over the byte that a backslash hides
abbrev pub closing_step : Bool → ℕ → List ℕ → Step
closing_step hides q [] = stop
closing_step hides q (b ∷ t) = if hides && eqb b backslash then give 1 [] else if eqb b q then doubled q t else keep

-- WHITE SPACE ends where this walk stops or ends
abbrev pub space_by : ℕ → Step
space_by zero = stop
space_by (suc n) = give n []

abbrev pub space_step : List ℕ → Step
space_step t = space_by (space t)

abbrev pub gap : List ℕ → ℕ
gap t = size (walk space_step 0 t)

abbrev pub trim : List ℕ → List ℕ
trim t = drop (gap t) t
