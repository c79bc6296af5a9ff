-- What is told of a unit of a standard or an E body by no escape character holds by any: no such unit is empty, so that none is told as the escape character.
-- Assumes nothing.
use mathlib.Core.Path.{sym, subst}
use mathlib.Core.Bool.{Bool, true, false, ◌&&◌}
use mathlib.Core.List.{List, [], ◌∷◌}
use Prim.Native.Nat.{ℕ, suc, ◌%◌}
use Prim.Native.Char.{code}
use lib.Dec.{eqb, ltb}
use Rattle.meaning.specs.Bytes.{◌!◌, ascii, has, quote, backslash, digits, number}
use Rattle.std.specs.Prelude.{if◌then◌else◌}
use Rattle.meaning.specs.Chars.{encode}
use Rattle.meaning.specs.Walk.{Step, keep, give, stop}
use Rattle.meaning.specs.Steps.{byte_of, doubled, mysql_table, mysql, standard_step, escape_table, one_byte, may_escape, scalar_by, escaped, escape_step}
use Rattle.escapes.specs.declared.pieces.Piece.{Piece}
use Rattle.escapes.specs.declared.pieces.Piece.TheVariants.{Keep, Byte, Two, Scalar, Escape, Refused}
use Rattle.escapes.specs.Pieces.{IsBy}

-- a unit stands for some bytes
abbrev pub Filled : Step → Type 0
Filled keep = Unit {0}
Filled (give n []) = ⊥
Filled (give n (b ∷ v)) = Unit {0}
Filled stop = Unit {0}

filled_doubled : (q : ℕ) (t : List ℕ) → Filled (doubled q t)
unfolding doubled
filled_doubled q t = go (eqb (t ! 0) q)
  where
    go : (x : Bool) → Filled (if x then give 1 (q ∷ []) else stop)
    go true = tt
    go false = tt

filled_mysql : (t : List ℕ) → Filled (mysql t)
filled_mysql [] = tt
filled_mysql (c ∷ t) = go (ltb (byte_of mysql_table c) 256) (has c (ascii "%_"))
  where
    go : (x y : Bool) → Filled (if x then give 1 (byte_of mysql_table c ∷ []) else if y then give 1 (backslash ∷ c ∷ []) else give 1 (c ∷ []))
    go true y = tt
    go false true = tt
    go false false = tt

filled_standard : (bs : Bool) (q : ℕ) (t : List ℕ) → Filled (standard_step bs q t)
filled_standard bs q [] = tt
filled_standard bs q (b ∷ t) = go (bs && eqb b backslash) (eqb b q)
  where
    go : (x y : Bool) → Filled (if x then mysql t else if y then doubled q t else keep)
    go true y = filled_mysql t
    go false true = filled_doubled q t
    go false false = tt

filled_one : (n b : ℕ) → Filled (one_byte n b)
unfolding one_byte
filled_one n b = go (eqb b 0)
  where
    go : (x : Bool) → Filled (if x then stop else give n (b ∷ []))
    go true = tt
    go false = tt

filled_scalar : (w n : ℕ) (t : List ℕ) → Filled (scalar_by w n t)
unfolding scalar_by encode
filled_scalar w n t = go (eqb (digits 16 w t) w && may_escape (number 16 w 0 t))
  where
    go : (x : Bool) → Filled (if x then give n (encode (number 16 w 0 t)) else stop)
    go true = tt
    go false = tt

filled_escaped : (t : List ℕ) → Filled (escaped t)
filled_escaped [] = tt
filled_escaped (c ∷ t) =
    go (ltb (byte_of escape_table c) 256) (ltb 0 (digits 8 3 (c ∷ t))) (eqb c (code "x") && ltb 0 (digits 16 2 t)) (eqb c (code "u")) (eqb c (code "U"))
  where
    go : (x1 x2 x3 x4 x5 : Bool)
        → Filled
        (if x1 then give 1 (byte_of escape_table c ∷ [])
        else if x2 then one_byte (digits 8 3 (c ∷ t)) (number 8 (digits 8 3 (c ∷ t)) 0 (c ∷ t) % 256)
        else if x3 then one_byte (suc (digits 16 2 t)) (number 16 (digits 16 2 t) 0 t)
        else if x4 then scalar_by 4 5 t
        else if x5 then scalar_by 8 9 t
        else one_byte 1 c)
    go true x2 x3 x4 x5 = tt
    go false true x3 x4 x5 = filled_one (digits 8 3 (c ∷ t)) (number 8 (digits 8 3 (c ∷ t)) 0 (c ∷ t) % 256)
    go false false true x4 x5 = filled_one (suc (digits 16 2 t)) (number 16 (digits 16 2 t) 0 t)
    go false false false true x5 = filled_scalar 4 5 t
    go false false false false true = filled_scalar 8 9 t
    go false false false false false = filled_one 1 c

filled_escape : (t : List ℕ) → Filled (escape_step t)
filled_escape [] = tt
filled_escape (b ∷ t) = go (eqb b backslash) (eqb b quote)
  where
    go : (x y : Bool) → Filled (if x then escaped t else if y then doubled quote t else keep)
    go true y = filled_escaped t
    go false true = filled_doubled quote t
    go false false = tt

by_any : (e : List ℕ) (p : Piece) (s : Step) → Filled s → IsBy [] p s → IsBy e p s
by_any e Keep s f i = record { means = i.means }
by_any e (Byte b m) s f i = record { means = i.means }
by_any e (Two b c m) s f i = record { means = i.means }
by_any e (Scalar c m) s f i = record { means = i.means }
by_any e (Escape m) s f i = absurd (subst Filled (sym i.means) f)
by_any e Refused s f i = record { means = i.means }

-- so `units::unit_at` promises for these what it would by an escape character e that the caller chose
pub standard_by_any : (bs : Bool) (q : ℕ) (e t : List ℕ) (p : Piece) → IsBy [] p (standard_step bs q t) → IsBy e p (standard_step bs q t)
standard_by_any bs q e t p i = by_any e p (standard_step bs q t) (filled_standard bs q t) i

pub escape_by_any : (e t : List ℕ) (p : Piece) → IsBy [] p (escape_step t) → IsBy e p (escape_step t)
escape_by_any e t p i = by_any e p (escape_step t) (filled_escape t) i
