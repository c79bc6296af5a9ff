-- [01 Record program litrec; 02 T-03] A literal and a setting by their numbers: "the actual kind by litrec's codes 1 to 14", a mark and a setting that
-- are 0 or 1. Assumes nothing.
use Rattle.std.specs.Prelude.{Bool, true, false, ◌&&◌, List, [], ◌∷◌, ℕ, zero, suc, ◌-◌, eqb, leb}
use Rattle.meaning.specs.declared.Settings.{Settings}
use Rattle.meaning.specs.declared.TimeZone.TheVariants as Zone
use Rattle.meaning.specs.declared.BitStringRadix.TheVariants.{Binary, Hex}
use Rattle.meaning.specs.declared.LiteralKind.{LiteralKind}
use Rattle.meaning.specs.declared.LiteralKind.TheVariants as Kind
use Rattle.meaning.specs.declared.Literal.{Literal}
use Rattle.std.specs.Prelude.{None}

-- KINDS by code, time zones unspecified, interval data absent; codes outside 1 to 14 are no kind, and no question is asked of what the list gives there
abbrev pub kind_by : List LiteralKind → ℕ → LiteralKind
kind_by [] c = Kind.Null
kind_by (k ∷ ks) zero = k
kind_by (k ∷ ks) (suc c) = kind_by ks c

abbrev pub kinds : List LiteralKind
kinds =
    Kind.Integer ∷ Kind.Float ∷ Kind.Decimal ∷ Kind.String ∷ Kind.Boolean true ∷ Kind.Boolean false ∷ Kind.Null ∷ Kind.Date ∷
    Kind.Time Zone.Unspecified ∷ Kind.Timestamp Zone.Unspecified ∷ Kind.Interval None None ∷
    Kind.BitString Binary ∷ Kind.BitString Hex ∷ Kind.Money ∷ []

abbrev pub kind_of : ℕ → LiteralKind
kind_of c = kind_by kinds (c - 1)

-- whether the numbers name a kind, a mark and a setting
abbrev pub is_known : ℕ → ℕ → ℕ → Bool
is_known kind synthetic setting = (leb 1 kind && leb kind 14) && (leb synthetic 1 && leb setting 1)

abbrev pub literal_of : ℕ → ℕ → ℕ → ℕ → Literal
literal_of kind synthetic start end = record { kind = kind_of kind; synthetic = eqb synthetic 1; span = record { start = start; end = end } }

abbrev pub settings_of : ℕ → Settings
settings_of setting = record { backslash = eqb setting 1 }
