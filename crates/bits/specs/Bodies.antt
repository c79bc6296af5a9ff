-- What measuring answers of the segments behind the first, what their bodies are, what they make with the first, and where a text's digits stand. Assumes nothing.
use Rattle.std.specs.Prelude.{◌≡◌, false, List, ◌++◌, ℕ, ◌+◌, ◌-◌, ◌≤◌, ◌<◌, eqb, length, drop}
use Rattle.meaning.specs.declared.Settings.{Settings}
use Rattle.meaning.specs.Bytes.{part}
use Rattle.std.specs.Prelude.{if◌then◌else◌}
use Rattle.meaning.specs.Walk.{Step, keep, give, stop, walk, stops, value}
use Rattle.meaning.specs.Cutting.{opening, segment_step, cut}
use Rattle.meaning.specs.Reading.{Answer, borrowed, written, refused, Value, means, fails, onward, both, each, as_written}
use Rattle.meaning.specs.Kinds.{later_bits, bits}
use Rattle.laws.proofs.basics.Digits.{DigitsTo}
use Rattle.bits.specs.declared.finding.Digits.{Digits}
use Rattle.std.specs.Prelude.{Result, Ok, Err}
use Rattle.bits.specs.declared.later.Misfit.{Misfit}

abbrev pub misfit_at : ℕ → Misfit
misfit_at p = record { place = p }

abbrev pub later_of : Value → Result ℕ Misfit
later_of (means v) = Ok (length v)
later_of (fails p) = Err (misfit_at p)

abbrev pub number_in : Result ℕ Misfit → ℕ
number_in (Ok n) = n
number_in (Err m) = m.place

-- the answer, which is no length and no place past a text of n bytes
pub record Measures (x : Value) (n : ℕ) (r : Result ℕ Misfit) : Type 0 where
  pub answer : r ≡ later_of x
  pub within : number_in r ≤ n

-- a segment stands for its body: what lies behind the opening and before the last byte
abbrev pub body_by : Step → Step
body_by keep = keep
body_by (give n s) = give n (part (opening s) (length s - 1) s)
body_by stop = stop

unfoldable pub body_step : Settings → List ℕ → Step
body_step σ t = body_by (segment_step σ t)

abbrev pub bodies : Settings → List ℕ → List ℕ
bodies σ t = value (walk (body_step σ) 0 t)

-- segments to the end of a text, and n bytes that hold their bodies
pub record BodiesFit (σ : Settings) (t : List ℕ) (n : ℕ) : Type 0 where
  pub goes : stops (walk (body_step σ) 0 t) ≡ false
  pub fits : length (bodies σ t) ≤ n

-- a first segment's digits, and those of the segments of t, which stands at the place i
abbrev pub joined_bits : Settings → ℕ → List ℕ → ℕ → List ℕ → Answer
joined_bits σ β v i t = as_written (both (means v) (onward i (each (later_bits β) (cut σ t))))

-- the bounds of a first body, the place behind it and its gap, and a text's end
pub record Ordered (from last at n : ℕ) : Type 0 where
  pub body : from ≤ last
  pub behind : last ≤ at
  pub inside : at ≤ n

-- WHERE THE DIGITS OF A TEXT STAND: those of the first segment from f to l, and those of the segments from i on, which are n
pub record FoundAt (σ : Settings) (β : ℕ) (t : List ℕ) (f l i n : ℕ) : Type 0 where
  pub body : f ≤ l
  pub behind : l < i
  pub inside : i ≤ length t
  pub goes : stops (walk (body_step σ) 0 (drop i t)) ≡ false
  pub count : length (bodies σ (drop i t)) ≡ n
  pub within : l - f + n ≤ length t
  pub digits : DigitsTo β (length (part f l t ++ bodies σ (drop i t))) (part f l t ++ bodies σ (drop i t))
  pub answer : bits σ β t ≡ (if eqb (l + 1) (length t) then borrowed f l else written (part f l t ++ bodies σ (drop i t)))

abbrev pub digits_at : ℕ → ℕ → ℕ → ℕ → Digits
digits_at f l i n = record { from = f; last = l; at = i; later = n }

pub record Finds (σ : Settings) (β : ℕ) (t : List ℕ) (r : Result Digits Misfit) : Type 0 where
  pub found : (d : Digits) → r ≡ Ok d → FoundAt σ β t d.from d.last d.at d.later
  pub bad : (m : Misfit) → r ≡ Err m → bits σ β t ≡ refused m.place
