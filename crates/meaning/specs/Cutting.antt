-- [01 Cutting into segments] Openings, closing marks, segments, and texts that segments cover. Assumes nothing.
use Rattle.std.specs.Prelude.{Bool, true, false, ◌&&◌, ◌||◌, not, List, [], ◌∷◌, ℕ, zero, suc, ◌+◌, eqb, ltb, take, drop}
use Prim.Native.Char.{code}
use Rattle.meaning.specs.declared.Settings.{Settings}
use Rattle.meaning.specs.Bytes.{◌!◌, ascii, has, same, span, quote, is_mark, in_name}
use Rattle.std.specs.Prelude.{if◌then◌else◌}
use Rattle.meaning.specs.Walk.{Step, give, stop, Trace, ended, stopped, kept, gave, walk, size, stops}
use Rattle.meaning.specs.Steps.{closing_step, gap, trim}

-- the backslash setting off, and on
abbrev pub off : Settings
off = record { backslash = false }

abbrev pub on : Settings
on = record { backslash = true }

-- the bytes of `_`, a name and a mark, behind the `_`; 0: they do not stand there
unfoldable pub named : List ℕ → ℕ
named t = if ltb 0 (span in_name t) && is_mark (t ! span in_name t) then suc (suc (span in_name t)) else 0

-- the bytes of an opening at the front, with its mark; 0: no segment opens there
abbrev pub opening : List ℕ → ℕ
opening [] = 0
opening (b ∷ t) =
    if is_mark b then 1
    else if has b (ascii "EeNnBbXx") then (if eqb (t ! 0) quote then 2 else 0)
    else if has b (ascii "Uu") then (if eqb (t ! 0) (code "&") && eqb (t ! 1) quote then 3 else 0)
    else if eqb b (code "_") then named t
    else 0

-- what is closed where a walk stops: n bytes before it, and the mark; 0: nothing closes it
abbrev pub closed_at : ℕ → Trace → ℕ
closed_at n r = if stops r then n + size r + 1 else 0

-- a backslash hides the byte after it: in E segments always, in others when the setting is on
abbrev pub hides : Settings → List ℕ → Bool
hides σ t = σ.backslash || has (t ! 0) (ascii "Ee")

-- the bytes of the first segment; 0: there is none
abbrev pub segment_at : Settings → List ℕ → ℕ → ℕ
segment_at σ t zero = 0
segment_at σ t (suc n) = closed_at (suc n) (walk (closing_step (hides σ t) (t ! n)) 0 (drop (suc n) t))

unfoldable pub segment : Settings → List ℕ → ℕ
segment σ t = segment_at σ t (opening t)

-- a segment at the front, with the white space behind it; the unit stands for the segment's own bytes
abbrev pub segment_by : List ℕ → ℕ → Step
segment_by t zero = stop
segment_by t (suc n) = give (n + gap (drop (suc n) t)) (take (suc n) t)

unfoldable pub segment_step : Settings → List ℕ → Step
segment_step σ t = segment_by t (segment σ t)

unfoldable pub cut : Settings → List ℕ → Trace
cut σ t = walk (segment_step σ) 0 t

-- segments cover the text; a lone one is all of it. (A cut's units are segments: it keeps no byte)
abbrev pub covers : List ℕ → Trace → Bool
covers t (gave n s ended) = same s t
covers t (gave n s (gave m s' r)) = not (stops r)
covers t (gave n s stopped) = false
covers t (gave n s (kept b r)) = false
covers t ended = false
covers t stopped = false
covers t (kept b r) = false

-- "A text cuts completely"
unfoldable pub complete : Settings → List ℕ → Bool
complete σ t = covers t (cut σ t)

-- a quote mark follows the first segment, past white space
unfoldable pub continues : Settings → List ℕ → Bool
continues σ t = ltb 0 (segment σ t) && is_mark (trim (drop (segment σ t) t) ! 0)
