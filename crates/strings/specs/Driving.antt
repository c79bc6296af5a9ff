-- What the quick reading says of a segment and of a text. Assumes nothing.
use Rattle.std.specs.Prelude.{◌≡◌, Bool, true, false, List, ◌++◌, ℕ, suc, ◌+◌, ◌-◌, ◌≤◌, ◌<◌, length, drop, Result, Ok, Err}
use Rattle.meaning.specs.declared.ReadText.{ReadText}
use Rattle.meaning.specs.declared.ReadRefusal.{ReadRefusal}
use Rattle.meaning.specs.declared.ReadRefusal.TheVariants as ReadRefusal'
use Rattle.meaning.specs.declared.Settings.{Settings}
use Rattle.meaning.specs.Bytes.{◌!◌, ascii, has}
use Rattle.std.specs.Prelude.{if◌then◌else◌}
use Rattle.meaning.specs.Chars.{utf8}
use Rattle.meaning.specs.Steps.{gap}
use Rattle.meaning.specs.Cutting.{opening}
use Rattle.meaning.specs.Reading.{Answer, borrowed, written, read}
use Rattle.meaning.specs.Reads.{Reads, buffer_of}
use Rattle.laws.proofs.cutting.Fronted.{Segmented}
use Rattle.cutting.specs.Marks.{mark_of}
use Rattle.cutting.specs.declared.marks.Mark.{Mark}
use Rattle.cutting.specs.declared.marks.Mark.TheVariants.{Quote}
use Rattle.escapes.specs.declared.units.Family.{Family}
use Rattle.escapes.specs.declared.units.Family.TheVariants.{Standard, Escape, Unicode}
use Rattle.strings.specs.declared.chunks.End.TheVariants.{Closed}
use Rattle.strings.specs.declared.storing.Store.{Store}
use Rattle.strings.specs.declared.storing.Body.{Body}
use Rattle.strings.specs.declared.quick.Opened.{Opened}
use Rattle.strings.specs.declared.quick.Segment.{Segment}
use Rattle.strings.specs.declared.reading.Fit.{Fit}
use Rattle.strings.specs.declared.reading.Fit.TheVariants as Fit'
use Rattle.strings.specs.declared.reading.NotUtf8.{NotUtf8}
use Rattle.strings.specs.declared.quick.Untold.{Untold}
use Rattle.strings.specs.declared.quick.Untold.TheVariants as Untold'
use Rattle.strings.specs.Plain.{is_plain}
use Rattle.strings.specs.Storing.{Stored}

-- how a segment's body is read: E and U& by their letters, anything else as a standard one
abbrev pub family_by : Settings → ℕ → Mark → Family
family_by σ b m = if has b (ascii "Ee") then Escape else if has b (ascii "Uu") then Unicode Quote else Standard m σ.backslash

abbrev pub is_bits : ℕ → Bool
is_bits b = has b (ascii "BbXx")

-- an opening at a place
pub record Opening (σ : Settings) (t : List ℕ) (at : ℕ) (r : Opened) : Type 0 where
  pub n : ℕ
  pub m : Mark
  pub is : opening (drop at t) ≡ suc n
  pub from : r.from ≡ at + suc n
  pub inside : r.from ≤ length t
  pub mark : mark_of m ≡ t ! (at + n)
  pub family : r.family ≡ family_by σ (t ! at) m
  pub bits : is_bits (t ! at) ≡ false

pub record Opens (σ : Settings) (t : List ℕ) (at : ℕ) (r : Opened) : Type 0 where
  pub opens : r.known ≡ true → Opening σ t at r

-- a segment whose body was read from a place on, with the white space behind it
abbrev pub closed_by : ℕ → Body → ℕ → Segment
closed_by f b g = record { read = true; from = f; end = f + b.at + 1; next = f + b.at + 1 + g; plain = b.plain; total = b.total; n = b.n }

pub record Closes (t : List ℕ) (f : ℕ) (b : Body) (r : Segment) : Type 0 where
  pub closed : r.read ≡ true → (b.end ≡ Closed) × (r ≡ closed_by f b (gap (drop (f + b.at + 1) t)))

-- a segment that was read, from what was stored before it: its value is v
pub record SegmentRead (σ : Settings) (t : List ℕ) (at : ℕ) (s : Store) (chunk out : List ℕ) (r : Segment) (chunk' out' : List ℕ) : Type 0 where
  pub o : ℕ
  pub k : ℕ
  pub v : List ℕ
  pub segmented : Segmented σ (drop at t) o k v r.plain
  pub begins : r.from ≡ at + o
  pub ends : r.end ≡ at + (o + k + 1)
  pub passes : r.next ≡ r.end + gap (drop r.end t)
  pub inside : r.next ≤ length t
  pub stores : (d w : List ℕ) → Stored d w chunk out s.total s.n → Stored d (w ++ v) chunk' out' r.total r.n
  pub sum : r.total + r.n ≤ r.next
  pub few : r.n ≤ 240
  pub goes : at < r.next

pub record ReadsSegment (σ : Settings) (t : List ℕ) (at : ℕ) (s : Store) (chunk out : List ℕ) (r : Segment) (chunk' out' : List ℕ) : Type 0 where
  pub chunk_same : length chunk' ≡ length chunk
  pub out_same : length out' ≡ length out
  pub reads : r.read ≡ true → SegmentRead σ t at s chunk out r chunk' out'

-- a text that was read, into a buffer that held d: its value is w
pub record DrivenBy (σ : Settings) (t d : List ℕ) (r : Segment) (chunk' out' : List ℕ) : Type 0 where
  pub w : List ℕ
  pub reads : read σ t ≡ (if r.plain then borrowed r.from (length t - 1) else written w)
  pub stored : Stored d w chunk' out' r.total r.n
  pub sum : r.total + r.n ≤ length t
  pub some : 1 ≤ length t

pub record Drives (σ : Settings) (t d : List ℕ) (r : Segment) (chunk' out' : List ℕ) : Type 0 where
  pub out_same : length out' ≡ length d
  pub chunk_same : length chunk' ≡ 240
  pub reads : r.read ≡ true → DrivenBy σ t d r chunk' out'

-- a value that is written by a second walk, into a buffer of just its length
pub record Rewrites (σ : Settings) (t out : List ℕ) (r : Bool) (after : List ℕ) : Type 0 where
  pub same : length after ≡ length out
  pub done : r ≡ true → (v : List ℕ) → read σ t ≡ written v → length v ≡ length out → after ≡ v

-- how a text may be read
abbrev pub FitBy : Settings → List ℕ → Fit → Type 0
FitBy σ t Fit'.Plain = (is_plain σ t ≡ true) × (utf8 t ≡ true)
FitBy σ t Fit'.Clean = (has 0 t ≡ false) × (utf8 t ≡ true)
FitBy σ t Fit'.Other = Unit {0}

pub record FitsAs (σ : Settings) (t : List ℕ) (r : Fit) : Type 0 where
  pub by : FitBy σ t r

-- a text that is tested to be UTF-8 before it is read
abbrev pub ChecksBy : Bool → Answer → List ℕ → Result (Result ReadText ReadRefusal) NotUtf8 → List ℕ → Type 0
ChecksBy u a out (Ok r) after = (u ≡ true) × Reads a out r after
ChecksBy u a out (Err n) after = (u ≡ false) × (after ≡ out)

pub record Checks (u : Bool) (a : Answer) (out : List ℕ) (r : Result (Result ReadText ReadRefusal) NotUtf8) (after : List ℕ) : Type 0 where
  pub by : ChecksBy u a out r after

-- what is told of it without the reading by units; where it is left to read, it is UTF-8, and the answer makes of the buffer what it made of it before
abbrev pub TriesBy : Bool → Answer → List ℕ → Result ReadText Untold → List ℕ → Type 0
TriesBy u a out (Ok t) after = (u ≡ true) × Reads a out (Ok t) after
TriesBy u a out (Err (Untold'.NoRoom n)) after = (u ≡ true) × Reads a out (Err (ReadRefusal'.NoRoom n)) after
TriesBy u a out (Err Untold'.Unread) after = (u ≡ true) × ((length after ≡ length out) × (buffer_of after a ≡ buffer_of out a))
TriesBy u a out (Err Untold'.NotUtf8) after = (u ≡ false) × (after ≡ out)

pub record Tries (u : Bool) (a : Answer) (out : List ℕ) (r : Result ReadText Untold) (after : List ℕ) : Type 0 where
  pub by : TriesBy u a out r after
