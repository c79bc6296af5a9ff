-- The test of a UESCAPE argument and the two validators, way out by way out: text outside the spelling, and the body's course.
-- Assumes nothing.
use mathlib.Core.Path.{◌≡◌, refl, ap, sym, ◌∙◌, subst}
use mathlib.Core.Bool.{Bool, true, false, ◌&&◌, ◌||◌, not, and-true, and-false, or-false, false≢true}
use mathlib.Core.List.{List, [], ◌∷◌}
use Prim.Native.Nat.{ℕ, suc, ◌+◌, ◌-◌}
use native.Mathlib.Omega.{arith}
use lib.Dec.{eqb, leb, ltb}
use lib.ListN.{length, take, drop}
use borrow.Author.Tests.{lt-ltb, not-true, not-false}
use Rattle.meaning.specs.declared.ReadText.{ReadText}
use Rattle.meaning.specs.declared.ReadRefusal.{ReadRefusal}
use Rattle.meaning.specs.declared.ReadText.TheVariants as ReadText'
use Rattle.meaning.specs.declared.ReadRefusal.TheVariants as ReadRefusal'
use Rattle.meaning.specs.Bytes.{◌!◌, part, quote}
use Rattle.std.specs.Prelude.{if◌then◌else◌, Result, Ok, Err}
use Rattle.meaning.specs.Chars.{utf8}
use Rattle.meaning.specs.Walk.{Trace, ended, stopped, kept, gave, walk, size, stops, plain, value}
use Rattle.meaning.specs.Steps.{unicode_step}
use Rattle.meaning.specs.Spelling.{Spelling, unicode, encloses, argument, unicode_spelling}
use Rattle.meaning.specs.Reading.{borrowed, written, refused, answer}
use Rattle.meaning.specs.Reads.{read_of, Reads}
use Rattle.meaning.specs.Helpers.{if_unicode, uescape_legal, escape_valid, unicode_valid, unicode_valid_as}
use Rattle.laws.proofs.basics.Tests.{and_right}
use Rattle.laws.proofs.questions.Ranges.{Bounds, enclosed_range}
use Rattle.cutting.specs.declared.marks.Mark.TheVariants.{Quote}
use Rattle.uescape.specs.declared.Argument.{Argument}
use Rattle.uescape.specs.declared.Argument.TheVariants.{Legal, Illegal}
use Rattle.uescape.specs.Clauses.{legal_by, argument_of}
use Rattle.escapes.specs.declared.units.Family.{Family}
use Rattle.escapes.specs.declared.units.Family.TheVariants as Family'
use Rattle.escapes.specs.Families.{course_of}
use Rattle.spellings.specs.declared.spelling.Spelled.{Spelled}
use Rattle.spellings.specs.declared.spelling.Spelled.TheVariants as Spelled'
use Rattle.spellings.specs.Spelled.{escape_of, spelling_by, Lexes}
use Rattle.strings.specs.Answers.{lexeme_of}

-- A BODY'S COURSE goes to its end where reading it, into whatever buffer, is not refused
abbrev is_read : Result ReadText ReadRefusal → Bool
is_read (Ok s) = true
is_read (Err (ReadRefusal'.At p)) = false
is_read (Err (ReadRefusal'.NoRoom n)) = true

goes_on : (f u m : ℕ) (c : Trace) → is_read (read_of m (answer f u c)) ≡ not (stops c)
unfolding answer
goes_on f u m c = go (plain c) (stops c) refl refl
  where
    plain_goes : (c : Trace) → plain c ≡ true → stops c ≡ false
    plain_goes ended h = refl
    plain_goes stopped h = absurd (false≢true h)
    plain_goes (kept b c) h = plain_goes c h
    plain_goes (gave n out c) h = absurd (false≢true h)

    room : (z : Bool) → is_read (if z then Ok (ReadText'.Written (length (value c))) else Err (ReadRefusal'.NoRoom (length (value c)))) ≡ true
    room true = refl
    room false = refl

    go : (x y : Bool) → plain c ≡ x → stops c ≡ y
        → is_read (read_of m (if x then borrowed f u else if y then refused (f + size c) else written (value c))) ≡ not y
    go true y p s = ap not (sym (plain_goes c p) ∙ s)
    go false true p s = refl
    go false false p s = room (leb (length (value c)) m)

module _ (f u : ℕ) (c : Trace) (none after : List ℕ) (r : Result ReadText ReadRefusal) (k : Reads (answer f u c) none r after) where
  reads_by : (s : Result ReadText ReadRefusal) → r ≡ s → is_read s ≡ not (stops c)
  reads_by s q = ap is_read (sym q ∙ k.answer) ∙ goes_on f u (length none) c

  pub reads_text : (s : ReadText) → r ≡ Ok s → true ≡ not (stops c)
  reads_text s q = reads_by (Ok s) q

  pub reads_short : (n : ℕ) → r ≡ Err (ReadRefusal'.NoRoom n) → true ≡ not (stops c)
  reads_short n q = reads_by (Err (ReadRefusal'.NoRoom n)) q

  pub reads_refused : (p : ℕ) → r ≡ Err (ReadRefusal'.At p) → false ≡ not (stops c)
  reads_refused p q = reads_by (Err (ReadRefusal'.At p)) q

-- a text that is spelled with U&
record Spelt (t : List ℕ) : Type 0 where
  character : List ℕ
  from : ℕ
  until : ℕ
  is : unicode_spelling quote t ≡ unicode character from until

spelt : (t : List ℕ) (s : Spelled) → Lexes Quote t s → (s ≡ Spelled'.Unspelt → ⊥) → Spelt t
spelt t (Spelled'.Body b) l n =
    let e = escape_of t b.escape_from b.escape_until in
    record {
      character = e;
      from = b.from;
      until = b.until;
      is = sym l.means ∙ ap (λ (k : Family). spelling_by e k b.from b.until) l.family;
    }
spelt t (Spelled'.Dollar f u) l n = absurd l.family
spelt t Spelled'.Unspelt l n = absurd (n refl)

-- WITH the test of the text's UTF-8
module _ (t : List ℕ) (x : Bool) (ex : x ≡ utf8 t) where
  -- a UESCAPE argument that is legal; of any other no more is asked
  pub argument_legal : (a : Argument) → a ≡ argument_of t → a ≡ Legal → x ≡ uescape_legal t
  unfolding uescape_legal argument_of
  argument_legal a ea q = sym (rw (← ex, some (argument t) (sym ea ∙ q), and-true))
    where
      some : (w : List ℕ) → legal_by w ≡ Legal → ltb 0 (length w) ≡ true
      some [] h = let z : ◌≡◌ {A = ℕ} 0 1 = cc in absurd (omega arith)
      some (b ∷ w) h = lt-ltb 0 (suc (length w)) (omega arith)

  -- an E string, by its first byte b and its marks
  module _ (b : ℕ) (eb : b ≡ t ! 0) (y : Bool) (ey : y ≡ encloses 1 quote t) where
    abbrev spelled : Bool
    spelled = (eqb b 69 || eqb b 101) && y

    escape_by_lem : escape_valid t ≡ (x && (if spelled then not (stops (course_of Family'.Escape [] (part 2 (length t - 1) t))) else true))
    unfolding escape_valid
    escape_by_lem = rw (← ex, ← eb, ← ey, or-false)

    pub escape_outside : not spelled ≡ true → x ≡ escape_valid t
    escape_outside h = sym (escape_by_lem ∙ rw (not-true spelled h, and-true))

    module _ (h : not spelled ≡ false) where
      pub escape_within : Bounds (length t) 2 (length t - 1)
      escape_within = enclosed_range 1 quote t (sym ey ∙ and_right (eqb b 69 || eqb b 101) y (not-false spelled h))

      pub escape_body : (e : List ℕ) (r : Bool) → r ≡ not (stops (course_of Family'.Escape e (take (length t - 1 - 2) (drop 2 t)))) → (x && r) ≡ escape_valid t
      escape_body e r k = ap (x &&◌) k ∙ sym (escape_by_lem ∙ rw (not-false spelled h))

  -- a U& string, by its spelling and by what reading it said
  unicode_by_lem : unicode_valid t ≡ (x && unicode_valid_as t (unicode_spelling quote t))
  unfolding unicode_valid
  unicode_by_lem = rw ex

  module _ (s : Spelled) (l : Lexes Quote t s) where
    pub unicode_outside : s ≡ Spelled'.Unspelt → x ≡ unicode_valid t
    unicode_outside q =
        let m = rw q at l in
        sym (unicode_by_lem ∙ ap (λ (w : Spelling). x && unicode_valid_as t w) (sym m.means) ∙ and-true x)

    module _ (o : s ≡ Spelled'.Unspelt → ⊥) (none after : List ℕ) (r : Result ReadText ReadRefusal) (k : Reads (lexeme_of quote t) none r after) where
      by_reading : (a : Result ReadText ReadRefusal) → r ≡ a → (x && is_read a) ≡ unicode_valid t
      unfolding lexeme_of
      by_reading a q =
          let p = spelt t s l o in
          let c = walk (unicode_step p.character quote) 0 (part p.from p.until t) in
          let g : Reads (answer p.from p.until c) none r after =
          subst (λ (w : Spelling). Reads (if_unicode (λ e f u. answer f u (walk (unicode_step e quote) 0 (part f u t))) (refused 0) w) none r after) p.is k in
          sym (unicode_by_lem ∙ ap (λ (w : Spelling). x && unicode_valid_as t w) p.is ∙ ap (x &&◌) (sym (reads_by p.from p.until c none after r g a q)))

      read : (a : Result ReadText ReadRefusal) → r ≡ a → is_read a ≡ true → x ≡ unicode_valid t
      read a q y = sym (and-true x) ∙ ap (x &&◌) (sym y) ∙ by_reading a q

      pub unicode_text : (s : ReadText) → r ≡ Ok s → x ≡ unicode_valid t
      unicode_text s q = read (Ok s) q refl

      pub unicode_short : (n : ℕ) → r ≡ Err (ReadRefusal'.NoRoom n) → x ≡ unicode_valid t
      unicode_short n q = read (Err (ReadRefusal'.NoRoom n)) q refl

      pub unicode_refused : (p : ℕ) → r ≡ Err (ReadRefusal'.At p) → false ≡ unicode_valid t
      unicode_refused p q = sym (and-false x) ∙ by_reading (Err (ReadRefusal'.At p)) q

pub argument_illegal : (t : List ℕ) (a : Argument) → a ≡ argument_of t → a ≡ Illegal → false ≡ uescape_legal t
unfolding uescape_legal argument_of
argument_illegal t a ea q = sym (rw (none (argument t) (sym ea ∙ q), and-false))
  where
    none : (w : List ℕ) → legal_by w ≡ Illegal → ltb 0 (length w) ≡ false
    none [] h = refl
    none (b ∷ w) h = let z : ◌≡◌ {A = ℕ} 0 1 = cc in absurd (omega arith)
