-- A segment's value is shorter than the segment by its two marks at least, and the place of a refusal lies inside it: so no number that a pass counts exceeds
-- the text's length. Of a whole text, what is written is shorter by two bytes at least. Assumes nothing.
use mathlib.Core.Path.{◌≡◌, refl, ap, sym, ◌∙◌, subst}
use mathlib.Core.Bool.{Bool, true, false, false≢true}
use mathlib.Core.List.{List, [], ◌∷◌}
use Prim.Native.Nat.{ℕ, zero, suc, ◌+◌, ◌-◌, ◌≤◌}
use native.Mathlib.Omega.{arith}
use lib.ListN.{length, take, drop, length-append, length-take, length-drop}
use Rattle.meaning.specs.declared.Settings.{Settings}
use Rattle.meaning.specs.Bytes.{part, has, quote}
use Rattle.std.specs.Prelude.{if◌then◌else◌}
use Rattle.meaning.specs.Chars.{Due, due, broken, fresh, push, pushes, whole}
use Rattle.meaning.specs.Walk.{Step, keep, give, stop, Trace, ended, stopped, kept, gave, after, walk, size, stops, plain, value}
use Rattle.meaning.specs.Steps.{standard_step, escape_step, unicode_step, checked, unless_broken, gap}
use Rattle.meaning.specs.Cutting.{opening, segment_at, segment, segment_by, segment_step, cut, continues}
use Rattle.meaning.specs.Spelling.{Spelling, standard, escape, unicode, dollar, unspelt, spelling}
use Rattle.meaning.specs.Reading.{borrowed, written, refused, Value, means, fails, value_of, answer, read_as, one, onward, both, each, alone, joined, as_written, read, meaning}
use Rattle.laws.proofs.walking.Walks.{FitsIn, fits_size}
use Rattle.laws.proofs.cutting.Openings.{apart_of_mark, mark_0}
use Rattle.laws.proofs.joining.Joining.{fails≢means, both_means, value_written}
use Rattle.laws.proofs.questions.Ranges.{Between, BodyIn, spelling_body}
use Rattle.laws.proofs.walking.StepBounds.{Bounded, Steady, standard_steady, escape_steady, unicode_steady}
use Rattle.laws.proofs.walking.Passes.{course_by, course_same}
use Rattle.laws.proofs.places.Spelt.{Spelt, spelling_spelt}

-- a walk's value is no longer than what it walked
pub walk_short : (step : List ℕ → Step) → Steady step → (k : ℕ) (t : List ℕ) → k ≤ length t → k + length (value (walk step k t)) ≤ length t
walk_short step ok zero [] h = omega arith
walk_short step ok (suc k) [] h = absurd (omega arith)
walk_short step ok (suc k) (b ∷ t) h = let r = walk_short step ok k t (omega arith) in omega arith
walk_short step ok zero (b ∷ t) h = go (step (b ∷ t)) (ok b t) (λ n. walk_short step ok n t)
  where
    go : (s : Step) → Bounded s (length t) → ((n : ℕ) → n ≤ length t → n + length (value (walk step n t)) ≤ length t)
        → 0 + length (value (after s b (λ n. walk step n t))) ≤ suc (length t)
    go keep g ih = let r = ih 0 (omega arith) in omega arith
    go (give n out) g ih = let r = ih n g.0 in omega (arith, length-append out (value (walk step n t)))
    go stop g ih = omega arith

-- nor does it stop behind its end, checked or not
walk_size : (step : List ℕ → Step) → Steady step → (k : ℕ) (t : List ℕ) → k ≤ length t → k + size (walk step k t) ≤ length t
walk_size step ok k t h = fits_size step (λ b u. fit (step (b ∷ u)) (length u) (ok b u)) k t h
  where
    fit : (s : Step) (n : ℕ) → Bounded s n → FitsIn s n
    fit keep n g = tt
    fit (give k out) n g = g.0
    fit stop n g = tt

checked_size : (d : Due) (r : Trace) → size (checked d r) ≤ size r
checked_size d ended = go (whole d)
  where
    go : (x : Bool) → size (if x then ended else stopped) ≤ 0
    go true = omega arith
    go false = omega arith
checked_size d stopped = omega arith
checked_size d (kept b r) = go (push d b) (λ e. checked_size e r)
  where
    go : (e : Due) → ((e : Due) → size (checked e r) ≤ size r) → size (unless_broken e (λ e'. kept b (checked e' r))) ≤ suc (size r)
    go broken ih = omega arith
    go (due n lo hi) ih = omega (arith, ih (due n lo hi))
checked_size d (gave k out r) = go (pushes d out) (λ e. checked_size e r)
  where
    go : (e : Due) → ((e : Due) → size (checked e r) ≤ size r) → size (unless_broken e (λ e'. gave k out (checked e' r))) ≤ suc (k + size r)
    go broken ih = omega arith
    go (due n lo hi) ih = omega (arith, ih (due n lo hi))

pub course_size : (x : Bool) (step : List ℕ → Step) → Steady step → (t : List ℕ) → size (course_by x (walk step 0 t)) ≤ length t
course_size false step ok t = omega (arith, walk_size step ok 0 t (omega arith))
course_size true step ok t = omega (arith, walk_size step ok 0 t (omega arith), checked_size fresh (walk step 0 t))

-- of a value in a text of n bytes, two of them marks
abbrev pub Bound : Value → ℕ → Type 0
Bound (means v) n = length v + 2 ≤ n
Bound (fails p) n = p ≤ n

-- A BODY
module _ (x : Bool) (step : List ℕ → Step) (t : List ℕ) (f u : ℕ) where
  abbrev course : Trace
  course = course_by x (walk step 0 (part f u t))

  -- its numbers lie inside the text
  body_bound : Steady step → Between (length t) f u → Bound (value_of t (answer f u course)) (length t)
  unfolding answer
  body_bound ok b = go (plain course) (stops course) refl
    where
      room : length (part f u t) + f + 1 ≤ length t
      room = omega (arith, length-take (u - f) (drop f t), length-drop f t, b.ordered, b.closed)

      go : (y z : Bool) → stops course ≡ z → Bound (value_of t (if y then borrowed f u else if z then refused (f + size course) else written (value course)))
          (length t)
      go true z h = omega (arith, room, b.opened)
      go false true h = omega (arith, room, course_size x step ok (part f u t))
      go false false h =
          omega (
            arith,
            room,
            b.opened,
            walk_short step ok 0 (part f u t) (omega arith),
            ap (λ (r : Trace). length (value r)) (course_same x (walk step 0 (part f u t)) h),
          )

-- A SEGMENT. The mark of a standard spelling is no zero
as_bound : (σ : Settings) (t : List ℕ) (s : Spelling) → BodyIn (length t) s → Spelt t s → Bound (value_of t (read_as σ t s)) (length t)
as_bound σ t (standard q f u) b m = body_bound false (standard_step σ.backslash q) t f u (standard_steady σ.backslash q (apart_of_mark q 0 m mark_0)) b
as_bound σ t (escape f u) b m = body_bound true escape_step t f u escape_steady b
as_bound σ t (unicode e f u) b m = body_bound false (unicode_step e quote) t f u (unicode_steady e quote refl) b
as_bound σ t (dollar f u) b m = omega (arith, length-take (u - f) (drop f t), length-drop f t, b.opened, b.ordered, b.closed)
as_bound σ t unspelt b m = omega arith

pub alone_bound : (σ : Settings) (t : List ℕ) → Bound (alone σ t) (length t)
unfolding one
alone_bound σ t = go (has 0 t)
  where
    go : (x : Bool) → Bound (value_of t (if x then refused 0 else read_as σ t (spelling t))) (length t)
    go true = omega arith
    go false = as_bound σ t (spelling t) (spelling_body t) (spelling_spelt t)

-- A WHOLE TEXT. Its segments, each read by an f whose values are no longer than what it reads, mean no more than what is left behind k bytes that are passed
module _ (σ : Settings) where
  abbrev cut_from : ℕ → List ℕ → Trace
  cut_from k t = walk (segment_step σ) k t

  abbrev EachShort : (List ℕ → Value) → List ℕ → Type 0
  EachShort f t = (k : ℕ) (v : List ℕ) → each f (cut_from k t) ≡ means v → length v ≤ length t - k

  -- what the first segment has more than it means, d bytes, counts: it means x, and those behind it what they mean by f
  pub first_short : (d n b : ℕ) (t v : List ℕ) (x : Value) (f : List ℕ → Value)
      → ((w : List ℕ) → x ≡ means w → length w + d ≤ length (take (suc n) (b ∷ t))) → EachShort f t
      → both x (onward (suc (n + gap (drop (suc n) (b ∷ t)))) (each f (cut_from (n + gap (drop (suc n) (b ∷ t))) t))) ≡ means v
      → length v + d ≤ suc (length t)
  first_short d n b t v x f h ih e =
      let m : ℕ = n + gap (drop (suc n) (b ∷ t)) in
      let p = both_means x (each f (cut_from m t)) (suc m) v e in
      omega (arith, h p.0 p.2, ih m p.1 p.3, ap length p.4, length-append p.0 p.1, length-take (suc n) (b ∷ t))

  pub each_short : (f : List ℕ → Value) → ((s v : List ℕ) → f s ≡ means v → length v ≤ length s) → (t : List ℕ) → EachShort f t
  unfolding segment_step
  each_short f ok [] k v h = let z : [] ≡ v = cc in omega (arith, ap length z)
  each_short f ok (b ∷ t) (suc k) v h = omega (arith, each_short f ok t k v h)
  each_short f ok (b ∷ t) zero v h = go (segment σ (b ∷ t)) (each_short f ok t) h
    where
      go : (n : ℕ) → EachShort f t → each f (after (segment_by (b ∷ t) n) b (λ k. cut_from k t)) ≡ means v → length v ≤ suc (length t) - 0
      go zero ih g = absurd (fails≢means 0 v g)
      go (suc n) ih g =
          let s : List ℕ = take (suc n) (b ∷ t) in
          omega (arith, first_short 0 n b t v (f s) f (λ w e. omega (arith, ok s w e)) ih g)

  alone_short : (s v : List ℕ) → alone σ s ≡ means v → length v + 2 ≤ length s
  alone_short s v e = subst (λ (x : Value). Bound x (length s)) e (alone_bound σ s)

  -- a value is shorter than its text by two bytes at least
  pub meaning_length : (t v : List ℕ) → meaning σ t ≡ means v → length v + 2 ≤ length t
  unfolding read cut continues segment segment_step
  meaning_length t v h = go (continues σ t) refl h
    where
      first : (b : ℕ) (u : List ℕ) (n : ℕ) → joined σ (after (segment_by (b ∷ u) n) b (λ k. cut_from k u)) ≡ means v → length v + 2 ≤ suc (length u)
      first b u zero g = absurd (fails≢means 0 v g)
      first b u (suc n) g =
          let s : List ℕ = take (suc n) (b ∷ u) in
          first_short 2 n b u v (alone σ s) (alone σ) (alone_short s) (each_short (alone σ) (λ s w e. omega (arith, alone_short s w e)) u) g

      some : (u : List ℕ) → continues σ u ≡ true → joined σ (cut_from 0 u) ≡ means v → length v + 2 ≤ length u
      some [] c g = absurd (false≢true c)
      some (b ∷ u) c g = first b u (segment_at σ (b ∷ u) (opening (b ∷ u))) g

      go : (x : Bool) → continues σ t ≡ x → value_of t (if x then as_written (joined σ (cut_from 0 t)) else one σ t) ≡ means v → length v + 2 ≤ length t
      go true c g = some t c (sym (value_written t (joined σ (cut_from 0 t))) ∙ g)
      go false c g = alone_short t v g

  -- so what is written of it, too
  pub read_length : (t v : List ℕ) → read σ t ≡ written v → length v + 2 ≤ length t
  read_length t v h = meaning_length t v (ap (value_of t) h)
