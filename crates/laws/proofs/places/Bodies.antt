-- Where the reading of a body stops: left of that place reading goes through, in whole units, and at that place nothing goes on. Over every step, its expansion
-- checked to be UTF-8 or not; then by the spelling of a segment. Assumes nothing.
use mathlib.Core.Logic.{◌⊎◌, inl, inr}
use mathlib.Core.Path.{◌≡◌, refl, ap, sym, ◌∙◌, subst}
use mathlib.Core.Bool.{Bool, true, false, ◌&&◌, false≢true}
use mathlib.Core.List.{List, [], ◌∷◌}
use Prim.Native.Nat.{ℕ, suc, ◌+◌, ◌≤◌}
use native.Mathlib.Omega.{arith}
use lib.Dec.{eqb}
use lib.ListN.{length, take, drop}
use lib.Seq.{drop-drop}
use borrow.Author.Tests.{eqb-true}
use Rattle.meaning.specs.declared.Settings.{Settings}
use Rattle.meaning.specs.Bytes.{part, has, starts, quote, backslash}
use Rattle.std.specs.Prelude.{if◌then◌else◌}
use Rattle.meaning.specs.Chars.{Due, due, broken, fresh, push, pushes, whole}
use Rattle.meaning.specs.Walk.{Step, keep, give, stop, Trace, ended, stopped, kept, gave, after, walk, size, stops, plain, value}
use Rattle.meaning.specs.Steps.{doubled, mysql, standard_step, escaped, escape_step, uescaped, unicode_step, checked, unless_broken}
use Rattle.meaning.specs.Spelling.{Spelling, standard, escape, unicode, dollar, unspelt, spelling}
use Rattle.meaning.specs.Reading.{borrowed, written, refused, answer, read_as, one}
use Rattle.laws.proofs.utf8.Utf8.{pushes_append}
use Rattle.laws.proofs.walking.Walks.{walk_drop, graft, first_is}
use Rattle.laws.proofs.walking.Courses.{SoFar, stands}
use Rattle.laws.proofs.walking.StepBounds.{Steady, standard_steady, escape_steady, unicode_steady}
use Rattle.laws.proofs.walking.Fores.{Fore, so_far_alone, standard_fore, escape_fore, unicode_fore, mysql_gives}
use Rattle.laws.proofs.walking.Passes.{course_by}
use Rattle.laws.proofs.walking.Short.{course_size}
use Rattle.laws.proofs.cutting.Openings.{apart_of_mark, mark_0}
use Rattle.laws.proofs.places.Spelt.{Spelt, spelling_spelt}

-- d is due of the expansion so far, and nothing goes on: no unit may stand here; the bytes that it stands for break UTF-8; the body ends and a sequence is
-- unfinished
abbrev pub Breaks : Bool → (List ℕ → Step) → Due → List ℕ → Type 0
Breaks checks step d [] = (checks ≡ true) × (whole d ≡ false)
Breaks checks step d (b ∷ r) = (step (b ∷ r) ≡ stop) ⊎ ((checks ≡ true) × (pushes d (stands (step (b ∷ r)) b) ≡ broken))

-- a body is read up to place m: left of it, taken by itself, reading goes through, in whole units, and their bytes break nothing; there nothing goes on
pub record StopsAt (checks : Bool) (step : List ℕ → Step) (body : List ℕ) (m : ℕ) : Type 0 where
  pub inside : m ≤ length body
  pub through : stops (walk step 0 (take m body)) ≡ false
  pub takes : size (walk step 0 (take m body)) ≡ m
  pub sound : checks ≡ true → (pushes fresh (value (walk step 0 (take m body))) ≡ broken → ⊥)
  pub here : Breaks checks step (pushes fresh (value (walk step 0 (take m body)))) (drop m body)

-- COURSES. Checked from d on, or not; and what a course begins with where nothing goes on
abbrev checked_by : Bool → Due → Trace → Trace
checked_by x d r = if x then checked d r else r

abbrev Halts : Bool → Due → Trace → Type 0
Halts x d ended = (x ≡ true) × (whole d ≡ false)
Halts x d stopped = Unit {0}
Halts x d (kept b r) = (x ≡ true) × (push d b ≡ broken)
Halts x d (gave n out r) = (x ≡ true) × (pushes d out ≡ broken)

-- a course that stops: left of that place it goes on, and breaks nothing
record Parted (x : Bool) (d : Due) (r : Trace) : Type 0 where
  left : Trace
  rest : Trace
  joins : r ≡ graft left rest
  goes : stops left ≡ false
  place : size left ≡ size (checked_by x d r)
  sound : x ≡ true → pushes d (value left) ≡ broken → ⊥
  halts : Halts x (pushes d (value left)) rest

-- nothing is left of it
parted_here : (x : Bool) (d : Due) (r : Trace) → (x ≡ true → d ≡ broken → ⊥) → checked_by x d r ≡ stopped → Halts x d r → Parted x d r
parted_here x d r n e h = record { left = ended; rest = r; joins = refl; goes = refl; place = sym (ap size e); sound = n; halts = h }

-- a unit is left of it
kept_more : (x : Bool) (d : Due) (b : ℕ) (r : Trace) → Parted x (push d b) r → checked_by x d (kept b r) ≡ kept b (checked_by x (push d b) r)
    → Parted x d (kept b r)
kept_more x d b r p e = record {
  left = kept b p.left;
  rest = p.rest;
  joins = ap (kept b) p.joins;
  goes = p.goes;
  place = ap suc p.place ∙ sym (ap size e);
  sound = p.sound;
  halts = p.halts;
}

gave_more : (x : Bool) (d : Due) (n : ℕ) (out : List ℕ) (r : Trace) → Parted x (pushes d out) r
    → checked_by x d (gave n out r) ≡ gave n out (checked_by x (pushes d out) r) → Parted x d (gave n out r)
gave_more x d n out r p e = record {
  left = gave n out p.left;
  rest = p.rest;
  joins = ap (gave n out) p.joins;
  goes = p.goes;
  place = ap (λ (k : ℕ). suc (n + k)) p.place ∙ sym (ap size e);
  sound = rw (pushes_append d out (value p.left)) p.sound;
  halts = rw (pushes_append d out (value p.left)) p.halts;
}

due≢broken : (n lo hi : ℕ) → due n lo hi ≡ broken → ⊥
due≢broken n lo hi e = let z : ◌≡◌ {A = ℕ} 0 1 = cc in omega arith

parted : (x : Bool) (d : Due) (r : Trace) → (x ≡ true → d ≡ broken → ⊥) → stops (checked_by x d r) ≡ true → Parted x d r
parted false d ended n h = absurd (false≢true h)
parted false d stopped n h = parted_here false d stopped n refl tt
parted false d (kept b r) n h = kept_more false d b r (parted false (push d b) r (λ z. absurd (false≢true z)) h) refl
parted false d (gave k out r) n h = gave_more false d k out r (parted false (pushes d out) r (λ z. absurd (false≢true z)) h) refl
parted true d ended n h = go (whole d) refl h
  where
    go : (y : Bool) → whole d ≡ y → stops (if y then ended else stopped) ≡ true → Parted true d ended
    go true e g = absurd (false≢true g)
    go false e g = parted_here true d ended n (rw e) (refl, e)
parted true d stopped n h = parted_here true d stopped n refl tt
parted true d (kept b r) n h = go (push d b) refl h (parted true (push d b) r)
  where
    go : (y : Due) → push d b ≡ y → stops (unless_broken y (λ d'. kept b (checked d' r))) ≡ true
        → ((true ≡ true → push d b ≡ broken → ⊥) → stops (checked (push d b) r) ≡ true → Parted true (push d b) r) → Parted true d (kept b r)
    go broken e g ih = parted_here true d (kept b r) n (rw e) (refl, e)
    go (due k lo hi) e g ih = kept_more true d b r (ih (λ _ z. due≢broken k lo hi (sym e ∙ z)) (rw e g)) (rw e)
parted true d (gave k out r) n h = go (pushes d out) refl h (parted true (pushes d out) r)
  where
    go : (y : Due) → pushes d out ≡ y → stops (unless_broken y (λ d'. gave k out (checked d' r))) ≡ true
        → ((true ≡ true → pushes d out ≡ broken → ⊥) → stops (checked (pushes d out) r) ≡ true → Parted true (pushes d out) r) → Parted true d (gave k out r)
    go broken e g ih = parted_here true d (gave k out r) n (rw e) (refl, e)
    go (due i lo hi) e g ih = gave_more true d k out r (ih (λ _ z. due≢broken i lo hi (sym e ∙ z)) (rw e g)) (rw e)

-- WALKS. Behind a course the walk goes on from its place
walk_rest : (step : List ℕ → Step) (t : List ℕ) (c q : Trace) → stops c ≡ false → walk step 0 t ≡ graft c q → walk step 0 (drop (size c) t) ≡ q
walk_rest step t ended q g w = w
walk_rest step t stopped q g w = absurd (false≢true (sym g))
walk_rest step [] (kept a c) q g w = cc
walk_rest step [] (gave n out c) q g w = cc
walk_rest step (b ∷ t) (kept a c) q g w =
    let e : step (b ∷ t) ≡ keep = first_is step b t (kept a (graft c q)) w in
    let v : kept b (walk step 0 t) ≡ kept a (graft c q) = rw e at w in
    walk_rest step t c q g (cc)
walk_rest step (b ∷ t) (gave n out c) q g w =
    let e : step (b ∷ t) ≡ give n out = first_is step b t (gave n out (graft c q)) w in
    let v : gave n out (walk step n t) ≡ gave n out (graft c q) = rw e at w in
    let i : walk step n t ≡ graft c q = cc in
    ap (walk step 0) (sym (drop-drop (size c) n t)) ∙ walk_rest step (drop n t) c q g (sym (walk_drop step n t) ∙ i)

-- what the course from here on begins with is what stands here
halts_breaks : (x : Bool) (step : List ℕ → Step) (d : Due) (l : List ℕ) → Halts x d (walk step 0 l) → Breaks x step d l
halts_breaks x step d [] h = h
halts_breaks x step d (b ∷ r) h = go (step (b ∷ r)) h
  where
    go : (s : Step) → Halts x d (after s b (λ n. walk step n r)) → (s ≡ stop) ⊎ ((x ≡ true) × (pushes d (stands s b) ≡ broken))
    go keep g = inr g
    go (give n out) g = inr g
    go stop g = inl refl

pub stops_at : (x : Bool) (step : List ℕ → Step) (body : List ℕ) → Steady step → ((r : List ℕ) → Fore step r)
    → stops (course_by x (walk step 0 body)) ≡ true → StopsAt x step body (size (course_by x (walk step 0 body)))
stops_at x step body ok fore h = subst (StopsAt x step body) p.place record {
  inside = s.inside;
  through = ap stops a ∙ p.goes;
  takes = ap size a;
  sound = rw a p.sound;
  here = rw a (halts_breaks x step (pushes fresh (value p.left)) (drop m body) (rw w p.halts));
}
  where
    p : Parted x fresh (walk step 0 body)
    p = parted x fresh (walk step 0 body) (λ _ z. due≢broken 0 0x80 0xBF z) h

    m : ℕ
    m = size p.left

    w : walk step 0 (drop m body) ≡ p.rest
    w = walk_rest step body p.left p.rest p.goes p.joins

    s : SoFar step body m
    s = record {
      course = p.left;
      goes = p.goes;
      place = refl;
      rest = p.joins ∙ ap (graft p.left) (sym w);
      inside = omega (arith, p.place, course_size x step ok body);
    }

    a : walk step 0 (take m body) ≡ p.left
    a = so_far_alone step body m s (fore (drop m body))

-- WHAT STANDS THERE. A standard body stops at its mark only
pub standard_stop : (bs : Bool) (q b : ℕ) (r : List ℕ) → standard_step bs q (b ∷ r) ≡ stop → b ≡ q
standard_stop bs q b r h = go (bs && eqb b backslash) (eqb b q) refl h
  where
    gives : (r : List ℕ) → mysql r ≡ stop → b ≡ q
    gives [] e = cc
    gives (c ∷ r) e = let g = (mysql_gives c r).1 in cc

    go : (x y : Bool) → eqb b q ≡ y → (if x then mysql r else if y then doubled q r else keep) ≡ stop → b ≡ q
    go true y e g = gives r g
    go false true e g = eqb-true b q e
    go false false e g = cc

-- a byte of an E body that does not stand for itself is a backslash or a quote
pub escape_kept : (b : ℕ) (r : List ℕ) → (escape_step (b ∷ r) ≡ keep) ⊎ ((b ≡ backslash) ⊎ (b ≡ quote))
escape_kept b r = go (eqb b backslash) (eqb b quote) refl refl
  where
    go : (x y : Bool) → eqb b backslash ≡ x → eqb b quote ≡ y
        → ((if x then escaped r else if y then doubled quote r else keep) ≡ keep) ⊎ ((b ≡ backslash) ⊎ (b ≡ quote))
    go true y e f = inr (inl (eqb-true b backslash e))
    go false true e f = inr (inr (eqb-true b quote f))
    go false false e f = inl refl

pub escape_stop : (b : ℕ) (r : List ℕ) → escape_step (b ∷ r) ≡ stop → (b ≡ backslash) ⊎ (b ≡ quote)
escape_stop b r h = go (escape_kept b r)
  where
    go : (escape_step (b ∷ r) ≡ keep) ⊎ ((b ≡ backslash) ⊎ (b ≡ quote)) → (b ≡ backslash) ⊎ (b ≡ quote)
    go (inl e) = inl (cc)
    go (inr m) = m

-- a U& body stops at the mark or at the escape character
pub unicode_stop : (e : List ℕ) (q b : ℕ) (r : List ℕ) → unicode_step e q (b ∷ r) ≡ stop → (b ≡ q) ⊎ (starts e (b ∷ r) ≡ true)
unicode_stop e q b r h = go (eqb b q) (starts e (b ∷ r)) refl refl h
  where
    go : (x y : Bool) → eqb b q ≡ x → starts e (b ∷ r) ≡ y → (if x then doubled q r else if y then uescaped e (drop (length e) (b ∷ r)) else keep) ≡ stop
        → (b ≡ q) ⊎ (starts e (b ∷ r) ≡ true)
    go true y f g k = inl (eqb-true b q f)
    go false true f g k = inr g
    go false false f g k = inl (cc)

-- A SEGMENT. Place p of it, by its spelling
abbrev pub StopsIn : Settings → List ℕ → Spelling → ℕ → Type 0
StopsIn σ t (standard q f u) p = (m : ℕ) × (p ≡ f + m) × StopsAt false (standard_step σ.backslash q) (part f u t) m
StopsIn σ t (escape f u) p = (m : ℕ) × (p ≡ f + m) × StopsAt true escape_step (part f u t) m
StopsIn σ t (unicode e f u) p = (m : ℕ) × (p ≡ f + m) × StopsAt false (unicode_step e quote) (part f u t) m
StopsIn σ t (dollar f u) p = ⊥
StopsIn σ t unspelt p = p ≡ 0

-- a body's course is refused where it stops
body_stops : (x : Bool) (step : List ℕ → Step) (t : List ℕ) (f u p : ℕ) → Steady step → ((r : List ℕ) → Fore step r)
    → answer f u (course_by x (walk step 0 (part f u t))) ≡ refused p → (m : ℕ) × (p ≡ f + m) × StopsAt x step (part f u t) m
unfolding answer
body_stops x step t f u p ok fore h = go (plain r) (stops r) refl h
  where
    r : Trace
    r = course_by x (walk step 0 (part f u t))

    go : (y z : Bool) → stops r ≡ z → (if y then borrowed f u else if z then refused (f + size r) else written (value r)) ≡ refused p
        → (m : ℕ) × (p ≡ f + m) × StopsAt x step (part f u t) m
    go true z e g = absurd (let w : ◌≡◌ {A = ℕ} 0 1 = cc in omega arith)
    go false true e g = (size r, cc, stops_at x step (part f u t) ok fore e)
    go false false e g = absurd (let w : ◌≡◌ {A = ℕ} 0 1 = cc in omega arith)

as_stops : (σ : Settings) (t : List ℕ) (s : Spelling) → Spelt t s → (p : ℕ) → read_as σ t s ≡ refused p → StopsIn σ t s p
as_stops σ t (standard q f u) k p h =
    body_stops false (standard_step σ.backslash q) t f u p (standard_steady σ.backslash q (apart_of_mark q 0 k mark_0)) (standard_fore σ.backslash q) h
as_stops σ t (escape f u) k p h = body_stops true escape_step t f u p escape_steady escape_fore h
as_stops σ t (unicode e f u) k p h = body_stops false (unicode_step e quote) t f u p (unicode_steady e quote refl) (unicode_fore e quote) h
as_stops σ t (dollar f u) k p h = let z : ◌≡◌ {A = ℕ} 0 1 = cc in omega arith
as_stops σ t unspelt k p h = cc

pub alone_stops : (σ : Settings) (t : List ℕ) (p : ℕ) → one σ t ≡ refused p
    → ((has 0 t ≡ true) × (p ≡ 0)) ⊎ ((has 0 t ≡ false) × StopsIn σ t (spelling t) p)
unfolding one
alone_stops σ t p h = go (has 0 t) refl h
  where
    go : (x : Bool) → has 0 t ≡ x → (if x then refused 0 else read_as σ t (spelling t)) ≡ refused p
        → ((has 0 t ≡ true) × (p ≡ 0)) ⊎ ((has 0 t ≡ false) × StopsIn σ t (spelling t) p)
    go true e g = inl (e, cc)
    go false e g = inr (e, as_stops σ t (spelling t) (spelling_spelt t) p g)
