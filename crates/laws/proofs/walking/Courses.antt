-- Where a loop stands that walks a text: the course so far, and that the whole walk goes on from there. A loop's invariant holds one of these;
-- each turn and each way out has its law here, over every step. Assumes nothing.
use mathlib.Core.Path.{◌≡◌, refl, ap, sym, ◌∙◌, subst}
use mathlib.Core.Bool.{Bool, true, false, ◌&&◌, and-true, false≢true}
use mathlib.Core.List.{List, [], ◌∷◌, ◌++◌, append_assoc, append-nil}
use Prim.Native.Nat.{ℕ, zero, suc, ◌+◌, ◌≤◌, ◌<◌}
use native.Mathlib.Numerals.{add-one}
use native.Mathlib.Omega.{arith}
use lib.ListN.{length, get_or, take, drop, length-drop, drop_of_length-le}
use lib.Seq.{drop-cons, drop-drop, take-suc, get_or-drop, length-take-le}
use Rattle.std.specs.Prelude.{if◌then◌else◌}
use Rattle.meaning.specs.Chars.{Due, due, broken, push, pushes, whole}
use Rattle.meaning.specs.Walk.{Step, keep, give, stop, Trace, ended, stopped, kept, gave, after, walk, size, stops, plain, value}
use Rattle.meaning.specs.Steps.{checked, unless_broken}
use Rattle.laws.proofs.walking.Walks.{walk_drop, graft, size_graft, stops_graft}
use Rattle.laws.proofs.utf8.Utf8.{pushes_append, pushes_broken}

-- GRAFTS: one course behind another
pub graft_assoc : (p q r : Trace) → graft (graft p q) r ≡ graft p (graft q r)
graft_assoc ended q r = refl
graft_assoc stopped q r = refl
graft_assoc (kept b p) q r = ap (kept b) (graft_assoc p q r)
graft_assoc (gave n out p) q r = ap (gave n out) (graft_assoc p q r)

pub graft_ended : (p : Trace) → graft p ended ≡ p
graft_ended ended = refl
graft_ended stopped = refl
graft_ended (kept b p) = ap (kept b) (graft_ended p)
graft_ended (gave n out p) = ap (gave n out) (graft_ended p)

pub value_graft : (p q : Trace) → stops p ≡ false → value (graft p q) ≡ value p ++ value q
value_graft ended q h = refl
value_graft stopped q h = absurd (false≢true (sym h))
value_graft (kept b p) q h = ap (b ∷◌) (value_graft p q h)
value_graft (gave n out p) q h = ap (out ++◌) (value_graft p q h) ∙ sym (append_assoc out (value p) (value q))

-- plain exactly when both are
pub plain_both : (p q : Trace) → plain (graft p q) ≡ (plain p && plain q)
plain_both ended q = refl
plain_both stopped q = refl
plain_both (kept b p) q = plain_both p q
plain_both (gave n out p) q = refl

-- THE COURSE SO FAR: the first `at` bytes are walked
pub record SoFar (step : List ℕ → Step) (l : List ℕ) (at : ℕ) : Type 0 where
  pub course : Trace
  pub goes : stops course ≡ false
  pub place : size course ≡ at
  pub rest : walk step 0 l ≡ graft course (walk step 0 (drop at l))
  pub inside : at ≤ length l

unfoldable pub so_far_none : (step : List ℕ → Step) (l : List ℕ) → SoFar step l 0
so_far_none step l = record { course = ended; goes = refl; place = refl; rest = refl; inside = omega arith }

-- the walk from a place inside, by what stands there
pub walk_at : (step : List ℕ → Step) (l : List ℕ) (at : ℕ) → at < length l → (s : Step) → step (drop at l) ≡ s
    → walk step 0 (drop at l) ≡ after s (get_or l at 0) (λ n. walk step n (drop (suc at) l))
walk_at step l at h s e =
    let d : drop at l ≡ get_or l at 0 ∷ drop (suc at) l = drop-cons l at 0 h in
    ap (walk step 0) d ∙ ap (λ (x : Step). after x (get_or l at 0) (λ n. walk step n (drop (suc at) l))) (ap step (sym d) ∙ e)

module _ {step : List ℕ → Step} {l : List ℕ} {at : ℕ} (s : SoFar step l at) where
  -- one byte more, which stands for itself
  unfoldable pub so_far_keep : at < length l → step (drop at l) ≡ keep → SoFar step l (at + 1)
  so_far_keep h e = record {
    course = graft s.course (kept (get_or l at 0) ended);
    goes = stops_graft s.course (kept (get_or l at 0) ended) s.goes;
    place = size_graft s.course (kept (get_or l at 0) ended) s.goes ∙ omega (arith, s.place);
    rest =
        s.rest ∙ ap (graft s.course) (walk_at step l at h keep e ∙ ap (λ (n : ℕ). kept (get_or l at 0) (walk step 0 (drop n l))) (sym (add-one at)))
        ∙ sym (graft_assoc s.course (kept (get_or l at 0) ended) (walk step 0 (drop (at + 1) l)));
    inside = omega arith;
  }

  -- a unit more, of k + 1 bytes
  unfoldable pub so_far_give : (k : ℕ) (out : List ℕ) (at' : ℕ) → at + suc k ≤ length l → step (drop at l) ≡ give k out → at + suc k ≡ at' → SoFar step l at'
  so_far_give k out at' h e a = record {
    course = graft s.course (gave k out ended);
    goes = stops_graft s.course (gave k out ended) s.goes;
    place = size_graft s.course (gave k out ended) s.goes ∙ omega (arith, s.place);
    rest =
        let i : at < length l = omega arith in
        let j : suc at + k ≡ at' = omega arith in
        s.rest
        ∙ ap (graft s.course)
        (walk_at step l at i (give k out) e ∙ ap (gave k out)
        (walk_drop step k (drop (suc at) l) ∙ ap (walk step 0) (drop-drop k (suc at) l ∙ ap (λ (n : ℕ). drop n l) j)))
        ∙ sym (graft_assoc s.course (gave k out ended) (walk step 0 (drop at' l)));
    inside = omega arith;
  }

  -- a course more, from this place on
  unfoldable pub so_far_append : (j : ℕ) → SoFar step (drop at l) j → SoFar step l (at + j)
  so_far_append j u = record {
    course = graft s.course u.course;
    goes = stops_graft s.course u.course s.goes ∙ u.goes;
    place = size_graft s.course u.course s.goes ∙ omega (arith, s.place, u.place);
    rest =
        s.rest ∙ ap (graft s.course) (u.rest ∙ ap (λ (t : List ℕ). graft u.course (walk step 0 t)) (drop-drop j at l))
        ∙ sym (graft_assoc s.course u.course (walk step 0 (drop (at + j) l)));
    inside = omega (arith, s.inside, u.inside, length-drop at l);
  }

  -- the ways out: nothing is left; nothing may stand here; a unit reaches past the end
  pub so_far_end : length l ≤ at → walk step 0 l ≡ s.course
  so_far_end h = s.rest ∙ ap (λ (t : List ℕ). graft s.course (walk step 0 t)) (drop_of_length-le l h) ∙ graft_ended s.course

  pub so_far_stop : at < length l → step (drop at l) ≡ stop → walk step 0 l ≡ graft s.course stopped
  so_far_stop h e = s.rest ∙ ap (graft s.course) (walk_at step l at h stop e)

  pub so_far_over : (k : ℕ) (out : List ℕ) → at < length l → length l < at + suc k → step (drop at l) ≡ give k out
      → walk step 0 l ≡ graft s.course (gave k out ended)
  so_far_over k out h o e =
      let z : length (drop (suc at) l) ≤ k = omega (arith, length-drop (suc at) l) in
      s.rest
      ∙ ap (graft s.course)
      (walk_at step l at h (give k out) e
      ∙ ap (gave k out) (walk_drop step k (drop (suc at) l) ∙ ap (walk step 0) (drop_of_length-le (drop (suc at) l) z)))

  -- what a walk that stops here says
  pub stops_here : at < length l → step (drop at l) ≡ stop → stops (walk step 0 l) ≡ true
  stops_here h e = ap stops (so_far_stop h e) ∙ stops_graft s.course stopped s.goes

  pub size_here : at < length l → step (drop at l) ≡ stop → size (walk step 0 l) ≡ at
  size_here h e = ap size (so_far_stop h e) ∙ size_graft s.course stopped s.goes ∙ omega (arith, s.place)

  pub stops_end : length l ≤ at → stops (walk step 0 l) ≡ false
  stops_end h = ap stops (so_far_end h) ∙ s.goes

  pub size_end : length l ≤ at → size (walk step 0 l) ≡ at
  size_end h = ap size (so_far_end h) ∙ s.place

  pub stops_over : (k : ℕ) (out : List ℕ) → at < length l → length l < at + suc k → step (drop at l) ≡ give k out → stops (walk step 0 l) ≡ false
  stops_over k out h o e = ap stops (so_far_over k out h o e) ∙ stops_graft s.course (gave k out ended) s.goes

-- A UNIT, whatever it is: how many bytes it takes; those that it stands for, b its first; whether it is that byte
abbrev pub taken : Step → ℕ
taken keep = 1
taken (give k out) = suc k
taken stop = 0

abbrev pub stands : Step → ℕ → List ℕ
stands keep b = b ∷ []
stands (give k out) b = out
stands stop b = []

abbrev pub is_kept : Step → Bool
is_kept keep = true
is_kept (give k out) = false
is_kept stop = false

abbrev pub Goes : Step → Type 0
Goes keep = Unit {0}
Goes (give k out) = Unit {0}
Goes stop = ⊥

-- the course so far, and behind it the unit u
pub record Further {step : List ℕ → Step} {l : List ℕ} {at : ℕ} (s : SoFar step l at) (u : Step) (at' : ℕ) : Type 0 where
  pub next : SoFar step l at'
  pub means : value next.course ≡ value s.course ++ stands u (get_or l at 0)
  pub plainly : plain next.course ≡ (plain s.course && is_kept u)

pub so_far_unit : {step : List ℕ → Step} {l : List ℕ} {at : ℕ} (s : SoFar step l at) (u : Step) (at' : ℕ) → at < length l → step (drop at l) ≡ u → Goes u
    → at + taken u ≤ length l → at + taken u ≡ at' → Further s u at'
unfolding so_far_keep so_far_give
so_far_unit {step} {l} {at} s keep at' h e g i a =
    subst (λ (n : ℕ). Further s keep n) a
    record {
      next = so_far_keep s h e;
      means = value_graft s.course (kept (get_or l at 0) ended) s.goes;
      plainly = plain_both s.course (kept (get_or l at 0) ended);
    }
so_far_unit {step} {l} {at} s (give k out) at' h e g i a = record {
  next = so_far_give s k out at' i e a;
  means = value_graft s.course (gave k out ended) s.goes ∙ ap (value s.course ++◌) (append-nil out);
  plainly = plain_both s.course (gave k out ended);
}
so_far_unit s stop at' h e g i a = absurd g

-- WHAT A TURN TAKES, a unit or a run of bytes that stand for themselves: it stands for v, and y says whether each of its bytes stands for itself
pub record Taken {step : List ℕ → Step} {l : List ℕ} {at : ℕ} (s : SoFar step l at) (v : List ℕ) (y : Bool) (at' : ℕ) : Type 0 where
  pub next : SoFar step l at'
  pub means : value next.course ≡ value s.course ++ v
  pub plainly : plain next.course ≡ (plain s.course && y)
  pub brief : at + length v ≤ at'

-- k bytes from a place on stand for themselves
pub record Kept (step : List ℕ → Step) (l : List ℕ) (at k : ℕ) : Type 0 where
  pub room : at + k ≤ length l
  pub each : (j : ℕ) → j < k → step (drop (at + j) l) ≡ keep

pub kept_taken : {step : List ℕ → Step} {l : List ℕ} {at : ℕ} (s : SoFar step l at) (k : ℕ) → Kept step l at k → Taken s (take k (drop at l)) true (at + k)
unfolding so_far_keep
kept_taken {step} {l} {at} s zero h =
    let z : at ≡ at + 0 = omega arith in
    subst (λ (a : ℕ). Taken s [] true a) z
    (record { next = s; means = sym (append-nil (value s.course)); plainly = sym (and-true (plain s.course)); brief = omega arith })
kept_taken {step} {l} {at} s (suc k) h =
    let f = kept_taken s k (record { room = omega (arith, h.room); each = λ j q. h.each j (omega arith) }) in
    let b = get_or l (at + k) 0 in
    let i : at + k < length l = omega (arith, h.room) in
    let r : suc k ≤ length (drop at l) = omega (arith, length-drop at l, h.room) in
    let e : take (suc k) (drop at l) ≡ take k (drop at l) ++ (b ∷ []) =
    take-suc (drop at l) k 0 r ∙ ap (λ (x : ℕ). take k (drop at l) ++ (x ∷ [])) (get_or-drop at l k 0) in
    let z : at + k + 1 ≡ at + suc k = omega arith in
    subst (λ (a : ℕ). Taken s (take (suc k) (drop at l)) true a) z
    (record {
      next = so_far_keep f.next i (h.each k (omega arith));
      means =
          value_graft f.next.course (kept b ended) f.next.goes
          ∙ ap (◌++ (b ∷ [])) f.means
          ∙ append_assoc (value s.course) (take k (drop at l)) (b ∷ [])
          ∙ ap (value s.course ++◌) (sym e);
      plainly = plain_both f.next.course (kept b ended) ∙ and-true (plain f.next.course) ∙ f.plainly;
      brief = omega (arith, length-take-le (suc k) (drop at l) r);
    })

-- CHECKED COURSES: a check that goes to the end changes nothing
pub checked_same : (d : Due) (r : Trace) → stops (checked d r) ≡ false → checked d r ≡ r
checked_same d ended h = go (whole d) h
  where
    go : (x : Bool) → stops (if x then ended else stopped) ≡ false → (if x then ended else stopped) ≡ ended
    go true k = refl
    go false k = absurd (false≢true (sym k))
checked_same d stopped h = refl
checked_same d (kept b r) h = go (push d b) h (λ d'. checked_same d' r)
  where
    go : (x : Due) → stops (unless_broken x (λ d'. kept b (checked d' r))) ≡ false
        → ((d' : Due) → stops (checked d' r) ≡ false → checked d' r ≡ r) → unless_broken x (λ d'. kept b (checked d' r)) ≡ kept b r
    go broken k ih = absurd (false≢true (sym k))
    go (due n lo hi) k ih = ap (kept b) (ih (due n lo hi) k)
checked_same d (gave m out r) h = go (pushes d out) h (λ d'. checked_same d' r)
  where
    go : (x : Due) → stops (unless_broken x (λ d'. gave m out (checked d' r))) ≡ false
        → ((d' : Due) → stops (checked d' r) ≡ false → checked d' r ≡ r) → unless_broken x (λ d'. gave m out (checked d' r)) ≡ gave m out r
    go broken k ih = absurd (false≢true (sym k))
    go (due n lo hi) k ih = ap (gave m out) (ih (due n lo hi) k)

-- as long as the bytes so far break nothing, the check goes on behind them
pub checked_graft : (d : Due) (p q : Trace) (n lo hi : ℕ) → stops p ≡ false → pushes d (value p) ≡ due n lo hi
    → checked d (graft p q) ≡ graft p (checked (due n lo hi) q)
checked_graft d ended q n lo hi h e = ap (λ (x : Due). checked x q) e
checked_graft d stopped q n lo hi h e = absurd (false≢true (sym h))
checked_graft d (kept b p) q n lo hi h e = go (push d b) refl (checked_graft (push d b) p q n lo hi h)
  where
    go : (x : Due) → push d b ≡ x → (pushes x (value p) ≡ due n lo hi → checked x (graft p q) ≡ graft p (checked (due n lo hi) q))
        → unless_broken x (λ d'. kept b (checked d' (graft p q))) ≡ kept b (graft p (checked (due n lo hi) q))
    go broken k ih = let z : ◌≡◌ {A = ℕ} 0 1 = clash in absurd (omega arith)
      where
        clash : ◌≡◌ {A = ℕ} 0 1
        clash = let f : broken ≡ due n lo hi = sym (pushes_broken (value p)) ∙ ap (λ (x : Due). pushes x (value p)) (sym k) ∙ e in cc
    go (due m a c) k ih = ap (kept b) (ih (ap (λ (x : Due). pushes x (value p)) (sym k) ∙ e))
checked_graft d (gave k out p) q n lo hi h e = go (pushes d out) refl (checked_graft (pushes d out) p q n lo hi h)
  where
    e' : pushes (pushes d out) (value p) ≡ due n lo hi
    e' = sym (pushes_append d out (value p)) ∙ e

    go : (x : Due) → pushes d out ≡ x → (pushes x (value p) ≡ due n lo hi → checked x (graft p q) ≡ graft p (checked (due n lo hi) q))
        → unless_broken x (λ d'. gave k out (checked d' (graft p q))) ≡ gave k out (graft p (checked (due n lo hi) q))
    go broken j ih = let z : ◌≡◌ {A = ℕ} 0 1 = clash in absurd (omega arith)
      where
        clash : ◌≡◌ {A = ℕ} 0 1
        clash = let f : broken ≡ due n lo hi = sym (pushes_broken (value p)) ∙ ap (λ (x : Due). pushes x (value p)) (sym j) ∙ e' in cc
    go (due m a c) j ih = ap (gave k out) (ih (ap (λ (x : Due). pushes x (value p)) (sym j) ∙ e'))

-- so a course that stands for whole characters is its own check
pub checked_whole : (d : Due) (r : Trace) → stops r ≡ false → whole (pushes d (value r)) ≡ true → checked d r ≡ r
checked_whole d r h w = go (pushes d (value r)) refl w
  where
    go : (x : Due) → pushes d (value r) ≡ x → whole x ≡ true → checked d r ≡ r
    go broken e w = absurd (false≢true w)
    go (due zero lo hi) e w = ap (checked d) (sym (graft_ended r)) ∙ checked_graft d r ended 0 lo hi h e ∙ graft_ended r
    go (due (suc n) lo hi) e w = absurd (false≢true w)
