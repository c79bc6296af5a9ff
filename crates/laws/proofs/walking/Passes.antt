-- Where the two passes over a body stand, over every step: measuring, which counts what the units so far stand for and, if it checks, follows
-- their UTF-8; and writing, which has put it at a buffer's start. A law for the start, for a turn and for each way out. Assumes nothing.
use mathlib.Core.Path.{◌≡◌, refl, ap, ap₂, sym, ◌∙◌, subst}
use mathlib.Core.Bool.{Bool, true, false, ◌&&◌, and-false, false≢true}
use mathlib.Core.List.{List, ◌++◌, append_assoc, append-nil}
use Prim.Native.Nat.{ℕ, suc, ◌+◌, ◌-◌, ◌≤◌, ◌<◌}
use native.Mathlib.Nat.{add-zero, le_of_eq}
use native.Mathlib.Omega.{arith}
use lib.ListN.{length, get_or, take, drop, length-append, length-drop, drop_of_length-le}
use lib.Seq.{take_at, drop_at, drop-drop}
use borrow.Author.Tests.{le-leb}
use Rattle.std.specs.Prelude.{if◌then◌else◌}
use Rattle.meaning.specs.Chars.{Due, due, broken, fresh, pushes, whole}
use Rattle.meaning.specs.Walk.{Step, keep, give, stop, Trace, ended, stopped, after, walk, size, stops, plain, value}
use Rattle.meaning.specs.Steps.{checked}
use Rattle.meaning.specs.Answers.{filled}
use Rattle.laws.proofs.basics.Lists.{part_tail}
use Rattle.laws.proofs.walking.Walks.{graft, size_graft, stops_graft}
use Rattle.laws.proofs.utf8.Utf8.{pushes_append}
use Rattle.laws.proofs.walking.StepBounds.{Bounded, Steady, steady_at}
use Rattle.laws.proofs.walking.Courses.{SoFar, so_far_none, walk_at, so_far_end, so_far_stop, stops_here, taken, stands, is_kept, Goes, so_far_unit, Taken}
use Rattle.laws.proofs.walking.Courses.{value_graft, plain_both, graft_ended, checked_graft, checked_same}

-- a course, checked or not
abbrev pub course_by : Bool → Trace → Trace
course_by x r = if x then checked fresh r else r

pub course_same : (x : Bool) (r : Trace) → stops (course_by x r) ≡ false → course_by x r ≡ r
course_same true r h = checked_same fresh r h
course_same false r h = refl

-- HOW A COURSE GOES OUT: it stops at a place; or it ends, is plain or not, and stands for n bytes
pub record StopsAt (r : Trace) (at : ℕ) : Type 0 where
  pub halts : stops r ≡ true
  pub marred : plain r ≡ false
  pub place : size r ≡ at

pub record EndsWith (r : Trace) (p : Bool) (n : ℕ) : Type 0 where
  pub goes : stops r ≡ false
  pub plainly : plain r ≡ p
  pub counted : length (value r) ≡ n

-- a state that is not broken
abbrev pub Unbroken : Due → Type 0
Unbroken broken = ⊥
Unbroken (due n lo hi) = Unit {0}

-- what a unit takes is there, and it stands for no more
pub unit_fits : (step : List ℕ → Step) → Steady step → (l : List ℕ) (at : ℕ) → at < length l → (u : Step) → step (drop at l) ≡ u → Goes u
    → (at + taken u ≤ length l) × (length (stands u (get_or l at 0)) ≤ taken u)
unit_fits step ok l at h u e g = go u (steady_at step ok l at h u e) g
  where
    go : (u : Step) → Bounded u (length l - suc at) → Goes u → (at + taken u ≤ length l) × (length (stands u (get_or l at 0)) ≤ taken u)
    go keep b g = omega arith
    go (give k out) b g = omega arith
    go stop b g = absurd g

pub unit_taken : {step : List ℕ → Step} {l : List ℕ} {at : ℕ} (s : SoFar step l at) → Steady step → (u : Step) → at < length l → step (drop at l) ≡ u → Goes u
    → (at' : ℕ) → at + taken u ≡ at' → Taken s (stands u (get_or l at 0)) (is_kept u) at'
unit_taken {step} {l} {at} s ok u h e g at' ea =
    let b = unit_fits step ok l at h u e g in
    let f = so_far_unit s u at' h e g b.0 ea in
    record { next = f.next; means = f.means; plainly = f.plainly; brief = omega (arith, b.1, ea) }

-- MEASURING. x: the walk is checked; so far n bytes, p whether each byte stood for itself, d what is due
pub record Measuring (step : List ℕ → Step) (x : Bool) (l : List ℕ) (at n : ℕ) (p : Bool) (d : Due) : Type 0 where
  pub so_far : SoFar step l at
  pub counted : length (value so_far.course) ≡ n
  pub short : n ≤ at
  pub plainly : plain so_far.course ≡ p
  pub state : d ≡ (if x then pushes fresh (value so_far.course) else fresh)
  pub unbroken : Unbroken d

unfoldable pub measuring_none : (step : List ℕ → Step) (x : Bool) (l : List ℕ) → Measuring step x l 0 0 true fresh
unfolding so_far_none
measuring_none step x l = record { so_far = so_far_none step l; counted = refl; short = omega arith; plainly = refl; state = same x; unbroken = tt }
  where
    same : (x : Bool) → fresh ≡ (if x then fresh else fresh)
    same true = refl
    same false = refl

-- the check goes on behind the course so far
behind : (x : Bool) (c : Trace) (d : Due) → stops c ≡ false → d ≡ (if x then pushes fresh (value c) else fresh) → Unbroken d → (q : Trace)
    → course_by x (graft c q) ≡ graft c (if x then checked d q else q)
behind false c d h e g q = refl
behind true c broken h e g q = absurd g
behind true c (due n lo hi) h e g q = checked_graft fresh c q n lo hi h (sym e)

module _ {step : List ℕ → Step} {x : Bool} {l : List ℕ} {at n : ℕ} {p : Bool} {d : Due} (m : Measuring step x l at n p d) where
  -- a turn: what it stands for is counted, and the state goes past that
  unfoldable pub measuring_turn : (v : List ℕ) (y : Bool) (at' n' : ℕ) (p' : Bool) (d' : Due) → Taken m.so_far v y at' → n + length v ≡ n' → (p && y) ≡ p'
      → d' ≡ (if x then pushes d v else d) → Unbroken d' → Measuring step x l at' n' p' d'
  measuring_turn v y at' n' p' d' f en ep ed ub =
      let s = m.so_far in
      record {
        so_far = f.next;
        counted = ap length f.means ∙ length-append (value s.course) v ∙ omega (arith, m.counted, en);
        short = omega (arith, m.short, f.brief, en);
        plainly = f.plainly ∙ ap (◌&& y) m.plainly ∙ ep;
        state = ed ∙ past x d (value s.course) v m.state ∙ ap (λ (w : List ℕ). if x then pushes fresh w else fresh) (sym f.means);
        unbroken = ub;
      }
    where
      past : (x : Bool) (d : Due) (c v : List ℕ) → d ≡ (if x then pushes fresh c else fresh)
          → (if x then pushes d v else d) ≡ (if x then pushes fresh (c ++ v) else fresh)
      past true d c v k = ap (λ (y : Due). pushes y v) k ∙ sym (pushes_append fresh c v)
      past false d c v k = k

  -- the course goes on as r: it is the one so far, and behind it what the check makes of r
  onward : (q : Trace) → walk step 0 l ≡ graft m.so_far.course q
      → course_by x (walk step 0 l) ≡ graft m.so_far.course (if x then checked d q else q)
  onward q e = ap (course_by x) e ∙ behind x m.so_far.course d m.so_far.goes m.state m.unbroken q

  here : course_by x (walk step 0 l) ≡ graft m.so_far.course stopped → StopsAt (course_by x (walk step 0 l)) at
  here e =
      let c = m.so_far.course in
      record {
        halts = ap stops e ∙ stops_graft c stopped m.so_far.goes;
        marred = ap plain e ∙ plain_both c stopped ∙ and-false (plain c);
        place = ap size e ∙ size_graft c stopped m.so_far.goes ∙ add-zero (size c) ∙ m.so_far.place;
      }

  -- nothing may stand here
  pub measuring_stop : at < length l → step (drop at l) ≡ stop → StopsAt (course_by x (walk step 0 l)) at
  measuring_stop h e = here (onward stopped (so_far_stop m.so_far h e) ∙ ap (graft m.so_far.course) (idle x))
    where
      idle : (x : Bool) → (if x then checked d stopped else stopped) ≡ stopped
      idle true = refl
      idle false = refl

  -- a unit's bytes break the text
  pub measuring_broken : (u : Step) → at < length l → step (drop at l) ≡ u → Goes u
      → broken ≡ (if x then pushes d (stands u (get_or l at 0)) else d) → StopsAt (course_by x (walk step 0 l)) at
  measuring_broken u h e g k =
      here (onward (after u (get_or l at 0) (λ n. walk step n (drop (suc at) l))) (m.so_far.rest ∙ ap (graft m.so_far.course) (walk_at step l at h u e))
      ∙ ap (graft m.so_far.course) (go x u g k))
    where
      go : (x : Bool) (u : Step) → Goes u → broken ≡ (if x then pushes d (stands u (get_or l at 0)) else d)
          → (if x then checked d (after u (get_or l at 0) (λ n. walk step n (drop (suc at) l))) else after u (get_or l at 0) (λ n. walk step n (drop (suc at) l)))
          ≡ stopped
      go true keep g k = rw (← k)
      go true (give i out) g k = rw (← k)
      go true stop g k = absurd g
      go false u g k = absurd (subst Unbroken (sym k) m.unbroken)

  -- nothing is left
  pub measuring_unfinished : length l ≤ at → whole d ≡ false → StopsAt (course_by x (walk step 0 l)) at
  measuring_unfinished h w = here (onward ended (so_far_end m.so_far h ∙ sym (graft_ended m.so_far.course))
      ∙ ap (graft m.so_far.course) (go x m.state))
    where
      go : (x : Bool) → d ≡ (if x then pushes fresh (value m.so_far.course) else fresh) → (if x then checked d ended else ended) ≡ stopped
      go true k = rw w
      go false k = absurd (false≢true (sym w ∙ ap whole k))

  pub measuring_end : length l ≤ at → whole d ≡ true → EndsWith (course_by x (walk step 0 l)) p n
  measuring_end h w =
      let c = m.so_far.course in
      let e = onward ended (so_far_end m.so_far h ∙ sym (graft_ended c)) ∙ ap (graft c) (go x) ∙ graft_ended c in
      record { goes = ap stops e ∙ m.so_far.goes; plainly = ap plain e ∙ m.plainly; counted = ap (λ (r : Trace). length (value r)) e ∙ m.counted }
    where
      go : (x : Bool) → (if x then checked d ended else ended) ≡ ended
      go true = rw w
      go false = refl

-- WRITING into a buffer that held d: what stands there so far, of n bytes, and behind it what stood there before
pub record Writing (step : List ℕ → Step) (l d out : List ℕ) (at n : ℕ) : Type 0 where
  pub so_far : SoFar step l at
  pub counted : length (value so_far.course) ≡ n
  pub put : out ≡ value so_far.course ++ drop n d
  pub same : length out ≡ length d

pub writing_none : (step : List ℕ → Step) (l d : List ℕ) → Writing step l d d 0 0
unfolding so_far_none
writing_none step l d = record { so_far = so_far_none step l; counted = refl; put = refl; same = refl }

-- the course goes to its end, and the buffer holds what it means
pub record Roomy (r : Trace) (n : ℕ) : Type 0 where
  pub goes : stops r ≡ false
  pub fits : length (value r) ≤ n

-- what is put so far is within it
within_room : {step : List ℕ → Step} {l : List ℕ} {at : ℕ} {m : ℕ} → Roomy (walk step 0 l) m → (s : SoFar step l at) → length (value s.course) ≤ m
within_room {step} {l} {at} {m} r s =
    let q = walk step 0 (drop at l) in
    let v = ap (λ (t : Trace). length (value t)) s.rest ∙ ap length (value_graft s.course q s.goes) ∙ length-append (value s.course) (value q) in
    omega (arith, r.fits, v)

-- a part of a buffer from n on: p stood before it, and v now stands at its start
pub put_part : (p v d : List ℕ) (n : ℕ) → length p ≡ n
    → take n (p ++ drop n d) ++ (v ++ drop (length v) (drop n (p ++ drop n d))) ≡ (p ++ v) ++ drop (n + length v) d
put_part p v d n e =
    ap₂ (λ (a b : List ℕ). a ++ (v ++ drop (length v) b)) (take_at p (drop n d) n e) (drop_at p (drop n d) n e)
    ∙ ap (λ (b : List ℕ). p ++ (v ++ b)) (drop-drop (length v) n d)
    ∙ sym (append_assoc p v (drop (n + length v) d))

-- behind p, of n bytes: the rest of the buffer was lent to a callee that put v at its start, and has come back
pub put_behind : (p v d out last : List ℕ) (n : ℕ) → length p ≡ n → out ≡ p ++ drop n d
    → last ≡ v ++ drop (length v) (take (length out - n) (drop n out))
    → take n out ++ (last ++ drop (length out - n) (drop n out)) ≡ (p ++ v) ++ drop (n + length v) d
put_behind p v d out last n e o l =
    ap (take n out ++◌)
    (ap (last ++◌) (drop_of_length-le (drop n out) (le_of_eq (length-drop n out))) ∙ append-nil last ∙ l
    ∙ ap (λ (s : List ℕ). v ++ drop (length v) s) (part_tail out n))
    ∙ ap (λ (s : List ℕ). take n s ++ (v ++ drop (length v) (drop n s))) o
    ∙ put_part p v d n e

-- the same, from a place k that is n, where the callee fills what there is room for
pub laid_behind : (p v d out last : List ℕ) (n k : ℕ) → length p ≡ n → out ≡ p ++ drop n d → length out ≡ length d → n + length v ≤ length d → k ≡ n
    → last ≡ filled v (take (length out - k) (drop k out))
    → take k out ++ (last ++ drop (length out - k) (drop k out)) ≡ (p ++ v) ++ drop (n + length v) d
unfolding filled
laid_behind p v d out last n k e o s h ek b =
    let r : length v ≤ length (take (length out - n) (drop n out)) = rw (part_tail out n) (omega (arith, length-drop n out, s)) in
    let b' : last ≡ v ++ drop (length v) (take (length out - n) (drop n out)) =
    (rw ek at b) ∙ rw (le-leb (length v) (length (take (length out - n) (drop n out))) r) in
    rw ek (put_behind p v d out last n e o b')

module _ {step : List ℕ → Step} {l d out : List ℕ} {at n : ℕ} (w : Writing step l d out at n) (room : Roomy (walk step 0 l) (length d)) where
  pub writing_within : n ≤ length d
  writing_within = omega (arith, within_room room w.so_far, w.counted)

  pub writing_end : length l ≤ at → (n ≡ length (value (walk step 0 l))) × (out ≡ value (walk step 0 l) ++ drop (length (value (walk step 0 l))) d)
  writing_end h =
      let e = so_far_end w.so_far h in
      rw e (sym w.counted, w.put ∙ ap (λ (k : ℕ). value w.so_far.course ++ drop k d) (sym w.counted))

  -- a turn that stands for v
  module _ (v : List ℕ) (y : Bool) (at' : ℕ) (f : Taken w.so_far v y at') where
    pub taken_room : n + length v ≤ length d
    taken_room =
        let k = within_room room f.next in
        omega (arith, ap length f.means ∙ length-append (value w.so_far.course) v, w.counted)

    -- the buffer's part from n on was lent to a callee that filled it with these bytes, and has come back
    pub taken_turn : (n' : ℕ) (last : List ℕ) → n + length v ≡ n' → last ≡ filled v (take (length out - n) (drop n out))
        → Writing step l d (take n out ++ (last ++ drop (length out - n) (drop n out))) at' n'
    taken_turn n' last en el =
        let c = value w.so_far.course in
        let put : take n out ++ (last ++ drop (length out - n) (drop n out)) ≡ (c ++ v) ++ drop n' d =
        laid_behind c v d out last n n w.counted w.put w.same taken_room refl el ∙ ap (λ (i : ℕ). (c ++ v) ++ drop i d) en in
        let len : length (c ++ v) ≡ n' = length-append c v ∙ omega (arith, w.counted, en) in
        record {
          so_far = f.next;
          counted = ap length f.means ∙ len;
          put = put ∙ ap (◌++ drop n' d) (sym f.means);
          same = ap length put ∙ length-append (c ++ v) (drop n' d) ∙ omega (arith, len, length-drop n' d, taken_room, en);
        }

  -- a unit more
  module _ (ok : Steady step) (u : Step) (h : at < length l) (e : step (drop at l) ≡ u) where
    pub writing_goes : Goes u
    writing_goes = go u e
      where
        go : (u : Step) → step (drop at l) ≡ u → Goes u
        go keep e = tt
        go (give k o) e = tt
        go stop e = absurd (false≢true (sym room.goes ∙ stops_here w.so_far h e))

    unit : (at' : ℕ) → at + taken u ≡ at' → Taken w.so_far (stands u (get_or l at 0)) (is_kept u) at'
    unit at' ea = unit_taken w.so_far ok u h e writing_goes at' ea

    pub writing_room : n + length (stands u (get_or l at 0)) ≤ length d
    writing_room = taken_room (stands u (get_or l at 0)) (is_kept u) (at + taken u) (unit (at + taken u) refl)

    pub writing_turn : (at' n' : ℕ) (v last : List ℕ) → stands u (get_or l at 0) ≡ v → at + taken u ≡ at' → n + length v ≡ n'
        → last ≡ filled v (take (length out - n) (drop n out))
        → Writing step l d (take n out ++ (last ++ drop (length out - n) (drop n out))) at' n'
    writing_turn at' n' v last ev ea en el =
        taken_turn v (is_kept u) at' (subst (λ (x : List ℕ). Taken w.so_far x (is_kept u) at') ev (unit at' ea)) n' last en el
