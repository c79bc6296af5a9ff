-- A value's characters, put into a buffer by runs and units: where the writing stands, a turn of either kind, and the ways out. Assumes nothing.
use mathlib.Core.Path.{◌≡◌, refl, ap, ap₂, sym, ◌∙◌}
use mathlib.Core.Bool.{Bool, true, false, ◌&&◌, ◌||◌, not, or-false, false≢true}
use mathlib.Core.List.{List, [], ◌∷◌, ◌++◌}
use Prim.Native.Nat.{ℕ, zero, suc, ◌+◌, ◌-◌, ◌≤◌, ◌<◌}
use native.Mathlib.Omega.{arith}
use lib.Dec.{eqb, leb}
use lib.ListN.{length, take, drop, set, length-append, length-drop, drop_of_length-le}
use lib.Seq.{drop-cons, drop-drop}
use borrow.Author.Tests.{leb-true}
use Rattle.meaning.specs.Bytes.{within, span, quote, backslash, ◌!◌}
use Rattle.std.specs.Prelude.{if◌then◌else◌}
use Rattle.meaning.specs.Chars.{Due, due, broken, fresh, lead, pushes, whole, utf8, width}
use Rattle.meaning.specs.Chars as chars
use Rattle.meaning.specs.Walk.{Step, Trace, after, walk, value}
use Rattle.leaves.specs.Blocks.{passes}
use Rattle.leaves.specs.Puts.{Puts}
use Rattle.leaves.proofs.Scans.{passes_inside, span_passes}
use Rattle.laws.proofs.basics.Tests.{and_left, and_right}
use Rattle.laws.proofs.utf8.Utf8.{pushes_broken, low_lead}
use Rattle.laws.proofs.walking.Walks.{walk_drop}
use Rattle.laws.proofs.writing.WriterParts.{first_fits}
use Rattle.laws.proofs.basics.Laying.{Laid, laid_same, laid_all, laid_lent, laid_rest, laid_more}
use Rattle.writer.specs.Manners.{Manner, Plain, Escape, Unicode, kept_by, keeps, step_by, unit_by, unit_width, opening_by, units_by, text_by}
use Rattle.writer.specs.Texts.{Fits, UnitAt, PutBytes}
use Rattle.writer.proofs.Steps.{changed_step}
use Rattle.writer.proofs.Putting as putting
use Rattle.writer.proofs.Putting.{put_all}
use Rattle.writer.proofs.Measuring.{kept_front, kept_units}

-- UTF-8. Behind the bytes that are due, and so behind the first character, a UTF-8 text is UTF-8
due_behind_lem : (n lo hi : ℕ) (t : List ℕ) → whole (pushes (due n lo hi) t) ≡ true → whole (pushes fresh (drop n t)) ≡ true
due_behind_lem zero lo hi [] h = refl
due_behind_lem zero lo hi (b ∷ t) h = h
due_behind_lem (suc n) lo hi [] h = absurd (false≢true h)
due_behind_lem (suc n) lo hi (b ∷ t) h = go (within lo hi b) h (due_behind_lem n 0x80 0xBF t)
  where
    go : (x : Bool) → whole (pushes (if x then due n 0x80 0xBF else broken) t) ≡ true
        → (whole (pushes (due n 0x80 0xBF) t) ≡ true → whole (pushes fresh (drop n t)) ≡ true) → whole (pushes fresh (drop n t)) ≡ true
    go true h ih = ih h
    go false h ih = absurd (false≢true (rw (pushes_broken t) at h))

first_behind : (b : ℕ) (t : List ℕ) → utf8 (b ∷ t) ≡ true → (0 < width b) × (utf8 (drop (width b) (b ∷ t)) ≡ true)
unfolding utf8 width
first_behind b t h = go (lead b) h
  where
    go : (d : Due) → whole (pushes d t) ≡ true → (0 < chars.width_by d) × (whole (pushes fresh (drop (chars.width_by d) (b ∷ t))) ≡ true)
    go broken h = absurd (false≢true (rw (pushes_broken t) at h))
    go (due n lo hi) h = (omega arith, due_behind_lem n lo hi t h)

-- a byte that U& keeps is a character alone
kept_low : (b : ℕ) → keeps (kept_by Unicode) b ≡ true → b < 0x80
unfolding keeps
kept_low b h =
    let x = leb 0x20 b in
    let y = leb b 0x7E || false in
    let q = not (eqb b quote) in
    let k = and_right x y (and_left (x && y) q (and_left (x && y && q) (not (eqb b backslash)) h)) in
    let l = leb-true b 0x7E (sym (or-false (leb b 0x7E)) ∙ k) in
    omega arith

kept_behind : (n : ℕ) (t : List ℕ) → passes (keeps (kept_by Unicode)) n t ≡ true → utf8 t ≡ true → utf8 (drop n t) ≡ true
unfolding utf8
kept_behind zero t h u = u
kept_behind (suc n) [] h u = absurd (false≢true h)
kept_behind (suc n) (b ∷ t) h u =
    let p = keeps (kept_by Unicode) in
    let e = low_lead b (kept_low b (and_left (p b) (passes p n t) h)) in
    kept_behind n t (and_right (p b) (passes p n t) h) (rw e at u)

-- A UNIT at the front: its bytes are there, and behind them another character begins
record Front (m : Manner) (b : ℕ) (t : List ℕ) : Type 0 where
  some : 0 < unit_width m b
  inside : unit_width m b ≤ length (b ∷ t)
  behind : m ≡ Unicode → utf8 (drop (unit_width m b) (b ∷ t)) ≡ true
  begins : m ≡ Unicode → 0 < width b

front : (m : Manner) (b : ℕ) (t : List ℕ) → (m ≡ Unicode → utf8 (b ∷ t) ≡ true) → Front m b t
front (Plain bs) b t u = record { some = omega arith; inside = omega arith; behind = λ e. absurd (other e); begins = λ e. absurd (other e) }
  where
    other : Plain bs ≡ Unicode → ⊥
    other e = let z : ◌≡◌ {A = ℕ} 0 1 = cc in omega arith
front Escape b t u = record { some = omega arith; inside = omega arith; behind = λ e. absurd (other e); begins = λ e. absurd (other e) }
  where
    other : Escape ≡ Unicode → ⊥
    other e = let z : ◌≡◌ {A = ℕ} 0 1 = cc in omega arith
front Unicode b t u =
    let k = first_behind b t (u refl) in
    record { some = k.0; inside = first_fits b t (u refl); behind = λ e. k.1; begins = λ e. k.0 }

unit_front : (m : Manner) (b : ℕ) (t : List ℕ) → keeps (kept_by m) b ≡ false → Front m b t
    → units_by m (b ∷ t) ≡ unit_by m (b ∷ t) ++ units_by m (drop (unit_width m b) (b ∷ t))
unfolding units_by
unit_front m b t h f =
    let w = unit_width m b in
    let z : suc (w - 1) ≡ w = omega (arith, f.some) in
    ap (λ (s : Step). value (after s b (λ n. walk (step_by m) n t))) (changed_step m b t h f.begins)
    ∙ ap (λ (r : Trace). unit_by m (b ∷ t) ++ value r) (walk_drop (step_by m) (w - 1) t)
    ∙ ap (λ (k : ℕ). unit_by m (b ∷ t) ++ value (walk (step_by m) 0 (drop k (b ∷ t)))) z

-- where a run is empty, its first byte does not pass
span_none : (p : ℕ → Bool) (b : ℕ) (t : List ℕ) → span p (b ∷ t) ≡ 0 → p b ≡ false
span_none p b t h = go (p b) h
  where
    go : (x : Bool) → (if x then suc (span p t) else 0) ≡ 0 → x ≡ false
    go true e = absurd (omega arith)
    go false e = refl

-- WRITING into a buffer that held d: n bytes of the spelling are there, those of the first `at` bytes
pub record Spelling (m : Manner) (v d out : List ℕ) (n at : ℕ) : Type 0 where
  pub inside : at ≤ length v
  pub valid : m ≡ Unicode → utf8 (drop at v) ≡ true
  pub laid : Laid (units_by m v) d out n
  pub rest : drop n (units_by m v) ≡ units_by m (drop at v)

module _ {m : Manner} {v d out : List ℕ} {n at : ℕ} (p : Spelling m v d out n at) where
  pub spelling_same : length out ≡ length d
  spelling_same = laid_same p.laid

  pub spelling_within : n ≤ length out
  spelling_within = omega (arith, p.laid.part, p.laid.room, spelling_same)

  pub spelling_end : length v ≤ at → PutBytes (units_by m v) d n out
  unfolding units_by
  spelling_end h =
      let l = laid_all p.laid (p.rest ∙ ap (units_by m) (drop_of_length-le v h)) in
      record { answer = l.0; buffer = l.1 }

  module _ (h : at < length v) where
    here : drop at v ≡ (v ! at) ∷ drop (suc at) v
    here = drop-cons v at 0 h

    -- A RUN of bytes that stand for themselves, as it is counted
    module _ (r : ℕ) (counted : r ≡ span (keeps (kept_by m)) (drop at v)) where
      passed : passes (keeps (kept_by m)) r (drop at v) ≡ true
      passed = rw counted (span_passes (keeps (kept_by m)) (drop at v))

      pub run_inside : at + r ≤ length v
      run_inside = omega (arith, passes_inside (keeps (kept_by m)) r (drop at v) passed, length-drop at v)

      pub run_none : r ≤ 0 → keeps (kept_by m) (v ! at) ≡ false
      run_none s =
          let z : r ≡ 0 = omega arith in
          span_none (keeps (kept_by m)) (v ! at) (drop (suc at) v) (ap (span (keeps (kept_by m))) (sym here) ∙ sym counted ∙ z)

      abbrev run : List ℕ
      run = take (at + r - at) (drop at v)

      copied : drop n (units_by m v) ≡ run ++ units_by m (drop (at + r) v)
      copied =
          let z : r ≡ at + r - at = omega arith in
          p.rest ∙ kept_front m r (drop at v) passed
          ∙ ap (λ (t : List ℕ). take r (drop at v) ++ units_by m t) (drop-drop r at v)
          ∙ ap (λ (i : ℕ). take i (drop at v) ++ units_by m (drop (at + r) v)) z

      module _ (a : ℕ) (last : List ℕ) (q : Puts run (take (length out - n) (drop n out)) a last) where
        pub spelling_run : Spelling m v d (take n out ++ (last ++ drop (length out - n) (drop n out))) (n + a) (at + r)
        spelling_run =
            let s = units_by m (drop (at + r) v) in
            let b = put_all q (laid_lent p.laid run s copied) in
            record {
              inside = run_inside;
              valid = λ e. ap utf8 (sym (drop-drop r at v)) ∙ kept_behind r (drop at v) (rw e at passed) (p.valid e);
              laid = laid_more p.laid run s copied a last b.answer b.buffer;
              rest = laid_rest p.laid run s copied (n + a) (ap (n +◌) b.answer);
            }

    -- A UNIT, where a byte does not stand for itself
    module _ (x : keeps (kept_by m) (v ! at) ≡ false) where
      abbrev wide : ℕ
      wide = unit_width m (v ! at)

      unit : Front m (v ! at) (drop (suc at) v)
      unit = front m (v ! at) (drop (suc at) v) (λ e. rw here at (p.valid e))

      next : drop wide ((v ! at) ∷ drop (suc at) v) ≡ drop (at + wide) v
      next = ap (drop wide) (sym here) ∙ drop-drop wide at v

      spelled : drop n (units_by m v) ≡ unit_by m (drop at v) ++ units_by m (drop (at + wide) v)
      spelled =
          p.rest ∙ ap (units_by m) here ∙ unit_front m (v ! at) (drop (suc at) v) x unit
          ∙ ap₂ (λ (t u : List ℕ). unit_by m t ++ units_by m u) (sym here) next

      pub unit_asked : UnitAt m v at (length (take (length out - n) (drop n out)))
      unit_asked = record {
        inside = h;
        changed = x;
        begins = unit.begins;
        room = laid_lent p.laid (unit_by m (drop at v)) (units_by m (drop (at + wide) v)) spelled;
      }

      module _ (w : ℕ) (ew : w ≡ wide) where
        pub unit_some : 0 < w
        unit_some = omega (arith, unit.some)

        pub unit_inside : at + w ≤ length v
        unit_inside = omega (arith, unit.inside, ap length here, length-drop at v)

      module _ (a : ℕ) (last : List ℕ) (q : PutBytes (unit_by m (drop at v)) (take (length out - n) (drop n out)) a last) where
        pub spelling_unit : (w : ℕ) → w ≡ wide → Spelling m v d (take n out ++ (last ++ drop (length out - n) (drop n out))) (n + a) (at + w)
        spelling_unit w ew =
            let b = unit_by m (drop at v) in
            let s = units_by m (drop (at + wide) v) in
            rw ew (record {
              inside = unit_inside wide refl;
              valid = λ e. ap utf8 (sym next) ∙ unit.behind e;
              laid = laid_more p.laid b s spelled a last q.answer q.buffer;
              rest = laid_rest p.laid b s spelled (n + a) (ap (n +◌) q.answer);
            })

-- A VALUE THAT IS COPIED WHOLE
pub copied_whole : {m : Manner} {x : Bool} {v out : List ℕ} → Fits m x v (units_by m v) (length out) → x ≡ true
    → {a : ℕ} {after : List ℕ} → Puts v out a after → PutBytes (units_by m v) out a after
copied_whole {m} {x} {v} {out} f h {a} {after} q =
    let e = kept_units m v (f.copied h) in
    let l : length v ≤ length out = omega (arith, f.room, ap length e) in
    rw e (put_all q l)

-- THE TEXT: the opening, the spelling, the mark
module _ {m : Manner} {x : Bool} {v : List ℕ} (d : List ℕ) (f : Fits m x v (text_by m v) (length d)) where
  opening_room : length (opening_by m) ≤ length d
  unfolding text_by
  opening_room = omega (arith, f.room, length-append (opening_by m) (units_by m v ++ (quote ∷ [])))

  pub opened : {o : List ℕ} → o ≡ opening_by m → {n : ℕ} {out : List ℕ} → Puts o d n out → PutBytes (opening_by m) d n out
  opened e p = put_all (rw e at p) opening_room

  text_is : text_by m v ≡ opening_by m ++ (units_by m v ++ (quote ∷ []))
  unfolding text_by
  text_is = refl

  module _ {n : ℕ} {out : List ℕ} (o : PutBytes (opening_by m) d n out) where
    pub opened_within : n ≤ length out
    opened_within = putting.opened_within (opening_by m) (units_by m v) (text_by m v) d text_is f.room o

    pub value_fits : Fits m x v (units_by m v) (length (take (length out - n) (drop n out)))
    value_fits = record {
      valid = f.valid;
      copied = f.copied;
      room = putting.opened_room (opening_by m) (units_by m v) (text_by m v) d text_is f.room o;
    }

    module _ {a : ℕ} {last : List ℕ} (q : PutBytes (units_by m v) (take (length out - n) (drop n out)) a last) where
      abbrev back : List ℕ
      back = take n out ++ (last ++ drop (length out - n) (drop n out))

      pub mark_inside : n + a < length back
      mark_inside = putting.mark_inside (opening_by m) (units_by m v) (text_by m v) d text_is f.room o q

      pub mark_fits : n + a + 1 ≤ length d
      mark_fits = putting.mark_fits (opening_by m) (units_by m v) (text_by m v) d text_is f.room o q

      pub text_put : PutBytes (text_by m v) d (n + a + 1) (set back (n + a) quote)
      text_put = putting.text_put (opening_by m) (units_by m v) (text_by m v) d text_is f.room o q

      pub text_same : length (set back (n + a) quote) ≡ length d
      text_same = putting.text_same (opening_by m) (units_by m v) (text_by m v) d text_is f.room o q
