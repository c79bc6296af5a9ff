-- A segment that is read from a text: by its opening, its family's walk, and the mark that stands alone. Assumes nothing.
use mathlib.Core.Path.{◌≡◌, refl, ap, ap₂, sym, ◌∙◌, subst}
use mathlib.Core.Bool.{Bool, true, false, ◌&&◌, ◌||◌, not, false≢true}
use borrow.Author.Tests.{eqb-true, not-false}
use mathlib.Core.List.{List, [], ◌∷◌}
use Prim.Native.Nat.{ℕ, zero, suc, ◌+◌, ◌-◌, ◌≤◌, ◌<◌}
use native.Mathlib.Omega.{arith}
use lib.Dec.{eqb}
use lib.ListN.{length, take, drop, length-drop, take-append-drop}
use lib.Seq.{drop-cons, drop-drop, get_or-drop}
use Rattle.meaning.specs.declared.Settings.{Settings}
use Rattle.meaning.specs.Bytes.{◌!◌, ascii, has, is_mark, quote}
use Rattle.std.specs.Prelude.{if◌then◌else◌}
use Rattle.meaning.specs.Chars.{utf8}
use Rattle.meaning.specs.Steps.{gap, standard_step}
use Rattle.meaning.specs.Cutting.{opening}
use Rattle.laws.proofs.basics.Lists.{part_tail}
use Rattle.laws.proofs.basics.Tests.{and_left, and_right, or_right}
use Rattle.laws.proofs.basics.Enclosed.{has_append}
use Rattle.laws.proofs.utf8.Abreast.{Abreast, abreast_body}
use Rattle.laws.proofs.walking.Fronts.{Front}
use Rattle.laws.proofs.cutting.Gaps.{gap_fits, has_all}
use Rattle.laws.proofs.cutting.Openings.{mark_inside, opening_mark}
use Rattle.laws.proofs.cutting.Spelled.{mark_escape, mark_unicode}
use Rattle.laws.proofs.cutting.Fronted.{Lone, Segmented, fronted_standard, fronted_escape, fronted_unicode}
use Rattle.cutting.specs.declared.marks.Mark.{Mark}
use Rattle.cutting.specs.declared.marks.Mark.TheVariants.{Quote}
use Rattle.cutting.specs.Marks.{mark_of}
use Rattle.escapes.specs.declared.units.Family.{Family}
use Rattle.escapes.specs.declared.units.Family.TheVariants.{Standard, Escape, Unicode}
use Rattle.escapes.specs.Families.{checks}
use Rattle.strings.specs.declared.chunks.End.TheVariants.{Closed}
use Rattle.strings.specs.declared.storing.Store.{Store}
use Rattle.strings.specs.declared.storing.Body.{Body}
use Rattle.strings.specs.declared.quick.Segment.{Segment}
use Rattle.strings.specs.Quick.{step_by, mark_by}
use Rattle.strings.specs.Storing.{ReadsBody}
use Rattle.strings.specs.declared.quick.Opened.{Opened}
use Rattle.strings.specs.Driving.{family_by, is_bits, Opening, Opens, closed_by, Closes, SegmentRead, ReadsSegment}

-- what was passed over holds no NUL either
none_behind : (b : ℕ) (t : List ℕ) (i : ℕ) → has b t ≡ false → has b (drop i t) ≡ false
none_behind b t i h =
    or_right (has b (take i t)) (has b (drop i t)) (sym (has_append b (take i t) (drop i t)) ∙ ap (has b) (take-append-drop i t) ∙ h)

other_letter : (b : ℕ) → has b (ascii "Ee") ≡ false → is_bits b ≡ false → has b (ascii "Uu") ≡ false → has b (ascii "EeBbXxUu") ≡ false
other_letter b e x u =
    has_append b (ascii "Ee") (ascii "BbXxUu") ∙ ap₂ (λ (p q : Bool). p || q) e (has_append b (ascii "BbXx") (ascii "Uu") ∙ ap₂ (λ (p q : Bool). p || q) x u)

module _ (σ : Settings) (t : List ℕ) (at n k : ℕ) (v : List ℕ) (p : Bool) (m : Mark) (z : has 0 t ≡ false) (u8 : utf8 t ≡ true) (h : at ≤ length t)
    (o : opening (drop at t) ≡ suc n) (bits : is_bits (t ! at) ≡ false) (is : mark_of m ≡ t ! (at + n)) where
  abbrev u : List ℕ
  u = drop at t

  first : u ! 0 ≡ t ! at
  first = let e : at + 0 ≡ at = omega arith in get_or-drop at t 0 0 ∙ ap (t !◌) e

  mark_place : u ! n ≡ t ! (at + n)
  mark_place = get_or-drop at t n 0

  mark_is : mark_of m ≡ u ! n
  mark_is = is ∙ sym mark_place

  rest : drop (suc n) u ≡ drop (suc (at + n)) t
  rest = let e : at + suc n ≡ suc (at + n) = omega arith in drop-drop (suc n) at t ∙ ap (λ (i : ℕ). drop i t) e

  behind : {q : ℕ} → u ! n ≡ q → Lone (drop (suc n) u) k q → Lone (drop (suc n) u) k (u ! n)
  behind e l = subst (λ (x : ℕ). Lone (drop (suc n) u) k x) (sym e) l

  segmented_by : Front (step_by (family_by σ (t ! at) m)) (drop (suc n) u) k v p → (checks (family_by σ (t ! at) m) ≡ true → Abreast (take k (drop (suc n) u)) v)
      → Lone (drop (suc n) u) k (mark_by (family_by σ (t ! at) m)) → Segmented σ u (suc n) k v p
  segmented_by f a l = go (has (t ! at) (ascii "Ee")) (has (t ! at) (ascii "Uu")) refl refl f l
    where
      go : (x y : Bool) → has (t ! at) (ascii "Ee") ≡ x → has (t ! at) (ascii "Uu") ≡ y
          → Front (step_by (if x then Escape else if y then Unicode Quote else Standard m σ.backslash)) (drop (suc n) u) k v p
          → Lone (drop (suc n) u) k (mark_by (if x then Escape else if y then Unicode Quote else Standard m σ.backslash))
          → Segmented σ u (suc n) k v p
      go true y ex ey f l =
          let e : has (u ! 0) (ascii "Ee") ≡ true = ap (λ (b : ℕ). has b (ascii "Ee")) first ∙ ex in
          let q = mark_escape u n o e in
          let i : at + n < length t = omega (arith, l.inside, length-drop (suc n) u, length-drop at t) in
          let w : utf8 v ≡ true = abreast_body t (at + n) k quote v (omega arith) u8 i (sym mark_place ∙ q)
          (subst (λ (y : List ℕ). k < length y) rest l.inside) (ap (◌! k) (sym rest) ∙ l.here)
          (subst (λ (y : List ℕ). Abreast (take k y) v) rest (a (rw ex))) in
          fronted_escape σ u n k v p o (none_behind 0 t at z) (behind q l) e w f
      go false true ex ey f l =
          let e : has (u ! 0) (ascii "Uu") ≡ true = ap (λ (b : ℕ). has b (ascii "Uu")) first ∙ ey in
          fronted_unicode σ u n k v p o (none_behind 0 t at z) (behind (mark_unicode u n o e) l) e (ap (λ (b : ℕ). has b (ascii "Ee")) first ∙ ex) f
      go false false ex ey f l =
          let e = ap (λ (b : ℕ). has b (ascii "Ee")) first ∙ ex in
          fronted_standard σ u n k v p o (none_behind 0 t at z) (behind (sym mark_is) l)
          (other_letter (u ! 0) e (ap is_bits first ∙ bits) (ap (λ (b : ℕ). has b (ascii "Uu")) first ∙ ey)) e
          (subst (λ (x : ℕ). Front (standard_step σ.backslash x) (drop (suc n) u) k v p) mark_is f)

-- OPENINGS
-- E or N, and a quote mark
abbrev Lettered : ℕ → Type 0
Lettered b = ((l : List ℕ) → l ! 0 ≡ 39 → opening (b ∷ l) ≡ 2) × (is_bits b ≡ false)

lettered : (b : ℕ) → has b (ascii "EeNn") ≡ true → Lettered b
unfolding is_mark
lettered b = has_all Lettered b (ascii "EeNn") (go, (go, (go, (go, tt))))
  where
    go : Lettered 69
    go = ((λ l q. rw q), refl)

lettered_opening : (l : List ℕ) → has (l ! 0) (ascii "EeNn") ≡ true → l ! 1 ≡ 39 → opening l ≡ 2
lettered_opening [] h q = absurd (false≢true h)
lettered_opening (b ∷ l) h q = (lettered b h).0 l q

pub opening_some : (at len : ℕ) (bits : Bool) → (eqb len 0 || bits) ≡ false → 1 ≤ at + len
opening_some at zero bits x = absurd (false≢true (sym x))
opening_some at (suc n) bits x = omega arith

module _ (σ : Settings) (t : List ℕ) (at : ℕ) where
  pub opens_none : (r : Opened) → r.known ≡ false → Opens σ t at r
  opens_none r e = record { opens = λ h. absurd (false≢true (sym e ∙ h)) }

  -- a quote mark alone
  pub opens_quote : (b : ℕ) → b ≡ t ! at → b ≡ 39 → Opens σ t at (record { known = true; from = at + 1; family = Standard Quote σ.backslash })
  unfolding is_mark
  opens_quote b eb e =
      let q : t ! at ≡ 39 = sym eb ∙ e in
      let i : at < length t = mark_inside t at (ap is_mark q) in
      let here : at + 0 ≡ at = omega arith in
      record {
        opens = λ k. record {
          n = 0;
          m = Quote;
          is = ap opening (drop-cons t at 0 i ∙ ap (◌∷ drop (suc at) t) q);
          from = refl;
          inside = omega arith;
          mark = sym (ap (t !◌) here ∙ q);
          family = sym (ap (λ (y : ℕ). family_by σ y Quote) q);
          bits = ap is_bits q;
        };
      }

  pub opening_room : (len : ℕ) → at ≤ length t → len ≡ opening (take (length t - at) (drop at t)) → at + len ≤ length t
  opening_room zero h e = omega arith
  opening_room (suc n) h e =
      let o : opening (drop at t) ≡ suc n = sym (e ∙ ap opening (part_tail t at)) in
      omega (arith, mark_inside (drop at t) n (opening_mark (drop at t) n o), length-drop at t)

  pub opens_one : (len b c : ℕ) (bits : Bool) (m : Mark) (f : Family) → at ≤ length t → len ≡ opening (take (length t - at) (drop at t)) → b ≡ t ! at
      → bits ≡ is_bits b → (eqb len 0 || bits) ≡ false → c ≡ t ! (at + len - 1) → (is_mark c ≡ true → mark_of m ≡ c) → f ≡ family_by σ b m
      → Opens σ t at (record { known = true; from = at + len; family = f })
  opens_one len b c bits m f h e eb ebits x ec is ef = record { opens = λ k. go len e x ec }
    where
      go : (len : ℕ) → len ≡ opening (take (length t - at) (drop at t)) → (eqb len 0 || bits) ≡ false → c ≡ t ! (at + len - 1)
          → Opening σ t at (record { known = true; from = at + len; family = f })
      go zero e x ec = absurd (false≢true (sym x))
      go (suc n) e x ec =
          let o : opening (drop at t) ≡ suc n = sym (e ∙ ap opening (part_tail t at)) in
          let i : at + suc n - 1 ≡ at + n = omega arith in
          let mk = opening_mark (drop at t) n o in
          let pl : drop at t ! n ≡ c = get_or-drop at t n 0 ∙ sym (ec ∙ ap (t !◌) i) in
          record {
            n = n;
            m = m;
            is = o;
            from = refl;
            inside = opening_room (suc n) h e;
            mark = is (ap is_mark (sym pl) ∙ mk) ∙ ec ∙ ap (t !◌) i;
            family = ef ∙ ap (λ (y : ℕ). family_by σ y m) eb;
            bits = ap is_bits (sym eb) ∙ sym ebits ∙ or_right (eqb (suc n) 0) bits x;
          }

  -- E or N, and a quote mark
  pub opens_letter : (b c : ℕ) (l : Bool) (f : Family) → at ≤ length t → b ≡ t ! at → c ≡ t ! (at + 1) → l ≡ has b (ascii "EeNn") → (eqb c 39 && l) ≡ true
      → f ≡ family_by σ b Quote → Opens σ t at (record { known = true; from = at + 2; family = f })
  opens_letter b c l f h eb ec el x ef =
      let y : has b (ascii "EeNn") ≡ true = sym el ∙ and_right (eqb c 39) l x in
      let q : t ! (at + 1) ≡ 39 = sym ec ∙ eqb-true c 39 (and_left (eqb c 39) l x) in
      let z : at + 0 ≡ at = omega arith in
      let i : at + 2 - 1 ≡ at + 1 = omega arith in
      let o = lettered_opening (drop at t) (ap (λ (d : ℕ). has d (ascii "EeNn")) (get_or-drop at t 0 0 ∙ ap (t !◌) z ∙ sym eb) ∙ y) (get_or-drop at t 1 0 ∙ q) in
      opens_one 2 b 39 false Quote f h (sym (ap opening (part_tail t at) ∙ o)) eb (sym (lettered b y).1) refl (sym (ap (t !◌) i ∙ q)) (λ m. refl) ef

-- CLOSING
pub next_room : (t : List ℕ) (f : ℕ) (b : Body) (g : ℕ) → (b.end ≡ Closed → f + b.at < length t) → b.end ≡ Closed → g ≡ gap (drop (f + b.at + 1) t)
    → f + b.at + 1 + g ≤ length t
next_room t f b g h c e = omega (arith, h c, gap_fits (drop (f + b.at + 1) t), length-drop (f + b.at + 1) t)

pub closes_one : (t : List ℕ) (f : ℕ) (b : Body) (g : ℕ) → b.end ≡ Closed → g ≡ gap (drop (f + b.at + 1) t) → Closes t f b (closed_by f b g)
closes_one t f b g e eg = record { closed = λ h. (e, ap (closed_by f b) eg) }

pub closes_none : (t : List ℕ) (f : ℕ) (b : Body) (r : Segment) → r.read ≡ false → Closes t f b r
closes_none t f b r e = record { closed = λ h. absurd (false≢true (sym e ∙ h)) }

module _ (σ : Settings) (t : List ℕ) (at : ℕ) (s : Store) (chunk out : List ℕ) where
  pub segment_none : (r : Segment) → r.read ≡ false → ReadsSegment σ t at s chunk out r chunk out
  segment_none r e = record { chunk_same = refl; out_same = refl; reads = λ h. absurd (false≢true (sym e ∙ h)) }

  pub opens_inside : (op : Opened) → Opens σ t at op → not op.known ≡ false → op.from ≤ length t
  opens_inside op os known = (os.opens (not-false op.known known)).inside

  module _ (op : Opened) (b : Body) (chunk' out' : List ℕ) (os : Opens σ t at op) (known : not op.known ≡ false)
      (rb : ReadsBody op.family (take (length t - op.from) (drop op.from t)) s chunk out b chunk' out') where
    x : Opening σ t at op
    x = os.opens (not-false op.known known)

    body : take (length t - op.from) (drop op.from t) ≡ drop (suc x.n) (drop at t)
    body = part_tail t op.from ∙ ap (λ (i : ℕ). drop i t) x.from ∙ sym (drop-drop (suc x.n) at t)

    r : ReadsBody (family_by σ (t ! at) x.m) (drop (suc x.n) (drop at t)) s chunk out b chunk' out'
    r = subst (λ (y : List ℕ). ReadsBody (family_by σ (t ! at) x.m) y s chunk out b chunk' out') body
        (subst (λ (f : Family). ReadsBody f (take (length t - op.from) (drop op.from t)) s chunk out b chunk' out') x.family rb)

    lengths : length (drop (suc x.n) (drop at t)) ≡ length t - op.from
    lengths = length-drop (suc x.n) (drop at t) ∙ omega (arith, length-drop at t, x.from)

    pub body_within : op.from + b.at ≤ length t
    body_within = omega (arith, r.reading.inside, lengths, x.inside)

    pub body_before : b.end ≡ Closed → op.from + b.at < length t
    body_before e = omega (arith, (r.closed e).inside, lengths, x.inside)

    pub segment_reads : has 0 t ≡ false → utf8 t ≡ true → at ≤ length t → s.total + s.n ≤ at → (g : Segment) → Closes t op.from b g
        → ReadsSegment σ t at s chunk out g chunk' out'
    segment_reads z u8 h room g c = record {
      chunk_same = r.reading.chunk_same;
      out_same = r.reading.out_same;
      reads = λ e. subst (λ (y : Segment). SegmentRead σ t at s chunk out y chunk' out') (sym (c.closed e).1) (read (c.closed e).0);
    }
      where
        read : b.end ≡ Closed → SegmentRead σ t at s chunk out (closed_by op.from b (gap (drop (op.from + b.at + 1) t))) chunk' out'
        read closed =
            let l = r.closed closed in
            let gp = gap_fits (drop (op.from + b.at + 1) t) in
            record {
              o = suc x.n;
              k = b.at;
              v = r.reading.v;
              segmented = segmented_by σ t at x.n b.at r.reading.v b.plain x.m z u8 h x.is x.bits x.mark r.reading.front
                  r.reading.abreast l;
              begins = x.from;
              ends = omega (arith, x.from);
              passes = refl;
              inside = omega (arith, body_before closed, gp, length-drop (op.from + b.at + 1) t);
              stores = r.reading.stores;
              sum = omega (arith, r.reading.sum, room, x.from);
              few = r.reading.few;
              goes = omega (arith, x.from);
            }
