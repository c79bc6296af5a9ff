-- With the setting on, a U& text with a UESCAPE clause does not cut completely: its keyword and its argument. So the joining law with the setting on is whole.
-- Assumes nothing.
use mathlib.Core.Logic.{◌⊎◌, inl, inr}
use mathlib.Core.Path.{◌≡◌, refl, ap, sym, ◌∙◌, subst}
use mathlib.Core.Bool.{Bool, true, false, ◌&&◌, ◌||◌, not}
use mathlib.Core.List.{List, [], ◌∷◌, ◌++◌, map, append_assoc}
use Prim.Native.Nat.{ℕ, zero, suc, ◌+◌, ◌-◌, ◌*◌, ◌<◌}
use Prim.Native.Char.{code}
use native.Mathlib.Nat.{zero-add, add-zero}
use native.Mathlib.Omega.{arith}
use lib.Dec.{eqb, ltb, leb, leb→le}
use borrow.Author.Tests.{eqb-true}
use lib.ListN.{length, take, drop, length-drop, take-append-drop, drop_of_length-le}
use lib.Seq.{split_at, drop-append-add, get_or-drop}
use Rattle.meaning.specs.declared.Settings.{Settings}
use Rattle.meaning.specs.Bytes.{◌!◌, has, same, ascii, is_mark, is_letter, is_decimal, within, quote, dquote, backslash, in_name, digit, part}
use Rattle.std.specs.Prelude.{if◌then◌else◌}
use Rattle.meaning.specs.Chars.{Due, due, broken, lead, gather, base, laters, is_space, space}
use Rattle.meaning.specs.Walk.{Trace, stopped, walk, size, stops, value}
use Rattle.meaning.specs.Steps.{closing_step, doubled, standard_step, gap, trim}
use Rattle.meaning.specs.Cutting.{complete, cut, opening, named, segment_at, segment, segment_step}
use Rattle.meaning.specs.Spelling.{legal_escape, is_one, upper, encloses, argument, argument_by}
use Rattle.meaning.specs.Reading.{meaning, means, read, written}
use Rattle.laws.proofs.basics.Tests.{true→T, eqb_sym, and_left, and_right, or_right}
use Rattle.laws.proofs.walking.Walks.{stop_at, stops_inside}
use Rattle.laws.proofs.joining.Parts.{is_quote}
use Rattle.laws.proofs.cutting.Gaps.{Solid, due_high}
use Rattle.laws.proofs.cutting.Openings.{apart_of_mark}
use Rattle.laws.proofs.cutting.ClauseStops.{Ok, Last, never}
use Rattle.laws.proofs.cutting.ClauseFacts.{Calm, AllQ, high_quiet, gap_quiet, last_take, last_append}
use Rattle.laws.proofs.cutting.UnicodeOn.{ClauseRefused, lone_mark, joining_on}
use Rattle.laws.proofs.joining.Joining.{White}

-- calm bytes are kept by the search for a mark
abbrev AllC : List ℕ → Type 0
AllC [] = Unit {0}
AllC (b ∷ t) = Calm b × AllC t

calm : (K : List ℕ) → AllQ K → AllC K
calm [] a = tt
calm (b ∷ K) a = (a.0.0, calm K a.1)

calm_walk : (q : ℕ) → is_mark q ≡ true → (K r : List ℕ) → AllC K
    → (stops (walk (closing_step true q) 0 (K ++ r)) ≡ stops (walk (closing_step true q) 0 r))
    × (size (walk (closing_step true q) 0 (K ++ r)) ≡ length K + size (walk (closing_step true q) 0 r))
calm_walk q m [] r a = (refl, omega arith)
calm_walk q m (b ∷ K) r a =
    let ih = calm_walk q m K r a.1 in
    rw (a.0.0, apart_of_mark q b m a.0.1) (ih.0, (let z = ih.1 in omega arith))

-- THE ARGUMENT: ' and one legal character and '
laters_quiet : (n : ℕ) (t : List ℕ) → laters n t ≡ true → AllQ t
laters_quiet zero [] h = tt
laters_quiet zero (b ∷ t) h = absurd (true→T false h)
laters_quiet (suc n) [] h = absurd (true→T false h)
laters_quiet (suc n) (b ∷ t) h =
    (high_quiet b (due_high 0x80 0xBF b refl (and_left (within 0x80 0xBF b) (laters n t) h)), laters_quiet n t (and_right (within 0x80 0xBF b) (laters n t) h))

no_quote : (t : List ℕ) → AllQ t → has quote t ≡ false
no_quote [] a = refl
no_quote (b ∷ t) a = rw (apart b a.0.0.1, no_quote t a.1)
  where
    apart : (b : ℕ) → is_mark b ≡ false → eqb quote b ≡ false
    apart b n = eqb_sym quote b ∙ apart_of_mark quote b is_quote n

raw_value : (t : List ℕ) → stops (walk (standard_step false quote) 0 t) ≡ false → has quote (value (walk (standard_step false quote) 0 t)) ≡ false
    → value (walk (standard_step false quote) 0 t) ≡ t
unfolding doubled
raw_value [] s n = refl
raw_value (b ∷ t) s n = go (eqb b quote) (eqb (t ! 0) quote) refl refl s n (raw_value t)
  where
    go : (x y : Bool) → eqb b quote ≡ x → eqb (t ! 0) quote ≡ y → stops (walk (standard_step false quote) 0 (b ∷ t)) ≡ false
        → has quote (value (walk (standard_step false quote) 0 (b ∷ t))) ≡ false
        → (stops (walk (standard_step false quote) 0 t) ≡ false → has quote (value (walk (standard_step false quote) 0 t)) ≡ false
        → value (walk (standard_step false quote) 0 t) ≡ t)
        → value (walk (standard_step false quote) 0 (b ∷ t)) ≡ b ∷ t
    go true true ex ey s n ih = let n' : true ≡ false = rw (ex, ey) at n in absurd (true→T false (sym n'))
    go true false ex ey s n ih = let s' : true ≡ false = rw (ex, ey) at s in absurd (true→T false (sym s'))
    go false y ex ey s n ih =
        let s' : stops (walk (standard_step false quote) 0 t) ≡ false = rw ex at s in
        let n' : (eqb quote b || has quote (value (walk (standard_step false quote) 0 t))) ≡ false = rw ex at n in
        rw ex (ap (b ∷◌) (ih s' (or_right (eqb quote b) (has quote (value (walk (standard_step false quote) 0 t))) n')))

pub record Legal (i : ℕ) (t : List ℕ) : Type 0 where
  pub n : ℕ
  pub lo : ℕ
  pub hi : ℕ
  pub leads : lead i ≡ due n lo hi
  pub later : laters n t ≡ true
  pub plain : is_mark i ≡ false
  pub tight : space (i ∷ t) ≡ 0

legal : (i : ℕ) (t : List ℕ) → legal_escape (i ∷ t) ≡ true → Legal i t
unfolding is_mark
legal i t h = go (lead i) refl (and_left (is_one (lead i) t) (ltb 15 (digit i)) h2)
  where
    h1 : (is_one (lead i) t && ltb 15 (digit i) && not (has i (ascii "+'\""))) ≡ true
    h1 = and_left (is_one (lead i) t && ltb 15 (digit i) && not (has i (ascii "+'\""))) (eqb (space (i ∷ t)) 0) h

    h2 : (is_one (lead i) t && ltb 15 (digit i)) ≡ true
    h2 = and_left (is_one (lead i) t && ltb 15 (digit i)) (not (has i (ascii "+'\""))) h1

    marks : (x y z : Bool) → not (x || (y || (z || false))) ≡ true → (y || (z || false)) ≡ false
    marks true y z g = absurd (true→T false g)
    marks false true z g = absurd (true→T false g)
    marks false false true g = absurd (true→T false g)
    marks false false false g = refl

    go : (d : Due) → lead i ≡ d → is_one (lead i) t ≡ true → Legal i t
    go broken l g = absurd (true→T false (rw l at g))
    go (due n lo hi) l g =
        record {
          n = n;
          lo = lo;
          hi = hi;
          leads = l;
          later = rw l at g;
          plain = marks (eqb i 43) (eqb i quote) (eqb i dquote) (and_right (is_one (lead i) t && ltb 15 (digit i)) (not (has i (ascii "+'\""))) h1);
          tight = eqb-true (space (i ∷ t)) 0 (and_right (is_one (lead i) t && ltb 15 (digit i) && not (has i (ascii "+'\""))) (eqb (space (i ∷ t)) 0) h);
        }

if_list : (x : Bool) (v : List ℕ) (c : ℕ) (e : List ℕ) → (if x then v else []) ≡ c ∷ e → (x ≡ true) × (v ≡ c ∷ e)
if_list true v c e h = (refl, h)
if_list false v c e h = absurd (let z : ◌≡◌ {A = ℕ} 0 1 = cc in omega arith)

pub record Arg (a : List ℕ) : Type 0 where
  pub i : ℕ
  pub t : List ℕ
  pub shape : a ≡ quote ∷ (i ∷ (t ++ (quote ∷ [])))
  pub fine : Legal i t

pub arg : (a : List ℕ) (c : ℕ) (e : List ℕ) → argument a ≡ c ∷ e → Arg a
unfolding argument encloses
arg a c e h = shaped a (if_list (encloses 0 quote a) (argument_by (walk (standard_step false quote) 0 (part 1 (length a - 1) a))) c e h)
  where
    body : (b : ℕ) (r : List ℕ) → b ≡ quote → (m : ℕ) → length r ≡ suc m → r ! m ≡ quote → (c : ℕ) (e : List ℕ)
        → argument_by (walk (standard_step false quote) 0 (take m r)) ≡ c ∷ e → Arg (b ∷ r)
    body b r eb m el em c e g =
        let p = if_list (not (stops (walk (standard_step false quote) 0 (take m r))) && legal_escape (value (walk (standard_step false quote) 0 (take m r))))
        (value (walk (standard_step false quote) 0 (take m r))) c e g in
        let st = flip (stops (walk (standard_step false quote) 0 (take m r)))
        (and_left (not (stops (walk (standard_step false quote) 0 (take m r)))) (legal_escape (value (walk (standard_step false quote) 0 (take m r)))) p.0) in
        let lg : legal_escape (c ∷ e) ≡ true =
        rw p.1 at (and_right (not (stops (walk (standard_step false quote) 0 (take m r))))
        (legal_escape (value (walk (standard_step false quote) 0 (take m r)))) p.0) in
        let f = legal c e lg in
        let nq : has quote (c ∷ e) ≡ false = rw (eqb_sym quote c ∙ apart_of_mark quote c is_quote f.plain, no_quote e (laters_quiet f.n e f.later)) in
        let rv : take m r ≡ c ∷ e = sym (raw_value (take m r) st (rw p.1 nq)) ∙ p.1 in
        let sp = split_at r m 0 (omega arith) in
        let dr : drop (suc m) r ≡ [] = drop_of_length-le r {i = suc m} (omega arith) in
        record {
          i = c;
          t = e;
          shape = ap (◌∷ r) eb
              ∙ ap (quote ∷◌) (sp ∙ ap (λ (x : List ℕ). x ++ (r ! m ∷ drop (suc m) r)) rv ∙ ap (λ (x : ℕ). c ∷ (e ++ (x ∷ drop (suc m) r))) em
              ∙ ap (λ (x : List ℕ). c ∷ (e ++ (quote ∷ x))) dr);
          fine = f;
        }
      where
        flip : (x : Bool) → not x ≡ true → x ≡ false
        flip true h = absurd (true→T false h)
        flip false h = refl

    shaped : (a : List ℕ) → (encloses 0 quote a ≡ true) × (argument_by (walk (standard_step false quote) 0 (part 1 (length a - 1) a)) ≡ c ∷ e) → Arg a
    shaped [] p = absurd (true→T false p.0)
    shaped (b ∷ []) p = absurd (true→T false p.0)
    shaped (b ∷ (d ∷ r)) p =
        let l = and_left (ltb 1 (length (b ∷ (d ∷ r))) && eqb b quote) (eqb ((b ∷ (d ∷ r)) ! (length (b ∷ (d ∷ r)) - 1)) quote) p.0 in
        let k = and_right (ltb 1 (length (b ∷ (d ∷ r))) && eqb b quote) (eqb ((b ∷ (d ∷ r)) ! (length (b ∷ (d ∷ r)) - 1)) quote) p.0 in
        let j : suc (suc (length r)) - 1 ≡ suc (length r) = omega arith in
        let j' : suc (suc (length r)) - 1 - 1 ≡ length r = omega arith in
        body b (d ∷ r) (eqb-true b quote (and_right (ltb 1 (length (b ∷ (d ∷ r)))) (eqb b quote) l)) (length r) refl
        (eqb-true ((d ∷ r) ! length r) quote (rw j at k)) c e (rw j' at p.1)

-- what the searches and the cut see in an argument ' i t '
module _ (i : ℕ) (t : List ℕ) (f : Legal i t) where
  quiet_t : AllQ t
  quiet_t = laters_quiet f.n t f.later

  not_q : eqb i quote ≡ false
  not_q = apart_of_mark quote i is_quote f.plain

  is_dquote : is_mark dquote ≡ true
  unfolding is_mark
  is_dquote = refl

  arg_single : walk (closing_step true quote) 0 (quote ∷ (i ∷ (t ++ (quote ∷ [])))) ≡ stopped
  unfolding doubled
  arg_single = rw not_q

  arg_double : stops (walk (closing_step true dquote) 0 (quote ∷ (i ∷ (t ++ (quote ∷ []))))) ≡ false
  unfolding doubled lead within
  arg_double = go (eqb i backslash) refl
    where
      empty : (r : List ℕ) → laters 0 r ≡ true → r ≡ []
      empty [] h = refl
      empty (b ∷ r) h = absurd (true→T false h)

      go : (x : Bool) → eqb i backslash ≡ x → stops (walk (closing_step true dquote) 0 (i ∷ (t ++ (quote ∷ [])))) ≡ false
      go true e =
          let l : lead 92 ≡ due f.n f.lo f.hi = ap lead (sym (eqb-true i backslash e)) ∙ f.leads in
          let z : f.n ≡ 0 = cc in
          let v : t ≡ [] = empty t (subst (λ (n : ℕ). laters n t ≡ true) z f.later) in
          rw (e, v)
      go false e = rw (e, apart_of_mark dquote i is_dquote f.plain) (calm_walk dquote is_dquote t (quote ∷ []) (calm t quiet_t)).0

  gather_more : (n lo hi v : ℕ) (s : List ℕ) → laters n s ≡ true → gather n lo hi v (s ++ (quote ∷ [])) ≡ gather n lo hi v s
  gather_more zero lo hi v s h = refl
  gather_more (suc n) lo hi v [] h = absurd (true→T false h)
  gather_more (suc n) lo hi v (b ∷ s) h =
      ap (λ (m : ℕ). if within lo hi b then m else 0) (gather_more n 0x80 0xBF (v * 64 + (b - 0x80)) s (and_right (within 0x80 0xBF b) (laters n s) h))

  arg_tight : gap (i ∷ (t ++ (quote ∷ []))) ≡ 0
  arg_tight =
      let s : space (i ∷ (t ++ (quote ∷ []))) ≡ 0 =
      rw (f.leads, gather_more f.n f.lo f.hi (i - base f.n) t f.later) (rw f.leads at f.tight) in
      rw s

  arg_none : (σ : Settings) → segment σ (i ∷ (t ++ (quote ∷ []))) ≡ 0
  unfolding segment named in_name is_letter is_decimal within is_mark
  arg_none σ = at t quiet_t
    where
      at : (s : List ℕ) → AllQ s → segment σ (i ∷ (s ++ (quote ∷ []))) ≡ 0
      at [] a = rw f.plain (go (has i (ascii "EeNnBbXx")) (has i (ascii "Uu")) (eqb i (code "_")))
        where
          go : (x y z : Bool) → segment_at σ (i ∷ (quote ∷ [])) (if x then 2 else if y then 0 else if z then 0 else 0) ≡ 0
          go true y z = refl
          go false true z = refl
          go false false true = refl
          go false false false = refl
      at (b ∷ s) a =
          rw (f.plain, apart_of_mark quote b is_quote a.0.0.1, a.0.1.2, a.0.1.1)
          (go (has i (ascii "EeNnBbXx")) (has i (ascii "Uu")) (eqb i (code "_")))
        where
          go : (x y z : Bool) → segment_at σ (i ∷ (b ∷ (s ++ (quote ∷ [])))) (if x then 0 else if y then 0 else if z then 0 else 0) ≡ 0
          go true y z = refl
          go false true z = refl
          go false false true = refl
          go false false false = refl

-- THE KEYWORD
upper_inv : (b l : ℕ) → eqb (upper b) l ≡ true → (b ≡ l) ⊎ (b ≡ l + 32)
unfolding upper within
upper_inv b l h = go (leb 97 b) (leb b 122) refl (eqb-true (upper b) l h)
  where
    go : (x y : Bool) → leb 97 b ≡ x → (if x && y then b - 32 else b) ≡ l → (b ≡ l) ⊎ (b ≡ l + 32)
    go true true ex g = let p = leb→le 97 b (true→T (leb 97 b) ex) in inr (omega arith)
    go true false ex g = inl g
    go false y ex g = inl g

either : (P : ℕ → Type 0) (b l : ℕ) → P l → P (l + 32) → eqb (upper b) l ≡ true → P b
either P b l p q h = go (upper_inv b l h)
  where
    go : (b ≡ l) ⊎ (b ≡ l + 32) → P b
    go (inl e) = subst P (sym e) p
    go (inr e) = subst P (sym e) q

abbrev Letters : List ℕ → Type 0
Letters [] = Unit {0}
Letters (l ∷ w) = (Calm l × Calm (l + 32)) × Letters w

word_calm : (w t : List ℕ) → Letters w → same (map upper t) w ≡ true → AllC t
word_calm [] [] a h = tt
word_calm [] (b ∷ t) a h = absurd (true→T false h)
word_calm (l ∷ w) [] a h = tt
word_calm (l ∷ w) (b ∷ t) a h = (
  either Calm b l a.0.0 a.0.1 (and_left (eqb (upper b) l) (same (map upper t) w) h),
  word_calm w t a.1 (and_right (eqb (upper b) l) (same (map upper t) w) h),
)

uescape_letters : Letters (ascii "UESCAPE")
unfolding is_mark
uescape_letters = (
  ((refl, refl), (refl, refl)),
  (
    ((refl, refl), (refl, refl)),
    (
      ((refl, refl), (refl, refl)),
      (((refl, refl), (refl, refl)), (((refl, refl), (refl, refl)), (((refl, refl), (refl, refl)), (((refl, refl), (refl, refl)), tt)))),
    ),
  ),
)

abbrev First : ℕ → Type 0
First y = Solid y × (leb 0x80 y ≡ false) × (is_mark y ≡ false) × (eqb y (code "&") ≡ false)

first_facts : (y : ℕ) → eqb (upper y) (code "U") ≡ true → First y
unfolding is_mark lead within is_space
first_facts y h = either First y 85 ((λ t. refl), refl, refl, refl) ((λ t. refl), refl, refl, refl) h

shut_facts : (y : ℕ) (z : List ℕ) → eqb (upper y) (code "U") ≡ true → same (map upper (take 6 z)) (ascii "ESCAPE") ≡ true → opening (y ∷ z) ≡ 0
unfolding is_mark
shut_facts y [] h g = absurd (true→T false g)
shut_facts y (l ∷ z) h g =
    either (λ y. opening (y ∷ (l ∷ z)) ≡ 0) y 85
    (either (λ l. opening (85 ∷ (l ∷ z)) ≡ 0) l 69 refl refl (and_left (eqb (upper l) 69) (same (map upper (take 5 z)) (ascii "SCAPE")) g))
    (either (λ l. opening (117 ∷ (l ∷ z)) ≡ 0) l 69 refl refl (and_left (eqb (upper l) 69) (same (map upper (take 5 z)) (ascii "SCAPE")) g)) h

ok_quote : Ok quote
unfolding in_name is_letter is_decimal within
ok_quote = (refl, refl, refl)

-- a text K7 W ' i t ', calm up to its first quote
module _ (K W : List ℕ) (ck : AllC K) (cw : AllC W) (i : ℕ) (t : List ℕ) (f : Legal i t) where
  tail_of : List ℕ
  tail_of = quote ∷ (i ∷ (t ++ (quote ∷ [])))

  both_walks : (q : ℕ) → is_mark q ≡ true
      → (stops (walk (closing_step true q) 0 (K ++ (W ++ tail_of))) ≡ stops (walk (closing_step true q) 0 tail_of))
      × (size (walk (closing_step true q) 0 (K ++ (W ++ tail_of))) ≡ length K + (length W + size (walk (closing_step true q) 0 tail_of)))
  both_walks q m =
      let x = calm_walk q m K (W ++ tail_of) ck in
      let y = calm_walk q m W tail_of cw in
      (x.0 ∙ y.0, x.1 ∙ ap (length K +◌) y.1)

  single_of : (stops (walk (closing_step true quote) 0 (K ++ (W ++ tail_of))) ≡ true)
      × (size (walk (closing_step true quote) 0 (K ++ (W ++ tail_of))) ≡ length K + length W)
  unfolding tail_of
  single_of =
      let b = both_walks quote is_quote in
      let s = arg_single i t f in
      (b.0 ∙ ap stops s, b.1 ∙ ap (λ (r : Trace). length K + (length W + size r)) s ∙ omega arith)

  double_of : stops (walk (closing_step true dquote) 0 (K ++ (W ++ tail_of))) ≡ false
  unfolding tail_of
  double_of = (both_walks dquote (is_dquote i t f)).0 ∙ arg_double i t f

  rest_of : drop (suc (length K + length W)) (K ++ (W ++ tail_of)) ≡ i ∷ (t ++ (quote ∷ []))
  unfolding tail_of
  rest_of =
      let e : suc (length K + length W) ≡ length K + (length W + 1) = omega arith in
      rw (e, drop-append-add K (W ++ tail_of) (length W + 1)) (drop-append-add W tail_of 1)

pub clause_refused : (σ : Settings) → σ.backslash ≡ true → ClauseRefused σ
unfolding cut tail_of
clause_refused σ on b t u full st y z d c e ch =
    let p = if_list (same (map upper (take 7 (y ∷ z))) (ascii "UESCAPE")) (argument (trim (drop 7 (y ∷ z)))) c e ch in
    let hy = and_left (eqb (upper y) 85) (same (map upper (take 6 z)) (ascii "ESCAPE")) p.0 in
    let hz = and_right (eqb (upper y) 85) (same (map upper (take 6 z)) (ascii "ESCAPE")) p.0 in
    let ar = arg (trim (drop 7 (y ∷ z))) c e p.1 in
    let K : List ℕ = take 7 (y ∷ z) in
    let r : List ℕ = drop 7 (y ∷ z) in
    let W : List ℕ = take (gap r) r in
    let ck : AllC K = word_calm (ascii "UESCAPE") K uescape_letters p.0 in
    let cw : AllC W = calm W (gap_quiet 0 r tt (gap r) (zero-add (gap r))) in
    let eq : K ++ (W ++ (quote ∷ (ar.i ∷ (ar.t ++ (quote ∷ []))))) ≡ y ∷ z =
    ap (λ (a : List ℕ). K ++ (W ++ a)) (sym ar.shape) ∙ ap (K ++◌) (take-append-drop (gap r) r) ∙ take-append-drop 7 (y ∷ z) in
    finish (first_facts y hy) (shut_facts y z hy hz) (length K + length W) ar.i ar.t ar.fine
    (subst (λ (x : List ℕ). (stops (walk (closing_step true quote) 0 x) ≡ true)
    × (size (walk (closing_step true quote) 0 x) ≡ length K + length W)) eq (single_of K W ck cw ar.i ar.t ar.fine))
    (subst (λ (x : List ℕ). stops (walk (closing_step true dquote) 0 x) ≡ false) eq (double_of K W ck cw ar.i ar.t ar.fine))
    (subst (λ (x : List ℕ). drop (suc (length K + length W)) x ≡ ar.i ∷ (ar.t ++ (quote ∷ []))) eq (rest_of K W ck cw ar.i ar.t ar.fine))
  where
    n : ℕ
    n = size (walk (closing_step false quote) 0 (drop 2 t))

    D : List ℕ
    D = drop (4 + n) (b ∷ t)

    Y : List ℕ
    Y = take (4 + n) (b ∷ t) ++ take (gap D) D

    covers : Y ++ (y ∷ z) ≡ b ∷ t
    covers =
        append_assoc (take (4 + n) (b ∷ t)) (take (gap D) D) (y ∷ z)
        ∙ ap (λ (x : List ℕ). take (4 + n) (b ∷ t) ++ (take (gap D) D ++ x)) (sym d)
        ∙ ap (take (4 + n) (b ∷ t) ++◌) (take-append-drop (gap D) D)
        ∙ take-append-drop (4 + n) (b ∷ t)

    mark_at : (b ∷ t) ! (3 + n) ≡ quote
    mark_at =
        let s = stop_at (closing_step false quote) 0 (drop 2 t) (true→T _ st) n (zero-add n) in
        let l = lone_mark true s.0 s.1 s.3 in
        sym (get_or-drop 3 (b ∷ t) n 0) ∙ ap (λ (m : ℕ). drop 2 t ! m) (sym (add-zero n)) ∙ sym (get_or-drop n (drop 2 t) 0 0) ∙ ap (◌! 0) s.2 ∙ l.0

    last_Y : Last Y
    last_Y =
        let i = stops_inside (closing_step false quote) 0 (drop 2 t) (true→T _ st) in
        let e : 4 + n ≡ suc (3 + n) = omega arith in
        last_append (take (4 + n) (b ∷ t)) (take (gap D) D)
        (rw e (last_take (3 + n) (b ∷ t) (omega (arith, length-drop 2 t)) (subst Ok (sym mark_at) ok_quote)))
        (gap_quiet 0 D tt (gap D) (zero-add (gap D)))

    finish : First y → opening (y ∷ z) ≡ 0 → (k i : ℕ) (t' : List ℕ) → Legal i t'
        → (stops (walk (closing_step true quote) 0 (y ∷ z)) ≡ true) × (size (walk (closing_step true quote) 0 (y ∷ z)) ≡ k)
        → stops (walk (closing_step true dquote) 0 (y ∷ z)) ≡ false → drop (suc k) (y ∷ z) ≡ i ∷ (t' ++ (quote ∷ [])) → ⊥
    finish f o k i t' g s1 s2 rest =
        let v =
        never σ on y z f.0 f.1 f.2 f.3 o k s1 s2 i (t' ++ (quote ∷ [])) rest (arg_tight i t' g) (arg_none i t' g σ) 0 Y last_Y (omega arith) in
        true→T false (sym full ∙ ap (λ (x : List ℕ). stops (walk (segment_step σ) 0 x)) (sym covers) ∙ v)

-- THE JOINING LAW with the setting on, whole
pub joining_on_whole : (σ : Settings) → σ.backslash ≡ true → (A G B v w : List ℕ)
    → complete σ A ≡ true → meaning σ A ≡ means v
    → complete σ B ≡ true → meaning σ B ≡ means w → is_mark (B ! 0) ≡ true
    → White G → 0 < length G
    → read σ (A ++ (G ++ B)) ≡ written (v ++ w)
joining_on_whole σ on = joining_on σ on (clause_refused σ on)
