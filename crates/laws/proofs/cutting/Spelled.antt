-- What a segment means when it is read alone, by its opening, once its closing mark is known. Assumes nothing.
use mathlib.Core.Path.{◌≡◌, refl, ap, sym, ◌∙◌, subst}
use mathlib.Core.Bool.{Bool, true, false, ◌&&◌, or-false, or-true, and-false, false≢true}
use mathlib.Core.List.{List, [], ◌∷◌}
use Prim.Native.Nat.{ℕ, suc, ◌+◌, ◌-◌, ◌≤◌, ◌<◌}
use Prim.Native.Char.{code}
use native.Mathlib.Nat.{add-zero, zero-add}
use native.Mathlib.Omega.{arith}
use lib.Dec.{eqb}
use borrow.Author.Tests.{eqb-true, lt-ltb}
use lib.ListN.{length, take, drop, drop_of_length-le, take-append-drop}
use lib.Seq.{length-take-le, get_or-take, get_or-drop, drop-drop, drop_at, take-add, take-take}
use Rattle.meaning.specs.declared.Settings.{Settings}
use Rattle.meaning.specs.Bytes.{◌!◌, part, has, ascii, is_mark, in_name, span, quote, dquote, backslash}
use Rattle.std.specs.Prelude.{if◌then◌else◌}
use Rattle.meaning.specs.Chars.{fresh}
use Rattle.meaning.specs.Walk.{keep, give, stop, walk, size, stops}
use Rattle.meaning.specs.Steps.{standard_step, escape_step, unicode_step, closing_step, doubled, checked, trim}
use Rattle.meaning.specs.Cutting.{opening, hides, segment, continues, off}
use Rattle.meaning.specs.Spelling.{Spelling, standard, escape, unicode, spelling, encloses, is_unicode, unicode_spelling}
use Rattle.meaning.specs.Reading.{answer, one, read, read_as}
use Rattle.laws.proofs.basics.Tests.{true→T, if_suc, and_left, and_right, or_left, eqb_same}
use Rattle.laws.proofs.basics.Enclosed.{has_append}
use Rattle.laws.proofs.walking.Walks.{stop_at}
use Rattle.laws.proofs.walking.Courses.{Goes}
use Rattle.laws.proofs.cutting.Gaps.{has_all}
use Rattle.laws.proofs.cutting.Openings.{Opens, by_mark, by_letter, by_unicode, by_name, opens, segment_fits}
use Rattle.laws.proofs.cutting.Alone.{opening_back, segment_alone}
use Rattle.laws.proofs.cutting.UnicodeOff.{closes_u}
use Rattle.laws.proofs.writing.Written.{lone}

-- WHAT THE FIRST BYTE DECIDES: whether a backslash hides
pub hides_escape : (σ : Settings) (u : List ℕ) → has (u ! 0) (ascii "Ee") ≡ true → hides σ u ≡ true
hides_escape σ u h = rw h (or-true σ.backslash)

pub hides_other : (σ : Settings) (u : List ℕ) → has (u ! 0) (ascii "Ee") ≡ false → hides σ u ≡ σ.backslash
hides_other σ u h = rw h (or-false σ.backslash)

-- E and U& open with ', so the mark is a quote
module _ (t : List ℕ) (n : ℕ) where
  abbrev OpensE : ℕ → Type 0
  OpensE b = opening (b ∷ t) ≡ suc n → (n ≡ 1) × (eqb (t ! 0) quote ≡ true)

  abbrev OpensU : ℕ → Type 0
  OpensU b = opening (b ∷ t) ≡ suc n → (n ≡ 2) × (eqb (t ! 0) (code "&") ≡ true) × (eqb (t ! 1) quote ≡ true)

  opens_e : (b : ℕ) → has b (ascii "Ee") ≡ true → OpensE b
  unfolding is_mark
  opens_e b h = has_all OpensE b (ascii "Ee") (go, (go, tt)) h
    where
      go : (if eqb (t ! 0) quote then 2 else 0) ≡ suc n → (n ≡ 1) × (eqb (t ! 0) quote ≡ true)
      go e = let p = if_suc (eqb (t ! 0) quote) 2 n e in let i = p.1 in (omega arith, p.0)

  opens_u : (b : ℕ) → has b (ascii "Uu") ≡ true → OpensU b
  unfolding is_mark
  opens_u b h = has_all OpensU b (ascii "Uu") (go, (go, tt)) h
    where
      go : (if eqb (t ! 0) (code "&") && eqb (t ! 1) quote then 3 else 0) ≡ suc n
          → (n ≡ 2) × (eqb (t ! 0) (code "&") ≡ true) × (eqb (t ! 1) quote ≡ true)
      go e =
          let p = if_suc (eqb (t ! 0) (code "&") && eqb (t ! 1) quote) 3 n e in let i = p.1 in
          (omega arith, and_left (eqb (t ! 0) (code "&")) (eqb (t ! 1) quote) p.0, and_right (eqb (t ! 0) (code "&")) (eqb (t ! 1) quote) p.0)

pub mark_escape : (u : List ℕ) (n : ℕ) → opening u ≡ suc n → has (u ! 0) (ascii "Ee") ≡ true → u ! n ≡ quote
mark_escape [] n o h = absurd (omega arith)
mark_escape (b ∷ t) n o h = let p = opens_e t n b h o in rw p.0 (eqb-true (t ! 0) quote p.1)

pub mark_unicode : (u : List ℕ) (n : ℕ) → opening u ≡ suc n → has (u ! 0) (ascii "Uu") ≡ true → u ! n ≡ quote
mark_unicode [] n o h = absurd (omega arith)
mark_unicode (b ∷ t) n o h = let p = opens_u t n b h o in rw p.0 (eqb-true (t ! 1) quote p.2)

-- HOW A TEXT IS SPELLED that ends with the mark of its opening
other : {A : Type 0} → true ≡ false → A
other x = absurd (false≢true (sym x))

module _ (t : List ℕ) where
  -- a text that begins with the byte c, and has its mark at place n
  abbrev Spelt : ℕ → ℕ → (ℕ → ℕ → Spelling) → ℕ → Type 0
  Spelt n q s c = encloses n q (c ∷ t) ≡ true → spelling (c ∷ t) ≡ s (suc n) (length (c ∷ t) - 1)

  unlike : (q c : ℕ) → eqb c q ≡ false → encloses 0 q (c ∷ t) ≡ false
  unfolding encloses
  unlike q c h = rw (h, and-false)

  spelt_letter : (b : ℕ) → has b (ascii "Ee") ≡ true → Spelt 1 quote escape b
  unfolding spelling
  spelt_letter b =
      has_all (Spelt 1 quote escape) b (ascii "Ee")
      ((λ e. rw (unlike quote 69 refl, unlike dquote 69 refl, e)), ((λ e. rw (unlike quote 101 refl, unlike dquote 101 refl, e)), tt))

  spelt_national : (b : ℕ) → has b (ascii "Nn") ≡ true → Spelt 1 quote (standard quote) b
  unfolding spelling
  spelt_national b =
      has_all (Spelt 1 quote (standard quote)) b (ascii "Nn")
      ((λ e. rw (unlike quote 78 refl, unlike dquote 78 refl, e)), ((λ e. rw (unlike quote 110 refl, unlike dquote 110 refl, e)), tt))

  spelt_mark : (b : ℕ) → is_mark b ≡ true → Spelt 0 b (standard b) b
  unfolding spelling is_mark
  spelt_mark b = has_all (λ c. Spelt 0 c (standard c) c) b (quote ∷ dquote ∷ []) ((λ e. rw e), ((λ e. rw (unlike quote dquote refl, e)), tt))

  spelt_name : (b n : ℕ) → eqb b (code "_") ≡ true → opening (b ∷ t) ≡ suc n → Spelt n ((b ∷ t) ! n) (standard ((b ∷ t) ! n)) b
  unfolding spelling is_mark
  spelt_name b n h =
      let j : suc n - 1 ≡ n = omega arith in
      rw (eqb-true b (code "_") h) (λ o e. rw (unlike quote 95 refl, unlike dquote 95 refl, o, lt-ltb 0 (suc n) (omega arith), j, e))

  spelt_and : (b : ℕ) → has b (ascii "Uu") ≡ true → is_unicode quote (b ∷ t) ≡ true → spelling (b ∷ t) ≡ unicode_spelling quote (b ∷ t)
  unfolding spelling
  spelt_and b =
      has_all (λ c. is_unicode quote (c ∷ t) ≡ true → spelling (c ∷ t) ≡ unicode_spelling quote (c ∷ t)) b (ascii "Uu")
      ((λ e. rw (unlike quote 85 refl, unlike dquote 85 refl, e)), ((λ e. rw (unlike quote 117 refl, unlike dquote 117 refl, e)), tt))

spelt_standard : (w : List ℕ) (n : ℕ) → opening w ≡ suc n → has (w ! 0) (ascii "EeBbXxUu") ≡ false → encloses n (w ! n) w ≡ true
    → spelling w ≡ standard (w ! n) (suc n) (length w - 1)
spelt_standard [] n o h = absurd (omega arith)
spelt_standard (b ∷ t) n o h = go (opens b t n o) o
  where
    go : {n : ℕ} → Opens b t n → opening (b ∷ t) ≡ suc n → Spelt t n ((b ∷ t) ! n) (standard ((b ∷ t) ! n)) b
    go (by_mark m) o = spelt_mark t b m
    go (by_letter m l q) o =
        rw (eqb-true (t ! 0) quote q)
        (spelt_national t b
        (has_all (λ c. has c (ascii "EeBbXxUu") ≡ false → has c (ascii "Nn") ≡ true) b (ascii "EeNnBbXx")
        (other, (other, ((λ x. refl), ((λ x. refl), (other, (other, (other, (other, tt)))))))) l h))
    go (by_unicode m l u a q) o = absurd (has_all (λ c. has c (ascii "EeBbXxUu") ≡ false → ⊥) b (ascii "Uu") (other, (other, tt)) u h)
    go (by_name m l u s f k) o = spelt_name t b (suc (span in_name t)) s o

spelt_escape : (w : List ℕ) (n : ℕ) → opening w ≡ suc n → has (w ! 0) (ascii "Ee") ≡ true → encloses n (w ! n) w ≡ true
    → spelling w ≡ escape (suc n) (length w - 1)
spelt_escape [] n o h = absurd (omega arith)
spelt_escape (b ∷ t) n o h = let p = opens_e t n b h o in rw (p.0, eqb-true (t ! 0) quote p.1) (spelt_letter t b h)

-- of U& nothing is hidden, and nothing follows
spelt_unicode : (w : List ℕ) (n k : ℕ) → opening w ≡ suc n → has (w ! 0) (ascii "Uu") ≡ true → segment off w ≡ suc (n + k + 1)
    → length w ≡ suc n + k + 1 → spelling w ≡ unicode (backslash ∷ []) (suc n) (suc n + k)
unfolding is_unicode unicode_spelling
spelt_unicode [] n k o h s l = absurd (omega arith)
spelt_unicode (b ∷ t) n k o h s l =
    let p = opens_u t n b h o in
    let i : is_unicode quote (b ∷ t) ≡ true = rw (h, p.1, p.2) in
    let c = closes_u off b t i (n + k + 1) s in
    let d : size (walk (closing_step false quote) 0 (drop 2 t)) ≡ k = omega (arith, p.0, c.1) in
    let r : length (b ∷ t) ≤ 4 + k = omega (arith, p.0) in
    spelt_and t b h i ∙ rw (h, p.1, p.2, c.0, d, drop_of_length-le (b ∷ t) r, p.0)

-- where the search for the mark q stops, q stands
closing_stop : (h : Bool) (q d : ℕ) (r : List ℕ) → closing_step h q (d ∷ r) ≡ stop → d ≡ q
closing_stop h q d r = go (h && eqb d backslash) (eqb d q) refl
  where
    go : (x y : Bool) → eqb d q ≡ y → (if x then give 1 [] else if y then doubled q r else keep) ≡ stop → d ≡ q
    go true y e g = absurd (subst Goes g tt)
    go false true e g = eqb-true d q e
    go false false e g = absurd (subst Goes g tt)

-- the search begins behind n bytes and passes k
pub closing_at : (h : Bool) (q : ℕ) (u : List ℕ) (n k : ℕ) → stops (walk (closing_step h q) 0 (drop n u)) ≡ true
    → size (walk (closing_step h q) 0 (drop n u)) ≡ k → u ! (n + k) ≡ q
closing_at h q u n k st sz =
    let s = stop_at (closing_step h q) 0 (drop n u) (true→T _ st) k (zero-add _ ∙ sz) in
    let d : drop (n + k) u ≡ s.0 ∷ s.1 = sym (drop-drop k n u) ∙ s.2 in
    ap (u !◌) (sym (add-zero (n + k))) ∙ sym (get_or-drop (n + k) u 0 0) ∙ ap (◌! 0) d ∙ closing_stop h q s.0 s.1 s.3

-- A SEGMENT ALONE. u is the text from its start on: suc n bytes open it, and its closing mark stands k bytes behind them
abbrev pub segment_text : List ℕ → ℕ → ℕ → List ℕ
segment_text u n k = take (suc n + k + 1) u

segment_by_lem : (σ : Settings) (u : List ℕ) (n k : ℕ) → opening u ≡ suc n
    → stops (walk (closing_step (hides σ u) (u ! n)) 0 (drop (suc n) u)) ≡ true
    → size (walk (closing_step (hides σ u) (u ! n)) 0 (drop (suc n) u)) ≡ k → segment σ u ≡ suc (n + k + 1)
unfolding segment
segment_by_lem σ u n k o st sz = rw (o, st, sz) (omega arith)

module _ (σ : Settings) (u : List ℕ) (n k : ℕ) (o : opening u ≡ suc n) (z : has 0 u ≡ false)
    (st : stops (walk (closing_step (hides σ u) (u ! n)) 0 (drop (suc n) u)) ≡ true)
    (sz : size (walk (closing_step (hides σ u) (u ! n)) 0 (drop (suc n) u)) ≡ k) where
  pub segment_is : segment σ u ≡ suc n + k + 1
  segment_is = segment_by_lem σ u n k o st sz ∙ omega arith

  room : suc n + k + 1 ≤ length u
  room = omega (arith, segment_fits σ u (n + k + 1) (segment_by_lem σ u n k o st sz))

  -- the closing mark
  closes : u ! (suc n + k) ≡ u ! n
  closes = closing_at (hides σ u) (u ! n) u (suc n) k st sz

  text_length : length (segment_text u n k) ≡ suc n + k + 1
  text_length = length-take-le (suc n + k + 1) u room

  text_end : length (segment_text u n k) - 1 ≡ suc n + k
  text_end = omega (arith, text_length)

  pub text_body : part (suc n) (suc n + k) (segment_text u n k) ≡ take k (drop (suc n) u)
  text_body =
      let a : suc n + k + 1 ≡ suc n + (k + 1) = omega arith in
      let s : suc n + k - suc n ≡ k = omega arith in
      rw (
        a,
        take-add (suc n) (k + 1) u,
        drop_at (take (suc n) u) (take (k + 1) (drop (suc n) u)) (suc n) (length-take-le (suc n) u (omega (arith, room))),
        s,
      )
      (take-take k (k + 1) (drop (suc n) u) (omega arith))

  text_at : (i : ℕ) → i < suc n + k + 1 → segment_text u n k ! i ≡ u ! i
  text_at i h = get_or-take (suc n + k + 1) u i 0 h

  text_encloses : encloses n (segment_text u n k ! n) (segment_text u n k) ≡ true
  unfolding encloses
  text_encloses =
      rw (
        text_end,
        text_length,
        lt-ltb (suc n) (suc n + k + 1) (omega arith),
        text_at n (omega arith),
        text_at (suc n + k) (omega arith),
        closes,
        eqb_same (u ! n),
      )

  text_opening : opening (segment_text u n k) ≡ suc n
  text_opening =
      opening_back (segment_text u n k) (drop (suc n + k + 1) u) n (rw (take-append-drop (suc n + k + 1) u) o) (omega (arith, text_length))

  text_one : one σ (segment_text u n k) ≡ read_as σ (segment_text u n k) (spelling (segment_text u n k))
  unfolding one
  text_one =
      rw (or_left (has 0 (segment_text u n k)) (has 0 (drop (suc n + k + 1) u))
      (sym (has_append 0 (segment_text u n k) (drop (suc n + k + 1) u)) ∙ ap (has 0) (take-append-drop (suc n + k + 1) u) ∙ z))

  text_first : (l : List ℕ) (x : Bool) → has (u ! 0) l ≡ x → has (segment_text u n k ! 0) l ≡ x
  text_first l x h = rw (text_at 0 (omega arith)) h

  -- any opening but E, U&, B and X
  pub alone_standard : has (u ! 0) (ascii "EeBbXxUu") ≡ false
      → one σ (segment_text u n k) ≡ answer (suc n) (suc n + k) (walk (standard_step σ.backslash (u ! n)) 0 (take k (drop (suc n) u)))
  alone_standard h =
      text_one
      ∙ rw (
        spelt_standard (segment_text u n k) n text_opening (text_first (ascii "EeBbXxUu") false h) (text_encloses),
        text_at n (omega arith),
        text_end,
        text_body,
      )

  pub alone_escape : has (u ! 0) (ascii "Ee") ≡ true
      → one σ (segment_text u n k) ≡ answer (suc n) (suc n + k) (checked fresh (walk escape_step 0 (take k (drop (suc n) u))))
  alone_escape h =
      text_one
      ∙ rw (
        spelt_escape (segment_text u n k) n text_opening (text_first (ascii "Ee") true h) (text_encloses),
        text_end,
        text_body,
      )

  -- U&: the definition looks for its mark with nothing hidden, so that search must stop there too
  pub alone_unicode : has (u ! 0) (ascii "Uu") ≡ true
      → stops (walk (closing_step false quote) 0 (drop (suc n) u)) ≡ true → size (walk (closing_step false quote) 0 (drop (suc n) u)) ≡ k
      → one σ (segment_text u n k) ≡ answer (suc n) (suc n + k) (walk (unicode_step (backslash ∷ []) quote) 0 (take k (drop (suc n) u)))
  alone_unicode h s m =
      let x : hides off u ≡ false = has_all (λ c. has c (ascii "Ee") ≡ false) (u ! 0) (ascii "Uu") (refl, (refl, tt)) h in
      let q = mark_unicode u n o h in
      let e : suc (n + k + 1) ≡ suc n + k + 1 = omega arith in
      let a = segment_alone off u (n + k + 1) (segment_by_lem off u n k o (rw (x, q) s) (rw (x, q) m)) in
      text_one
      ∙ rw (spelt_unicode (segment_text u n k) n k text_opening (text_first (ascii "Uu") true h) (rw (← e) a) text_length, text_body)

  -- a text that is one segment is read as one; one whose first segment a mark follows, past white space, is joined
  pub segment_whole : length u ≡ suc n + k + 1 → read σ u ≡ one σ u
  segment_whole l = lone σ u (segment_is ∙ sym l)

  pub segment_continues : continues σ u ≡ is_mark (trim (drop (suc n + k + 1) u) ! 0)
  unfolding continues
  segment_continues = rw (segment_is, lt-ltb 0 (suc n + k + 1) (omega arith))
