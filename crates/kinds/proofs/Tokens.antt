-- Money's sign, and the token of a temporal text by what the code learnt of it: each way out. Assumes nothing.
use mathlib.Core.Path.{◌≡◌, refl, sym, ap, ◌∙◌, subst}
use mathlib.Core.Bool.{Bool, true, false, ◌&&◌, ◌||◌, not, or-false}
use mathlib.Core.List.{List}
use Prim.Native.Nat.{ℕ, zero, suc, ◌+◌, ◌-◌, ◌≤◌, ◌<◌}
use native.Mathlib.Omega.{arith}
use lib.Dec.{eqb, ltb}
use lib.ListN.{length, take, drop, length-drop}
use lib.Seq.{drop-drop}
use borrow.Author.Tests.{lt-ltb, le-ltb, eq-eqb, ne_eqb, not-true, not-false}
use Rattle.meaning.specs.declared.ReadText.TheVariants as ReadText'
use Rattle.meaning.specs.declared.ReadRefusal.TheVariants as ReadRefusal'
use Rattle.meaning.specs.Bytes.{◌!◌, quote, in_tag}
use Rattle.std.specs.Prelude.{if◌then◌else◌, Ok, Err}
use Rattle.meaning.specs.Spelling.{delimiter}
use Rattle.meaning.specs.Kinds as kinds
use Rattle.meaning.specs.Kinds.{money, first_place_of, past_last, found, closed_token, dollar_token, token_start, quote_token, temporal_token}
use Rattle.meaning.specs.Reads.{read_of}
use Rattle.spellings.proofs.Dollars.{delimiter_length}
use Rattle.kinds.specs.declared.temporal.Token.{Token}
use Rattle.kinds.specs.Tokens.{token_at, token_of, place_of, first_mark}
use Rattle.kinds.proofs.Bounding.{TokenIn, dollar_in}
use Rattle.kinds.proofs.Finding.{mark_dollar, mark_quote}
use Rattle.std.specs.Prelude.{Option, Some, None}

-- MONEY
module _ (t : List ℕ) (b : ℕ) (eb : b ≡ t ! 0) where
  pub money_sign : b ≡ 36 → Ok (ReadText'.Borrowed 1 (length t)) ≡ read_of 0 (money t)
  unfolding money
  money_sign h = rw (← eb, eq-eqb b 36 h)

  pub money_none : (b ≡ 36 → ⊥) → Err (ReadRefusal'.At 0) ≡ read_of 0 (money t)
  unfolding money
  money_none h = rw (← eb, ne_eqb b 36 h)

-- A DOLLAR TOKEN at a place, by its delimiter of n bytes and what is found behind it
dollar_some : (d n : ℕ) (u : List ℕ) → (n ≡ 0 → ⊥) → dollar_token d u n ≡ closed_token d n (found (take n u) (drop n u))
dollar_some d zero u z = absurd (z refl)
dollar_some d (suc n) u z = refl

place_none : (f : ℕ) → place_of f ≡ None → f ≡ 0
place_none zero e = refl
place_none (suc k) e = cc

place_some : (f k : ℕ) → place_of f ≡ Some k → f ≡ suc k
place_some zero k e = cc
place_some (suc j) k e = cc

module _ (l : List ℕ) (at n : ℕ) (en : n ≡ delimiter (drop at l)) where
  pub dollar_none : n ≡ 0 → None ≡ token_of (dollar_token at (drop at l) (delimiter (drop at l)))
  dollar_none z = rw (← en, z)

  module _ (z : n ≡ 0 → ⊥) where
    pub delimiter_inside : at + n ≤ length l
    delimiter_inside = omega (arith, delimiter_length (drop at l), length-drop at l)

    module _ (r : Option ℕ) (er : r ≡ place_of (found (take (at + n - at) (drop at l)) (drop (at + n) l))) where
      dollar_by_lem : (f : ℕ) → found (take (at + n - at) (drop at l)) (drop (at + n) l) ≡ f
          → dollar_token at (drop at l) (delimiter (drop at l)) ≡ closed_token at n f
      dollar_by_lem f ef =
          let y : at + n - at ≡ n = omega arith in
          let e : found (take n (drop at l)) (drop n (drop at l)) ≡ f = rw (drop-drop n at l) (rw y at ef) in
          rw (← en) (dollar_some at n (drop at l) z ∙ ap (closed_token at n) e)

      pub dollar_open : r ≡ None → None ≡ token_of (dollar_token at (drop at l) (delimiter (drop at l)))
      dollar_open q =
          let f = found (take (at + n - at) (drop at l)) (drop (at + n) l) in
          sym (ap token_of (dollar_by_lem 0 (place_none f (sym er ∙ q))))

      module _ (k : ℕ) (q : r ≡ Some k) where
        closed : dollar_token at (drop at l) (delimiter (drop at l)) ≡ kinds.token at (at + n + k + n)
        closed = let f = found (take (at + n - at) (drop at l)) (drop (at + n) l) in dollar_by_lem (suc k) (place_some f k (sym er ∙ q))

        pub dollar_closed : Some (token_at at (at + n + k + n)) ≡ token_of (dollar_token at (drop at l) (delimiter (drop at l)))
        dollar_closed = sym (ap token_of closed)

        pub dollar_inside : at + n + k + n ≤ length l
        dollar_inside = (subst (TokenIn (length l)) closed (dollar_in l at (delimiter (drop at l)) (delimiter_length (drop at l)))).inside

-- THE START by the byte before the mark and the one before that
module _ (l : List ℕ) (q : ℕ) where
  pub start_first : q ≡ 0 → q ≡ token_start q l
  unfolding token_start
  start_first z = rw (le-ltb 0 q (omega arith))

  module _ (z : q ≡ 0 → ⊥) (b : ℕ) (eb : b ≡ l ! (q - 1)) where
    start_by : (x : Bool) → (eqb b 69 || eqb b 101) ≡ x
        → token_start q l ≡ (if x && not (ltb 1 q && in_tag (l ! (q - 2))) then q - 1 else q)
    unfolding token_start
    start_by x e = rw (lt-ltb 0 q (omega arith), ← eb, or-false, e)

    pub start_plain : not (eqb b 69 || eqb b 101) ≡ true → q ≡ token_start q l
    start_plain h = sym (start_by false (not-true (eqb b 69 || eqb b 101) h))

    module _ (h : not (eqb b 69 || eqb b 101) ≡ false) where
      start_e : token_start q l ≡ (if not (ltb 1 q && in_tag (l ! (q - 2))) then q - 1 else q)
      start_e = start_by true (not-false (eqb b 69 || eqb b 101) h)

      pub start_lone : q - 1 ≡ 0 → q - 1 ≡ token_start q l
      start_lone e = sym (start_e ∙ rw (le-ltb 1 q (omega arith)))

      module _ (y : q - 1 ≡ 0 → ⊥) (d : ℕ) (ed : d ≡ l ! (q - 1 - 1)) (x : Bool) (ex : x ≡ in_tag d) where
        start_behind : token_start q l ≡ (if not x then q - 1 else q)
        start_behind =
            let w : q - 1 - 1 ≡ q - 2 = omega arith in
            start_e ∙ rw (lt-ltb 1 q (omega arith), ← w, ← ed, ← ex)

        pub start_word : x ≡ true → q ≡ token_start q l
        start_word t = sym (start_behind ∙ rw t)

        pub start_escape : x ≡ false → q - 1 ≡ token_start q l
        start_escape t = sym (start_behind ∙ rw t)

-- A TOKEN IN QUOTES, by the place of its first mark
module _ (l : List ℕ) (q : ℕ) where
  pub quote_none : length l ≤ q → None ≡ token_of (quote_token q l)
  unfolding quote_token
  quote_none h = rw (le-ltb q (length l) h)

  pub quote_some : q < length l → (s u : ℕ) → s ≡ token_start q l → u ≡ past_last quote l → Some (token_at s u) ≡ token_of (quote_token q l)
  unfolding quote_token
  quote_some h s u es eu = rw (lt-ltb q (length l) h, ← es, ← eu)

-- THE TOKEN, by its first mark and the byte there
module _ (l : List ℕ) (at : ℕ) (ea : at ≡ first_mark l) (b : ℕ) (eb : b ≡ l ! at) (r : Option Token) where
  pub token_dollar : b ≡ 36 → r ≡ token_of (dollar_token at (drop at l) (delimiter (drop at l))) → r ≡ token_of (temporal_token l)
  unfolding temporal_token
  token_dollar h e =
      let m = mark_dollar l (ap (λ (i : ℕ). l ! i) (sym ea) ∙ sym eb ∙ h) in
      e ∙ sym (rw (lt-ltb (first_place_of 36 l) (first_place_of 39 l) m.1, ← m.0, ← ea))

  pub token_quote : (b ≡ 36 → ⊥) → r ≡ token_of (quote_token at l) → r ≡ token_of (temporal_token l)
  unfolding temporal_token
  token_quote h e =
      let m = mark_quote l (λ f. h (eb ∙ ap (λ (i : ℕ). l ! i) ea ∙ f)) in
      e ∙ sym (rw (le-ltb (first_place_of 36 l) (first_place_of 39 l) m.1, ← m.0, ← ea))
