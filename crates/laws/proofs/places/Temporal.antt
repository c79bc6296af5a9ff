-- A temporal question adds its token's start, or gives 0 with no token (`temporal_place`, `temporal_none`). So the place of its refusal lies inside the text
-- (`temporal_inside`), and in UTF-8 text a character begins there (`temporal_begins`): a token is not empty, and its first and its last byte are ASCII.
-- Assumes nothing.
use mathlib.Core.Logic.{inl, inr}
use mathlib.Core.Path.{◌≡◌, refl, ap, sym, ◌∙◌}
use mathlib.Core.Bool.{Bool, true, false, ◌&&◌, not, false≢true}
use mathlib.Core.List.{List, [], ◌∷◌}
use Prim.Native.Char.{code}
use Prim.Native.Nat.{ℕ, zero, suc, ◌+◌, ◌-◌, ◌≤◌, ◌<◌}
use native.Mathlib.Nat.{add-zero}
use native.Mathlib.Omega.{arith}
use borrow.Author.Tests.{eq-eqb, eqb-true, ltb-true}
use lib.Dec.{eqb, ltb}
use lib.ListN.{length, take, drop, length-drop}
use lib.Seq.{get_or-take, get_or-drop, length-take-le}
use Rattle.meaning.specs.declared.Settings.{Settings}
use Rattle.meaning.specs.Bytes.{◌!◌, part, ascii, has, starts, within, quote, in_tag}
use Rattle.std.specs.Prelude.{if◌then◌else◌}
use Rattle.meaning.specs.Chars.{utf8}
use Rattle.meaning.specs.Kinds.{Token, token, no_token, first_place_of, last_by, past_last, place_by, found, closed_token, dollar_token, token_start, quote_token}
use Rattle.meaning.specs.Kinds.{temporal_token, behind, read_token, temporal}
use Rattle.meaning.specs.Reading.{Answer, borrowed, written, refused, read}
use Rattle.meaning.specs.Spelling.{delimiter, tag_length}
use Rattle.laws.proofs.basics.Tests.{and_left, and_right, if_suc, within_below}
use Rattle.laws.proofs.cutting.Gaps.{has_all}
use Rattle.laws.proofs.cutting.Openings.{inside}
use Rattle.laws.proofs.places.Alone.{PlaceIn}
use Rattle.laws.proofs.places.Whole.{low_cut, front_begins, read_end, read_inside, read_begins}
use Rattle.laws.proofs.utf8.Sequences.{utf8_begins, utf8_cut}
use Rattle.laws.proofs.walking.StepBounds.{starts_length}

module _ (σ : Settings) (t : List ℕ) where
  pub temporal_place : (f u q : ℕ) → temporal_token t ≡ token f u → read σ (part f u t) ≡ refused q → temporal σ t ≡ refused (f + q)
  unfolding temporal
  temporal_place f u q k h = rw (k, h)

  pub temporal_none : temporal_token t ≡ no_token → temporal σ t ≡ refused 0
  unfolding temporal
  temporal_none k = rw k

-- A PART that is not empty, and whose first and last byte are ASCII
record LowPart (t : List ℕ) (f u : ℕ) : Type 0 where
  ordered : f < u
  ends : u ≤ length t
  first_low : t ! f < 0x80
  last_low : t ! (u - 1) < 0x80

-- in UTF-8 text it is UTF-8, and so is what follows it
low_part_utf8 : (t : List ℕ) (f u : ℕ) → LowPart t f u → utf8 t ≡ true → (utf8 (part f u t) ≡ true) × (utf8 (drop (u - f) (drop f t)) ≡ true)
low_part_utf8 t f u l valid =
    let v : utf8 (drop f t) ≡ true = (utf8_cut f t valid (within_below 0x80 0xBF (t ! f) l.first_low)).1 in
    let e : f + (u - f - 1) ≡ u - 1 = omega (arith, l.ordered) in
    let n : suc (u - f - 1) ≡ u - f = omega (arith, l.ordered) in
    let b : drop f t ! (u - f - 1) < 0x80 = rw (get_or-drop f t (u - f - 1) 0, e) l.last_low in
    rw n at (low_cut (u - f - 1) (drop f t) v (omega (arith, l.ordered, l.ends, length-drop f t)) b)

-- THE FIRST q and the last
first_byte : (q : ℕ) (t : List ℕ) → first_place_of q t < length t → t ! first_place_of q t ≡ q
first_byte q [] h = absurd (omega arith)
first_byte q (b ∷ t) h = go (eqb b q) refl h (first_byte q t)
  where
    go : (x : Bool) → eqb b q ≡ x → (if not x then suc (first_place_of q t) else 0) < suc (length t) → (first_place_of q t < length t → t ! first_place_of q t ≡ q)
        → (b ∷ t) ! (if not x then suc (first_place_of q t) else 0) ≡ q
    go true e g ih = eqb-true b q e
    go false e g ih = ih (omega arith)

last_suc : (x : Bool) (m : ℕ) → last_by x (suc m) ≡ suc (suc m)
last_suc true m = refl
last_suc false m = refl

last_byte : (q : ℕ) (t : List ℕ) (n : ℕ) → past_last q t ≡ suc n → (n < length t) × (t ! n ≡ q)
last_byte q [] n h = absurd (omega arith)
last_byte q (b ∷ t) n h = go (eqb b q) (past_last q t) n refl h (last_byte q t)
  where
    go : (x : Bool) (m n : ℕ) → eqb b q ≡ x → last_by x m ≡ suc n → ((k : ℕ) → m ≡ suc k → (k < length t) × (t ! k ≡ q))
        → (n < suc (length t)) × ((b ∷ t) ! n ≡ q)
    go true zero zero e g ih = (omega arith, eqb-true b q e)
    go true zero (suc n) e g ih = absurd (omega arith)
    go false zero n e g ih = absurd (omega arith)
    go x (suc m) zero e g ih = absurd (omega (arith, last_suc x m))
    go x (suc m) (suc n) e g ih = let r = ih n (omega (arith, last_suc x m)) in (omega (arith, r.0), r.1)

-- each q stands before the last one's end
before_last : (q : ℕ) (t : List ℕ) (i : ℕ) → i < length t → t ! i ≡ q → i < past_last q t
before_last q [] i h e = absurd (omega arith)
before_last q (b ∷ t) zero h e = rw (eq-eqb b q e) (go (past_last q t))
  where
    go : (m : ℕ) → 0 < last_by true m
    go zero = omega arith
    go (suc m) = omega arith
before_last q (b ∷ t) (suc i) h e = go (past_last q t) (before_last q t i (omega arith) e)
  where
    go : (m : ℕ) → i < m → suc i < last_by (eqb b q) m
    go zero l = absurd (omega arith)
    go (suc m) l = omega (arith, last_suc (eqb b q) m)

-- A TOKEN is such a part
abbrev TokenPart : List ℕ → Token → Type 0
TokenPart t (token f u) = LowPart t f u
TokenPart t no_token = Unit {0}

-- IN QUOTES. It begins at the first mark or at an E before it
quote_start : (q : ℕ) (t : List ℕ) → t ! q ≡ quote → (token_start q t ≤ q) × (t ! token_start q t < 0x80)
unfolding token_start
quote_start q t e = go (ltb 0 q && has (t ! (q - 1)) (ascii "Ee") && not (ltb 1 q && in_tag (t ! (q - 2)))) refl
  where
    go : (x : Bool) → (ltb 0 q && has (t ! (q - 1)) (ascii "Ee") && not (ltb 1 q && in_tag (t ! (q - 2)))) ≡ x
        → ((if x then q - 1 else q) ≤ q) × (t ! (if x then q - 1 else q) < 0x80)
    go true h =
        let l = and_right (ltb 0 q) (has (t ! (q - 1)) (ascii "Ee"))
        (and_left (ltb 0 q && has (t ! (q - 1)) (ascii "Ee")) (not (ltb 1 q && in_tag (t ! (q - 2)))) h) in
        (omega arith, has_all (λ b. b < 0x80) (t ! (q - 1)) (ascii "Ee") (omega arith, (omega arith, tt)) l)
    go false h = (omega arith, rw e (omega arith))

quote_part : (t : List ℕ) → TokenPart t (quote_token (first_place_of quote t) t)
unfolding quote_token
quote_part t = go (ltb (first_place_of quote t) (length t)) refl
  where
    some : first_place_of quote t < length t → (u : ℕ) → past_last quote t ≡ u → LowPart t (token_start (first_place_of quote t) t) u
    some h zero e = absurd (omega (arith, before_last quote t (first_place_of quote t) h (first_byte quote t h)))
    some h (suc n) e =
        let s = quote_start (first_place_of quote t) t (first_byte quote t h) in
        let b = last_byte quote t n e in
        let z : suc n - 1 ≡ n = omega arith in
        record {
          ordered = omega (arith, s.0, before_last quote t (first_place_of quote t) h (first_byte quote t h));
          ends = omega (arith, b.0);
          first_low = s.1;
          last_low = rw (z, b.1) (omega arith);
        }

    go : (x : Bool) → ltb (first_place_of quote t) (length t) ≡ x
        → TokenPart t (if x then token (token_start (first_place_of quote t) t) (past_last quote t) else no_token)
    go true h = some (ltb-true (first_place_of quote t) (length t) h) (past_last quote t) refl
    go false h = tt

-- BETWEEN DELIMITERS, each with a dollar sign at both ends
delimiter_signs : (u : List ℕ) (n : ℕ) → delimiter u ≡ suc n → (u ! 0 ≡ code "$") × (u ! n ≡ code "$")
unfolding delimiter
delimiter_signs u n h =
    let m : ℕ = suc (tag_length (drop 1 u)) in
    let c = if_suc (eqb (u ! 0) (code "$") && eqb (u ! m) (code "$")) (suc m) n h in
    let z : m ≡ n = omega (arith, c.1) in (
      eqb-true (u ! 0) (code "$") (and_left (eqb (u ! 0) (code "$")) (eqb (u ! m) (code "$")) c.0),
      rw z at (eqb-true (u ! m) (code "$") (and_right (eqb (u ! 0) (code "$")) (eqb (u ! m) (code "$")) c.0)),
    )

-- what is found stands there, byte by byte
found_starts : (p t : List ℕ) (k : ℕ) → found p t ≡ suc k → starts p (drop k t) ≡ true
found_starts p [] k h = absurd (omega arith)
found_starts p (b ∷ t) k h = go (starts p (b ∷ t)) refl (found p t) k (found_starts p t) h
  where
    go : (x : Bool) → starts p (b ∷ t) ≡ x → (m k : ℕ) → ((k : ℕ) → m ≡ suc k → starts p (drop k t) ≡ true) → place_by x m ≡ suc k
        → starts p (drop k (b ∷ t)) ≡ true
    go true s m zero ih g = s
    go true s m (suc k) ih g = absurd (omega arith)
    go false s zero k ih g = absurd (omega arith)
    go false s (suc m) zero ih g = absurd (omega arith)
    go false s (suc m) (suc k) ih g = ih k (omega arith)

starts_byte : (p t : List ℕ) (i : ℕ) → starts p t ≡ true → i < length p → t ! i ≡ p ! i
starts_byte [] t i h l = absurd (omega arith)
starts_byte (a ∷ p) [] i h l = absurd (false≢true h)
starts_byte (a ∷ p) (b ∷ t) zero h l = sym (eqb-true a b (and_left (eqb a b) (starts p t) h))
starts_byte (a ∷ p) (b ∷ t) (suc i) h l = starts_byte p t i (and_right (eqb a b) (starts p t) h) (omega arith)

-- a delimiter of n + 1 bytes at place d, and again k bytes behind itself
closed_part : (t : List ℕ) (d n k : ℕ) → delimiter (drop d t) ≡ suc n → found (take (suc n) (drop d t)) (drop (suc n) (drop d t)) ≡ suc k
    → LowPart t d (d + suc n + k + suc n)
closed_part t d n k h g =
    let u : List ℕ = drop d t in
    let signs = delimiter_signs u n h in
    let i : n < length u = inside (λ b. eqb b (code "$")) refl u n (eq-eqb (u ! n) (code "$") signs.1) in
    let l : length (take (suc n) u) ≡ suc n = length-take-le (suc n) u i in
    let s : starts (take (suc n) u) (drop k (drop (suc n) u)) ≡ true = found_starts (take (suc n) u) (drop (suc n) u) k g in
    let e : drop k (drop (suc n) u) ! n ≡ code "$" =
    starts_byte (take (suc n) u) (drop k (drop (suc n) u)) n s (omega arith) ∙ get_or-take (suc n) u n 0 (omega arith) ∙ signs.1 in
    let z : d + suc n + k + suc n - 1 ≡ d + (suc n + (k + n)) = omega arith in
    let first : t ! d ≡ code "$" = ap (t !◌) (sym (add-zero d)) ∙ sym (get_or-drop d t 0 0) ∙ signs.0 in
    let last : t ! (d + (suc n + (k + n))) ≡ code "$" =
    sym (get_or-drop d t (suc n + (k + n)) 0) ∙ sym (get_or-drop (suc n) u (k + n) 0) ∙ sym (get_or-drop k (drop (suc n) u) n 0) ∙ e in
    record {
      ordered = omega arith;
      ends =
          omega (
            arith,
            starts_length (take (suc n) u) (drop k (drop (suc n) u)) s,
            length-drop k (drop (suc n) u),
            length-drop (suc n) u,
            length-drop d t,
          );
      first_low = rw first (omega arith);
      last_low = rw (z, last) (omega arith);
    }

dollar_part : (t : List ℕ) (d n : ℕ) → delimiter (drop d t) ≡ n → TokenPart t (dollar_token d (drop d t) n)
dollar_part t d zero h = tt
dollar_part t d (suc n) h = go (found (take (suc n) (drop d t)) (drop (suc n) (drop d t))) refl
  where
    go : (k : ℕ) → found (take (suc n) (drop d t)) (drop (suc n) (drop d t)) ≡ k → TokenPart t (closed_token d (suc n) k)
    go zero g = tt
    go (suc k) g = closed_part t d n k h g

token_part : (t : List ℕ) → TokenPart t (temporal_token t)
unfolding temporal_token
token_part t = go (ltb (first_place_of (code "$") t) (first_place_of quote t))
  where
    d : ℕ
    d = first_place_of (code "$") t

    go : (x : Bool) → TokenPart t (if x then dollar_token d (drop d t) (delimiter (drop d t)) else quote_token (first_place_of quote t) t)
    go true = dollar_part t d (delimiter (drop d t)) refl
    go false = quote_part t

-- WHAT REFUSES a temporal text: no token, at 0; or its token, read as a string
data Refuses (σ : Settings) (t : List ℕ) (p : ℕ) : Type 0 where
  tokenless : p ≡ 0 → Refuses σ t p
  in_token : (f u q : ℕ) → LowPart t f u → read σ (part f u t) ≡ refused q → p ≡ f + q → Refuses σ t p

behind_refused : (f : ℕ) (a : Answer) (p : ℕ) → behind f a ≡ refused p → (q : ℕ) × (a ≡ refused q) × (p ≡ f + q)
behind_refused f (borrowed g u) p h = let z : ◌≡◌ {A = ℕ} 0 1 = cc in absurd (omega arith)
behind_refused f (written v) p h = let z : ◌≡◌ {A = ℕ} 0 1 = cc in absurd (omega arith)
behind_refused f (refused q) p h = (q, refl, cc)

temporal_refuses : (σ : Settings) (t : List ℕ) (p : ℕ) → temporal σ t ≡ refused p → Refuses σ t p
unfolding temporal
temporal_refuses σ t p h = go (temporal_token t) (token_part t) h
  where
    go : (k : Token) → TokenPart t k → read_token σ t k ≡ refused p → Refuses σ t p
    go no_token l g = tokenless cc
    go (token f u) l g = let r = behind_refused f (read σ (part f u t)) p g in in_token f u r.0 l r.1 r.2

part_length : (t : List ℕ) (f u : ℕ) → LowPart t f u → length (part f u t) ≡ u - f
part_length t f u l = length-take-le (u - f) (drop f t) (omega (arith, l.ends, length-drop f t))

module _ (σ : Settings) where
  pub temporal_inside : (t : List ℕ) (p : ℕ) → temporal σ t ≡ refused p → PlaceIn t p
  temporal_inside t p h = go (temporal_refuses σ t p h)
    where
      none : (t : List ℕ) → p ≡ 0 → PlaceIn t p
      none [] z = inr (refl, z)
      none (b ∷ t) z = inl (omega arith)

      some : (f u q : ℕ) → LowPart t f u → p ≡ f + q → PlaceIn (part f u t) q → PlaceIn t p
      some f u q l z (inl i) = inl (omega (arith, part_length t f u l, l.ordered, l.ends))
      some f u q l z (inr e) = absurd (omega (arith, part_length t f u l, l.ordered, ap length e.0))

      go : Refuses σ t p → PlaceIn t p
      go (tokenless z) = none t z
      go (in_token f u q l r z) = some f u q l z (read_inside σ (part f u t) q r)

  pub temporal_begins : (t : List ℕ) (p : ℕ) → utf8 t ≡ true → temporal σ t ≡ refused p → within 0x80 0xBF (t ! p) ≡ false
  temporal_begins t p valid h = go (temporal_refuses σ t p h)
    where
      go : Refuses σ t p → within 0x80 0xBF (t ! p) ≡ false
      go (tokenless z) = rw z (utf8_begins t valid)
      go (in_token f u q l r z) =
          let v = low_part_utf8 t f u l valid in
          rw (z, ← get_or-drop f t q 0)
          (front_begins (u - f) (drop f t) q v.1 (read_end σ (part f u t) q r) (read_begins σ (part f u t) q v.0 r))
