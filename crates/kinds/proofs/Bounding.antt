-- A token is a part of the text, and what is read of a part lies inside it, a refusal's place too: so no place that is moved on exceeds the text's length.
-- Assumes nothing.
use mathlib.Core.Path.{◌≡◌, refl}
use mathlib.Core.Bool.{Bool, true, false, ◌&&◌, not}
use mathlib.Core.List.{List, [], ◌∷◌}
use Prim.Native.Nat.{ℕ, zero, suc, ◌+◌, ◌-◌, ◌≤◌, ◌<◌}
use native.Mathlib.Omega.{arith}
use lib.Dec.{eqb, leb, ltb}
use lib.ListN.{length, take, drop, length-take, length-drop}
use lib.Seq.{length-take-le}
use borrow.Author.Tests.{ltb-true}
use Rattle.meaning.specs.declared.Settings.{Settings}
use Rattle.meaning.specs.declared.ReadText.{ReadText}
use Rattle.meaning.specs.declared.ReadRefusal.{ReadRefusal}
use Rattle.meaning.specs.declared.ReadText.TheVariants as ReadText'
use Rattle.meaning.specs.declared.ReadRefusal.TheVariants as ReadRefusal'
use Rattle.meaning.specs.Bytes.{◌!◌, ascii, has, starts, quote, in_tag}
use Rattle.std.specs.Prelude.{if◌then◌else◌, Result, Ok, Err}
use Rattle.meaning.specs.Walk.{after, walk}
use Rattle.meaning.specs.Steps.{gap}
use Rattle.meaning.specs.Cutting.{segment, segment_by, segment_step, cut, continues}
use Rattle.meaning.specs.Spelling.{delimiter}
use Rattle.meaning.specs.Reading.{Answer, borrowed, written, refused, Value, means, fails, value_of, onward, both, each, one, alone, joined, as_written, read}
use Rattle.meaning.specs.Kinds.{first_place_of, last_by, past_last, place_by, found}
use Rattle.meaning.specs.Kinds.{Token, token, no_token, closed_token, dollar_token, token_start, quote_token, temporal_token}
use Rattle.meaning.specs.Reads.{read_of}
use Rattle.laws.proofs.walking.StepBounds.{starts_length}
use Rattle.laws.proofs.questions.Ranges.{Bounds, AnswerIn, one_inside}
use Rattle.laws.proofs.walking.Short.{Bound, alone_bound}
use Rattle.spellings.proofs.Dollars.{delimiter_length}

-- WHAT IS FOUND lies inside
found_fits : (p t : List ℕ) (k : ℕ) → found p t ≡ suc k → k + length p ≤ length t
found_fits p [] k e = absurd (omega arith)
found_fits p (b ∷ t) k e = go (starts p (b ∷ t)) refl (found p t) (found_fits p t) e
  where
    go : (x : Bool) → starts p (b ∷ t) ≡ x → (n : ℕ) → ((k : ℕ) → n ≡ suc k → k + length p ≤ length t) → place_by x n ≡ suc k
        → k + length p ≤ suc (length t)
    go true s n ih f = omega (arith, starts_length p (b ∷ t) s)
    go false s zero ih f = absurd (omega arith)
    go false s (suc m) ih f = omega (arith, ih m refl)

-- THE TOKEN
abbrev pub TokenIn : ℕ → Token → Type 0
TokenIn n (token f u) = Bounds n f u
TokenIn n no_token = Unit {0}

pub dollar_in : (t : List ℕ) (d n : ℕ) → n ≤ length (drop d t) → TokenIn (length t) (dollar_token d (drop d t) n)
dollar_in t d zero h = tt
dollar_in t d (suc n) h = go (found (take (suc n) (drop d t)) (drop (suc n) (drop d t))) refl
  where
    go : (f : ℕ) → found (take (suc n) (drop d t)) (drop (suc n) (drop d t)) ≡ f → TokenIn (length t) (closed_token d (suc n) f)
    go zero e = tt
    go (suc k) e =
        let b = found_fits (take (suc n) (drop d t)) (drop (suc n) (drop d t)) k e in
        let c : k + suc n ≤ length t - d - suc n = rw (length-take-le (suc n) (drop d t) h, length-drop, length-drop) at b in
        record {
          ordered = omega arith;
          inside = omega arith;
        }

start_in : (q : ℕ) (t : List ℕ) → token_start q t ≤ q
unfolding token_start
start_in q t = go (ltb 0 q && has (t ! (q - 1)) (ascii "Ee") && not (ltb 1 q && in_tag (t ! (q - 2))))
  where
    go : (x : Bool) → (if x then q - 1 else q) ≤ q
    go true = omega arith
    go false = omega arith

last_in : (q : ℕ) (t : List ℕ) → past_last q t ≤ length t
last_in q [] = omega arith
last_in q (b ∷ t) = go (eqb b q) (past_last q t) (last_in q t)
  where
    go : (x : Bool) (n : ℕ) → n ≤ length t → last_by x n ≤ suc (length t)
    go true zero h = omega arith
    go false zero h = omega arith
    go true (suc n) h = omega arith
    go false (suc n) h = omega arith

-- the first q stands no later than the last
first_last : (q : ℕ) (t : List ℕ) → first_place_of q t < length t → first_place_of q t < past_last q t
first_last q [] h = absurd (omega arith)
first_last q (b ∷ t) h = go (eqb b q) (first_place_of q t) (past_last q t) (first_last q t) h
  where
    go : (x : Bool) (m n : ℕ) → (m < length t → m < n) → (if not x then suc m else 0) < suc (length t) → (if not x then suc m else 0) < last_by x n
    go true m zero ih h = omega arith
    go true m (suc n) ih h = omega arith
    go false m zero ih h = let r = ih (omega arith) in absurd (omega arith)
    go false m (suc n) ih h = let r = ih (omega arith) in omega arith

quote_in : (t : List ℕ) → TokenIn (length t) (quote_token (first_place_of quote t) t)
unfolding quote_token
quote_in t = go (ltb (first_place_of quote t) (length t)) refl
  where
    go : (x : Bool) → ltb (first_place_of quote t) (length t) ≡ x
        → TokenIn (length t) (if x then token (token_start (first_place_of quote t) t) (past_last quote t) else no_token)
    go true h =
        let l = first_last quote t (ltb-true (first_place_of quote t) (length t) h) in
        let s = start_in (first_place_of quote t) t in
        record { ordered = omega arith; inside = last_in quote t }
    go false h = tt

pub token_in : (t : List ℕ) → TokenIn (length t) (temporal_token t)
unfolding temporal_token
token_in t = go (ltb (first_place_of 36 t) (first_place_of quote t))
  where
    go : (x : Bool) → TokenIn (length t)
        (if x then dollar_token (first_place_of 36 t) (drop (first_place_of 36 t) t) (delimiter (drop (first_place_of 36 t) t)) else quote_token (first_place_of quote t) t)
    go true = dollar_in t (first_place_of 36 t) (delimiter (drop (first_place_of 36 t) t)) (delimiter_length (drop (first_place_of 36 t) t))
    go false = quote_in t

-- A REFUSAL'S PLACE, k bytes of the text being passed
abbrev FailsIn : ℕ → ℕ → Value → Type 0
FailsIn k n (means v) = Unit {0}
FailsIn k n (fails p) = k + p ≤ n

joined_in : (σ : Settings) (k : ℕ) (t : List ℕ) → FailsIn k (length t) (each (alone σ) (walk (segment_step σ) k t))
unfolding segment_step
joined_in σ k [] = tt
joined_in σ (suc k) (b ∷ t) = further (each (alone σ) (walk (segment_step σ) k t)) (joined_in σ k t)
  where
    further : (x : Value) → FailsIn k (length t) x → FailsIn (suc k) (suc (length t)) x
    further (means v) h = tt
    further (fails p) h = omega arith
joined_in σ zero (b ∷ t) = go (segment σ (b ∷ t)) (λ n. joined_in σ n t)
  where
    -- the segment's own place, or one behind it
    first : (m : ℕ) (s : List ℕ) → length s ≤ suc (length t) → (x y : Value) → Bound x (length s) → FailsIn m (length t) y
        → FailsIn 0 (suc (length t)) (both x (onward (suc m) y))
    first m s l (fails p) y h i = omega arith
    first m s l (means v) (means w) h i = tt
    first m s l (means v) (fails p) h i = omega arith

    go : (n : ℕ) → ((n : ℕ) → FailsIn n (length t) (each (alone σ) (walk (segment_step σ) n t)))
        → FailsIn 0 (suc (length t)) (each (alone σ) (after (segment_by (b ∷ t) n) b (λ n. walk (segment_step σ) n t)))
    go zero ih = omega arith
    go (suc n) ih =
        first (n + gap (drop (suc n) (b ∷ t))) (take (suc n) (b ∷ t)) (omega (arith, length-take (suc n) (b ∷ t)))
        (alone σ (take (suc n) (b ∷ t))) (each (alone σ) (walk (segment_step σ) (n + gap (drop (suc n) (b ∷ t))) t))
        (alone_bound σ (take (suc n) (b ∷ t))) (ih (n + gap (drop (suc n) (b ∷ t))))

-- WHAT IS READ of a text of n bytes, as the code holds it
abbrev pub ReadIn : ℕ → Result ReadText ReadRefusal → Type 0
ReadIn n (Ok (ReadText'.Borrowed f u)) = Bounds n f u
ReadIn n (Ok (ReadText'.Written m)) = Unit {0}
ReadIn n (Err (ReadRefusal'.At p)) = p ≤ n
ReadIn n (Err (ReadRefusal'.NoRoom m)) = Unit {0}

either : (m n : ℕ) (v : List ℕ) → ReadIn n (read_of m (written v))
either m n v = go (leb (length v) m)
  where
    go : (x : Bool) → ReadIn n (if x then Ok (ReadText'.Written (length v)) else Err (ReadRefusal'.NoRoom (length v)))
    go true = tt
    go false = tt

answer_in : (m n : ℕ) (t : List ℕ) (a : Answer) → AnswerIn n a → Bound (value_of t a) n → ReadIn n (read_of m a)
answer_in m n t (borrowed f u) h i = h
answer_in m n t (written v) h i = either m n v
answer_in m n t (refused p) h i = i

pub read_in : (m : ℕ) (σ : Settings) (t : List ℕ) → ReadIn (length t) (read_of m (read σ t))
unfolding read cut
read_in m σ t = go (continues σ t) (joined σ (cut σ t)) (joined_in σ 0 t)
  where
    go : (x : Bool) (j : Value) → FailsIn 0 (length t) j → ReadIn (length t) (read_of m (if x then as_written j else one σ t))
    go true (means v) h = either m (length t) v
    go true (fails p) h = omega arith
    go false j h = answer_in m (length t) t (one σ t) (one_inside σ t) (alone_bound σ t)
