-- The place where one segment is refused lies inside its text, and begins a character of it. Assumes nothing.
use mathlib.Core.Logic.{◌⊎◌, inl, inr}
use mathlib.Core.Path.{◌≡◌, refl, ap, sym, ◌∙◌}
use mathlib.Core.Bool.{Bool, true, false, ◌&&◌, ◌||◌, not, false≢true}
use mathlib.Core.List.{List, [], ◌∷◌, ◌++◌}
use Prim.Native.Nat.{ℕ, ◌+◌, ◌-◌, ◌≤◌, ◌<◌}
use native.Mathlib.Nat.{add-zero}
use native.Mathlib.Omega.{arith}
use lib.Dec.{eqb, ltb}
use lib.ListN.{length, take, drop, length-take, length-drop, take-append-drop}
use lib.Seq.{get_or-drop, get_or-take}
use borrow.Author.Tests.{eqb-true}
use Rattle.meaning.specs.declared.Settings.{Settings}
use Rattle.meaning.specs.Bytes.{◌!◌, part, ascii, has, starts, quote, dquote, backslash, within, is_mark, digit}
use Rattle.meaning.specs.Chars.{Due, broken, fresh, push, pushes, whole, utf8, lead, space}
use Rattle.meaning.specs.Walk.{Step, keep, stop, walk, value}
use Rattle.meaning.specs.Steps.{standard_step, escape_step, unicode_step}
use Rattle.meaning.specs.Spelling.{Spelling, standard, escape, unicode, dollar, unspelt, is_one, legal_escape, spelling}
use Rattle.meaning.specs.Reading.{refused, one}
use Rattle.laws.proofs.basics.Tests.{and_left, within_below}
use Rattle.laws.proofs.utf8.Utf8.{pushes_append, utf8_append, fresh_good, pushes_good, later_lead}
use Rattle.laws.proofs.utf8.Abreast.{whole_fresh}
use Rattle.laws.proofs.utf8.Sequences.{utf8_begins}
use Rattle.laws.proofs.questions.Ranges.{Between, BodyIn, spelling_body}
use Rattle.laws.proofs.places.Spelt.{Spelt, spelling_spelt}
use Rattle.laws.proofs.places.Bodies.{Breaks, StopsAt, StopsIn, standard_stop, escape_kept, unicode_stop, alone_stops}
use Rattle.laws.proofs.places.EscapeStates.{Aligned, front_sound, last_whole, walk_aligned}

-- INSIDE. A place of a text; an empty text has but its beginning
abbrev pub PlaceIn : List ℕ → ℕ → Type 0
PlaceIn t p = (p < length t) ⊎ ((t ≡ []) × (p ≡ 0))

first_inside : (t : List ℕ) (p : ℕ) → p ≡ 0 → PlaceIn t p
first_inside [] p e = inr (refl, e)
first_inside (b ∷ t) p e = inl (omega arith)

-- a body ends before the byte that closes it
body_inside : (t : List ℕ) (f u p m : ℕ) → Between (length t) f u → p ≡ f + m → m ≤ length (part f u t) → PlaceIn t p
body_inside t f u p m b e l = inl (omega (arith, length-take (u - f) (drop f t), b.ordered, b.closed))

as_inside : (σ : Settings) (t : List ℕ) (s : Spelling) (p : ℕ) → BodyIn (length t) s → StopsIn σ t s p → PlaceIn t p
as_inside σ t (standard q f u) p b x = body_inside t f u p x.0 b x.1 x.2.inside
as_inside σ t (escape f u) p b x = body_inside t f u p x.0 b x.1 x.2.inside
as_inside σ t (unicode e f u) p b x = body_inside t f u p x.0 b x.1 x.2.inside
as_inside σ t (dollar f u) p b x = absurd x
as_inside σ t unspelt p b x = first_inside t p x

pub alone_inside : (σ : Settings) (t : List ℕ) (p : ℕ) → one σ t ≡ refused p → PlaceIn t p
alone_inside σ t p h = go (alone_stops σ t p h)
  where
    go : ((has 0 t ≡ true) × (p ≡ 0)) ⊎ ((has 0 t ≡ false) × StopsIn σ t (spelling t) p) → PlaceIn t p
    go (inl x) = first_inside t p x.1
    go (inr x) = as_inside σ t (spelling t) p (spelling_body t) x.1

-- AT A CHARACTER. The byte that a body has at place m
byte_at : (t : List ℕ) (f u m b : ℕ) (r : List ℕ) → drop m (part f u t) ≡ b ∷ r → t ! (f + m) ≡ b
byte_at t f u m b r e =
    let l : m < u - f = omega (arith, ap length e, length-drop m (part f u t), length-take (u - f) (drop f t)) in
    sym (get_or-drop f t m 0) ∙ sym (get_or-take (u - f) (drop f t) m 0 l)
    ∙ ap (part f u t !◌) (sym (add-zero m)) ∙ sym (get_or-drop m (part f u t) 0 0) ∙ ap (◌! 0) e

low_begins : (b : ℕ) → b < 0x80 → within 0x80 0xBF b ≡ false
low_begins b l = within_below 0x80 0xBF b l

lead_begins : (b : ℕ) → (lead b ≡ broken → ⊥) → within 0x80 0xBF b ≡ false
lead_begins b h = go (within 0x80 0xBF b) refl
  where
    go : (x : Bool) → within 0x80 0xBF b ≡ x → x ≡ false
    go true w = absurd (h (later_lead b w))
    go false w = refl

-- a body that is not checked stops where no unit may stand
unchecked_begins : (step : List ℕ → Step) (t : List ℕ) (f u m : ℕ) → StopsAt false step (part f u t) m
    → ((b : ℕ) (r : List ℕ) → step (b ∷ r) ≡ stop → within 0x80 0xBF b ≡ false) → within 0x80 0xBF (t ! (f + m)) ≡ false
unchecked_begins step t f u m s n = go (drop m (part f u t)) refl s.here
  where
    go : (l : List ℕ) → drop m (part f u t) ≡ l → Breaks false step (pushes fresh (value (walk step 0 (take m (part f u t))))) l
        → within 0x80 0xBF (t ! (f + m)) ≡ false
    go [] e x = absurd (false≢true x.0)
    go (b ∷ r) e (inl k) = rw (byte_at t f u m b r e) (n b r k)
    go (b ∷ r) e (inr x) = absurd (false≢true x.0)

-- a standard body at its mark
mark_low : (q : ℕ) → is_mark q ≡ true → q < 0x80
unfolding is_mark
mark_low q h = go (eqb q quote) (eqb q dquote) refl refl h
  where
    go : (x y : Bool) → eqb q quote ≡ x → eqb q dquote ≡ y → (x || (y || false)) ≡ true → q < 0x80
    go true y e f g = omega (arith, eqb-true q quote e)
    go false true e f g = omega (arith, eqb-true q dquote f)
    go false false e f g = absurd (false≢true g)

standard_begins : (bs : Bool) (q b : ℕ) (r : List ℕ) → is_mark q ≡ true → standard_step bs q (b ∷ r) ≡ stop → within 0x80 0xBF b ≡ false
standard_begins bs q b r k h = let e = standard_stop bs q b r h in low_begins b (omega (arith, mark_low q k))

-- a U& body at the mark, or where the escape character begins
legal_begins : (e : List ℕ) (b : ℕ) (r : List ℕ) → legal_escape e ≡ true → starts e (b ∷ r) ≡ true → within 0x80 0xBF b ≡ false
legal_begins [] b r k h = absurd (false≢true k)
legal_begins (c ∷ e) b r k h = rw (sym (eqb-true c b (and_left (eqb c b) (starts e r) h))) (lead_begins c leads)
  where
    leads : lead c ≡ broken → ⊥
    leads z =
        let j = and_left (is_one (lead c) e && ltb 15 (digit c) && not (has c (ascii "+'\""))) (eqb (space (c ∷ e)) 0) k in
        let i = and_left (is_one (lead c) e) (ltb 15 (digit c)) (and_left (is_one (lead c) e && ltb 15 (digit c)) (not (has c (ascii "+'\""))) j) in
        false≢true (sym (ap (λ (d : Due). is_one d e) z) ∙ i)

unicode_begins : (e : List ℕ) (b : ℕ) (r : List ℕ) → legal_escape e ≡ true → unicode_step e quote (b ∷ r) ≡ stop → within 0x80 0xBF b ≡ false
unicode_begins e b r k h = go (unicode_stop e quote b r h)
  where
    go : (b ≡ quote) ⊎ (starts e (b ∷ r) ≡ true) → within 0x80 0xBF b ≡ false
    go (inl z) = low_begins b (omega arith)
    go (inr z) = legal_begins e b r k z

-- an E body at a backslash or a quote, or at a byte that stands for itself and breaks the expansion: no later byte of the spelling does
escape_begins : (body : List ℕ) (m b : ℕ) (r : List ℕ) → (pushes fresh body ≡ broken → ⊥) → StopsAt true escape_step body m → drop m body ≡ b ∷ r
    → within 0x80 0xBF b ≡ false
escape_begins body m b r raw s e = go (escape_kept b r) (rw e at s.here)
  where
    d : Due
    d = pushes fresh (value (walk escape_step 0 (take m body)))

    left : Due
    left = pushes fresh (take m body)

    split : pushes fresh body ≡ pushes left (b ∷ r)
    split = ap (pushes fresh) (sym (take-append-drop m body) ∙ ap (take m body ++◌) e) ∙ pushes_append fresh (take m body) (b ∷ r)

    taken : push left b ≡ broken → ⊥
    taken = front_sound left (b ∷ []) r (λ z. raw (split ∙ z))

    aligned : Aligned left d
    aligned =
        walk_aligned 0 (take m body) fresh fresh fresh_good fresh_good (omega arith) s.through
        (front_sound fresh (take m body) (drop m body) (rw (take-append-drop m body) raw)) (s.sound refl) (inl refl)

    kept : (x : Bool) → within 0x80 0xBF b ≡ x → push d b ≡ broken → Aligned left d → x ≡ false
    kept false w k a = refl
    kept true w k (inl z) = absurd (taken (ap (λ (y : Due). push y b) (whole_fresh left (pushes_good fresh (take m body) fresh_good) z) ∙ later_lead b w))
    kept true w k (inr z) = absurd (taken (ap (λ (y : Due). push y b) (sym z) ∙ k))

    go : (escape_step (b ∷ r) ≡ keep) ⊎ ((b ≡ backslash) ⊎ (b ≡ quote)) → Breaks true escape_step d (b ∷ r) → within 0x80 0xBF b ≡ false
    go (inr (inl z)) x = low_begins b (omega arith)
    go (inr (inr z)) x = low_begins b (omega arith)
    go (inl k) (inl z) = cc
    go (inl k) (inr x) = kept (within 0x80 0xBF b) refl (rw k at x.1) aligned

-- or at the quote that closes it
utf8_sound : (t : List ℕ) → utf8 t ≡ true → pushes fresh t ≡ broken → ⊥
unfolding utf8
utf8_sound t h e = false≢true (sym (ap whole e) ∙ h)

-- the spelling behind the opening quote breaks nothing
body_sound : (t : List ℕ) (u : ℕ) → utf8 t ≡ true → t ! 1 ≡ quote → 2 ≤ length t → pushes fresh (part 2 u t) ≡ broken → ⊥
unfolding utf8
body_sound t u h q l =
    let c = take-append-drop 2 t in
    let w : utf8 (take 2 t) ≡ true = last_whole fresh t 1 fresh_good l (omega (arith, q)) (front_sound fresh (take 2 t) (drop 2 t) (rw c (utf8_sound t h))) in
    let v : utf8 (drop 2 t) ≡ true = sym (utf8_append (take 2 t) (drop 2 t) w) ∙ ap utf8 c ∙ h in
    front_sound fresh (part 2 u t) (drop (u - 2) (drop 2 t)) (rw (take-append-drop (u - 2) (drop 2 t)) (utf8_sound (drop 2 t) v))

checked_begins : (t : List ℕ) (f u m : ℕ) → utf8 t ≡ true → Between (length t) f u → Spelt t (escape f u) → StopsAt true escape_step (part f u t) m
    → within 0x80 0xBF (t ! (f + m)) ≡ false
checked_begins t f u m h b k s = go (drop m (part f u t)) refl
  where
    go : (l : List ℕ) → drop m (part f u t) ≡ l → within 0x80 0xBF (t ! (f + m)) ≡ false
    go [] e =
        let z : f + m ≡ u =
        omega (arith, ap length e, length-drop m (part f u t), s.inside, length-take (u - f) (drop f t), length-drop f t, b.ordered, b.closed) in
        rw (z, k.2) (low_begins quote (omega arith))
    go (c ∷ r) e = rw (byte_at t f u m c r e) (escape_begins (part f u t) m c r sound s e)
      where
        sound : pushes fresh (part f u t) ≡ broken → ⊥
        sound = rw k.0 (body_sound t u h k.1 (omega (arith, k.0, b.ordered, b.closed)))

-- A SEGMENT
first_begins : (t : List ℕ) (p : ℕ) → utf8 t ≡ true → p ≡ 0 → within 0x80 0xBF (t ! p) ≡ false
first_begins t p h e = rw e (utf8_begins t h)

as_begins : (σ : Settings) (t : List ℕ) (s : Spelling) (p : ℕ) → utf8 t ≡ true → BodyIn (length t) s → Spelt t s → StopsIn σ t s p
    → within 0x80 0xBF (t ! p) ≡ false
as_begins σ t (standard q f u) p h b k x =
    rw x.1 (unchecked_begins (standard_step σ.backslash q) t f u x.0 x.2 (λ c r. standard_begins σ.backslash q c r k))
as_begins σ t (escape f u) p h b k x = rw x.1 (checked_begins t f u x.0 h b k x.2)
as_begins σ t (unicode e f u) p h b k x = rw x.1 (unchecked_begins (unicode_step e quote) t f u x.0 x.2 (λ c r. unicode_begins e c r k))
as_begins σ t (dollar f u) p h b k x = absurd x
as_begins σ t unspelt p h b k x = first_begins t p h x

pub alone_begins : (σ : Settings) (t : List ℕ) (p : ℕ) → utf8 t ≡ true → one σ t ≡ refused p → within 0x80 0xBF (t ! p) ≡ false
alone_begins σ t p u h = go (alone_stops σ t p h)
  where
    go : ((has 0 t ≡ true) × (p ≡ 0)) ⊎ ((has 0 t ≡ false) × StopsIn σ t (spelling t) p) → within 0x80 0xBF (t ! p) ≡ false
    go (inl x) = first_begins t p u x.1
    go (inr x) = as_begins σ t (spelling t) p u (spelling_body t) (spelling_spelt t) x.1
