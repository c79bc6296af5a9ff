-- UTF-8 texts are exactly the sequences of scalars' encodings, each of one sequence only; where such a text can be cut. Assumes nothing.
use mathlib.Core.Path.{◌≡◌, refl, ap, sym, ◌∙◌, subst}
use mathlib.Core.Bool.{Bool, true, false, false≢true}
use mathlib.Core.List.{List, [], ◌∷◌, ◌++◌, append_cancel_left}
use Prim.Native.Nat.{ℕ, zero, suc, ◌-◌}
use native.Mathlib.Nat.{add-zero}
use native.Mathlib.Omega.{arith}
use lib.ListN.{length, take, drop, length-append, take-append-drop}
use lib.Seq.{get_or-drop}
use Rattle.meaning.specs.Bytes.{within, ◌!◌}
use Rattle.std.specs.Prelude.{if◌then◌else◌}
use Rattle.meaning.specs.Chars.{Due, due, broken, fresh, pushes, whole, utf8, lead, base, encode, is_scalar, gather}
use Rattle.laws.proofs.basics.Tests.{within_yes, within_bounds}
use Rattle.laws.proofs.utf8.Utf8.{pushes_append, pushes_broken, utf8_append, Good, fresh_good, pushes_good, later_lead}
use Rattle.laws.proofs.utf8.Encode.{AsDue, Decodes, gather_append, gather_encode, encode_decodes, encode_utf8, encode_length}

abbrev pub encodes : List ℕ → List ℕ
encodes [] = []
encodes (c ∷ cs) = encode c ++ encodes cs

abbrev pub AllScalar : List ℕ → Type 0
AllScalar [] = Unit {0}
AllScalar (c ∷ cs) = (is_scalar c ≡ true) × AllScalar cs

pub utf8_of_scalars : (cs : List ℕ) → AllScalar cs → utf8 (encodes cs) ≡ true
unfolding utf8
utf8_of_scalars [] a = refl
utf8_of_scalars (c ∷ cs) a = utf8_append (encode c) (encodes cs) (encode_utf8 c a.0) ∙ utf8_of_scalars cs a.1

-- a text where n bytes of a character are due: these, and then whole characters
record Parsed (n lo hi : ℕ) (t : List ℕ) : Type 0 where
  front : List ℕ
  scalars : List ℕ
  as_due : AsDue n lo hi front
  all : AllScalar scalars
  text : t ≡ front ++ encodes scalars

pushes_parsed : (t : List ℕ) (n lo hi : ℕ) → whole (pushes (due n lo hi) t) ≡ true → Parsed n lo hi t
pushes_parsed [] zero lo hi h = record { front = []; scalars = []; as_due = tt; all = tt; text = refl }
pushes_parsed [] (suc n) lo hi h = absurd (false≢true h)
pushes_parsed (b ∷ t) zero lo hi h = go (lead b) refl h (λ n lo hi. pushes_parsed t n lo hi)
  where
    go : (d : Due) → lead b ≡ d → whole (pushes d t) ≡ true → ((n lo hi : ℕ) → whole (pushes (due n lo hi) t) ≡ true → Parsed n lo hi t)
        → Parsed zero lo hi (b ∷ t)
    go broken e h ih = absurd (false≢true (rw (pushes_broken t) at h))
    go (due n l u) e h ih =
        let p = ih n l u h in
        let c = gather n l u (b - base n) p.front in
        let g = gather_encode b n l u p.front e p.as_due in
        record { front = []; scalars = c ∷ p.scalars; as_due = tt; all = (g.0, p.all); text = rw g.1 (ap (λ (s : List ℕ). b ∷ s) p.text) }
pushes_parsed (b ∷ t) (suc n) lo hi h = go (within lo hi b) refl h (λ h. pushes_parsed t n 0x80 0xBF h)
  where
    go : (x : Bool) → within lo hi b ≡ x → whole (pushes (if x then due n 0x80 0xBF else broken) t) ≡ true
        → (whole (pushes (due n 0x80 0xBF) t) ≡ true → Parsed n 0x80 0xBF t) → Parsed (suc n) lo hi (b ∷ t)
    go true w h ih =
        let p = ih h in
        let k = within_bounds lo hi b w in
        record { front = b ∷ p.front; scalars = p.scalars; as_due = (k.0, k.1, p.as_due); all = p.all; text = ap (λ (s : List ℕ). b ∷ s) p.text }
    go false w h ih = absurd (false≢true (rw (pushes_broken t) at h))

pub scalars_of_utf8 : (t : List ℕ) → utf8 t ≡ true → (cs : List ℕ) × AllScalar cs × (t ≡ encodes cs)
unfolding utf8
scalars_of_utf8 t h = let p = pushes_parsed t 0 0x80 0xBF h in go p.front p.scalars p.as_due p.all p.text
  where
    go : (u cs : List ℕ) → AsDue 0 0x80 0xBF u → AllScalar cs → t ≡ u ++ encodes cs → (cs : List ℕ) × AllScalar cs × (t ≡ encodes cs)
    go [] cs d a e = (cs, a, e)
    go (b ∷ u) cs d a e = absurd d

-- the character at the front of a text is one only
pub encode_front : (c d : ℕ) (x y : List ℕ) → is_scalar c ≡ true → is_scalar d ≡ true → encode c ++ x ≡ encode d ++ y → c ≡ d
encode_front c d x y hc hd h = go (encode_decodes c hc) (encode_decodes d hd)
  where
    go : Decodes c → Decodes d → c ≡ d
    go p q =
        let e : p.b ∷ (p.t ++ x) ≡ q.b ∷ (q.t ++ y) = rw (p.spelled, q.spelled) at h in
        cc (
          gather_append p.n p.lo p.hi (p.b - base p.n) p.t x p.as_due,
          gather_append q.n q.lo q.hi (q.b - base q.n) q.t y q.as_due,
        )

pub encodes_unique : (cs ds : List ℕ) → encodes cs ≡ encodes ds → AllScalar cs → AllScalar ds → cs ≡ ds
encodes_unique [] [] e a b = refl
encodes_unique [] (d ∷ ds) e a b = absurd (omega (arith, simp length-append at (ap length e), encode_length d))
encodes_unique (c ∷ cs) [] e a b = absurd (omega (arith, simp length-append at (ap length e), encode_length c))
encodes_unique (c ∷ cs) (d ∷ ds) e a b =
    let z = encode_front c d (encodes cs) (encodes ds) a.0 b.0 e in
    let ih = encodes_unique cs ds (append_cancel_left (encode d) (encodes cs) (encodes ds) (rw z at e)) a.1 b.1 in
    cc

-- a character's inside is 80 .. BF: a text can be cut before any other byte, and at its end
whole_cut : (d : Due) (t : List ℕ) → Good d → within 0x80 0xBF (t ! 0) ≡ false → whole (pushes d t) ≡ true → whole d ≡ true
whole_cut broken t g w h = absurd (false≢true (rw (pushes_broken t) at h))
whole_cut (due zero lo hi) t g w h = refl
whole_cut (due (suc n) lo hi) [] g w h = h
whole_cut (due (suc n) lo hi) (b ∷ t) g w h = go (within lo hi b) refl h
  where
    go : (x : Bool) → within lo hi b ≡ x → whole (pushes (if x then due n 0x80 0xBF else broken) t) ≡ true → false ≡ true
    go true e h = let k = within_bounds lo hi b e in sym w ∙ within_yes 0x80 0xBF b (omega arith) (omega arith)
    go false e h = rw (pushes_broken t) at h

pub utf8_split : (a b : List ℕ) → within 0x80 0xBF (b ! 0) ≡ false → utf8 (a ++ b) ≡ true → (utf8 a ≡ true) × (utf8 b ≡ true)
unfolding utf8
utf8_split a b w h =
    let k = whole_cut (pushes fresh a) b (pushes_good fresh a fresh_good) w (sym (ap whole (pushes_append fresh a b)) ∙ h) in
    (k, sym (utf8_append a b k) ∙ h)

pub utf8_begins : (t : List ℕ) → utf8 t ≡ true → within 0x80 0xBF (t ! 0) ≡ false
unfolding utf8 within
utf8_begins [] h = refl
utf8_begins (b ∷ t) h = go (within 0x80 0xBF b) refl
  where
    go : (x : Bool) → within 0x80 0xBF b ≡ x → x ≡ false
    go true w = sym h ∙ ap whole (ap (λ (d : Due). pushes d t) (later_lead b w) ∙ pushes_broken t)
    go false w = refl

-- the same by the place
pub utf8_cut : (i : ℕ) (t : List ℕ) → utf8 t ≡ true → within 0x80 0xBF (t ! i) ≡ false → (utf8 (take i t) ≡ true) × (utf8 (drop i t) ≡ true)
utf8_cut i t h w = utf8_split (take i t) (drop i t) (rw (get_or-drop i t 0 0, add-zero i) w) (rw (take-append-drop i t) h)

pub utf8_uncut : (i : ℕ) (t : List ℕ) → utf8 (take i t) ≡ true → utf8 (drop i t) ≡ true → (utf8 t ≡ true) × (within 0x80 0xBF (t ! i) ≡ false)
utf8_uncut i t a b = (
  rw (take-append-drop i t) at (utf8_append (take i t) (drop i t) a ∙ b),
  rw (get_or-drop i t 0 0, add-zero i) at (utf8_begins (drop i t) b),
)

-- WHAT UTF-8 TEXT CAN BEGIN WITH: bytes that break nothing can be gone on with, to whole characters
later_completes : (n : ℕ) → (u : List ℕ) × (whole (pushes (due n 0x80 0xBF) u) ≡ true)
unfolding within
later_completes zero = ([], refl)
later_completes (suc n) = let r = later_completes n in (0x80 ∷ r.0, r.1)

due_completes : (d : Due) → Good d → (d ≡ broken → ⊥) → (u : List ℕ) × (whole (pushes d u) ≡ true)
due_completes broken g h = absurd (h refl)
due_completes (due zero lo hi) g h = ([], refl)
due_completes (due (suc n) lo hi) g h =
    let r = later_completes n in (
      lo ∷ r.0,
      subst (λ (x : Bool). whole (pushes (if x then due n 0x80 0xBF else broken) r.0) ≡ true)
          (sym (within_yes lo hi lo (omega arith) (omega (arith, g.2)))) r.1,
    )

pub front_completes : (t : List ℕ) → (pushes fresh t ≡ broken → ⊥) → (u : List ℕ) × (utf8 (t ++ u) ≡ true)
unfolding utf8
front_completes t h =
    let r = due_completes (pushes fresh t) (pushes_good fresh t fresh_good) h in (r.0, rw (pushes_append fresh t r.0) r.1)

-- and what it begins with breaks nothing
pub utf8_front : (t u : List ℕ) → utf8 (t ++ u) ≡ true → pushes fresh t ≡ broken → ⊥
unfolding utf8
utf8_front t u h e =
    false≢true (sym (ap whole (pushes_append fresh t u ∙ ap (λ (d : Due). pushes d u) e ∙ pushes_broken u)) ∙ h)
