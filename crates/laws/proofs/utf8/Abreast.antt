-- Bytes of a text and bytes that they stand for, which keep UTF-8 abreast: from wherever a text stands, both lead to the same place, unless the text itself is
-- broken there. So what a UTF-8 text stands for is UTF-8, though no byte of it is tested again. Assumes nothing.
use mathlib.Core.Path.{◌≡◌, refl, ap, ap₂, sym, ◌∙◌}
use mathlib.Core.Bool.{Bool, true, false, false≢true}
use mathlib.Core.List.{List, [], ◌∷◌, ◌++◌}
use Prim.Native.Nat.{ℕ, zero, suc, ◌<◌}
use native.Mathlib.Omega.{arith}
use lib.ListN.{length, take, drop, take-append-drop}
use lib.Seq.{drop-cons}
use Rattle.meaning.specs.Bytes.{◌!◌, backslash}
use Rattle.std.specs.Prelude.{if◌then◌else◌}
use Rattle.meaning.specs.Chars.{Due, due, broken, fresh, push, pushes, whole, utf8}
use Rattle.laws.proofs.utf8.Utf8.{pushes_append, pushes_broken, Good, fresh_good, push_good, pushes_good, ascii_push}

abbrev pub Abreast : List ℕ → List ℕ → Type 0
Abreast a v = (d : Due) → Good d → (pushes d a ≡ broken → ⊥) → pushes d v ≡ pushes d a

pub abreast_same : (a : List ℕ) → Abreast a a
abreast_same a d g h = refl

pub abreast_more : (a v b w : List ℕ) → Abreast a v → Abreast b w → Abreast (a ++ b) (v ++ w)
abreast_more a v b w x y d g h =
    let i : pushes d a ≡ broken → ⊥ = λ e. h (pushes_append d a b ∙ ap (λ (s : Due). pushes s b) e ∙ pushes_broken b) in
    pushes_append d v w ∙ ap (λ (s : Due). pushes s w) (x d g i)
    ∙ y (pushes d a) (pushes_good d a g) (λ e. h (pushes_append d a b ∙ e))
    ∙ sym (pushes_append d a b)

-- between characters there is one state
pub whole_fresh : (d : Due) → Good d → whole d ≡ true → d ≡ fresh
whole_fresh broken g h = absurd (false≢true h)
whole_fresh (due zero lo hi) g h = let e = g.0 in let f = g.1 in cc
whole_fresh (due (suc n) lo hi) g h = absurd (false≢true h)

-- bytes of ASCII
abbrev pub Lows : List ℕ → Type 0
Lows [] = Unit {0}
Lows (b ∷ t) = (b < 0x80) × Lows t

pub lows_append : (a b : List ℕ) → Lows a → Lows b → Lows (a ++ b)
lows_append [] b x y = y
lows_append (c ∷ a) b x y = (x.0, lows_append a b x.1 y)

-- an ASCII byte that breaks nothing stands between characters, and leads to another such place
pub low_next : (d : Due) (b : ℕ) (t : List ℕ) → Good d → b < 0x80 → (pushes d (b ∷ t) ≡ broken → ⊥) → (d ≡ fresh) × (push d b ≡ fresh)
low_next d b t g l h = go (whole d) refl (ascii_push d b g l)
  where
    go : (x : Bool) → whole d ≡ x → push d b ≡ (if x then fresh else broken) → (d ≡ fresh) × (push d b ≡ fresh)
    go true w e = (whole_fresh d g w, e)
    go false w e = absurd (h (ap (λ (s : Due). pushes s t) e ∙ pushes_broken t))

lows_fresh : (a : List ℕ) → Lows a → pushes fresh a ≡ fresh
lows_fresh [] l = refl
lows_fresh (b ∷ a) l = ap (λ (s : Due). pushes s a) (ascii_push fresh b fresh_good l.0) ∙ lows_fresh a l.1

-- an escape, which is ASCII, stands for whole characters
pub abreast_whole : (b : ℕ) (a v : List ℕ) → Lows (b ∷ a) → utf8 v ≡ true → Abreast (b ∷ a) v
unfolding utf8
abreast_whole b a v l u d g h =
    let k = low_next d b a g l.0 h in
    ap (λ (s : Due). pushes s v) k.0 ∙ whole_fresh (pushes fresh v) (pushes_good fresh v fresh_good) u
    ∙ sym (ap (λ (s : Due). pushes s a) k.1 ∙ lows_fresh a l.1)

-- a byte behind a backslash stands for itself, whatever follows it
pub abreast_hidden : (c : ℕ) → Abreast (backslash ∷ c ∷ []) (c ∷ [])
abreast_hidden c d g h =
    let k = low_next d backslash (c ∷ []) g (omega arith) h in
    ap (λ (s : Due). push s c) (k.0 ∙ sym k.1)

-- A BODY between two ASCII bytes of a UTF-8 text: what stands abreast of it is UTF-8
pub abreast_utf8 : (p : List ℕ) (q : ℕ) (a v r : List ℕ) → q < 0x80 → utf8 (p ++ (q ∷ (a ++ (q ∷ r)))) ≡ true → Abreast a v → utf8 v ≡ true
unfolding utf8
abreast_utf8 p q a v r l u x =
    let s : Due = pushes fresh p in
    let e = pushes_append fresh p (q ∷ (a ++ (q ∷ r))) in
    let n : pushes s (q ∷ (a ++ (q ∷ r))) ≡ broken → ⊥ = λ k. false≢true (sym (ap whole (e ∙ k)) ∙ u) in
    let f = low_next s q (a ++ (q ∷ r)) (pushes_good fresh p fresh_good) l n in
    let e2 : pushes s (q ∷ (a ++ (q ∷ r))) ≡ pushes (pushes fresh a) (q ∷ r) =
    ap (λ (d : Due). pushes d (a ++ (q ∷ r))) f.1 ∙ pushes_append fresh a (q ∷ r) in
    let n2 : pushes (pushes fresh a) (q ∷ r) ≡ broken → ⊥ = λ k. n (e2 ∙ k) in
    let f2 = low_next (pushes fresh a) q r (pushes_good fresh a fresh_good) l n2 in
    let n3 : pushes fresh a ≡ broken → ⊥ = λ k. n2 (ap (λ (d : Due). pushes d (q ∷ r)) k ∙ pushes_broken (q ∷ r)) in
    ap whole (x fresh fresh_good n3 ∙ f2.0)

-- the same at a place of a text: a body of k bytes behind the mark at place i, and the mark again
pub abreast_body : (t : List ℕ) (i k q : ℕ) (v : List ℕ) → q < 0x80 → utf8 t ≡ true → i < length t → t ! i ≡ q → k < length (drop (suc i) t)
    → drop (suc i) t ! k ≡ q → Abreast (take k (drop (suc i) t)) v → utf8 v ≡ true
abreast_body t i k q v l u h e g f x =
    let b : List ℕ = drop (suc i) t in
    let d : b ≡ take k b ++ (q ∷ drop (suc k) b) =
    sym (take-append-drop k b) ∙ ap (take k b ++◌) (drop-cons b k 0 g ∙ ap (◌∷ drop (suc k) b) f) in
    let c : t ≡ take i t ++ (q ∷ (take k b ++ (q ∷ drop (suc k) b))) =
    sym (take-append-drop i t) ∙ ap (take i t ++◌) (drop-cons t i 0 h ∙ ap₂ (λ (y : ℕ) (z : List ℕ). y ∷ z) e d) in
    abreast_utf8 (take i t) q (take k b) v (drop (suc k) b) l (ap utf8 (sym c) ∙ u) x
