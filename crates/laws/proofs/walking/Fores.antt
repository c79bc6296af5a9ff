-- The front of a text: a course that comes to the front's end, unit by unit, is the course of that front alone. Assumes nothing.
use mathlib.Core.Path.{◌≡◌, refl, ap, ◌∙◌}
use mathlib.Core.Bool.{Bool, true, false, ◌&&◌}
use mathlib.Core.List.{List, [], ◌∷◌, ◌++◌}
use Prim.Native.Nat.{ℕ, zero, suc, ◌+◌, ◌-◌, ◌*◌, ◌%◌, ◌≤◌}
use Prim.Native.Char.{code}
use native.Mathlib.Omega.{arith}
use lib.Dec.{eqb, ltb}
use lib.ListN.{length, take, drop, length-drop, take-append-drop}
use lib.Seq.{length-take-le, drop-append-le}
use borrow.Author.Tests.{ltb-false}
use Rattle.meaning.specs.Bytes.{◌!◌, ascii, has, starts, within, quote, backslash, digit, digits, number}
use Rattle.std.specs.Prelude.{if◌then◌else◌}
use Rattle.meaning.specs.Chars.{encode}
use Rattle.meaning.specs.Walk.{Step, keep, give, stop, Trace, ended, stopped, kept, gave, walk, size, stops}
use Rattle.meaning.specs.Steps.{byte_of, doubled, mysql_table, mysql, standard_step, escape_table, one_byte, may_escape, scalar_by, escaped, escape_step, pair, low_half}
use Rattle.meaning.specs.Steps.{uescaped, unicode_step}
use Rattle.laws.proofs.basics.Digits.{digits_le}
use Rattle.laws.proofs.walking.Walks.{graft, first_is, Inside}
use Rattle.laws.proofs.walking.Courses.{SoFar}
use Rattle.laws.proofs.cutting.EscapeStops.{Hidden, escaped_hidden}

-- what stands inside a text stands there without what follows
abbrev pub Fore : (List ℕ → Step) → List ℕ → Type 0
Fore step r = (b : ℕ) (t : List ℕ) → Inside (step (b ∷ (t ++ r))) (length t) → step (b ∷ t) ≡ step (b ∷ (t ++ r))

-- the course over a text's front is the course of that front alone
pub walk_fore : (step : List ℕ → Step) (r : List ℕ) → Fore step r → (k : ℕ) (t : List ℕ) (c q : Trace) → stops c ≡ false → k + size c ≡ length t
    → walk step k (t ++ r) ≡ graft c q → walk step k t ≡ c
walk_fore step r f k [] ended q g s w = nothing k
  where
    nothing : (k : ℕ) → walk step k [] ≡ ended
    nothing zero = refl
    nothing (suc k) = refl
walk_fore step r f k [] stopped q g s w = cc
walk_fore step r f k [] (kept a c) q g s w = absurd (omega arith)
walk_fore step r f k [] (gave n out c) q g s w = absurd (omega arith)
walk_fore step r f (suc k) (b ∷ t) c q g s w = walk_fore step r f k t c q g (omega arith) w
walk_fore step r f zero (b ∷ t) ended q g s w = absurd (omega arith)
walk_fore step r f zero (b ∷ t) stopped q g s w = cc
walk_fore step r f zero (b ∷ t) (kept a c) q g s w =
    let e : step (b ∷ (t ++ r)) ≡ keep = first_is step b (t ++ r) (kept a (graft c q)) w in
    let v : kept b (walk step 0 (t ++ r)) ≡ kept a (graft c q) = rw e at w in
    let i = walk_fore step r f 0 t c q g (omega arith) (cc) in
    rw (f b t (rw e tt) ∙ e) (cc)
walk_fore step r f zero (b ∷ t) (gave n out c) q g s w =
    let e : step (b ∷ (t ++ r)) ≡ give n out = first_is step b (t ++ r) (gave n out (graft c q)) w in
    let v : gave n out (walk step n (t ++ r)) ≡ gave n out (graft c q) = rw e at w in
    let i = walk_fore step r f n t c q g (omega arith) (cc) in
    rw (f b t (rw e (omega arith)) ∙ e) (cc)

-- the body up to k alone has the course that stands so far
pub so_far_alone : (step : List ℕ → Step) (l : List ℕ) (k : ℕ) (s : SoFar step l k) → Fore step (drop k l) → walk step 0 (take k l) ≡ s.course
so_far_alone step l k s f =
    walk_fore step (drop k l) f 0 (take k l) s.course (walk step 0 (drop k l)) s.goes (omega (arith, s.place, length-take-le k l s.inside))
    (ap (walk step 0) (take-append-drop k l) ∙ s.rest)

-- DIGITS that end inside the front are the front's
pub digits_fore : (β w : ℕ) (t r : List ℕ) → digits β w (t ++ r) ≤ length t → digits β w t ≡ digits β w (t ++ r)
digits_fore β zero t r h = refl
digits_fore β (suc w) [] r h = omega arith
digits_fore β (suc w) (b ∷ t) r h = go (ltb (digit b) β) h (digits_fore β w t r)
  where
    go : (x : Bool) → (if x then suc (digits β w (t ++ r)) else 0) ≤ suc (length t) → (digits β w (t ++ r) ≤ length t → digits β w t ≡ digits β w (t ++ r))
        → (if x then suc (digits β w t) else 0) ≡ (if x then suc (digits β w (t ++ r)) else 0)
    go true h ih = ap suc (ih (omega arith))
    go false h ih = refl

pub number_fore : (β n v : ℕ) (t r : List ℕ) → n ≤ length t → number β n v t ≡ number β n v (t ++ r)
number_fore β zero v t r h = refl
number_fore β (suc n) v [] r h = absurd (omega arith)
number_fore β (suc n) v (b ∷ t) r h = number_fore β n (v * β + digit b) t r (omega arith)

-- one of two units, or a byte that stands for itself, by tests that see the same
choose : (x y : Bool) (a a' b b' : Step) (n : ℕ) → (Inside a' n → a ≡ a') → (Inside b' n → b ≡ b') → Inside (if x then a' else if y then b' else keep) n
    → (if x then a else if y then b else keep) ≡ (if x then a' else if y then b' else keep)
choose true y a a' b b' n p q i = p i
choose false true a a' b b' n p q i = q i
choose false false a a' b b' n p q i = refl

-- a unit that a test gives fits
given : (x : Bool) (k : ℕ) (out : List ℕ) (n : ℕ) → Inside (if x then give k out else stop) n → k ≤ n
given true k out n i = i
given false k out n i = absurd i

-- THE MARK. A doubled one has its second byte
doubled_fore : (q : ℕ) (t r : List ℕ) → Inside (doubled q (t ++ r)) (length t) → doubled q t ≡ doubled q (t ++ r)
unfolding doubled
doubled_fore q (c ∷ t) r i = refl
doubled_fore q [] r i = let h = given (eqb (r ! 0) q) 1 (q ∷ []) 0 i in absurd (omega arith)

-- STANDARD. A backslash takes one byte more
pub mysql_gives : (c : ℕ) (t : List ℕ) → (out : List ℕ) × (mysql (c ∷ t) ≡ give 1 out)
mysql_gives c t = go (ltb (byte_of mysql_table c) 256) (has c (ascii "%_"))
  where
    go : (x y : Bool) → (out : List ℕ)
        × ((if x then give 1 (byte_of mysql_table c ∷ []) else if y then give 1 (backslash ∷ c ∷ []) else give 1 (c ∷ [])) ≡ give 1 out)
    go true y = (byte_of mysql_table c ∷ [], refl)
    go false true = (backslash ∷ c ∷ [], refl)
    go false false = (c ∷ [], refl)

mysql_fore : (t r : List ℕ) → Inside (mysql (t ++ r)) (length t) → mysql t ≡ mysql (t ++ r)
mysql_fore (c ∷ t) r i = refl
mysql_fore [] [] i = refl
mysql_fore [] (c ∷ r) i = let h : 1 ≤ 0 = rw (mysql_gives c r).1 at i in absurd (omega arith)

pub standard_fore : (bs : Bool) (q : ℕ) (r : List ℕ) → Fore (standard_step bs q) r
standard_fore bs q r b t =
    choose (bs && eqb b backslash) (eqb b q) (mysql t) (mysql (t ++ r)) (doubled q t) (doubled q (t ++ r)) (length t) (mysql_fore t r) (doubled_fore q t r)

-- E
one_inside : (k b n : ℕ) → Inside (one_byte k b) n → k ≤ n
unfolding one_byte
one_inside k b n i = go (eqb b 0) i
  where
    go : (x : Bool) → Inside (if x then stop else give k (b ∷ [])) n → k ≤ n
    go true i = absurd i
    go false i = i

scalar_inside : (w k : ℕ) (t : List ℕ) (n : ℕ) → Inside (scalar_by w k t) n → k ≤ n
unfolding scalar_by
scalar_inside w k t n i = given (eqb (digits 16 w t) w && may_escape (number 16 w 0 t)) k (encode (number 16 w 0 t)) n i

-- w digits there are the front's
scalar_same : (w k : ℕ) (t r : List ℕ) → w ≤ length t → scalar_by w k t ≡ scalar_by w k (t ++ r)
unfolding scalar_by
scalar_same w k t r h = rw (digits_fore 16 w t r (omega (arith, digits_le 16 w (t ++ r))), number_fore 16 w 0 t r h)

-- an escape takes the byte behind the backslash
hidden_some : (s : Step) (u : List ℕ) → Hidden s u → Inside s 0 → ⊥
hidden_some keep u p i = p
hidden_some (give zero out) u p i = p
hidden_some (give (suc k) out) u p i = omega arith
hidden_some stop u p i = i

escaped_fore : (t r : List ℕ) → Inside (escaped (t ++ r)) (length t) → escaped t ≡ escaped (t ++ r)
escaped_fore [] r i = absurd (hidden_some (escaped r) r (escaped_hidden r) i)
escaped_fore (c ∷ t) r i =
    go (ltb (byte_of escape_table c) 256) (ltb 0 (digits 8 3 (c ∷ (t ++ r)))) (eqb c (code "x")) (ltb 0 (digits 16 2 (t ++ r))) refl refl refl refl i
  where
    -- no digit stands there, so none stands in the front
    none : (β w : ℕ) (t : List ℕ) → ltb 0 (digits β w (t ++ r)) ≡ false → digits β w t ≡ digits β w (t ++ r)
    none β w t e = digits_fore β w t r (omega (arith, ltb-false 0 (digits β w (t ++ r)) e))

    by_letter : (x y : Bool) → Inside (if x then scalar_by 4 5 (t ++ r) else if y then scalar_by 8 9 (t ++ r) else one_byte 1 c) (suc (length t))
        → (if x then scalar_by 4 5 t else if y then scalar_by 8 9 t else one_byte 1 c)
        ≡ (if x then scalar_by 4 5 (t ++ r) else if y then scalar_by 8 9 (t ++ r) else one_byte 1 c)
    by_letter true y i = scalar_same 4 5 t r (omega (arith, scalar_inside 4 5 (t ++ r) (suc (length t)) i))
    by_letter false true i = scalar_same 8 9 t r (omega (arith, scalar_inside 8 9 (t ++ r) (suc (length t)) i))
    by_letter false false i = refl

    go : (x1 x2 x3 x4 : Bool) → ltb (byte_of escape_table c) 256 ≡ x1 → ltb 0 (digits 8 3 (c ∷ (t ++ r))) ≡ x2
        → eqb c (code "x") ≡ x3 → ltb 0 (digits 16 2 (t ++ r)) ≡ x4
        → Inside
        (if x1 then give 1 (byte_of escape_table c ∷ [])
        else if x2 then one_byte (digits 8 3 (c ∷ (t ++ r))) (number 8 (digits 8 3 (c ∷ (t ++ r))) 0 (c ∷ (t ++ r)) % 256)
        else if x3 && x4 then one_byte (suc (digits 16 2 (t ++ r))) (number 16 (digits 16 2 (t ++ r)) 0 (t ++ r))
        else if eqb c (code "u") then scalar_by 4 5 (t ++ r)
        else if eqb c (code "U") then scalar_by 8 9 (t ++ r)
        else one_byte 1 c) (suc (length t))
        → escaped (c ∷ t) ≡ escaped (c ∷ (t ++ r))
    go true x2 x3 x4 e1 e2 e3 e4 i = rw e1
    go false true x3 x4 e1 e2 e3 e4 i =
        let h = one_inside (digits 8 3 (c ∷ (t ++ r))) (number 8 (digits 8 3 (c ∷ (t ++ r))) 0 (c ∷ (t ++ r)) % 256) (suc (length t)) i in
        rw (e1, digits_fore 8 3 (c ∷ t) r h, number_fore 8 (digits 8 3 (c ∷ (t ++ r))) 0 (c ∷ t) r h, e2)
    go false false true true e1 e2 e3 e4 i =
        let h : digits 16 2 (t ++ r) ≤ length t = omega (arith, one_inside (suc (digits 16 2 (t ++ r))) (number 16 (digits 16 2 (t ++ r)) 0 (t ++ r)) (suc (length t)) i) in
        rw (e1, none 8 3 (c ∷ t) e2, e2, e3, digits_fore 16 2 t r h, e4, number_fore 16 (digits 16 2 (t ++ r)) 0 t r h)
    go false false true false e1 e2 e3 e4 i = rw (e1, none 8 3 (c ∷ t) e2, e2, e3, none 16 2 t e4, e4) (by_letter (eqb c (code "u")) (eqb c (code "U")) i)
    go false false false x4 e1 e2 e3 e4 i = rw (e1, none 8 3 (c ∷ t) e2, e2, e3) (by_letter (eqb c (code "u")) (eqb c (code "U")) i)

pub escape_fore : (r : List ℕ) → Fore escape_step r
escape_fore r b t =
    choose (eqb b backslash) (eqb b quote) (escaped t) (escaped (t ++ r)) (doubled quote t) (doubled quote (t ++ r)) (length t) (escaped_fore t r)
    (doubled_fore quote t r)

-- U&, with the escape character's bytes e. What begins a text begins its front, where that is long enough, and what does not begin the text begins no front
starts_fore : (e t r : List ℕ) → length e ≤ length t → starts e t ≡ starts e (t ++ r)
starts_fore [] t r h = refl
starts_fore (c ∷ e) [] r h = absurd (omega arith)
starts_fore (c ∷ e) (b ∷ t) r h = ap (eqb c b &&◌) (starts_fore e t r (omega arith))

starts_less : (e t r : List ℕ) → starts e (t ++ r) ≡ false → starts e t ≡ false
starts_less [] t r h = h
starts_less (c ∷ e) [] r h = refl
starts_less (c ∷ e) (b ∷ t) r h = go (eqb c b) h (starts_less e t r)
  where
    go : (x : Bool) → (x && starts e (t ++ r)) ≡ false → (starts e (t ++ r) ≡ false → starts e t ≡ false) → (x && starts e t) ≡ false
    go true g ih = ih g
    go false g ih = refl

low_inside : (e : List ℕ) (h : ℕ) (t : List ℕ) (n : ℕ) → Inside (low_half e h t) n → length e + length e + 7 ≤ n
unfolding low_half
low_inside e h t n i =
    given (starts e t && eqb (digits 16 4 (drop (length e) t)) 4 && within 0xDC00 0xDFFF (number 16 4 0 (drop (length e) t))) (length e + length e + 7)
    (encode (pair h (number 16 4 0 (drop (length e) t)))) n i

low_same : (e : List ℕ) (h : ℕ) (t r : List ℕ) → length e + 4 ≤ length t → low_half e h t ≡ low_half e h (t ++ r)
unfolding low_half
low_same e h t r l =
    let d = drop (length e) t in
    rw (
      starts_fore e t r (omega arith),
      drop-append-le (length e) t r (omega arith),
      digits_fore 16 4 d r (omega (arith, digits_le 16 4 (d ++ r), length-drop (length e) t)),
      number_fore 16 4 0 d r (omega (arith, length-drop (length e) t)),
    )

-- four digits, of a high half or a scalar
abbrev four_by : List ℕ → Bool → List ℕ → Step
four_by e z t = if z then low_half e (number 16 4 0 t) (drop 4 t) else scalar_by 4 (length e + 3) t

abbrev high_half : List ℕ → Bool
high_half t = eqb (digits 16 4 t) 4 && within 0xD800 0xDBFF (number 16 4 0 t)

four_inside : (e : List ℕ) (z : Bool) (t : List ℕ) (n : ℕ) → Inside (four_by e z t) n → length e + 3 ≤ n
four_inside e true t n i = omega (arith, low_inside e (number 16 4 0 t) (drop 4 t) n i)
four_inside e false t n i = scalar_inside 4 (length e + 3) t n i

-- whatever stands behind the escape, the escape is inside
uescaped_inside : (e t : List ℕ) (n : ℕ) → Inside (uescaped e t) n → length e ≤ suc n
unfolding uescaped
uescaped_inside e t n i = go (starts e t) (eqb (t ! 0) (code "+")) i
  where
    go : (x y : Bool)
        → Inside (if x then give (length e + length e - 1) e else if y then scalar_by 6 (length e + 6) (drop 1 t) else four_by e (high_half t) t) n
        → length e ≤ suc n
    go true y i = omega arith
    go false true i = omega (arith, scalar_inside 6 (length e + 6) (drop 1 t) n i)
    go false false i = omega (arith, four_inside e (high_half t) t n i)

-- t stands behind the escape, with n bytes behind the escape's first
four_fore : (e t r : List ℕ) (n : ℕ) → length e + length t ≡ suc n → Inside (four_by e (high_half (t ++ r)) (t ++ r)) n
    → four_by e (high_half t) t ≡ four_by e (high_half (t ++ r)) (t ++ r)
four_fore e t r n there i =
    let h : 4 ≤ length t = omega (arith, four_inside e (high_half (t ++ r)) (t ++ r) n i) in
    rw (digits_fore 16 4 t r (omega (arith, digits_le 16 4 (t ++ r))), number_fore 16 4 0 t r h) (go (high_half (t ++ r)) h i)
  where
    go : (z : Bool) → 4 ≤ length t → Inside (four_by e z (t ++ r)) n
        → (if z then low_half e (number 16 4 0 (t ++ r)) (drop 4 t) else scalar_by 4 (length e + 3) t) ≡ four_by e z (t ++ r)
    go true h i =
        rw (drop-append-le 4 t r h)
        (low_same e (number 16 4 0 (t ++ r)) (drop 4 t) r (omega (arith, length-drop 4 t, low_inside e (number 16 4 0 (t ++ r)) (drop 4 (t ++ r)) n i)))
    go false h i = scalar_same 4 (length e + 3) t r h

uescaped_fore : (e t r : List ℕ) (n : ℕ) → length e + length t ≡ suc n → Inside (uescaped e (t ++ r)) n → uescaped e t ≡ uescaped e (t ++ r)
unfolding uescaped
uescaped_fore e t r n there i = go t (starts e (t ++ r)) (eqb ((t ++ r) ! 0) (code "+")) there refl refl i
  where
    go : (t : List ℕ) (x y : Bool) → length e + length t ≡ suc n → starts e (t ++ r) ≡ x → eqb ((t ++ r) ! 0) (code "+") ≡ y
        → Inside
        (if x then give (length e + length e - 1) e else if y then scalar_by 6 (length e + 6) (drop 1 (t ++ r)) else four_by e (high_half (t ++ r)) (t ++ r)) n
        → uescaped e t ≡ uescaped e (t ++ r)
    go t true y l ex ey i = rw (starts_fore e t r (omega arith), ex)
    go [] false true l ex ey i = absurd (omega (arith, scalar_inside 6 (length e + 6) (drop 1 r) n i))
    go [] false false l ex ey i = absurd (omega (arith, four_inside e (high_half r) r n i))
    go (c ∷ t) false true l ex ey i =
        rw (starts_less e (c ∷ t) r ex, ex, ey) (scalar_same 6 (length e + 6) t r (omega (arith, scalar_inside 6 (length e + 6) (t ++ r) n i)))
    go (c ∷ t) false false l ex ey i = rw (starts_less e (c ∷ t) r ex, ex, ey) (four_fore e (c ∷ t) r n l i)

pub unicode_fore : (e : List ℕ) (q : ℕ) (r : List ℕ) → Fore (unicode_step e q) r
unicode_fore e q r b t i = go (eqb b q) (starts e (b ∷ (t ++ r))) refl refl i
  where
    go : (x y : Bool) → eqb b q ≡ x → starts e (b ∷ (t ++ r)) ≡ y
        → Inside (if x then doubled q (t ++ r) else if y then uescaped e (drop (length e) (b ∷ (t ++ r))) else keep) (length t)
        → unicode_step e q (b ∷ t) ≡ unicode_step e q (b ∷ (t ++ r))
    go true y ex ey i = rw ex (doubled_fore q t r i)
    go false true ex ey i =
        let l : length e ≤ suc (length t) = uescaped_inside e (drop (length e) (b ∷ (t ++ r))) (length t) i in
        let d : drop (length e) (b ∷ (t ++ r)) ≡ drop (length e) (b ∷ t) ++ r = drop-append-le (length e) (b ∷ t) r l in
        rw (ex, starts_fore e (b ∷ t) r l, ey, d)
        (uescaped_fore e (drop (length e) (b ∷ t)) r (length t) (omega (arith, length-drop (length e) (b ∷ t))) (rw d at i))
    go false false ex ey i = rw (ex, starts_less e (b ∷ t) r ey, ey)
