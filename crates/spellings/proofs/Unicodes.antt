-- U& strings: what begins them, where they close, and the escape character that a clause chooses. Assumes nothing.
use mathlib.Core.Path.{◌≡◌, refl, sym, ap, ◌∙◌}
use mathlib.Core.Bool.{Bool, true, false, ◌&&◌, ◌||◌, not, false≢true, or-false}
use mathlib.Core.List.{List, [], ◌∷◌}
use Prim.Native.Char.{code}
use Prim.Native.Nat.{ℕ, suc, ◌+◌, ◌-◌, ◌≤◌, ◌<◌}
use native.Mathlib.Omega.{arith}
use lib.Dec.{eqb}
use lib.ListN.{length, take, drop, length-drop, length-take}
use lib.Seq.{drop-drop}
use borrow.Author.Tests.{ne_eqb, not-true, not-false}
use Rattle.meaning.specs.Bytes.{◌!◌, part, ascii, has, quote}
use Rattle.std.specs.Prelude.{if◌then◌else◌}
use Rattle.meaning.specs.Walk.{Trace, walk, stops}
use Rattle.meaning.specs.Steps.{closing_step, gap, trim}
use Rattle.meaning.specs.Spelling.{Spelling, encloses, legal_escape, argument, chosen, unicode_by, is_unicode, unicode_spelling}
use Rattle.laws.proofs.basics.Tests.{true→T, and_right}
use Rattle.laws.proofs.walking.Walks.{stops_inside}
use Rattle.laws.proofs.cutting.Openings.{inside}
use Rattle.laws.proofs.cutting.Arguments.{argument_inner}
use Rattle.cutting.specs.declared.marks.Mark.{Mark}
use Rattle.cutting.specs.declared.marks.Mark.TheVariants.{Quote, DoubleQuote}
use Rattle.cutting.specs.Marks.{mark_of, closed_of}
use Rattle.laws.proofs.basics.Lists.{part_tail}
use Rattle.cutting.proofs.Cuts.{course_at, course_unclosed}
use Rattle.uescape.specs.declared.EscapeCharacter.{EscapeCharacter}
use Rattle.uescape.specs.declared.BadClause.{BadClause}
use Rattle.spellings.specs.declared.spelling.Spelled.{Spelled}
use Rattle.spellings.specs.declared.spelling.Spelled.TheVariants.{Body, Unspelt}
use Rattle.uescape.specs.Clauses.{bad, is_keyword, legal_by, argument_of, chosen_at, clause_at, clause_of}
use Rattle.spellings.specs.Spelled.{spelled_of, enclosed_of, EscapeInside, LexemeSpelled, Lexes}
use Rattle.escapes.specs.declared.units.Family.TheVariants.{Unicode}
use Rattle.std.specs.Prelude.{Option, Some, None, Result, Ok, Err}

-- THE ESCAPE CHARACTER. What a clause makes of a body from 3 up to u
abbrev spelled_by : Mark → ℕ → Result (Option EscapeCharacter) BadClause → Spelled
spelled_by m u (Ok None) = enclosed_of (Unicode m) 3 u
spelled_by m u (Ok (Some π)) = Body (record { family = Unicode m; from = 3; until = u; escape_from = π.start; escape_until = π.end })
spelled_by m u (Err w) = Unspelt

-- which spells U& as it is chosen
record Chooses (m : Mark) (t : List ℕ) (r : Spelled) (s : Spelling) : Type 0 where
  means : spelled_of t r ≡ s
  inside : EscapeInside (length t) r
  family : LexemeSpelled m r

module _ (m : Mark) (t : List ℕ) (u : ℕ) where
  -- a legal character p stands behind the mark at s, up to the text's last byte
  shown : (s : ℕ) (p : List ℕ) → p ≡ part (suc s) (length t - 1) t → legal_escape p ≡ true → Chooses m t (spelled_by m u (chosen_at t s (legal_by p))) (unicode_by p u)
  shown s [] e h = absurd (false≢true h)
  shown s (c ∷ q) e h =
      let n : suc (length q) ≡ length (part (suc s) (length t - 1) t) = ap length e in
      let k : suc s < length t - 1 = omega (arith, length-take (length t - 1 - suc s) (drop (suc s) t)) in
      record { means = rw (ne_eqb (suc s) (length t - 1) (λ z. omega arith), ← e); inside = omega arith; family = refl }

  argued : (s : ℕ) (v : List ℕ) → v ≡ drop s t → Chooses m t (spelled_by m u (chosen_at t s (argument_of v))) (unicode_by (argument v) u)
  unfolding argument_of
  argued s v e = rw (argument_inner v) (go (encloses 0 quote v && legal_escape inner) refl)
    where
      inner : List ℕ
      inner = part 1 (length v - 1) v

      lies : inner ≡ part (suc s) (length t - 1) t
      lies =
          let k : length (drop s t) - 1 - 1 ≡ length t - 1 - suc s = omega (arith, length-drop s t) in
          let j : s + 1 ≡ suc s = omega arith in
          rw (e, k, drop-drop 1 s t, j)

      go : (x : Bool) → (encloses 0 quote v && legal_escape inner) ≡ x
          → Chooses m t (spelled_by m u (chosen_at t s (legal_by (if x then inner else [])))) (unicode_by (if x then inner else []) u)
      go true k = shown s inner lies (and_right (encloses 0 quote v) (legal_escape inner) k)
      go false k = record { means = refl; inside = tt; family = tt }

  clause_spells : (i : ℕ) → Chooses m t (spelled_by m u (clause_of t i)) (unicode_by (chosen (trim (drop i t))) u)
  unfolding clause_of is_keyword
  clause_spells i = go (trim (drop i t)) (drop-drop (gap (drop i t)) i t)
    where
      j : ℕ
      j = i + gap (drop i t)

      go : (w : List ℕ) → w ≡ drop j t → Chooses m t (spelled_by m u (clause_at t j w)) (unicode_by (chosen w) u)
      go [] e = record { means = refl; inside = omega arith; family = refl }
      go (b ∷ w) e = word (is_keyword (b ∷ w))
        where
          s : ℕ
          s = j + 7 + gap (drop 7 (b ∷ w))

          v : List ℕ
          v = trim (drop 7 (b ∷ w))

          behind : v ≡ drop s t
          behind =
              let g : ℕ = gap (drop 7 (b ∷ w)) in
              let k : j + (7 + g) ≡ s = omega arith in
              drop-drop g 7 (b ∷ w) ∙ ap (drop (7 + g)) e ∙ drop-drop (7 + g) j t ∙ ap (λ (n : ℕ). drop n t) k

          word : (x : Bool) → Chooses m t (spelled_by m u (if x then chosen_at t s (argument_of v) else Err bad)) (unicode_by (if x then argument v else []) u)
          word true = argued s v behind
          word false = record { means = refl; inside = tt; family = tt }

-- U& AND A MARK
pub unicode_by_lem : (t : List ℕ) (q a b d : ℕ) → a ≡ t ! 0 → b ≡ t ! 1 → d ≡ t ! 2 → (m : Mark) → q ≡ mark_of m
    → ((eqb a 85 || eqb a 117) && eqb b 38 && eqb d q) ≡ is_unicode (mark_of m) t
unfolding is_unicode
unicode_by_lem t q a b d ea eb ed m eq = rw (ea, eb, ed, eq, or-false)

mark_some : (m : Mark) → eqb 0 (mark_of m) ≡ false
mark_some Quote = refl
mark_some DoubleQuote = refl

module _ (t : List ℕ) (m : Mark) (x : Bool) (ex : x ≡ is_unicode (mark_of m) t) where
  pub unicode_not : not x ≡ true → Lexes m t Unspelt
  unfolding unicode_spelling
  unicode_not n = record { means = rw (← ex, not-true x n); inside = tt; family = tt }

  module _ (n : not x ≡ false) where
    -- a mark is no 0, so it lies inside the text
    pub unicode_room : 3 ≤ length t
    unfolding is_unicode
    unicode_room =
        inside (λ b. eqb b (mark_of m)) (mark_some m) t 2
        (and_right (has (t ! 0) (ascii "Uu") && eqb (t ! 1) (code "&")) (eqb (t ! 2) (mark_of m)) (sym ex ∙ not-false x n))

    -- the search for the closing mark
    module _ (r : Option ℕ) (er : r ≡ closed_of (walk (closing_step false (mark_of m)) 0 (take (length t - 3) (drop 3 t)))) where
      course : Trace
      course = walk (closing_step false (mark_of m)) 0 (drop 3 t)

      searched : r ≡ closed_of course
      unfolding course
      searched = er ∙ ap (λ (l : List ℕ). closed_of (walk (closing_step false (mark_of m)) 0 l)) (part_tail t 3)

      pub unicode_unclosed : r ≡ None → Lexes m t Unspelt
      unfolding unicode_spelling course
      unicode_unclosed e = record { means = rw (← ex, not-false x n, course_unclosed course (sym searched ∙ e)); inside = tt; family = tt }

      module _ (p : ℕ) (ep : r ≡ Some p) where
        pub unicode_inside : 3 + p < length t
        unfolding course
        unicode_inside =
            let c = course_at course p (sym searched ∙ ep) in
            let i = stops_inside (closing_step false (mark_of m)) 0 (drop 3 t) (true→T (stops course) c.0) in
            omega (arith, length-drop 3 t, c.1)

        -- what follows the mark
        module _ (c : Result (Option EscapeCharacter) BadClause) (ec : c ≡ clause_of t (3 + p + 1)) where
          unicode_spells : Chooses m t (spelled_by m (3 + p) c) (unicode_spelling (mark_of m) t)
          unfolding unicode_spelling course
          unicode_spells =
              let k = course_at course p (sym searched ∙ ep) in
              let z : 4 + p ≡ 3 + p + 1 = omega arith in
              rw (← ex, not-false x n, k.0, k.1, z, ec) (clause_spells m t (3 + p) (3 + p + 1))

          lexes : (r : Spelled) (k : Result (Option EscapeCharacter) BadClause) → c ≡ k → r ≡ spelled_by m (3 + p) k → Lexes m t r
          lexes r k ek er = let s = rw ek at unicode_spells in rw er (record { means = s.means; inside = s.inside; family = s.family })

          pub unicode_default : c ≡ Ok None → (r : Spelled) → r ≡ enclosed_of (Unicode m) 3 (3 + p) → Lexes m t r
          unicode_default e r er = lexes r (Ok None) e er

          pub unicode_chosen : (π : EscapeCharacter) → c ≡ Ok (Some π)
              → Lexes m t (Body (record { family = Unicode m; from = 3; until = 3 + p; escape_from = π.start; escape_until = π.end }))
          unicode_chosen π f = lexes (spelled_by m (3 + p) (Ok (Some π))) (Ok (Some π)) f refl

          pub unicode_bad : (w : BadClause) → c ≡ Err w → Lexes m t Unspelt
          unicode_bad w e = lexes Unspelt (Err w) e refl
