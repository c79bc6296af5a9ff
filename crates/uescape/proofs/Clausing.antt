-- The word UESCAPE at a place, and what follows a closing mark. Assumes nothing.
use mathlib.Core.Path.{◌≡◌, refl, sym, ap, ◌∙◌}
use mathlib.Core.Bool.{Bool, true, false, ◌&&◌, not, false≢true}
use mathlib.Core.List.{List, [], ◌∷◌}
use Prim.Native.Nat.{ℕ, ◌+◌, ◌-◌, ◌≤◌, ◌<◌}
use native.Mathlib.Decide.{dec_le}
use native.Mathlib.Numerals.{add-one}
use native.Mathlib.Omega.{arith}
use lib.ListN.{length, take, drop, drop_of_length-le, length-drop}
use lib.Seq.{drop-drop}
use borrow.Author.Tests.{not-true, not-false, ltb-true, ltb-false, le-leb, lt-leb}
use lib.Dec.{leb}
use Rattle.std.specs.Prelude.{nat_lt, cond}
use Rattle.std.specs.Char.{to_ascii_uppercase}
use Rattle.meaning.specs.Bytes.{within}
use Rattle.meaning.specs.Bytes.{ascii}
use Rattle.std.specs.Prelude.{if◌then◌else◌}
use Rattle.meaning.specs.Steps.{gap, trim}
use Rattle.meaning.specs.Spelling.{upper}
use Rattle.laws.proofs.cutting.Gaps.{gap_fits}
use Rattle.laws.proofs.basics.Lists.{part_tail}
use Rattle.uescape.specs.declared.Argument.{Argument}
use Rattle.uescape.specs.declared.Argument.TheVariants.{Legal, Illegal}
use Rattle.std.specs.Prelude.{Some, None, Ok, Err}
use Rattle.uescape.specs.Clauses.{bad, is_keyword, argument_of, chosen_at, clause_at, clause_of}
use Rattle.laws.proofs.basics.Alike.{alike, alike_same, alike_long, alike_past}

-- THE WORD
-- std's upper case is the definition's
pub upper_same : (b : ℕ) → to_ascii_uppercase b ≡ upper b
unfolding upper within
upper_same b = go (nat_lt b 97) (nat_lt b 123) refl refl
  where
    go : (x y : Bool) → nat_lt b 97 ≡ x → nat_lt b 123 ≡ y → cond x b (cond y (b - 32) b) ≡ (if leb 97 b && leb b 122 then b - 32 else b)
    go true y e f = let h : b < 97 = ltb-true b 97 e in rw (lt-leb 97 b h)
    go false true e f =
        let h : 97 ≤ b = ltb-false b 97 e in
        let k : b < 123 = ltb-true b 123 f in
        let m : b ≤ 122 = omega arith in
        rw (le-leb 97 b h, le-leb b 122 m)
    go false false e f =
        let h : 97 ≤ b = ltb-false b 97 e in
        let k : 123 ≤ b = ltb-false b 123 f in
        let m : 122 < b = omega arith in
        rw (le-leb 97 b h, lt-leb b 122 m)

keyword_alike : (u : List ℕ) → alike upper (ascii "UESCAPE") u ≡ is_keyword u
unfolding is_keyword
keyword_alike u = alike_same upper (ascii "UESCAPE") u

pub keyword_by : (u : List ℕ) (x : Bool) → x ≡ alike upper (ascii "UESCAPE") u → x ≡ is_keyword u
keyword_by u x e = e ∙ keyword_alike u

pub keyword_past : (l : List ℕ) (at : ℕ) → length l ≤ at → false ≡ is_keyword (drop at l)
keyword_past l at h = keyword_by (drop at l) false (alike_past upper (ascii "UESCAPE") l at h (λ e. omega arith))

-- it has seven bytes
keyword_room : (u : List ℕ) → is_keyword u ≡ true → 7 ≤ length u
keyword_room u k = go (dec_le 7 (length u))
  where
    go : Dec (7 ≤ length u) → 7 ≤ length u
    go (yes h) = h
    go (no h) = absurd (false≢true (sym (alike_long upper (ascii "UESCAPE") u (omega arith)) ∙ keyword_alike u ∙ k))

-- WHAT FOLLOWS a place
pub clause_past : (l : List ℕ) (at : ℕ) → length l ≤ at → Ok None ≡ clause_of l at
unfolding clause_of
clause_past l at h = rw (drop_of_length-le l h)

clause_cons : (l : List ℕ) (j : ℕ) (u : List ℕ) → 0 < length u
    → clause_at l j u ≡ (if is_keyword u then chosen_at l (j + 7 + gap (drop 7 u)) (argument_of (trim (drop 7 u))) else Err bad)
clause_cons l j [] h = absurd (omega arith)
clause_cons l j (b ∷ u) h = refl

-- past n bytes of white space
module _ (l : List ℕ) (at n : ℕ) (en : n ≡ gap (drop at l)) where
  pub gap_inside : at < length l → at + n ≤ length l
  gap_inside h = omega (arith, gap_fits (drop at l), length-drop at l)

  clause_behind : clause_of l at ≡ clause_at l (at + n) (drop (at + n) l)
  unfolding clause_of
  clause_behind = rw (drop-drop (gap (drop at l)) at l, ← en)

  pub clause_end : length l ≤ at + n → Ok None ≡ clause_of l at
  clause_end h = sym (clause_behind ∙ rw (drop_of_length-le l h))

  module _ (h : at + n < length l) (x : Bool) (ex : x ≡ is_keyword (drop (at + n) l)) where
    clause_word : clause_of l at
        ≡ (if x then chosen_at l (at + n + 7 + gap (drop (at + n + 7) l)) (argument_of (drop (at + n + 7 + gap (drop (at + n + 7) l)) l)) else Err bad)
    clause_word =
        clause_behind ∙ clause_cons l (at + n) (drop (at + n) l) (omega (arith, length-drop (at + n) l))
        ∙ rw (← ex, drop-drop 7 (at + n) l, drop-drop (gap (drop (at + n + 7) l)) (at + n + 7) l)

    pub clause_other : not x ≡ true → Err bad ≡ clause_of l at
    clause_other k = sym (clause_word ∙ rw (not-true x k))

    -- the argument, past the word and g bytes of white space
    module _ (k : not x ≡ false) (g : ℕ) (eg : g ≡ gap (drop (at + n + 7) l)) where
      pub word_fits : at + n + 7 + g ≤ length l
      word_fits =
          let r = keyword_room (drop (at + n) l) (sym ex ∙ not-false x k) in
          omega (arith, length-drop (at + n) l, length-drop (at + n + 7) l, gap_fits (drop (at + n + 7) l))

      module _ (a : Argument) (ea : a ≡ argument_of (take (length l - (at + n + 7 + g)) (drop (at + n + 7 + g) l))) where
        clause_by : clause_of l at ≡ chosen_at l (at + n + 7 + g) a
        clause_by =
            let s : ℕ = at + n + 7 + g in
            clause_word
            ∙ rw (not-false x k, ← eg) (ap (chosen_at l s) (sym (ea ∙ ap argument_of (part_tail l s))))

        pub clause_legal : a ≡ Legal → Ok (Some (record { start = at + n + 7 + g + 1; end = length l - 1 })) ≡ clause_of l at
        clause_legal e = sym (clause_by ∙ rw (e, add-one (at + n + 7 + g)))

        pub clause_illegal : a ≡ Illegal → Err bad ≡ clause_of l at
        clause_illegal e = sym (clause_by ∙ rw e)
