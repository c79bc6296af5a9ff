-- The reading of a text, by what each of its passes said. Assumes nothing.
use mathlib.Core.Path.{◌≡◌, refl, ap, ap₂, sym, ◌∙◌, subst}
use mathlib.Core.Bool.{Bool, true, false, ◌&&◌, not}
use mathlib.Core.List.{List, [], ◌∷◌, ◌++◌, append-nil}
use Prim.Native.Nat.{ℕ, suc, ◌+◌, ◌-◌, ◌≤◌, ◌<◌}
use native.Mathlib.Nat.{zero-add, le_of_eq}
use native.Mathlib.Omega.{arith}
use lib.Dec.{eqb}
use lib.ListN.{length, take, drop, get_or, length-append, length-take, length-drop, drop_of_length-le}
use lib.Seq.{drop-drop}
use borrow.Author.Tests.{not-true, not-false, eq-eqb, ne_eqb, le-leb}
use Rattle.meaning.specs.declared.Settings.{Settings}
use Rattle.meaning.specs.declared.ReadText.{ReadText}
use Rattle.meaning.specs.declared.ReadRefusal.{ReadRefusal}
use Rattle.meaning.specs.declared.ReadText.TheVariants as ReadText'
use Rattle.meaning.specs.declared.ReadRefusal.TheVariants as ReadRefusal'
use Rattle.meaning.specs.Bytes.{part, ascii, has, all_digits}
use Rattle.std.specs.Prelude.{if◌then◌else◌}
use Rattle.meaning.specs.Walk.{give, stop, gave, walk, stops}
use Rattle.meaning.specs.Cutting.{segment_step, cut}
use Rattle.meaning.specs.Reading.{Answer, borrowed, written, refused, Value, means, fails, onward, both, each, as_written}
use Rattle.meaning.specs.Kinds.{first_bits, later_bits, borrowed_as, bits_by, bits}
use Rattle.meaning.specs.Answers.{filled}
use Rattle.meaning.specs.Reads.{Reads}
use Rattle.laws.proofs.basics.Tests.{and_left}
use Rattle.laws.proofs.walking.Walks.{walk_drop}
use Rattle.laws.proofs.walking.Courses.{walk_at}
use Rattle.laws.proofs.walking.Passes.{put_part}
use Rattle.laws.proofs.questions.Owed.{reads_short, reads_written, reads_refused, reads_borrowed}
use Rattle.cutting.specs.Segments.{next_of}
use Rattle.cutting.specs.declared.cursor.Cursor.{Cursor}
use Rattle.cutting.specs.declared.cursor.Next.{Next}
use Rattle.cutting.specs.declared.cursor.Next.TheVariants as Next'
use Rattle.laws.proofs.basics.Lists.{part_tail}
use Rattle.cutting.proofs.Cursors.{UnitAt, at_end, at_remainder, at_segment}
use Rattle.bits.specs.Bodies.{later_of, number_in, Measures, bodies, body_step, BodiesFit, joined_bits, Ordered}
use Rattle.bits.proofs.Bodies.{each_bodies, own_length, first_by, letter_two}
use Rattle.std.specs.Prelude.{Result, Ok, Err}
use Rattle.bits.specs.declared.later.Misfit.{Misfit}
use Rattle.bits.specs.Bodies.{misfit_at}

-- what a measure says of a value
pub later_means : (x : Value) (n : ℕ) → later_of x ≡ Ok n → (w : List ℕ) × (x ≡ means w) × (length w ≡ n)
later_means (means w) n e = (w, refl, cc)
later_means (fails p) n e = let z : ◌≡◌ {A = ℕ} 0 1 = cc in absurd (omega arith)

pub later_fails : (x : Value) (m : Misfit) → later_of x ≡ Err m → x ≡ fails m.place
later_fails (means w) m e = cc
later_fails (fails q) m e = let z : misfit_at q ≡ m = cc in ap (λ (x : Misfit). fails x.place) z

filled_all : (v d : List ℕ) → length v ≤ length d → filled v d ≡ v ++ drop (length v) d
unfolding filled
filled_all v d h = rw (le-leb (length v) (length d) h)

-- JOINED: the digits from f to l of a text, and those of the segments from i on, which measuring found
module _ (σ : Settings) (β : ℕ) (t : List ℕ) (f l i : ℕ) (b : Ordered f l i (length t)) (r : Result ℕ Misfit)
    (m : Measures (each (later_bits β) (cut σ (take (length t - i) (drop i t)))) (length (take (length t - i) (drop i t))) r) where
  -- the definition's answer
  abbrev whole : Answer
  whole = joined_bits σ β (part f l t) i (drop i t)

  told : later_of (each (later_bits β) (cut σ (drop i t))) ≡ r
  told = ap (λ (x : List ℕ). later_of (each (later_bits β) (cut σ x))) (sym (part_tail t i)) ∙ sym m.answer

  first_length : length (part f l t) ≡ l - f
  first_length = length-take (l - f) (drop f t) ∙ omega (arith, length-drop f t, b.body, b.behind, b.inside)

  number_inside : i + number_in r ≤ length t
  number_inside = omega (arith, m.within, length-take (length t - i) (drop i t), length-drop i t, b.inside)

  pub joined_fits : (n : ℕ) → r ≡ Ok n → l - f + n ≤ length t
  joined_fits n q = omega (arith, number_inside, ap number_in q, b.behind)

  pub place_fits : (w : Misfit) → r ≡ Err w → i + w.place ≤ length t
  place_fits w q = omega (arith, number_inside, ap number_in q)

  pub joined_refused : (out : List ℕ) (w : Misfit) → r ≡ Err w → Reads whole out (Err (ReadRefusal'.At (i + w.place))) out
  joined_refused out w q =
      let e = later_fails (each (later_bits β) (cut σ (drop i t))) w (told ∙ q) in
      reads_refused whole out (i + w.place) (ap (λ (x : Value). as_written (both (means (part f l t)) (onward i x))) e)

  module _ (out : List ℕ) (n : ℕ) (q : r ≡ Ok n) where
    rest : (w : List ℕ) × (each (later_bits β) (cut σ (drop i t)) ≡ means w) × (length w ≡ n)
    rest = later_means (each (later_bits β) (cut σ (drop i t))) n (told ∙ q)

    whole_written : whole ≡ written (part f l t ++ rest.0)
    whole_written = ap (λ (x : Value). as_written (both (means (part f l t)) (onward i x))) rest.1

    whole_length : length (part f l t ++ rest.0) ≡ l - f + n
    whole_length = length-append (part f l t) rest.0 ∙ omega (arith, first_length, rest.2)

    pub joined_short : length out < l - f + n → Reads whole out (Err (ReadRefusal'.NoRoom (l - f + n))) out
    joined_short h = reads_short whole (part f l t ++ rest.0) out (l - f + n) whole_written whole_length h

    module _ (h : l - f + n ≤ length out) where
      first_room : length (take (l - f) (drop f t)) ≤ length out
      first_room = omega (arith, first_length)

      module _ (o : List ℕ) (eo : o ≡ filled (part f l t) out) where
        put_first : o ≡ part f l t ++ drop (l - f) out
        put_first = eo ∙ filled_all (part f l t) out first_room ∙ ap (λ (k : ℕ). part f l t ++ drop k out) first_length

        same : length o ≡ length out
        same = ap length put_first ∙ length-append (part f l t) (drop (l - f) out) ∙ omega (arith, first_length, length-drop (l - f) out)

        lent : take (length o - (l - f)) (drop (l - f) o) ≡ drop (l - f) o
        lent = part_tail o (l - f)

        bodies_rest : (stops (walk (body_step σ) 0 (drop i t)) ≡ false) × (bodies σ (drop i t) ≡ rest.0)
        unfolding cut
        bodies_rest = each_bodies σ β 0 (drop i t) rest.0 rest.1

        pub rest_room : BodiesFit σ (take (length t - i) (drop i t)) (length (take (length o - (l - f)) (drop (l - f) o)))
        rest_room =
            rw (part_tail t i, lent)
            record { goes = bodies_rest.0; fits = omega (arith, ap length bodies_rest.1, rest.2, same, length-drop (l - f) o) }

        pub joined_written : (last : List ℕ) → last ≡ filled (bodies σ (take (length t - i) (drop i t))) (take (length o - (l - f)) (drop (l - f) o))
            → Reads whole out (Ok (ReadText'.Written (l - f + n))) (take (l - f) o ++ (last ++ drop (length o - (l - f)) (drop (l - f) o)))
        joined_written last el =
            let w = rest.0 in
            let fits : length w ≤ length (drop (l - f) o) = omega (arith, rest.2, same, length-drop (l - f) o) in
            let g : last ≡ w ++ drop (length w) (drop (l - f) o) =
            el ∙ ap₂ filled (ap (bodies σ) (part_tail t i) ∙ bodies_rest.1) lent ∙ filled_all w (drop (l - f) o) fits in
            let len : l - f + length w ≡ length (part f l t ++ w) = omega (arith, whole_length, rest.2) in
            let tail : last ++ drop (length o - (l - f)) (drop (l - f) o) ≡ last =
            ap (last ++◌) (drop_of_length-le (drop (l - f) o) (le_of_eq (length-drop (l - f) o))) ∙ append-nil last in
            reads_written whole (part f l t ++ w) out (take (l - f) o ++ (last ++ drop (length o - (l - f)) (drop (l - f) o))) (l - f + n)
            whole_written whole_length h
            (ap (take (l - f) o ++◌) (tail ∙ g)
            ∙ ap (λ (x : List ℕ). take (l - f) x ++ (w ++ drop (length w) (drop (l - f) x))) put_first
            ∙ put_part (part f l t) w out (l - f) first_length
            ∙ ap (λ (k : ℕ). (part f l t ++ w) ++ drop k out) len)

-- READ, from the text's front
module _ (σ : Settings) (β : ℕ) (t out : List ℕ) (i : ℕ) (z : i ≡ 0) (r : Next) (e : r ≡ next_of σ t i) where
  front : r ≡ next_of σ t 0
  front = e ∙ ap (next_of σ t) z

  pub bits_end : r ≡ Next'.End → Reads (bits σ β t) out (Err (ReadRefusal'.At 0)) out
  unfolding bits cut
  bits_end q = reads_refused (bits σ β t) out 0 (go t (at_end σ t 0 r front q))
    where
      go : (t : List ℕ) → length t ≤ 0 → bits σ β t ≡ refused 0
      go [] h = refl
      go (b ∷ t) h = absurd (omega arith)

  pub bits_remainder : r ≡ Next'.Remainder → Reads (bits σ β t) out (Err (ReadRefusal'.At 0)) out
  unfolding bits cut
  bits_remainder q =
      let k = at_remainder σ t 0 r front q in
      reads_refused (bits σ β t) out 0 (ap (bits_by β t) (walk_at (segment_step σ) t 0 k.0 stop k.1))

  module _ (s o u : ℕ) (c : Cursor) (q : r ≡ Next'.Segment s o u c) where
    unit : UnitAt σ t 0 0 o u c.at
    unit =
        let a = at_segment σ t 0 r front s o u c q in
        subst (λ (j : ℕ). UnitAt σ t 0 j o u c.at) a.start a

    pub first_some : 1 ≤ u
    first_some = omega (arith, unit.some)

    pub first_ordered : o ≤ u - 1
    first_ordered = omega (arith, unit.some)

    pub first_inside : u - 1 ≤ length t
    first_inside = omega (arith, unit.ends, unit.inside)

    pub bits_ordered : Ordered o (u - 1) c.at (length t)
    bits_ordered = record { body = first_ordered; behind = omega (arith, unit.ends); inside = unit.inside }

    cut_first : cut σ t ≡ gave unit.more (take (u - 0) (drop 0 t)) (cut σ (drop c.at t))
    unfolding cut
    cut_first =
        let k : 1 + unit.more ≡ c.at = omega (arith, unit.next) in
        walk_at (segment_step σ) t 0 (omega (arith, unit.some, unit.ends, unit.inside)) (give unit.more (take (u - 0) (drop 0 t))) unit.step
        ∙ ap (gave unit.more (take (u - 0) (drop 0 t)))
        (walk_drop (segment_step σ) unit.more (drop 1 t) ∙ ap (walk (segment_step σ) 0) (drop-drop unit.more 1 t ∙ ap (λ (j : ℕ). drop j t) k))

    bits_by_lem : (x : Bool) → eqb u (length t) ≡ x → (y : Value) → first_bits β (take (u - 0) (drop 0 t)) ≡ y
        → bits σ β t ≡ (if x then borrowed_as 2 (length t - 1) y else as_written (both y (onward c.at (each (later_bits β) (cut σ (drop c.at t))))))
    unfolding bits
    bits_by_lem x ex y ey =
        let l : length (take (u - 0) (drop 0 t)) ≡ u = own_length unit ∙ omega arith in
        let k : suc unit.more ≡ c.at = omega (arith, unit.next) in
        ap (bits_by β t) cut_first ∙ rw (l, ex, ey, k)

    module _ (b : ℕ) (x d : Bool) (eb : b ≡ get_or t 0 0) (ex : x ≡ has b (ascii "BbXx")) (ed : d ≡ all_digits β (take (u - 1 - o) (drop o t))) where
      digits : d ≡ all_digits β (take (u - 1 - (0 + o)) (drop (0 + o) t))
      digits = ed ∙ ap (λ (j : ℕ). all_digits β (take (u - 1 - j) (drop j t))) (sym (zero-add o))

      first : (y : Bool) → (x && d) ≡ y → first_bits β (take (u - 0) (drop 0 t)) ≡ (if y then means (take (u - 1 - o) (drop o t)) else fails 0)
      first y k =
          first_by unit β b d eb digits x ex
          ∙ ap₂ (λ (z : Bool) (j : ℕ). if z then means (take (u - 1 - j) (drop j t)) else fails 0) k (zero-add o)

      pub bits_refused : not (x && d) ≡ true → Reads (bits σ β t) out (Err (ReadRefusal'.At 0)) out
      bits_refused n = reads_refused (bits σ β t) out 0 (go (eqb u (length t)) refl)
        where
          go : (y : Bool) → eqb u (length t) ≡ y → bits σ β t ≡ refused 0
          go true k = bits_by_lem true k (fails 0) (first false (not-true (x && d) n))
          go false k = bits_by_lem false k (fails 0) (first false (not-true (x && d) n))

      module _ (n : not (x && d) ≡ false) where
        right : (x && d) ≡ true
        right = not-false (x && d) n

        pub bits_borrowed : u ≡ length t → Reads (bits σ β t) out (Ok (ReadText'.Borrowed o (u - 1))) out
        bits_borrowed k =
            let two : o ≡ 2 = letter_two unit β b d eb digits (sym ex ∙ and_left x d right) in
            reads_borrowed (bits σ β t) out o (u - 1)
            (bits_by_lem true (eq-eqb u (length t) k) (means (take (u - 1 - o) (drop o t))) (first true right)
            ∙ ap₂ (λ (i j : ℕ). borrowed i (j - 1)) (sym two) (sym k))

        pub bits_joined : (u ≡ length t → ⊥) → (a : Result ReadText ReadRefusal) (after : List ℕ)
            → Reads (joined_bits σ β (part o (u - 1) t) c.at (drop c.at t)) out a after
            → Reads (bits σ β t) out a after
        bits_joined k a after h = rw (bits_by_lem false (ne_eqb u (length t) k) (means (take (u - 1 - o) (drop o t))) (first true right)) h
