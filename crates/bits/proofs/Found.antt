-- Where the digits of a whole text stand, by what each of its passes said. Assumes nothing.
use mathlib.Core.Path.{◌≡◌, refl, ap, ap₂, sym, ◌∙◌, subst}
use mathlib.Core.Bool.{Bool, true, false, ◌&&◌, not}
use mathlib.Core.List.{List, [], ◌∷◌, ◌++◌}
use Prim.Native.Nat.{ℕ, suc, ◌+◌, ◌-◌, ◌≤◌}
use native.Mathlib.Nat.{zero-add}
use native.Mathlib.Omega.{arith}
use lib.Dec.{eqb}
use lib.ListN.{length, take, drop, get_or, length-append, length-take, length-drop, drop_of_length-le}
use lib.Seq.{drop-drop}
use borrow.Author.Tests.{not-true, not-false, eqb-true, eq-eqb}
use Rattle.meaning.specs.declared.Settings.{Settings}
use Rattle.meaning.specs.Bytes.{part, ascii, has, all_digits}
use Rattle.std.specs.Prelude.{if◌then◌else◌}
use Rattle.meaning.specs.Walk.{give, stop, gave, walk}
use Rattle.meaning.specs.Cutting.{segment_step, cut}
use Rattle.meaning.specs.Reading.{borrowed, written, refused, Value, means, fails, onward, both, each, as_written}
use Rattle.meaning.specs.Kinds.{first_bits, later_bits, borrowed_as, bits_by, bits}
use Rattle.laws.proofs.basics.Tests.{and_left, and_right}
use Rattle.laws.proofs.basics.Digits.{all_digits_at}
use Rattle.laws.proofs.basics.Lists.{part_tail}
use Rattle.laws.proofs.joining.Joining.{fails≢means}
use Rattle.laws.proofs.walking.Walks.{walk_drop}
use Rattle.laws.proofs.walking.Courses.{walk_at}
use Rattle.cutting.specs.Segments.{next_of}
use Rattle.cutting.specs.declared.cursor.Cursor.{Cursor}
use Rattle.cutting.specs.declared.cursor.Next.{Next}
use Rattle.cutting.specs.declared.cursor.Next.TheVariants as Next'
use Rattle.cutting.proofs.Cursors.{UnitAt, at_end, at_remainder, at_segment}
use Rattle.bits.specs.declared.finding.Digits.{Digits}
use Rattle.bits.specs.Bodies.{later_of, number_in, Measures, bodies, FoundAt, Finds}
use Rattle.bits.proofs.Bodies.{each_bodies, digits_append, each_digits, own_length, first_by, letter_two}
use Rattle.bits.proofs.Wholes.{later_means, later_fails}
use Rattle.std.specs.Prelude.{Result, Ok, Err}
use Rattle.bits.specs.declared.later.Misfit.{Misfit}
use Rattle.bits.specs.Bodies.{misfit_at}
use Rattle.bits.specs.Bodies.{digits_at}

-- nothing stands behind a text's end
later_none : (σ : Settings) (β i : ℕ) (t : List ℕ) → length t ≤ i → each (later_bits β) (cut σ (drop i t)) ≡ means []
unfolding cut
later_none σ β i t h = rw (drop_of_length-le t h)

finds_bad : (σ : Settings) (β : ℕ) (t : List ℕ) (p : ℕ) → bits σ β t ≡ refused p → Finds σ β t (Err (misfit_at p))
finds_bad σ β t p e = record {
  found = λ d k. let z : ◌≡◌ {A = ℕ} 0 1 = cc in absurd (omega arith);
  bad = λ m k. let z : misfit_at p ≡ m = cc in e ∙ ap (λ (x : Misfit). refused x.place) z;
}

finds_at : (σ : Settings) (β : ℕ) (t : List ℕ) (f l i n : ℕ) → FoundAt σ β t f l i n → Finds σ β t (Ok (digits_at f l i n))
finds_at σ β t f l i n a = record {
  found = λ d k. let z : digits_at f l i n ≡ d = cc in subst (λ (x : Digits). FoundAt σ β t x.from x.last x.at x.later) z a;
  bad = λ m k. let z : ◌≡◌ {A = ℕ} 0 1 = cc in absurd (omega arith);
}

-- FOUND, from the text's front
module _ (σ : Settings) (β : ℕ) (t : List ℕ) (i : ℕ) (z : i ≡ 0) (r : Next) (e : r ≡ next_of σ t i) where
  front : r ≡ next_of σ t 0
  front = e ∙ ap (next_of σ t) z

  pub finds_end : r ≡ Next'.End → Finds σ β t (Err (misfit_at 0))
  unfolding bits cut
  finds_end q = finds_bad σ β t 0 (go t (at_end σ t 0 r front q))
    where
      go : (t : List ℕ) → length t ≤ 0 → bits σ β t ≡ refused 0
      go [] h = refl
      go (b ∷ t) h = absurd (omega arith)

  pub finds_remainder : r ≡ Next'.Remainder → Finds σ β t (Err (misfit_at 0))
  unfolding bits cut
  finds_remainder q =
      let k = at_remainder σ t 0 r front q in
      finds_bad σ β t 0 (ap (bits_by β t) (walk_at (segment_step σ) t 0 k.0 stop k.1))

  module _ (s o u : ℕ) (c : Cursor) (q : r ≡ Next'.Segment s o u c) where
    unit : UnitAt σ t 0 0 o u c.at
    unit =
        let a = at_segment σ t 0 r front s o u c q in
        subst (λ (j : ℕ). UnitAt σ t 0 j o u c.at) a.start a

    pub first_some : 1 ≤ u
    first_some = omega (arith, unit.some)

    pub first_ordered : o ≤ u - 1
    first_ordered = omega (arith, unit.some)

    pub first_inside : u - 1 ≤ length t
    first_inside = omega (arith, unit.ends, unit.inside)

    pub rest_inside : c.at ≤ length t
    rest_inside = unit.inside

    cut_first : cut σ t ≡ gave unit.more (take (u - 0) (drop 0 t)) (cut σ (drop c.at t))
    unfolding cut
    cut_first =
        let k : 1 + unit.more ≡ c.at = omega (arith, unit.next) in
        walk_at (segment_step σ) t 0 (omega (arith, unit.some, unit.ends, unit.inside)) (give unit.more (take (u - 0) (drop 0 t))) unit.step
        ∙ ap (gave unit.more (take (u - 0) (drop 0 t)))
        (walk_drop (segment_step σ) unit.more (drop 1 t) ∙ ap (walk (segment_step σ) 0) (drop-drop unit.more 1 t ∙ ap (λ (j : ℕ). drop j t) k))

    bits_by_lem : (x : Bool) → eqb u (length t) ≡ x → (y : Value) → first_bits β (take (u - 0) (drop 0 t)) ≡ y
        → bits σ β t ≡ (if x then borrowed_as 2 (length t - 1) y else as_written (both y (onward c.at (each (later_bits β) (cut σ (drop c.at t))))))
    unfolding bits
    bits_by_lem x ex y ey =
        let l : length (take (u - 0) (drop 0 t)) ≡ u = own_length unit ∙ omega arith in
        let k : suc unit.more ≡ c.at = omega (arith, unit.next) in
        ap (bits_by β t) cut_first ∙ rw (l, ex, ey, k)

    module _ (b : ℕ) (x d : Bool) (eb : b ≡ get_or t 0 0) (ex : x ≡ has b (ascii "BbXx")) (ed : d ≡ all_digits β (take (u - 1 - o) (drop o t))) where
      digits : d ≡ all_digits β (take (u - 1 - (0 + o)) (drop (0 + o) t))
      digits = ed ∙ ap (λ (j : ℕ). all_digits β (take (u - 1 - j) (drop j t))) (sym (zero-add o))

      first : (y : Bool) → (x && d) ≡ y → first_bits β (take (u - 0) (drop 0 t)) ≡ (if y then means (take (u - 1 - o) (drop o t)) else fails 0)
      first y k =
          first_by unit β b d eb digits x ex
          ∙ ap₂ (λ (z : Bool) (j : ℕ). if z then means (take (u - 1 - j) (drop j t)) else fails 0) k (zero-add o)

      pub finds_no_bits : not (x && d) ≡ true → Finds σ β t (Err (misfit_at 0))
      finds_no_bits n = finds_bad σ β t 0 (go (eqb u (length t)) refl)
        where
          go : (y : Bool) → eqb u (length t) ≡ y → bits σ β t ≡ refused 0
          go true k = bits_by_lem true k (fails 0) (first false (not-true (x && d) n))
          go false k = bits_by_lem false k (fails 0) (first false (not-true (x && d) n))

      module _ (n : not (x && d) ≡ false) where
        right : (x && d) ≡ true
        right = not-false (x && d) n

        two : o ≡ 2
        two = letter_two unit β b d eb digits (sym ex ∙ and_left x d right)

        -- the answer, by what the later segments mean
        answered : (w : List ℕ) → each (later_bits β) (cut σ (drop c.at t)) ≡ means w → bodies σ (drop c.at t) ≡ w
            → (y : Bool) → eqb u (length t) ≡ y
            → bits σ β t ≡ (if eqb (u - 1 + 1) (length t) then borrowed o (u - 1) else written (part o (u - 1) t ++ bodies σ (drop c.at t)))
        answered w ew eg true f =
            let l = eqb-true u (length t) f in
            let p : u - 1 + 1 ≡ length t = omega (arith, unit.some) in
            bits_by_lem true f (means (take (u - 1 - o) (drop o t))) (first true right)
            ∙ ap₂ (λ (i j : ℕ). borrowed i (j - 1)) (sym two) (sym l)
            ∙ rw (eq-eqb (u - 1 + 1) (length t) p)
        answered w ew eg false f =
            let p : u - 1 + 1 ≡ u = omega (arith, unit.some) in
            bits_by_lem false f (means (take (u - 1 - o) (drop o t))) (first true right)
            ∙ ap (λ (v : Value). as_written (both (means (take (u - 1 - o) (drop o t))) (onward c.at v))) ew
            ∙ rw (p, f, eg)

        found : (k : ℕ) (w : List ℕ) → each (later_bits β) (cut σ (drop c.at t)) ≡ means w → length w ≡ k → c.at + k ≤ length t
            → Finds σ β t (Ok (digits_at o (u - 1) c.at k))
        unfolding cut
        found k w ew l h =
            let g = each_bodies σ β 0 (drop c.at t) w ew in
            finds_at σ β t o (u - 1) c.at k
            record {
              body = first_ordered;
              behind = omega (arith, unit.some, unit.ends);
              inside = unit.inside;
              goes = g.0;
              count = ap length g.1 ∙ l;
              within = omega (arith, unit.some, unit.ends);
              digits =
                  rw g.1
                  (digits_append β (take (u - 1 - o) (drop o t)) w (all_digits_at β (take (u - 1 - o) (drop o t)) (sym ed ∙ and_right x d right))
                  (each_digits β (cut σ (drop c.at t)) w ew));
              answer = answered w ew g.1 (eqb u (length t)) refl;
            }

        -- there are none
        pub finds_lone : u ≡ length t → Finds σ β t (Ok (digits_at o (u - 1) c.at 0))
        finds_lone e = found 0 [] (later_none σ β c.at t (omega (arith, unit.ends))) refl (omega (arith, unit.inside))

        -- as they were measured
        module _ (a : Result ℕ Misfit)
            (m : Measures (each (later_bits β) (cut σ (take (length t - c.at) (drop c.at t)))) (length (take (length t - c.at) (drop c.at t))) a) where
          told : later_of (each (later_bits β) (cut σ (drop c.at t))) ≡ a
          told = ap (λ (w : List ℕ). later_of (each (later_bits β) (cut σ w))) (sym (part_tail t c.at)) ∙ sym m.answer

          number_inside : c.at + number_in a ≤ length t
          number_inside = omega (arith, m.within, length-take (length t - c.at) (drop c.at t), length-drop c.at t, unit.inside)

          pub place_fits : (w : Misfit) → a ≡ Err w → c.at + w.place ≤ length t
          place_fits w k = omega (arith, number_inside, ap number_in k)

          pub finds_refused : (w : Misfit) → a ≡ Err w → Finds σ β t (Err (misfit_at (c.at + w.place)))
          finds_refused w k = finds_bad σ β t (c.at + w.place) (go (eqb u (length t)) refl)
            where
              bad : each (later_bits β) (cut σ (drop c.at t)) ≡ fails w.place
              bad = later_fails (each (later_bits β) (cut σ (drop c.at t))) w (told ∙ k)

              go : (y : Bool) → eqb u (length t) ≡ y → bits σ β t ≡ refused (c.at + w.place)
              go true h = absurd (fails≢means w.place [] (sym bad ∙ later_none σ β c.at t (omega (arith, eqb-true u (length t) h, unit.ends))))
              go false h =
                  bits_by_lem false h (means (take (u - 1 - o) (drop o t))) (first true right)
                  ∙ ap (λ (v : Value). as_written (both (means (take (u - 1 - o) (drop o t))) (onward c.at v))) bad

          pub finds_found : (k : ℕ) → a ≡ Ok k → Finds σ β t (Ok (digits_at o (u - 1) c.at k))
          finds_found k h =
              let w = later_means (each (later_bits β) (cut σ (drop c.at t))) k (told ∙ h) in
              found k w.0 w.1 w.2 (omega (arith, number_inside, ap number_in h))

-- HOW MANY there are
module _ {σ : Settings} {β : ℕ} {t : List ℕ} {r : Result Digits Misfit} (a : Finds σ β t r) (d : Digits) (e : r ≡ Ok d) where
  at : FoundAt σ β t d.from d.last d.at d.later
  at = a.found d e

  first_length : length (part d.from d.last t) ≡ d.last - d.from
  first_length = length-take (d.last - d.from) (drop d.from t) ∙ omega (arith, length-drop d.from t, at.body, at.behind, at.inside)

  pub digits_length : length (part d.from d.last t ++ bodies σ (drop d.at t)) ≡ d.last - d.from + d.later
  digits_length = length-append (part d.from d.last t) (bodies σ (drop d.at t)) ∙ omega (arith, first_length, at.count)
