-- The reading of a text, by what each of its passes said. Assumes nothing.
use Rattle.std.specs.Prelude.{Result, Ok, Err}
use mathlib.Core.Path.{◌≡◌, refl, ap, ap₂, sym, ◌∙◌}
use mathlib.Core.Bool.{Bool, true, false}
use mathlib.Core.List.{List, [], ◌++◌, append-nil}
use Prim.Native.Nat.{ℕ, zero, suc, ◌-◌, ◌≤◌, ◌<◌}
use native.Mathlib.Omega.{arith}
use lib.ListN.{length, take, drop, length-append, length-drop, drop_of_length-le}
use lib.Seq.{length-take-le}
use Rattle.meaning.specs.declared.Settings.{Settings}
use Rattle.meaning.specs.declared.ReadText.{ReadText}
use Rattle.meaning.specs.declared.ReadRefusal.{ReadRefusal}
use Rattle.meaning.specs.declared.ReadText.TheVariants as ReadText'
use Rattle.meaning.specs.declared.ReadRefusal.TheVariants as ReadRefusal'
use Rattle.meaning.specs.Cutting.{cut, continues}
use Rattle.meaning.specs.Reading.{Answer, means, one, joined, as_written, read}
use Rattle.meaning.specs.Reads.{Reads}
use Rattle.strings.specs.declared.joined.Stop.{Stop}
use Rattle.strings.specs.Answers.{stop_at, length_of, PutsAll}
use Rattle.laws.proofs.questions.Owed.{reads_short, reads_written, reads_refused}
use Rattle.strings.proofs.Joinings.{length_means, length_fails}

-- JOINED TEXT, gone over with no room and then with just the room that its value needs; the buffer holds what it was lent with until the second has put the value
pub record Rounds (σ : Settings) (t d out : List ℕ) (room : ℕ) : Type 0 where
  pub same : out ≡ d
  pub fits : room ≤ length out
  pub counted : 0 < room → length_of (joined σ (cut σ t)) ≡ Ok room

pub round_first : (σ : Settings) (t d : List ℕ) → Rounds σ t d d 0
round_first σ t d = record { same = refl; fits = omega arith; counted = λ h. absurd (omega arith) }

module _ (σ : Settings) (t d out : List ℕ) (room : ℕ) (v : Rounds σ t d out room) where
  pub round_part : room ≡ length (take room out)
  round_part = sym (length-take-le room out v.fits)

  module _ (k : Result ℕ Stop) (last : List ℕ) (p : PutsAll (joined σ (cut σ t)) (take room out) k last) (l : length (last ++ drop room out) ≡ length out) where
    abbrev whole : Answer
    whole = as_written (joined σ (cut σ t))

    abbrev after : List ℕ
    after = last ++ drop room out

    -- with no room nothing is put
    untouched : room ≡ 0 → after ≡ d
    untouched z =
        let n : length last ≤ 0 = omega (arith, l, length-append last (drop room out), length-drop room out, ap length v.same) in
        let e : last ≡ [] = drop_of_length-le last n in
        ap (◌++ drop room out) e ∙ ap (λ (i : ℕ). drop i out) z ∙ v.same

    -- what was counted is what is needed
    once : (j : Result ℕ Stop) → k ≡ j → (j ≡ Ok room → ⊥) → room ≡ 0
    once j q h = go room refl
      where
        go : (i : ℕ) → room ≡ i → room ≡ 0
        go zero e = e
        go (suc i) e = absurd (h (sym q ∙ p.answer ∙ v.counted (omega arith)))

    pub round_refused : (e : Stop) → k ≡ Err e → Reads whole d (Err (ReadRefusal'.At e.place)) after
    round_refused e q =
        let n = e.place in
        let z = untouched (once (Err (stop_at n)) q (λ e. let y : ◌≡◌ {A = ℕ} 0 1 = cc in omega arith)) in
        rw z (reads_refused whole d n (ap as_written (length_fails (joined σ (cut σ t)) n (sym p.answer ∙ q))))

    module _ (n : ℕ) (q : k ≡ Ok n) where
      counts : (w : List ℕ) × (joined σ (cut σ t) ≡ means w) × (length w ≡ n)
      counts = length_means (joined σ (cut σ t)) n (sym p.answer ∙ q)

      other : (room ≡ n → ⊥) → room ≡ 0
      other h = once (Ok n) q (λ e. let y : n ≡ room = cc in h (sym y))

      pub round_short : length after < n → Reads whole d (Err (ReadRefusal'.NoRoom n)) after
      round_short h =
          let z = untouched (other (λ e. omega (arith, l, v.fits))) in
          rw z (reads_short whole counts.0 d n (ap as_written counts.1) counts.2 (omega (arith, l, ap length v.same)))

      pub round_written : room ≡ n → Reads whole d (Ok (ReadText'.Written n)) after
      round_written e =
          let w = counts.0 in
          let c = counts.2 in
          let f : length w ≤ length (take room out) = omega (arith, c, round_part) in
          let g : length (take room out) ≤ length w = omega (arith, c, round_part) in
          let z : drop (length w) (take room out) ≡ [] = drop_of_length-le (take room out) g in
          let b : last ≡ w = p.buffer w counts.1 f ∙ ap (w ++◌) z ∙ append-nil w in
          reads_written whole w d after n (ap as_written counts.1) c (omega (arith, v.fits, ap length v.same))
          (ap₂ (λ (x : List ℕ) (i : ℕ). x ++ drop i out) b (e ∙ sym c) ∙ ap (λ (x : List ℕ). w ++ drop (length w) x) v.same)

      pub round_less : (room ≡ n → ⊥) → 1 - n < 1 - room
      round_less h = let z = other h in let y : n ≡ 0 → ⊥ = λ e. h (z ∙ sym e) in positive n y z
        where
          positive : (i : ℕ) → (i ≡ 0 → ⊥) → room ≡ 0 → 1 - i < 1 - room
          positive zero y z = absurd (y refl)
          positive (suc i) y z = omega arith

      pub round_again : n ≤ length after → (room ≡ n → ⊥) → Rounds σ t d after n
      round_again h e = record { same = untouched (other e); fits = omega (arith, l); counted = λ g. sym p.answer ∙ q }

-- A TEXT read as it goes on or not
module _ (σ : Settings) (t out after : List ℕ) (r : Result ReadText ReadRefusal) (x : Bool) (ex : x ≡ continues σ t) where
  pub joined_reads : x ≡ true → Reads (as_written (joined σ (cut σ t))) out r after → Reads (read σ t) out r after
  unfolding read
  joined_reads y g = rw (sym ex ∙ y) g

  pub one_reads : x ≡ false → Reads (one σ t) out r after → Reads (read σ t) out r after
  unfolding read
  one_reads y g = rw (sym ex ∙ y) g
