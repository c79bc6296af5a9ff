-- What words ask for, by what a program finds of them. Assumes nothing.
use mathlib.Core.Path.{◌≡◌, refl, sym, subst, ◌∙◌}
use mathlib.Core.Bool.{Bool, true, false, ◌&&◌, false≢true}
use mathlib.Core.List.{List, [], ◌∷◌, ◌++◌}
use Prim.Native.Nat.{ℕ, ◌≤◌}
use native.Mathlib.Omega.{arith}
use borrow.Author.Tests.{eq-eqb, ne_eqb, eqb-true}
use lib.Dec.{eqb}
use lib.ListN.{length}
use Rattle.meaning.specs.Bytes.{ascii, starts}
use Rattle.words.specs.Ending.{asked_of, Ends}
use Rattle.words.specs.declared.Asked.{Asked}
use Rattle.words.specs.declared.Asked.TheVariants.{Work, Help, Other}

pub asks_work : (w : List ℕ) → length w ≡ 0 → Work ≡ asked_of w
unfolding asked_of
asks_work w h = rw (eq-eqb (length w) 0 h)

abbrev pub help_word : List ℕ
help_word = ascii "--help" ++ (0 ∷ [])

pub asks_help : (w : List ℕ) → w ≡ help_word → Help ≡ asked_of w
unfolding asked_of
asks_help w e = rw e refl

-- what begins a text of its length is the text
starts_whole : (p w : List ℕ) → length w ≡ length p → starts p w ≡ true → w ≡ p
starts_whole [] [] n s = refl
starts_whole [] (c ∷ w) n s = absurd (let z : ⊥ = omega arith in z)
starts_whole (b ∷ p) [] n s = absurd (false≢true s)
starts_whole (b ∷ p) (c ∷ w) n s = go (eqb b c) refl s (starts_whole p w (omega arith))
  where
    go : (x : Bool) → eqb b c ≡ x → (x && starts p w) ≡ true → (starts p w ≡ true → w ≡ p) → c ∷ w ≡ b ∷ p
    go false e t rest = absurd (false≢true t)
    go true e t rest = let d = eqb-true b c e in let q = rest t in cc

pub asks_other : (w : List ℕ) → (length w ≡ 0 → ⊥) → (w ≡ help_word → ⊥) → Other ≡ asked_of w
unfolding asked_of
asks_other w some other = go (eqb (length w) 7) (starts help_word w) refl refl
  where
    go : (x y : Bool) → eqb (length w) 7 ≡ x → starts help_word w ≡ y → Other ≡ asked_of w
    go false y e f = rw (ne_eqb (length w) 0 some, e)
    go true false e f = rw (ne_eqb (length w) 0 some, e, f)
    go true true e f = absurd (other (starts_whole help_word w (eqb-true (length w) 7 e) f))

-- a program's status is what its words allow
module _ (most r : ℕ) (w : List ℕ) (what : Asked) (e : what ≡ asked_of w) where
  pub ends_work : what ≡ Work → r ≤ most → Ends most (asked_of w) r
  ends_work h le = subst (λ (a : Asked). Ends most a r) (sym h ∙ e) le

  pub ends_help : what ≡ Help → r ≤ 2 → Ends most (asked_of w) r
  ends_help h le = subst (λ (a : Asked). Ends most a r) (sym h ∙ e) le

  pub ends_other : what ≡ Other → r ≡ 2 → Ends most (asked_of w) r
  ends_other h two = subst (λ (a : Asked). Ends most a r) (sym h ∙ e) two
