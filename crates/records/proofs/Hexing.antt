-- A text in hex, two digits for each byte. Assumes nothing.
use mathlib.Core.Path.{◌≡◌, refl, ap, sym, ◌∙◌}
use mathlib.Core.List.{List, [], ◌∷◌, ◌++◌, append_assoc, append-nil}
use Prim.Native.Nat.{ℕ, suc, ◌+◌, ◌*◌, ◌/◌, ◌%◌, ◌≤◌, ◌<◌}
use native.Mathlib.Numerals.{add-one}
use native.Mathlib.Omega.{arith}
use lib.ListN.{length, take, drop, get_or, set, length-append, length-set, drop_of_length-le}
use lib.Seq.{take-suc, take_all, drop-cons, set_at, length-take-le, append_snoc}
use Rattle.meaning.specs.Records.{hex_digit, hex_of, hex_text}
use Rattle.records.specs.Adding.{pushed}
use Rattle.records.proofs.Adding.{pushed_more}

hex_of_append : (a b : List ℕ) → hex_of (a ++ b) ≡ hex_of a ++ hex_of b
hex_of_append [] b = refl
hex_of_append (x ∷ a) b = ap (λ (t : List ℕ). hex_digit (x / 16) ∷ hex_digit (x % 16) ∷ t) (hex_of_append a b)

-- A TURN: the two digits of a byte behind those of the first i
pub hex_turn : (b t s m r : List ℕ) (i x y : ℕ) → i < length t → s ≡ pushed b (hex_of (take i t)) → x ≡ hex_digit (get_or t i 0 / 16)
    → y ≡ hex_digit (get_or t i 0 % 16) → m ≡ pushed s (x ∷ []) → r ≡ pushed m (y ∷ []) → r ≡ pushed b (hex_of (take (i + 1) t))
hex_turn b t s m r i x y h es ex ey em er =
    er ∙ ap (λ (z : List ℕ). pushed z (y ∷ [])) em ∙ pushed_more s (x ∷ []) (y ∷ []) ∙ ap (λ (z : List ℕ). pushed z (x ∷ y ∷ [])) es
    ∙ pushed_more b (hex_of (take i t)) (x ∷ y ∷ [])
    ∙ ap (pushed b) (rw (ex, ey, add-one i, take-suc t i 0 h) (sym (hex_of_append (take i t) (get_or t i 0 ∷ []))))

pub hex_of_length : (t : List ℕ) → length (hex_of t) ≡ 2 * length t
hex_of_length [] = refl
hex_of_length (b ∷ t) = let h = hex_of_length t in omega arith

pub hex_text_length : (t : List ℕ) → length (hex_text t) ≤ 2 * length t + 1
hex_text_length [] = omega arith
hex_text_length (b ∷ t) = let h = hex_of_length (b ∷ t) in omega arith

-- AT ONCE: the digits of the first i bytes stand in a place for all that held `start`
pub record Hexed (t start out : List ℕ) (i : ℕ) : Type 0 where
  pub inside : i ≤ length t
  pub room : length start ≡ 2 * length t
  pub put : out ≡ hex_of (take i t) ++ drop (2 * i) start
  pub same : length out ≡ length start

pub hexed_none : (t start : List ℕ) → length start ≡ 2 * length t → Hexed t start start 0
hexed_none t start h = record { inside = omega arith; room = h; put = refl; same = refl }

module _ {t start out : List ℕ} {i : ℕ} (c : Hexed t start out i) where
  digits : length (hex_of (take i t)) ≡ 2 * i
  digits = hex_of_length (take i t) ∙ ap (2 *◌) (length-take-le i t c.inside)

  pub hexed_turn : (x y : ℕ) → i < length t → x ≡ hex_digit (get_or t i 0 / 16) → y ≡ hex_digit (get_or t i 0 % 16)
      → Hexed t start (set (set out (2 * i) x) (2 * i + 1) y) (i + 1)
  hexed_turn x y h ex ey =
      let v = hex_of (take i t) in
      let k = 2 * i in
      let first : k < length start = omega (arith, c.room) in
      let second : suc k < length start = omega (arith, c.room) in
      let next : 2 * (i + 1) ≡ suc (suc k) = omega arith in
      let one : set out k x ≡ v ++ (x ∷ drop (suc k) start) =
      ap (λ (o : List ℕ). set o k x) c.put
      ∙ rw (drop-cons start k 0 first) (set_at v (get_or start k 0) (drop (suc k) start) x k digits) in
      let two : set (v ++ (x ∷ drop (suc k) start)) (suc k) y ≡ (v ++ (x ∷ [])) ++ (y ∷ drop (suc (suc k)) start) =
      rw (sym (append_snoc v x (drop (suc k) start)), drop-cons start (suc k) 0 second)
      (set_at (v ++ (x ∷ [])) (get_or start (suc k) 0) (drop (suc (suc k)) start) y (suc k) (length-append v (x ∷ []) ∙ omega (arith, digits))) in
      let digit : hex_of (take (i + 1) t) ≡ v ++ (x ∷ y ∷ []) = rw (ex, ey, add-one i, take-suc t i 0 h) (hex_of_append (take i t) (get_or t i 0 ∷ [])) in
      let last : (v ++ (x ∷ [])) ++ (y ∷ drop (suc (suc k)) start) ≡ hex_of (take (i + 1) t) ++ drop (2 * (i + 1)) start =
      rw (digit, next) (append_snoc v x (y ∷ drop (suc (suc k)) start) ∙ sym (append_assoc v (x ∷ y ∷ []) (drop (suc (suc k)) start))) in
      record {
        inside = omega arith;
        room = c.room;
        put = rw (add-one k) (ap (λ (o : List ℕ). set o (suc k) y) one ∙ two ∙ last);
        same = length-set (set out k x) (k + 1) y ∙ length-set out k x ∙ c.same;
      }

  pub hexed_end : length t ≤ i → out ≡ hex_of t
  hexed_end h =
      let e : i ≡ length t = omega (arith, c.inside) in
      c.put ∙ rw (take_all i t h, drop_of_length-le start {i = 2 * i} (omega (arith, c.room))) (append-nil (hex_of t))
