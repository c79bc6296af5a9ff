-- A text that is put into a buffer piece by piece, by callees that are lent the rest of it or byte by byte: its first bytes stand there, and behind them what
-- the buffer held. Assumes nothing.
use mathlib.Core.Path.{◌≡◌, refl, ap, sym, ◌∙◌}
use mathlib.Core.List.{List, [], ◌∷◌, ◌++◌, append_assoc, append-nil}
use Prim.Native.Nat.{ℕ, suc, ◌+◌, ◌-◌, ◌≤◌, ◌<◌}
use native.Mathlib.Omega.{arith}
use lib.ListN.{length, get_or, take, drop, set, length-append, length-take, length-drop, take-append-drop}
use lib.Seq.{take-append_seam, drop-append_seam, take-add, drop-drop, drop-cons, set_at, length-take-le}
use Rattle.laws.proofs.walking.Passes.{put_behind}

-- the buffer held d; the first n bytes of t are in it
pub record Laid (t d out : List ℕ) (n : ℕ) : Type 0 where
  pub part : n ≤ length t
  pub room : length t ≤ length d
  pub put : out ≡ take n t ++ drop n d

pub laid_none : (t d : List ℕ) → length t ≤ length d → Laid t d d 0
laid_none t d h = record { part = omega arith; room = h; put = refl }

module _ {t d out : List ℕ} {n : ℕ} (l : Laid t d out n) where
  front : length (take n t) ≡ n
  front = length-take-le n t l.part

  pub laid_same : length out ≡ length d
  laid_same = ap length l.put ∙ omega (arith, length-append (take n t) (drop n d), front, length-drop n d, l.part, l.room)

  -- all of it
  pub laid_all : drop n t ≡ [] → (n ≡ length t) × (out ≡ t ++ drop (length t) d)
  laid_all e =
      let z : n ≡ length t = omega (arith, ap length e, length-drop n t, l.part) in
      let w : take n t ≡ t = sym (append-nil (take n t)) ∙ ap (take n t ++◌) (sym e) ∙ take-append-drop n t in
      (z, l.put ∙ ap (◌++ drop n d) w ∙ ap (λ (k : ℕ). t ++ drop k d) z)

  -- the piece b is next, and s is behind it
  module _ (b s : List ℕ) (e : drop n t ≡ b ++ s) where
    pub laid_part : n + length b ≤ length t
    laid_part = omega (arith, ap length e, length-append b s, length-drop n t, l.part)

    pub laid_lent : length b ≤ length (take (length out - n) (drop n out))
    laid_lent = omega (arith, laid_part, l.room, laid_same, length-take (length out - n) (drop n out), length-drop n out)

    further : (m : ℕ) → m ≡ n + length b → (take m t ≡ take n t ++ b) × (drop m t ≡ s)
    further m z = (
      ap (λ (k : ℕ). take k t) z ∙ take-add n (length b) t ∙ ap (λ (u : List ℕ). take n t ++ take (length b) u) e ∙ ap (take n t ++◌) (take-append_seam b s),
      ap (λ (k : ℕ). drop k t) z ∙ sym (drop-drop (length b) n t) ∙ ap (drop (length b)) e ∙ drop-append_seam b s,
    )

    pub laid_rest : (m : ℕ) → m ≡ n + length b → drop m t ≡ s
    laid_rest m z = (further m z).1

    -- a callee was lent the buffer from n on, and put the piece at its start
    pub laid_more : (r : ℕ) (last : List ℕ) → r ≡ length b → last ≡ b ++ drop (length b) (take (length out - n) (drop n out))
        → Laid t d (take n out ++ (last ++ drop (length out - n) (drop n out))) (n + r)
    laid_more r last er el =
        let z : n + r ≡ n + length b = omega arith in
        record {
          part = omega (arith, laid_part);
          room = l.room;
          put =
              put_behind (take n t) b d out last n front l.put el ∙ ap (◌++ drop (n + length b) d) (sym (further (n + r) z).0)
              ∙ ap (λ (k : ℕ). take (n + r) t ++ drop k d) (sym z);
        }

  -- one byte is put
  module _ (b : ℕ) (s : List ℕ) (e : drop n t ≡ b ∷ s) where
    pub laid_inside : n < length out
    laid_inside = omega (arith, laid_part (b ∷ []) s e, l.room, laid_same)

    pub laid_byte : Laid t d (set out n b) (n + 1)
    laid_byte = record {
      part = laid_part (b ∷ []) s e;
      room = l.room;
      put =
          let h : n < length d = omega (arith, laid_part (b ∷ []) s e, l.room) in
          let z : suc n ≡ n + 1 = omega arith in
          ap (λ (o : List ℕ). set o n b) (l.put ∙ ap (take n t ++◌) (drop-cons d n 0 h))
          ∙ set_at (take n t) (get_or d n 0) (drop (suc n) d) b n front
          ∙ sym (append_assoc (take n t) (b ∷ []) (drop (suc n) d))
          ∙ ap (◌++ drop (suc n) d) (sym (further (b ∷ []) s e (n + 1) refl).0)
          ∙ ap (λ (k : ℕ). take (n + 1) t ++ drop k d) z;
    }
