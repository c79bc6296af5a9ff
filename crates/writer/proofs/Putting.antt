-- What is put at a buffer's start, as the code puts it: by stores, by a callee that is lent the buffer, or by stores and digits behind them. Assumes nothing.
use mathlib.Core.Path.{◌≡◌, refl, ap, sym, ◌∙◌}
use mathlib.Core.Bool.{Bool, true, false}
use mathlib.Core.List.{List, [], ◌∷◌, ◌++◌, append_assoc}
use Prim.Native.Nat.{ℕ, ◌+◌, ◌-◌, ◌/◌, ◌%◌, ◌^◌, ◌≤◌, ◌<◌}
use native.Mathlib.Nat.{zero-add}
use native.Mathlib.Omega.{arith}
use lib.Dec.{leb}
use borrow.Author.Tests.{le-leb, lt-leb}
use lib.ListN.{length, take, drop, set, length-append, length-drop, length-set}
use lib.Seq.{sets, sets-eq, take_at, drop_at, take-append_seam, drop-append_seam, drop-drop, length-take-le}
use Rattle.meaning.specs.Bytes.{quote}
use Rattle.std.specs.Prelude.{if◌then◌else◌}
use Rattle.meaning.specs.Answers.{filled}
use Rattle.meaning.specs.Forms.{figure, figures, unicode_figures}
use Rattle.laws.proofs.writing.Figures.{figures_length}
use Rattle.laws.proofs.basics.Laying.{Laid, laid_same, laid_all, laid_lent, laid_rest, laid_more, laid_inside, laid_byte}
use Rattle.leaves.specs.Puts.{Puts}
use Rattle.writer.specs.Texts.{PutBytes}

-- BY STORES
stored : (p out : List ℕ) → length p ≤ length out → sets out 0 p ≡ p ++ drop (length p) out
stored p out h = sets-eq p out 0 (rw zero-add h) ∙ rw zero-add

pub put_stored_all : (p out : List ℕ) → length p ≤ length out → PutBytes p out (length p) (sets out 0 p)
put_stored_all p out h = record { answer = refl; buffer = stored p out h }

-- BY `put_bytes`, where there is room
pub put_all : {t out : List ℕ} {r : ℕ} {after : List ℕ} → Puts t out r after → length t ≤ length out → PutBytes t out r after
unfolding filled
put_all {t} {out} p h = record { answer = p.answer ∙ rw (le-leb (length t) (length out) h); buffer = p.buffer ∙ rw (le-leb (length t) (length out) h) }

-- THE FIRST PIECE of a text, put into all of the buffer; s is behind it
pub laid_first : (b s t d : List ℕ) → t ≡ b ++ s → length t ≤ length d → {r : ℕ} {after : List ℕ} → PutBytes b d r after
    → Laid t d after r × (drop r t ≡ s)
laid_first b s t d e h {r} {after} q = (
  record {
    part = omega (arith, q.answer, ap length e, length-append b s);
    room = h;
    put =
        q.buffer ∙ ap (◌++ drop (length b) d) (sym (take-append_seam b s) ∙ ap (take (length b)) (sym e))
        ∙ ap (λ (k : ℕ). take k t ++ drop k d) (sym q.answer);
  },
  ap (λ (k : ℕ). drop k t) q.answer ∙ ap (drop (length b)) e ∙ drop-append_seam b s,
)

-- BETWEEN MARKS: the opening o is put into all of the buffer, u behind it by a callee that is lent the rest, and the mark is stored
module _ (o u t d : List ℕ) (e : t ≡ o ++ (u ++ (quote ∷ []))) (h : length t ≤ length d) {n : ℕ} {out : List ℕ} (p : PutBytes o d n out) where
  begun : Laid t d out n × (drop n t ≡ u ++ (quote ∷ []))
  begun = laid_first o (u ++ (quote ∷ [])) t d e h p

  opened : Laid t d out n
  opened = begun.0

  behind : drop n t ≡ u ++ (quote ∷ [])
  behind = begun.1

  pub opened_within : n ≤ length out
  opened_within = omega (arith, opened.part, opened.room, laid_same opened)

  pub opened_room : length u ≤ length (take (length out - n) (drop n out))
  opened_room = laid_lent opened u (quote ∷ []) behind

  module _ {a : ℕ} {last : List ℕ} (q : PutBytes u (take (length out - n) (drop n out)) a last) where
    abbrev back : List ℕ
    back = take n out ++ (last ++ drop (length out - n) (drop n out))

    filled_in : Laid t d back (n + a)
    filled_in = laid_more opened u (quote ∷ []) behind a last q.answer q.buffer

    only : drop (n + a) t ≡ quote ∷ []
    only = laid_rest opened u (quote ∷ []) behind (n + a) (ap (n +◌) q.answer)

    pub mark_inside : n + a < length back
    mark_inside = laid_inside filled_in quote [] only

    pub mark_fits : n + a + 1 ≤ length d
    mark_fits = omega (arith, mark_inside, laid_same filled_in)

    pub text_put : PutBytes t d (n + a + 1) (set back (n + a) quote)
    text_put =
        let w = laid_byte filled_in quote [] only in
        let z = laid_all w (laid_rest filled_in (quote ∷ []) [] only (n + a + 1) refl) in
        record { answer = z.0; buffer = z.1 }

    pub text_same : length (set back (n + a) quote) ≡ length d
    text_same = length-set back (n + a) quote ∙ laid_same filled_in

-- by another name
pub put_same : {t s out : List ℕ} {r : ℕ} {after : List ℕ} → t ≡ s → PutBytes s out r after → PutBytes t out r after
put_same e p = rw e p

-- BY STORES AND DIGITS: p is stored, and w bytes behind it are lent to `put_figures`
module _ (p : List ℕ) (β w c : ℕ) (t out last : List ℕ) (e : t ≡ p ++ figures β w c) (h : length t ≤ length out) where
  abbrev front : List ℕ
  front = sets out 0 p

  abbrev m : ℕ
  m = length p

  long : length t ≡ m + w
  long = ap length e ∙ length-append p (figures β w c) ∙ ap (m +◌) (figures_length β w c)

  module _ (f : last ≡ figures β (length (take w (drop m front))) c) where
    buffer_is : take m front ++ (last ++ drop w (drop m front)) ≡ t ++ drop (length t) out
    buffer_is =
        let s = stored p out (omega (arith, long)) in
        let a : take m front ≡ p = ap (take m) s ∙ take_at p (drop m out) m refl in
        let b : drop m front ≡ drop m out = ap (drop m) s ∙ drop_at p (drop m out) m refl in
        let n : length (take w (drop m front)) ≡ w =
        ap (λ (l : List ℕ). length (take w l)) b ∙ length-take-le w (drop m out) (omega (arith, long, length-drop m out)) in
        let d : last ≡ figures β w c = f ∙ ap (λ (k : ℕ). figures β k c) n in
        rw (a, b, d, drop-drop w m out, long, e) (sym (append_assoc p (figures β w c) (drop (m + w) out)))

    pub put_figured : PutBytes t out (m + w) (take m front ++ (last ++ drop w (drop m front)))
    put_figured = record { answer = sym long; buffer = buffer_is }

-- a number in U&
pub unicode_four : (c : ℕ) → c ≤ 0xFFFF → unicode_figures c ≡ 92 ∷ figures 16 4 c
unfolding unicode_figures
unicode_four c h = rw (le-leb c 0xFFFF h)

pub unicode_six : (c : ℕ) → 0xFFFF < c → unicode_figures c ≡ 92 ∷ 43 ∷ figures 16 6 c
unfolding unicode_figures
unicode_six c h = rw (lt-leb c 0xFFFF h)

-- of a byte two of the four digits are zeros
pub unicode_low : (b : ℕ) → b < 128 → unicode_figures b ≡ 92 ∷ 48 ∷ 48 ∷ figures 16 2 b
unfolding figure
unicode_low b h =
    let z : b / 16 ^ 3 % 16 ≡ 0 = omega arith in
    let y : b / 16 ^ 2 % 16 ≡ 0 = omega arith in
    unicode_four b (omega arith) ∙ rw (z, y) refl

pub unicode_some : (c : ℕ) → 0 < length (unicode_figures c)
unfolding unicode_figures
unicode_some c = go (leb c 0xFFFF)
  where
    go : (x : Bool) → 0 < length (if x then 92 ∷ figures 16 4 c else 92 ∷ 43 ∷ figures 16 6 c)
    go true = omega arith
    go false = omega arith
