-- [02 T-07] A text's digits packed, segment by segment, and the whole reading by what was found. Assumes nothing.
use mathlib.Core.Path.{◌≡◌, refl, ap, sym, ◌∙◌, subst}
use mathlib.Core.Bool.{Bool, true, false, false≢true}
use mathlib.Core.List.{List, [], ◌++◌, append-nil}
use Prim.Native.Nat.{ℕ, suc, ◌+◌, ◌-◌, ◌*◌, ◌^◌, ◌≤◌, ◌<◌}
use native.Mathlib.Omega.{arith}
use borrow.Author.Tests.{le-leb, lt-leb, eqb-true}
use lib.Dec.{eqb}
use lib.ListN.{length, take, drop, drop_of_length-le}
use lib.Seq.{drop-drop}
use Rattle.meaning.specs.declared.Settings.{Settings}
use Rattle.meaning.specs.declared.BitStringRadix.{BitStringRadix}
use Rattle.meaning.specs.Bytes.{part}
use Rattle.meaning.specs.Walk.{give, stop, gave, walk, stops, value}
use Rattle.meaning.specs.Reading.{Value, value_of, means}
use Rattle.meaning.specs.Kinds.{bits}
use Rattle.meaning.specs.Answers.{filled}
use Rattle.meaning.specs.Packing.{bits_in, pack_bits, radix_bits, packed_length}
use Rattle.laws.proofs.basics.Lists.{part_tail}
use Rattle.laws.proofs.basics.Laying.{laid_none, laid_same}
use Rattle.laws.proofs.packing.Gathered.{length_bits_in, length_pack_bits}
use Rattle.laws.proofs.questions.Determined.{Same}
use Rattle.laws.proofs.walking.Walks.{walk_drop}
use Rattle.laws.proofs.walking.Courses.{walk_at}
use Rattle.cutting.specs.Segments.{next_of}
use Rattle.cutting.specs.declared.cursor.Cursor.{Cursor}
use Rattle.cutting.specs.declared.cursor.Next.{Next}
use Rattle.cutting.specs.declared.cursor.Next.TheVariants as Next'
use Rattle.cutting.proofs.Cursors.{at_end, at_remainder}
use Rattle.bits.specs.declared.pens.Pen.{Pen}
use Rattle.bits.specs.declared.packing.Packed.{Packed}
use Rattle.bits.specs.declared.finding.Digits.{Digits}
use Rattle.bits.specs.Bodies.{body_by, body_step, bodies, FoundAt, Finds}
use Rattle.bits.specs.Pens.{Packing, Packable, Closable, BodiesPackable, digits_from, Segmented, PacksInto, Packs}
use Rattle.bits.proofs.Turns.{here, body_step_lem}
use Rattle.bits.proofs.Found.{digits_length}
use Rattle.bits.proofs.Radix.{radix_whole}
use Rattle.std.specs.Prelude.{Result, Ok, Err}
use Rattle.bits.specs.declared.later.Misfit.{Misfit}
use Rattle.bits.specs.Pens.{packed_in}
use Rattle.bits.specs.declared.packing.PackingError.{PackingError}
use Rattle.bits.specs.declared.packing.PackingError.TheVariants as PackingError'

-- SEGMENT BY SEGMENT: the bodies before i are packed
pub record Inked (k : ℕ) (σ : Settings) (t out₀ : List ℕ) (p₀ : Pen) (out : List ℕ) (p : Pen) (i : ℕ) : Type 0 where
  pub goes : stops (walk (body_step σ) 0 (drop i t)) ≡ false
  pub packs : (whole d : List ℕ) → Packing k whole d out₀ p₀ (bodies σ t) → Packing k whole d out p (bodies σ (drop i t))

pub inked_none : (k : ℕ) (σ : Settings) (t out : List ℕ) (p : Pen) (i : ℕ) → i ≡ 0 → BodiesPackable k σ t p out → Inked k σ t out p out p i
inked_none k σ t out p i e b = subst (Inked k σ t out p out p) (sym e) (record { goes = b.goes; packs = λ whole d a. a })

module _ {k : ℕ} {σ : Settings} {t out₀ out : List ℕ} {p₀ p : Pen} {i : ℕ} (g : Inked k σ t out₀ p₀ out p i) (pre : BodiesPackable k σ t p₀ out₀) where
  packed : Packing k pre.whole pre.lent out p (bodies σ (drop i t))
  packed = g.packs pre.whole pre.lent pre.holds

  pub inked_same : length out ≡ length out₀
  inked_same = laid_same packed.laid ∙ sym (laid_same pre.holds.laid)

  module _ (r : Next) (e : r ≡ next_of σ t i) where
    module _ (s o u : ℕ) (c : Cursor) (q : r ≡ Next'.Segment s o u c) where
      walked : walk (body_step σ) 0 (drop i t) ≡ gave (here σ t i r e s o u c q).more (take (u - 1 - (s + o)) (drop (s + o) t)) (walk (body_step σ) 0 (drop c.at t))
      walked =
          let a = here σ t i r e s o u c q in
          let n : suc i + a.more ≡ c.at = omega (arith, a.next) in
          walk_at (body_step σ) t i (omega (arith, a.start, a.some, a.ends, a.inside)) (give a.more (take (u - 1 - (s + o)) (drop (s + o) t))) (body_step_lem σ t i r e s o u c q)
          ∙ ap (gave a.more (take (u - 1 - (s + o)) (drop (s + o) t)))
          (walk_drop (body_step σ) a.more (drop (suc i) t) ∙ ap (walk (body_step σ) 0) (drop-drop a.more (suc i) t ∙ ap (λ (j : ℕ). drop j t) n))

      split : bodies σ (drop i t) ≡ take (u - 1 - (s + o)) (drop (s + o) t) ++ bodies σ (drop c.at t)
      split = ap value walked

      pub inked_packable : Packable k (take (u - 1 - (s + o)) (drop (s + o) t)) p out
      inked_packable = record {
        whole = pre.whole;
        lent = pre.lent;
        rest = bodies σ (drop c.at t);
        holds = subst (Packing k pre.whole pre.lent out p) split packed;
      }

      pub inked_turn : (out' : List ℕ) (p' : Pen)
          → ((whole d rest : List ℕ) → Packing k whole d out p (take (u - 1 - (s + o)) (drop (s + o) t) ++ rest) → Packing k whole d out' p' rest)
          → Inked k σ t out₀ p₀ out' p' c.at
      inked_turn out' p' f = record {
        goes = sym (ap stops walked) ∙ g.goes;
        packs = λ whole d a. f whole d (bodies σ (drop c.at t)) (subst (Packing k whole d out p) split (g.packs whole d a));
      }

    pub inked_end : r ≡ Next'.End → (whole d : List ℕ) → Packing k whole d out₀ p₀ (bodies σ t) → Packing k whole d out p []
    inked_end q whole d a =
        subst (Packing k whole d out p) (ap (bodies σ) (drop_of_length-le t (at_end σ t i r e q))) (g.packs whole d a)

    pub inked_remainder : r ≡ Next'.Remainder → (whole d : List ℕ) → Packing k whole d out₀ p₀ (bodies σ t) → Packing k whole d out p []
    unfolding body_step
    inked_remainder q whole d a =
        let m = at_remainder σ t i r e q in
        absurd (false≢true (sym g.goes ∙ ap stops (walk_at (body_step σ) t i m.0 stop (ap body_by m.1))))

-- THE FIRST SEGMENT AND THE OTHERS, from a fresh pen
abbrev fresh : Pen
fresh = record { at = 0; byte = 0; missing = 8 }

abbrev packed_all : BitStringRadix → Settings → List ℕ → ℕ → ℕ → ℕ → List ℕ
packed_all r σ t f l i = pack_bits (bits_in (radix_bits r) (digits_from σ t f l i))

module _ (r : BitStringRadix) {σ : Settings} {t : List ℕ} {f l i : ℕ} (out : List ℕ) (g : Segmented (radix_bits r) σ t f l i (length out)) where
  begun : Packing (radix_bits r) (packed_all r σ t f l i) out out fresh (digits_from σ t f l i)
  unfolding pack_bits
  begun = record {
    laid = laid_none (packed_all r σ t f l i) out g.fits;
    next = refl;
    left = (radix_whole r).0;
    room = (radix_whole r).1;
    most = omega arith;
    low = omega arith;
    digits = g.digits;
  }

  pub all_ordered : f ≤ l
  all_ordered = g.body

  pub all_inside : l ≤ length t
  all_inside = omega (arith, g.behind, g.inside)

  pub all_behind : i ≤ length t
  all_behind = g.inside

  pub all_first : Packable (radix_bits r) (part f l t) fresh out
  all_first = record { whole = packed_all r σ t f l i; lent = out; rest = bodies σ (drop i t); holds = begun }

  module _ (p : Pen) (o : List ℕ)
      (a : (whole d rest : List ℕ) → Packing (radix_bits r) whole d out fresh (part f l t ++ rest) → Packing (radix_bits r) whole d o p rest) where
    pub all_later_lem : BodiesPackable (radix_bits r) σ (take (length t - i) (drop i t)) p o
    all_later_lem = rw (part_tail t i) record { whole = packed_all r σ t f l i; lent = out; goes = g.goes; holds = a (packed_all r σ t f l i) out (bodies σ (drop i t)) begun }

    module _ (p' : Pen) (o' : List ℕ)
        (b : (whole d : List ℕ) → Packing (radix_bits r) whole d o p (bodies σ (take (length t - i) (drop i t))) → Packing (radix_bits r) whole d o' p' []) where
      ended : Packing (radix_bits r) (packed_all r σ t f l i) out o' p' []
      ended =
          b (packed_all r σ t f l i) out
          (subst (λ (x : List ℕ). Packing (radix_bits r) (packed_all r σ t f l i) out o p (bodies σ x)) (sym (part_tail t i)) (a (packed_all r σ t f l i) out (bodies σ (drop i t)) begun))

      pub all_closable : Closable (radix_bits r) p' o'
      all_closable = record { whole = packed_all r σ t f l i; lent = out; holds = ended }

      pub all_packed : (o'' : List ℕ)
          → ((whole d : List ℕ) → Packing (radix_bits r) whole d o' p' [] → o'' ≡ whole ++ drop (length whole) d) → PacksInto (radix_bits r) σ t f l i out o''
      unfolding filled
      all_packed o'' c = record { buffer = c (packed_all r σ t f l i) out ended ∙ rw (le-leb (length (packed_all r σ t f l i)) (length out) g.fits) }

filled_none : (v d : List ℕ) → length d < length v → filled v d ≡ d
unfolding filled
filled_none v d h = rw (lt-leb (length v) (length d) h)

-- THE TEXT, as its digits were found
module _ (r : BitStringRadix) {σ : Settings} {β : ℕ} {t : List ℕ} {a : Result Digits Misfit} (w : Finds σ β t a) (eβ : β ≡ 2 ^ radix_bits r) where
  pub packs_refused : (out : List ℕ) (m : Misfit) → a ≡ Err m
      → Packs (radix_bits r) (value_of t (bits σ (2 ^ radix_bits r) t)) (length t) out (Err PackingError'.Refused) out
  packs_refused out m e = rw (← eβ, w.bad m e) record { answer = refl; buffer = refl; within = omega arith }

  module _ (δ : Digits) (e : a ≡ Ok δ) where
    at : FoundAt σ (2 ^ radix_bits r) t δ.from δ.last δ.at δ.later
    at = rw eβ at (w.found δ e)

    means_digits : value_of t (bits σ (2 ^ radix_bits r) t) ≡ means (digits_from σ t δ.from δ.last δ.at)
    means_digits = go (eqb (δ.last + 1) (length t)) refl
      where
        go : (x : Bool) → eqb (δ.last + 1) (length t) ≡ x → value_of t (bits σ (2 ^ radix_bits r) t) ≡ means (digits_from σ t δ.from δ.last δ.at)
        go true k =
            let none : length t ≤ δ.at = omega (arith, eqb-true (δ.last + 1) (length t) k, at.behind) in
            ap (value_of t) at.answer ∙ rw k
            (ap means (sym (append-nil (part δ.from δ.last t)) ∙ ap (λ (x : List ℕ). part δ.from δ.last t ++ bodies σ x) (sym (drop_of_length-le t none))))
        go false k = ap (value_of t) at.answer ∙ rw k

    pub found_ordered : δ.from ≤ δ.last
    found_ordered = at.body

    pub found_fits : δ.last - δ.from + δ.later ≤ length t
    found_fits = at.within

    -- how many bytes there are
    module _ (m : ℕ) (em : m ≡ packed_length (radix_bits r * (δ.last - δ.from + δ.later))) (out : List ℕ) where
      long : length (packed_all r σ t δ.from δ.last δ.at) ≡ m
      long =
          length_pack_bits (bits_in (radix_bits r) (digits_from σ t δ.from δ.last δ.at))
          ∙ ap packed_length (length_bits_in (radix_bits r) (digits_from σ t δ.from δ.last δ.at) ∙ ap (radix_bits r *◌) (digits_length w δ e)) ∙ sym em

      pub packs_short : length out < m → Packs (radix_bits r) (value_of t (bits σ (2 ^ radix_bits r) t)) (length t) out (Err (PackingError'.NoRoom m)) out
      packs_short h =
          rw means_digits
          record {
            answer = rw (long, lt-leb m (length out) h);
            buffer = sym (filled_none (packed_all r σ t δ.from δ.last δ.at) out (omega (arith, long)));
            within = omega arith;
          }

      module _ (h : m ≤ length out) where
        pub found_segmented : Segmented (radix_bits r) σ t δ.from δ.last δ.at (length out)
        found_segmented = record {
          body = at.body;
          behind = omega (arith, at.behind);
          inside = at.inside;
          goes = at.goes;
          digits = at.digits;
          fits = omega (arith, long);
        }

        pub packs_written : (after : List ℕ) → PacksInto (radix_bits r) σ t δ.from δ.last δ.at out after
            → Packs (radix_bits r) (value_of t (bits σ (2 ^ radix_bits r) t)) (length t) out (Ok (packed_in m (δ.last - δ.from + δ.later))) after
        packs_written after b =
            rw means_digits
            record {
              answer = rw (long, le-leb m (length out) h, digits_length w δ e);
              buffer = b.buffer;
              within = at.within;
            }

-- the contract determines the answer and the buffer
pub packs_unique : (k : ℕ) (x : Value) (n : ℕ) (out : List ℕ) (r r' : Result Packed PackingError) (d d' : List ℕ) → Packs k x n out r d → Packs k x n out r' d' → Same r r' d d'
packs_unique k x n out r r' d d' a b = record { answer = a.answer ∙ sym b.answer; buffer = a.buffer ∙ sym b.buffer }
