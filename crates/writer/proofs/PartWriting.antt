-- The literals of the parts, put one after the other with the gap between. Assumes nothing.
use mathlib.Core.Path.{◌≡◌, refl, ap, sym, ◌∙◌}
use mathlib.Core.Bool.{Bool, true}
use mathlib.Core.List.{List, [], ◌∷◌, ◌++◌, append-nil, append_assoc}
use Prim.Native.Nat.{ℕ, zero, suc, ◌+◌, ◌-◌, ◌≤◌, ◌<◌}
use native.Mathlib.Omega.{arith}
use lib.ListN.{length, take, drop, length-append}
use Rattle.meaning.specs.Bytes.{quote}
use Rattle.meaning.specs.Writer.{literal, between, literals, parts_from}
use Rattle.leaves.specs.Blocks.{passes}
use Rattle.leaves.specs.Puts.{Puts}
use Rattle.leaves.proofs.Scans.{passes_append}
use Rattle.laws.proofs.basics.Tests.{and_left, and_right}
use Rattle.laws.proofs.basics.Laying.{Laid, laid_none, laid_all, laid_lent, laid_rest, laid_more}
use Rattle.laws.proofs.writing.PartEnds.{parts_behind}
use Rattle.writer.specs.Manners.{Manner, Plain, kept_by, keeps, text_by}
use Rattle.writer.specs.Texts.{all_kept, Fits, PutBytes}
use Rattle.writer.specs.Parts.{first_part, FitsInParts}
use Rattle.writer.proofs.Putting.{put_all, laid_first}
use Rattle.writer.proofs.Measuring.{plain_units}
use Rattle.writer.proofs.Parting.{PartIs, part_is, behind_some, behind_none}

-- EACH BYTE OF A PART stands for itself, where each of the value does
passes_take : (p : ℕ → Bool) (n : ℕ) (t : List ℕ) → passes p n t ≡ true → passes p (length (take n t)) (take n t) ≡ true
passes_take p zero t h = refl
passes_take p (suc n) [] h = refl
passes_take p (suc n) (b ∷ t) h =
    rw (and_left (p b) (passes p n t) h) (passes_take p n t (and_right (p b) (passes p n t) h))

passes_part : (p : ℕ → Bool) (from n : ℕ) (v : List ℕ) → from + n ≤ length v → passes p (length v) v ≡ true
    → passes p (length (take n (drop from v))) (take n (drop from v)) ≡ true
passes_part p from n v l h =
    let k = length v - from in
    let a = and_right (passes p from v) (passes p k (drop from v)) (sym (passes_append p from k (length v) v (omega arith)) ∙ h) in
    let b = and_left (passes p n (drop from v)) (passes p (k - n) (drop n (drop from v)))
    (sym (passes_append p n (k - n) k (drop from v) (omega arith)) ∙ a) in
    passes_take p n (drop from v) b

-- THE TEXT: a part's is its literal, and what stands behind it begins with the gap
pub plain_text : (bs : Bool) (v : List ℕ) → text_by (Plain bs) v ≡ literal bs v
unfolding text_by
plain_text bs v = ap (λ (u : List ℕ). quote ∷ (u ++ (quote ∷ []))) (plain_units bs v)

abbrev pub behind_literal : Bool → List (List ℕ) → List ℕ
behind_literal bs [] = []
behind_literal bs (p ∷ ps) = between ++ literals bs (p ∷ ps)

literals_front : (bs : Bool) (p : List ℕ) (ps : List (List ℕ)) → literals bs (p ∷ ps) ≡ text_by (Plain bs) p ++ behind_literal bs ps
literals_front bs p [] = sym (append-nil (text_by (Plain bs) p) ∙ plain_text bs p)
literals_front bs p (q ∷ ps) = ap (◌++ (between ++ literals bs (q ∷ ps))) (sym (plain_text bs p))

-- WRITING into a buffer that held d: the parts before a place are put, each with the gap behind it, and the part from there to another place is next
pub record Writing (w : ℕ) (bs whole : Bool) (v d out : List ℕ) (n from end : ℕ) : Type 0 where
  pub here : PartIs w from end v
  pub copied : whole ≡ true → all_kept (Plain bs) v ≡ true
  pub laid : Laid (literals bs (parts_from w w v)) d out n
  pub rest : drop n (literals bs (parts_from w w v)) ≡ literals bs (parts_from w w (drop from v))

pub writing_start : {w : ℕ} {bs whole : Bool} {v d : List ℕ} → FitsInParts w bs whole v (length d) → (end : ℕ)
    → end ≡ 0 + length (first_part w (drop 0 v)) → Writing w bs whole v d d 0 0 end
writing_start {w} {bs} {whole} {v} {d} f end e = record {
  here = part_is f.cuttable end e;
  copied = f.copied;
  laid = laid_none (literals bs (parts_from w w v)) d f.room;
  rest = refl;
}

module _ {w : ℕ} {bs whole : Bool} {v d out : List ℕ} {n from end : ℕ} (m : Writing w bs whole v d out n from end) where
  -- the part, and its text
  abbrev part : List ℕ
  part = take (end - from) (drop from v)

  abbrev text : List ℕ
  text = text_by (Plain bs) part

  front : drop n (literals bs (parts_from w w v)) ≡ text ++ behind_literal bs (parts_behind w (drop end v))
  front = m.rest ∙ ap (literals bs) m.here.are ∙ literals_front bs part (parts_behind w (drop end v))

  -- IT IS PUT with g behind it, and s is left
  module _ (g s : List ℕ) (left : drop n (literals bs (parts_from w w v)) ≡ (text ++ g) ++ s) where
    fits : Fits (Plain bs) whole part (text ++ g) (length (take (length out - n) (drop n out)))
    fits = record {
      valid = m.here.front;
      copied = λ x. passes_part (keeps (kept_by (Plain bs))) from (end - from) v (omega (arith, m.here.ordered, m.here.next.inside)) (m.copied x);
      room = laid_lent m.laid (text ++ g) s left;
    }

    module _ (r : ℕ) (last : List ℕ) (p : PutBytes (text ++ g) (take (length out - n) (drop n out)) r last) where
      laid' : Laid (literals bs (parts_from w w v)) d (take n out ++ (last ++ drop (length out - n) (drop n out))) (n + r)
      laid' = laid_more m.laid (text ++ g) s left r last p.answer p.buffer

      few : n + r ≤ length d
      few = omega (arith, laid'.part, laid'.room)

      behind : drop (n + r) (literals bs (parts_from w w v)) ≡ s
      behind = laid_rest m.laid (text ++ g) s left (n + r) (ap (n +◌) p.answer)

  -- A PART WITH ANOTHER BEHIND IT: the gap, then the literals of the others
  module _ (h : end < length v) where
    others : behind_literal bs (parts_behind w (drop end v)) ≡ between ++ literals bs (parts_from w w (drop end v))
    others =
        let k = (part_is m.here.next (end + length (first_part w (drop end v))) refl).are in
        ap (behind_literal bs) (behind_some w end v h ∙ k) ∙ ap (λ (ps : List (List ℕ)). between ++ literals bs ps) (sym k)

    left_more : drop n (literals bs (parts_from w w v)) ≡ (text ++ between) ++ literals bs (parts_from w w (drop end v))
    left_more = front ∙ ap (text ++◌) others ∙ sym (append_assoc text between (literals bs (parts_from w w (drop end v))))

    pub writing_onward : (next : ℕ) → next ≡ end + length (first_part w (drop end v)) → end < next
    writing_onward next e = (part_is m.here.next next e).onward h

    pub more_fits : Fits (Plain bs) whole part (text ++ between) (length (take (length out - n) (drop n out)))
    more_fits = fits between (literals bs (parts_from w w (drop end v))) left_more

    module _ (r : ℕ) (last : List ℕ) (p : PutBytes (text ++ between) (take (length out - n) (drop n out)) r last) where
      pub writing_more : (next : ℕ) → next ≡ end + length (first_part w (drop end v))
          → Writing w bs whole v d (take n out ++ (last ++ drop (length out - n) (drop n out))) (n + r) end next
      writing_more next e = record {
        here = part_is m.here.next next e;
        copied = m.copied;
        laid = laid' between (literals bs (parts_from w w (drop end v))) left_more r last p;
        rest = behind between (literals bs (parts_from w w (drop end v))) left_more r last p;
      }

  -- THE LAST, with nothing behind it
  module _ (h : length v ≤ end) where
    left_last : drop n (literals bs (parts_from w w v)) ≡ (text ++ []) ++ []
    left_last = front ∙ ap (λ (ps : List (List ℕ)). text ++ behind_literal bs ps) (behind_none w end v h) ∙ sym (append-nil (text ++ []))

    pub last_fits : Fits (Plain bs) whole part (text ++ []) (length (take (length out - n) (drop n out)))
    last_fits = fits [] [] left_last

    module _ (r : ℕ) (last : List ℕ) (p : PutBytes (text ++ []) (take (length out - n) (drop n out)) r last) where
      pub all_put : PutBytes (literals bs (parts_from w w v)) d (n + r) (take n out ++ (last ++ drop (length out - n) (drop n out)))
      all_put =
          let z = laid_all (laid' [] [] left_last r last p) (behind [] [] left_last r last p) in
          record { answer = z.0; buffer = z.1 }

-- A TEXT AND WHAT STANDS BEHIND IT
module _ {m : Manner} {x : Bool} {v : List ℕ} (g d : List ℕ) (f : Fits m x v (text_by m v ++ g) (length d)) where
  pub text_fits : Fits m x v (text_by m v) (length d)
  text_fits = record { valid = f.valid; copied = f.copied; room = omega (arith, f.room, length-append (text_by m v) g) }

  module _ {n : ℕ} {out : List ℕ} (p : PutBytes (text_by m v) d n out) where
    begun : Laid (text_by m v ++ g) d out n × (drop n (text_by m v ++ g) ≡ g)
    begun = laid_first (text_by m v) g (text_by m v ++ g) d refl f.room p

    -- what stands behind it is all that is left
    only : drop n (text_by m v ++ g) ≡ g ++ []
    only = begun.1 ∙ sym (append-nil g)

    module _ {a : ℕ} {last : List ℕ} (q : Puts g (take (length out - n) (drop n out)) a last) where
      put : PutBytes g (take (length out - n) (drop n out)) a last
      put = put_all q (laid_lent begun.0 g [] only)

      both : Laid (text_by m v ++ g) d (take n out ++ (last ++ drop (length out - n) (drop n out))) (n + a)
      both = laid_more begun.0 g [] only a last put.answer put.buffer

      pub both_put : PutBytes (text_by m v ++ g) d (n + a) (take n out ++ (last ++ drop (length out - n) (drop n out)))
      both_put =
          let z = laid_all both (laid_rest begun.0 g [] only (n + a) (ap (n +◌) put.answer)) in
          record { answer = z.0; buffer = z.1 }
