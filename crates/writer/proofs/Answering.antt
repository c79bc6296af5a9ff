-- What the writer answers behind its tests. Assumes nothing.
use mathlib.Core.Path.{◌≡◌, refl, ap, sym, ◌∙◌}
use mathlib.Core.Bool.{Bool, true, false}
use mathlib.Core.List.{List, [], ◌∷◌, ◌++◌}
use Prim.Native.Nat.{ℕ, ◌+◌, ◌*◌, ◌≤◌, ◌<◌}
use native.Mathlib.Omega.{arith}
use lib.ListN.{length, take, drop, drop_of_length-le}
use lib.Seq.{take_all}
use borrow.Author.Tests.{ltb-false}
use Rattle.meaning.specs.declared.Settings.{Settings}
use Rattle.meaning.specs.declared.PartSize.{PartSize}
use Rattle.meaning.specs.declared.PartSize.TheVariants.{Whole, AtMost}
use Rattle.meaning.specs.declared.WritingError.TheVariants.{NoRoom}
use Rattle.meaning.specs.Bytes.{has}
use Rattle.meaning.specs.Chars.{utf8}
use Rattle.meaning.specs.Answers.{Meets}
use Rattle.meaning.specs.Writer.{literals, parts_from, parts_of, part_too_small, over_limit, unwritable_nul, written_text, write_question}
use Rattle.laws.proofs.writing.Writers.{Passed, writes_all, writes_none}
use Rattle.laws.proofs.writing.WriterParts.{concat, parts_from_fills, parts_from_concat, Accepted, accepted_writes, limit_length, limit_size}
use Rattle.laws.proofs.writing.WriterText.{costs, literal_length, literals_length, written_text_fits}
use Rattle.laws.proofs.writing.PartEnds.{first_ends}
use Rattle.writer.specs.Manners.{Plain}
use Rattle.writer.specs.declared.lengths.Measured.{Measured}
use Rattle.writer.specs.Texts.{Spellable, PutBytes, measured_by}
use Rattle.writer.specs.Parts.{others, limit_of, later_parts, Cuttable, FitsInParts}
use Rattle.writer.proofs.PartWriting.{plain_text}
use Rattle.writer.proofs.Refusing.{met}
use Rattle.std.specs.Prelude.{Ok, Err}

-- A NUL that no text can spell
pub nul_spelled : (σ : Settings) (v : List ℕ) → σ.backslash ≡ true → false ≡ unwritable_nul σ v
unfolding unwritable_nul
nul_spelled σ v e = rw e

pub nul_unspelled : (σ : Settings) (v : List ℕ) (x : Bool) → σ.backslash ≡ false → x ≡ has 0 v → x ≡ unwritable_nul σ v
unfolding unwritable_nul
nul_unspelled σ v x e f = rw (e, f)

pub accepted : (σ : Settings) (size : PartSize) (v : List ℕ) → Passed (over_limit size v) (utf8 v) (unwritable_nul σ v) → Accepted σ size v
accepted σ size v p = record { limit = p.limit; valid = p.valid; nul = p.nul }

-- ACCEPTED: the text is measured, and written where there is room
wide : (size : PartSize) → part_too_small size ≡ false → 4 ≤ limit_of size
wide Whole h = omega arith
wide (AtMost w) h = ltb-false w 4 h

module _ {σ : Settings} {size : PartSize} {v : List ℕ} (a : Accepted σ size v) where
  short : length v ≤ 268435456
  short = limit_length size v a.limit

  pub spellable : Spellable (Plain σ.backslash) v
  spellable = record { short = short; valid = a.valid; free = refl }

  module _ {w : ℕ} (ew : w ≡ limit_of size) where
    abbrev text : List ℕ
    text = literals σ.backslash (parts_from w w v)

    wide_enough : 4 ≤ w
    wide_enough = omega (arith, wide size (limit_size size v a.limit))

    pub cuttable : Cuttable w 0 v
    cuttable = record { inside = omega arith; short = short; valid = a.valid; wide = wide_enough }

    -- a part without an end is the value
    text_is : text ≡ written_text σ size v
    unfolding written_text
    text_is = go size ew
      where
        go : (size : PartSize) → w ≡ limit_of size → text ≡ literals σ.backslash (parts_of size v)
        go (AtMost k) e = ap (λ (j : ℕ). literals σ.backslash (parts_from j j v)) e
        go Whole e =
            let f = first_ends w v wide_enough a.valid in
            let z : f.end ≡ length v = f.last (omega (arith, short)) in
            let t : take f.end v ≡ v = take_all f.end v (omega arith) in
            let s : drop f.end v ≡ [] = drop_of_length-le v {i = f.end} (omega arith) in
            let p : parts_from w w v ≡ v ∷ [] = f.are ∙ rw (t, s) in
            ap (literals σ.backslash) p

    -- its length: that of the value's own literal, and three bytes for each further part
    module _ {m : Measured} (em : m ≡ measured_by (Plain σ.backslash) v) {k : ℕ} (ek : k ≡ length (later_parts w v)) where
      needs : m.len + 3 * k ≡ length text
      needs =
          let f = parts_from_fills w w v in
          let c : concat (f.first ∷ f.others) ≡ v = rw f.are at (parts_from_concat w w v) in
          omega (
            arith,
            ap (λ (x : Measured). x.len) em,
            ap length (plain_text σ.backslash v),
            literal_length σ.backslash v,
            ek,
            ap (λ (ps : List (List ℕ)). length (others ps)) f.are,
            ap (λ (ps : List (List ℕ)). length (literals σ.backslash ps)) f.are,
            literals_length σ.backslash f.first f.others,
            ap (costs σ.backslash) c,
          )

      needed : m.len + 3 * k ≡ length (written_text σ size v)
      needed = needs ∙ ap length text_is

      pub needed_small : m.len + 3 * k ≤ 858993461
      needed_small = omega (arith, needed, written_text_fits σ size v a)

      module _ (out : List ℕ) where
        pub no_room : length out < m.len + 3 * k → Meets (write_question σ size v out) (Err (NoRoom (m.len + 3 * k))) out
        no_room h =
            rw needed
            (met (write_question σ size v out) (Err (NoRoom (length (written_text σ size v)))) out
            (accepted_writes σ size v out a ∙ writes_none (written_text σ size v) out (omega (arith, needed))))

        module _ (h : m.len + 3 * k ≤ length out) where
          pub text_fits : FitsInParts w σ.backslash m.whole v (length out)
          text_fits = record { cuttable = cuttable; copied = λ x. ap (λ (y : Measured). y.whole) (sym em) ∙ x; room = omega (arith, needs) }

          pub text_written : {n : ℕ} {after : List ℕ} → PutBytes text out n after → Meets (write_question σ size v out) (Ok (m.len + 3 * k)) after
          text_written p =
              rw (needed, p.buffer, text_is)
              (met (write_question σ size v out) (Ok (length (written_text σ size v))) (written_text σ size v ++ drop (length (written_text σ size v)) out)
              (accepted_writes σ size v out a ∙ writes_all (written_text σ size v) out (omega (arith, needed))))
