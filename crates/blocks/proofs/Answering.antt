-- What is told of an item, test by test, is the definition's, and its numbers have 32 bits. Assumes nothing.
use Rattle.std.specs.Prelude.{Result, Ok, Err}
use mathlib.Core.Path.{◌≡◌, refl, sym, ap, ◌∙◌, subst}
use mathlib.Core.Bool.{Bool, true, false, ◌&&◌, not, false≢true}
use mathlib.Core.List.{List}
use Prim.Native.Nat.{ℕ, ◌+◌, ◌-◌, ◌≤◌}
use native.Mathlib.Omega.{arith}
use lib.Dec.{leb}
use lib.ListN.{length, drop, length-drop, length-take}
use mir.Syntax.{w32}
use mir.Val.{Fits}
use borrow.Author.Tests.{leb-true, ne_eqb}
use Rattle.meaning.specs.declared.Item.{Item}
use Rattle.meaning.specs.declared.Span.{Span}
use Rattle.meaning.specs.declared.Settings.{Settings}
use Rattle.meaning.specs.declared.ReadText.{ReadText}
use Rattle.meaning.specs.declared.ReadRefusal.{ReadRefusal}
use Rattle.meaning.specs.declared.ReadText.TheVariants as ReadText'
use Rattle.meaning.specs.declared.Refusal.TheVariants.{InvalidString}
use Rattle.meaning.specs.Bytes.{part}
use Rattle.meaning.specs.Chars.{utf8}
use Rattle.meaning.specs.Reading.{Answer, borrowed, written, refused, read}
use Rattle.meaning.specs.Reads.{read_of, Reads}
use Rattle.meaning.specs.Answers.{kind_code}
use Rattle.meaning.specs.Questions.{bad_span, tested, source_text, told_as, string_question}
use Rattle.meaning.specs.Codes.{kind_of, is_known, settings_of}
use Rattle.meaning.specs.Blocks.{Asked, four, asked_as, item_asked}
use Rattle.laws.proofs.basics.Tests.{and_left, and_right}
use Rattle.laws.proofs.walking.Short.{read_length}
use Rattle.laws.proofs.places.Whole.{read_end}
use Rattle.laws.proofs.questions.Unreached.{kind_of_code}
use Rattle.laws.proofs.questions.Ranges.{Bounds, AnswerIn, read_inside, span_range}
use Rattle.strings.specs.declared.reading.NotUtf8.{NotUtf8 as Undecoded}
use Rattle.strings.specs.Plain.{is_plain_ascii}
use Rattle.strings.specs.Driving.{ChecksBy, Checks}
use Rattle.strings.proofs.Fits.{ascii_checks}
use Rattle.blocks.specs.declared.items.Told.{Told}
use Rattle.blocks.specs.Items.{told_of, read_told, InBlock, Asks}

-- A REFUSAL takes no room and leaves the room as it was
abbrev refused_asked : ℕ → List ℕ → Asked
refused_asked n out = record { told = four n 0 0 0; took = 0; room = out }

refused_asks : (a : Asked) (n : ℕ) (out : List ℕ) → a ≡ refused_asked n out → (r : Told) → r ≡ told_of n 0 0 0 0 → Asks a r out
refused_asks a n out e r p = rw (e, p) (record { told = refl; took = refl; room = refl })

-- A READING of the text at place s
read_asks : (sp : Span) (s used : ℕ) (out after : List ℕ) (a : Answer) (d : Result ReadText ReadRefusal) → Reads a out d after
    → Asks (asked_as used (told_as (InvalidString sp) s out a)) (read_told s used d) after
read_asks sp s used out after (borrowed f u) d k = rw k.answer (record { told = ap (four 0 1 (s + f)) (omega arith); took = refl; room = k.buffer })
read_asks sp s used out after (written v) d k = go (leb (length v) (length out)) refl
  where
    go : (x : Bool) → leb (length v) (length out) ≡ x → Asks (asked_as used (told_as (InvalidString sp) s out (written v))) (read_told s used d) after
    go true e = rw (k.answer, e) (record { told = refl; took = refl; room = k.buffer })
    go false e = rw (k.answer, e) (record { told = refl; took = refl; room = k.buffer })
read_asks sp s used out after (refused p) d k = rw k.answer (record { told = refl; took = refl; room = k.buffer })

-- its numbers have 32 bits, since a value is no longer than its text, and a place inside it
in_block : (s used n : ℕ) (out : List ℕ) (a : Answer) (d : Result ReadText ReadRefusal) → d ≡ read_of (length out) a → AnswerIn n a
    → ((v : List ℕ) → a ≡ written v → length v + 2 ≤ n) → ((p : ℕ) → a ≡ refused p → p ≤ n) → s + n ≤ 4294967295 → used + length out ≤ 4294967295
    → InBlock s used d
in_block s used n out (borrowed f u) d k i m o h w = record { by = rw k (i.ordered, omega (arith, i.inside, h)) }
in_block s used n out (written v) d k i m o h w = go (leb (length v) (length out)) refl
  where
    go : (x : Bool) → leb (length v) (length out) ≡ x → InBlock s used d
    go true e = record { by = rw (k, e) (omega (arith, leb-true (length v) (length out) e, w)) }
    go false e = record { by = rw (k, e) (omega (arith, m v refl, h)) }
in_block s used n out (refused p) d k i m o h w = record { by = rw k (omega (arith, o p refl, h)) }

module _ (S : List ℕ) (used : ℕ) (out : List ℕ) (i : Item) where
  abbrev known : Bool
  known = is_known i.kind 0 i.setting

  abbrev it : Asked
  it = item_asked S used out i

  module _ (b : Bool) (q : b ≡ known) where
    pub unknown_asks : not b ≡ true → (r : Told) → r ≡ told_of 10 0 0 0 0 → Asks it r out
    unfolding item_asked
    unknown_asks h r p = refused_asks it 10 out (go b q h) r p
      where
        go : (x : Bool) → x ≡ known → not x ≡ true → it ≡ refused_asked 10 out
        go true e n = absurd (false≢true n)
        go false e n = rw (← e)

    module _ (h : not b ≡ false) where
      yes : known ≡ true
      yes = sym q ∙ go b h
        where
          go : (x : Bool) → not x ≡ false → x ≡ true
          go true n = refl
          go false n = absurd (false≢true (sym n))

      code_is : kind_code (kind_of i.kind) ≡ i.kind
      code_is =
          let k = and_left (leb 1 i.kind && leb i.kind 14) _ yes in
          kind_of_code i.kind (leb-true 1 i.kind (and_left _ _ k)) (leb-true i.kind 14 (and_right (leb 1 i.kind) _ k))

      pub kind_asks : (i.kind ≡ 4 → ⊥) → (r : Told) → r ≡ told_of 1 0 0 0 0 → Asks it r out
      unfolding item_asked string_question tested
      kind_asks n r p = refused_asks it 1 out its r p
        where
          its : it ≡ refused_asked 1 out
          its = rw (yes, code_is, ne_eqb i.kind 4 n)

      module _ (k : i.kind ≡ 4) where
        pub span_asks : (x : Bool) → x ≡ bad_span (record { start = i.start; end = i.end }) S → x ≡ true → (r : Told) → r ≡ told_of 3 0 0 0 0 → Asks it r out
        unfolding item_asked string_question tested source_text
        span_asks x e t r p = refused_asks it 3 out its r p
          where
            its : it ≡ refused_asked 3 out
            its = rw (yes, k, sym e ∙ t)

        module _ (x : Bool) (e : x ≡ bad_span (record { start = i.start; end = i.end }) S) (f : x ≡ false) where
          range : Bounds (length S) i.start i.end
          range = span_range (record { start = i.start; end = i.end }) S (sym e ∙ f)

          pub span_ordered : i.start ≤ i.end
          span_ordered = range.ordered

          pub span_inside : i.end ≤ length S
          span_inside = range.inside

          abbrev text : List ℕ
          text = part i.start i.end S

          -- AS IT IS READ, whatever the setting; what it tells is the item's at the item's own
          module _ (σ : Settings) (d : Result (Result ReadText ReadRefusal) Undecoded) (after : List ℕ) (c : Checks (utf8 text) (read σ text) out d after) where
            pub undecoded_asks : (n : Undecoded) → d ≡ Err n → (r : Told) → r ≡ told_of 4 0 0 0 0 → Asks it r after
            unfolding item_asked string_question tested source_text
            undecoded_asks n o r p =
                let y = subst (λ (z : Result (Result ReadText ReadRefusal) Undecoded). ChecksBy (utf8 text) (read σ text) out z after) o c.by in
                subst (Asks it r) (sym y.1) (refused_asks it 4 out (its y.0) r p)
              where
                its : utf8 text ≡ false → it ≡ refused_asked 4 out
                its u = rw (yes, k, sym e ∙ f, u)

            module _ (a : Result ReadText ReadRefusal) (o : d ≡ Ok a) where
              reads : (utf8 text ≡ true) × Reads (read σ text) out a after
              reads = subst (λ (z : Result (Result ReadText ReadRefusal) Undecoded). ChecksBy (utf8 text) (read σ text) out z after) o c.by

              module _ (g : σ ≡ settings_of i.setting) where
                its : it ≡ asked_as used (told_as (InvalidString (record { start = i.start; end = i.end })) i.start out (read σ text))
                unfolding item_asked string_question tested source_text
                its = rw (yes, k, sym e ∙ f, reads.0, ← g)

                pub text_asks : (r : Told) → r ≡ read_told i.start used a → Asks it r after
                text_asks r p = rw (its, p) (read_asks (record { start = i.start; end = i.end }) i.start used out after (read σ text) a reads.1)

              pub text_fits : used + length out ≤ 4294967295 → Fits w32 i.end → InBlock i.start used a
              text_fits h w =
                  let n : i.start + length text ≤ 4294967295 =
                  omega (arith, length-take (i.end - i.start) (drop i.start S), length-drop i.start S, range.ordered, range.inside, w.fits) in
                  in_block i.start used (length text) out (read σ text) a reads.1.answer (read_inside σ text) (read_length σ text) (read_end σ text) n h

          -- A PLAIN TEXT IN ASCII is its body
          module _ (σ : Settings) (y : Bool) (p : y ≡ is_plain_ascii σ text) (z : y ≡ true) where
            abbrev body : Result ReadText ReadRefusal
            body = Ok (ReadText'.Borrowed 1 (length text - 1))

            pub plain_fits : used + length out ≤ 4294967295 → Fits w32 i.end → InBlock i.start used (Ok (ReadText'.Borrowed 1 (length text - 1)))
            plain_fits h w = text_fits σ (Ok body) out (ascii_checks σ text y p z out) body refl h w

            pub plain_asks : σ ≡ settings_of i.setting → (r : Told) → r ≡ read_told i.start used (Ok (ReadText'.Borrowed 1 (length text - 1))) → Asks it r out
            plain_asks g r q = text_asks σ (Ok body) out (ascii_checks σ text y p z out) body refl g r q
