-- What the quick reading answers, by what was read and stored. Assumes nothing.
use mathlib.Core.Path.{◌≡◌, refl, ap, ap₂, sym, ◌∙◌}
use mathlib.Core.Bool.{Bool, true, false, not, false≢true}
use mathlib.Core.List.{List, [], ◌++◌, append-nil}
use Prim.Native.Nat.{ℕ, ◌+◌, ◌-◌, ◌≤◌, ◌<◌}
use native.Mathlib.Omega.{arith}
use borrow.Author.Tests.{not-false, le-leb}
use lib.ListN.{length, take, drop, length-append, length-drop, drop_of_length-le}
use lib.Seq.{take_all, length-take-le, drop_at}
use Rattle.meaning.specs.declared.Settings.{Settings}
use Rattle.meaning.specs.declared.ReadText.{ReadText}
use Rattle.meaning.specs.declared.ReadRefusal.{ReadRefusal}
use Rattle.meaning.specs.declared.ReadText.TheVariants as ReadText'
use Rattle.std.specs.Prelude.{if◌then◌else◌, Result, Ok, Err}
use Rattle.meaning.specs.Answers.{filled}
use Rattle.meaning.specs.Reading.{Answer, borrowed, written, read}
use Rattle.meaning.specs.Reads.{Reads, read_of, buffer_of}
use Rattle.laws.proofs.questions.Owed.{reads_short, reads_written, reads_borrowed}
use Rattle.leaves.specs.Puts.{Puts}
use Rattle.strings.specs.declared.quick.Segment.{Segment}
use Rattle.strings.specs.declared.quick.Untold.TheVariants as Untold'
use Rattle.strings.specs.Storing.{Behind}
use Rattle.strings.specs.Driving.{DrivenBy, Drives, Rewrites, Tries}
use Rattle.strings.proofs.Storages.{stored_empty}

-- two answers that are written have one value
written_same : (p : Bool) (f u : ℕ) (w v : List ℕ) → (if p then borrowed f u else written w) ≡ written v → w ≡ v
written_same true f u w v e = let y : ◌≡◌ {A = ℕ} 0 1 = cc in absurd (omega arith)
written_same false f u w v e = cc

-- WRITING AGAIN
module _ (σ : Settings) (t out : List ℕ) (q : Segment) (chunk' out' : List ℕ) (d : Drives σ t out q chunk' out') where
  pub again_not : q.read ≡ false → Rewrites σ t out q.read out'
  again_not e = record { same = d.out_same; done = λ h. absurd (false≢true (sym e ∙ h)) }

  pub again_few : q.read ≡ true → q.n ≤ length chunk'
  again_few e =
      let r = d.reads e in
      omega (arith, r.stored.count, ap length r.stored.held, length-drop q.total r.w, lib.ListN.length-take q.n chunk')

  pub again_all : q.read ≡ true → (after : List ℕ) → Behind (take q.n chunk') q.total out' after → Rewrites σ t out q.read after
  again_all e after b = record { same = b.same ∙ d.out_same; done = λ h v ev l. go h v ev l }
    where
      go : q.read ≡ true → (v : List ℕ) → read σ t ≡ written v → length v ≡ length out → after ≡ v
      go h v ev l =
          let r = d.reads h in
          let w = written_same q.plain q.from (length t - 1) r.w v (sym r.reads ∙ ev) in
          let s = stored_empty r.stored after (again_few h) b in
          let c = s.count in
          let n : q.total + q.n ≤ length out = omega (arith, c, ap length w, l) in
          let all : length out ≤ q.total + q.n = omega (arith, c, ap length w, l) in
          let rest : drop (q.total + q.n) out ≡ [] = drop_of_length-le out all in
          s.laid n ∙ ap (take (q.total + q.n) r.w ++◌) rest ∙ append-nil (take (q.total + q.n) r.w)
          ∙ take_all (q.total + q.n) r.w (omega (arith, c)) ∙ w

-- ANSWERS
module _ (σ : Settings) (t d : List ℕ) (q : Segment) (chunk none : List ℕ) (c : Drives σ t d q chunk none) (e : not q.read ≡ false) where
  k : DrivenBy σ t d q chunk none
  k = c.reads (not-false q.read e)

  count : length k.w ≡ q.total + q.n
  count = k.stored.count

  pub counted_some : 1 ≤ length t
  counted_some = k.some

  pub counted_held : q.total ≡ 0 → q.total + q.n ≤ length chunk
  counted_held z = omega (arith, z, again_few σ t d q chunk none c (not-false q.read e))

  pub counted_fits : q.total + q.n ≤ length t
  counted_fits = k.sum

  told : (x : Bool) → q.plain ≡ x → read σ t ≡ (if x then borrowed q.from (length t - 1) else written k.w)
  told x p = k.reads ∙ ap (λ (y : Bool). if y then borrowed q.from (length t - 1) else written k.w) p

  pub quick_borrowed : (out : List ℕ) → q.plain ≡ true → Tries true (read σ t) out (Ok (ReadText'.Borrowed q.from (length t - 1))) out
  quick_borrowed out p = record { by = (refl, reads_borrowed (read σ t) out q.from (length t - 1) (told true p)) }

  module _ (p : q.plain ≡ false) where
    value : read σ t ≡ written k.w
    value = told false p

    pub quick_lacks : (out : List ℕ) → length out < q.total + q.n → Tries true (read σ t) out (Err (Untold'.NoRoom (q.total + q.n))) out
    quick_lacks out h = record { by = (refl, reads_short (read σ t) k.w out (q.total + q.n) value (count) h) }

    module _ (out : List ℕ) (h : q.total + q.n ≤ length out) where
      -- the value stands at the buffer's start
      done : (after : List ℕ) → after ≡ k.w ++ drop (length k.w) out → Tries true (read σ t) out (Ok (ReadText'.Written (q.total + q.n))) after
      done after l = record { by = (refl, reads_written (read σ t) k.w out after (q.total + q.n) value (count) h l) }

      holds : (o : List ℕ) → length o ≡ length out → filled k.w o ≡ k.w ++ drop (length k.w) o
      unfolding filled
      holds o e = rw (le-leb (length k.w) (length o) (omega (arith, count)))

      pub quick_put : q.total ≡ 0 → (i : ℕ) (after : List ℕ) → Puts (take (q.total + q.n) chunk) out i after
          → Tries true (read σ t) out (Ok (ReadText'.Written (q.total + q.n))) after
      quick_put z i after b =
          let n : q.total + q.n ≡ q.n = omega (arith, z) in
          let w : take (q.total + q.n) chunk ≡ k.w = ap (λ (j : ℕ). take j chunk) n ∙ sym (ap (λ (j : ℕ). drop j k.w) (sym z) ∙ k.stored.held) in
          done after (b.buffer ∙ ap (λ (y : List ℕ). filled y out) w ∙ holds out refl)

      module _ (x : Bool) (after : List ℕ) (b : Rewrites σ t (take (q.total + q.n) out) x after) where
        abbrev whole : List ℕ
        whole = after ++ drop (q.total + q.n) out

        size : length (take (q.total + q.n) out) ≡ q.total + q.n
        size = length-take-le (q.total + q.n) out h

        pub quick_again : x ≡ true → Tries true (read σ t) out (Ok (ReadText'.Written (q.total + q.n))) whole
        quick_again y =
            done whole (ap₂ (λ (x : List ℕ) (j : ℕ). x ++ drop j out) (b.done y k.w value (count ∙ sym size)) (sym (count)))

        pub quick_left : Tries true (read σ t) out (Err Untold'.Unread) whole
        quick_left =
            let n : length after ≡ q.total + q.n = b.same ∙ size in
            let same : length whole ≡ length out = length-append after (drop (q.total + q.n) out) ∙ omega (arith, n, length-drop (q.total + q.n) out, h) in
            let rest : drop (length k.w) whole ≡ drop (length k.w) out = rw (count) (drop_at after (drop (q.total + q.n) out) (q.total + q.n) n) in
            record { by = (refl, (same, rw value (holds whole same ∙ ap (k.w ++◌) rest ∙ sym (holds out refl)))) }

-- WITHOUT AN ANSWER the reading by units answers for both
pub onward_reads : (a : Answer) (out after : List ℕ) → length after ≡ length out → buffer_of after a ≡ buffer_of out a
    → (r : Result ReadText ReadRefusal) (last : List ℕ) → Reads a after r last → Reads a out r last
onward_reads a out after same owed r last x = record { answer = x.answer ∙ ap (λ (n : ℕ). read_of n a) same; buffer = x.buffer ∙ owed }
