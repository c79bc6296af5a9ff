-- The contracts of the exports determine all that a call gives back: two results that one permits are equal. Assumes nothing.
use mathlib.Core.Path.{◌≡◌, sym, ◌∙◌}
use mathlib.Core.List.{List}
use Prim.Native.Nat.{ℕ}
use lib.IntN.{ℤ}
use Rattle.meaning.specs.declared.RadixPrefix.{RadixPrefix}
use Rattle.meaning.specs.Answers.{Outcome}
use Rattle.valdrabus.specs.declared.told.Told.{Told}
use Rattle.valdrabus.specs.declared.counted.Counted.{Counted}
use Rattle.valdrabus.specs.declared.dated.DayTold.{DayTold}
use Rattle.valdrabus.specs.declared.packed.PackedTold.{PackedTold}
use Rattle.valdrabus.specs.declared.views.View.{View}
use Rattle.valdrabus.specs.Numbers.{Says, Tells, TellsPlace}
use Rattle.valdrabus.specs.Calls.{Counts, Bare, Lengths, Splits, Dates, Finds, Packs}
use Rattle.valdrabus.specs.Views.{Shows}

same : {A : Type 0} {x y z : A} → x ≡ z → y ≡ z → x ≡ y
same p q = p ∙ sym q

module _ {r r' f f' s s' : ℕ} where
  pub says_unique : {t : Told} {h h' : ℕ} → Says t r h f s → Says t r' h' f' s' → (r ≡ r') × (h ≡ h') × (f ≡ f') × (s ≡ s')
  says_unique a b = (same a.result b.result, same a.way b.way, same a.one b.one, same a.two b.two)

  pub counts_unique : {n : Counted} {v v' : ℤ} → Counts n r v f s → Counts n r' v' f' s' → (r ≡ r') × (v ≡ v') × (f ≡ f') × (s ≡ s')
  counts_unique a b = (same a.result b.result, same a.counted b.counted, same a.one b.one, same a.two b.two)

  pub bare_unique : {t : Told} → Bare t r f s → Bare t r' f' s' → (r ≡ r') × (f ≡ f') × (s ≡ s')
  bare_unique a b = (same a.result b.result, same a.one b.one, same a.two b.two)

  pub shows_unique : {v : View} → Shows v r f s → Shows v r' f' s' → (r ≡ r') × (f ≡ f') × (s ≡ s')
  shows_unique a b = (same a.result b.result, same a.first b.first, same a.last b.last)

module _ {r r' : ℕ} {out out' : List ℕ} {o : Outcome Told} where
  pub tells_buffer : {h h' f f' s s' : ℕ} → Tells o r h f s out → Tells o r' h' f' s' out' → out ≡ out'
  tells_buffer a b = same a.buffer b.buffer

  pub place_unique : {h h' f f' s s' p p' : ℕ} → TellsPlace o r h f s p out → TellsPlace o r' h' f' s' p' out'
      → ((r ≡ r') × (h ≡ h') × (f ≡ f') × (s ≡ s')) × (p ≡ p') × (out ≡ out')
  place_unique a b = (says_unique a.tells.says b.tells.says, same a.stop b.stop, tells_buffer a.tells b.tells)

  pub lengths_unique : {n n' : ℕ} → Lengths o r n out → Lengths o r' n' out' → (r ≡ r') × (n ≡ n') × (out ≡ out')
  lengths_unique a b = (same a.result b.result, same a.long b.long, same a.buffer b.buffer)

pub splits_unique : {p : RadixPrefix} {r r' s s' : ℕ} → Splits p r s → Splits p r' s' → (r ≡ r') × (s ≡ s')
splits_unique a b = (same a.base b.base, same a.digits b.digits)

-- [02 T-05]
module _ {t : DayTold} {r r' y y' m m' d d' : ℕ} where
  pub dates_unique : {n n' f f' s s' : ℕ} → Dates t r y m d n f s → Dates t r' y' m' d' n' f' s'
      → (r ≡ r') × (y ≡ y') × (m ≡ m') × (d ≡ d') × (n ≡ n') × (f ≡ f') × (s ≡ s')
  dates_unique a b = (
    same a.result b.result,
    same a.years b.years,
    same a.months b.months,
    same a.days b.days,
    same a.counted b.counted,
    same a.one b.one,
    same a.two b.two,
  )

  pub finds_unique : Finds t r y m d → Finds t r' y' m' d' → (r ≡ r') × (y ≡ y') × (m ≡ m') × (d ≡ d')
  finds_unique a b = (same a.result b.result, same a.years b.years, same a.months b.months, same a.days b.days)

-- [02 T-07]
pub packs_unique : {o : Outcome PackedTold} {r r' b b' h h' f f' s s' : ℕ} {out out' : List ℕ} → Packs o r b h f s out → Packs o r' b' h' f' s' out'
    → ((r ≡ r') × (h ≡ h') × (f ≡ f') × (s ≡ s')) × (b ≡ b') × (out ≡ out')
packs_unique a b = (says_unique a.says b.says, same a.count b.count, same a.buffer b.buffer)
