-- Demand 3's second half, over what a text means: the chain of a value's parts, each written, with white space between; and why texts that begin with a quote
-- mark, joined so, mean their values one after the other. That the chain is made of such texts is in WrittenParts. Assumes nothing.
use mathlib.Core.Logic.{inl, inr}
use mathlib.Core.Path.{◌≡◌, refl}
use mathlib.Core.Bool.{true}
use mathlib.Core.List.{List, [], ◌∷◌, ◌++◌}
use Prim.Native.Nat.{ℕ, ◌+◌, ◌<◌}
use native.Mathlib.Omega.{arith}
use lib.ListN.{length, length-append}
use Rattle.meaning.specs.declared.Settings.{Settings}
use Rattle.meaning.specs.declared.PartSize.{PartSize}
use Rattle.meaning.specs.Bytes.{quote, is_mark}
use Rattle.meaning.specs.Chars.{utf8}
use Rattle.meaning.specs.Writer.{spells, literal, written_text}
use Rattle.laws.proofs.utf8.Utf8.{utf8_join}
use Rattle.laws.proofs.utf8.WhiteUtf8.{white_utf8}
use Rattle.laws.proofs.writing.Written.{writable}
use Rattle.laws.proofs.utf8.WrittenUtf8.{literal_utf8}
use Rattle.laws.proofs.writing.Unchanged.{ReadsBack, longer, back_means, back_length, literal_whole, literal_back}
use Rattle.laws.proofs.joining.Joining.{White, Ready, join, goes_on}

-- THE CHAIN. A part of a value, and the part size at which it is written
pub record Part : Type 0 where
  pub value : List ℕ
  pub size : PartSize

abbrev pub text_of : Settings → Part → List ℕ
text_of σ q = written_text σ q.size q.value

-- a white-space gap, not empty, and the part behind it
pub record Next : Type 0 where
  pub first : ℕ
  pub rest : List ℕ
  pub white : White (first ∷ rest)
  pub part : Part

-- the parts written one after the other, and the value that they are parts of
abbrev pub chain : Settings → Part → List Next → List ℕ
chain σ p [] = text_of σ p
chain σ p (x ∷ xs) = text_of σ p ++ ((x.first ∷ x.rest) ++ chain σ x.part xs)

abbrev pub all_of : Part → List Next → List ℕ
all_of p [] = p.value
all_of p (x ∷ xs) = p.value ++ all_of x.part xs

-- TEXTS THAT JOIN: UTF-8, begun by a quote mark, of one segment or continued by a quote mark, and read back as v
pub record Joinable (σ : Settings) (t v : List ℕ) : Type 0 where
  pub behind : List ℕ
  pub begins : t ≡ quote ∷ behind
  pub valid : utf8 t ≡ true
  pub ready : Ready σ t
  pub back : ReadsBack σ (quote ∷ []) t v

pub is_quote : is_mark quote ≡ true
unfolding is_mark
is_quote = refl

-- two of them, joined, are one, and the value is written
module _ (σ : Settings) (g : ℕ) (G : List ℕ) (white : White (g ∷ G)) where
  join_at : (A B v w : List ℕ) → Joinable σ (quote ∷ A) v → Joinable σ (quote ∷ B) w → Joinable σ ((quote ∷ A) ++ ((g ∷ G) ++ (quote ∷ B))) (v ++ w)
  join_at A B v w a b = record {
    behind = A ++ ((g ∷ G) ++ (quote ∷ B));
    begins = refl;
    valid = utf8_join (quote ∷ A) (g ∷ G) (quote ∷ B) a.valid (white_utf8 (g ∷ G) white) b.valid;
    ready = inr (goes_on σ g G white quote B is_quote quote A a.ready);
    back = longer more (join σ g G white quote B is_quote quote A v w a.ready (back_means a.back) b.ready (back_means b.back));
  }
    where
      more : length (v ++ w) + 2 < length ((quote ∷ A) ++ ((g ∷ G) ++ (quote ∷ B)))
      more =
          omega (
            arith,
            back_length a.back,
            back_length b.back,
            length-append v w,
            length-append (quote ∷ A) ((g ∷ G) ++ (quote ∷ B)),
            length-append (g ∷ G) (quote ∷ B),
          )

  pub joins : {A B v w : List ℕ} → Joinable σ A v → Joinable σ B w → Joinable σ (A ++ ((g ∷ G) ++ B)) (v ++ w)
  joins {v = v} {w = w} a b =
      rw (a.begins, b.begins) (join_at a.behind b.behind v w (rw a.begins at a) (rw b.begins at b))

-- a literal is one
pub literal_joins : (σ : Settings) (p : List ℕ) → utf8 p ≡ true → writable σ.backslash p ≡ true → Joinable σ (literal σ.backslash p) p
literal_joins σ p u w = record {
  behind = spells σ.backslash p ++ (quote ∷ []);
  begins = refl;
  valid = literal_utf8 σ.backslash p u;
  ready = inl (literal_whole σ p);
  back = literal_back σ p w;
}
