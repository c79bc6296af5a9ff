-- [01 Numbers an answer can carry] "the two validators and `uescape_argument_is_legal` answer no on text that isn't UTF-8": a text that gets yes is UTF-8.
-- Assumes nothing.
use mathlib.Core.Path.{◌≡◌}
use mathlib.Core.Bool.{true}
use mathlib.Core.List.{List}
use Prim.Native.Nat.{ℕ}
use Rattle.meaning.specs.Chars.{utf8}
use Rattle.meaning.specs.Helpers.{uescape_legal, escape_valid, unicode_valid}
use Rattle.laws.proofs.basics.Tests.{and_left}

pub uescape_legal_utf8 : (t : List ℕ) → uescape_legal t ≡ true → utf8 t ≡ true
unfolding uescape_legal
uescape_legal_utf8 t h = and_left (utf8 t) _ h

pub escape_valid_utf8 : (t : List ℕ) → escape_valid t ≡ true → utf8 t ≡ true
unfolding escape_valid
escape_valid_utf8 t h = and_left (utf8 t) _ h

pub unicode_valid_utf8 : (t : List ℕ) → unicode_valid t ≡ true → utf8 t ≡ true
unfolding unicode_valid
unicode_valid_utf8 t h = and_left (utf8 t) _ h
