-- `scalars::encoding::utf8_len` meets its contract. An encoding has one byte more than `more` says, which asks what the code asks. Assumes nothing.
use borrow.Author.Tests.{lt-ltb, le-ltb}
use Rattle.meaning.specs.Chars.{more}
use Rattle.laws.proofs.utf8.Encode.{encode_length}
use Rattle.scalars.proofs.encoding.utf8_len.Goals as goal

pub returns-then-scalar-lt128 : goal.returns-then-scalar-lt128
unfolding more
returns-then-scalar-lt128 c = rw (encode_length, lt-ltb _ _ c.if-scalar-lt128.true)

pub returns-then-scalar-lt2048 : goal.returns-then-scalar-lt2048
unfolding more
returns-then-scalar-lt2048 c = rw (encode_length, le-ltb _ _ c.if-scalar-lt128.false, lt-ltb _ _ c.if-scalar-lt2048.true)

pub returns-then-scalar-lt65536 : goal.returns-then-scalar-lt65536
unfolding more
returns-then-scalar-lt65536 c = rw (encode_length, le-ltb _ _ c.if-scalar-lt128.false, le-ltb _ _ c.if-scalar-lt2048.false, lt-ltb _ _ c.if-scalar-lt65536.true)

pub returns : goal.returns
unfolding more
returns c = rw (encode_length, le-ltb _ _ c.if-scalar-lt128.false, le-ltb _ _ c.if-scalar-lt2048.false, le-ltb _ _ c.if-scalar-lt65536.false)
