-- `kinds::temporal::token_start` meets its contract, by the byte before the mark and the one before that. Assumes nothing.
use Rattle.kinds.proofs.Tokens.{start_first, start_plain, start_lone, start_word, start_escape}
use Rattle.std.proofs.Common.{ap, not}
use Rattle.kinds.proofs.temporal.token_start.Goals as goal

pub returns-then-quote-eq0 : goal.returns-then-quote-eq0
returns-then-quote-eq0 c = search start_first

pub returns-then-not-letter : goal.returns-then-not-letter
returns-then-not-letter c = search start_plain

pub returns-then-before-eq0 : goal.returns-then-before-eq0
returns-then-before-eq0 c = search start_lone

pub returns-then-is_dollar_tag_continue : goal.returns-then-is_dollar_tag_continue
returns-then-is_dollar_tag_continue c = start_word _ _ c.if-quote-eq0.false _ c.byte_at-letter.ensures
    (ap not c.if-not-letter.false) c.if-before-eq0.false _ c.byte_at.ensures _
    c.is_dollar_tag_continue.ensures
    c.if-is_dollar_tag_continue.true

pub returns : goal.returns
returns c = start_escape _ _ c.if-quote-eq0.false _ c.byte_at-letter.ensures
    (ap not c.if-not-letter.false) c.if-before-eq0.false _ c.byte_at.ensures _
    c.is_dollar_tag_continue.ensures
    c.if-is_dollar_tag_continue.false
