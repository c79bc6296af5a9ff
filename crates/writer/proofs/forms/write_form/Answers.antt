-- `writer::forms::write_form` meets its contract: nothing is written before all tests are passed and the text is measured. Assumes nothing.
use Rattle.meaning.specs.Forms.{form_question}
use Rattle.meaning.specs.declared.Form.TheVariants.{Escape, Unicode}
use Rattle.laws.proofs.writing.FormText.{FormAccepted}
use Rattle.writer.proofs.Refusing.{over_limit_lem, not_utf8, holds_nul, all_passed}
use Rattle.writer.proofs.FormAnswers.{form_accepted, spellable, asked}
use Rattle.writer.proofs.forms.write_form.Goals as goal

pub returns-then-is_over_limit : goal.returns-then-is_over_limit
unfolding form_question
returns-then-is_over_limit c = search over_limit_lem

pub returns-then-not-is_utf8 : goal.returns-then-not-is_utf8
unfolding form_question
returns-then-not-is_utf8 c = search not_utf8

pub returns-then-string_literal_embeds_nul : goal.returns-then-string_literal_embeds_nul
unfolding form_question
returns-then-string_literal_embeds_nul c = search holds_nul

pub write_by-requires : goal.write_by-requires
write_by-requires c = let passed_here : FormAccepted c.args.value.now = search (form_accepted, all_passed) in
    spellable Escape passed_here

pub write_by-requires-in-Unicode : goal.write_by-requires-in-Unicode
write_by-requires-in-Unicode c = let passed_here : FormAccepted c.args.value.now = search (form_accepted, all_passed) in
    spellable Unicode passed_here

pub returns-in-Escape : goal.returns-in-Escape
returns-in-Escape c = let passed_here : FormAccepted c.args.value.now = search (form_accepted, all_passed) in
    rw (c.in-Escape.is, asked Escape passed_here c.args.out.now) c.write_by.ensures

pub returns-in-Unicode : goal.returns-in-Unicode
returns-in-Unicode c = let passed_here : FormAccepted c.args.value.now = search (form_accepted, all_passed) in
    rw (c.in-Unicode.is, asked Unicode passed_here c.args.out.now) c.write_by-in-Unicode.ensures
