use Rattle.std.proofs.Common.{◌≡◌, ◌⊎◌, ℕ, List, [], Option, ◌∙◌, ap, refl, subst}
use Rattle.tapa_words.specs.Meaning.{command}
use Rattle.tapa_words.specs.Words.{texts}
use Rattle.command_answers.specs.Ends.{NoMemory}
use Rattle.command_answers.specs.Meaning.{end_at}
use Rattle.command_answers.specs.Outside.{outside, written}
use Rattle.command_answers.specs.Told.{IsToldAs, IsFixed, name_for, name_at}
use Rattle.command_answers.specs.declared.file.File.{File}
use Rattle.command_answers.specs.declared.status.Status.TheVariants.{Ok}
use Rattle.command_answers.proofs.Never.{never, not_done}
use Rattle.tapa_drive.specs.Means.{held_of}
use Rattle.tapa_drive.proofs.Answered.{refused_words, answered_done, answered_refused, refused_is_not_ok, words_are_not_ok}
use Rattle.tapa_drive.proofs.top.answer.Goals as goal

pub returns-in-Err-clause-answer : goal.returns-in-Err-clause-answer
returns-in-Err-clause-answer g c =
    let same = outside g.S.Shelf g.O.Sink c.args.shelf.now c.args.out.now in
    refused_words (texts c.args.words.now) same same (written g.E.Sink c.args.err.now) (written g.E.Sink c.refuse_words.new.err) c.refuse_words.result c.in-Err.fault c.in-Err.ensures.refused refl c.refuse_words.ensures

pub returns-in-Err-clause-ok_err : goal.returns-in-Err-clause-ok_err
returns-in-Err-clause-ok_err g c = λ e. absurd (words_are_not_ok c.in-Err.fault c.refuse_words.result (written g.E.Sink c.args.err.now) (written g.E.Sink c.refuse_words.new.err) c.refuse_words.ensures e)

pub returns-in-Ok-carry_out-clause-answer : goal.returns-in-Ok-carry_out-clause-answer
returns-in-Ok-carry_out-clause-answer g c =
    let errors = written g.E.Sink c.args.err.now in
    answered_done (texts c.args.words.now) (outside g.S.Shelf g.O.Sink c.args.shelf.now c.args.out.now) (outside g.S.Shelf g.O.Sink c.carry_out.new.shelf c.carry_out.new.out) errors errors Ok
    (command c.in-Ok.command) c.in-Ok.ensures.asked c.in-Ok-carry_out.ensures refl refl

pub returns-in-Err-carry_out-clause-answer : goal.returns-in-Err-carry_out-clause-answer
returns-in-Err-carry_out-clause-answer g c =
    let errors = written g.E.Sink c.args.err.now in
    let told = written g.E.Sink c.tell.new.err in
    let end = end_at c.in-Err-carry_out.refusal in
    let named : c.shown.result.now ≡ name_at (held_of (command c.in-Ok.command)) end = c.shown.ensures ∙ ap (λ (file : Option File). name_for (held_of (command c.in-Ok.command)) file) c.file.ensures in
    answered_refused (texts c.args.words.now) (outside g.S.Shelf g.O.Sink c.args.shelf.now c.args.out.now) (outside g.S.Shelf g.O.Sink c.carry_out.new.shelf c.carry_out.new.out) errors told c.tell.result
    (command c.in-Ok.command) c.in-Ok.ensures.asked end (not_done c.in-Err-carry_out.refusal) c.in-Err-carry_out.ensures
    (subst (λ (name : List ℕ). IsToldAs name end c.tell.result errors told ⊎ IsToldAs [] NoMemory c.tell.result errors told) named c.tell.ensures.told)
    (subst (λ (name : List ℕ). IsFixed end → IsToldAs name end c.tell.result errors told) named c.tell.ensures.fixed)

pub returns-in-Err-carry_out-clause-ok_err : goal.returns-in-Err-carry_out-clause-ok_err
returns-in-Err-carry_out-clause-ok_err g c = λ e. absurd (refused_is_not_ok c.shown.result.now (end_at c.in-Err-carry_out.refusal) c.tell.result (written g.E.Sink c.args.err.now) (written g.E.Sink c.tell.new.err) (never c.in-Err-carry_out.refusal) c.tell.ensures.told e)
