use Rattle.std.proofs.Common.{List, sym, subst}
use Rattle.tapa_base.specs.Lists.{Has}
use Rattle.vlog_scope.specs.NameTable.{value_in}
use Rattle.vlog_comb_loops.specs.Questions.{Question}
use Rattle.vlog_comb_loops.proofs.Asking.{pushed_kept, pushed_there}
use Rattle.vlog_comb_loops.proofs.questions.Questions.ask.Goals as goal

pub returns-clause-there : goal.returns-clause-there
returns-clause-there c =
    let found = c.number_for.new.self in
    pushed_there found.lists.items c.push_question.new.lists.items c.in_ok-number.number c.args.question
    c.in_ok-push_question.ensures.at c.in_ok-push_question.ensures.others (value_in found.numbers c.args.name.now) c.in_ok-number.ensures.number.0

pub returns-clause-kept : goal.returns-clause-kept
returns-clause-kept c = λ m e h.
    let found = c.number_for.new.self in
    pushed_kept found.lists.items c.push_question.new.lists.items c.in_ok-number.number c.args.question
    c.in_ok-push_question.ensures.at c.in_ok-push_question.ensures.others (value_in found.numbers m) e (subst (λ (l : List Question). Has l e) (sym (c.in_ok-number.ensures.same m)) h)
