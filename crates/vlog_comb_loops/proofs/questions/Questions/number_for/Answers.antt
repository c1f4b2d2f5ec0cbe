use Rattle.std.proofs.Common.{◌≡◌, ◌∙◌, ap, refl, rules, length, cond, Some}
use Rattle.std.specs.Prelude.{bytes_eq}
use Rattle.vlog_scope.specs.NameTable.{value_in}
use Rattle.vlog_comb_loops.proofs.Asking.{list_of, begun_same}
use Rattle.vlog_comb_loops.proofs.questions.Questions.number_for.Goals as goal

pub returns-clause-same : goal.returns-clause-same
returns-clause-same c = λ m.
    let old = c.args.self.now in
    let name = c.args.name.now in
    let at : c.len-number.result ≡ length old.lists.items = search rules in
    ap (λ o. list_of c.push.new.self.items o) (c.in_ok-insert_number.ensures m ∙ ap (λ n. cond (bytes_eq name m) (Some n) (value_in old.numbers m)) at)
    ∙ ap (λ l. list_of l (cond (bytes_eq name m) (Some (length old.lists.items)) (value_in old.numbers m))) c.in_ok-push.ensures.items
    ∙ begun_same old.lists.items c.new.result c.new.ensures.items (value_in old.numbers) name (c.number.ensures.none c.in_default.is) m _ refl
