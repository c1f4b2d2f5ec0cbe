use Rattle.std.proofs.Common.{rules, ◌≡◌, ◌+◌, ◌++◌, ◌∷◌, [], ℕ, length, cond, Some, None, refl, sym, ap, subst, ◌∙◌}
use Rattle.std.specs.Prelude.{bytes_eq}
use Rattle.tapa_base.specs.Lists.{Has}
use Rattle.vlog_tree.specs.Table.{Name}
use Rattle.vlog_scope.specs.NameTable.{value_in}
use Rattle.vlog_net_graph.specs.Names.{IsNumbered, AreListed, texts}
use Rattle.vlog_net_graph.proofs.Numbered.{numbered_more, listed_more}
use Rattle.vlog_net_graph.proofs.names.GraphDraft.add_name.Goals as goal

pub returns-clause-graph : goal.returns-clause-graph
returns-clause-graph c = λ edges g.
    let old = c.args.self.now in
    let R : ℕ → ℕ → Type 0 = λ j k. Has old.edges.items (j, k) in
    let at : c.len-number.result ≡ length old.names.items = search rules in
    let longer : length c.push.new.self.items ≡ length old.names.items + 1 = search rules in
    let fresh : value_in old.numbers c.args.name.items ≡ None = c.requires in
    subst (λ n. IsNumbered edges (value_in c.insert_number.new.numbers) R n) (sym longer)
    (numbered_more edges (value_in old.numbers) (value_in c.insert_number.new.numbers) R (length old.names.items) c.args.name.items g fresh
    (λ x. c.in_ok-insert_number.ensures x ∙ ap (λ (y : Name). cond (bytes_eq y x) (Some c.len-number.result) (value_in old.numbers x)) c.deref.ensures.value ∙ ap (λ n. cond (bytes_eq c.args.name.items x) (Some n) (value_in old.numbers x)) at))

pub returns-clause-listed : goal.returns-clause-listed
returns-clause-listed c = λ old.
    let d = c.args.self.now in
    let at : c.len-number.result ≡ length d.names.items = search rules in
    let all : c.push.new.self.items ≡ d.names.items ++ c.args.name ∷ [] = search rules in
    subst (λ l. AreListed (value_in c.insert_number.new.numbers) (texts l)) (sym all)
    (listed_more d.names.items c.args.name (value_in d.numbers) (value_in c.insert_number.new.numbers) c.args.name.items refl
    (λ x. c.in_ok-insert_number.ensures x ∙ ap (λ (y : Name). cond (bytes_eq y x) (Some c.len-number.result) (value_in d.numbers x)) c.deref.ensures.value ∙ ap (λ n. cond (bytes_eq c.args.name.items x) (Some n) (value_in d.numbers x)) at) old)
