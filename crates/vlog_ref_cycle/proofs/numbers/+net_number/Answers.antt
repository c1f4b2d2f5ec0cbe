use Rattle.std.proofs.Common.{◌≡◌, ◌-◌, Some, None, sym, ap, ◌∙◌, arith}
use Rattle.std.specs.Prelude.{Vec}
use Rattle.std.specs.declared.alloc.Global.{Global}
use Rattle.vlog_values.specs.declared.numbers.NetNumber.{NetNumber}
use Rattle.std.specs.Option.{option_map}
use Rattle.vlog_ref_cycle.specs.Sources.{source_tree}
use Rattle.vlog_ref_cycle.specs.Numbers.{all_numbers, by_rule, number_at}
use Rattle.vlog_ref_cycle.proofs.Within.{number_found, number_unread, runs_number}
use Rattle.vlog_ref_cycle.proofs.numbers.+net_number.Goals as goal

pub net_number-returns-in-Some-2-clause-within : goal.net_number-returns-in-Some-2-clause-within
net_number-returns-in-Some-2-clause-within t c =
    let s = source_tree c.in-Some.source in
    let all : Some c.in-Some-2.nets.items ≡ all_numbers (number_at c.args.design.now c.args.now.now (c.args.depth - 1) s.path) s.reads = ap (λ o. option_map (λ (v : Vec NetNumber Global). v.items) o) (sym c.in-Some-2.is) ∙ c.in_ok-nets.ensures ∙ ap (λ p. all_numbers (number_at c.args.design.now c.args.now.now (c.args.depth - 1) p) c.deref-2.result.now) c.deref.ensures.value ∙ ap (λ r. all_numbers (number_at c.args.design.now c.args.now.now (c.args.depth - 1) s.path) r) c.deref-2.ensures.value in
    let made : c.by_rule.result ≡ by_rule s.rule c.in-Some-2.nets.items = cc (c.by_rule.ensures, c.deref-in-Some-2.ensures.value) in
    number_found c.args.design.now c.args.now.now c.args.depth c.args.path.now c.args.name.now (λ e. absurd (omega arith)) s (ap (option_map source_tree) (sym c.in-Some.is) ∙ c.in_ok-source.ensures) c.in-Some-2.nets.items c.by_rule.result all made

pub net_number-returns-in-Some-2-clause-value : goal.net_number-returns-in-Some-2-clause-value
net_number-returns-in-Some-2-clause-value t c =
    let s = source_tree c.in-Some.source in
    let all : Some c.in-Some-2.nets.items ≡ all_numbers (number_at c.args.design.now c.args.now.now (c.args.depth - 1) s.path) s.reads = ap (λ o. option_map (λ (v : Vec NetNumber Global). v.items) o) (sym c.in-Some-2.is) ∙ c.in_ok-nets.ensures ∙ ap (λ p. all_numbers (number_at c.args.design.now c.args.now.now (c.args.depth - 1) p) c.deref-2.result.now) c.deref.ensures.value ∙ ap (λ r. all_numbers (number_at c.args.design.now c.args.now.now (c.args.depth - 1) s.path) r) c.deref-2.ensures.value in
    let made : c.by_rule.result ≡ by_rule s.rule c.in-Some-2.nets.items = cc (c.by_rule.ensures, c.deref-in-Some-2.ensures.value) in
    runs_number c.args.design.now c.args.now.now c.args.depth c.args.path.now c.args.name.now c.by_rule.result
    (number_found c.args.design.now c.args.now.now c.args.depth c.args.path.now c.args.name.now (λ e. absurd (omega arith)) s (ap (option_map source_tree) (sym c.in-Some.is) ∙ c.in_ok-source.ensures) c.in-Some-2.nets.items c.by_rule.result all made)

pub net_number-returns-clause-within : goal.net_number-returns-clause-within
net_number-returns-clause-within t c =
    let s = source_tree c.in-Some.source in
    let all : None ≡ all_numbers (number_at c.args.design.now c.args.now.now (c.args.depth - 1) s.path) s.reads = ap (λ o. option_map (λ (v : Vec NetNumber Global). v.items) o) (sym c.in-None.is) ∙ c.in_ok-nets.ensures ∙ ap (λ p. all_numbers (number_at c.args.design.now c.args.now.now (c.args.depth - 1) p) c.deref-2.result.now) c.deref.ensures.value ∙ ap (λ r. all_numbers (number_at c.args.design.now c.args.now.now (c.args.depth - 1) s.path) r) c.deref-2.ensures.value in
    number_unread c.args.design.now c.args.now.now c.args.depth c.args.path.now c.args.name.now (λ e. absurd (omega arith)) s (ap (option_map source_tree) (sym c.in-Some.is) ∙ c.in_ok-source.ensures) all
