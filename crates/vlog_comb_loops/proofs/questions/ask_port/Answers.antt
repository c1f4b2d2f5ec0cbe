use Rattle.std.proofs.Common.{◌≡◌, List, Some, None, subst}
use Rattle.std.specs.Prelude.{slice_get}
use Rattle.std.proofs.lemmas.Option.{slice_get_past}
use Rattle.vlog_tree.specs.declared.tree.Item.{Item}
use Rattle.tapa_base.specs.Lists.{Has}
use Rattle.vlog_tree.specs.Loops.{item_instances}
use Rattle.tapa_base.proofs.Lists.{got_index}
use Rattle.vlog_comb_loops.proofs.questions.ask_port.Goals as goal

pub returns-in_ok-ask_item-in-Some-get-clause-there : goal.returns-in_ok-ask_item-in-Some-get-clause-there
returns-in_ok-ask_item-in-Some-get-clause-there c = λ j item m i line is inst.
    let k = c.args.k.now in
    let at = c.in-Some.at in
    let it = c.in-Some-get.item.now in
    let found = c.in-Some-get.ensures.lookup in
    let there : slice_get k.items at ≡ Some it = subst (λ (l : List Item). slice_get l at ≡ Some it) c.items.ensures.value (got_index c.items.result.now at it found.3.0 found.1) in
    let same_at : at ≡ j = cc (c.in-Some.is, line) in
    let same : item ≡ it = cc (there, is, same_at) in
    c.in_ok-ask_item-in-Some-get.ensures.there m i (subst (λ (t : Item). Has (item_instances t) (m, i)) same inst)

pub returns-in-None-get-clause-there : goal.returns-in-None-get-clause-there
returns-in-None-get-clause-there c = λ j item m i line is inst.
    let at = c.in-Some.at in
    let none : slice_get c.args.k.now.items at ≡ None = subst (λ (l : List Item). slice_get l at ≡ None) c.items.ensures.value (slice_get_past c.items.result.now at c.in-None-get.ensures.lookup.3) in
    let same_at : at ≡ j = cc (c.in-Some.is, line) in
    absurd (cc (none, is, same_at))
