use Rattle.std.proofs.Common.{◌≡◌, subst, List, Bool, true, Some, None}
use Rattle.std.specs.Prelude.{slice_get, ◌↔◌}
use Rattle.std.proofs.lemmas.Option.{slice_get_past}
use Rattle.std.proofs.lemmas.Result.{IfOk-weaker}
use Rattle.vlog_tree.specs.declared.tree.Item.{Item}
use Rattle.tapa_base.specs.Lists.{Has}
use Rattle.vlog_tree.specs.Table.{Name}
use Rattle.vlog_tree.specs.Loops.{Reaches, port_of, item_instances}
use Rattle.vlog_comb_loops.specs.Search.{LoopsAt}
use Rattle.tapa_base.proofs.Lists.{got_index}
use Rattle.vlog_comb_loops.proofs.Asking.{line_loops, no_line}
use Rattle.vlog_comb_loops.proofs.suspects.loops_at.Goals as goal

pub returns-in-Some-get : goal.returns-in-Some-get
returns-in-Some-get c = λ edges g.
    let k = c.args.k.now in
    let at = c.in-Some.at in
    let m = c.args.owner.now in
    let x = c.args.name.now in
    let item = c.in-Some-get.item.now in
    let found = c.in-Some-get.ensures.lookup in
    let there = subst (λ (l : List Item). slice_get l at ≡ Some item) c.items.ensures.value (got_index c.items.result.now at item found.3.0 found.1) in
    IfOk-weaker c.port_returns.result
    (λ (b : Bool). (b ≡ true) ↔ ((i : Name) × Has (item_instances item) (m, i) × Reaches edges (port_of i x) (port_of i x)))
    (λ (b : Bool). (b ≡ true) ↔ LoopsAt edges k c.args.line m x)
    (λ b f. line_loops edges k c.args.line at m x item b c.in-Some.is there f) (c.port_returns.ensures edges g)

pub returns-in-None-get : goal.returns-in-None-get
returns-in-None-get c = λ edges g.
    let k = c.args.k.now in
    let at = c.in-Some.at in
    let none = subst (λ (l : List Item). slice_get l at ≡ None) c.items.ensures.value (slice_get_past c.items.result.now at c.in-None-get.ensures.lookup.3) in
    (λ e. cc, λ h. absurd (no_line edges k c.args.line at c.args.owner.now c.args.name.now c.in-Some.is none h))
