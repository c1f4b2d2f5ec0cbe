use Rattle.std.proofs.Common.{◌≡◌, ◌++◌, ◌∷◌, [], Bool, false, cond, sym, ap, subst, ◌∙◌}
use Rattle.vlog_tree.specs.Table.{net_kind_of, net_kind_is_input, times_in}
use Rattle.vlog_tree.specs.V4.{connection_driven}
use Rattle.vlog_rules.specs.Drives.{CountsPlaces}
use Rattle.vlog_rules.proofs.drivers.count_connection.Goals as goal

pub returns : goal.returns
unfolding connection_driven
returns c = λ names t.
    let l = c.args.connection.now in
    let none : net_kind_is_input (net_kind_of c.args.ports.now l.port) ≡ false = ap net_kind_is_input (sym c.find.ensures.net_kind) ∙ sym c.is_input.ensures ∙ c.if-is_input.false in
    subst (λ (b : Bool). CountsPlaces c.args.scope.now c.count_net.new.counts.items (times_in (names ++ cond b [] (l.net ∷ [])))) (sym none) (c.count_net.ensures names t)
