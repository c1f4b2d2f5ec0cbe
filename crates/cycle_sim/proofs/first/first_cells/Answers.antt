use Rattle.std.proofs.Common.{◌≡◌, ◌+◌, ◌*◌, ◌<◌, [], get_or, length, sym, ap, subst, ◌∙◌}
use Rattle.std.specs.List.{flat_map}
use Rattle.std.proofs.lemmas.List.{get_or_append_left}
use Rattle.sim_tape.specs.Operators.{cells_of}
use Rattle.cycle_sim.specs.Firsts.{width_lists}
use Rattle.cycle_sim.proofs.Starting.{lists_behind}
use Rattle.sim_pass.proofs.Reading.{cells_long}
use Rattle.cycle_sim.proofs.first.first_cells.Goals as goal

pub returns-clause-outside : goal.returns-clause-outside
returns-clause-outside c = λ i low.
    let all = c.in_ok-all.all.items in
    let size : length (cells_of all) ≡ c.args.count = cells_long all ∙ c.in_ok-all.ensures.count in
    ap (λ l. get_or l i []) c.in_ok-add_widths.ensures ∙ get_or_append_left (cells_of all) (flat_map (width_lists c.args.fill) c.args.widths.now) [] i (subst (λ n. i < n) (sym size) low) ∙ c.in_ok-all.ensures.lists i low

pub returns-clause-inside : goal.returns-clause-inside
returns-clause-inside c = λ i w got.
    let all = c.in_ok-all.all.items in
    let size : length (cells_of all) ≡ c.args.count = cells_long all ∙ c.in_ok-all.ensures.count in
    let r = lists_behind c.args.fill (cells_of all) c.args.count c.args.widths.now i w size got in
    (ap (λ l. get_or l (c.args.count + 2 * i) []) c.in_ok-add_widths.ensures ∙ r.0, ap (λ l. get_or l (c.args.count + 2 * i + 1) []) c.in_ok-add_widths.ensures ∙ r.1)
