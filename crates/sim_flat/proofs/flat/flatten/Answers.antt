use Rattle.std.proofs.Common.{List, length, subst, sym, ap, ◌∙◌}
use Rattle.sim_flat.specs.declared.instances.Instance as row
use Rattle.sim_flat.specs.declared.tables.Table.{Table}
use Rattle.sim_flat.specs.Numbering.{names_at, count_at, IsNumbering}
use Rattle.sim_flat.specs.Sizes.{own_sum}
use Rattle.sim_flat.proofs.Sizing.{reached, sum_ones}
use Rattle.sim_flat.proofs.Counted.{are_numbered}
use Rattle.sim_flat.proofs.flat.flatten.Goals as goal

pub returns-clause-flat : goal.returns-clause-flat
returns-clause-flat c = λ m at.
    let ms = c.args.design.now.modules in
    let design = c.modules-modules.ensures.design in
    let tables = c.in_ok-tables.ensures design.sound in
    let instances = c.in_ok-all.ensures.instances m at in
    let rows = c.in_ok-all.all.rows.items in
    let first = c.in_ok-numbers.numbers.first.items in
    let owners = c.in_ok-numbers.numbers.owners.items in
    let numbers =
    subst (λ (t : List Table). IsNumbering (count_at t rows) (length rows) first owners) c.deref-2.ensures.value
    (subst (λ (r : List row.Instance). IsNumbering (count_at c.deref-2.result.now r) (length r) first owners) c.deref-3.ensures.value c.in_ok-numbers.ensures.numbering) in
    record {
      top_place = c.args.design.now.top;
      design = design;
      top_at = at;
      tables = tables;
      instances = instances;
      numbers = are_numbered ms m c.in_ok-tables.tables.items rows c.in_ok-all.all.first.items first owners tables instances numbers;
    }

pub returns-clause-needed : goal.returns-clause-needed
returns-clause-needed c = λ m s at sizes.
    let tables = c.in_ok-tables.tables.items in
    let rows = c.in_ok-all.all.rows.items in
    let i = sizes.instances m at in
    let n = sizes.nets m at in
    let count = c.in_ok-numbers.ensures.count ∙ ap (λ (t : List Table). own_sum (names_at t) c.deref-3.result.now) c.deref-2.ensures.value
    ∙ ap (λ (r : List row.Instance). own_sum (names_at tables) r) c.deref-3.ensures.value in
    record {
      rows = reached _ _ _ _ i.is (c.in_ok-all.ensures.counted m at (λ k. 1) i.counts i.are) (sum_ones rows);
      owners = reached _ _ _ _ n.is (c.in_ok-all.ensures.counted m at (names_at tables) n.counts n.are) (sym count);
    }
