use Rattle.std.proofs.Common.{List, [], sym, subst}
use Rattle.std.proofs.lemmas.List.{take_all}
use Rattle.vlog_tree.specs.Form.{ModuleTree}
use Rattle.tapa_base.proofs.Lists.{has_got, got_index}
use Rattle.sim_flat.specs.declared.tables.Table.{Table}
use Rattle.sim_flat.specs.Tables.{AreTablesOf}
use Rattle.sim_flat.proofs.Tabling.{tables_start, tables_more}
use Rattle.sim_flat.proofs.tables.all_tables.Goals as goal

pub loop-m-init : goal.loop-m-init
loop-m-init c = λ sound. subst (λ (l : List Table). AreTablesOf c.args.modules.now [] l) (sym c.new-tables.ensures.items) (tables_start c.args.modules.now)

pub loop-m-preserved : goal.loop-m-preserved
loop-m-preserved c = λ sound.
    let ms = c.args.modules.now in
    let m = c.m-item.result in
    let got = got_index ms c.loop-m.m-index m c.loop-m-test.true c.m-item.is in
    tables_more ms c.loop-m.m-index m _ _ _ c.loop-m-test.true c.m-item.is c.in_ok-push.ensures.items
    (c.in_ok-table.ensures ms c.requires sound (has_got ms c.loop-m.m-index m got)) (c.loop-m.invariant sound)

pub returns : goal.returns
returns c = λ sound.
    let ms = c.args.modules.now in
    subst (λ (l : List ModuleTree). AreTablesOf ms l c.loop-m.tables.items) (take_all c.loop-m.m-index ms c.loop-m-test.false) (c.loop-m.invariant sound)
