use Rattle.std.proofs.Common.{◌∙◌, ℕ, List, refl, ap}
use Rattle.std.specs.Prelude.{Vec}
use Rattle.std.specs.declared.alloc.Global.{Global}
use Rattle.tapa_syntax.specs.declared.program.Stmt.TheVariants.{SetCellBy}
use Rattle.tapa_syntax.specs.LeafKinds.{kinds_of}
use Rattle.kahn_reference.specs.Slow.{point, numbers, feed, state_of}
use Rattle.kahn_model.specs.Rows.{rows_of}
use Rattle.kahn_model.specs.Trace.{cell}
use Rattle.kahn_reference.proofs.SlowStatements.{set_cell_by_goes, set_cell_by_stops}
use Rattle.std.proofs.lemmas.Result.{err_from_is_err_and}
use Rattle.tapa_base.specs.declared.kind.Kind.TheVariants as kind
use Rattle.tapa_syntax.specs.Typed.{right_kind}
use Rattle.kahn_reference.proofs.Kept.{given_pair, can_apply, pair_constant, old_cell, converted_below, set_cell_fits}
use Rattle.kahn_reference.proofs.simple_statements.run_set_cell_by.Goals as goal

pub returns-in-Stopped-clause-flow : goal.returns-in-Stopped-clause-flow
returns-in-Stopped-clause-flow c = λ n.
    set_cell_by_stops (numbers c.args.streams.now) (kinds_of c.args.leaf.now) n (SetCellBy c.args.array c.args.index.now c.args.op c.args.kind c.args.value.now) c.args.array c.args.index.now c.args.op c.args.kind c.args.value.now (point c.args.lists.now c.args.run.now) (point c.args.lists.now c.run_pair.new.run) c.in_ok-m.field-0 c.in-Stopped.m refl c.in-Stopped.is c.in_ok-m.ensures.value

pub returns-in_ok-set_cell_tick-in-Given-clause-flow : goal.returns-in_ok-set_cell_tick-in-Given-clause-flow
returns-in_ok-set_cell_tick-in-Given-clause-flow c = λ n.
    set_cell_by_goes (numbers c.args.streams.now) (kinds_of c.args.leaf.now) n (SetCellBy c.args.array c.args.index.now c.args.op c.args.kind c.args.value.now) c.args.array c.args.index.now c.args.op c.args.kind c.args.value.now (point c.args.lists.now c.args.run.now) (point c.args.lists.now c.run_pair.new.run) (point c.args.lists.now c.set_cell_tick.new.run) c.in_ok-m.field-0 c.in-Given.v c.in-Given.i c.array_kind.result c.cell_of-old.result c.in_ok-new-in-Given.new refl c.in-Given.is c.in_ok-m.ensures.value (ap state_of c.in_ok-m.ensures.state) c.array_kind.ensures (c.cell_of-old.ensures ∙ ap (λ (x : List (Vec ℕ Global)). cell (rows_of x) c.args.array c.in-Given.i) c.deref.ensures.value) c.in_ok-new-in-Given.ensures.value c.in_ok-set_cell_tick-in-Given.ensures.ticks (ap (λ (v : Vec ℕ Global). feed c.args.lists.now v.items) c.in_ok-set_cell_tick-in-Given.ensures.heads) c.in_ok-set_cell_tick-in-Given.ensures.state

pub returns-in_err-m-clause-cause : goal.returns-in_err-m-clause-cause
returns-in_err-m-clause-cause c =
    let p = err_from_is_err_and c.from_residual.result c.from_residual.ensures.1 in rw (p.1, p.2) (λ w g. c.in_err-m.ensures.cause (kinds_of c.args.leaf.now) (right_kind c.args.op c.args.kind) kind.U64 w.1 w.0 g)

pub returns-in_err-new-in-Given-clause-cause : goal.returns-in_err-new-in-Given-clause-cause
returns-in_err-new-in-Given-clause-cause c =
    let p = err_from_is_err_and c.from_residual-in_err-new-in-Given.result c.from_residual-in_err-new-in-Given.ensures.1 in rw (p.1, p.2) (λ w g e.
    c.in_err-new-in-Given.ensures.err
    (old_cell (kinds_of c.args.leaf.now) c.args.run.now.state c.run_pair.new.run.state c.array_kind.result c.args.array c.in-Given.i c.cell_of-old.result c.in_ok-m.ensures.state c.array_kind.ensures (c.cell_of-old.ensures ∙ ap (λ (x : List (Vec ℕ Global)). cell (rows_of x) c.args.array c.in-Given.i) c.deref.ensures.value) g.state)
    (given_pair (right_kind c.args.op c.args.kind) kind.U64 c.in_ok-m.field-0 c.in-Given.v c.in-Given.i c.in-Given.is (c.in_ok-m.ensures.fits (kinds_of c.args.leaf.now) (right_kind c.args.op c.args.kind) kind.U64 w.1 w.0 g)).0
    (can_apply c.args.op c.args.kind c.args.value.now c.in-Given.v w.2 (pair_constant (numbers c.args.streams.now) (point c.args.lists.now c.args.run.now) (point c.args.lists.now c.run_pair.new.run) c.args.value.now c.args.index.now (state_of c.args.run.now.state) c.in_ok-m.field-0 c.in-Given.v c.in-Given.i c.in-Given.is c.in_ok-m.ensures.value) (given_pair (right_kind c.args.op c.args.kind) kind.U64 c.in_ok-m.field-0 c.in-Given.v c.in-Given.i c.in-Given.is (c.in_ok-m.ensures.fits (kinds_of c.args.leaf.now) (right_kind c.args.op c.args.kind) kind.U64 w.1 w.0 g)).0))

pub returns-in_ok-set_cell_tick-in-Given-clause-fits : goal.returns-in_ok-set_cell_tick-in-Given-clause-fits
returns-in_ok-set_cell_tick-in-Given-clause-fits c =
    λ w g.
    set_cell_fits (kinds_of c.args.leaf.now) c.args.run.now.state c.run_pair.new.run.state c.set_cell_tick.new.run.state c.args.array c.in-Given.i c.in_ok-new-in-Given.new c.in_ok-m.ensures.state c.in_ok-set_cell_tick-in-Given.ensures.state g.state
    (converted_below c.args.kind c.array_kind.result _ _ c.in_ok-new-in-Given.new c.in_ok-new-in-Given.ensures.value c.array_kind.ensures)
