use Rattle.std.proofs.Common.{ℕ, refl, ap, ◌<◌, sym, subst}
use Rattle.std.specs.Prelude.{Vec}
use Rattle.std.specs.declared.alloc.Global.{Global}
use Rattle.tapa_syntax.specs.declared.program.Stmt.TheVariants.{ReadCell}
use Rattle.tapa_syntax.specs.LeafKinds.{kinds_of}
use Rattle.kahn_reference.specs.Slow.{point, numbers, feed, state_of}
use Rattle.kahn_reference.proofs.SlowStatements.{read_cell_goes, read_cell_stops}
use Rattle.std.proofs.lemmas.Result.{err_from_is_err_and}
use Rattle.tapa_base.specs.declared.kind.Kind.TheVariants as kind
use Rattle.tapa_base.specs.Kinds.{values_of}
use Rattle.kahn_reference.proofs.Kept.{given_pair, converted_below, set_cell_fits}
use Rattle.kahn_reference.proofs.simple_statements.run_read_cell.Goals as goal

pub returns-in-Stopped-clause-flow : goal.returns-in-Stopped-clause-flow
returns-in-Stopped-clause-flow c = λ n.
    read_cell_stops (numbers c.args.streams.now) (kinds_of c.args.leaf.now) n (ReadCell c.args.stream c.args.array c.args.index.now) c.args.stream c.args.array c.args.index.now (point c.args.lists.now c.args.run.now) (point c.args.lists.now c.run_read.new.run) c.in_ok-m.field-0 c.in-Stopped.m refl c.in-Stopped.is c.in_ok-m.ensures.value

pub returns-in_ok-set_cell_tick-in-Given-clause-flow : goal.returns-in_ok-set_cell_tick-in-Given-clause-flow
returns-in_ok-set_cell_tick-in-Given-clause-flow c = λ n.
    read_cell_goes (numbers c.args.streams.now) (kinds_of c.args.leaf.now) n (ReadCell c.args.stream c.args.array c.args.index.now) c.args.stream c.args.array c.args.index.now (point c.args.lists.now c.args.run.now) (point c.args.lists.now c.run_read.new.run) (point c.args.lists.now c.set_cell_tick.new.run) c.in_ok-m.field-0 c.in-Given.i c.in-Given.v c.stream_kind.result c.array_kind.result c.in_ok-v-in-Given.v refl c.in-Given.is c.in_ok-m.ensures.value (ap state_of c.in_ok-m.ensures.state) c.stream_kind.ensures c.array_kind.ensures c.in_ok-v-in-Given.ensures.ok c.in_ok-set_cell_tick-in-Given.ensures.ticks (ap (λ (v : Vec ℕ Global). feed c.args.lists.now v.items) c.in_ok-set_cell_tick-in-Given.ensures.heads) c.in_ok-set_cell_tick-in-Given.ensures.state

pub returns-in_err-m-clause-cause : goal.returns-in_err-m-clause-cause
returns-in_err-m-clause-cause c =
    let p = err_from_is_err_and c.from_residual.result c.from_residual.ensures.1 in rw (p.1, p.2) (λ w g. c.in_err-m.ensures.cause (kinds_of c.args.leaf.now) kind.U64 w g)

pub returns-in_err-v-in-Given-clause-cause : goal.returns-in_err-v-in-Given-clause-cause
returns-in_err-v-in-Given-clause-cause c =
    let p = err_from_is_err_and c.from_residual-in_err-v-in-Given.result c.from_residual-in_err-v-in-Given.ensures.1 in rw (p.1, p.2) (λ w g e. c.in_err-v-in-Given.ensures.err (subst (λ k. c.in-Given.v < values_of k) (sym c.stream_kind.ensures) (given_pair kind.U64 ((kinds_of c.args.leaf.now).streams c.args.stream) c.in_ok-m.field-0 c.in-Given.i c.in-Given.v c.in-Given.is (c.in_ok-m.ensures.fits (kinds_of c.args.leaf.now) kind.U64 w g)).1))

pub returns-in_ok-set_cell_tick-in-Given-clause-fits : goal.returns-in_ok-set_cell_tick-in-Given-clause-fits
returns-in_ok-set_cell_tick-in-Given-clause-fits c =
    λ w g.
    set_cell_fits (kinds_of c.args.leaf.now) c.args.run.now.state c.run_read.new.run.state c.set_cell_tick.new.run.state c.args.array c.in-Given.i c.in_ok-v-in-Given.v c.in_ok-m.ensures.state c.in_ok-set_cell_tick-in-Given.ensures.state g.state
    (converted_below c.stream_kind.result c.array_kind.result _ _ c.in_ok-v-in-Given.v c.in_ok-v-in-Given.ensures.ok c.array_kind.ensures)
