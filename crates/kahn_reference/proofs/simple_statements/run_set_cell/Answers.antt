use Rattle.std.proofs.Common.{ℕ, refl, ap}
use Rattle.std.specs.Prelude.{Vec}
use Rattle.std.specs.declared.alloc.Global.{Global}
use Rattle.tapa_syntax.specs.declared.program.Stmt.TheVariants.{SetCell}
use Rattle.kahn_reference.specs.Slow.{point, numbers, feed, state_of}
use Rattle.kahn_reference.proofs.SlowStatements.{set_cell_goes, set_cell_stops}
use Rattle.std.proofs.lemmas.Result.{err_from_is_err_and}
use Rattle.tapa_base.specs.declared.kind.Kind.TheVariants as kind
use Rattle.kahn_reference.proofs.Kept.{given_pair, set_cell_fits}
use Rattle.kahn_reference.proofs.simple_statements.run_set_cell.Goals as goal

pub returns-in-Stopped-clause-flow : goal.returns-in-Stopped-clause-flow
returns-in-Stopped-clause-flow c = λ K n.
    set_cell_stops (numbers c.args.streams.now) K n (SetCell c.args.array c.args.index.now c.args.value.now) c.args.array c.args.index.now c.args.value.now (point c.args.lists.now c.args.run.now) (point c.args.lists.now c.run_pair.new.run) c.in_ok-m.field-0 c.in-Stopped.m refl c.in-Stopped.is c.in_ok-m.ensures.value

pub returns-in_ok-set_cell_tick-in-Given-clause-flow : goal.returns-in_ok-set_cell_tick-in-Given-clause-flow
returns-in_ok-set_cell_tick-in-Given-clause-flow c = λ K n.
    set_cell_goes (numbers c.args.streams.now) K n (SetCell c.args.array c.args.index.now c.args.value.now) c.args.array c.args.index.now c.args.value.now (point c.args.lists.now c.args.run.now) (point c.args.lists.now c.run_pair.new.run) (point c.args.lists.now c.set_cell_tick.new.run) c.in_ok-m.field-0 c.in-Given.v c.in-Given.i refl c.in-Given.is c.in_ok-m.ensures.value (ap state_of c.in_ok-m.ensures.state) c.in_ok-set_cell_tick-in-Given.ensures.ticks (ap (λ (v : Vec ℕ Global). feed c.args.lists.now v.items) c.in_ok-set_cell_tick-in-Given.ensures.heads) c.in_ok-set_cell_tick-in-Given.ensures.state

pub returns-in_err-m-clause-cause : goal.returns-in_err-m-clause-cause
returns-in_err-m-clause-cause c =
    let p = err_from_is_err_and c.from_residual.result c.from_residual.ensures.1 in rw (p.1, p.2) (λ K w g. c.in_err-m.ensures.cause K (K.arrays c.args.array) kind.U64 w.1 w.0 g)

pub returns-in_ok-set_cell_tick-in-Given-clause-fits : goal.returns-in_ok-set_cell_tick-in-Given-clause-fits
returns-in_ok-set_cell_tick-in-Given-clause-fits c =
    λ K w g.
    set_cell_fits K c.args.run.now.state c.run_pair.new.run.state c.set_cell_tick.new.run.state c.args.array c.in-Given.i c.in-Given.v c.in_ok-m.ensures.state c.in_ok-set_cell_tick-in-Given.ensures.state g.state
    (given_pair (K.arrays c.args.array) kind.U64 c.in_ok-m.field-0 c.in-Given.v c.in-Given.i c.in-Given.is (c.in_ok-m.ensures.fits K (K.arrays c.args.array) kind.U64 w.1 w.0 g)).0
