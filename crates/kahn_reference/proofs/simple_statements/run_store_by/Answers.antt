use Rattle.std.proofs.Common.{◌∙◌, ℕ, refl, ap}
use Rattle.std.specs.Prelude.{Vec}
use Rattle.std.specs.declared.alloc.Global.{Global}
use Rattle.tapa_syntax.specs.declared.program.Stmt.TheVariants.{StoreBy}
use Rattle.tapa_syntax.specs.LeafKinds.{kinds_of}
use Rattle.kahn_reference.specs.Slow.{point, numbers, feed, state_of}
use Rattle.kahn_reference.proofs.SlowStatements.{store_by_goes, store_by_stops}
use Rattle.std.proofs.lemmas.Result.{err_from_is_err_and}
use Rattle.tapa_base.specs.declared.kind.Kind.TheVariants as kind
use Rattle.tapa_syntax.specs.Typed.{right_kind}
use Rattle.kahn_reference.proofs.Kept.{given_pair, can_apply, pair_constant, old_word, converted_below, store_fits}
use Rattle.kahn_reference.proofs.simple_statements.run_store_by.Goals as goal

pub returns-in-Stopped-clause-flow : goal.returns-in-Stopped-clause-flow
returns-in-Stopped-clause-flow c = λ n.
    store_by_stops (numbers c.args.streams.now) (kinds_of c.args.leaf.now) n (StoreBy c.args.memory c.args.index.now c.args.op c.args.kind c.args.value.now) c.args.memory c.args.index.now c.args.op c.args.kind c.args.value.now (point c.args.lists.now c.args.run.now) (point c.args.lists.now c.run_pair.new.run) c.in_ok-m.field-0 c.in-Stopped.m refl c.in-Stopped.is c.in_ok-m.ensures.value

pub returns-in_ok-store_tick-in-Given-clause-flow : goal.returns-in_ok-store_tick-in-Given-clause-flow
returns-in_ok-store_tick-in-Given-clause-flow c = λ n.
    store_by_goes (numbers c.args.streams.now) (kinds_of c.args.leaf.now) n (StoreBy c.args.memory c.args.index.now c.args.op c.args.kind c.args.value.now) c.args.memory c.args.index.now c.args.op c.args.kind c.args.value.now (point c.args.lists.now c.args.run.now) (point c.args.lists.now c.run_pair.new.run) (point c.args.lists.now c.load_cell.new.run) (point c.args.lists.now c.store_tick.new.run) c.in_ok-m.field-0 c.in-Given.v c.in-Given.i c.memory_kind.result c.in_ok-old-in-Given.old c.in_ok-new-in-Given.new refl c.in-Given.is c.in_ok-m.ensures.value (ap state_of c.in_ok-m.ensures.state) c.memory_kind.ensures c.in_ok-old-in-Given.ensures.value c.in_ok-new-in-Given.ensures.value c.in_ok-old-in-Given.ensures.ticks (ap (λ (v : Vec ℕ Global). feed c.args.lists.now v.items) c.in_ok-old-in-Given.ensures.heads) (ap state_of c.in_ok-old-in-Given.ensures.state) c.in_ok-store_tick-in-Given.ensures.ticks (ap (λ (v : Vec ℕ Global). feed c.args.lists.now v.items) c.in_ok-store_tick-in-Given.ensures.heads) c.in_ok-store_tick-in-Given.ensures.state

pub returns-in_err-m-clause-cause : goal.returns-in_err-m-clause-cause
returns-in_err-m-clause-cause c =
    let p = err_from_is_err_and c.from_residual.result c.from_residual.ensures.1 in rw (p.1, p.2) (λ w g. c.in_err-m.ensures.cause (kinds_of c.args.leaf.now) (right_kind c.args.op c.args.kind) kind.U64 w.1 w.0 g)

pub returns-in_err-new-in-Given-clause-cause : goal.returns-in_err-new-in-Given-clause-cause
returns-in_err-new-in-Given-clause-cause c =
    let p = err_from_is_err_and c.from_residual-in_err-new-in-Given.result c.from_residual-in_err-new-in-Given.ensures.1 in rw (p.1, p.2) (λ w g e.
    c.in_err-new-in-Given.ensures.err
    (old_word (kinds_of c.args.leaf.now) c.args.run.now.state c.run_pair.new.run.state c.memory_kind.result c.args.memory c.in-Given.i c.in_ok-old-in-Given.old c.in_ok-m.ensures.state c.memory_kind.ensures c.in_ok-old-in-Given.ensures.value g.state)
    (given_pair (right_kind c.args.op c.args.kind) kind.U64 c.in_ok-m.field-0 c.in-Given.v c.in-Given.i c.in-Given.is (c.in_ok-m.ensures.fits (kinds_of c.args.leaf.now) (right_kind c.args.op c.args.kind) kind.U64 w.1 w.0 g)).0
    (can_apply c.args.op c.args.kind c.args.value.now c.in-Given.v w.2 (pair_constant (numbers c.args.streams.now) (point c.args.lists.now c.args.run.now) (point c.args.lists.now c.run_pair.new.run) c.args.value.now c.args.index.now (state_of c.args.run.now.state) c.in_ok-m.field-0 c.in-Given.v c.in-Given.i c.in-Given.is c.in_ok-m.ensures.value) (given_pair (right_kind c.args.op c.args.kind) kind.U64 c.in_ok-m.field-0 c.in-Given.v c.in-Given.i c.in-Given.is (c.in_ok-m.ensures.fits (kinds_of c.args.leaf.now) (right_kind c.args.op c.args.kind) kind.U64 w.1 w.0 g)).0))

pub returns-in_ok-store_tick-in-Given-clause-fits : goal.returns-in_ok-store_tick-in-Given-clause-fits
returns-in_ok-store_tick-in-Given-clause-fits c =
    λ w g.
    store_fits (kinds_of c.args.leaf.now) c.args.run.now.state c.load_cell.new.run.state c.store_tick.new.run.state c.args.memory c.in-Given.i c.in_ok-new-in-Given.new (c.in_ok-old-in-Given.ensures.state ∙ c.in_ok-m.ensures.state) c.in_ok-store_tick-in-Given.ensures.state g.state
    (converted_below c.args.kind c.memory_kind.result _ _ c.in_ok-new-in-Given.new c.in_ok-new-in-Given.ensures.value c.memory_kind.ensures)
