use Rattle.std.proofs.Common.{◌≡◌, ◌+◌, ◌++◌, ◌∷◌, [], List, length, set, refl, sym, ap, subst, arith}
use Rattle.std.specs.Prelude.{slice_get, decimal}
use Rattle.std.proofs.lemmas.List.{length-append, nil_from_length}
use Rattle.std.proofs.lemmas.Option.{slice_get_within}
use Rattle.tapa_base.specs.Gaps.{Bytes}
use Rattle.vcd_text.specs.Dump.{cycle_line, change_line}
use Rattle.vcd_text.specs.Lines.{IsChangeAt}
use Rattle.vcd_text.specs.Rest.{Left, Serves}
use Rattle.vcd_text.specs.declared.dump.Change.{Change}
use Rattle.vcd_text.specs.declared.halt.Halt.TheVariants.{Stopped}
use Rattle.vcd_text.proofs.Common.{exit_err}
use Rattle.vcd_text.proofs.Knowing.{change_in, cycle_in, stop_in, put_fits, serve_change, serve_cycle, serve_stop, serve_end}
use Rattle.vcd_text.proofs.cycles.read_cycles.Goals as goal

pub returns-in_err-found-clause-stop : goal.returns-in_err-found-clause-stop
returns-in_err-found-clause-stop c =
    let some : c.loop-rest.rest.now ≡ [] → ⊥ = λ e. absurd (omega (arith, c.loop-rest-test.true, ap (λ (l : Bytes). length l) e)) in
    exit_err _ c.from_residual.result (Stopped c.in_err-found.field-0.0) c.from_residual.ensures.1
    (λ xs same. serve_stop xs c.args.nets.items (Left xs 0 (length xs) (slice_get c.args.first.items) c.args.done.items) c.args.text.now c.loop-rest.rest.now c.loop-rest.cycle c.loop-rest.turn c.in_err-found.field-0.0 c.loop-rest.values.items c.loop-rest.changes.items same c.loop-rest.invariant.values c.loop-rest.invariant.turns some
    (stop_in c.args.nets.items c.deref.result.now c.loop-rest.values.items c.deref-in-loop-rest.result.now (c.loop-rest.cycle + 1) c.loop-rest.turn c.in_err-found.field-0.0 c.loop-rest.rest.now c.deref.ensures.value c.deref-in-loop-rest.ensures.value c.in_err-found.ensures.stop)
    (c.loop-rest.invariant.serves xs same))

pub overflow_cast-net : goal.overflow_cast-net
overflow_cast-net c =
    let at : IsChangeAt c.args.nets.items (slice_get c.loop-rest.values.items) c.loop-rest.turn c.in-Change.net c.in-Change.value c.loop-rest.rest.now c.in_ok-found.behind.now = change_in c.args.nets.items c.deref.result.now c.loop-rest.values.items c.deref-in-loop-rest.result.now (c.loop-rest.cycle + 1) c.loop-rest.turn c.in-Change.net c.in-Change.value c.loop-rest.rest.now c.in_ok-found.behind.now c.in_ok-found.found c.deref.ensures.value c.deref-in-loop-rest.ensures.value c.in-Change.is c.in_ok-found.ensures.found in
    omega (arith, c.requires.few, slice_get_within c.args.nets.items c.in-Change.net at.net at.at)

pub index_mut-requires : goal.index_mut-requires
index_mut-requires c =
    let at : IsChangeAt c.args.nets.items (slice_get c.loop-rest.values.items) c.loop-rest.turn c.in-Change.net c.in-Change.value c.loop-rest.rest.now c.in_ok-found.behind.now = change_in c.args.nets.items c.deref.result.now c.loop-rest.values.items c.deref-in-loop-rest.result.now (c.loop-rest.cycle + 1) c.loop-rest.turn c.in-Change.net c.in-Change.value c.loop-rest.rest.now c.in_ok-found.behind.now c.in_ok-found.found c.deref.ensures.value c.deref-in-loop-rest.ensures.value c.in-Change.is c.in_ok-found.ensures.found in
    omega (arith, c.loop-rest.invariant.values.count, c.loop-rest.values.ok.0, slice_get_within c.args.nets.items c.in-Change.net at.net at.at)

pub overflow_add-turn : goal.overflow_add-turn
overflow_add-turn c =
    let at : IsChangeAt c.args.nets.items (slice_get c.loop-rest.values.items) c.loop-rest.turn c.in-Change.net c.in-Change.value c.loop-rest.rest.now c.in_ok-found.behind.now = change_in c.args.nets.items c.deref.result.now c.loop-rest.values.items c.deref-in-loop-rest.result.now (c.loop-rest.cycle + 1) c.loop-rest.turn c.in-Change.net c.in-Change.value c.loop-rest.rest.now c.in_ok-found.behind.now c.in_ok-found.found c.deref.ensures.value c.deref-in-loop-rest.ensures.value c.in-Change.is c.in_ok-found.ensures.found in
    omega (arith, c.requires.few, slice_get_within c.args.nets.items c.in-Change.net at.net at.at)

pub loop-rest-preserved-in-Cycle : goal.loop-rest-preserved-in-Cycle
loop-rest-preserved-in-Cycle c =
    let line : c.loop-rest.rest.now ≡ cycle_line (c.loop-rest.cycle + 1) ++ c.in_ok-found.behind.now = cycle_in c.deref.result.now c.deref-in-loop-rest.result.now (c.loop-rest.cycle + 1) c.loop-rest.turn c.loop-rest.rest.now c.in_ok-found.behind.now c.in_ok-found.found c.in-Cycle.is c.in_ok-found.ensures.found in
    record {
      turns = omega arith;
      short = omega (arith, c.loop-rest.invariant.short, ap (λ (l : Bytes). length l) line, length-append (decimal (c.loop-rest.cycle + 1) ++ 10 ∷ []) c.in_ok-found.behind.now);
      values = c.loop-rest.invariant.values;
      serves = λ xs same. serve_cycle xs c.args.nets.items (Left xs 0 (length xs) (slice_get c.args.first.items) c.args.done.items) c.args.text.now c.loop-rest.rest.now c.in_ok-found.behind.now c.loop-rest.cycle c.loop-rest.turn c.loop-rest.values.items c.loop-rest.changes.items same c.loop-rest.invariant.values c.loop-rest.invariant.turns line (c.loop-rest.invariant.serves xs same);
    }

pub loop-rest-preserved : goal.loop-rest-preserved
loop-rest-preserved c =
    let at : IsChangeAt c.args.nets.items (slice_get c.loop-rest.values.items) c.loop-rest.turn c.in-Change.net c.in-Change.value c.loop-rest.rest.now c.in_ok-found.behind.now = change_in c.args.nets.items c.deref.result.now c.loop-rest.values.items c.deref-in-loop-rest.result.now (c.loop-rest.cycle + 1) c.loop-rest.turn c.in-Change.net c.in-Change.value c.loop-rest.rest.now c.in_ok-found.behind.now c.in_ok-found.found c.deref.ensures.value c.deref-in-loop-rest.ensures.value c.in-Change.is c.in_ok-found.ensures.found in
    record {
      turns = omega (arith, slice_get_within c.args.nets.items c.in-Change.net at.net at.at);
      short = omega (arith, c.loop-rest.invariant.short, ap (λ (l : Bytes). length l) at.is, length-append (change_line c.in-Change.net at.net.bits c.in-Change.value) c.in_ok-found.behind.now);
      values = put_fits c.args.nets.items c.loop-rest.values.items c.in-Change.net c.in-Change.value at.net at.at at.new_value.0 c.loop-rest.invariant.values;
      serves = λ xs same. subst (λ (l : List Change). Serves (Left xs 0 (length xs) (slice_get c.args.first.items) c.args.done.items) c.args.text.now (Left xs c.loop-rest.cycle (c.in-Change.net + 1) (slice_get (set c.loop-rest.values.items c.in-Change.net c.in-Change.value)) l) c.in_ok-found.behind.now) (sym c.in_ok-push-in-Change.ensures.items)
          (serve_change xs c.args.nets.items (Left xs 0 (length xs) (slice_get c.args.first.items) c.args.done.items) c.args.text.now c.loop-rest.rest.now c.in_ok-found.behind.now c.loop-rest.cycle c.loop-rest.turn c.in-Change.net c.in-Change.value c.loop-rest.values.items c.loop-rest.changes.items same c.loop-rest.invariant.values at (c.loop-rest.invariant.serves xs same));
    }

pub returns-clause-found : goal.returns-clause-found
returns-clause-found c = λ xs same.
    serve_end xs c.args.nets.items (Left xs 0 (length xs) (slice_get c.args.first.items) c.args.done.items) c.args.text.now c.loop-rest.rest.now c.loop-rest.cycle c.loop-rest.turn c.loop-rest.values.items c.loop-rest.changes.items _ same c.loop-rest.invariant.values c.loop-rest.invariant.turns
    (nil_from_length c.loop-rest.rest.now (omega (arith, c.loop-rest-test.false))) refl refl refl (c.loop-rest.invariant.serves xs same)
