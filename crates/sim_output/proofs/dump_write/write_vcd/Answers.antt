use Rattle.std.proofs.Common.{◌≡◌, ◌+◌, ◌++◌, ◌<◌, ◌≤◌, ℕ, List, [], Option, Some, None, length, refl, sym, ap, subst, ◌∙◌, arith}
use Rattle.std.specs.Io.KnownBytes.{Appends}
use Rattle.tapa_files.specs.Outside.{AppendsPart}
use Rattle.tapa_files.proofs.Known.{appends_none, part_so_far}
use Rattle.vlog_tree.specs.Form.{ModuleTree}
use Rattle.vlog_tree.specs.Refused.{IsDesign}
use Rattle.vlog_design.specs.Designs.{DesignTree, TopOf}
use Rattle.cycle_sim.specs.Simulators.{sim_of}
use Rattle.cycle_sim.specs.Sims.{InRuns, IsLater, IsDoneAt, last_cycle}
use Rattle.cycle_sim.proofs.Adding.{later_none}
use Rattle.vcd_text.specs.Dump.{head_text}
use Rattle.sim_output.specs.Dumped.{nets_of, dump_of}
use Rattle.sim_output.proofs.Going.{later_step}
use Rattle.sim_output.proofs.Writing.{AreWidths, AreGoing, IsWrittenTo, first_written, part_to, next_written, piece_written, all_written, turned, kept_later, fewer, none_yet, still_going, done_here, none_done, rose_since}
use Rattle.tapa_base.proofs.Tests.{true_not_false}
use Rattle.tapa_base.proofs.Got.{on_err}
use Rattle.sim_output.proofs.dump_write.write_vcd.Goals as goal

pub loop-cycle-init : goal.loop-cycle-init
loop-cycle-init g c =
    let first = sim_of c.args.sim.now in
    let widths : List ℕ = c.in_ok-widths.widths.items in
    let isd : IsDesign first.design.modules first.design.top = subst (λ (d : DesignTree). IsDesign d.modules d.top) c.design-design.ensures c.modules-modules.ensures.design in
    let are : AreWidths first.design widths = λ m at. c.in_ok-widths.ensures.widths m (subst (λ (d : DesignTree). TopOf d m) (sym c.design-design.ensures) at) in
    let known = g.O.Sink.contents c.args.out.now in
    let here : IsLater first first 0 = later_none first c.requires in
    let head : List ℕ = c.push_head.new.text.items in
    let is_head : (m : ModuleTree) → TopOf first.design m → head ≡ head_text m.name (nets_of m) = λ m at. c.in_ok-widths.ensures.text m (subst (λ (d : DesignTree). TopOf d m) (sym c.design-design.ensures) at) ∙ ap (λ (l : List ℕ). l ++ head_text m.name (nets_of m)) c.new-text.ensures.items in
    let put = turned first c.deref.result.now widths c.in_ok-values.values.items head c.push_turn.new.text.items c.deref.ensures.value c.in_ok-push_turn.ensures.lines in
    record {
      later = here;
      count = omega (arith, c.in_ok-push_turn.ensures.count, c.in_ok-values.values.ok.0, c.in_ok-values.ensures.len, c.len.ensures, c.in_ok-widths.widths.ok.0);
      kept = kept_later first first 0 here c.deref.result.now widths c.push_turn.new.values.items are c.deref.ensures.value c.in_ok-push_turn.ensures.kept;
      going = none_yet first;
      written = first_written first isd widths are c.requires c.in_ok-values.values.items known head c.push_turn.new.text.items is_head put;
      calm = omega arith;
    }

pub step-requires : goal.step-requires
step-requires g c = omega (arith, c.loop-cycle-test.true, c.loop-cycle.invariant.later.at, c.ranges.limit.fits)

pub returns-in_err-push_turn-2-clause-part : goal.returns-in_err-push_turn-2-clause-part
returns-in_err-push_turn-2-clause-part g c =
    let first = sim_of c.args.sim.now in
    let widths : List ℕ = c.in_ok-widths.widths.items in
    let isd : IsDesign first.design.modules first.design.top = subst (λ (d : DesignTree). IsDesign d.modules d.top) c.design-design.ensures c.modules-modules.ensures.design in
    let are : AreWidths first.design widths = λ m at. c.in_ok-widths.ensures.widths m (subst (λ (d : DesignTree). TopOf d m) (sym c.design-design.ensures) at) in
    let now = sim_of c.loop-cycle.sim in
    let n = c.loop-cycle.cycle in
    let run : IsLater first now n = c.loop-cycle.invariant.later in
    let old = g.O.Sink.contents c.args.out.now in
    let mid = g.O.Sink.contents c.loop-cycle.out in
    let text : List ℕ = c.loop-cycle.text.items in
    on_err c.from_residual-in_err-push_turn-2.result
    (part_to first isd widths are now n run c.args.limit old mid mid text (omega (arith, c.loop-cycle-test.true)) (fewer first n c.loop-cycle.invariant.going) c.loop-cycle.invariant.written (part_so_far mid mid text [] text refl (appends_none mid)))

pub returns-in_err-push_turn-2-clause-short : goal.returns-in_err-push_turn-2-clause-short
returns-in_err-push_turn-2-clause-short g c =
    on_err c.from_residual-in_err-push_turn-2.result (c.loop-cycle.cycle + 1, omega (arith, c.loop-cycle-test.true), later_step (sim_of c.args.sim.now) (sim_of c.loop-cycle.sim) c.loop-cycle.cycle c.loop-cycle.invariant.later (sim_of c.step.new.self) c.step.ensures)

pub returns-in_err-push_turn-2-clause-later : goal.returns-in_err-push_turn-2-clause-later
returns-in_err-push_turn-2-clause-later g c = c.loop-cycle.invariant.calm

pub returns-in_err-put_piece-clause-part : goal.returns-in_err-put_piece-clause-part
returns-in_err-put_piece-clause-part g c =
    let first = sim_of c.args.sim.now in
    let widths : List ℕ = c.in_ok-widths.widths.items in
    let isd : IsDesign first.design.modules first.design.top = subst (λ (d : DesignTree). IsDesign d.modules d.top) c.design-design.ensures c.modules-modules.ensures.design in
    let are : AreWidths first.design widths = λ m at. c.in_ok-widths.ensures.widths m (subst (λ (d : DesignTree). TopOf d m) (sym c.design-design.ensures) at) in
    let now = sim_of c.loop-cycle.sim in
    let n = c.loop-cycle.cycle in
    let run : IsLater first now n = c.loop-cycle.invariant.later in
    let old = g.O.Sink.contents c.args.out.now in
    let mid = g.O.Sink.contents c.loop-cycle.out in
    let text : List ℕ = c.loop-cycle.text.items in
    let next = sim_of c.step.new.self in
    let later : IsLater first next (n + 1) = later_step first now n run next c.step.ensures in
    let more : List ℕ = c.push_turn-in-loop-cycle.new.text.items in
    let put = turned next c.deref-in-loop-cycle.result.now widths c.loop-cycle.values.items text more c.deref-in-loop-cycle.ensures.value c.in_ok-push_turn-2.ensures.lines in
    let written : IsWrittenTo first (n + 1) old mid more = next_written first isd widths are now n run next c.step.ensures c.loop-cycle.values.items old mid text more c.loop-cycle.invariant.kept c.loop-cycle.invariant.written put in
    on_err c.from_residual-in_err-put_piece.result
    (part_to first isd widths are next (n + 1) later c.args.limit old mid (g.O.Sink.contents c.put_piece.new.out) more (omega (arith, c.loop-cycle-test.true)) c.loop-cycle.invariant.going written c.in_err-put_piece.ensures.part)

pub returns-in_err-put_piece-clause-short : goal.returns-in_err-put_piece-clause-short
returns-in_err-put_piece-clause-short g c =
    on_err c.from_residual-in_err-put_piece.result (c.loop-cycle.cycle + 1, omega (arith, c.loop-cycle-test.true), later_step (sim_of c.args.sim.now) (sim_of c.loop-cycle.sim) c.loop-cycle.cycle c.loop-cycle.invariant.later (sim_of c.step.new.self) c.step.ensures)

pub returns-in_err-put_piece-clause-later : goal.returns-in_err-put_piece-clause-later
returns-in_err-put_piece-clause-later g c = omega (arith, c.loop-cycle.invariant.calm, c.in_err-put_piece.ensures.later)

pub returns-in_err-put_piece-clause-fault : goal.returns-in_err-put_piece-clause-fault
returns-in_err-put_piece-clause-fault g c = λ e. rose_since (g.O.Sink.faults c.args.out.now) (g.O.Sink.faults c.loop-cycle.out) (g.O.Sink.faults c.put_piece.new.out) c.loop-cycle.invariant.calm c.in_err-put_piece.ensures.fault

pub returns-in_err-put_all-clause-part : goal.returns-in_err-put_all-clause-part
returns-in_err-put_all-clause-part g c =
    let first = sim_of c.args.sim.now in
    let widths : List ℕ = c.in_ok-widths.widths.items in
    let isd : IsDesign first.design.modules first.design.top = subst (λ (d : DesignTree). IsDesign d.modules d.top) c.design-design.ensures c.modules-modules.ensures.design in
    let are : AreWidths first.design widths = λ m at. c.in_ok-widths.ensures.widths m (subst (λ (d : DesignTree). TopOf d m) (sym c.design-design.ensures) at) in
    let now = sim_of c.loop-cycle.sim in
    let n = c.loop-cycle.cycle in
    let run : IsLater first now n = c.loop-cycle.invariant.later in
    let old = g.O.Sink.contents c.args.out.now in
    let mid = g.O.Sink.contents c.loop-cycle.out in
    let text : List ℕ = c.loop-cycle.text.items in
    let next = sim_of c.step.new.self in
    let later : IsLater first next (n + 1) = later_step first now n run next c.step.ensures in
    let more : List ℕ = c.push_turn-in-loop-cycle.new.text.items in
    let put = turned next c.deref-in-loop-cycle.result.now widths c.loop-cycle.values.items text more c.deref-in-loop-cycle.ensures.value c.in_ok-push_turn-2.ensures.lines in
    let written : IsWrittenTo first (n + 1) old mid more = next_written first isd widths are now n run next c.step.ensures c.loop-cycle.values.items old mid text more c.loop-cycle.invariant.kept c.loop-cycle.invariant.written put in
    let new = g.O.Sink.contents c.put_piece.new.out in
    let rest : List ℕ = c.put_piece.new.text.items in
    let p = c.in_ok-put_piece.ensures.piece in
    let after : IsWrittenTo first (n + 1) old new rest = piece_written first (n + 1) old mid new more p.0 rest written p.1 p.2 in
    let last = g.O.Sink.contents c.put_all.new.sink in
    on_err c.from_residual-in_err-put_all.result
    (part_to first isd widths are next (n + 1) later c.args.limit old new last rest (omega (arith, c.loop-cycle-test.true)) c.loop-cycle.invariant.going after (subst (λ (l : List ℕ). AppendsPart new last l) c.deref-then-done.ensures.value c.in_err-put_all.ensures.part))

pub returns-in_err-put_all-clause-short : goal.returns-in_err-put_all-clause-short
returns-in_err-put_all-clause-short g c =
    on_err c.from_residual-in_err-put_all.result (c.loop-cycle.cycle + 1, omega (arith, c.loop-cycle-test.true), later_step (sim_of c.args.sim.now) (sim_of c.loop-cycle.sim) c.loop-cycle.cycle c.loop-cycle.invariant.later (sim_of c.step.new.self) c.step.ensures)

pub returns-in_err-put_all-clause-later : goal.returns-in_err-put_all-clause-later
returns-in_err-put_all-clause-later g c = omega (arith, c.loop-cycle.invariant.calm, c.in_ok-put_piece.ensures.later, c.in_err-put_all.ensures.later)

pub returns-in_err-put_all-clause-fault : goal.returns-in_err-put_all-clause-fault
returns-in_err-put_all-clause-fault g c = λ e. rose_since (g.O.Sink.faults c.args.out.now) (g.O.Sink.faults c.put_piece.new.out) (g.O.Sink.faults c.put_all.new.sink) (omega (arith, c.loop-cycle.invariant.calm, c.in_ok-put_piece.ensures.later)) c.in_err-put_all.ensures.fault

pub returns-then-done-clause-done : goal.returns-then-done-clause-done
returns-then-done-clause-done g c =
    let first = sim_of c.args.sim.now in
    let next = sim_of c.step.new.self in
    let n = c.loop-cycle.cycle in
    let later : IsLater first next (n + 1) = later_step first (sim_of c.loop-cycle.sim) n c.loop-cycle.invariant.later next c.step.ensures in
    done_here first next (n + 1) later c.loop-cycle.invariant.going c.args.limit (omega (arith, c.loop-cycle-test.true)) (λ m env nets at f ready r told. (c.done.ensures m env nets at f ready r told).0 c.if-done.true)

pub returns-then-done-clause-whole : goal.returns-then-done-clause-whole
returns-then-done-clause-whole g c =
    let first = sim_of c.args.sim.now in
    let widths : List ℕ = c.in_ok-widths.widths.items in
    let isd : IsDesign first.design.modules first.design.top = subst (λ (d : DesignTree). IsDesign d.modules d.top) c.design-design.ensures c.modules-modules.ensures.design in
    let are : AreWidths first.design widths = λ m at. c.in_ok-widths.ensures.widths m (subst (λ (d : DesignTree). TopOf d m) (sym c.design-design.ensures) at) in
    let now = sim_of c.loop-cycle.sim in
    let n = c.loop-cycle.cycle in
    let run : IsLater first now n = c.loop-cycle.invariant.later in
    let old = g.O.Sink.contents c.args.out.now in
    let mid = g.O.Sink.contents c.loop-cycle.out in
    let text : List ℕ = c.loop-cycle.text.items in
    let next = sim_of c.step.new.self in
    let later : IsLater first next (n + 1) = later_step first now n run next c.step.ensures in
    let more : List ℕ = c.push_turn-in-loop-cycle.new.text.items in
    let put = turned next c.deref-in-loop-cycle.result.now widths c.loop-cycle.values.items text more c.deref-in-loop-cycle.ensures.value c.in_ok-push_turn-2.ensures.lines in
    let written : IsWrittenTo first (n + 1) old mid more = next_written first isd widths are now n run next c.step.ensures c.loop-cycle.values.items old mid text more c.loop-cycle.invariant.kept c.loop-cycle.invariant.written put in
    let new = g.O.Sink.contents c.put_piece.new.out in
    let rest : List ℕ = c.put_piece.new.text.items in
    let p = c.in_ok-put_piece.ensures.piece in
    let after : IsWrittenTo first (n + 1) old new rest = piece_written first (n + 1) old mid new more p.0 rest written p.1 p.2 in
    let last = g.O.Sink.contents c.put_all.new.sink in
    all_written first (n + 1) old new last rest after (subst (λ (l : List ℕ). Appends new last l) c.deref-then-done.ensures.value c.in_ok-put_all.ensures.whole)

pub returns-then-done-clause-stands : goal.returns-then-done-clause-stands
returns-then-done-clause-stands g c = later_step (sim_of c.args.sim.now) (sim_of c.loop-cycle.sim) c.loop-cycle.cycle c.loop-cycle.invariant.later (sim_of c.step.new.self) c.step.ensures

pub returns-then-done-clause-later : goal.returns-then-done-clause-later
returns-then-done-clause-later g c = omega (arith, c.loop-cycle.invariant.calm, c.in_ok-put_piece.ensures.later, c.in_ok-put_all.ensures.later)

pub loop-cycle-preserved : goal.loop-cycle-preserved
loop-cycle-preserved g c =
    let first = sim_of c.args.sim.now in
    let widths : List ℕ = c.in_ok-widths.widths.items in
    let isd : IsDesign first.design.modules first.design.top = subst (λ (d : DesignTree). IsDesign d.modules d.top) c.design-design.ensures c.modules-modules.ensures.design in
    let are : AreWidths first.design widths = λ m at. c.in_ok-widths.ensures.widths m (subst (λ (d : DesignTree). TopOf d m) (sym c.design-design.ensures) at) in
    let now = sim_of c.loop-cycle.sim in
    let n = c.loop-cycle.cycle in
    let run : IsLater first now n = c.loop-cycle.invariant.later in
    let old = g.O.Sink.contents c.args.out.now in
    let mid = g.O.Sink.contents c.loop-cycle.out in
    let text : List ℕ = c.loop-cycle.text.items in
    let next = sim_of c.step.new.self in
    let later : IsLater first next (n + 1) = later_step first now n run next c.step.ensures in
    let more : List ℕ = c.push_turn-in-loop-cycle.new.text.items in
    let put = turned next c.deref-in-loop-cycle.result.now widths c.loop-cycle.values.items text more c.deref-in-loop-cycle.ensures.value c.in_ok-push_turn-2.ensures.lines in
    let written : IsWrittenTo first (n + 1) old mid more = next_written first isd widths are now n run next c.step.ensures c.loop-cycle.values.items old mid text more c.loop-cycle.invariant.kept c.loop-cycle.invariant.written put in
    let new = g.O.Sink.contents c.put_piece.new.out in
    let rest : List ℕ = c.put_piece.new.text.items in
    let p = c.in_ok-put_piece.ensures.piece in
    let after : IsWrittenTo first (n + 1) old new rest = piece_written first (n + 1) old mid new more p.0 rest written p.1 p.2 in
    record {
      later = later;
      count = c.in_ok-push_turn-2.ensures.count ∙ c.loop-cycle.invariant.count;
      kept = kept_later first next (n + 1) later c.deref-in-loop-cycle.result.now widths c.push_turn-in-loop-cycle.new.values.items are c.deref-in-loop-cycle.ensures.value c.in_ok-push_turn-2.ensures.kept;
      going = still_going first next (n + 1) later c.loop-cycle.invariant.going (λ m env nets at f ready r told d. true_not_false (sym ((c.done.ensures m env nets at f ready r told).1 d) ∙ c.if-done.false));
      written = after;
      calm = omega (arith, c.loop-cycle.invariant.calm, c.in_ok-put_piece.ensures.later);
    }

pub returns-in_err-put_all-2-clause-part : goal.returns-in_err-put_all-2-clause-part
returns-in_err-put_all-2-clause-part g c =
    let first = sim_of c.args.sim.now in
    let widths : List ℕ = c.in_ok-widths.widths.items in
    let isd : IsDesign first.design.modules first.design.top = subst (λ (d : DesignTree). IsDesign d.modules d.top) c.design-design.ensures c.modules-modules.ensures.design in
    let are : AreWidths first.design widths = λ m at. c.in_ok-widths.ensures.widths m (subst (λ (d : DesignTree). TopOf d m) (sym c.design-design.ensures) at) in
    let now = sim_of c.loop-cycle.sim in
    let n = c.loop-cycle.cycle in
    let run : IsLater first now n = c.loop-cycle.invariant.later in
    let old = g.O.Sink.contents c.args.out.now in
    let mid = g.O.Sink.contents c.loop-cycle.out in
    let text : List ℕ = c.loop-cycle.text.items in
    let last = g.O.Sink.contents c.put_all-2.new.sink in
    on_err c.from_residual-in_err-put_all-2.result
    (part_to first isd widths are now n run c.args.limit old mid last text (omega (arith, c.loop-cycle-test.false)) (fewer first n c.loop-cycle.invariant.going) c.loop-cycle.invariant.written (subst (λ (l : List ℕ). AppendsPart mid last l) c.deref-2.ensures.value c.in_err-put_all-2.ensures.part))

pub returns-in_err-put_all-2-clause-short : goal.returns-in_err-put_all-2-clause-short
returns-in_err-put_all-2-clause-short g c = on_err c.from_residual-in_err-put_all-2.result (c.loop-cycle.cycle, omega (arith, c.loop-cycle-test.false), c.loop-cycle.invariant.later)

pub returns-in_err-put_all-2-clause-later : goal.returns-in_err-put_all-2-clause-later
returns-in_err-put_all-2-clause-later g c = omega (arith, c.loop-cycle.invariant.calm, c.in_err-put_all-2.ensures.later)

pub returns-in_err-put_all-2-clause-fault : goal.returns-in_err-put_all-2-clause-fault
returns-in_err-put_all-2-clause-fault g c = λ e. rose_since (g.O.Sink.faults c.args.out.now) (g.O.Sink.faults c.loop-cycle.out) (g.O.Sink.faults c.put_all-2.new.sink) c.loop-cycle.invariant.calm c.in_err-put_all-2.ensures.fault

pub returns-clause-done : goal.returns-clause-done
returns-clause-done g c =
    let first = sim_of c.args.sim.now in
    let stop : c.loop-cycle.cycle ≡ c.args.limit = omega (arith, c.loop-cycle-test.false, c.loop-cycle.auto.cycle-end) in
    none_done first c.args.limit (subst (λ (k : ℕ). AreGoing first (k + 1)) stop c.loop-cycle.invariant.going)

pub returns-clause-whole : goal.returns-clause-whole
returns-clause-whole g c =
    let first = sim_of c.args.sim.now in
    let n = c.loop-cycle.cycle in
    let old = g.O.Sink.contents c.args.out.now in
    let mid = g.O.Sink.contents c.loop-cycle.out in
    let text : List ℕ = c.loop-cycle.text.items in
    let last = g.O.Sink.contents c.put_all-2.new.sink in
    let stop : n ≡ c.args.limit = omega (arith, c.loop-cycle-test.false, c.loop-cycle.auto.cycle-end) in
    subst (λ (k : ℕ). InRuns first (λ m env nets. Appends old last (dump_of m (λ n. nets n []) k))) stop
    (all_written first n old mid last text c.loop-cycle.invariant.written (subst (λ (l : List ℕ). Appends mid last l) c.deref-2.ensures.value c.in_ok-put_all-2.ensures.whole))

pub returns-clause-stands : goal.returns-clause-stands
returns-clause-stands g c =
    let stop : c.loop-cycle.cycle ≡ c.args.limit = omega (arith, c.loop-cycle-test.false, c.loop-cycle.auto.cycle-end) in
    subst (λ (k : ℕ). IsLater (sim_of c.args.sim.now) (sim_of c.loop-cycle.sim) k) stop c.loop-cycle.invariant.later

pub returns-clause-later : goal.returns-clause-later
returns-clause-later g c = omega (arith, c.loop-cycle.invariant.calm, c.in_ok-put_all-2.ensures.later)
