use Rattle.std.proofs.Common.{ℕ, List, length, ap, ◌∙◌, arith}
use Rattle.tapa_syntax.specs.declared.program.Program.{Program}
use Rattle.tapa_syntax.specs.WellFormed.{IsWellFormed}
use Rattle.task_fsm.specs.declared.machine.Fsm.{Fsm}
use Rattle.vlog_tree.specs.Form.{ModuleTree}
use Rattle.hw_top_lines.specs.Designs.{AreShort}
use Rattle.hw_top_lines.specs.Legal.{AreMachinesOf, IsCountable, IsReady}
use Rattle.tapa_syntax.specs.OwnNames.{HasOwnNames}
use Rattle.hw_top_laws.proofs.circuit.Circuit.{tops_are_modules}
use Rattle.hw_top.proofs.Circuit.{kept_promises, whole_long, legal_at, circuit_of}
use Rattle.hw_top.proofs.whole.design.Goals as goal

ready_of : (program : Program) (machines : List Fsm) (added : List ℕ) → IsWellFormed program → HasOwnNames program → AreMachinesOf program machines → AreShort added → IsCountable program added → IsReady program machines added
ready_of program machines added w n m s k = record { well_formed = w; told_apart = n; lowered = m; short = s; countable = k }

pub modules_of-requires : goal.modules_of-requires
modules_of-requires c = record {
  program = c.requires.program;
  names = c.requires.names.tasks_written;
  machines = c.requires.machines;
  added = c.requires.added;
  top = λ countable kept.
      tops_are_modules c.args.program.now c.args.machines.now c.args.added.now
      (ready_of c.args.program.now c.args.machines.now c.args.added.now c.requires.program c.requires.names c.requires.machines c.requires.added countable) (kept_promises c.args.program.now c.args.machines.now kept);
}

pub of_known-requires : goal.of_known-requires
of_known-requires c =
    let p = c.args.program.now in
    let ms = c.args.machines.now in
    let a = c.args.added.now in
    let ready = ready_of p ms a c.requires.program c.requires.names c.requires.machines c.requires.added c.in_ok-modules.ensures.countable in
    let kept = kept_promises p ms c.in_ok-modules.ensures.promises in
    let long = ap (λ (l : List ModuleTree). length l) c.in_ok-modules.ensures.modules ∙ whole_long p ms a ready kept in
    legal_at p ms a ready kept c.in_ok-modules.modules.items _ c.in_ok-modules.ensures.modules (omega (arith, c.len-top.ensures, long))

pub returns : goal.returns
returns c =
    let p = c.args.program.now in
    let ms = c.args.machines.now in
    let a = c.args.added.now in
    let ready = ready_of p ms a c.requires.program c.requires.names c.requires.machines c.requires.added c.in_ok-modules.ensures.countable in
    let kept = kept_promises p ms c.in_ok-modules.ensures.promises in
    let long = ap (λ (l : List ModuleTree). length l) c.in_ok-modules.ensures.modules ∙ whole_long p ms a ready kept in
    circuit_of p ms a ready kept c.in_ok-design.design (c.in_ok-design.ensures.0 ∙ c.in_ok-modules.ensures.modules) (omega (arith, c.in_ok-design.ensures.1, c.len-top.ensures, long))
