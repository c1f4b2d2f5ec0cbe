use Rattle.std.proofs.Common.{◌≡◌, drop}
use Rattle.tapa_syntax.specs.LeafKinds.{kinds_of}
use Rattle.task_fsm.specs.Code.{list_code}
use Rattle.task_fsm.specs.Draft.{emitted}
use Rattle.task_fsm.proofs.statements.+statements.Given as goal

abbrev pub invariant-write_list-loop-i : goal.invariant-write_list-loop-i
invariant-write_list-loop-i l =
    emitted l.draft ≡ list_code (kinds_of l.leaf) l.total l.counter (drop l.i l.code) l.out l.again (emitted l.fn.draft)
