use Rattle.std.proofs.Common.{◌≡◌, ◌++◌, ap, ◌∙◌}
use Rattle.task_fsm.specs.Machine.{StateForm}
use Rattle.hw_lines.specs.States.{reads_at, index_of, value_of}
use Rattle.hw_lines.specs.Wires.{read_count, reads_in}
use Rattle.hw_expressions.specs.Reads.{read_form, read_forms}
use Rattle.hw_nets.specs.Shapes.{form}
use Rattle.hw_task.proofs.ReadPorts.{get_none, get_some, read_none, read_some, asked_none, asked_some, none_asked, some_asked}
use Rattle.hw_task.proofs.reads.add_asked.Goals as goal

pub returns-in-None : goal.returns-in-None
returns-in-None c =
    let S = form c.args.shape.now in
    let reads = c.in_ok-reads.reads.items in
    let e : read_forms reads ≡ reads_at S c.args.k =
    c.in_ok-reads.ensures ∙ ap (λ (F : StateForm). reads_in 0 (index_of F) ++ reads_in (read_count (index_of F)) (value_of F)) c.state.ensures in
    let g = read_none S c.args.p c.args.k reads e (get_none reads c.deref.result.now c.args.p c.deref.ensures.value c.in-None.ensures.lookup.0) in
    record { draft = asked_none S c.args.p c.args.k c.args.draft.now g; asked = none_asked S c.args.p c.args.k g }

pub returns : goal.returns
returns c =
    let S = form c.args.shape.now in
    let reads = c.in_ok-reads.reads.items in
    let read = c.in-Some.read.now in
    let e : read_forms reads ≡ reads_at S c.args.k =
    c.in_ok-reads.ensures ∙ ap (λ (F : StateForm). reads_in 0 (index_of F) ++ reads_in (read_count (index_of F)) (value_of F)) c.state.ensures in
    let g = read_some S c.args.p c.args.k reads read e (get_some reads c.deref.result.now c.args.p read c.deref.ensures.value c.in-Some.ensures.lookup.0 c.in-Some.ensures.lookup.1) in
    record {
      draft = asked_some S c.args.p c.args.k c.args.draft.now c.add_read.new.draft (read_form read) g c.in_ok-found-in-Some.ensures.draft;
      asked = some_asked S c.args.p c.args.k (read_form read) c.in_ok-found-in-Some.found g c.in_ok-found-in-Some.ensures.array c.in_ok-found-in-Some.ensures.index;
    }
