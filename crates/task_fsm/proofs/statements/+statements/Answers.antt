use Rattle.std.proofs.Common.{◌≡◌, ◌∙◌, sym}
use Rattle.std.proofs.lemmas.Result.{IfOk-weaker}
use Rattle.tapa_syntax.specs.LeafKinds.{kinds_of}
use Rattle.task_fsm.specs.Code.{test_code, stmt_code}
use Rattle.task_fsm.specs.Draft.{emitted}
use Rattle.task_fsm.proofs.Lists.{if_written, loop_written, length_written}
use Rattle.task_fsm.proofs.statements.+statements.Goals as goal

pub write_stmt-returns-in_ok-write_list-in-If-2 : goal.write_stmt-returns-in_ok-write_list-in-If-2
write_stmt-returns-in_ok-write_list-in-If-2 t c =
    IfOk-weaker c.write_test.result (λ u. emitted c.write_test.new.draft ≡ test_code (kinds_of c.args.leaf.now) c.args.total c.in-If.e c.write_list.new.draft.entry (emitted c.write_list-in-If.new.draft)) (λ u. emitted c.write_test.new.draft ≡ stmt_code (kinds_of c.args.leaf.now) c.args.total c.args.counter c.args.s.now c.args.out c.args.again (emitted c.args.draft.now))
    (λ u h. if_written (kinds_of c.args.leaf.now) c.args.total c.args.counter c.args.s.now c.in-If.e c.in-If.left c.in-If.right c.deref.result.now c.deref-in-If.result.now c.args.out c.args.again (emitted c.args.draft.now) (emitted c.write_list.new.draft) (emitted c.write_list-in-If.new.draft) (emitted c.write_test.new.draft) c.in-If.is c.deref.ensures.value c.deref-in-If.ensures.value c.in_ok-write_list-in-If.ensures c.in_ok-write_list-in-If-2.ensures h)
    c.write_test.ensures

pub write_stmt-returns-in_ok-write_list-in-Loop-2 : goal.write_stmt-returns-in_ok-write_list-in-Loop-2
write_stmt-returns-in_ok-write_list-in-Loop-2 t c =
    IfOk-weaker c.write_test-in-Loop.result (λ u. emitted c.write_test-in-Loop.new.draft ≡ test_code (kinds_of c.args.leaf.now) c.args.total c.in-Loop.test c.args.draft.now.entry (emitted c.write_list-in-Loop-2.new.draft)) (λ u. emitted c.write_test-in-Loop.new.draft ≡ stmt_code (kinds_of c.args.leaf.now) c.args.total c.args.counter c.args.s.now c.args.out c.args.again (emitted c.args.draft.now))
    (λ u h. loop_written (kinds_of c.args.leaf.now) c.args.total c.args.counter c.args.s.now c.in-Loop.test c.in-Loop.body c.in-Loop.step c.deref-in-Loop.result.now c.deref-in-Loop-2.result.now c.deref-in-Loop-3.result.now c.deref-in-Loop-4.result.now c.args.out c.args.again c.number_of_head-head.result c.len.result c.in_ok-size-in-Loop.size c.in_ok-size_list-in-Loop.field-0 c.in_ok-size_list-in-Loop-2.field-0 c.in_ok-inside-in-Loop.inside c.in_ok-count_of-in-Loop.field-0 c.in_ok-plus-in-Loop.field-0 (emitted c.args.draft.now) (emitted c.write_list-in-Loop.new.draft) (emitted c.write_list-in-Loop-2.new.draft) (emitted c.write_test-in-Loop.new.draft) c.in-Loop.is c.deref-in-Loop.ensures.value c.deref-in-Loop-2.ensures.value c.in_ok-size_list-in-Loop.ensures c.in_ok-size_list-in-Loop-2.ensures c.in_ok-inside-in-Loop.ensures c.in_ok-count_of-in-Loop.ensures c.in_ok-plus-in-Loop.ensures c.in_ok-size-in-Loop.ensures (c.len.ensures ∙ c.args.draft.now.states.ok.0 ∙ sym (length_written c.args.draft.now.states.items)) c.number_of_head-head.ensures c.deref-in-Loop-3.ensures.value c.deref-in-Loop-4.ensures.value c.in_ok-write_list-in-Loop.ensures c.in_ok-write_list-in-Loop-2.ensures h)
    c.write_test-in-Loop.ensures
