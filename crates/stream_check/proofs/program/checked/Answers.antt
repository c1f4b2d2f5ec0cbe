use Rattle.std.proofs.Common.{◌≡◌, List, [], map, ap, subst, ◌∙◌}
use Rattle.std.specs.Prelude.{Err}
use Rattle.std.proofs.lemmas.Result.{err_from_is_err_and}
use Rattle.tapa_syntax.specs.declared.tree.FileItem.{FileItem}
use Rattle.tapa_syntax.specs.Trees.{item_of}
use Rattle.check_scope.specs.Answers.{ScopeAnswers}
use Rattle.stream_check.specs.Items.{no_items, items_faults, tasks_of}
use Rattle.check_upper.specs.Tasks.{task_position}
use Rattle.check_upper.specs.Views.{task_view}
use Rattle.stream_check.proofs.Whole.{file_goes, file_stops}
use Rattle.stream_check.proofs.program.checked.Goals as goal

pub returns-in_err-tasks : goal.returns-in_err-tasks
returns-in_err-tasks c =
    let q = err_from_is_err_and c.from_residual.result c.from_residual.ensures.1 in
    let e = c.in_err-tasks.field-0.0 in
    let told = subst (λ (xs : List FileItem). ScopeAnswers {A = Unit {0}} (λ x. tasks_of (map item_of xs)) (Err e) (items_faults no_items (map item_of xs)) (tasks_of (map item_of xs))) c.deref.ensures.value c.in_err-tasks.ensures in
    rw (q.1, q.2) (file_stops (map item_of c.args.file.now.items.items) c.args.top.now e _ _ told)

pub returns : goal.returns
returns c =
    let items = map item_of c.args.file.now.items.items in
    let tasks = map task_view c.in_ok-tasks.tasks.items in
    let clean = subst (λ (xs : List FileItem). items_faults no_items (map item_of xs) ≡ []) c.deref.ensures.value c.in_ok-tasks.ensures.0 in
    let same = subst (λ (xs : List FileItem). tasks ≡ tasks_of (map item_of xs)) c.deref.ensures.value c.in_ok-tasks.ensures.1 in
    let place : c.task_position-number.result ≡ task_position 0 c.args.top.now tasks = c.task_position-number.ensures ∙ ap (λ ts. task_position 0 c.args.top.now (map task_view ts)) c.deref-2.ensures.value in
    file_goes items c.args.top.now c.all_levels.result tasks c.task_position-number.result c.program.result clean same c.all_levels.ensures place c.program.ensures
