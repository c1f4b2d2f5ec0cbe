use Rattle.std.proofs.Common.{◌≡◌, List, [], Some, map, sym, ap, subst, ◌∙◌}
use Rattle.std.specs.Prelude.{Err, slice_get}
use Rattle.std.proofs.lemmas.Result.{err_from_is_err_and}
use Rattle.check_scope.specs.Answers.{ScopeAnswers}
use Rattle.check_upper.specs.declared.task.Task.{Task}
use Rattle.check_upper.specs.Views.{task_view}
use Rattle.stream_check.specs.Programs.{limit_faults, top_parts}
use Rattle.stream_check.specs.Views.{flat_of, flat_parts}
use Rattle.stream_check.proofs.Whole.{whole_goes, whole_stops}
use Rattle.stream_check.proofs.program.program.Goals as goal

pub returns-in_err-parts : goal.returns-in_err-parts
returns-in_err-parts c =
    let q = err_from_is_err_and c.from_residual-in_err-parts.result c.from_residual-in_err-parts.ensures.1 in
    let n = c.args.number in
    let e = c.in_err-parts.field-0.0 in
    let tasks = map task_view c.args.tasks.items in
    let task = task_view c.in-Some.task.now in
    let there : slice_get tasks n ≡ Some task = sym (c.in-Some.ensures ∙ ap (λ xs. slice_get (map task_view xs) n) c.deref.ensures.value) in
    let parts = λ (xs : List Task). top_parts c.args.levels (map task_view xs) n task.declared in
    let told = subst (λ (xs : List Task). ScopeAnswers {A = Unit {0}} (λ x. flat_parts (parts xs)) (Err e) (limit_faults 0 0 (parts xs)) (flat_parts (parts xs))) c.deref-2.ensures.value c.in_err-parts.ensures in
    rw (q.1, q.2) (whole_stops c.args.levels tasks n task e (flat_parts (parts c.args.tasks.items)) _ there c.in_ok-check_top.ensures.0 told)

pub returns : goal.returns
returns c =
    let n = c.args.number in
    let tasks = map task_view c.args.tasks.items in
    let task = task_view c.in-Some.task.now in
    let there : slice_get tasks n ≡ Some task = sym (c.in-Some.ensures ∙ ap (λ xs. slice_get (map task_view xs) n) c.deref.ensures.value) in
    let parts = λ (xs : List Task). top_parts c.args.levels (map task_view xs) n task.declared in
    let limits = subst (λ (xs : List Task). limit_faults 0 0 (parts xs) ≡ []) c.deref-2.ensures.value c.in_ok-parts.ensures.0 in
    let made = subst (λ (xs : List Task). flat_of c.in_ok-parts.parts ≡ flat_parts (parts xs)) c.deref-2.ensures.value c.in_ok-parts.ensures.1 in
    whole_goes c.args.levels tasks n task (flat_of c.in_ok-parts.parts) c.program_with.result there c.in_ok-check_top.ensures.0 limits made c.program_with.ensures
