-- A whole program from its parts.
use Rattle.std.proofs.Common.{◌≡◌, ℕ, List, [], ◌++◌, Some, refl, sym, ap, subst, ◌∙◌}
use Rattle.std.specs.Prelude.{Err, Result, slice_get}
use Rattle.tapa_syntax.specs.declared.program.Program.{Program}
use Rattle.tapa_syntax.specs.Flat.{FlatProgram, flat_program}
use Rattle.tapa_syntax.specs.Trees.{ItemTree}
use Rattle.check_scope.specs.Answers.{ScopeAnswers}
use Rattle.check_scope.specs.declared.fault.Broken.{Broken}
use Rattle.check_scope.specs.declared.fault.CheckFault.{CheckFault}
use Rattle.check_upper.specs.Tasks.{Task, task_position}
use Rattle.stream_check.specs.Items.{no_items, items_faults, tasks_of}
use Rattle.stream_check.specs.Parts.{streams_in, instances_in}
use Rattle.stream_check.specs.Programs.{top_parts, top_faults, limit_faults, bindings_faults, program_made, parts_faults, top_task_faults, top_program, whole_faults, whole_program, all_levels, program_faults, program_of}
use Rattle.stream_check.specs.Views.{Flat, flat_parts}
use Rattle.check_scope.proofs.Order.{refuses}

answers_at : (r : Result Program CheckFault) (fs gs : List Broken) (m n : FlatProgram) → fs ≡ gs → m ≡ n → ScopeAnswers flat_program r gs n → ScopeAnswers flat_program r fs m
answers_at r fs gs m n h k a = subst (λ (l : List Broken). ScopeAnswers flat_program r l m) (sym h) (subst (λ (p : FlatProgram). ScopeAnswers flat_program r gs p) (sym k) a)

-- a top that is legal, and the parts that follow
whole_is : (levels : ℕ) (tasks : List Task) (n : ℕ) (t : Task) → slice_get tasks n ≡ Some t → top_faults t ≡ [] → whole_faults levels tasks n ≡ parts_faults tasks t.declared (top_parts levels tasks n t.declared)
whole_is levels tasks n t there top = ap (top_task_faults levels tasks n) there ∙ ap (λ l. l ++ parts_faults tasks t.declared (top_parts levels tasks n t.declared)) top

pub whole_stops : {B D : Type 0} (levels : ℕ) (tasks : List Task) (n : ℕ) (t : Task) (e : CheckFault) (m : B) (p : D) → slice_get tasks n ≡ Some t → top_faults t ≡ [] → ScopeAnswers {A = Unit {0}} (λ x. m) (Err e) (limit_faults 0 0 (top_parts levels tasks n t.declared)) m → ScopeAnswers {A = Unit {0}} (λ x. p) (Err e) (whole_faults levels tasks n) p
whole_stops levels tasks n t e m p there top h =
    let parts = top_parts levels tasks n t.declared in
    refuses e (whole_faults levels tasks n) (limit_faults 0 0 parts) (bindings_faults tasks t.declared (instances_in parts) (streams_in parts)) m p h (whole_is levels tasks n t there top)

pub whole_goes : (levels : ℕ) (tasks : List Task) (n : ℕ) (t : Task) (f : Flat) (r : Result Program CheckFault) → slice_get tasks n ≡ Some t → top_faults t ≡ [] → limit_faults 0 0 (top_parts levels tasks n t.declared) ≡ [] → f ≡ flat_parts (top_parts levels tasks n t.declared) → ScopeAnswers flat_program r (bindings_faults tasks t.declared f.instances f.streams) (program_made tasks t.declared f.instances f.streams) → ScopeAnswers flat_program r (whole_faults levels tasks n) (whole_program levels tasks n)
whole_goes levels tasks n t f r there top limits made a =
    let parts = top_parts levels tasks n t.declared in
    answers_at r (whole_faults levels tasks n) (bindings_faults tasks t.declared f.instances f.streams) (whole_program levels tasks n) (program_made tasks t.declared f.instances f.streams)
    (whole_is levels tasks n t there top
    ∙ ap (λ l. l ++ bindings_faults tasks t.declared (instances_in parts) (streams_in parts)) limits
    ∙ ap (λ (g : Flat). bindings_faults tasks t.declared g.instances g.streams) (sym made))
    (ap (top_program levels tasks n) there ∙ ap (λ (g : Flat). program_made tasks t.declared g.instances g.streams) (sym made)) a

pub file_goes : (items : List ItemTree) (top : List ℕ) (levels : ℕ) (tasks : List Task) (n : ℕ) (r : Result Program CheckFault) → items_faults no_items items ≡ [] → tasks ≡ tasks_of items → levels ≡ all_levels → n ≡ task_position 0 top tasks → ScopeAnswers flat_program r (whole_faults levels tasks n) (whole_program levels tasks n) → ScopeAnswers flat_program r (program_faults items top) (program_of items top)
file_goes items top levels tasks n r clean same all place a =
    answers_at r (program_faults items top) (whole_faults levels tasks n) (program_of items top) (whole_program levels tasks n)
    (ap (λ l. l ++ whole_faults all_levels (tasks_of items) (task_position 0 top (tasks_of items))) clean
    ∙ ap (λ ts. whole_faults all_levels ts (task_position 0 top ts)) (sym same)
    ∙ ap (λ k. whole_faults all_levels tasks k) (sym place)
    ∙ ap (λ l. whole_faults l tasks n) (sym all))
    (ap (λ ts. whole_program all_levels ts (task_position 0 top ts)) (sym same) ∙ ap (λ k. whole_program all_levels tasks k) (sym place) ∙ ap (λ l. whole_program l tasks n) (sym all)) a

pub file_stops : {B D : Type 0} (items : List ItemTree) (top : List ℕ) (e : CheckFault) (m : B) (p : D) → ScopeAnswers {A = Unit {0}} (λ x. m) (Err e) (items_faults no_items items) m → ScopeAnswers {A = Unit {0}} (λ x. p) (Err e) (program_faults items top) p
file_stops items top e m p h = refuses e (program_faults items top) (items_faults no_items items) _ m p h refl
