-- The module of a leaf's machine keeps its promise, where its states and its lines are counted.
use Rattle.std.proofs.Common.{◌≡◌, ◌+◌, ◌^◌, ◌≤◌, List, length, refl, sym, ap, subst, ◌∙◌, arith}
use Rattle.tapa_base.specs.declared.kind.Kind.{Kind}
use Rattle.tapa_syntax.specs.declared.program.End.{End}
use Rattle.tapa_syntax.specs.declared.program.Leaf.{Leaf}
use Rattle.task_fsm.specs.declared.machine.Fsm.{Fsm}
use Rattle.vlog_tree.specs.Form.{ModuleTree}
use Rattle.hw_lines.specs.Shape.{shape_of}
use Rattle.hw_lines.specs.Texts.{task_elements, task_name, task_tree}
use Rattle.hw_task_laws.specs.names.Countable.{IsCountable}
use Rattle.hw_task_laws.proofs.names.Lined.{lines_count, titles_are_names}
use Rattle.hw_task_laws.proofs.names.Ported.{modules_have_ports}
use Rattle.hw_task_laws.proofs.form.Whole.{tasks_are_right, tasks_are_modules, tasks_have_no_children, tasks_have_no_loop}
use Rattle.hw_task_laws.proofs.rests.Rested.{only_takes_rest}
use Rattle.hw_task_laws.proofs.runs.Machines.{instances_run}
use Rattle.hw_nets.proofs.Shapes.{count_is}
use Rattle.hw_task.specs.Promise.{IsOfLeaf, KeepsPromise, leaf_shape}

countable : (machine : Fsm) (memories : List Kind) (streams : List End) → length machine.states.items ≤ 2 ^ 32 → length (task_tree machine memories streams).ports + length (task_tree machine memories streams).items ≤ 2 ^ 64 → IsCountable (shape_of machine memories streams)
countable machine memories streams few lines =
    let c = count_is machine.states.items in
    let n = lines_count (task_name machine.name) (task_elements (shape_of machine memories streams)) in
    record { states = omega (arith, c, few); elements = omega (arith, n, lines) }

kept : (leaf : Leaf) (machine : Fsm) → IsOfLeaf leaf machine leaf.memories.items leaf.streams.items → IsCountable (leaf_shape leaf machine) → KeepsPromise leaf machine (task_tree machine leaf.memories.items leaf.streams.items)
kept leaf machine o c =
    let title = task_name machine.name in
    record {
      acts = instances_run leaf machine o.well_formed o.lowered c;
      form = tasks_are_modules leaf machine o.well_formed o.lowered c title (titles_are_names machine.name o.named);
      childless = tasks_have_no_children leaf machine o.well_formed o.lowered c title;
      right = λ ms single. tasks_are_right leaf machine o.well_formed o.lowered c ms title single;
      loopless = λ ms is_top inner x rests. tasks_have_no_loop leaf machine o.well_formed o.lowered c ms is_top title inner x rests;
      ports = modules_have_ports (leaf_shape leaf machine) title;
      rests = λ ms is_top inner x y out in_ rests. only_takes_rest leaf machine o.well_formed o.lowered c ms is_top title x y out in_ rests;
    }

-- of any module that is the one of the machine
pub keeps : (machine : Fsm) (memories : List Kind) (streams : List End) {m : ModuleTree} → m ≡ task_tree machine memories streams → length machine.states.items ≤ 2 ^ 32 → length m.ports + length m.items ≤ 2 ^ 64 → (leaf : Leaf) → IsOfLeaf leaf machine memories streams → KeepsPromise leaf machine m
keeps machine memories streams {m} e few lines leaf o =
    let same = e ∙ ap (λ l. task_tree machine l streams) o.own_memories ∙ ap (λ l. task_tree machine leaf.memories.items l) o.own_streams in
    let lines_of = subst (λ (t : ModuleTree). length t.ports + length t.items ≤ 2 ^ 64) same lines in
    let own : IsOfLeaf leaf machine leaf.memories.items leaf.streams.items = record { well_formed = o.well_formed; lowered = o.lowered; own_memories = refl; own_streams = refl; named = o.named } in
    subst (λ (t : ModuleTree). KeepsPromise leaf machine t) (sym same) (kept leaf machine own (countable machine leaf.memories.items leaf.streams.items few lines_of))
