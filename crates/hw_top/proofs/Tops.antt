-- The top of a circuit: whether any instance is waited for, and how many elements it has.
use Rattle.std.proofs.Common.{◌≡◌, ℕ, zero, suc, ◌+◌, ◌-◌, ◌*◌, ◌^◌, ◌≤◌, List, [], ◌∷◌, ◌++◌, length, refl, ap, subst, ◌∙◌, arith}
use Rattle.tapa_syntax.specs.declared.program.Program.{Program}
use Rattle.vlog_tree.specs.declared.tree.Atom.TheVariants.{Net}
use Rattle.vlog_tree.specs.declared.tree.Value.TheVariants.{Invert}
use Rattle.vlog_tree.specs.Form.{ModuleTree}
use Rattle.vlog_tree.specs.Labels.{done}
use Rattle.vlog_tree.specs.Table.{Name}
use Rattle.hw_build.specs.Elements.{Output, with_all}
use Rattle.hw_build.specs.Trees.{numbered, tree_nodes, tree_root}
use Rattle.hw_build.specs.Scope.{each}
use Rattle.hw_nets.proofs.Grows.{both}
use Rattle.hw_top_lines.specs.Names.{waits}
use Rattle.hw_lines.specs.Texts.{task_name}
use Rattle.hw_task_laws.proofs.names.Lined.{lines_count}
use Rattle.hw_top_lines.specs.Legal.{IsCountable}
use Rattle.hw_top_lines.specs.Texts.{doneness, none_waits, top_elements, top_tree, waiting}

-- of some instances
some_wait : (n : ℕ) → (n ≡ 0 → ⊥) → Invert (Net (tree_root waits n)) ≡ none_waits n
some_wait zero h = absurd (h refl)
some_wait (suc n) h = refl

pub root_waits : (n : ℕ) (front x : Name) → (n ≡ 0 → ⊥) → front ≡ waits → x ≡ numbered front (2 * n - 2) → Invert (Net x) ≡ none_waits n
root_waits n front x h is named = ap (λ z. Invert (Net z)) (named ∙ ap (λ f. numbered f (2 * n - 2)) is) ∙ some_wait n h

pub done_grows : (program : Program) (n : ℕ) (d e f g : ModuleTree) → n ≡ length program.instances.items → e ≡ with_all d (each (waiting program) (length program.instances.items))
    → f ≡ with_all e (tree_nodes 1 waits n (n - 1)) → g ≡ with_all f (Output 1 done (none_waits n) ∷ []) → g ≡ with_all d (doneness program)
done_grows program n d e f g h p q r =
    let k = length program.instances.items in
    let W = each (waiting program) k in
    let T = tree_nodes 1 waits k (k - 1) in
    both d f g (W ++ T) (Output 1 done (none_waits k) ∷ []) (both d e f W T p (q ∙ ap (λ i. with_all e (tree_nodes 1 waits i (i - 1))) h))
    (r ∙ ap (λ i. with_all f (Output 1 done (none_waits i) ∷ [])) h)

-- its elements are no more than the lines
pub counted : (program : Program) (added : List ℕ) (d : ModuleTree) → d ≡ top_tree program added → length d.ports + length d.items ≤ 2 ^ 64 → IsCountable program added
counted program added d is few =
    let lines = lines_count (task_name program.top) (top_elements program added) in
    let same = subst (λ (t : ModuleTree). length t.ports + length t.items ≤ 2 ^ 64) is few in
    omega (arith, lines, same)
