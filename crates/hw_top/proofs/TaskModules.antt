-- The modules of a program's leaf tasks.
use Rattle.std.proofs.Common.{◌≡◌, ℕ, suc, ◌<◌, true, false, cond, List, [], ◌∷◌, ◌++◌, length, Some, None, refl, sym, ap, subst, ◌∙◌, arith}
use Rattle.std.specs.Prelude.{option_map, slice_get}
use Rattle.std.specs.List.{list_all}
use Rattle.std.proofs.lemmas.List.{append-nil}
use Rattle.std.proofs.lemmas.Option.{slice_get-map, slice_get_within}
use Rattle.tapa_base.specs.declared.kind.Kind.{Kind}
use Rattle.tapa_syntax.specs.declared.program.End.{End}
use Rattle.tapa_syntax.specs.declared.program.Leaf.{Leaf}
use Rattle.tapa_syntax.specs.declared.program.Program.{Program}
use Rattle.tapa_syntax.specs.WellFormed.{IsWellFormed}
use Rattle.task_fsm.specs.declared.machine.Fsm.{Fsm}
use Rattle.vlog_tree.specs.Form.{ModuleTree}
use Rattle.vlog_tree.specs.Names.{goes_on}
use Rattle.vlog_tree.specs.Table.{Name}
use Rattle.hw_lines.specs.Texts.{task_tree}
use Rattle.hw_top_lines.specs.Designs.{is_used, leaf_module, machine_module, used_module}
use Rattle.hw_top_lines.specs.Legal.{AreMachinesOf}
use Rattle.tapa_syntax.specs.OwnNames.{AreWritten, task_names}
use Rattle.hw_top_laws.proofs.names.Written.{label_goes_on}
use Rattle.hw_task.specs.Promise.{IsOfLeaf, KeepsPromise}
use Rattle.hw_top.specs.Kept.{IsKept, IsOfBody}

-- ---- one module

-- a machine of a leaf, with memories and streams that are the leaf's
pub of_own_leaf : (leaf : Leaf) (machine : Fsm) (memories : List Kind) (streams : List End) → memories ≡ leaf.memories.items → streams ≡ leaf.streams.items → IsOfLeaf leaf machine leaf.memories.items leaf.streams.items → IsOfLeaf leaf machine memories streams
of_own_leaf leaf machine memories streams p q o = record { well_formed = o.well_formed; lowered = o.lowered; own_memories = p; own_streams = q; named = o.named }

pub own_tree : (leaf : Leaf) (machine : Fsm) (memories : List Kind) (streams : List End) (m : ModuleTree) → memories ≡ leaf.memories.items → streams ≡ leaf.streams.items → m ≡ task_tree machine memories streams → m ≡ task_tree machine leaf.memories.items leaf.streams.items
own_tree leaf machine memories streams m p q e = e ∙ ap (λ l. task_tree machine l streams) p ∙ ap (λ l. task_tree machine leaf.memories.items l) q

-- ---- the module of a body

pub module_at : (program : Program) (machines : List Fsm) (b : ℕ) (leaf : Leaf) (machine : Fsm) → slice_get program.bodies.items b ≡ Some leaf → slice_get machines b ≡ Some machine
    → leaf_module (slice_get program.bodies.items b) (slice_get machines b) ≡ task_tree machine leaf.memories.items leaf.streams.items ∷ []
module_at program machines b leaf machine p q = ap (λ o. leaf_module o (slice_get machines b)) p ∙ ap (machine_module leaf) q

pub no_machine_at : (program : Program) (machines : List Fsm) (b : ℕ) (leaf : Leaf) → slice_get program.bodies.items b ≡ Some leaf → slice_get machines b ≡ None → leaf_module (slice_get program.bodies.items b) (slice_get machines b) ≡ []
no_machine_at program machines b leaf p q = ap (λ o. leaf_module o (slice_get machines b)) p ∙ ap (machine_module leaf) q

pub no_body_at : (program : Program) (machines : List Fsm) (b : ℕ) → slice_get program.bodies.items b ≡ None → leaf_module (slice_get program.bodies.items b) (slice_get machines b) ≡ []
no_body_at program machines b p = ap (λ o. leaf_module o (slice_get machines b)) p

-- the module of a used body
pub used_grows : (program : Program) (machines : List Fsm) (b : ℕ) (ms all : List ModuleTree) → is_used program b ≡ true → all ≡ ms ++ leaf_module (slice_get program.bodies.items b) (slice_get machines b) → all ≡ ms ++ used_module program machines b
used_grows program machines b ms all used grown = grown ∙ sym (ap (λ t. ms ++ cond t (leaf_module (slice_get program.bodies.items b) (slice_get machines b)) []) used)

pub unused_stays : (program : Program) (machines : List Fsm) (b : ℕ) (ms : List ModuleTree) → is_used program b ≡ false → ms ≡ ms ++ used_module program machines b
unused_stays program machines b ms unused = sym (append-nil ms) ∙ sym (ap (λ t. ms ++ cond t (leaf_module (slice_get program.bodies.items b) (slice_get machines b)) []) unused)

-- ---- its promise

pub kept_at : (program : Program) (machines : List Fsm) (b : ℕ) (leaf : Leaf) (machine : Fsm) → slice_get program.bodies.items b ≡ Some leaf → slice_get machines b ≡ Some machine
    → KeepsPromise leaf machine (task_tree machine leaf.memories.items leaf.streams.items) → IsKept program machines b
kept_at program machines b leaf machine p q k = record {
  promise = λ l m r s used.
      let same : leaf ≡ l = cc in
      let also : machine ≡ m = cc in
      subst (λ (z : Leaf). KeepsPromise z m (task_tree m z.memories.items z.streams.items)) same (subst (λ (z : Fsm). KeepsPromise leaf z (task_tree z leaf.memories.items leaf.streams.items)) also k);
}

pub no_machine_kept : (program : Program) (machines : List Fsm) (b : ℕ) → slice_get machines b ≡ None → IsKept program machines b
no_machine_kept program machines b q = record { promise = λ l m r s used. absurd (cc) }

pub no_body_kept : (program : Program) (machines : List Fsm) (b : ℕ) → slice_get program.bodies.items b ≡ None → IsKept program machines b
no_body_kept program machines b q = record { promise = λ l m r s used. absurd (cc) }

pub unused_kept : (program : Program) (machines : List Fsm) (b : ℕ) → is_used program b ≡ false → IsKept program machines b
unused_kept program machines b unused = record { promise = λ l m r s used. absurd (cc) }

-- ---- each body has its machine

named_leaf : (program : Program) → AreWritten (task_names program) → (b : ℕ) (leaf : Leaf) → slice_get program.bodies.items b ≡ Some leaf → list_all goes_on leaf.name ≡ true
named_leaf program written b leaf at =
    label_goes_on leaf.name (written (suc b) leaf.name (slice_get-map (λ (l : Leaf). l.name) program.bodies.items b ∙ ap (λ o. option_map (λ (l : Leaf). l.name) o) at)).0

pub of_bodies : (program : Program) (machines : List Fsm) → IsWellFormed program → AreWritten (task_names program) → AreMachinesOf program machines → (b : ℕ) → IsOfBody program machines b
of_bodies program machines well written are b = record {
  of_leaf = λ leaf machine p q.
      let lowered = are.each b leaf machine p q in
      record {
        well_formed = well.leaves b leaf p;
        lowered = lowered;
        own_memories = refl;
        own_streams = refl;
        named = ap (λ (x : Name). list_all goes_on x) lowered.name ∙ named_leaf program written b leaf p;
      };
}

-- ---- all bodies

pub all_kept : (program : Program) (machines : List Fsm) (n : ℕ) → n ≡ length program.bodies.items → ((b : ℕ) → b < n → IsKept program machines b) → (b : ℕ) → IsKept program machines b
all_kept program machines n h kept b = record {
  promise = λ leaf machine p q used. let inside : b < length program.bodies.items = slice_get_within program.bodies.items b leaf p in (kept b (omega arith)).promise leaf machine p q used;
}
