-- The modules of the used leaf tasks.
use Rattle.std.proofs.Common.{◌≡◌, ℕ, zero, suc, Bool, true, false, cond, List, [], ◌∷◌, length, drop, Option, Some, None, inl, inr, refl, sym, ap, subst, ◌∙◌, arith}
use Rattle.std.specs.Prelude.{map, option_map, slice_get}
use Rattle.std.proofs.lemmas.Option.{slice_get-map}
use Rattle.tapa_syntax.specs.declared.program.Leaf.{Leaf}
use Rattle.tapa_syntax.specs.declared.program.Program.{Program}
use Rattle.task_fsm.specs.declared.machine.Fsm.{Fsm}
use Rattle.vlog_tree.specs.Form.{ModuleTree}
use Rattle.tapa_base.specs.Lists.{Has}
use Rattle.vlog_tree.specs.Table.{Name}
use Rattle.hw_build.specs.Elements.{empty}
use Rattle.hw_build.proofs.Tables.{name_of_all}
use Rattle.hw_build.proofs.Parts.{has_each, of_each}
use Rattle.hw_channel_laws.proofs.modules.Together.{AreApart}
use Rattle.hw_lines.specs.Shape.{shape_of}
use Rattle.hw_lines.specs.Texts.{task_name, task_elements}
use Rattle.hw_top_lines.specs.Designs.{machine_module, leaf_module, is_used, used_module, task_modules}
use Rattle.hw_top_lines.specs.Legal.{AreMachinesOf}
use Rattle.tapa_syntax.specs.OwnNames.{HasOwnNames}
use Rattle.hw_top_laws.specs.modules.Lower.{task_module}
use Rattle.hw_top_laws.proofs.modules.Added.{apart_each}
use Rattle.tapa_base.proofs.Got.{got_low as some_index}

-- the name of a leaf task's module
pub title : (leaf : Leaf) (machine : Fsm) → (task_module leaf machine).name ≡ task_name machine.name
title leaf machine = name_of_all (task_elements (shape_of machine leaf.memories.items leaf.streams.items)) (empty (task_name machine.name))

pub same_titles : (x y : Name) → task_name x ≡ task_name y → x ≡ y
same_titles x y e = ap (drop 2) e

module _ (program : Program) (own : HasOwnNames program) (machines : List Fsm) (lowered : AreMachinesOf program machines) where
  pub record IsTask (m : ModuleTree) : Type 0 where
    pub number : ℕ
    pub leaf : Leaf
    pub machine : Fsm
    pub got_leaf : slice_get program.bodies.items number ≡ Some leaf
    pub got_machine : slice_get machines number ≡ Some machine
    pub used : is_used program number ≡ true
    pub is : task_module leaf machine ≡ m

  number_is : (b : ℕ) (m : ModuleTree) → Has (used_module program machines b) m → (t : IsTask m) × (t.number ≡ b)
  number_is b m h = here (is_used program b) refl (slice_get program.bodies.items b) refl (slice_get machines b) refl h where
    here : (u : Bool) → is_used program b ≡ u → (o : Option Leaf) → slice_get program.bodies.items b ≡ o → (p : Option Fsm) → slice_get machines b ≡ p → Has (cond u (leaf_module o p) []) m → (t : IsTask m) × (t.number ≡ b)
    here false e o f p g k = absurd k
    here true e None f p g k = absurd k
    here true e (Some leaf) f None g k = absurd k
    here true e (Some leaf) f (Some machine) g (inl s) = (record { number = b; leaf = leaf; machine = machine; got_leaf = f; got_machine = g; used = e; is = s }, refl)
    here true e (Some leaf) f (Some machine) g (inr n) = absurd n

  pub in_tasks : (m : ModuleTree) → Has (task_modules program machines) m → IsTask m
  in_tasks m h =
      let r = of_each (used_module program machines) (length program.bodies.items) m h in
      (number_is r.0 m r.2).0

  pub has_task : (b : ℕ) (leaf : Leaf) (machine : Fsm) → slice_get program.bodies.items b ≡ Some leaf → slice_get machines b ≡ Some machine → is_used program b ≡ true → Has (task_modules program machines) (task_module leaf machine)
  has_task b leaf machine f g u =
      let same : used_module program machines b ≡ task_module leaf machine ∷ [] =
      ap (λ c. cond c (leaf_module (slice_get program.bodies.items b) (slice_get machines b)) []) u ∙ ap (λ o. leaf_module o (slice_get machines b)) f ∙ ap (machine_module leaf) g in
      has_each (used_module program machines) (length program.bodies.items) b (task_module leaf machine) (some_index program.bodies.items b leaf f) (subst (λ (l : List ModuleTree). Has l (task_module leaf machine)) (sym same) (inl refl))

  pub task_title : (m : ModuleTree) (t : IsTask m) → m.name ≡ task_name t.leaf.name
  task_title m t = ap (λ (z : ModuleTree). z.name) (sym t.is) ∙ title t.leaf t.machine ∙ ap task_name (lowered.each t.number t.leaf t.machine t.got_leaf t.got_machine).name

  name_at : (b : ℕ) (leaf : Leaf) → slice_get program.bodies.items b ≡ Some leaf → slice_get (map (λ (l : Leaf). l.name) program.bodies.items) b ≡ Some leaf.name
  name_at b leaf e = slice_get-map (λ (l : Leaf). l.name) program.bodies.items b ∙ ap (option_map (λ (l : Leaf). l.name)) e

  -- leaf tasks have names of their own
  told : (m n : ModuleTree) (t : IsTask m) (u : IsTask n) → m.name ≡ n.name → t.number ≡ u.number
  told m n t u e =
      let names : t.leaf.name ≡ u.leaf.name = same_titles t.leaf.name u.leaf.name (sym (task_title m t) ∙ e ∙ task_title n u) in
      let s : suc t.number ≡ suc u.number = own.tasks (suc t.number) (suc u.number) t.leaf.name (name_at t.number t.leaf t.got_leaf) (name_at u.number u.leaf u.got_leaf ∙ ap Some (sym names)) in
      omega (arith, s)

  -- and not the top's
  pub not_top : (m : ModuleTree) (t : IsTask m) → m.name ≡ task_name program.top → ⊥
  not_top m t e =
      let names : program.top ≡ t.leaf.name = same_titles program.top t.leaf.name (sym e ∙ task_title m t) in
      let s : zero ≡ suc t.number = own.tasks zero (suc t.number) t.leaf.name (ap Some names) (name_at t.number t.leaf t.got_leaf) in
      omega (arith, s)

  one_apart : (u : Bool) (o : Option Leaf) (p : Option Fsm) → AreApart (cond u (leaf_module o p) [])
  one_apart false o p = tt
  one_apart true None p = tt
  one_apart true (Some leaf) None = tt
  one_apart true (Some leaf) (Some machine) = (λ n h s. absurd h, tt)

  pub tasks_apart : AreApart (task_modules program machines)
  tasks_apart =
      apart_each (used_module program machines) (length program.bodies.items) (λ k l. one_apart (is_used program k) (slice_get program.bodies.items k) (slice_get machines k))
      (λ j k a b l m h i s. let t = number_is j a h in let u = number_is k b i in sym t.1 ∙ told a b t.0 u.0 s ∙ u.1)
