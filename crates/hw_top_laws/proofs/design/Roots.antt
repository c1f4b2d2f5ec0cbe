-- The top is the only module that stands in no other.
use Rattle.std.proofs.Common.{◌≡◌, ℕ, zero, suc, ◌≤◌, Bool, true, false, cond, eqb, ◌||◌, List, [], ◌∷◌, ◌++◌, Some, inl, inr, refl, sym, ap, subst, ◌∙◌, arith, ⊎_elim}
use Rattle.std.specs.Prelude.{◌⊎◌, bytes_eq, filter, slice_get, slice_index}
use Rattle.std.specs.List.{list_any, flat_map}
use Rattle.std.proofs.lemmas.Bool.{eqb-true, eq-eqb, ne_eqb}
use Rattle.tapa_syntax.specs.declared.program.Instance.{Instance}
use Rattle.tapa_syntax.specs.declared.program.Program.{Program}
use Rattle.task_fsm.specs.declared.machine.Fsm.{Fsm}
use Rattle.vlog_tree.specs.declared.tree.Connection.{Connection}
use Rattle.vlog_tree.specs.declared.tree.Item.{Item}
use Rattle.vlog_tree.specs.declared.tree.Item.TheVariants.{Instance as InstanceLine}
use Rattle.vlog_tree.specs.Form.{ModuleTree}
use Rattle.tapa_base.specs.Lists.{Has}
use Rattle.vlog_tree.specs.Table.{Name, times_in}
use Rattle.vlog_tree.specs.V6.{item_children, module_children, contained_names, roots}
use Rattle.tapa_base.proofs.Lists.{has_split, has_flat, of_flat}
use Rattle.vlog_module_laws.proofs.Lists.{counted}
use Rattle.hw_build.specs.Elements.{Element, Instance as InstanceElement, element_items, empty}
use Rattle.hw_build.proofs.Drivers.{times_has}
use Rattle.hw_build.proofs.Tables.{items_of_all}
use Rattle.hw_channel_lines.specs.Names.{channel_name}
use Rattle.hw_lines.specs.Texts.{task_name}
use Rattle.hw_top_lines.specs.Designs.{design_tree}
use Rattle.hw_top_lines.specs.Legal.{IsReady}
use Rattle.hw_top_lines.specs.Names.{task_instance, channel_instance}
use Rattle.hw_top_lines.specs.Texts.{token_bits, task_connections, channel_connections, top_elements, top_tree}
use Rattle.hw_top_laws.specs.modules.Lower.{lower_modules, KeepPromises}
use Rattle.hw_top_laws.proofs.modules.Channels.{IsOfStream, channel_are}
use Rattle.hw_top_laws.proofs.modules.Lower.{one_of, no_top}
use Rattle.hw_top_laws.proofs.modules.Tasks.{IsTask, task_title}
use Rattle.hw_top_laws.proofs.runs.Elements.{task_there, channel_there}
use Rattle.hw_top_laws.proofs.design.Chains.{IsNamed, top_title, lower_there, top_there, own_there, lower_child, top_child}
use Rattle.hw_top_laws.specs.design.Design.{TopsAreRoots}
use Rattle.hw_top_laws.proofs.design.Contained.{StandsIn, stands_in}
use Rattle.vlog_module_laws.proofs.Forms.{itself as same_name}

-- ---- lists

none_pass : (p : ModuleTree → Bool) (xs ys : List ModuleTree) → ((x : ModuleTree) → Has xs x → p x ≡ false) → filter p (xs ++ ys) ≡ filter p ys
none_pass p [] ys h = refl
none_pass p (x ∷ xs) ys h = ap (λ b. cond b (x ∷ filter p (xs ++ ys)) (filter p (xs ++ ys))) (h x (inl refl)) ∙ none_pass p xs ys (λ y k. h y (inr k))

-- one of a list that passes a test
record Passes {A : Type 0} (p : A → Bool) (xs : List A) : Type 0 where
  number : ℕ
  value : A
  got : slice_get xs number ≡ Some value
  passes : p value ≡ true

passes_by : {A : Type 0} (p : A → Bool) (x : A) (xs : List A) (b : Bool) → p x ≡ b → (list_any p xs ≡ true → Passes p xs) → (b || list_any p xs) ≡ true → Passes p (x ∷ xs)
passes_by p x xs true e f h = record { number = 0; value = x; got = refl; passes = e }
passes_by p x xs false e f h = let r = f h in record { number = suc r.number; value = r.value; got = r.got; passes = r.passes }

some_passes : {A : Type 0} (p : A → Bool) (xs : List A) → list_any p xs ≡ true → Passes p xs
some_passes p [] h = cc
some_passes p (x ∷ xs) h = passes_by p x xs (p x) refl (some_passes p xs) h

-- ---- the instances of the top

module _ (program : Program) (added : List ℕ) where
  abbrev top : List Element
  top = top_elements program added

  -- the module of an instance stands in the top
  top_has : (k i : Name) (ls : List Connection) → Has top (InstanceElement k i ls) → Has (module_children (top_tree program added)) k
  unfolding module_children
  top_has k i ls h =
      let line = InstanceLine k i ls in
      let there : Has (flat_map element_items top) line = has_flat element_items top (InstanceElement k i ls) line h (inl refl) in
      has_flat item_children (top_tree program added).items line k (subst (λ (l : List Item). Has l line) (sym (items_of_all top (empty (task_name program.top)))) there) (inl refl)

module _ (program : Program) (machines : List Fsm) (added : List ℕ) (ready : IsReady program machines added) (kept : KeepPromises program machines) where
  abbrev lower : List ModuleTree
  lower = lower_modules program machines added

  abbrev tree : ModuleTree
  tree = top_tree program added

  abbrev all : List ModuleTree
  all = design_tree program machines added

  -- ---- the modules below the top stand in others

  task_stands : (m : ModuleTree) → IsTask program ready.told_apart machines ready.lowered m → Has (module_children tree) m.name
  task_stands m t =
      let u = some_passes (λ (x : Instance). eqb x.body t.number) program.instances.items t.used in
      let body : slice_get program.bodies.items u.value.body ≡ Some t.leaf = ap (λ n. slice_get program.bodies.items n) (eqb-true u.value.body t.number u.passes) ∙ t.got_leaf in
      let here : Has (module_children tree) (task_name t.leaf.name) =
      top_has program added (task_name t.leaf.name) (task_instance u.value.label) (task_connections program u.number u.value t.leaf) (task_there program added u.number u.value t.leaf u.got body) in
      subst (λ z. Has (module_children tree) z) (sym (task_title program ready.told_apart machines ready.lowered m t)) here

  stream_stands : (m : ModuleTree) → IsOfStream program ready.well_formed added ready.short m → StandsIn all m.name
  stream_stands m l =
      let r = l.stream in
      let late = slice_index added l.number in
      let c = channel_name (token_bits r.kind) r.depth late in
      ⊎_elim
      (λ e. (
        tree,
        top_there program machines added ready kept,
        subst (λ z. Has (module_children tree) z) (sym e) (top_has program added c (channel_instance r.label) (channel_connections r.label) (channel_there program added l.number r l.got)),
      ))
      (λ t. (t.0, lower_there program machines added ready kept t.0 (own_there program machines added ready kept l.number r l.got t.0 t.1), t.2))
      (stands_in (token_bits r.kind) r.depth late _ (channel_are (token_bits r.kind) r.depth late) m l.has)

  lower_stands : (m : ModuleTree) → Has lower m → StandsIn all m.name
  lower_stands m h =
      ⊎_elim (λ l. stream_stands m l) (λ t. (tree, top_there program machines added ready kept, task_stands m t)) (one_of program machines added ready kept m h)

  abbrev contained : List Name
  contained = contained_names all

  some_stand : (m : ModuleTree) → Has lower m → eqb (times_in contained m.name) 0 ≡ false
  some_stand m h =
      let t = lower_stands m h in
      let some : 1 ≤ times_in contained m.name = counted (λ z. bytes_eq z m.name) contained m.name (has_flat module_children all t.0 m.name t.1 t.2) (same_name m.name) in
      ne_eqb (times_in contained m.name) 0 (λ e. omega (arith, some, e))

  -- ---- the top stands in none

  named_top : IsNamed lower tree.name → ⊥
  named_top t = no_top program machines added ready kept t.0 t.1 (t.2 ∙ top_title program machines added ready kept)

  in_none : (k : ModuleTree) → Has lower k ⊎ Has (tree ∷ []) k → Has (module_children k) tree.name → ⊥
  in_none k (inl l) h = named_top (lower_child program machines added ready kept k l tree.name h)
  in_none k (inr (inl s)) h = named_top (top_child program machines added ready kept tree.name (subst (λ q. Has (module_children q) tree.name) (sym s) h))
  in_none k (inr (inr z)) h = absurd z

  none_stands : (n : ℕ) → times_in contained tree.name ≡ n → eqb (times_in contained tree.name) 0 ≡ true
  none_stands zero e = eq-eqb (times_in contained tree.name) 0 e
  none_stands (suc n) e =
      let t = of_flat module_children all tree.name (times_has contained tree.name (omega (arith, e))) in
      absurd (in_none t.0 (has_split lower (tree ∷ []) t.0 t.1) t.2)

  pub one_root : roots all ≡ tree ∷ []
  one_root =
      none_pass (λ (m : ModuleTree). eqb (times_in contained m.name) 0) lower (tree ∷ []) some_stand
      ∙ ap (λ b. cond b (tree ∷ []) []) (none_stands (times_in contained tree.name) refl)

pub tops_are_roots : TopsAreRoots
tops_are_roots program machines added ready kept = one_root program machines added ready kept
