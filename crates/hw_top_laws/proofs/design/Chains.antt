-- Which module of a circuit contains which: a channel's modules contain those behind them, tasks contain none, and the top
-- contains some of both.
use Rattle.std.proofs.Common.{◌≡◌, ℕ, ◌<◌, List, [], ◌∷◌, Some, inl, inr, refl, sym, ap, subst, ◌∙◌, arith, ⊎_elim}
use Rattle.std.specs.Prelude.{◌⊎◌, slice_get, slice_index}
use Rattle.tapa_syntax.specs.declared.program.Program.{Program}
use Rattle.tapa_syntax.specs.declared.program.Stream.{Stream}
use Rattle.task_fsm.specs.declared.machine.Fsm.{Fsm}
use Rattle.vlog_tree.specs.Form.{ModuleTree}
use Rattle.tapa_base.specs.Lists.{Has, Chain, one, more}
use Rattle.vlog_tree.specs.Loops.{Reaches, containment, own_containment}
use Rattle.vlog_tree.specs.Table.{Name, module_named}
use Rattle.vlog_tree.specs.V6.{module_children}
use Rattle.tapa_base.proofs.Lists.{has_left, has_right, has_split, of_flat, of_map}
use Rattle.vlog_module_laws.proofs.Larger.{right_has_instances}
use Rattle.vlog_run_laws.proofs.runs.Alone.{module_is, module_there}
use Rattle.hw_build.specs.Elements.{empty}
use Rattle.hw_build.proofs.Tables.{name_of_all}
use Rattle.hw_channel_laws.proofs.modules.Together.{AreApart, finds, modules_apart, modules_later, level_in, lower_level}
use Rattle.hw_lines.specs.Texts.{task_name}
use Rattle.hw_top_lines.specs.Channels.{channel_modules}
use Rattle.hw_top_lines.specs.Designs.{design_tree}
use Rattle.hw_top_lines.specs.Legal.{IsReady}
use Rattle.hw_top_lines.specs.Texts.{token_bits, top_elements, top_tree}
use Rattle.hw_top_laws.specs.modules.Lower.{lower_modules, KeepPromises}
use Rattle.hw_top_laws.proofs.modules.Added.{apart_append, apart_one}
use Rattle.hw_top_laws.proofs.modules.Channels.{sizes, channel_are}
use Rattle.hw_top_laws.proofs.modules.Lower.{one_of, apart, stream_has, no_top}
use Rattle.hw_top_laws.proofs.modules.Tasks.{IsTask}
use Rattle.hw_top_laws.proofs.form.Whole.{tops_are_right}
use Rattle.hw_top_laws.proofs.design.Kept.{same_module}
use Rattle.vlog_run_laws.proofs.loops.Climbed.{instance_in as child_instance}

-- a module of a name
abbrev pub IsNamed : List ModuleTree → Name → Type 0
IsNamed ms x = (n : ModuleTree) × Has ms n × (n.name ≡ x)

module _ (program : Program) (machines : List Fsm) (added : List ℕ) (ready : IsReady program machines added) (kept : KeepPromises program machines) where
  abbrev lower : List ModuleTree
  lower = lower_modules program machines added

  abbrev tree : ModuleTree
  tree = top_tree program added

  abbrev all : List ModuleTree
  all = design_tree program machines added

  pub top_title : tree.name ≡ task_name program.top
  top_title = name_of_all (top_elements program added) (empty (task_name program.top))

  pub lower_there : (m : ModuleTree) → Has lower m → Has all m
  lower_there m h = has_left lower (tree ∷ []) m h

  pub top_there : Has all tree
  top_there = has_right lower (tree ∷ []) tree (inl refl)

  not_top : (m : ModuleTree) → Has lower m → m.name ≡ tree.name → ⊥
  not_top m h e = no_top program machines added ready kept m h (e ∙ top_title)

  pub all_apart : AreApart all
  all_apart = apart_append lower (tree ∷ []) (apart program machines added ready kept) (apart_one tree) below where
    below : (m n : ModuleTree) → Has lower m → Has (tree ∷ []) n → m.name ≡ n.name → ⊥
    below m n h (inl s) e = not_top m h (e ∙ ap (λ (q : ModuleTree). q.name) (sym s))
    below m n h (inr z) e = absurd z

  pub one_module : (m n : ModuleTree) → Has all m → Has all n → m.name ≡ n.name → m ≡ n
  one_module m n h k e = same_module m n (sym (finds all all_apart m h) ∙ ap (module_named all) e ∙ finds all all_apart n k)

  record IsEdge (x y : Name) : Type 0 where
    from : ModuleTree
    there : Has all from
    name : from.name ≡ x
    child : Has (module_children from) y

  edge_of : (x y : Name) → Has (containment all) (x, y) → IsEdge x y
  unfolding own_containment
  edge_of x y e =
      let t = of_flat own_containment all (x, y) e in
      let c = of_map (λ k. (t.0.name, k)) (module_children t.0) (x, y) t.2 in
      record {
        from = t.0;
        there = t.1;
        name = ap (λ (q : Name × Name). q.0) c.2;
        child = subst (λ k. Has (module_children t.0) k) (ap (λ (q : Name × Name). q.1) c.2) c.1;
      }

  child_of : (m : ModuleTree) → Has all m → (x y : Name) → m.name ≡ x → Has (containment all) (x, y) → Has (module_children m) y
  child_of m h x y n e =
      let t = edge_of x y e in
      subst (λ (q : ModuleTree). Has (module_children q) y) (one_module t.from m t.there h (t.name ∙ sym n)) t.child

  abbrev Leads : Name → Name → Type 0
  Leads a b = Chain (λ x y. Has (containment all) (x, y)) a b

  record Begins (a : Name) : Type 0 where
    next : Name
    edge : Has (containment all) (a, next)

  begins : {a b : Name} → Leads a b → Begins a
  begins (one {a = a} {b = b} e) = record { next = b; edge = e }
  begins (more {a = a} {c = c} b e k) = record { next = b; edge = e }

  -- ---- the modules of a channel

  module _ (s : ℕ) (r : Stream) (got : slice_get program.streams.items s ≡ Some r) where
    abbrev pub own : List ModuleTree
    own = channel_modules (token_bits r.kind) r.depth (slice_index added s)

    pub own_there : (m : ModuleTree) → Has own m → Has lower m
    own_there m h = stream_has program machines added ready kept s r got m h

    own_apart : AreApart own
    own_apart =
        let z = sizes program ready.well_formed added ready.short s r got in
        let most = z.most in
        let short = z.late in
        modules_apart (token_bits r.kind) r.depth (slice_index added s) own (channel_are (token_bits r.kind) r.depth (slice_index added s)) (omega (arith, most)) (omega (arith, short))

    pub own_child : (m : ModuleTree) → Has own m → (y : Name) → Has (module_children m) y → (level_in own y < level_in own m.name) × IsNamed own y
    own_child m h y k = lower_level own own_apart (modules_later (token_bits r.kind) r.depth (slice_index added s) own (channel_are (token_bits r.kind) r.depth (slice_index added s))) m h y k

    chain_falls : {a b : Name} → Leads a b → (m : ModuleTree) → Has own m → m.name ≡ a → (level_in own b < level_in own a) × IsNamed own b
    chain_falls (one {a = a} {b = b} e) m h n =
        let t = own_child m h b (child_of m (lower_there m (own_there m h)) a b n e) in
        (subst (λ z. level_in own b < level_in own z) n t.0, t.1)
    chain_falls (more {a = a} {c = c} b e k) m h n =
        let t = own_child m h b (child_of m (lower_there m (own_there m h)) a b n e) in
        let next : IsNamed own b = t.1 in
        let rest = chain_falls k next.0 next.1 next.2 in
        let first : level_in own b < level_in own a = subst (λ z. level_in own b < level_in own z) n t.0 in
        let second : level_in own c < level_in own b = rest.0 in
        (omega (arith, first, second), rest.1)

  -- ---- all modules

  -- a task contains none
  pub task_alone : (m : ModuleTree) → IsTask program ready.told_apart machines ready.lowered m → (y : Name) → Has (module_children m) y → ⊥
  task_alone m t y h =
      let none : module_children m ≡ [] = ap module_children (sym t.is) ∙ (kept t.number t.leaf t.machine t.got_leaf t.got_machine t.used).childless in
      subst (λ (l : List Name). Has l y) none h

  task_connections : {a b : Name} → Leads a b → (m : ModuleTree) → IsTask program ready.told_apart machines ready.lowered m → Has lower m → m.name ≡ a → ⊥
  task_connections {a} {b} k m t h n = let e = begins k in task_alone m t e.next (child_of m (lower_there m h) a e.next n e.edge)

  lower_chain : {a b : Name} → Leads a b → (m : ModuleTree) → Has lower m → m.name ≡ a → IsNamed lower b
  lower_chain {a} {b} k m h n =
      ⊎_elim
      (λ l.
      let t : IsNamed (own l.number l.stream l.got) b = (chain_falls l.number l.stream l.got k m l.has n).1 in
      (t.0, own_there l.number l.stream l.got t.0 t.1, t.2)) (λ t. absurd (task_connections k m t h n)) (one_of program machines added ready kept m h)

  -- what the top contains stands below it
  pub top_child : (y : Name) → Has (module_children tree) y → IsNamed lower y
  top_child y h =
      let i = child_instance tree y h in
      let k = module_there lower y (right_has_instances lower tree (tops_are_right program machines added ready kept) y i.0 i.1) in
      let m = module_is lower y k.0 k.1 in
      (k.0, m.has, m.name)

  -- and what the others contain does so too
  pub lower_child : (m : ModuleTree) → Has lower m → (y : Name) → Has (module_children m) y → IsNamed lower y
  lower_child m h y k =
      ⊎_elim
      (λ l.
      let t : IsNamed (own l.number l.stream l.got) y = (own_child l.number l.stream l.got m l.has y k).1 in
      (t.0, own_there l.number l.stream l.got t.0 t.1, t.2)) (λ t. absurd (task_alone m t y k)) (one_of program machines added ready kept m h)

  lower_no_loop : (m : ModuleTree) → Has lower m → (a : Name) → m.name ≡ a → Leads a a → ⊥
  lower_no_loop m h a n k =
      ⊎_elim
      (λ l.
      let low : level_in (own l.number l.stream l.got) a < level_in (own l.number l.stream l.got) a = (chain_falls l.number l.stream l.got k m l.has n).0 in
      absurd (omega (arith, low))) (λ t. task_connections k m t h n) (one_of program machines added ready kept m h)

  top_leads : {a b : Name} → Leads a b → tree.name ≡ a → IsNamed lower b
  top_leads (one {a = a} {b = b} e) n = top_child b (child_of tree top_there a b n e)
  top_leads (more {a = a} {c = c} b e k) n = let t : IsNamed lower b = top_child b (child_of tree top_there a b n e) in lower_chain k t.0 t.1 t.2

  -- no module contains itself
  pub no_cycle : (a : Name) → Reaches (containment all) a a → ⊥
  no_cycle a k = let e = begins k in let t = edge_of a e.next e.edge in at t.from (has_split lower (tree ∷ []) t.from t.there) t.name where
    at : (m : ModuleTree) → Has lower m ⊎ Has (tree ∷ []) m → m.name ≡ a → ⊥
    at m (inl l) n = lower_no_loop m l a n k
    at m (inr (inl s)) n =
        let title : tree.name ≡ a = ap (λ (q : ModuleTree). q.name) s ∙ n in
        let t : IsNamed lower a = top_leads k title in
        not_top t.0 t.1 (t.2 ∙ sym title)
    at m (inr (inr z)) n = absurd z
