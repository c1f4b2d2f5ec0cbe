-- Each leaf instance that a task is made of is bound at a parameter that may be stored to only to a memory of the top task
-- that may be.
use Rattle.std.proofs.Common.{◌≡◌, ◌+◌, ℕ, zero, suc, List, [], ◌∷◌, ◌++◌, length, Bool, true, not, ◌||◌, Some, refl, sym, ap, subst, ◌∙◌}
use Rattle.std.specs.Prelude.{slice_get, slice_index}
use Rattle.std.proofs.lemmas.Option.{get_or_from_slice_get}
use Rattle.tapa_base.specs.declared.kind.Kind.{Kind}
use Rattle.tapa_base.specs.declared.text.Place.{Place}
use Rattle.tapa_syntax.specs.declared.tree.Parameter.{Parameter}
use Rattle.tapa_syntax.specs.declared.tree.Parameter.TheVariants as parameter
use Rattle.tapa_syntax.specs.Flat.{FlatInstance, FlatLeaf}
use Rattle.check_upper.specs.declared.task.Channel.{Channel}
use Rattle.check_upper.specs.declared.task.Binding.{Binding}
use Rattle.check_upper.specs.declared.task.Binding.TheVariants.{OwnStream, StreamParameter, MemoryParameter, ScalarParameter, Constant}
use Rattle.check_upper.specs.Tasks.{Invocation, Body, leaf_body, upper_body, Task}
use Rattle.stream_check.specs.Parts.{Part, own, instance, too_deep, streams_in, instances_in, below, instance_name, name_of, bind, bind_all, unbound, invoked, own_parts, Expands}
use Rattle.stream_check.specs.Parts.{chain_parts, body_of, body_parts, deepest_parts, parts_of}
use Rattle.stream_check.proofs.WellLists.{Each, each_append, each_get, Pairs, pairs_left, pairs_push}
use Rattle.stream_check.proofs.WellPorts.{Ports, ports_of}
use Rattle.stream_check.proofs.WellUppers.{StreamBinding, MemoryBinding, ScalarBinding, BindingFits, InvocationFits}
use Rattle.stream_check.proofs.WellTasks.{BodyFits, TaskFits}
use Rattle.stream_check.proofs.WellParts.{bind_bodies}
use Rattle.tapa_laws.proofs.memories.Flags.{with_free, with_frees, frees_of, IsFree}
use Rattle.tapa_laws.proofs.memories.Uppers.{PassesFree, BindingKeeps, BindingsKeep, InvocationKeeps}
use Rattle.tapa_laws.proofs.memories.Tasks.{BodyKeeps, TaskKeeps}

-- memory m of the top task, whose flags are w, at a parameter with this flag
abbrev pub MemoryKeeps : List Bool → ℕ → Bool → Type 0
MemoryKeeps w m free = free ≡ true → IsFree w m

-- the memories of an instance, at parameters with these flags
abbrev pub InstanceKeeps : List Bool → FlatInstance → List Bool → Type 0
InstanceKeeps w y q = Pairs (MemoryKeeps w) y.memories q

-- ---- one argument

module _ (w : List Bool) (x : FlatInstance) (first : ℕ) (q : List Bool) (ports : Ports) (c : List Channel) (fx : InstanceKeeps w x q) where
  bind_stream : (y : FlatInstance) (r : List Bool) (k : Kind) (l : Binding) → InstanceKeeps w y r → StreamBinding ports c k l → InstanceKeeps w (bind x first y l) r
  bind_stream y r k (OwnStream n) f h = f
  bind_stream y r k (StreamParameter n) f h = f
  bind_stream y r k (MemoryParameter n) f h = absurd h
  bind_stream y r k (ScalarParameter n from to) f h = absurd h
  bind_stream y r k (Constant n) f h = absurd h

  bind_scalar : (y : FlatInstance) (r : List Bool) (k : Kind) (l : Binding) → InstanceKeeps w y r → ScalarBinding ports k l → InstanceKeeps w (bind x first y l) r
  bind_scalar y r k (ScalarParameter n from to) f h = f
  bind_scalar y r k (Constant n) f h = f
  bind_scalar y r k (OwnStream n) f h = absurd h
  bind_scalar y r k (StreamParameter n) f h = absurd h
  bind_scalar y r k (MemoryParameter n) f h = absurd h

  passed_free : (n : ℕ) → IsFree q n → IsFree w (slice_index x.memories n)
  passed_free n a =
      let p = pairs_left (MemoryKeeps w) x.memories q n true fx a in
      let i : slice_index x.memories n ≡ p.0 = get_or_from_slice_get x.memories n p.0 0 p.1 in
      subst (IsFree w) (sym i) (p.2 refl)

  bind_memory : (y : FlatInstance) (r : List Bool) (constant : Bool) (k : Kind) (l : Binding) → InstanceKeeps w y r → MemoryBinding ports k l → PassesFree q constant l
      → InstanceKeeps w (bind x first y l) (r ++ not constant ∷ [])
  bind_memory y r constant k (MemoryParameter n) f h g = pairs_push (MemoryKeeps w) y.memories r (slice_index x.memories n) (not constant) f (λ e. passed_free n (g e))
  bind_memory y r constant k (OwnStream n) f h g = absurd h
  bind_memory y r constant k (StreamParameter n) f h g = absurd h
  bind_memory y r constant k (ScalarParameter n from to) f h g = absurd h
  bind_memory y r constant k (Constant n) f h g = absurd h

  bind_one : (y : FlatInstance) (r : List Bool) (p : Parameter) (l : Binding) → InstanceKeeps w y r → BindingFits ports c p l → BindingKeeps q p l → InstanceKeeps w (bind x first y l) (with_free r p)
  bind_one y r (parameter.InputStream k z) l f h g = bind_stream y r k l f h
  bind_one y r (parameter.OutputStream k z) l f h g = bind_stream y r k l f h
  bind_one y r (parameter.Memory constant k z) l f h g = bind_memory y r constant k l f h g
  bind_one y r (parameter.Scalar constant k z) l f h g = bind_scalar y r k l f h

  bind_each : (y : FlatInstance) (r : List Bool) (ps : List Parameter) (ls : List Binding) → InstanceKeeps w y r → Pairs (BindingFits ports c) ps ls → BindingsKeep q ps ls
      → InstanceKeeps w (bind_all x first y ls) (with_frees r ps)
  bind_each y r [] [] f h g = f
  bind_each y r [] (l ∷ ls) f h g = absurd h
  bind_each y r (p ∷ ps) [] f h g = absurd h
  bind_each y r (p ∷ ps) (l ∷ ls) f (h, hs) (g, gs) = bind_each (bind x first y l) (with_free r p) ps ls (bind_one y r p l f h g) hs gs

-- ---- parts

instances_append : (xs ys : List Part) → instances_in (xs ++ ys) ≡ instances_in xs ++ instances_in ys
instances_append [] ys = refl
instances_append (own c ∷ xs) ys = instances_append xs ys
instances_append (instance at x ∷ xs) ys = ap (λ is. x ∷ is) (instances_append xs ys)
instances_append (too_deep at ∷ xs) ys = instances_append xs ys

own_instances : (label : List ℕ) (cs : List Channel) → instances_in (own_parts label cs) ≡ []
own_instances label [] = refl
own_instances label (c ∷ cs) = own_instances label cs

each_joined : (P : FlatInstance → Type 0) (xs ys : List Part) → Each P (instances_in xs) → Each P (instances_in ys) → Each P (instances_in (xs ++ ys))
each_joined P xs ys a b = subst (Each P) (sym (instances_append xs ys)) (each_append P (instances_in xs) (instances_in ys) a b)

-- a leaf instance with its task
pub record LeafKeeps (w : List Bool) (tasks : List Task) (y : FlatInstance) : Type 0 where
  pub task : Task
  pub there : slice_get tasks y.body ≡ Some task
  pub leaf : FlatLeaf
  pub is : task.body ≡ leaf_body leaf
  pub memories : InstanceKeeps w y (frees_of task.declared.parameters)

abbrev PartsKeep : List Bool → List Task → Expands → Type 0
PartsKeep w tasks expand =
    (at : Place) (y : FlatInstance) (m : ℕ) (t : Task) → slice_get tasks y.body ≡ Some t → InstanceKeeps w y (frees_of t.declared.parameters) → Each (LeafKeeps w tasks) (instances_in (expand at y m))

module _ (w : List Bool) (tasks : List Task) where
  chain_keeps : (expand : Expands) → PartsKeep w tasks expand → (x : FlatInstance) (first : ℕ) (q : List Bool) (ports : Ports) (c : List Channel) → InstanceKeeps w x q
      → (k n : ℕ) (is : List Invocation) → Each (InvocationFits tasks ports c) is → Each (InvocationKeeps tasks q) is
      → Each (LeafKeeps w tasks) (instances_in (chain_parts expand tasks x first k n is))
  chain_keeps expand keep x first q ports c fx k n [] h g = tt
  chain_keeps expand keep x first q ports c fx k n (i ∷ is) (h, hs) (g, gs) =
      let y = invoked tasks x first k i in
      let here = expand i.place (invoked tasks x first k i) n in
      let m = n + length (streams_in (expand i.place (invoked tasks x first k i) n)) in
      let more = chain_parts expand tasks x first (k + 1) (n + length (streams_in (expand i.place (invoked tasks x first k i) n))) is in
      let label = below x.label (instance_name (name_of (slice_get tasks i.task)) k) in
      let detached = x.detached || i.detached in
      let there : slice_get tasks y.body ≡ Some h.task = ap (slice_get tasks) (bind_bodies x first (unbound label i.task detached) i.bindings) ∙ h.there in
      let fy = bind_each w x first q ports c fx (unbound label i.task detached) [] h.task.declared.parameters i.bindings tt h.bindings (g h.task h.there) in
      each_joined (LeafKeeps w tasks) here more (keep i.place y n h.task there fy) (chain_keeps expand keep x first q ports c fx (k + 1) m is hs gs)

  body_keeps : (expand : Expands) → PartsKeep w tasks expand → (at : Place) (x : FlatInstance) (n : ℕ) (t : Task) (b : Body) → t.body ≡ b → slice_get tasks x.body ≡ Some t
      → InstanceKeeps w x (frees_of t.declared.parameters) → BodyFits tasks (ports_of t.declared.parameters) b → BodyKeeps tasks (frees_of t.declared.parameters) b
      → Each (LeafKeeps w tasks) (instances_in (body_parts expand tasks at x n (Some b)))
  body_keeps expand keep at x n t (leaf_body l) e a f h g = (record { task = t; there = a; leaf = l; is = e; memories = f }, tt)
  body_keeps expand keep at x n t (upper_body cs is) e a f h g =
      let own = own_parts x.label cs in
      let more = chain_parts expand tasks x n 0 (n + length (streams_in own)) is in
      each_joined (LeafKeeps w tasks) own more (subst (Each (LeafKeeps w tasks)) (sym (own_instances x.label cs)) tt)
      (chain_keeps expand keep x n (frees_of t.declared.parameters) (ports_of t.declared.parameters) cs f 0 (n + length (streams_in own)) is h.invocations g)

  deepest_keep : (at : Place) (x : FlatInstance) (t : Task) (b : Body) → t.body ≡ b → slice_get tasks x.body ≡ Some t → InstanceKeeps w x (frees_of t.declared.parameters)
      → Each (LeafKeeps w tasks) (instances_in (deepest_parts at x (Some b)))
  deepest_keep at x t (leaf_body l) e a f = (record { task = t; there = a; leaf = l; is = e; memories = f }, tt)
  deepest_keep at x t (upper_body cs is) e a f = tt

  pub parts_keep : Each (TaskFits tasks) tasks → Each (TaskKeeps tasks) tasks → (levels : ℕ) → PartsKeep w tasks (parts_of levels tasks)
  parts_keep fine kept zero at x n t a f = subst (λ o. Each (LeafKeeps w tasks) (instances_in (deepest_parts at x (body_of o)))) (sym a) (deepest_keep at x t t.body refl a f)
  parts_keep fine kept (suc levels) at x n t a f =
      subst (λ o. Each (LeafKeeps w tasks) (instances_in (body_parts (parts_of levels tasks) tasks at x n (body_of o)))) (sym a)
      (body_keeps (parts_of levels tasks) (parts_keep fine kept levels) at x n t t.body refl a f (each_get (TaskFits tasks) tasks x.body t fine a) (each_get (TaskKeeps tasks) tasks x.body t kept a))
