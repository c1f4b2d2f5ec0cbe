-- Each instance that a task is made of is bound to streams, memories and scalars of the kinds of its leaf's ports.
use Rattle.std.proofs.Common.{◌≡◌, ◌<◌, ◌+◌, ◌%◌, ℕ, zero, suc, List, [], ◌∷◌, ◌++◌, length, map, Bool, true, false, ◌||◌, Some, None, refl, sym, ap, subst, ◌∙◌}
use Rattle.std.specs.Prelude.{Option, slice_get, slice_index, if◌then◌else◌}
use Rattle.std.proofs.lemmas.Option.{get_or_from_slice_get}
use Rattle.tapa_base.specs.declared.kind.Kind.{Kind}
use Rattle.tapa_base.specs.declared.text.Place.{Place}
use Rattle.tapa_base.specs.Kinds.{values_of}
use Rattle.tapa_syntax.specs.declared.program.End.{End}
use Rattle.tapa_syntax.specs.declared.tree.Parameter.{Parameter}
use Rattle.tapa_syntax.specs.declared.tree.Parameter.TheVariants as parameter
use Rattle.tapa_syntax.specs.Flat.{FlatBound, number, top_scalar, FlatInstance, FlatLeaf}
use Rattle.tapa_syntax.specs.WellFormed.{last_kind}
use Rattle.check_expression.specs.Kinds.{same_kind}
use Rattle.tapa_syntax.proofs.Values.{converted_fits}
use Rattle.check_upper.specs.declared.task.Channel.{Channel}
use Rattle.check_upper.specs.declared.task.Binding.{Binding}
use Rattle.check_upper.specs.declared.task.Binding.TheVariants.{OwnStream, StreamParameter, MemoryParameter, ScalarParameter, Constant}
use Rattle.check_upper.specs.Tasks.{Invocation, Body, leaf_body, upper_body, Task}
use Rattle.stream_check.specs.Parts as part
use Rattle.stream_check.specs.Parts.{Part, own, instance, too_deep, streams_in, instances_in, below, instance_name, name_of, passed, bound_or_zero, bind, bind_all, unbound, invoked, labelled, own_parts, Expands, chain_parts, body_of, body_parts, deepest_parts, parts_of}
use Rattle.stream_check.proofs.WellLists.{Each, each_append, each_get, Contains, contains_left, contains_right, Pairs, pairs_left, pairs_push}
use Rattle.stream_check.proofs.WellPorts.{Ports, no_ports, end_of, with_stream, with_memory, with_scalar, with_port, with_ports, ports_of}
use Rattle.stream_check.proofs.WellUppers.{HasDepth, StreamBinding, MemoryBinding, ScalarBinding, BindingFits, InvocationFits}
use Rattle.stream_check.proofs.WellTasks.{BodyFits, TaskFits}
use Rattle.check_leaf.proofs.Conversions.{same_kinds as kinds_same}
use Rattle.tapa_base.proofs.Got.{got_map as get_map}

-- what is there to be bound
pub record Known : Type 0 where
  pub streams : List Channel
  pub memories : List Kind
  pub scalars : List Kind

abbrev pub IsStream : Known → ℕ → End → Type 0
IsStream w s e = (d : Channel) × (slice_get w.streams s ≡ Some d) × (d.kind ≡ e.kind)

abbrev pub IsMemory : Known → ℕ → Kind → Type 0
IsMemory w m k = slice_get w.memories m ≡ Some k

abbrev pub IsScalar : Known → FlatBound → Kind → Type 0
IsScalar w (number n) k = n < values_of k
IsScalar w (top_scalar x kinds) k = (j : Kind) × (slice_get w.scalars x ≡ Some j) × (last_kind j kinds ≡ k)

pub record Fits (w : Known) (y : FlatInstance) (q : Ports) : Type 0 where
  pub streams : Pairs (IsStream w) y.streams q.streams
  pub memories : Pairs (IsMemory w) y.memories q.memories
  pub scalars : Pairs (IsScalar w) y.scalars q.scalars

-- a task's own streams stand from the first on
abbrev pub StandAt : Known → ℕ → List Channel → Type 0
StandAt w first c = (n : ℕ) (d : Channel) → slice_get c n ≡ Some d → (e : Channel) × (slice_get w.streams (first + n) ≡ Some e) × (e.kind ≡ d.kind)

-- ---- one argument

push_stream : (w : Known) (y : FlatInstance) (r : Ports) (s : ℕ) (writes : Bool) (k : Kind) → Fits w y r → IsStream w s (end_of writes k) → Fits w (part.with_stream s y) (with_stream writes k r)
push_stream w y r s writes k f h = record { streams = pairs_push (IsStream w) y.streams r.streams s (end_of writes k) f.streams h; memories = f.memories; scalars = f.scalars }

push_memory : (w : Known) (y : FlatInstance) (r : Ports) (m : ℕ) (k : Kind) → Fits w y r → IsMemory w m k → Fits w (part.with_memory m y) (with_memory k r)
push_memory w y r m k f h = record { streams = f.streams; memories = pairs_push (IsMemory w) y.memories r.memories m k f.memories h; scalars = f.scalars }

push_scalar : (w : Known) (y : FlatInstance) (r : Ports) (b : FlatBound) (k : Kind) → Fits w y r → IsScalar w b k → Fits w (part.with_scalar b y) (with_scalar k r)
push_scalar w y r b k f h = record { streams = f.streams; memories = f.memories; scalars = pairs_push (IsScalar w) y.scalars r.scalars b k f.scalars h }

last_pushed : (j k : Kind) (kinds : List Kind) → last_kind j (kinds ++ k ∷ []) ≡ k
last_pushed j k [] = refl
last_pushed j k (i ∷ kinds) = last_pushed i k kinds

passed_by : (w : Known) (from to : Kind) (x : ℕ) (kinds : List Kind) (b : Bool) → same_kind from to ≡ b → IsScalar w (top_scalar x kinds) from → IsScalar w (top_scalar x (if b then kinds else kinds ++ to ∷ [])) to
passed_by w from to x kinds true e (j, a, l) = (j, a, l ∙ kinds_same from to e)
passed_by w from to x kinds false e (j, a, l) = (j, a, last_pushed j to kinds)

passed_fits : (w : Known) (from to : Kind) (b : FlatBound) → IsScalar w b from → IsScalar w (passed from to b) to
passed_fits w from to (number n) h = converted_fits from to (n % values_of from)
passed_fits w from to (top_scalar x kinds) h = passed_by w from to x kinds (same_kind from to) refl h

module _ (w : Known) (x : FlatInstance) (first : ℕ) (q : Ports) (c : List Channel) (fx : Fits w x q) (stand : StandAt w first c) where
  bind_stream : (y : FlatInstance) (r : Ports) (writes : Bool) (k : Kind) (l : Binding) → Fits w y r → StreamBinding q c k l → Fits w (bind x first y l) (with_stream writes k r)
  bind_stream y r writes k (OwnStream n) f (d, a, b) = let s = stand n d a in push_stream w y r (first + n) writes k f (s.0, s.1, s.2 ∙ b)
  bind_stream y r writes k (StreamParameter n) f (e, a, b) =
      let p = pairs_left (IsStream w) x.streams q.streams n e fx.streams a in
      let i : slice_index x.streams n ≡ p.0 = get_or_from_slice_get x.streams n p.0 0 p.1 in
      push_stream w y r (slice_index x.streams n) writes k f (subst (λ s. IsStream w s (end_of writes k)) (sym i) (p.2.0, p.2.1, p.2.2 ∙ b))
  bind_stream y r writes k (MemoryParameter n) f h = absurd h
  bind_stream y r writes k (ScalarParameter n from to) f h = absurd h
  bind_stream y r writes k (Constant n) f h = absurd h

  bind_memory : (y : FlatInstance) (r : Ports) (k : Kind) (l : Binding) → Fits w y r → MemoryBinding q k l → Fits w (bind x first y l) (with_memory k r)
  bind_memory y r k (MemoryParameter n) f h =
      let p = pairs_left (IsMemory w) x.memories q.memories n k fx.memories h in
      let i : slice_index x.memories n ≡ p.0 = get_or_from_slice_get x.memories n p.0 0 p.1 in
      push_memory w y r (slice_index x.memories n) k f (subst (λ m. IsMemory w m k) (sym i) p.2)
  bind_memory y r k (OwnStream n) f h = absurd h
  bind_memory y r k (StreamParameter n) f h = absurd h
  bind_memory y r k (ScalarParameter n from to) f h = absurd h
  bind_memory y r k (Constant n) f h = absurd h

  bind_scalar : (y : FlatInstance) (r : Ports) (k : Kind) (l : Binding) → Fits w y r → ScalarBinding q k l → Fits w (bind x first y l) (with_scalar k r)
  bind_scalar y r k (ScalarParameter n from to) f (a, e) =
      let p = pairs_left (IsScalar w) x.scalars q.scalars n from fx.scalars a in
      let b : bound_or_zero (slice_get x.scalars n) ≡ p.0 = ap bound_or_zero p.1 in
      push_scalar w y r (passed from to (bound_or_zero (slice_get x.scalars n))) k f
      (subst (λ j. IsScalar w (passed from to (bound_or_zero (slice_get x.scalars n))) j) e (subst (λ b. IsScalar w (passed from to b) to) (sym b) (passed_fits w from to p.0 p.2)))
  bind_scalar y r k (Constant n) f h = push_scalar w y r (number n) k f h
  bind_scalar y r k (OwnStream n) f h = absurd h
  bind_scalar y r k (StreamParameter n) f h = absurd h
  bind_scalar y r k (MemoryParameter n) f h = absurd h

  bind_one : (y : FlatInstance) (r : Ports) (p : Parameter) (l : Binding) → Fits w y r → BindingFits q c p l → Fits w (bind x first y l) (with_port r p)
  bind_one y r (parameter.InputStream k z) l f h = bind_stream y r false k l f h
  bind_one y r (parameter.OutputStream k z) l f h = bind_stream y r true k l f h
  bind_one y r (parameter.Memory constant k z) l f h = bind_memory y r k l f h
  bind_one y r (parameter.Scalar constant k z) l f h = bind_scalar y r k l f h

  bind_each : (y : FlatInstance) (r : Ports) (ps : List Parameter) (ls : List Binding) → Fits w y r → Pairs (BindingFits q c) ps ls → Fits w (bind_all x first y ls) (with_ports r ps)
  bind_each y r [] [] f h = f
  bind_each y r [] (l ∷ ls) f h = absurd h
  bind_each y r (p ∷ ps) [] f h = absurd h
  bind_each y r (p ∷ ps) (l ∷ ls) f (h, hs) = bind_each (bind x first y l) (with_port r p) ps ls (bind_one y r p l f h) hs

bind_body : (x : FlatInstance) (first : ℕ) (y : FlatInstance) (l : Binding) → (bind x first y l).body ≡ y.body
bind_body x first y (OwnStream n) = refl
bind_body x first y (StreamParameter n) = refl
bind_body x first y (MemoryParameter n) = refl
bind_body x first y (ScalarParameter n from to) = refl
bind_body x first y (Constant n) = refl

pub bind_bodies : (x : FlatInstance) (first : ℕ) (y : FlatInstance) (ls : List Binding) → (bind_all x first y ls).body ≡ y.body
bind_bodies x first y [] = refl
bind_bodies x first y (l ∷ ls) = bind_bodies x first (bind x first y l) ls ∙ bind_body x first y l

-- ---- parts

streams_append : (xs ys : List Part) → streams_in (xs ++ ys) ≡ streams_in xs ++ streams_in ys
streams_append [] ys = refl
streams_append (own c ∷ xs) ys = ap (λ cs. c ∷ cs) (streams_append xs ys)
streams_append (instance at x ∷ xs) ys = streams_append xs ys
streams_append (too_deep at ∷ xs) ys = streams_append xs ys

instances_append : (xs ys : List Part) → instances_in (xs ++ ys) ≡ instances_in xs ++ instances_in ys
instances_append [] ys = refl
instances_append (own c ∷ xs) ys = instances_append xs ys
instances_append (instance at x ∷ xs) ys = ap (λ is. x ∷ is) (instances_append xs ys)
instances_append (too_deep at ∷ xs) ys = instances_append xs ys

own_streams : (label : List ℕ) (cs : List Channel) → streams_in (own_parts label cs) ≡ map (labelled label) cs
own_streams label [] = refl
own_streams label (c ∷ cs) = ap (λ ds. labelled label c ∷ ds) (own_streams label cs)

own_instances : (label : List ℕ) (cs : List Channel) → instances_in (own_parts label cs) ≡ []
own_instances label [] = refl
own_instances label (c ∷ cs) = own_instances label cs

each_joined : (P : FlatInstance → Type 0) (xs ys : List Part) → Each P (instances_in xs) → Each P (instances_in ys) → Each P (instances_in (xs ++ ys))
each_joined P xs ys a b = subst (Each P) (sym (instances_append xs ys)) (each_append P (instances_in xs) (instances_in ys) a b)

own_stand : (w : Known) (n : ℕ) (label : List ℕ) (cs : List Channel) → Contains w.streams n (streams_in (own_parts label cs)) → StandAt w n cs
own_stand w n label cs h i d a = (labelled label d, h i (labelled label d) (subst (λ ds. slice_get ds i ≡ Some (labelled label d)) (sym (own_streams label cs)) (get_map (labelled label) cs i d a)), refl)

-- a leaf instance that fits
pub record InstanceIs (w : Known) (tasks : List Task) (y : FlatInstance) : Type 0 where
  pub task : Task
  pub there : slice_get tasks y.body ≡ Some task
  pub leaf : FlatLeaf
  pub is : task.body ≡ leaf_body leaf
  pub fits : Fits w y (ports_of task.declared.parameters)

abbrev PartsFit : Known → List Task → Expands → Type 0
PartsFit w tasks expand = (at : Place) (y : FlatInstance) (m : ℕ) (t : Task) → slice_get tasks y.body ≡ Some t → Fits w y (ports_of t.declared.parameters) → Contains w.streams m (streams_in (expand at y m)) → Each (InstanceIs w tasks) (instances_in (expand at y m))

module _ (w : Known) (tasks : List Task) where
  unbound_fits : (label : List ℕ) (task : ℕ) (detached : Bool) → Fits w (unbound label task detached) no_ports
  unbound_fits label task detached = record { streams = tt; memories = tt; scalars = tt }

  chain_fits : (expand : Expands) → PartsFit w tasks expand → (x : FlatInstance) (first : ℕ) (q : Ports) (c : List Channel) → Fits w x q → StandAt w first c → (k n : ℕ) (is : List Invocation) → Each (InvocationFits tasks q c) is → Contains w.streams n (streams_in (chain_parts expand tasks x first k n is)) → Each (InstanceIs w tasks) (instances_in (chain_parts expand tasks x first k n is))
  chain_fits expand fit x first q c fx stand k n [] h r = tt
  chain_fits expand fit x first q c fx stand k n (i ∷ is) (h, hs) r =
      let y = invoked tasks x first k i in
      let here = expand i.place (invoked tasks x first k i) n in
      let m = n + length (streams_in (expand i.place (invoked tasks x first k i) n)) in
      let more = chain_parts expand tasks x first (k + 1) (n + length (streams_in (expand i.place (invoked tasks x first k i) n))) is in
      let label = below x.label (instance_name (name_of (slice_get tasks i.task)) k) in
      let detached = x.detached || i.detached in
      let r' = subst (Contains w.streams n) (streams_append here more) r in
      let there : slice_get tasks y.body ≡ Some h.task = ap (slice_get tasks) (bind_bodies x first (unbound label i.task detached) i.bindings) ∙ h.there in
      let fy = bind_each w x first q c fx stand (unbound label i.task detached) no_ports h.task.declared.parameters i.bindings (unbound_fits label i.task detached) h.bindings in
      each_joined (InstanceIs w tasks) here more
      (fit i.place y n h.task there fy (contains_left w.streams n (streams_in here) (streams_in more) r'))
      (chain_fits expand fit x first q c fx stand (k + 1) m is hs (contains_right w.streams n (streams_in here) (streams_in more) r'))

  body_fits : (expand : Expands) → PartsFit w tasks expand → (at : Place) (x : FlatInstance) (n : ℕ) (t : Task) (b : Body) → t.body ≡ b → slice_get tasks x.body ≡ Some t → Fits w x (ports_of t.declared.parameters) → BodyFits tasks (ports_of t.declared.parameters) b → Contains w.streams n (streams_in (body_parts expand tasks at x n (Some b))) → Each (InstanceIs w tasks) (instances_in (body_parts expand tasks at x n (Some b)))
  body_fits expand fit at x n t (leaf_body l) e a f g r = (record { task = t; there = a; leaf = l; is = e; fits = f }, tt)
  body_fits expand fit at x n t (upper_body cs is) e a f g r =
      let own = own_parts x.label cs in
      let more = chain_parts expand tasks x n 0 (n + length (streams_in own)) is in
      let r' = subst (Contains w.streams n) (streams_append own more) r in
      let right = contains_right w.streams n (streams_in own) (streams_in more) r' in
      each_joined (InstanceIs w tasks) own more (subst (Each (InstanceIs w tasks)) (sym (own_instances x.label cs)) tt)
      (chain_fits expand fit x n (ports_of t.declared.parameters) cs f (own_stand w n x.label cs (contains_left w.streams n (streams_in own) (streams_in more) r')) 0 (n + length (streams_in own)) is g.invocations right)

  deepest_fit : (at : Place) (x : FlatInstance) (t : Task) (b : Body) → t.body ≡ b → slice_get tasks x.body ≡ Some t → Fits w x (ports_of t.declared.parameters) → Each (InstanceIs w tasks) (instances_in (deepest_parts at x (Some b)))
  deepest_fit at x t (leaf_body l) e a f = (record { task = t; there = a; leaf = l; is = e; fits = f }, tt)
  deepest_fit at x t (upper_body cs is) e a f = tt

  pub parts_fit : Each (TaskFits tasks) tasks → (levels : ℕ) → PartsFit w tasks (parts_of levels tasks)
  parts_fit fine zero at x n t a f r = subst (λ o. Each (InstanceIs w tasks) (instances_in (deepest_parts at x (body_of o)))) (sym a) (deepest_fit at x t t.body refl a f)
  parts_fit fine (suc levels) at x n t a f r =
      let r' = subst (λ o. Contains w.streams n (streams_in (body_parts (parts_of levels tasks) tasks at x n (body_of o)))) a r in
      subst (λ o. Each (InstanceIs w tasks) (instances_in (body_parts (parts_of levels tasks) tasks at x n (body_of o)))) (sym a)
      (body_fits (parts_of levels tasks) (parts_fit fine levels) at x n t t.body refl a f (each_get (TaskFits tasks) tasks x.body t fine a) r')

-- ---- depths

depths_joined : (xs ys : List Part) → Each HasDepth (streams_in xs) → Each HasDepth (streams_in ys) → Each HasDepth (streams_in (xs ++ ys))
depths_joined xs ys a b = subst (Each HasDepth) (sym (streams_append xs ys)) (each_append HasDepth (streams_in xs) (streams_in ys) a b)

own_depths : (label : List ℕ) (cs : List Channel) → Each HasDepth cs → Each HasDepth (streams_in (own_parts label cs))
own_depths label [] h = tt
own_depths label (c ∷ cs) (h, hs) = (h, own_depths label cs hs)

abbrev PartsDeep : Expands → Type 0
PartsDeep expand = (at : Place) (y : FlatInstance) (m : ℕ) → Each HasDepth (streams_in (expand at y m))

chain_depths : (expand : Expands) → PartsDeep expand → (tasks : List Task) (x : FlatInstance) (first k n : ℕ) (is : List Invocation) → Each HasDepth (streams_in (chain_parts expand tasks x first k n is))
chain_depths expand deep tasks x first k n [] = tt
chain_depths expand deep tasks x first k n (i ∷ is) = depths_joined (expand i.place (invoked tasks x first k i) n) (chain_parts expand tasks x first (k + 1) (n + length (streams_in (expand i.place (invoked tasks x first k i) n))) is) (deep i.place (invoked tasks x first k i) n) (chain_depths expand deep tasks x first (k + 1) (n + length (streams_in (expand i.place (invoked tasks x first k i) n))) is)

body_depths : (expand : Expands) → PartsDeep expand → (tasks : List Task) (at : Place) (x : FlatInstance) (n : ℕ) (q : Ports) (b : Body) → BodyFits tasks q b → Each HasDepth (streams_in (body_parts expand tasks at x n (Some b)))
body_depths expand deep tasks at x n q (leaf_body l) f = tt
body_depths expand deep tasks at x n q (upper_body cs is) f =
    depths_joined (own_parts x.label cs) (chain_parts expand tasks x n 0 (n + length (streams_in (own_parts x.label cs))) is) (own_depths x.label cs f.depths)
    (chain_depths expand deep tasks x n 0 (n + length (streams_in (own_parts x.label cs))) is)

deepest_depths : (at : Place) (x : FlatInstance) (b : Body) → Each HasDepth (streams_in (deepest_parts at x (Some b)))
deepest_depths at x (leaf_body l) = tt
deepest_depths at x (upper_body cs is) = tt

some_depths : (o : Option Task) (f : Option Body → List Part) → Each HasDepth (streams_in (f None)) → ((t : Task) → o ≡ Some t → Each HasDepth (streams_in (f (Some t.body)))) → Each HasDepth (streams_in (f (body_of o)))
some_depths None f g h = g
some_depths (Some t) f g h = h t refl

pub parts_depths : (tasks : List Task) → Each (TaskFits tasks) tasks → (levels : ℕ) (at : Place) (x : FlatInstance) (n : ℕ) → Each HasDepth (streams_in (parts_of levels tasks at x n))
parts_depths tasks fine zero at x n = some_depths (slice_get tasks x.body) (deepest_parts at x) tt (λ t a. deepest_depths at x t.body)
parts_depths tasks fine (suc levels) at x n =
    some_depths (slice_get tasks x.body) (body_parts (parts_of levels tasks) tasks at x n) tt
    (λ t a. body_depths (parts_of levels tasks) (parts_depths tasks fine levels) tasks at x n (ports_of t.declared.parameters) t.body (each_get (TaskFits tasks) tasks x.body t fine a))
