-- The program of a legal file is well formed.
use Rattle.std.proofs.Common.{◌≡◌, ◌≤◌, ◌+◌, ℕ, suc, List, [], ◌∷◌, ◌++◌, length, map, Bool, true, false, not, ◌&&◌, ◌||◌, Some, None, refl, sym, ap, subst, ◌∙◌, arith}
use Rattle.std.specs.Prelude.{Option, option_map, slice_get, ◌==◌}
use Rattle.std.specs.List.{list_any}
use Rattle.std.proofs.lemmas.Bool.{eqb-true}
use Rattle.std.proofs.lemmas.Option.{get_or_from_slice_get}
use Rattle.tapa_base.specs.declared.kind.Kind.{Kind}
use Rattle.tapa_base.specs.declared.kind.Kind.TheVariants.{U64}
use Rattle.tapa_syntax.specs.declared.program.Bound.{Bound}
use Rattle.tapa_syntax.specs.declared.program.Bound.TheVariants.{Number, Top}
use Rattle.tapa_syntax.specs.declared.program.End.{End}
use Rattle.tapa_syntax.specs.declared.program.Instance.{Instance}
use Rattle.tapa_syntax.specs.declared.program.Leaf.{Leaf}
use Rattle.tapa_syntax.specs.declared.program.Memory.{Memory}
use Rattle.tapa_syntax.specs.declared.program.Program.{Program}
use Rattle.tapa_syntax.specs.declared.program.Scalar.{Scalar}
use Rattle.tapa_syntax.specs.declared.program.Stream.{Stream}
use Rattle.tapa_syntax.specs.declared.tree.Parameter.{Parameter}
use Rattle.tapa_syntax.specs.LeafKinds.{writes_of}
use Rattle.tapa_syntax.specs.Trees.{ItemTree, TaskTree}
use Rattle.tapa_syntax.specs.Flat.{FlatInstance, FlatLeaf, FlatProgram, flat_bound, flat_instance, flat_leaf, flat_program}
use Rattle.tapa_syntax.specs.WellFormed as well
use Rattle.tapa_syntax.specs.WellFormed.{IsBoundTo, IsEndOf, IsInstance, IsJoined, IsWellFormed}
use Rattle.check_scope.specs.declared.fault.CheckCode.TheVariants.{C3}
use Rattle.check_leaf.proofs.Leaves.{leaf_well}
use Rattle.check_upper.specs.declared.task.Channel.{Channel}
use Rattle.check_scope.specs.One.{is_one, the_one}
use Rattle.stream_check.specs.Items.{no_items, items_faults, tasks_of}
use Rattle.check_upper.specs.Tasks.{leaf_body, Task, task_position}
use Rattle.stream_check.specs.Parts.{streams_in, instances_in}
use Rattle.stream_check.specs.Programs.{is_stream_parameter, is_upper, top_faults, top_instance, all_levels, top_parts, parts_faults, top_task_faults, top_program, limit_faults, ends_in, ends_of, instances_at, instances_with, stream_of, streams_faults, streams_of, memories_faults, memories_of, writers_faults, scalars_of, is_used, body_numbers, bodies_of, with_body, bindings_faults, whole_faults, program_faults, program_made, program_of}
use Rattle.stream_check.proofs.WellLists.{no_faults, holds, Each, each_get, Pairs, pairs_length, pairs_get, pairs_right}
use Rattle.stream_check.proofs.WellSpots.{TheSpot, ends_at, the_end, end_there, there_end, memory_at, the_owner, memory_there, there_memory}
use Rattle.stream_check.proofs.WellPorts.{Ports, ports_of, LeafFits}
use Rattle.stream_check.proofs.WellUppers.{HasDepth}
use Rattle.stream_check.proofs.WellTasks.{BodyFits, TaskFits, tasks_fit}
use Rattle.stream_check.proofs.WellParts.{Known, IsStream, IsMemory, IsScalar, InstanceIs, parts_fit, parts_depths}
use Rattle.stream_check.proofs.WellBodies.{is_used_by, body_there, IsLegal, bodies_legal}
use Rattle.stream_check.proofs.WellTops.{memories_are, scalars_are, top_fits, limits, streams_one, streams_from, memories_one}
use Rattle.tapa_base.proofs.Tests.{not_so, zero_left, both_true as both}
use Rattle.tapa_base.proofs.Got.{the_same, got_map as get_map, of_map_got as get_unmap, length_map}

abbrev known : List Parameter → List Channel → Known
known ps cs = record { streams = cs; memories = (ports_of ps).memories; scalars = (ports_of ps).scalars }

record Facts (tasks : List Task) (ps : List Parameter) (is : List FlatInstance) (cs : List Channel) : Type 0 where
  pub fine : Each (TaskFits tasks) tasks
  pub few_instances : length is ≤ 512
  pub few_streams : length cs ≤ 1024
  pub made : Each (InstanceIs (known ps cs) tasks) is
  pub depths : Each HasDepth cs
  pub streams : streams_faults tasks is 0 cs ≡ []
  pub memories : memories_faults is 0 ps ≡ []

-- a task that is used is a leaf
used_by : (w : Known) (tasks : List Task) (j : ℕ) (u : Task) (x : FlatInstance) (b c : Bool) → (x.body == j) ≡ b → InstanceIs w tasks x → slice_get tasks j ≡ Some u → (c ≡ true → (l : FlatLeaf) × (u.body ≡ leaf_body l)) → (b || c) ≡ true → (l : FlatLeaf) × (u.body ≡ leaf_body l)
used_by w tasks j u x true c e m h f k =
    let there : Some m.task ≡ Some u = sym m.there ∙ ap (slice_get tasks) (eqb-true x.body j e) ∙ h in
    (m.leaf, ap (λ (t : Task). t.body) (sym (the_same m.task u there)) ∙ m.is)
used_by w tasks j u x false c e m h f k = f k

used_leaf : (w : Known) (tasks : List Task) (is : List FlatInstance) → Each (InstanceIs w tasks) is → (j : ℕ) (u : Task) → slice_get tasks j ≡ Some u → is_used is j ≡ true → (l : FlatLeaf) × (u.body ≡ leaf_body l)
used_leaf w tasks [] a j u h k = absurd (cc)
used_leaf w tasks (x ∷ is) (m, a) j u h k = used_by w tasks j u x (x.body == j) (is_used is j) refl m h (used_leaf w tasks is a j u h) k

module _ (tasks : List Task) (top : TaskTree) (is : List FlatInstance) (cs : List Channel) (f : Facts tasks top.parameters is cs) (p : Program) (same : flat_program p ≡ program_made tasks top is cs) where
  abbrev ps : List Parameter
  ps = top.parameters

  abbrev numbers : List ℕ
  numbers = body_numbers is 0 tasks

  streams_same : p.streams.items ≡ streams_of tasks is 0 cs
  streams_same = ap (λ (q : FlatProgram). q.streams) same

  memories_same : p.memories.items ≡ memories_of is 0 ps
  memories_same = ap (λ (q : FlatProgram). q.memories) same

  scalars_same : p.scalars.items ≡ scalars_of ps
  scalars_same = ap (λ (q : FlatProgram). q.scalars) same

  bodies_same : map flat_leaf p.bodies.items ≡ bodies_of numbers 0 tasks
  bodies_same = ap (λ (q : FlatProgram). q.bodies) same

  instances_same : map flat_instance p.instances.items ≡ map (with_body numbers) is
  instances_same = ap (λ (q : FlatProgram). q.instances) same

  -- an instance of the program, and what it is made from
  record View (i : ℕ) (x : Instance) : Type 0 where
    pub from : FlatInstance
    pub there : slice_get is i ≡ Some from
    pub is_from : with_body numbers from ≡ flat_instance x
    pub made : InstanceIs (known ps cs) tasks from
    pub fits : LeafFits (ports_of made.task.declared.parameters) made.leaf
    pub leaf : Leaf
    pub leaf_is : slice_get p.bodies.items x.body ≡ Some leaf
    pub flat : flat_leaf leaf ≡ made.leaf

  view : (i : ℕ) (x : Instance) → slice_get p.instances.items i ≡ Some x → View i x
  view i x h =
      let a = subst (λ xs. slice_get xs i ≡ Some (flat_instance x)) instances_same (get_map flat_instance p.instances.items i x h) in
      let c = get_unmap (with_body numbers) is i (flat_instance x) a in
      let m = each_get (InstanceIs (known ps cs) tasks) is i c.0 f.made c.1 in
      let b = each_get (TaskFits tasks) tasks c.0.body m.task f.fine m.there in
      let d = body_there is tasks c.0.body m.task m.leaf (used_leaf (known ps cs) tasks is f.made) m.there m.is (is_used_by is i c.0 c.1) in
      let e = subst (λ n. slice_get (bodies_of numbers 0 tasks) n ≡ Some m.leaf) (ap (λ (z : FlatInstance). z.body) c.2) d in
      let g = get_unmap flat_leaf p.bodies.items x.body m.leaf (subst (λ ls. slice_get ls x.body ≡ Some m.leaf) (sym bodies_same) e) in
      record {
        from = c.0;
        there = c.1;
        is_from = c.2;
        made = m;
        fits = subst (BodyFits tasks (ports_of m.task.declared.parameters)) m.is b;
        leaf = g.0;
        leaf_is = g.1;
        flat = g.2;
      }

  module _ (i : ℕ) (x : Instance) (v : View i x) where
    abbrev q : Ports
    q = ports_of v.made.task.declared.parameters

    its_streams : v.from.streams ≡ x.streams.items
    its_streams = ap (λ (z : FlatInstance). z.streams) v.is_from

    its_memories : v.from.memories ≡ x.memories.items
    its_memories = ap (λ (z : FlatInstance). z.memories) v.is_from

    its_scalars : v.from.scalars ≡ map flat_bound x.scalars.items
    its_scalars = ap (λ (z : FlatInstance). z.scalars) v.is_from

    its_ends : ends_of (slice_get tasks v.from.body) ≡ v.leaf.streams.items
    its_ends = ap ends_of v.made.there ∙ ap ends_in v.made.is ∙ sym (ap (λ (l : FlatLeaf). l.streams) v.flat)

    streams_fit : Pairs (IsStream (known ps cs)) x.streams.items v.leaf.streams.items
    streams_fit = subst (λ ss. Pairs (IsStream (known ps cs)) ss v.leaf.streams.items) its_streams
        (subst (Pairs (IsStream (known ps cs)) v.from.streams) (sym v.fits.streams ∙ sym (ap (λ (l : FlatLeaf). l.streams) v.flat)) v.made.fits.streams)

    memories_fit : Pairs (IsMemory (known ps cs)) x.memories.items v.leaf.memories.items
    memories_fit = subst (λ ms. Pairs (IsMemory (known ps cs)) ms v.leaf.memories.items) its_memories
        (subst (Pairs (IsMemory (known ps cs)) v.from.memories) (sym v.fits.memories ∙ sym (ap (λ (l : FlatLeaf). l.memories) v.flat)) v.made.fits.memories)

    scalars_fit : Pairs (IsScalar (known ps cs)) (map flat_bound x.scalars.items) q.scalars
    scalars_fit = subst (λ bs. Pairs (IsScalar (known ps cs)) bs q.scalars) its_scalars v.made.fits.scalars

    abbrev KindIn : FlatLeaf → ℕ → Kind → Type 0
    KindIn l n k = slice_get l.vars n ≡ Some k

    kinds_fit : Pairs (KindIn (flat_leaf v.leaf)) v.leaf.scalars.items q.scalars
    kinds_fit = subst (λ (l : FlatLeaf). Pairs (KindIn l) l.scalars q.scalars) (sym v.flat) v.fits.scalars

    end_bound : (n s : ℕ) (w : Bool) → slice_get x.streams.items n ≡ Some s → writes_of v.leaf.streams.items n ≡ Some w → slice_get (ends_at tasks s w v.from) n ≡ Some true
    end_bound n s w a b = end_there s w v.from.streams (ends_of (slice_get tasks v.from.body)) n (subst (λ ss. slice_get ss n ≡ Some s) (sym its_streams) a) (subst (λ es. writes_of es n ≡ Some w) (sym its_ends) b)

    memory_bound : (n m : ℕ) → slice_get x.memories.items n ≡ Some m → slice_get (memory_at m v.from) n ≡ Some true
    memory_bound n m a = memory_there m v.from.memories n (subst (λ ms. slice_get ms n ≡ Some m) (sym its_memories) a)

  -- a stream of the program
  record TheStream (s : ℕ) (c : Channel) : Type 0 where
    pub there : slice_get p.streams.items s ≡ Some (stream_of tasks is s c)
    pub written : TheSpot (ends_at tasks s true) is (the_one (instances_at tasks s true 0 is))
    pub read : TheSpot (ends_at tasks s false) is (the_one (instances_at tasks s false 0 is))

  the_stream : (s : ℕ) (c : Channel) → slice_get cs s ≡ Some c → TheStream s c
  the_stream s c h =
      let o = subst (λ n. (slice_get (streams_of tasks is 0 cs) s ≡ Some (stream_of tasks is n c)) × (is_one (instances_at tasks n true 0 is) ≡ true) × (is_one (instances_at tasks n false 0 is) ≡ true)) (zero_left s) (streams_one tasks is 0 cs f.streams s c h) in
      record {
        there = subst (λ rs. slice_get rs s ≡ Some (stream_of tasks is s c)) (sym streams_same) o.0;
        written = the_end tasks s true is o.1;
        read = the_end tasks s false is o.2;
      }

  end_at : (i n s : ℕ) (c : Channel) (w : Bool) (y : FlatInstance) → TheStream s c → slice_get is i ≡ Some y → slice_get (ends_at tasks s w y) n ≡ Some true → IsEndOf i w (stream_of tasks is s c)
  end_at i n s c true y t h b = sym (t.written.alone i n y h b).0
  end_at i n s c false y t h b = sym (t.read.alone i n y h b).0

  one_place : (i n o s : ℕ) (c : Channel) (w : Bool) (y : FlatInstance) → TheStream s c → slice_get is i ≡ Some y → slice_get (ends_at tasks s w y) n ≡ Some true → slice_get (ends_at tasks s w y) o ≡ Some true → n ≡ o
  one_place i n o s c true y t h a b = (t.written.alone i n y h a).1 ∙ sym (t.written.alone i o y h b).1
  one_place i n o s c false y t h a b = (t.read.alone i n y h a).1 ∙ sym (t.read.alone i o y h b).1

  -- a memory of the program
  record TheMemory (m : ℕ) (k : Kind) : Type 0 where
    pub memory : Memory
    pub there : slice_get p.memories.items m ≡ Some memory
    pub kind : memory.kind ≡ k
    pub owner : memory.owner ≡ the_one (instances_with m 0 is)
    pub spot : TheSpot (memory_at m) is (the_one (instances_with m 0 is))

  the_memory : (m : ℕ) (k : Kind) → slice_get (ports_of ps).memories m ≡ Some k → TheMemory m k
  the_memory m k h =
      let u = get_unmap (λ (r : Memory). r.kind) (memories_of is 0 ps) m k (subst (λ ks. slice_get ks m ≡ Some k) (memories_are is ps) h) in
      let o = subst (λ n. (u.0.owner ≡ the_one (instances_with n 0 is)) × (is_one (instances_with n 0 is) ≡ true)) (zero_left m) (memories_one is 0 ps f.memories m u.0 u.1) in
      record {
        memory = u.0;
        there = subst (λ rs. slice_get rs m ≡ Some u.0) (sym memories_same) u.1;
        kind = u.2;
        owner = o.0;
        spot = the_owner m is o.1;
      }

  bound_to : (k : Kind) (b : Bound) → IsScalar (known ps cs) (flat_bound b) k → IsBoundTo p k b
  bound_to k (Number n) h = h
  bound_to k (Top x kinds) (j, a, l) = (j, subst (λ ss. slice_get (map (λ (c : Scalar). c.kind) ss) x ≡ Some j) (sym scalars_same) (subst (λ ks. slice_get ks x ≡ Some j) (scalars_are ps) a), l)

  instance_well : (i : ℕ) (x : Instance) → slice_get p.instances.items i ≡ Some x → (leaf : Leaf) × IsInstance p i x leaf
  instance_well i x h =
      let v = view i x h in (
        v.leaf,
        record {
          body = v.leaf_is;
          streams_len = pairs_length (IsStream (known ps cs)) x.streams.items v.leaf.streams.items (streams_fit i x v);
          streams = λ n s e a b.
              let d = pairs_get (IsStream (known ps cs)) x.streams.items v.leaf.streams.items n s e (streams_fit i x v) a b in
              let t = the_stream s d.0 d.1 in
              record {
                stream = stream_of tasks is s d.0;
                is = t.there;
                kind = d.2;
                end = end_at i n s d.0 e.writes v.from t v.there (end_bound i x v n s e.writes a (ap (option_map (λ (n : End). n.writes)) b));
              };
          streams_once = λ n o s w a b j k.
              let d = pairs_right (IsStream (known ps cs)) x.streams.items v.leaf.streams.items n s (streams_fit i x v) a in
              one_place i n o s d.2.0 w v.from (the_stream s d.2.0 d.2.1) v.there (end_bound i x v n s w a j) (end_bound i x v o s w b k);
          memories_len = pairs_length (IsMemory (known ps cs)) x.memories.items v.leaf.memories.items (memories_fit i x v);
          memories = λ n m k a b.
              let d = pairs_get (IsMemory (known ps cs)) x.memories.items v.leaf.memories.items n m k (memories_fit i x v) a b in
              let t = the_memory m k d in
              record {
                memory = t.memory;
                is = t.there;
                kind = t.kind;
                owner = t.owner ∙ sym (t.spot.alone i n v.from v.there (memory_bound i x v n m a)).0;
              };
          memories_once = λ n o m a b.
              let d = pairs_right (IsMemory (known ps cs)) x.memories.items v.leaf.memories.items n m (memories_fit i x v) a in
              let t = the_memory m d.0 d.2 in
              (t.spot.alone i n v.from v.there (memory_bound i x v n m a)).1 ∙ sym (t.spot.alone i o v.from v.there (memory_bound i x v o m b)).1;
          scalars_len = sym (length_map flat_bound x.scalars.items) ∙ pairs_length (IsScalar (known ps cs)) (map flat_bound x.scalars.items) (q i x v).scalars (scalars_fit i x v) ∙ sym (pairs_length (KindIn i x v (flat_leaf v.leaf)) v.leaf.scalars.items (q i x v).scalars (kinds_fit i x v));
          scalars = λ n y b a c.
              let k = pairs_right (KindIn i x v (flat_leaf v.leaf)) v.leaf.scalars.items (q i x v).scalars n y (kinds_fit i x v) c in
              let d = pairs_get (IsScalar (known ps cs)) (map flat_bound x.scalars.items) (q i x v).scalars n (flat_bound b) k.0 (scalars_fit i x v) (get_map flat_bound x.scalars.items n b a) k.1 in
              subst (λ j. IsBoundTo p j b) (sym (get_or_from_slice_get v.leaf.vars.items y k.0 U64 k.2)) (bound_to k.0 b d);
        },
      )

  joined : (s n : ℕ) (w : Bool) → TheSpot (ends_at tasks s w) is n → IsJoined p n s w
  joined s n w t =
      let u = get_unmap flat_instance p.instances.items n (with_body numbers t.instance) (subst (λ xs. slice_get xs n ≡ Some (with_body numbers t.instance)) (sym instances_same) (get_map (with_body numbers) is n t.instance t.there)) in
      let v = view n u.0 u.1 in
      let e : t.instance ≡ v.from = the_same t.instance v.from (sym t.there ∙ v.there) in
      let b = subst (λ (z : FlatInstance). (slice_get z.streams t.position ≡ Some s) × (writes_of (ends_of (slice_get tasks z.body)) t.position ≡ Some w)) e (there_end s w t.instance.streams (ends_of (slice_get tasks t.instance.body)) t.position t.bound) in
      record {
        instance = u.0;
        is = u.1;
        leaf = v.leaf;
        leaf_is = v.leaf_is;
        position = t.position;
        stream = subst (λ ss. slice_get ss t.position ≡ Some s) (its_streams n u.0 v) b.0;
        writes = subst (λ es. writes_of es t.position ≡ Some w) (its_ends n u.0 v) b.1;
      }

  stream_well : (s : ℕ) (r : Stream) → slice_get p.streams.items s ≡ Some r → well.IsStream p s r
  stream_well s r h =
      let c = streams_from tasks is 0 cs s r (subst (λ rs. slice_get rs s ≡ Some r) streams_same h) in
      let t = the_stream s c.0 c.1 in
      let d = each_get HasDepth cs s c.0 f.depths c.1 in
      let made : well.IsStream p s (stream_of tasks is s c.0) = record {
        some_depth = d.0;
        within = d.1;
        written = joined s (the_one (instances_at tasks s true 0 is)) true t.written;
        read = joined s (the_one (instances_at tasks s false 0 is)) false t.read;
      } in
      subst (well.IsStream p s) (the_same (stream_of tasks is s c.0) r (sym t.there ∙ h)) made

  streams_length : (k : ℕ) (ds : List Channel) → length (streams_of tasks is k ds) ≡ length ds
  streams_length k [] = refl
  streams_length k (d ∷ ds) = ap suc (streams_length (k + 1) ds)

  memory_well : (m : ℕ) (r : Memory) → slice_get p.memories.items m ≡ Some r → well.IsOwned p m r
  memory_well m r h =
      let o = subst (λ n. (r.owner ≡ the_one (instances_with n 0 is)) × (is_one (instances_with n 0 is) ≡ true)) (zero_left m) (memories_one is 0 ps f.memories m r (subst (λ rs. slice_get rs m ≡ Some r) memories_same h)) in
      let t = the_owner m is o.1 in
      let u = get_unmap flat_instance p.instances.items (the_one (instances_with m 0 is)) (with_body numbers t.instance) (subst (λ xs. slice_get xs (the_one (instances_with m 0 is)) ≡ Some (with_body numbers t.instance)) (sym instances_same) (get_map (with_body numbers) is (the_one (instances_with m 0 is)) t.instance t.there)) in
      record {
        instance = u.0;
        is = subst (λ n. slice_get p.instances.items n ≡ Some u.0) (sym o.0) u.1;
        position = t.position;
        bound = subst (λ ns. slice_get ns t.position ≡ Some m) (sym (ap (λ (z : FlatInstance). z.memories) u.2)) (there_memory m t.instance.memories t.position t.bound);
      }

  program_well : IsWellFormed p
  program_well = record {
    few_instances = subst (λ n. n ≤ 512) (sym (sym (length_map flat_instance p.instances.items) ∙ ap length instances_same ∙ length_map (with_body numbers) is)) f.few_instances;
    few_streams = subst (λ n. n ≤ 1024) (sym (ap length streams_same ∙ streams_length 0 cs)) f.few_streams;
    leaves = λ b leaf h.
        let g = each_get IsLegal (bodies_of numbers 0 tasks) b (flat_leaf leaf) (bodies_legal tasks numbers 0 tasks f.fine) (subst (λ ls. slice_get ls b ≡ Some (flat_leaf leaf)) bodies_same (get_map flat_leaf p.bodies.items b leaf h)) in
        leaf_well g.1.file g.1.sound g.1.task g.1.code leaf g.1.legal g.1.is;
    instances = instance_well;
    streams = stream_well;
    memories = memory_well;
  }

-- ---- the facts of a legal file

no_streams : (t : Task) → top_faults t ≡ [] → list_any is_stream_parameter t.declared.parameters ≡ false
no_streams t h =
    let b = both (is_upper t.body) (not (list_any is_stream_parameter t.declared.parameters)) (holds (is_upper t.body && not (list_any is_stream_parameter t.declared.parameters)) (record { code = C3; place = t.declared.name.place; limit = None }) h) in
    not_so (list_any is_stream_parameter t.declared.parameters) b.1

facts : (levels : ℕ) (tasks : List Task) (n : ℕ) (t : Task) → slice_get tasks n ≡ Some t → Each (TaskFits tasks) tasks → top_faults t ++ parts_faults tasks t.declared (top_parts levels tasks n t.declared) ≡ []
    → Facts tasks t.declared.parameters (instances_in (top_parts levels tasks n t.declared)) (streams_in (top_parts levels tasks n t.declared))
facts levels tasks n t there fine h =
    let ps = t.declared.parameters in
    let parts = top_parts levels tasks n t.declared in
    let w = known t.declared.parameters (streams_in (top_parts levels tasks n t.declared)) in
    let a = no_faults (top_faults t) (parts_faults tasks t.declared parts) h in
    let b = no_faults (limit_faults 0 0 parts) (bindings_faults tasks t.declared (instances_in parts) (streams_in parts)) a.1 in
    let c = no_faults (streams_faults tasks (instances_in parts) 0 (streams_in parts)) (memories_faults (instances_in parts) 0 t.declared.parameters ++ writers_faults (instances_in parts) 0 t.declared.parameters) b.1 in
    let d = no_faults (memories_faults (instances_in parts) 0 t.declared.parameters) (writers_faults (instances_in parts) 0 t.declared.parameters) c.1 in
    let few = limits 0 0 parts (omega arith) (omega arith) b.0 in
    let fits = top_fits w n ps (no_streams t a.0) refl refl in
    record {
      fine = fine;
      few_instances = subst (λ m. m ≤ 512) (zero_left (length (instances_in parts))) few.1;
      few_streams = subst (λ m. m ≤ 1024) (zero_left (length (streams_in parts))) few.0;
      made = parts_fit w tasks fine levels t.declared.name.place (top_instance n ps) 0 t there fits (λ i x e. subst (λ m. slice_get (streams_in parts) m ≡ Some x) (sym (zero_left i)) e);
      depths = parts_depths tasks fine levels t.declared.name.place (top_instance n ps) 0;
      streams = c.0;
      memories = d.0;
    }

whole_program_well : (levels n : ℕ) (tasks : List Task) (o : Option Task) (program : Program) → slice_get tasks n ≡ o → Each (TaskFits tasks) tasks → top_task_faults levels tasks n o ≡ [] → flat_program program ≡ top_program levels tasks n o → IsWellFormed program
whole_program_well levels n tasks None program there fine h same = absurd (cc)
whole_program_well levels n tasks (Some t) program there fine h same =
    program_well tasks t.declared (instances_in (top_parts levels tasks n t.declared)) (streams_in (top_parts levels tasks n t.declared)) (facts levels tasks n t there fine h) program same

pub legal_program_well : (items : List ItemTree) (top : List ℕ) (program : Program) → program_faults items top ≡ [] → flat_program program ≡ program_of items top → IsWellFormed program
legal_program_well items top program h same =
    let n = task_position 0 top (tasks_of items) in
    let a = no_faults (items_faults no_items items) (whole_faults all_levels (tasks_of items) (task_position 0 top (tasks_of items))) h in
    whole_program_well all_levels n (tasks_of items) (slice_get (tasks_of items) n) program refl (tasks_fit items a.0) a.1 same
