-- The names of the whole top, part by part.
use Rattle.std.proofs.Common.{◌≡◌, ℕ, zero, suc, ◌+◌, ◌-◌, ◌^◌, ◌<◌, ◌≤◌, true, List, [], ◌∷◌, ◌++◌, length, Option, Some, None, inl, inr, refl, sym, ap, subst, ◌∙◌, arith, length-append}
use Rattle.std.specs.Prelude.{codes, map, slice_get, slice_index}
use Rattle.std.specs.List.{list_all, flat_map}
use Rattle.tapa_base.specs.Kinds.{bits_of}
use Rattle.tapa_base.specs.declared.kind.Kind.{Kind}
use Rattle.tapa_syntax.specs.declared.program.Bound.{Bound}
use Rattle.tapa_syntax.specs.declared.program.Bound.TheVariants.{Number, Top as TopScalar}
use Rattle.tapa_syntax.specs.declared.program.Instance.{Instance}
use Rattle.tapa_syntax.specs.declared.program.Leaf.{Leaf}
use Rattle.tapa_syntax.specs.declared.program.Memory.{Memory}
use Rattle.tapa_syntax.specs.declared.program.Program.{Program}
use Rattle.tapa_syntax.specs.declared.program.Scalar.{Scalar}
use Rattle.tapa_syntax.specs.declared.program.Stream.{Stream}
use Rattle.tapa_syntax.specs.WellFormed.{IsWellFormed}
use Rattle.tapa_base.specs.Lists.{Has}
use Rattle.vlog_tree.specs.Labels.{rst, done, scalar, m_ack, m_rdata, m_addr, m_wdata, m_we, s_din, s_wr, s_rdy}
use Rattle.vlog_tree.specs.Names.{goes_on}
use Rattle.vlog_tree.specs.Table.{Name, clk}
use Rattle.hw_build.specs.Elements.{Element, Input, Outlet, InstanceWire, Output, Instance as InstanceElement}
use Rattle.hw_build.specs.Trees.{tree_nodes}
use Rattle.hw_build.specs.Scope.{each}
use Rattle.hw_build.specs.Fits.{declared_names}
use Rattle.hw_build.proofs.Once.{two_once}
use Rattle.hw_channel_lines.specs.Names.{channel_name}
use Rattle.hw_lines.specs.Texts.{task_name}
use Rattle.hw_task_laws.proofs.names.Bounds.{each_many, left_short, right_short}
use Rattle.hw_task_laws.proofs.names.Named.{single}
use Rattle.hw_task_laws.proofs.names.Rows.{AreRow, row_append}
use Rattle.hw_top_lines.specs.Names.{s_has, s_dout, s_take, task_instance, channel_instance, ended_net, waits}
use Rattle.hw_top_lines.specs.Bounds.{parameter_kind, bound_elements, parameters}
use Rattle.hw_top_lines.specs.Legal.{IsCountable}
use Rattle.tapa_syntax.specs.OwnNames.{AreApart, HasOwnNames}
use Rattle.hw_top_lines.specs.Texts.{scalar_port, memory_ports, ports, token_bits, stream_wires, take_wire, of_leaf, of_instance, at_instance, task_connections, task_part, ended_wire, still_waits, is_detached, waiting, none_waits, doneness, channel_connections, channel_part, wires, instances, top_elements}
use Rattle.hw_top_laws.specs.names.Names.{TopNamesAreOnce, TopNetsAreNamed}
use Rattle.hw_top_laws.proofs.names.Written.{label_goes_on}
use Rattle.hw_top_laws.proofs.names.Made.{sort, IsMade, same_label, addr_names, wdata_names, we_names, ack_names, rdata_names, din_names, wr_names, rdy_names, has_names, dout_names, take_names, IsFronted, same_fronted, fronted_scalar, fronted_task, fronted_channel, clk_sort, rst_sort, done_sort, done_is_name}
use Rattle.hw_top_laws.proofs.names.Named.{Named, Names, Any, names_both, names_each, names_none, names_one, names_more, all_named}
use Rattle.hw_top_laws.proofs.names.Bound.{IsSpelled, OfInstance, OfParameter, bound_named, told_parameter, told_instance, ended_facts, same_ended, waits_named, nodes_row}
use Rattle.tapa_base.proofs.Got.{some_at as got_some, got_left, get_right as got_right, got_map}

-- ---- elements of lists

-- ---- parts of the program

-- a name that is made of the label of the part at a position
record IsAt {A : Type 0} (parts : List A) (label : A → Name) (M : Name → Name → Type 0) (k : ℕ) (x : Name) : Type 0 where
  part : A
  got : slice_get parts k ≡ Some part
  made : M (label part) x

told_at : {A : Type 0} (parts : List A) (label : A → Name) (M : Name → Name → Type 0) → ((l m x : Name) → M l x → M m x → l ≡ m)
    → AreApart (map label parts) → (j k : ℕ) (x : Name) → IsAt parts label M j x → IsAt parts label M k x → j ≡ k
told_at parts label M same apart j k x a b =
    apart j k (label a.part) (got_map label parts j a.part a.got) (got_map label parts k b.part b.got ∙ ap Some (sym (same (label a.part) (label b.part) x a.made b.made)))

-- a part for each of a list, all of whose names are made of its label
parts_named : {A : Type 0} (parts : List A) (label : A → Name) (M : Name → Name → Type 0) (low high : ℕ) (part : ℕ → Option A → List Element) → ((l m x : Name) → M l x → M m x → l ≡ m)
    → AreApart (map label parts) → ((k : ℕ) → part k None ≡ []) → ((k : ℕ) (a : A) → slice_get parts k ≡ Some a → Names (IsAt parts label M k) low high (part k (Some a)))
    → Names Any low high (each (λ k. part k (slice_get parts k)) (length parts))
parts_named {A} parts label M low high part same apart none given =
    names_each Any (IsAt parts label M) low high (λ k. part k (slice_get parts k)) (length parts) (λ k x h. tt) (told_at parts label M same apart) (λ k l. at k (slice_get parts k) refl) where
      at : (k : ℕ) (o : Option A) → slice_get parts k ≡ o → Names (IsAt parts label M k) low high (part k o)
      at k None e = subst (λ (es : List Element). Names (IsAt parts label M k) low high es) (sym (none k)) (names_none (IsAt parts label M k) low high)
      at k (Some a) e = given k a e

-- of some sort
abbrev Made : Name → Name → Name → Type 0
Made front l x = (k : ℕ) × IsMade front k l x

abbrev Fronted : Name → ℕ → Name → Name → Type 0
Fronted front k l x = IsFronted front k l x

same_made : (front l m x : Name) → Made front l x → Made front m x → l ≡ m
same_made front l m x a b = same_label front a.0 b.0 l m x a.1 b.1

module _ (program : Program) (own : HasOwnNames program) where
  open program use {scalars.{items as scalars}, memories.{items as memories}}

  scalars_apart : AreApart (map (λ (c : Scalar). c.name) scalars)
  scalars_apart p q x h k =
      own.parameters p q x (got_left (map (λ (c : Scalar). c.name) scalars) (map (λ (m : Memory). m.name) memories) p x h) (got_left (map (λ (c : Scalar). c.name) scalars) (map (λ (m : Memory). m.name) memories) q x k)

  pub memories_apart : AreApart (map (λ (m : Memory). m.name) memories)
  memories_apart p q x h k =
      let front = map (λ (c : Scalar). c.name) scalars in
      let s : length front + p ≡ length front + q =
      own.parameters (length front + p) (length front + q) x (got_right front (map (λ (m : Memory). m.name) memories) p x h) (got_right front (map (λ (m : Memory). m.name) memories) q x k) in
      omega (arith, s)

  scalar_written : (k : ℕ) (c : Scalar) → slice_get scalars k ≡ Some c → list_all goes_on c.name ≡ true
  scalar_written k c e = label_goes_on c.name (own.parameters_written k c.name (got_left (map (λ (c : Scalar). c.name) scalars) (map (λ (m : Memory). m.name) memories) k c.name (got_map (λ (c : Scalar). c.name) scalars k c e))).0

  pub memory_written : (k : ℕ) (m : Memory) → slice_get memories k ≡ Some m → list_all goes_on m.name ≡ true
  memory_written k m e =
      let front = map (λ (c : Scalar). c.name) scalars in
      label_goes_on m.name (own.parameters_written (length front + k) m.name (got_right front (map (λ (m : Memory). m.name) memories) k m.name (got_map (λ (m : Memory). m.name) memories k m e))).0

  pub stream_written : (k : ℕ) (r : Stream) → slice_get program.streams.items k ≡ Some r → list_all goes_on r.label ≡ true
  stream_written k r e = label_goes_on r.label (own.streams_written k r.label (got_map (λ (r : Stream). r.label) program.streams.items k r e)).0

  instance_written : (k : ℕ) (x : Instance) → slice_get program.instances.items k ≡ Some x → list_all goes_on x.label ≡ true
  instance_written k x e = label_goes_on x.label (own.instances_written k x.label (got_map (λ (x : Instance). x.label) program.instances.items k x e)).0

  -- ---- ports

  scalars_named : Names Any 2 3 (each (λ x. scalar_port (slice_get scalars x)) (length scalars))
  scalars_named =
      parts_named scalars (λ (c : Scalar). c.name) (Fronted (codes "v_") 2) 2 3 (λ k. scalar_port) (same_fronted (codes "v_") 2 2) scalars_apart (λ k. refl)
      (λ k c e.
      let f = fronted_scalar c.name (scalar_written k c e) in
      names_one (IsAt scalars (λ (c : Scalar). c.name) (Fronted (codes "v_") 2) k) 2 (Input (bits_of c.kind) (scalar c.name)) (scalar c.name) refl (record { part = c; got = e; made = f }) f.sorted f.named)

  abbrev MemoryAt : ℕ → Name → Type 0
  MemoryAt k x = IsAt memories (λ (m : Memory). m.name) (Made (codes "m_")) k x

  memory_one : (k : ℕ) (m : Memory) → slice_get memories k ≡ Some m → (s : ℕ) (e : Element) (y : Name) → declared_names e ≡ y ∷ [] → IsMade (codes "m_") s m.name y → Names (MemoryAt k) s (suc s) (e ∷ [])
  memory_one k m g s e y is f = names_one (MemoryAt k) s e y is (record { part = m; got = g; made = (s, f) }) f.sorted f.named

  memory_names : (k : ℕ) (m : Memory) → slice_get memories k ≡ Some m → Names (MemoryAt k) 3 8 (memory_ports (Some m))
  memory_names k m e =
      let w = memory_written k m e in
      let b = bits_of m.kind in
      let Q = MemoryAt k in
      names_more Q 3 4 8 (Outlet 64 (m_addr m.name)) _ (omega arith) (omega arith) (memory_one k m e 3 _ (m_addr m.name) refl (addr_names.made m.name w))
      (names_more Q 4 5 8 (Outlet b (m_wdata m.name)) _ (omega arith) (omega arith) (memory_one k m e 4 _ (m_wdata m.name) refl (wdata_names.made m.name w))
      (names_more Q 5 6 8 (Outlet 1 (m_we m.name)) _ (omega arith) (omega arith) (memory_one k m e 5 _ (m_we m.name) refl (we_names.made m.name w))
      (names_more Q 6 7 8 (Input 1 (m_ack m.name)) _ (omega arith) (omega arith) (memory_one k m e 6 _ (m_ack m.name) refl (ack_names.made m.name w))
      (memory_one k m e 7 (Input b (m_rdata m.name)) (m_rdata m.name) refl (rdata_names.made m.name w)))))

  memories_named : Names Any 3 8 (each (λ m. memory_ports (slice_get memories m)) (length memories))
  memories_named =
      parts_named memories (λ (m : Memory). m.name) (Made (codes "m_")) 3 8 (λ k. memory_ports) (same_made (codes "m_")) memories_apart (λ k. refl) memory_names

  ports_named : Names Any 2 8 (ports program)
  ports_named =
      names_both Any 2 3 8 (each (λ x. scalar_port (slice_get scalars x)) (length scalars)) (each (λ m. memory_ports (slice_get memories m)) (length memories)) (omega arith) (omega arith) scalars_named memories_named

  -- ---- streams

  abbrev StreamAt : ℕ → Name → Type 0
  StreamAt k x = IsAt program.streams.items (λ (r : Stream). r.label) (Made (codes "s_")) k x

  stream_one : (k : ℕ) (r : Stream) → slice_get program.streams.items k ≡ Some r → (s : ℕ) (e : Element) (y : Name) → declared_names e ≡ y ∷ [] → IsMade (codes "s_") s r.label y → Names (StreamAt k) s (suc s) (e ∷ [])
  stream_one k r g s e y is f = names_one (StreamAt k) s e y is (record { part = r; got = g; made = (s, f) }) f.sorted f.named

  stream_names : (k : ℕ) (r : Stream) → slice_get program.streams.items k ≡ Some r → Names (StreamAt k) 8 13 (stream_wires (Some r))
  stream_names k r e =
      let w = stream_written k r e in
      let b = token_bits r.kind in
      let Q = StreamAt k in
      names_more Q 8 9 13 (InstanceWire b (s_din r.label)) _ (omega arith) (omega arith) (stream_one k r e 8 _ (s_din r.label) refl (din_names.made r.label w))
      (names_more Q 9 10 13 (InstanceWire 1 (s_wr r.label)) _ (omega arith) (omega arith) (stream_one k r e 9 _ (s_wr r.label) refl (wr_names.made r.label w))
      (names_more Q 10 11 13 (InstanceWire 1 (s_rdy r.label)) _ (omega arith) (omega arith) (stream_one k r e 10 _ (s_rdy r.label) refl (rdy_names.made r.label w))
      (names_more Q 11 12 13 (InstanceWire 1 (s_has r.label)) _ (omega arith) (omega arith) (stream_one k r e 11 _ (s_has r.label) refl (has_names.made r.label w))
      (stream_one k r e 12 (InstanceWire b (s_dout r.label)) (s_dout r.label) refl (dout_names.made r.label w)))))

  streams_named : Names Any 8 13 (each (λ s. stream_wires (slice_get program.streams.items s)) (length program.streams.items))
  streams_named = parts_named program.streams.items (λ (r : Stream). r.label) (Made (codes "s_")) 8 13 (λ k. stream_wires) (same_made (codes "s_")) own.streams (λ k. refl) stream_names

  takes_named : Names Any 15 16 (each (λ s. take_wire (slice_get program.streams.items s)) (length program.streams.items))
  takes_named =
      parts_named program.streams.items (λ (r : Stream). r.label) (Made (codes "s_")) 15 16 (λ k. take_wire) (same_made (codes "s_")) own.streams (λ k. refl)
      (λ k r e. stream_one k r e 15 (InstanceWire 1 (s_take r.label)) (s_take r.label) refl (take_names.made r.label (stream_written k r e)))

  -- ---- instances

  abbrev InstanceAt : ℕ → Name → Type 0
  InstanceAt k x = IsAt program.instances.items (λ (x : Instance). x.label) (Fronted (codes "t_") 18) k x

  part_names : (k : ℕ) (x : Instance) → slice_get program.instances.items k ≡ Some x → (o : Option Leaf) → Names (InstanceAt k) 18 19 (of_leaf (task_part program k) x o)
  part_names k x e None = names_none (InstanceAt k) 18 19
  part_names k x e (Some leaf) =
      let f = fronted_task x.label (instance_written k x e) in
      names_one (InstanceAt k) 18 (InstanceElement (task_name leaf.name) (task_instance x.label) (task_connections program k x leaf)) (task_instance x.label) refl (record { part = x; got = e; made = f }) f.sorted f.named

  instances_named : Names Any 18 19 (each (at_instance program (task_part program)) (length program.instances.items))
  instances_named =
      parts_named program.instances.items (λ (x : Instance). x.label) (Fronted (codes "t_") 18) 18 19 (λ k. of_instance program (task_part program k)) (same_fronted (codes "t_") 18 18) own.instances (λ k. refl)
      (λ k x e. part_names k x e (slice_get program.bodies.items x.body))

  channels_named : (late : ℕ → ℕ) → Names Any 19 20 (each (λ s. channel_part (late s) (slice_get program.streams.items s)) (length program.streams.items))
  channels_named late =
      parts_named program.streams.items (λ (r : Stream). r.label) (Fronted (codes "c_") 19) 19 20 (λ k. channel_part (late k)) (same_fronted (codes "c_") 19 19) own.streams (λ k. refl)
      (λ k r e.
      let f = fronted_channel r.label (stream_written k r e) in
      let t = InstanceElement (channel_name (token_bits r.kind) r.depth (late k)) (channel_instance r.label) (channel_connections r.label) in
      names_one (IsAt program.streams.items (λ (r : Stream). r.label) (Fronted (codes "c_") 19) k) 19 t (channel_instance r.label) refl (record { part = r; got = e; made = f }) f.sorted f.named)

  -- ---- scalar parameters and ends

  module _ (ok : IsWellFormed program) where
    low_number : (i : ℕ) → i < length program.instances.items → i < 2 ^ 64
    low_number i l = let few = ok.few_instances in omega (arith, l, few)

    bound_at : (i p : ℕ) (k : Kind) (o : Option Bound) → i < 2 ^ 64 → p < 2 ^ 64 → Names (IsSpelled (OfParameter i p)) 13 14 (bound_elements program i p k o)
    bound_at i p k None a b = names_none (IsSpelled (OfParameter i p)) 13 14
    bound_at i p k (Some bound) a b = bound_named i p a b program k bound

    some_net : (i p : ℕ) (k : Kind) (b : Bound) → 1 ≤ length (bound_elements program i p k (Some b))
    some_net i p k (Number n) = omega arith
    some_net i p k (TopScalar x kinds) = omega arith

    some_parameter : (i : ℕ) (x : Instance) (leaf : Leaf) → length x.scalars.items ≡ length leaf.scalars.items → (p : ℕ) → p < length leaf.scalars.items
        → 1 ≤ length (bound_elements program i p (parameter_kind leaf p) (slice_get x.scalars.items p))
    some_parameter i x leaf e p l =
        let g = got_some x.scalars.items p (omega (arith, e, l)) in
        subst (λ o. 1 ≤ length (bound_elements program i p (parameter_kind leaf p) o)) (sym g.1) (some_net i p (parameter_kind leaf p) g.0)

    parameters_named : (i : ℕ) → i < 2 ^ 64 → (x : Instance) (leaf : Leaf) → length x.scalars.items ≡ length leaf.scalars.items → Names (IsSpelled (OfInstance i)) 13 14 (parameters program i x leaf)
    parameters_named i small x leaf e = λ s.
        let f = λ (p : ℕ). bound_elements program i p (parameter_kind leaf p) (slice_get x.scalars.items p) in
        let many : length leaf.scalars.items ≤ length (each f (length leaf.scalars.items)) = each_many f (length leaf.scalars.items) (λ p l. some_parameter i x leaf e p l) in
        names_each (IsSpelled (OfInstance i)) (λ p. IsSpelled (OfParameter i p)) 13 14 f (length leaf.scalars.items)
        (λ p y t. record { numbers = t.numbers; small = t.small; is = t.is; so = t.so.0 }) (told_parameter i)
        (λ p l. bound_at i p (parameter_kind leaf p) (slice_get x.scalars.items p) small (omega (arith, l, many, s))) s

    leaf_named : (i : ℕ) → i < 2 ^ 64 → (x : Instance) (o : Option Leaf) → ((leaf : Leaf) → o ≡ Some leaf → length x.scalars.items ≡ length leaf.scalars.items)
        → Names (IsSpelled (OfInstance i)) 13 14 (of_leaf (parameters program i) x o)
    leaf_named i small x None h = names_none (IsSpelled (OfInstance i)) 13 14
    leaf_named i small x (Some leaf) h = parameters_named i small x leaf (h leaf refl)

    same_leaf : (a b : Leaf) → Some a ≡ Some b → a ≡ b
    same_leaf a b e = cc

    bounds_at : (i : ℕ) → i < 2 ^ 64 → (o : Option Instance) → slice_get program.instances.items i ≡ o → Names (IsSpelled (OfInstance i)) 13 14 (of_instance program (parameters program i) o)
    bounds_at i small None e = names_none (IsSpelled (OfInstance i)) 13 14
    bounds_at i small (Some x) e =
        let r = ok.instances i x e in
        leaf_named i small x (slice_get program.bodies.items x.body)
        (λ leaf g. r.1.scalars_len ∙ ap (λ (z : Leaf). length z.scalars.items) (same_leaf r.0 leaf (sym r.1.body ∙ g)))

    bounds_named : Names Any 13 14 (each (at_instance program (parameters program)) (length program.instances.items))
    bounds_named =
        names_each Any (λ i. IsSpelled (OfInstance i)) 13 14 (at_instance program (parameters program)) (length program.instances.items) (λ k x h. tt) told_instance
        (λ i l. bounds_at i (low_number i l) (slice_get program.instances.items i) refl)

    abbrev EndedAt : ℕ → Name → Type 0
    EndedAt k x = (x ≡ ended_net k) × (k < 2 ^ 64)

    ended_at : (k : ℕ) → k < 2 ^ 64 → Names (EndedAt k) 14 15 (ended_wire k)
    ended_at k small = let f = ended_facts k small in names_one (EndedAt k) 14 (InstanceWire 1 (ended_net k)) (ended_net k) refl (refl, small) f.0 f.1

    ends_named : Names Any 14 15 (each ended_wire (length program.instances.items))
    ends_named =
        names_each Any EndedAt 14 15 ended_wire (length program.instances.items) (λ k x h. tt) (λ j k x a b. same_ended j k a.1 b.1 (sym a.0 ∙ b.0)) (λ k l. ended_at k (low_number k l))

    wires_named : Names Any 8 16 (wires program)
    wires_named =
        let streams = each (λ s. stream_wires (slice_get program.streams.items s)) (length program.streams.items) in
        let bounds = each (at_instance program (parameters program)) (length program.instances.items) in
        let ends = each ended_wire (length program.instances.items) in
        let takes = each (λ s. take_wire (slice_get program.streams.items s)) (length program.streams.items) in
        names_both Any 8 15 16 ((streams ++ bounds) ++ ends) takes (omega arith) (omega arith)
        (names_both Any 8 14 15 (streams ++ bounds) ends (omega arith) (omega arith) (names_both Any 8 13 14 streams bounds (omega arith) (omega arith) streams_named bounds_named) ends_named) takes_named

    -- ---- when all is done

    waiting_long : (n : ℕ) → length (each (waiting program) n) ≡ n
    waiting_long zero = refl
    waiting_long (suc n) =
        let e = length-append (each (waiting program) n) (waiting program n) in
        let r = waiting_long n in
        omega (arith, e, r)

    waiting_row : (n : ℕ) → AreRow waits 0 (each (waiting program) n)
    waiting_row zero = tt
    waiting_row (suc n) =
        let e : n ≡ 0 + length (each (waiting program) n) = let r = waiting_long n in omega (arith, r) in
        row_append waits 0 (each (waiting program) n) (waiting program n) (waiting_row n)
        (subst (λ z. AreRow waits z (waiting program n)) e ((1, still_waits n (is_detached (slice_get program.instances.items n)), refl), tt))

    done_named : Names Any 16 18 (doneness program)
    done_named =
        let n = length program.instances.items in
        let leaves = each (waiting program) n in
        let nodes = tree_nodes 1 waits n (n - 1) in
        let e : n ≡ 0 + length leaves = let r = waiting_long n in omega (arith, r) in
        let row : AreRow waits 0 (leaves ++ nodes) = row_append waits 0 leaves nodes (waiting_row n) (subst (λ z. AreRow waits z nodes) e (nodes_row 1 waits n (n - 1))) in
        let last = Output 1 done (none_waits n) in
        names_both Any 16 17 18 (leaves ++ nodes) (last ∷ []) (omega arith) (omega arith) (waits_named (leaves ++ nodes) row) (names_one Any 17 last done refl tt done_sort done_is_name)

    top_names : (added : List ℕ) → IsCountable program added → Named Any 2 20 (top_elements program added)
    top_names added countable =
        let parts = each (at_instance program (task_part program)) (length program.instances.items) in
        let channels = each (λ s. channel_part (slice_index added s) (slice_get program.streams.items s)) (length program.streams.items) in
        names_both Any 2 18 20 ((ports program ++ wires program) ++ doneness program) (instances program added) (omega arith) (omega arith)
        (names_both Any 2 16 18 (ports program ++ wires program) (doneness program) (omega arith) (omega arith)
        (names_both Any 2 8 16 (ports program) (wires program) (omega arith) (omega arith) ports_named wires_named) done_named)
        (names_both Any 18 19 20 parts channels (omega arith) (omega arith) instances_named (channels_named (λ s. slice_index added s))) countable

    -- the wires behind those of streams, and what says when all is done, have other names than ports and streams
    pub rest_sorts : (added : List ℕ) → IsCountable program added → (y : Name)
        → Has (flat_map declared_names (each (at_instance program (parameters program)) (length program.instances.items) ++ each ended_wire (length program.instances.items)
        ++ each (λ s. take_wire (slice_get program.streams.items s)) (length program.streams.items))) y → 13 ≤ sort y
    rest_sorts added countable y h =
        let streams = each (λ s. stream_wires (slice_get program.streams.items s)) (length program.streams.items) in
        let bounds = each (at_instance program (parameters program)) (length program.instances.items) in
        let ends = each ended_wire (length program.instances.items) in
        let takes = each (λ s. take_wire (slice_get program.streams.items s)) (length program.streams.items) in
        let all : length (wires program) ≤ 2 ^ 64 =
        right_short (ports program) (wires program) (left_short (ports program ++ wires program) (doneness program) (left_short ((ports program ++ wires program) ++ doneness program) (instances program added) countable)) in
        let a = length-append ((streams ++ bounds) ++ ends) takes in
        let b = length-append (streams ++ bounds) ends in
        let c = length-append streams bounds in
        let d = length-append (bounds ++ ends) takes in
        let e = length-append bounds ends in
        let t = names_both Any 13 15 16 (bounds ++ ends) takes (omega arith) (omega arith) (names_both Any 13 14 15 bounds ends (omega arith) (omega arith) bounds_named ends_named) takes_named (omega (arith, all, a, b, c, d, e)) in
        (t.names y h).from

    pub done_sorts : (added : List ℕ) → IsCountable program added → (y : Name) → Has (flat_map declared_names (doneness program)) y → 16 ≤ sort y
    done_sorts added countable y h =
        let short = right_short (ports program ++ wires program) (doneness program) (left_short ((ports program ++ wires program) ++ doneness program) (instances program added) countable) in
        ((done_named short).names y h).from

-- ---- the whole

first_apart : (x : Name) → Has (clk ∷ []) x → Has (rst ∷ []) x → ⊥
first_apart x (inl e) (inl f) = let s : sort clk ≡ sort rst = ap sort (e ∙ sym f) in let c = clk_sort in let r = rst_sort in omega (arith, s, c, r)
first_apart x (inl e) (inr n) = absurd n
first_apart x (inr n) h = absurd n

first_low : (x : Name) → Has (clk ∷ rst ∷ []) x → sort x < 2
first_low x (inl e) = let s : sort clk ≡ sort x = ap sort e in let c = clk_sort in omega (arith, s, c)
first_low x (inr (inl e)) = let s : sort rst ≡ sort x = ap sort e in let c = rst_sort in omega (arith, s, c)
first_low x (inr (inr n)) = absurd n

pub top_once : TopNamesAreOnce
top_once program added ok own countable =
    let t = top_names program own ok added countable in
    two_once (clk ∷ rst ∷ []) (flat_map declared_names (top_elements program added)) (two_once (clk ∷ []) (rst ∷ []) (single clk) (single rst) first_apart) t.once
    (λ x h k. let l = first_low x h in let f = (t.names x k).from in omega (arith, l, f))

pub top_named : TopNetsAreNamed
top_named program added ok own countable =
    let t = top_names program own ok added countable in
    all_named (flat_map declared_names (top_elements program added)) (λ x h. (t.names x h).named)
