-- No net is driven by two instances of the top, or by two outputs of one, and each link and each outlet by one.
use Rattle.std.proofs.Common.{◌≡◌, ℕ, ◌^◌, ◌<◌, ◌≤◌, Bool, true, false, cond, eqb, List, [], ◌∷◌, ◌++◌, length, Option, Some, None, inl, inr, refl, sym, ap, subst, ◌∙◌, arith, ⊎_elim}
use Rattle.std.specs.Prelude.{◌⊎◌, codes, option_map, slice_get, slice_index}
use Rattle.std.specs.List.{list_all, flat_map}
use Rattle.std.proofs.lemmas.List.{append-nil}
use Rattle.std.proofs.lemmas.Grind.{flat_map-append}
use Rattle.tapa_syntax.specs.declared.program.End.{End}
use Rattle.tapa_syntax.specs.declared.program.Instance.{Instance}
use Rattle.tapa_syntax.specs.declared.program.Leaf.{Leaf}
use Rattle.tapa_syntax.specs.declared.program.Memory.{Memory}
use Rattle.tapa_syntax.specs.declared.program.Program.{Program}
use Rattle.tapa_syntax.specs.declared.program.Stream.{Stream}
use Rattle.tapa_syntax.specs.LeafKinds.{writes_of}
use Rattle.tapa_syntax.specs.WellFormed.{IsEndOf}
use Rattle.task_fsm.specs.declared.machine.Fsm.{Fsm}
use Rattle.tapa_base.specs.Lists.{Has}
use Rattle.vlog_tree.specs.Labels.{m_addr, m_wdata, m_we, s_din, s_wr, s_rdy}
use Rattle.vlog_tree.specs.Names.{goes_on}
use Rattle.vlog_tree.specs.Table.{Name}
use Rattle.tapa_base.proofs.Lists.{has_split}
use Rattle.hw_build.specs.Elements.{Element, Instance as InstanceElement}
use Rattle.hw_build.specs.Fitting.{instance_driven}
use Rattle.hw_build.specs.Scope.{each}
use Rattle.hw_build.specs.Fits.{AreOnce}
use Rattle.hw_build.proofs.Once.{two_once, parts_once}
use Rattle.hw_build.proofs.Parts.{of_each}
use Rattle.hw_channel_lines.specs.Names.{channel_name}
use Rattle.hw_lines.specs.Texts.{is_written, task_name}
use Rattle.hw_task_laws.proofs.names.Named.{single, flat_each}
use Rattle.hw_top_lines.specs.Names.{s_has, s_dout, s_take, task_instance, channel_instance, ended_net}
use Rattle.hw_top_lines.specs.Legal.{IsReady}
use Rattle.hw_top_lines.specs.Texts.{ports, of_leaf, of_instance, at_instance, stream_label, memory_name, token_bits, task_connections, task_part, doneness, channel_connections, channel_part, wires, top_elements}
use Rattle.hw_top_laws.specs.modules.Lower.{lower_modules, KeepPromises}
use Rattle.hw_top_laws.proofs.names.Made.{sort, IsMade, same_label, addr_names, wdata_names, we_names, din_names, wr_names, rdy_names, has_names, dout_names, take_names}
use Rattle.hw_top_laws.proofs.names.Bound.{ended_facts, same_ended}
use Rattle.hw_top_laws.proofs.names.Top.{memories_apart, memory_written, stream_written}
use Rattle.hw_top_laws.proofs.form.Drives.{standing_none, stream_drives, memory_drives, task_drives, channel_drives, task_driven, channel_driven}
use Rattle.hw_top_laws.proofs.form.Tasks.{IsPart, part_at, HasStream, stream_at, HasMemory, memory_at}
use Rattle.tapa_base.proofs.Got.{got_low as some_index, got_map}

-- ---- names of different sorts

other_sort : (x y : Name) (j k : ℕ) → sort x ≡ j → sort y ≡ k → (j ≡ k → ⊥) → x ≡ y → ⊥
other_sort x y j k e f h s = h (sym e ∙ ap sort s ∙ f)

pair_once : (x y : Name) → (x ≡ y → ⊥) → AreOnce (x ∷ y ∷ [])
pair_once x y h = two_once (x ∷ []) (y ∷ []) (single x) (single y) apart where
  apart : (z : Name) → Has (x ∷ []) z → Has (y ∷ []) z → ⊥
  apart z (inl e) (inl f) = h (e ∙ sym f)
  apart z (inl e) (inr n) = absurd n
  apart z (inr n) k = absurd n

triple_once : (x y z : Name) → (x ≡ y → ⊥) → (x ≡ z → ⊥) → (y ≡ z → ⊥) → AreOnce (x ∷ y ∷ z ∷ [])
triple_once x y z h k l = two_once (x ∷ []) (y ∷ z ∷ []) (single x) (pair_once y z l) apart where
  apart : (u : Name) → Has (x ∷ []) u → Has (y ∷ z ∷ []) u → ⊥
  apart u (inl e) (inl f) = h (e ∙ sym f)
  apart u (inl e) (inr (inl f)) = k (e ∙ sym f)
  apart u (inl e) (inr (inr n)) = absurd n
  apart u (inr n) i = absurd n

-- the direction of a stream's wire by its sort: `din` and `wr` are the writer's, `take` is the reader's
abbrev way : ℕ → Bool
way k = cond (eqb k 15) false true

-- what an instance drives: that it has ended, what it does to a stream at its end, or what it asks of a memory that it owns
data IsDrivenAt (program : Program) (i : ℕ) (y : Name) : Type 0 where
  Ended : y ≡ ended_net i → i < 2 ^ 64 → IsDrivenAt program i y
  Streamed : (s k : ℕ) (r : Stream) → slice_get program.streams.items s ≡ Some r → IsEndOf i (way k) r → IsMade (codes "s_") k r.label y → (k ≡ 8) ⊎ ((k ≡ 9) ⊎ (k ≡ 15)) → IsDrivenAt program i y
  Stored : (m k : ℕ) (r : Memory) → slice_get program.memories.items m ≡ Some r → r.owner ≡ i → IsMade (codes "m_") k r.name y → k < 8 → IsDrivenAt program i y

-- what a channel drives
data IsAnswer (program : Program) (s : ℕ) (y : Name) : Type 0 where
  Answered : (k : ℕ) (r : Stream) → slice_get program.streams.items s ≡ Some r → IsMade (codes "s_") k r.label y → 10 ≤ k → k < 13 → IsAnswer program s y

same_end : (i j : ℕ) (b : Bool) (r : Stream) → IsEndOf i b r → IsEndOf j b r → i ≡ j
same_end i j true r a b = sym a ∙ b
same_end i j false r a b = sym a ∙ b

got_same : {A : Type 0} (xs : List A) (i j : ℕ) (a b : A) → i ≡ j → slice_get xs i ≡ Some a → slice_get xs j ≡ Some b → a ≡ b
got_same xs i j a b e g h = let s : Some a ≡ Some b = sym g ∙ ap (slice_get xs) e ∙ h in cc

module _ (program : Program) (machines : List Fsm) (added : List ℕ) (ready : IsReady program machines added) (kept : KeepPromises program machines) where
  abbrev drives : Element → List Name
  drives e = instance_driven (lower_modules program machines added) e

  -- ---- who drives a net

  one_stream : (s t : ℕ) (r q : Stream) → slice_get program.streams.items s ≡ Some r → slice_get program.streams.items t ≡ Some q → r.label ≡ q.label → s ≡ t
  one_stream s t r q g h e =
      ready.told_apart.streams s t r.label (got_map (λ (r : Stream). r.label) program.streams.items s r g) (got_map (λ (r : Stream). r.label) program.streams.items t q h ∙ ap Some (sym e))

  one_memory : (m n : ℕ) (r q : Memory) → slice_get program.memories.items m ≡ Some r → slice_get program.memories.items n ≡ Some q → r.name ≡ q.name → m ≡ n
  one_memory m n r q g h e =
      memories_apart program ready.told_apart m n r.name (got_map (λ (r : Memory). r.name) program.memories.items m r g) (got_map (λ (r : Memory). r.name) program.memories.items n q h ∙ ap Some (sym e))

  ended_sort : (i : ℕ) (y : Name) → y ≡ ended_net i → i < 2 ^ 64 → sort y ≡ 14
  ended_sort i y e small = ap sort e ∙ (ended_facts i small).0

  told_driver : (i j : ℕ) (y : Name) → IsDrivenAt program i y → IsDrivenAt program j y → i ≡ j
  told_driver i j y (Ended e a) (Ended f b) = same_ended i j a b (sym e ∙ f)
  told_driver i j y (Ended e a) (Streamed s k r g w m o) = let t = ended_sort i y e a in let u = m.sorted in absurd (omega (arith, t, u, o))
  told_driver i j y (Ended e a) (Stored n k r g w m o) = let t = ended_sort i y e a in let u = m.sorted in absurd (omega (arith, t, u, o))
  told_driver i j y (Streamed s k r g w m o) (Ended e a) = let t = ended_sort j y e a in let u = m.sorted in absurd (omega (arith, t, u, o))
  told_driver i j y (Streamed s k r g w m o) (Streamed t l q h v n p) =
      let sorts : k ≡ l = sym m.sorted ∙ n.sorted in
      let labels : r.label ≡ q.label = same_label (codes "s_") k l r.label q.label y m n in
      let same : r ≡ q = got_same program.streams.items s t r q (one_stream s t r q g h labels) g h in
      same_end i j (way k) r w (subst (λ (z : Stream). IsEndOf j (way k) z) (sym same) (subst (λ z. IsEndOf j (way z) q) (sym sorts) v))
  told_driver i j y (Streamed s k r g w m o) (Stored t l q h v n p) = let a = m.sorted in let b = n.sorted in absurd (omega (arith, a, b, o, p))
  told_driver i j y (Stored t k r g w m o) (Ended e a) = let t = ended_sort j y e a in let u = m.sorted in absurd (omega (arith, t, u, o))
  told_driver i j y (Stored t k r g w m o) (Streamed s l q h v n p) = let a = m.sorted in let b = n.sorted in absurd (omega (arith, a, b, o, p))
  told_driver i j y (Stored s k r g w m o) (Stored t l q h v n p) =
      let names : r.name ≡ q.name = same_label (codes "m_") k l r.name q.name y m n in
      let same : r ≡ q = got_same program.memories.items s t r q (one_memory s t r q g h names) g h in
      sym w ∙ ap (λ (z : Memory). z.owner) same ∙ v

  told_channel : (s t : ℕ) (y : Name) → IsAnswer program s y → IsAnswer program t y → s ≡ t
  told_channel s t y (Answered k r g m a b) (Answered l q h n c d) = one_stream s t r q g h (same_label (codes "s_") k l r.label q.label y m n)

  no_answer : (i s : ℕ) (y : Name) → IsDrivenAt program i y → IsAnswer program s y → ⊥
  no_answer i s y (Ended e small) (Answered k r g m a b) = let t = ended_sort i y e small in let u = m.sorted in omega (arith, t, u, a, b)
  no_answer i s y (Streamed t l q h v n o) (Answered k r g m a b) = let t = n.sorted in let u = m.sorted in omega (arith, t, u, a, b, o)
  no_answer i s y (Stored t l q h v n o) (Answered k r g m a b) = let t = n.sorted in let u = m.sorted in omega (arith, t, u, a, b, o)

  record Driven (P : Name → Type 0) (ys : List Name) : Type 0 where
    once : AreOnce ys
    of : (y : Name) → Has ys y → P y

  none_driven : (P : Name → Type 0) → Driven P []
  none_driven P = record { once = λ y. omega arith; of = λ y h. absurd h }

  -- ---- an instance of a task

  module _ (i : ℕ) (x : Instance) (leaf : Leaf) (part : IsPart program machines added ready kept i x leaf) where
    abbrev at : (p : ℕ) → p < length leaf.streams.items → HasStream program machines added ready kept i x leaf part p
    at p l = stream_at program machines added ready kept i x leaf part p l

    abbrev stored_at : (p : ℕ) → p < length leaf.memories.items → HasMemory program machines added ready kept i x leaf part p
    stored_at p l = memory_at program machines added ready kept i x leaf part p l

    abbrev label : ℕ → Name
    label p = stream_label program (slice_index x.streams.items p)

    abbrev title : ℕ → Name
    title p = memory_name program (slice_index x.memories.items p)

    label_written : (p : ℕ) → p < length leaf.streams.items → list_all goes_on (label p) ≡ true
    label_written p l =
        let s = at p l in
        subst (λ z. list_all goes_on z ≡ true) (sym s.label) (stream_written program ready.told_apart s.number s.at.stream s.at.is)

    title_written : (p : ℕ) → p < length leaf.memories.items → list_all goes_on (title p) ≡ true
    title_written p l =
        let m = stored_at p l in
        subst (λ z. list_all goes_on z ≡ true) (sym m.title) (memory_written program ready.told_apart m.number m.at.memory m.at.is)

    -- a wire of the stream at a position
    record IsWire (p : ℕ) (y : Name) : Type 0 where
      within : p < length leaf.streams.items
      sort_is : ℕ
      made : IsMade (codes "s_") sort_is (label p) y
      goes : is_written (slice_get leaf.streams.items p) ≡ way sort_is
      few : (sort_is ≡ 8) ⊎ ((sort_is ≡ 9) ⊎ (sort_is ≡ 15))

    wire_of : (p : ℕ) → p < length leaf.streams.items → (b : Bool) → is_written (slice_get leaf.streams.items p) ≡ b → (y : Name) → Has (cond b (s_wr (label p) ∷ s_din (label p) ∷ []) (s_take (label p) ∷ [])) y → IsWire p y
    wire_of p l true e y (inl f) = subst (IsWire p) f (record { within = l; sort_is = 9; made = wr_names.made (label p) (label_written p l); goes = e; few = inr (inl refl) })
    wire_of p l true e y (inr (inl f)) = subst (IsWire p) f (record { within = l; sort_is = 8; made = din_names.made (label p) (label_written p l); goes = e; few = inl refl })
    wire_of p l true e y (inr (inr n)) = absurd n
    wire_of p l false e y (inl f) = subst (IsWire p) f (record { within = l; sort_is = 15; made = take_names.made (label p) (label_written p l); goes = e; few = inr (inr refl) })
    wire_of p l false e y (inr n) = absurd n

    wires_once : (p : ℕ) → p < length leaf.streams.items → (b : Bool) → AreOnce (cond b (s_wr (label p) ∷ s_din (label p) ∷ []) (s_take (label p) ∷ []))
    wires_once p l true =
        let w = label_written p l in
        pair_once (s_wr (label p)) (s_din (label p)) (other_sort (s_wr (label p)) (s_din (label p)) 9 8 (wr_names.made (label p) w).sorted (din_names.made (label p) w).sorted (λ e. omega arith))
    wires_once p l false = single (s_take (label p))

    writes_is : (p : ℕ) (s : HasStream program machines added ready kept i x leaf part p) → writes_of leaf.streams.items p ≡ Some s.end.writes
    writes_is p s = ap (option_map (λ (e : End). e.writes)) s.got_end

    goes_is : (p : ℕ) (s : HasStream program machines added ready kept i x leaf part p) → is_written (slice_get leaf.streams.items p) ≡ s.end.writes
    goes_is p s = ap is_written s.got_end

    told_position : (p q : ℕ) (y : Name) → IsWire p y → IsWire q y → p ≡ q
    told_position p q y a b =
        let s = at p a.within in
        let t = at q b.within in
        let labels : s.at.stream.label ≡ t.at.stream.label = sym s.label ∙ same_label (codes "s_") a.sort_is b.sort_is (label p) (label q) y a.made b.made ∙ t.label in
        let numbers : s.number ≡ t.number = one_stream s.number t.number s.at.stream t.at.stream s.at.is t.at.is labels in
        let sorts : a.sort_is ≡ b.sort_is = sym a.made.sorted ∙ b.made.sorted in
        let ways : s.end.writes ≡ t.end.writes = sym (goes_is p s) ∙ a.goes ∙ ap way sorts ∙ sym b.goes ∙ goes_is q t in
        part.fits.streams_once p q s.number s.end.writes s.got (t.got ∙ ap Some (sym numbers)) (writes_is p s) (writes_is q t ∙ ap Some (sym ways))

    wire_driven : (p : ℕ) (y : Name) → IsWire p y → IsDrivenAt program i y
    wire_driven p y w =
        let s = at p w.within in
        Streamed s.number w.sort_is s.at.stream s.at.is (subst (λ b. IsEndOf i b s.at.stream) (sym (goes_is p s) ∙ w.goes) s.at.end) (subst (λ z. IsMade (codes "s_") w.sort_is z y) s.label w.made) w.few

    -- a port of the memory at a position
    record IsAsked (p : ℕ) (y : Name) : Type 0 where
      within : p < length leaf.memories.items
      sort_is : ℕ
      made : IsMade (codes "m_") sort_is (title p) y
      few : sort_is < 8

    asked_of : (p : ℕ) → p < length leaf.memories.items → (y : Name) → Has (memory_drives program x p) y → IsAsked p y
    asked_of p l y (inl f) = subst (IsAsked p) f (record { within = l; sort_is = 3; made = addr_names.made (title p) (title_written p l); few = omega arith })
    asked_of p l y (inr (inl f)) = subst (IsAsked p) f (record { within = l; sort_is = 4; made = wdata_names.made (title p) (title_written p l); few = omega arith })
    asked_of p l y (inr (inr (inl f))) = subst (IsAsked p) f (record { within = l; sort_is = 5; made = we_names.made (title p) (title_written p l); few = omega arith })
    asked_of p l y (inr (inr (inr n))) = absurd n

    asked_once : (p : ℕ) → p < length leaf.memories.items → AreOnce (memory_drives program x p)
    asked_once p l =
        let w = title_written p l in
        let a = (addr_names.made (title p) w).sorted in
        let d = (wdata_names.made (title p) w).sorted in
        let e = (we_names.made (title p) w).sorted in
        triple_once (m_addr (title p)) (m_wdata (title p)) (m_we (title p)) (other_sort _ _ 3 4 a d (λ s. omega arith)) (other_sort _ _ 3 5 a e (λ s. omega arith)) (other_sort _ _ 4 5 d e (λ s. omega arith))

    told_memory : (p q : ℕ) (y : Name) → IsAsked p y → IsAsked q y → p ≡ q
    told_memory p q y a b =
        let s = stored_at p a.within in
        let t = stored_at q b.within in
        let names : s.at.memory.name ≡ t.at.memory.name = sym s.title ∙ same_label (codes "m_") a.sort_is b.sort_is (title p) (title q) y a.made b.made ∙ t.title in
        let numbers : s.number ≡ t.number = one_memory s.number t.number s.at.memory t.at.memory s.at.is t.at.is names in
        part.fits.memories_once p q s.number s.got (t.got ∙ ap Some (sym numbers))

    asked_driven : (p : ℕ) (y : Name) → IsAsked p y → IsDrivenAt program i y
    asked_driven p y w =
        let s = stored_at p w.within in
        Stored s.number w.sort_is s.at.memory s.at.is s.at.owner (subst (λ z. IsMade (codes "m_") w.sort_is z y) s.title w.made) w.few

    abbrev written : List Name
    written = each (stream_drives program x leaf) (length leaf.streams.items)

    abbrev stored : List Name
    stored = each (memory_drives program x) (length leaf.memories.items)

    of_written : (y : Name) → Has written y → (p : ℕ) × IsWire p y
    of_written y h = let r = of_each (stream_drives program x leaf) (length leaf.streams.items) y h in (r.0, wire_of r.0 r.1 (is_written (slice_get leaf.streams.items r.0)) refl y r.2)

    of_stored : (y : Name) → Has stored y → (p : ℕ) × IsAsked p y
    of_stored y h = let r = of_each (memory_drives program x) (length leaf.memories.items) y h in (r.0, asked_of r.0 r.1 y r.2)

    small : i < 2 ^ 64
    small = let few = ready.well_formed.few_instances in let l = some_index program.instances.items i x part.got in omega (arith, few, l)

    task_of : (y : Name) → Has (task_drives program i x leaf) y → IsDrivenAt program i y
    task_of y (inl e) = Ended (sym e) small
    task_of y (inr h) = ⊎_elim (λ l. let w = of_written y l in wire_driven w.0 y w.1) (λ r. let w = of_stored y r in asked_driven w.0 y w.1) (has_split written stored y h)

    written_once : AreOnce written
    written_once =
        parts_once (stream_drives program x leaf) (length leaf.streams.items) (λ p l. wires_once p l (is_written (slice_get leaf.streams.items p)))
        (λ p q y l m h k.
        told_position p q y (wire_of p l (is_written (slice_get leaf.streams.items p)) refl y h) (wire_of q m (is_written (slice_get leaf.streams.items q)) refl y k))

    stored_once : AreOnce stored
    stored_once = parts_once (memory_drives program x) (length leaf.memories.items) asked_once (λ p q y l m h k. told_memory p q y (asked_of p l y h) (asked_of q m y k))

    task_once : AreOnce (task_drives program i x leaf)
    task_once =
        two_once (ended_net i ∷ []) (written ++ stored) (single (ended_net i))
        (two_once written stored written_once stored_once
        (λ y h k.
        let a = (of_written y h).1 in
        let b = (of_stored y k).1 in
        let s = a.made.sorted in
        let t = b.made.sorted in
        let f = a.few in
        let g = b.few in
        omega (arith, s, t, f, g))) ended_apart where
          ended_apart : (y : Name) → Has (ended_net i ∷ []) y → Has (written ++ stored) y → ⊥
          ended_apart y (inl e) h =
              ⊎_elim
              (λ l.
              let a = (of_written y l).1 in
              let s = a.made.sorted in
              let t = ended_sort i y (sym e) small in
              let f = a.few in
              omega (arith, s, t, f))
              (λ r.
              let a = (of_stored y r).1 in
              let s = a.made.sorted in
              let t = ended_sort i y (sym e) small in
              let f = a.few in
              omega (arith, s, t, f))
              (has_split written stored y h)
          ended_apart y (inr n) h = absurd n

    task_part_driven : Driven (IsDrivenAt program i) (flat_map drives (task_part program i x leaf))
    task_part_driven =
        let same : flat_map drives (task_part program i x leaf) ≡ task_drives program i x leaf =
        append-nil (drives (InstanceElement (task_name leaf.name) (task_instance x.label) (task_connections program i x leaf))) ∙ task_driven program machines added ready kept i x leaf part (task_instance x.label) in
        record { once = subst AreOnce (sym same) task_once; of = λ y h. task_of y (subst (λ (l : List Name). Has l y) same h) }

  leaf_driven : (i : ℕ) (x : Instance) → slice_get program.instances.items i ≡ Some x → (o : Option Leaf) → slice_get program.bodies.items x.body ≡ o → Driven (IsDrivenAt program i) (flat_map drives (of_leaf (task_part program i) x o))
  leaf_driven i x g None e = none_driven (IsDrivenAt program i)
  leaf_driven i x g (Some leaf) e = task_part_driven i x leaf (part_at program machines added ready kept i x leaf g e)

  instance_driven_at : (i : ℕ) (o : Option Instance) → slice_get program.instances.items i ≡ o → Driven (IsDrivenAt program i) (flat_map drives (of_instance program (task_part program i) o))
  instance_driven_at i None e = none_driven (IsDrivenAt program i)
  instance_driven_at i (Some x) e = leaf_driven i x e (slice_get program.bodies.items x.body) refl

  -- ---- a channel

  answers_of : (s : ℕ) (r : Stream) → slice_get program.streams.items s ≡ Some r → Driven (IsAnswer program s) (channel_drives r)
  answers_of s r g = record { once = triple_once (s_rdy r.label) (s_has r.label) (s_dout r.label) (other_sort _ _ 10 11 a.sorted b.sorted (λ e. omega arith)) (other_sort _ _ 10 12 a.sorted c.sorted (λ e. omega arith)) (other_sort _ _ 11 12 b.sorted c.sorted (λ e. omega arith)); of = of } where
    w : list_all goes_on r.label ≡ true
    w = stream_written program ready.told_apart s r g

    a : IsMade (codes "s_") 10 r.label (s_rdy r.label)
    a = rdy_names.made r.label w

    b : IsMade (codes "s_") 11 r.label (s_has r.label)
    b = has_names.made r.label w

    c : IsMade (codes "s_") 12 r.label (s_dout r.label)
    c = dout_names.made r.label w

    of : (y : Name) → Has (channel_drives r) y → IsAnswer program s y
    of y (inl e) = subst (IsAnswer program s) e (Answered 10 r g a (omega arith) (omega arith))
    of y (inr (inl e)) = subst (IsAnswer program s) e (Answered 11 r g b (omega arith) (omega arith))
    of y (inr (inr (inl e))) = subst (IsAnswer program s) e (Answered 12 r g c (omega arith) (omega arith))
    of y (inr (inr (inr n))) = absurd n

  channel_driven_at : (s : ℕ) (o : Option Stream) → slice_get program.streams.items s ≡ o → Driven (IsAnswer program s) (flat_map drives (channel_part (slice_index added s) o))
  channel_driven_at s None e = none_driven (IsAnswer program s)
  channel_driven_at s (Some r) e =
      let k = channel_name (token_bits r.kind) r.depth (slice_index added s) in
      let same : flat_map drives (channel_part (slice_index added s) (Some r)) ≡ channel_drives r =
      append-nil (drives (InstanceElement k (channel_instance r.label) (channel_connections r.label))) ∙ channel_driven program machines added ready kept s r e (channel_instance r.label) in
      let d = answers_of s r e in
      record { once = subst AreOnce (sym same) d.once; of = λ y h. d.of y (subst (λ (l : List Name). Has l y) same h) }

  -- ---- all of them

  abbrev tasks : List Element
  tasks = each (at_instance program (task_part program)) (length program.instances.items)

  abbrev channels : List Element
  channels = each (λ s. channel_part (slice_index added s) (slice_get program.streams.items s)) (length program.streams.items)

  tasks_driven : Driven (λ y. (i : ℕ) × IsDrivenAt program i y) (flat_map drives tasks)
  tasks_driven =
      let f = λ (i : ℕ). flat_map drives (at_instance program (task_part program) i) in
      let same : flat_map drives tasks ≡ each f (length program.instances.items) = flat_each drives (at_instance program (task_part program)) (length program.instances.items) in
      let d = λ (i : ℕ). instance_driven_at i (slice_get program.instances.items i) refl in
      record {
        once = subst AreOnce (sym same) (parts_once f (length program.instances.items) (λ i l. (d i).once) (λ i j y l m h k. told_driver i j y ((d i).of y h) ((d j).of y k)));
        of = λ y h. let r = of_each f (length program.instances.items) y (subst (λ (l : List Name). Has l y) same h) in (r.0, (d r.0).of y r.2);
      }

  channels_driven : Driven (λ y. (s : ℕ) × IsAnswer program s y) (flat_map drives channels)
  channels_driven =
      let f = λ (s : ℕ). flat_map drives (channel_part (slice_index added s) (slice_get program.streams.items s)) in
      let same : flat_map drives channels ≡ each f (length program.streams.items) = flat_each drives (λ s. channel_part (slice_index added s) (slice_get program.streams.items s)) (length program.streams.items) in
      let d = λ (s : ℕ). channel_driven_at s (slice_get program.streams.items s) refl in
      record {
        once = subst AreOnce (sym same) (parts_once f (length program.streams.items) (λ s l. (d s).once) (λ s t y l m h k. told_channel s t y ((d s).of y h) ((d t).of y k)));
        of = λ y h. let r = of_each f (length program.streams.items) y (subst (λ (l : List Name). Has l y) same h) in (r.0, (d r.0).of y r.2);
      }

  pub top_drives : flat_map drives (top_elements program added) ≡ flat_map drives tasks ++ flat_map drives channels
  top_drives =
      let front = ports program ++ wires program ++ doneness program in
      let none = standing_none drives program (λ w x v. refl) (λ w x. refl) (λ v. refl) (λ w x. refl) (λ w x. refl) in
      flat_map-append drives front (tasks ++ channels) ∙ ap (λ l. l ++ flat_map drives (tasks ++ channels)) none ∙ flat_map-append drives tasks channels

  pub driven_once : AreOnce (flat_map drives (top_elements program added))
  driven_once =
      subst AreOnce (sym top_drives)
      (two_once (flat_map drives tasks) (flat_map drives channels) tasks_driven.once channels_driven.once (λ y h k. let a = tasks_driven.of y h in let b = channels_driven.of y k in no_answer a.0 b.0 y a.1 b.1))
