-- The ports of an instance and of a channel have the numbers of the nets of the top that they are joined to.
use Rattle.std.proofs.Common.{◌≡◌, ℕ, ◌<◌, List, [], ◌∷◌, ◌++◌, length, Bool, true, false, Some, inl, inr, refl, sym, subst}
use Rattle.std.specs.Prelude.{slice_get, slice_index, codes, if◌then◌else◌}
use Rattle.tapa_syntax.specs.LeafKinds.{writes_of}
use Rattle.tapa_syntax.specs.declared.program.Instance.{Instance}
use Rattle.tapa_syntax.specs.declared.program.Leaf.{Leaf}
use Rattle.tapa_syntax.specs.declared.program.Program.{Program}
use Rattle.tapa_syntax.specs.declared.program.Stream.{Stream}
use Rattle.vlog_tree.specs.declared.tree.Connection.{Connection}
use Rattle.vlog_tree.specs.declared.tree.Item.TheVariants.{Instance as InstanceLine}
use Rattle.vlog_tree.specs.Cycle.{Cycle, Path, Runs}
use Rattle.vlog_tree.specs.Form.{ModuleTree}
use Rattle.tapa_base.specs.Lists.{Has}
use Rattle.vlog_tree.specs.Labels.{rst, s_din, s_wr, s_rdy, m_ack, m_rdata, m_addr, m_wdata, m_we}
use Rattle.vlog_tree.specs.Table.{Name}
use Rattle.tapa_base.proofs.Lists.{has_left, has_right}
use Rattle.vlog_module_laws.proofs.Lines.{connection_holds}
use Rattle.hw_build.specs.Elements.{Instance as InstanceElement}
use Rattle.hw_build.proofs.Driven.{line_there}
use Rattle.hw_build.specs.Scope.{each}
use Rattle.hw_build.proofs.Parts.{has_each}
use Rattle.hw_channel_lines.specs.Names.{channel_name}
use Rattle.hw_channel_lines.specs.Texts.{clocks, connected_to}
use Rattle.hw_lines.specs.declared.nets.Net.TheVariants.{Done, Scalar as ScalarPort, Has as HasPort, Dout, Taken, Din, Wr, Rdy, Ack, Rdata, Addr, Wdata, We}
use Rattle.hw_lines.specs.Nets.{name}
use Rattle.hw_lines.specs.Texts.{task_name}
use Rattle.hw_task_laws.proofs.steps.Allowed.{stream_there, side_is}
use Rattle.hw_top_lines.specs.Bounds.{bound_by}
use Rattle.hw_top_lines.specs.Names.{s_has, s_dout, s_take, task_instance, channel_instance, ended_net}
use Rattle.hw_top_lines.specs.Texts.{token_bits, top_elements, top_tree, stream_label, memory_name, scalar_connections, written_connections, read_connections, stream_connections, named_connections, memory_connections, task_connections, channel_connections}
use Rattle.hw_top_laws.proofs.runs.Elements.{task_there, channel_there}

module _ (program : Program) (added : List ℕ) (all : List ModuleTree) (nets : ℕ → Path → Cycle) (runs : Runs all (top_tree program added) nets) where
  joined_at : (k i : Name) (ls : List Connection) → Has (top_elements program added) (InstanceElement k i ls) → (n : ℕ) (port net : Name) → Has ls (connected_to port net) → (nets n (i ∷ [])).net port ≡ (nets n []).net net
  joined_at k i ls there n port net h =
      connection_holds all (top_tree program added) nets runs n [] (top_tree program added) refl k i ls
      (line_there (task_name program.top) (top_elements program added) (InstanceElement k i ls) (InstanceLine k i ls) there (inl refl)) (connected_to port net) h

  module _ (i : ℕ) (x : Instance) (leaf : Leaf) (at : slice_get program.instances.items i ≡ Some x) (body : slice_get program.bodies.items x.body ≡ Some leaf) where
    abbrev run : ℕ → Cycle
    run n = nets n (task_instance x.label ∷ [])

    abbrev first : List Connection
    first = clocks (connected_to (name Done) (ended_net i) ∷ [])

    abbrev scalars : List Connection
    scalars = each (scalar_connections i x) (length leaf.scalars.items)

    abbrev streams : List Connection
    streams = each (stream_connections program x leaf) (length leaf.streams.items)

    abbrev memories : List Connection
    memories = each (memory_connections program x) (length leaf.memories.items)

    port_at : (n : ℕ) (port net : Name) → Has (task_connections program i x leaf) (connected_to port net) → (run n).net port ≡ (nets n []).net net
    port_at n port net h = joined_at (task_name leaf.name) (task_instance x.label) (task_connections program i x leaf) (task_there program added i x leaf at body) n port net h

    in_first : (c : Connection) → Has first c → Has (task_connections program i x leaf) c
    in_first c h = has_left (first ++ scalars ++ streams) memories c (has_left (first ++ scalars) streams c (has_left first scalars c h))

    pub reset_at : (n : ℕ) → (run n).net rst ≡ (nets n []).net rst
    unfolding rst
    reset_at n = port_at n (codes "rst") (codes "rst") (in_first (connected_to (codes "rst") (codes "rst")) (inr (inl refl)))

    pub done_at : (n : ℕ) → (run n).net (name Done) ≡ (nets n []).net (ended_net i)
    done_at n = port_at n (name Done) (ended_net i) (in_first (connected_to (name Done) (ended_net i)) (inr (inr (inl refl))))

    pub scalar_at : (n p : ℕ) → p < length leaf.scalars.items → (run n).net (name (ScalarPort p)) ≡ (nets n []).net (bound_by i p (slice_get x.scalars.items p))
    scalar_at n p l =
        let c = connected_to (name (ScalarPort p)) (bound_by i p (slice_get x.scalars.items p)) in
        port_at n (name (ScalarPort p)) (bound_by i p (slice_get x.scalars.items p))
        (has_left (first ++ scalars ++ streams) memories c (has_left (first ++ scalars) streams c (has_right first scalars c (has_each (scalar_connections i x) (length leaf.scalars.items) p c l (inl refl)))))

    -- ---- streams

    abbrev label : ℕ → Name
    label p = stream_label program (slice_index x.streams.items p)

    stream_at : (n p : ℕ) (port net : Name) → p < length leaf.streams.items → Has (stream_connections program x leaf p) (connected_to port net) → (run n).net port ≡ (nets n []).net net
    stream_at n p port net l h =
        let c = connected_to port net in
        port_at n port net
        (has_left (first ++ scalars ++ streams) memories c (has_right (first ++ scalars) streams c (has_each (stream_connections program x leaf) (length leaf.streams.items) p c l h)))

    of_side : (b : Bool) (p : ℕ) (c : Connection) → writes_of leaf.streams.items p ≡ Some b → Has (if b then written_connections p (label p) else read_connections p (label p)) c → Has (stream_connections program x leaf p) c
    of_side b p c w h = subst (λ z. Has (if z then written_connections p (label p) else read_connections p (label p)) c) (sym (side_is (slice_get leaf.streams.items p) b w)) h

    module _ (p : ℕ) (w : writes_of leaf.streams.items p ≡ Some true) where
      pub ready_at : (n : ℕ) → (run n).net (name (Rdy p)) ≡ (nets n []).net (s_rdy (label p))
      ready_at n = stream_at n p (name (Rdy p)) (s_rdy (label p)) (stream_there leaf.streams.items p true w) (of_side true p (connected_to (name (Rdy p)) (s_rdy (label p))) w (inl refl))

      pub write_at : (n : ℕ) → (run n).net (name (Wr p)) ≡ (nets n []).net (s_wr (label p))
      write_at n = stream_at n p (name (Wr p)) (s_wr (label p)) (stream_there leaf.streams.items p true w) (of_side true p (connected_to (name (Wr p)) (s_wr (label p))) w (inr (inl refl)))

      pub put_at : (n : ℕ) → (run n).net (name (Din p)) ≡ (nets n []).net (s_din (label p))
      put_at n = stream_at n p (name (Din p)) (s_din (label p)) (stream_there leaf.streams.items p true w) (of_side true p (connected_to (name (Din p)) (s_din (label p))) w (inr (inr (inl refl))))

    module _ (p : ℕ) (r : writes_of leaf.streams.items p ≡ Some false) where
      pub there_at : (n : ℕ) → (run n).net (name (HasPort p)) ≡ (nets n []).net (s_has (label p))
      there_at n = stream_at n p (name (HasPort p)) (s_has (label p)) (stream_there leaf.streams.items p false r) (of_side false p (connected_to (name (HasPort p)) (s_has (label p))) r (inl refl))

      pub token_at : (n : ℕ) → (run n).net (name (Dout p)) ≡ (nets n []).net (s_dout (label p))
      token_at n = stream_at n p (name (Dout p)) (s_dout (label p)) (stream_there leaf.streams.items p false r) (of_side false p (connected_to (name (Dout p)) (s_dout (label p))) r (inr (inl refl)))

      pub take_at : (n : ℕ) → (run n).net (name (Taken p)) ≡ (nets n []).net (s_take (label p))
      take_at n = stream_at n p (name (Taken p)) (s_take (label p)) (stream_there leaf.streams.items p false r) (of_side false p (connected_to (name (Taken p)) (s_take (label p))) r (inr (inr (inl refl))))

    -- ---- memories

    module _ (p : ℕ) (l : p < length leaf.memories.items) where
      abbrev memory : Name
      memory = memory_name program (slice_index x.memories.items p)

      memory_at : (n : ℕ) (port net : Name) → Has (named_connections p memory) (connected_to port net) → (run n).net port ≡ (nets n []).net net
      memory_at n port net h =
          let c = connected_to port net in
          port_at n port net
          (has_right (first ++ scalars ++ streams) memories c (has_each (memory_connections program x) (length leaf.memories.items) p c l h))

      pub ack_at : (n : ℕ) → (run n).net (name (Ack p)) ≡ (nets n []).net (m_ack memory)
      ack_at n = memory_at n (name (Ack p)) (m_ack memory) (inl refl)

      pub answer_at : (n : ℕ) → (run n).net (name (Rdata p)) ≡ (nets n []).net (m_rdata memory)
      answer_at n = memory_at n (name (Rdata p)) (m_rdata memory) (inr (inl refl))

      pub place_at : (n : ℕ) → (run n).net (name (Addr p)) ≡ (nets n []).net (m_addr memory)
      place_at n = memory_at n (name (Addr p)) (m_addr memory) (inr (inr (inl refl)))

      pub cell_at : (n : ℕ) → (run n).net (name (Wdata p)) ≡ (nets n []).net (m_wdata memory)
      cell_at n = memory_at n (name (Wdata p)) (m_wdata memory) (inr (inr (inr (inl refl))))

      pub store_at : (n : ℕ) → (run n).net (name (We p)) ≡ (nets n []).net (m_we memory)
      store_at n = memory_at n (name (We p)) (m_we memory) (inr (inr (inr (inr (inl refl)))))

  -- ---- channels

  module _ (s : ℕ) (r : Stream) (at : slice_get program.streams.items s ≡ Some r) where
    channel_at : (n : ℕ) (port net : Name) → Has (channel_connections r.label) (connected_to port net) → (nets n (channel_instance r.label ∷ [])).net port ≡ (nets n []).net net
    channel_at n port net h =
        joined_at (channel_name (token_bits r.kind) r.depth (slice_index added s)) (channel_instance r.label) (channel_connections r.label) (channel_there program added s r at) n port net h

    pub channel_reset : (n : ℕ) → (nets n (channel_instance r.label ∷ [])).net rst ≡ (nets n []).net rst
    unfolding rst
    channel_reset n = channel_at n (codes "rst") (codes "rst") (inr (inl refl))

    pub channel_din : (n : ℕ) → (nets n (channel_instance r.label ∷ [])).net (codes "din") ≡ (nets n []).net (s_din r.label)
    channel_din n = channel_at n (codes "din") (s_din r.label) (inr (inr (inl refl)))

    pub channel_wr : (n : ℕ) → (nets n (channel_instance r.label ∷ [])).net (codes "wr") ≡ (nets n []).net (s_wr r.label)
    channel_wr n = channel_at n (codes "wr") (s_wr r.label) (inr (inr (inr (inl refl))))

    pub channel_take : (n : ℕ) → (nets n (channel_instance r.label ∷ [])).net (codes "take") ≡ (nets n []).net (s_take r.label)
    channel_take n = channel_at n (codes "take") (s_take r.label) (inr (inr (inr (inr (inl refl)))))

    pub channel_rdy : (n : ℕ) → (nets n (channel_instance r.label ∷ [])).net (codes "rdy") ≡ (nets n []).net (s_rdy r.label)
    channel_rdy n = channel_at n (codes "rdy") (s_rdy r.label) (inr (inr (inr (inr (inr (inl refl))))))

    pub channel_has : (n : ℕ) → (nets n (channel_instance r.label ∷ [])).net (codes "has") ≡ (nets n []).net (s_has r.label)
    channel_has n = channel_at n (codes "has") (s_has r.label) (inr (inr (inr (inr (inr (inr (inl refl)))))))

    pub channel_dout : (n : ℕ) → (nets n (channel_instance r.label ∷ [])).net (codes "dout") ≡ (nets n []).net (s_dout r.label)
    channel_dout n = channel_at n (codes "dout") (s_dout r.label) (inr (inr (inr (inr (inr (inr (inr (inl refl))))))))
