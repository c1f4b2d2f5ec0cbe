-- The ports of an instance of a program, and the streams that they are bound to.
use Rattle.std.proofs.Common.{◌≡◌, ℕ, zero, suc, List, [], ◌∷◌, Bool, true, false, Option, Some, None, inl, inr, refl, sym, ap, ◌∙◌, subst}
use Rattle.std.specs.Prelude.{slice_get, option_map}
use Rattle.std.proofs.lemmas.Option.{get_or_from_slice_get}
use Rattle.tapa_syntax.specs.LeafKinds.{writes_of}
use Rattle.tapa_syntax.specs.WellFormed.{IsInstance, IsJoined, IsWellFormed}
use Rattle.tapa_syntax.specs.declared.program.End.{End}
use Rattle.tapa_syntax.specs.declared.program.Instance.{Instance}
use Rattle.tapa_syntax.specs.declared.program.Leaf.{Leaf}
use Rattle.tapa_syntax.specs.declared.program.Program.{Program}
use Rattle.tapa_syntax.specs.declared.program.Stream.{Stream}
use Rattle.kahn_model.specs.ProgramNetwork.{network_with, stream_at, end_of}
use Rattle.kahn_model.specs.Trace.{State}
use Rattle.kahn_model.proofs.WellFormed.{get_there, bound_end}
use Rattle.task_fsm.specs.declared.machine.Fsm.{Fsm}
use Rattle.task_fsm.specs.Lowered.{IsLowered}
use Rattle.task_fsm.specs.Machine.{forms_of, StateForm, ReadAt, WriteAt, PeekAt, EotAt, OpenAt, CloseAt}
use Rattle.task_fsm.specs.Ranges.{Ranges, ranges_of, IsInRange, AreInRange}
use Rattle.hw_lines.specs.Signals.{Streams}
use Rattle.hw_lines.specs.Machine.{put_in}
use Rattle.hw_network_laws.specs.network.Ports.{UsesPorts, UsesPortsAt, IsAtPort, IsLinked, HasPorts, AreWired}

uses_form : (r : Ranges) (p : StateForm) → IsInRange r p → UsesPorts r.writes p
uses_form r (ReadAt p into next) h = h.0
uses_form r (WriteAt p e next) h = h.0
uses_form r (PeekAt p into next) h = h.0
uses_form r (EotAt p into next) h = h.0
uses_form r (OpenAt p next) h = h.0
uses_form r (CloseAt p next) h = h.0
uses_form r _ h = tt

uses_at : (r : Ranges) (places : List StateForm) → AreInRange r places → (pc : ℕ) → UsesPortsAt r.writes (slice_get places pc)
uses_at r [] h pc = tt
uses_at r (p ∷ places) h zero = uses_form r p h.0
uses_at r (p ∷ places) h (suc pc) = uses_at r places h.1 pc

pub lowered_uses : (leaf : Leaf) (fsm : Fsm) → IsLowered leaf fsm → (pc : ℕ) → UsesPortsAt (writes_of leaf.streams.items) (slice_get (forms_of fsm.states.items) pc)
lowered_uses leaf fsm low pc = uses_at (ranges_of leaf fsm) (forms_of fsm.states.items) low.in_range pc

same_some : {A : Type 0} (o : Option A) (a b : A) → o ≡ Some a → o ≡ Some b → a ≡ b
same_some o a b e f = cc

some_end : (o : Option End) (b : Bool) → option_map (λ (e : End). e.writes) o ≡ Some b → (e : End) × (o ≡ Some e)
some_end None b h = absurd (cc)
some_end (Some e) b h = (e, refl)

module _ (program : Program) (w : IsWellFormed program) (i : ℕ) (x : Instance) (leaf : Leaf) (at : slice_get program.instances.items i ≡ Some x) (body : slice_get program.bodies.items x.body ≡ Some leaf) where
  pub is_instance : IsInstance program i x leaf
  is_instance =
      let h = w.instances i x at in
      subst (λ l. IsInstance program i x l) (same_some (slice_get program.bodies.items x.body) h.0 leaf h.1.body body) h.1

  there : (p : ℕ) (b : Bool) → writes_of leaf.streams.items p ≡ Some b → slice_get x.streams.items p ≡ Some (stream_at x p)
  there p b e =
      let f = some_end (slice_get leaf.streams.items p) b e in
      get_there x.streams.items leaf.streams.items p f.0 is_instance.streams_len f.1 0

  -- the port of instance i that a stream is joined to
  port_of : (j s : ℕ) (b : Bool) → j ≡ i → IsJoined program j s b → (p : ℕ) × (writes_of leaf.streams.items p ≡ Some b) × (stream_at x p ≡ s)
  port_of j s b own g =
      let here : g.instance ≡ x = same_some (slice_get program.instances.items j) g.instance x g.is (ap (slice_get program.instances.items) own ∙ at) in
      let its : g.leaf ≡ leaf = same_some (slice_get program.bodies.items x.body) g.leaf leaf (ap (λ (y : Instance). slice_get program.bodies.items y.body) (sym here) ∙ g.leaf_is) body in (
        g.position,
        ap (λ (l : Leaf). writes_of l.streams.items g.position) (sym its) ∙ g.writes,
        get_or_from_slice_get x.streams.items g.position s 0 (ap (λ (y : Instance). slice_get y.streams.items g.position) (sym here) ∙ g.stream),
      )

  pub has_ports : HasPorts program i x leaf
  has_ports = record {
    distinct = λ p q b wp wq e. is_instance.streams_once p q (stream_at x p) b (there p b wp) (there q b wq ∙ ap Some (sym e)) wp wq;
    inside = λ p b e. let f = bound_end program i x leaf is_instance p b e in (f.0, f.1);
    reader = λ s r is own. port_of r.consumer s false own (w.streams s r is).read;
    writer = λ s r is own. port_of r.producer s true own (w.streams s r is).written;
  }

  module _ (first : ℕ → State) (ports S : Streams) (a : AreWired program x leaf ports S) where
    -- a number that is no stream's is at no port
    no_port : (s p : ℕ) (b : Bool) → slice_get program.streams.items s ≡ None → writes_of leaf.streams.items p ≡ Some b → stream_at x p ≡ s → ⊥
    no_port s p b none e f =
        let g = has_ports.inside p b e in
        let bad : Some g.0 ≡ None = sym g.1 ∙ ap (slice_get program.streams.items) f ∙ none in cc

    at_reader : (s : ℕ) (o : Option Stream) → slice_get program.streams.items s ≡ o → end_of (λ (r : Stream). r.consumer) o ≡ i → IsAtPort (stream_at x) (writes_of leaf.streams.items) false s ((n : ℕ) → S.take s (suc n) ≡ false)
    at_reader s (Some r) is own = inl (has_ports.reader s r is own)
    at_reader s None is own = inr ((λ p e f. no_port s p false is e f), λ n. (a.still s n is).0)

    at_writer : (s : ℕ) (o : Option Stream) → slice_get program.streams.items s ≡ o → end_of (λ (r : Stream). r.producer) o ≡ i → IsAtPort (stream_at x) (writes_of leaf.streams.items) true s ((n : ℕ) → put_in S s (suc n) ≡ [])
    at_writer s (Some r) is own = inl (has_ports.writer s r is own)
    at_writer s None is own = inr ((λ p e f. no_port s p true is e f), λ n. (a.still s n is).1)

    pub linked : IsLinked (stream_at x) (writes_of leaf.streams.items) (λ s. (network_with program first).consumer s ≡ i) (λ s. (network_with program first).producer s ≡ i) ports S
    linked = record {
      has = a.has;
      dout = a.dout;
      take = a.take;
      rdy = a.rdy;
      wr = a.wr;
      din = a.din;
      reader = λ s own. at_reader s (slice_get program.streams.items s) refl own;
      writer = λ s own. at_writer s (slice_get program.streams.items s) refl own;
      distinct = λ p q b wp wq e. has_ports.distinct p q b wp wq e;
    }
