-- The positions and streams of a well-formed program are bound one to one, and its network is that of its jobs.
use Rattle.std.proofs.Common.{◌≡◌, ℕ, ◌<◌, length, Bool, true, false, Option, Some, None, refl, sym, ap, ◌∙◌, subst, inl, inr, ⊎_elim, ◌⊎◌, arith}
use Rattle.std.specs.Prelude.{slice_get, slice_index, option_map, unwrap_or}
use Rattle.std.proofs.lemmas.Option.{slice_get_within, slice_get-get_or, get_or_from_slice_get}
use Rattle.tapa_base.specs.declared.kind.Kind.TheVariants.{U64}
use Rattle.tapa_syntax.specs.declared.program.End.{End}
use Rattle.tapa_syntax.specs.declared.program.Instance.{Instance}
use Rattle.tapa_syntax.specs.declared.program.Leaf.{Leaf}
use Rattle.tapa_syntax.specs.declared.program.Program.{Program}
use Rattle.tapa_syntax.specs.declared.program.Stream.{Stream}
use Rattle.tapa_syntax.specs.LeafKinds.{writes_of}
use Rattle.tapa_syntax.specs.WellFormed.{IsEndOf, IsStreamAt, IsInstance, IsJoined, IsWellFormed}
use Rattle.kahn_model.specs.declared.tick.Action.{Action}
use Rattle.kahn_model.specs.declared.tick.Action.TheVariants.{Local, Put, Load, Store}
use Rattle.kahn_model.specs.Behavior.{Behavior, Finished, OutOfTurns, Act, Await}
use Rattle.kahn_model.specs.Trace.{State, at_streams}
use Rattle.kahn_model.specs.ProgramNetwork.{end_of, leaf_job, instance_job as program_job}
use Rattle.kahn_model.specs.Start.{first_state, network_of}
use Rattle.kahn_model.specs.Fits.{stream_kind}
use Rattle.kahn_model.proofs.Wired.{KeepsAct, Keeps, body_keeps}
use Rattle.kahn_model.proofs.WellFormed.{program_network, end_there}
use Rattle.net_core.specs.declared.input.Input.{Input}
use Rattle.net_core.specs.Kinds.{kind_in}
use Rattle.net_core.specs.Placement.{PutsAct, IsAt}
use Rattle.net_core.specs.Bindings.{leaf_in, leaf_at, ends_in_leaf, ends_at, arity, arity_in, stream_in, stream_at, Reads, Writes, producer_of, consumer_of, depth_of, IsBuilt, IsLinked, IsWriter, IsReader, IsConnected}
use Rattle.net_core.specs.Bounded.{scalars_of, memories_of, leaf_behavior, instance_job, IsNetworkOf}
use Rattle.tapa_base.proofs.Got.{some_at as has_item}

either : {A : Type 0} (o : Option A) → (o ≡ None) ⊎ ((x : A) × (o ≡ Some x))
either None = inl refl
either (Some x) = inr (x, refl)

pub ends_is : (program : Program) (i : ℕ) (x : Instance) (leaf : Leaf) → slice_get program.instances.items i ≡ Some x → slice_get program.bodies.items x.body ≡ Some leaf → ends_at program i ≡ leaf.streams.items
unfolding ends_at
ends_is program i x leaf is body = ap (λ o. ends_in_leaf (leaf_in program o)) is ∙ ap ends_in_leaf body

producer_is : (program : Program) (s : ℕ) (r : Stream) → slice_get program.streams.items s ≡ Some r → producer_of program s ≡ r.producer
unfolding producer_of
producer_is program s r e = ap (end_of (λ (r : Stream). r.producer)) e

consumer_is : (program : Program) (s : ℕ) (r : Stream) → slice_get program.streams.items s ≡ Some r → consumer_of program s ≡ r.consumer
unfolding consumer_of
consumer_is program s r e = ap (end_of (λ (r : Stream). r.consumer)) e

depth_is : (program : Program) (s : ℕ) (r : Stream) → slice_get program.streams.items s ≡ Some r → depth_of program s ≡ r.depth
unfolding depth_of
depth_is program s r e = ap (end_of (λ (r : Stream). r.depth)) e

-- instance i, where it has a position
record Here (program : Program) (i : ℕ) : Type 0 where
  x : Instance
  is : slice_get program.instances.items i ≡ Some x
  leaf : Leaf
  instance : IsInstance program i x leaf

here : (program : Program) → IsWellFormed program → (i p : ℕ) → p < arity program i → Here program i
here program w i p l =
    ⊎_elim
    (λ (none : slice_get program.instances.items i ≡ None). let z : p < arity_in None = subst (λ o. p < arity_in o) none l in absurd (omega arith))
    (λ (some : (x : Instance) × (slice_get program.instances.items i ≡ Some x)). let h = w.instances i some.0 some.1 in record { x = some.0; is = some.1; leaf = h.0; instance = h.1 })
    (either (slice_get program.instances.items i))

module _ (program : Program) (i : ℕ) (h : Here program i) where
  inside : (p : ℕ) → p < arity program i → p < length h.x.streams.items
  inside p l = subst (λ o. p < arity_in o) h.is l

  stream_is : (p : ℕ) → stream_at program i p ≡ slice_index h.x.streams.items p
  stream_is p = ap (λ o. stream_in o p) h.is

  there : (p : ℕ) → p < arity program i → slice_get h.x.streams.items p ≡ Some (slice_index h.x.streams.items p)
  there p l = slice_get-get_or h.x.streams.items p 0 (inside p l)

  ends_here : ends_at program i ≡ h.leaf.streams.items
  ends_here = ends_is program i h.x h.leaf h.is h.instance.body

  writes_here : (p : ℕ) (b : Bool) → writes_of (ends_at program i) p ≡ Some b → writes_of h.leaf.streams.items p ≡ Some b
  writes_here p b e = ap (λ es. writes_of es p) (sym ends_here) ∙ e

  end_here : (p : ℕ) → p < arity program i → (e : End) × (slice_get h.leaf.streams.items p ≡ Some e)
  end_here p l = let n = h.instance.streams_len in let m = inside p l in has_item h.leaf.streams.items p (omega arith)

  stream_here : (p : ℕ) (l : p < arity program i) → IsStreamAt program i (slice_index h.x.streams.items p) (end_here p l).0
  stream_here p l = h.instance.streams p (slice_index h.x.streams.items p) (end_here p l).0 (there p l) (end_here p l).1

  once : (p q : ℕ) (b : Bool) → p < arity program i → q < arity program i → writes_of (ends_at program i) p ≡ Some b → writes_of (ends_at program i) q ≡ Some b → stream_at program i p ≡ stream_at program i q → p ≡ q
  once p q b lp lq wp wq e =
      let same : slice_index h.x.streams.items q ≡ slice_index h.x.streams.items p = sym (stream_is q) ∙ sym e ∙ stream_is p in
      h.instance.streams_once p q (slice_index h.x.streams.items p) b (there p lp) (there q lq ∙ ap Some same) (writes_here p b wp) (writes_here q b wq)

  bound_to : (p : ℕ) (b : Bool) (l : p < arity program i) → writes_of (ends_at program i) p ≡ Some b → (r : Stream) × (slice_get program.streams.items (stream_at program i p) ≡ Some r) × IsEndOf i b r
  bound_to p b l w =
      let at = stream_here p l in
      let e = end_there (slice_get h.leaf.streams.items p) b (writes_here p b w) in
      let f : (end_here p l).0 ≡ e.0 = let a = (end_here p l).1 in let c = e.1 in cc in
      (at.stream, ap (slice_get program.streams.items) (stream_is p) ∙ at.is, subst (λ c. IsEndOf i c at.stream) (ap (λ (z : End). z.writes) f ∙ e.2) at.end)

  kinds_here : (p : ℕ) → p < arity program i → kind_in (ends_at program i) p ≡ stream_kind program (stream_at program i p)
  kinds_here p l =
      let at = stream_here p l in
      ap (λ es. kind_in es p) ends_here ∙ ap (λ o. unwrap_or (option_map (λ (e : End). e.kind) o) U64) (end_here p l).1
      ∙ sym at.kind ∙ sym (ap (λ o. unwrap_or (option_map (λ (r : Stream). r.kind) o) U64) (ap (slice_get program.streams.items) (stream_is p) ∙ at.is))

-- an end that a stream is joined to
joined : (program : Program) (i s : ℕ) (b : Bool) → (j : IsJoined program i s b) → (j.position < arity program i) × (writes_of (ends_at program i) j.position ≡ Some b) × (stream_at program i j.position ≡ s)
joined program i s b j = (
  subst (λ o. j.position < arity_in o) (sym j.is) (slice_get_within j.instance.streams.items j.position s j.stream),
  ap (λ es. writes_of es j.position) (ends_is program i j.instance j.leaf j.is j.leaf_is) ∙ j.writes,
  ap (λ o. stream_in o j.position) j.is ∙ get_or_from_slice_get j.instance.streams.items j.position s 0 j.stream,
)

built : (program : Program) → IsWellFormed program → (i : ℕ) (x : Instance) → slice_get program.instances.items i ≡ Some x → IsBuilt program i x
built program w i x is =
    let h = w.instances i x is in
    let leaf = h.0 in
    let n = h.1.streams_len in
    record {
      body = slice_get_within program.bodies.items x.body leaf h.1.body;
      ends = λ other e. sym (ends_is program i x other is e);
      as_many = ap length (ends_is program i x leaf is h.1.body) ∙ sym n;
      streams = λ p l.
          let e = has_item leaf.streams.items p (omega arith) in
          let at = h.1.streams p (slice_index x.streams.items p) e.0 (slice_get-get_or x.streams.items p 0 l) e.1 in
          slice_get_within program.streams.items (slice_index x.streams.items p) at.stream at.is;
    }

linked : (program : Program) → IsWellFormed program → (s : ℕ) (r : Stream) → slice_get program.streams.items s ≡ Some r → IsLinked program s r
linked program w s r is =
    let h = w.streams s r is in
    record {
      producer = producer_is program s r is;
      consumer = consumer_is program s r is;
      depth = depth_is program s r is;
      producer_in = slice_get_within program.instances.items r.producer h.written.instance h.written.is;
      consumer_in = slice_get_within program.instances.items r.consumer h.read.instance h.read.is;
    }

pub well_connected : (program : Program) → IsWellFormed program → IsConnected program
well_connected program w = record {
  built = built program w;
  linked = linked program w;
  written_at = λ s l.
      let r = has_item program.streams.items s l in
      let j = (w.streams s r.0 r.1).written in
      let a = joined program r.0.producer s true j in
      (j.position, subst (λ z. IsWriter program s z j.position) (sym (producer_is program s r.0 r.1)) ((a.0, a.1), a.2));
  read_at = λ s l.
      let r = has_item program.streams.items s l in
      let j = (w.streams s r.0 r.1).read in
      let a = joined program r.0.consumer s false j in
      (j.position, subst (λ z. IsReader program s z j.position) (sym (consumer_is program s r.0 r.1)) ((a.0, a.1), a.2));
  writes_one = λ i p q a b e. once program i (here program w i p a.0) p q true a.0 b.0 a.1 b.1 e;
  reads_one = λ i p q a b e. once program i (here program w i p a.0) p q false a.0 b.0 a.1 b.1 e;
  writer = λ i p a. let r = bound_to program i (here program w i p a.0) p true a.0 a.1 in producer_is program (stream_at program i p) r.0 r.1 ∙ r.2;
  reader = λ i p a. let r = bound_to program i (here program w i p a.0) p false a.0 a.1 in consumer_is program (stream_at program i p) r.0 r.1 ∙ r.2;
  kinds = λ i p l. kinds_here program i (here program w i p l) p l;
}

-- the network of a program is that of its jobs
keeps_at_act : (w : ℕ → Option Bool) (W : ℕ → Type 0) → ((p : ℕ) → w p ≡ Some true → W p) → (a : Action) → KeepsAct w a → PutsAct W a
keeps_at_act w W h Local k = tt
keeps_at_act w W h (Put s t) k = h s k
keeps_at_act w W h (Load m a) k = tt
keeps_at_act w W h (Store m a v) k = tt

keeps_at : (w : ℕ → Option Bool) (R W : ℕ → Type 0) → ((p : ℕ) → w p ≡ Some false → R p) → ((p : ℕ) → w p ≡ Some true → W p) → (b : Behavior) → Keeps w b → IsAt R W b
keeps_at w R W hr hw Finished k = tt
keeps_at w R W hr hw OutOfTurns k = tt
keeps_at w R W hr hw (Act a rest) (k, ks) = (keeps_at_act w W hw a k, keeps_at w R W hr hw rest ks)
keeps_at w R W hr hw (Await s how rest) (k, ks) = (hr s k, λ v. keeps_at w R W hr hw (rest v) (ks v))

leaf_placed : (o : Option Leaf) (x : Instance) (σ : State) (n : ℕ) → leaf_job o x σ n ≡ at_streams (stream_in (Some x)) (leaf_behavior o σ n)
leaf_placed None x σ n = refl
leaf_placed (Some leaf) x σ n = refl

instance_placed : (program : Program) (o : Option Instance) (σ : State) (n : ℕ) → program_job program.bodies.items o σ n ≡ at_streams (stream_in o) (leaf_behavior (leaf_in program o) σ n)
instance_placed program None σ n = refl
instance_placed program (Some x) σ n = leaf_placed (slice_get program.bodies.items x.body) x σ n

position_in : (program : Program) → IsConnected program → (i : ℕ) (x : Instance) → slice_get program.instances.items i ≡ Some x → (p : ℕ) (b : Bool) → writes_of (ends_at program i) p ≡ Some b → p < arity program i
position_in program c i x is p b e =
    let f = end_there (slice_get (ends_at program i) p) b e in
    let l = slice_get_within (ends_at program i) p f.0 f.1 in
    let n = (c.built i x is).as_many in
    subst (λ o. p < arity_in o) (sym is) (let m : p < length x.streams.items = omega arith in m)

pub is_at : (program : Program) → IsWellFormed program → (i : ℕ) → i < length program.instances.items → (σ : State) (n : ℕ) → IsAt (Reads program i) (Writes program i) (leaf_behavior (leaf_at program i) σ n)
is_at program w i l σ n =
    let x = has_item program.instances.items i l in
    let h = w.instances i x.0 x.1 in
    let leaf = h.0 in
    let c = well_connected program w in
    let ends : writes_of leaf.streams.items ≡ writes_of (ends_at program i) = ap writes_of (sym (ends_is program i x.0 leaf x.1 h.1.body)) in
    let k : Keeps (writes_of (ends_at program i)) (leaf_behavior (Some leaf) σ n) = subst (λ z. Keeps z (leaf_behavior (Some leaf) σ n)) ends (body_keeps leaf (w.leaves x.0.body leaf h.1.body).uses σ n) in
    let at : leaf_at program i ≡ Some leaf = ap (leaf_in program) x.1 ∙ h.1.body in
    subst (λ o. IsAt (Reads program i) (Writes program i) (leaf_behavior o σ n)) (sym at)
    (keeps_at (writes_of (ends_at program i)) (Reads program i) (Writes program i)
    (λ p e. (position_in program c i x.0 x.1 p false e, e)) (λ p e. (position_in program c i x.0 x.1 p true e, e)) (leaf_behavior (Some leaf) σ n) k)

pub program_is : (program : Program) (input : Input) → IsWellFormed program → IsNetworkOf program input
unfolding network_of instance_job producer_of consumer_of depth_of
program_is program input w =
    let c = well_connected program w in
    record {
      is_network = program_network program w (scalars_of input) (memories_of input);
      size = refl;
      producer = λ s. refl;
      consumer = λ s. refl;
      depth = λ s. refl;
      ends = λ i. refl;
      placed = λ i l. record {
        inside = l;
        placed = λ n. instance_placed program (slice_get program.instances.items i) (first_state program (scalars_of input) (memories_of input) i) n;
        at = λ n. is_at program w i l (first_state program (scalars_of input) (memories_of input) i) n;
        reads_one = c.reads_one i;
        writes_one = c.writes_one i;
        reader = c.reader i;
        writer = c.writer i;
      };
    }
