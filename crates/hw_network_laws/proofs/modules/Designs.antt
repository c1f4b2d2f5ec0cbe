-- A design of modules is the clocked network of its program.
use Rattle.std.proofs.Common.{◌≡◌, ℕ, suc, ◌+◌, ◌<◌, ◌≤◌, List, [], length, false, Option, Some, None, refl, sym, ap, subst, arith}
use Rattle.std.specs.Prelude.{slice_get}
use Rattle.std.proofs.lemmas.Option.{slice_get_within}
use Rattle.tapa_base.specs.Kinds.{bits_of}
use Rattle.tapa_syntax.specs.WellFormed.{IsWellFormed}
use Rattle.tapa_syntax.specs.declared.program.Instance.{Instance}
use Rattle.tapa_syntax.specs.declared.program.Leaf.{Leaf}
use Rattle.tapa_syntax.specs.declared.program.Program.{Program}
use Rattle.tapa_syntax.specs.declared.program.Stream.{Stream}
use Rattle.vlog_tree.specs.Cycle.{Cycle}
use Rattle.hw_channel_laws.specs.signals.Contract.{ChannelPorts}
use Rattle.kahn_model.specs.Network.{Network}
use Rattle.kahn_model.specs.ProgramNetwork.{end_of}
use Rattle.kahn_model.specs.Start.{network_of}
use Rattle.kahn_model.proofs.WellFormed.{program_network}
use Rattle.task_fsm.specs.declared.machine.Fsm.{Fsm}
use Rattle.hw_lines.specs.Signals.{Streams, History, Part}
use Rattle.hw_lines.specs.Machine.{RunsMachine, put_in}
use Rattle.hw_lines.specs.Runs.{answers_at}
use Rattle.hw_network_laws.specs.network.Channel.{KeepsContract}
use Rattle.hw_network_laws.specs.network.Clocked.{IsPartOf, IsClocked}
use Rattle.hw_network_laws.specs.modules.Channels.{TakesOffers}
use Rattle.hw_network_laws.specs.modules.Tasks.{part_in, IsInstanceOf}
use Rattle.hw_network_laws.specs.modules.Designs.{IsDesignOf, AreMachines, clock_at_modules}
use Rattle.hw_network_laws.proofs.modules.Channels.{meets, takes_offers, none_put, still_meets}
use Rattle.hw_network_laws.proofs.modules.Tasks.{instance_is}
use Rattle.tapa_base.proofs.Got.{some_at as there_at}

-- the ends and the depth of a stream
module _ (program : Program) (scalars : List ℕ) (memories : List (List ℕ)) where
  size_is : (network_of program scalars memories).size ≡ length program.instances.items
  unfolding network_of
  size_is = refl

  depth_is : (s : ℕ) (o : Option Stream) → slice_get program.streams.items s ≡ o → (network_of program scalars memories).depth s ≡ end_of (λ (r : Stream). r.depth) o
  unfolding network_of
  depth_is s o e = ap (end_of (λ (r : Stream). r.depth)) e

  producer_is : (s : ℕ) (o : Option Stream) → slice_get program.streams.items s ≡ o → (network_of program scalars memories).producer s ≡ end_of (λ (r : Stream). r.producer) o
  unfolding network_of
  producer_is s o e = ap (end_of (λ (r : Stream). r.producer)) e

  consumer_is : (s : ℕ) (o : Option Stream) → slice_get program.streams.items s ≡ o → (network_of program scalars memories).consumer s ≡ end_of (λ (r : Stream). r.consumer) o
  unfolding network_of
  consumer_is s o e = ap (end_of (λ (r : Stream). r.consumer)) e

module _ (program : Program) (w : IsWellFormed program) (scalars : List ℕ) (memories : List (List ℕ)) (latency : ℕ → ℕ) (machines : ℕ → Option Fsm) (runs : ℕ → ℕ → Cycle) (cells : ℕ → ℕ → List (List ℕ)) (channels : ℕ → ChannelPorts) (S : Streams) (d : IsDesignOf program scalars memories latency machines runs cells channels S) (parts : ℕ → Part) (h : ℕ → History) (a : AreMachines program machines runs cells parts h) where
  abbrev net : Network
  net = network_of program scalars memories

  -- an instance, its leaf, and its module
  record Found (i : ℕ) : Type 0 where
    instance : Instance
    leaf : Leaf
    at : slice_get program.instances.items i ≡ Some instance
    body : slice_get program.bodies.items instance.body ≡ Some leaf
    machine : Fsm
    is : machines i ≡ Some machine
    stands : IsInstanceOf program scalars memories i instance leaf machine (runs i) (cells i) S

  found : (i : ℕ) → i < length program.instances.items → Found i
  found i inside =
      let x = there_at program.instances.items i inside in
      let l = w.instances i x.0 x.1 in
      let t = d.tasks i x.0 l.0 x.1 l.1.body in
      record {
        instance = x.0;
        leaf = l.0;
        at = x.1;
        body = l.1.body;
        machine = t.machine;
        is = t.is;
        stands = instance_is program w scalars memories i x.0 l.0 t.machine x.1 l.1.body t.runs.lowered (runs i) (cells i) t.runs.begins S t.runs.runs t.runs.wired;
      }

  follows_at : (i : ℕ) → i < length program.instances.items → IsPartOf (net.job i) (parts i)
  follows_at i inside =
      let f = found i inside in
      subst (IsPartOf (net.job i)) (sym (a.part i f.instance f.leaf f.machine f.at f.body f.is)) f.stands.part

  runs_at : (i : ℕ) → i < length program.instances.items → RunsMachine (parts i) S (answers_at (runs i)) (λ s. net.consumer s ≡ i) (λ s. net.producer s ≡ i) (h i)
  runs_at i inside =
      let f = found i inside in
      subst (λ p. RunsMachine p S (answers_at (runs i)) (λ s. net.consumer s ≡ i) (λ s. net.producer s ≡ i) (h i)) (sym (a.part i f.instance f.leaf f.machine f.at f.body f.is))
      (subst (λ g. RunsMachine (part_in f.instance f.leaf f.machine (runs i) (cells i)) S (answers_at (runs i)) (λ s. net.consumer s ≡ i) (λ s. net.producer s ≡ i) g) (sym (a.history i f.instance f.leaf f.machine f.at f.body f.is)) f.stands.runs)

  -- the ends of a stream are instances
  reader_inside : (s : ℕ) (r : Stream) → slice_get program.streams.items s ≡ Some r → r.consumer < length program.instances.items
  reader_inside s r is = let j = (w.streams s r is).read in slice_get_within program.instances.items r.consumer j.instance j.is

  writer_inside : (s : ℕ) (r : Stream) → slice_get program.streams.items s ≡ Some r → r.producer < length program.instances.items
  writer_inside s r is = let j = (w.streams s r is).written in slice_get_within program.instances.items r.producer j.instance j.is

  only_offers : (s : ℕ) (r : Stream) → slice_get program.streams.items s ≡ Some r → TakesOffers s S
  only_offers s r is =
      let c = r.consumer in
      takes_offers (parts c) S (answers_at (runs c)) (λ s. net.consumer s ≡ c) (λ s. net.producer s ≡ c) (h c) (runs_at c (reader_inside s r is)) s (consumer_is program scalars memories s (Some r) is)

  channel_at : (s : ℕ) (o : Option Stream) → slice_get program.streams.items s ≡ o → KeepsContract S s (net.depth s) (latency s)
  channel_at s (Some r) is =
      subst (λ k. KeepsContract S s k (latency s)) (sym (depth_is program scalars memories s (Some r) is))
      (meets (bits_of r.kind + 1) s (channels s) S (d.signals s r is) (only_offers s r is) r.depth (latency s) (d.contract s r is))
  channel_at s None is = subst (λ k. KeepsContract S s k (latency s)) (sym (depth_is program scalars memories s None is)) (still_meets s S (d.still s is) (latency s))

  puts_inside : (s n : ℕ) (o : Option Stream) → slice_get program.streams.items s ≡ o → net.size ≤ net.producer s → put_in S s (suc n) ≡ []
  puts_inside s n (Some r) is l =
      let p = producer_is program scalars memories s (Some r) is in
      let z = size_is program scalars memories in
      let i = writer_inside s r is in
      absurd (omega arith)
  puts_inside s n None is l = none_put s S (d.still s is) (S.wr s (suc n)) n

  takes_inside : (s n : ℕ) (o : Option Stream) → slice_get program.streams.items s ≡ o → net.size ≤ net.consumer s → S.take s (suc n) ≡ false
  takes_inside s n (Some r) is l =
      let p = consumer_is program scalars memories s (Some r) is in
      let z = size_is program scalars memories in
      let i = reader_inside s r is in
      absurd (omega arith)
  takes_inside s n None is l = (d.still s is).take n

  pub clocked : IsClocked (network_of program scalars memories) (clock_at_modules latency runs) parts S h
  clocked =
      let z = size_is program scalars memories in
      record {
        network = program_network program w scalars memories;
        follows = λ i l. follows_at i (omega arith);
        runs = λ i l. runs_at i (omega arith);
        channels = λ s. channel_at s (slice_get program.streams.items s) refl;
        put_inside = λ s n l. puts_inside s n (slice_get program.streams.items s) refl l;
        taken_inside = λ s n l. takes_inside s n (slice_get program.streams.items s) refl l;
      }
