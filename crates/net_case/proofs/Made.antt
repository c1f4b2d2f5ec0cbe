-- A case of a net: one that is new, or in which each instance was asked how it stands.
use Rattle.std.proofs.Common.{◌≡◌, ◌⊎◌, ℕ, ◌+◌, ◌<◌, ◌≤◌, List, length, drop, Bool, true, false, Option, Some, sym, ap, ◌∙◌, subst, ⊎_elim, arith}
use Rattle.std.specs.Prelude.{slice_get, slice_index, replicate, Vec}
use Rattle.std.specs.declared.alloc.Global.{Global}
use Rattle.std.proofs.lemmas.List.{length-replicate}
use Rattle.std.proofs.lemmas.Option.{slice_get_within}
use Rattle.std.proofs.Math.Path.{fun_ext}
use Rattle.tapa_syntax.specs.declared.program.Program.{Program}
use Rattle.kahn_model.specs.declared.tick.Tick.{Tick}
use Rattle.kahn_model.specs.Network.{Network}
use Rattle.kahn_model.specs.Counts.{written, HasEnded}
use Rattle.kahn_model.specs.Outcome.{IsCapped, joined_ticks}
use Rattle.kahn_model.proofs.Ended.{ended_over}
use Rattle.kahn_model.proofs.Reach.{reach_founded}
use Rattle.net_core.specs.declared.body.Pause.{Pause}
use Rattle.net_core.specs.declared.body.Pause.TheVariants.{Ended, Fuel}
use Rattle.net_core.specs.declared.net_state.NetState.{NetState}
use Rattle.net_core.specs.Bindings.{stream_at, depth_of, producer_of}
use Rattle.net_core.specs.State.{IsNew, AreAnswered}
use Rattle.net_core.specs.Waits.{HoldsPause}
use Rattle.net_core.specs.declared.input.Input.{Input}
use Rattle.net_core.specs.declared.ports.Ports.{Ports}
use Rattle.net_core.specs.declared.streams.Streams.{Streams}
use Rattle.net_core.specs.Job.{Job}
use Rattle.net_core.specs.Ports.{ends_by, carried_by, waiting_by}
use Rattle.net_core.specs.Bounded.{network_on, count_of, IsNetAt}
use Rattle.net_core.proofs.Ends.{not_ended}
use Rattle.net_core.proofs.Lasting.{decide_fuel}
use Rattle.net_core.proofs.Loaded.{port_in, producer_in}
use Rattle.net_core.proofs.Moves.{replicated}
use Rattle.net_core.proofs.Resuming.{list_is}
use Rattle.net_case.specs.declared.batch.Process.{Process}
use Rattle.net_case.specs.declared.queue.Queue.{Queue}
use Rattle.net_case.specs.Home.{IsStreamAt, IsHome, IsCaseAt}
use Rattle.net_case.specs.Make.{HaveSameTokens, AreReserved, IsSpare, AreBroughtHome, CanFill, AreFilled}
use Rattle.net_case.proofs.Few.{room_few}
use Rattle.tapa_base.proofs.Got.{some_at as has_item}

-- the net with its ports reserved
pub reserved_net : {B : Type 0} (Stands : B → Job → List Tick → Type 0) (program : Program) (input : Input) (bodies : List B) (t : Streams) (ports : Vec Ports Global) (fed : List Bool) (counts : List ℕ) (pauses : List (Option Pause)) → length ports.items ≡ length t.ports.items → ((i : ℕ) (x y : Ports) → slice_get t.ports.items i ≡ Some x → slice_get ports.items i ≡ Some y → HaveSameTokens x y) → IsNetAt Stands program input bodies t fed counts pauses → IsNetAt Stands program input bodies (record t { ports = ports }) fed counts pauses
reserved_net Stands program input bodies t ports fed counts pauses len kept n = record {
  given = n.given;
  bound = n.bound;
  answered = n.answered;
  reachable = n.reachable;
  bodies_len = n.bodies_len;
  tables = record {
    ports_len = len ∙ n.ports_len;
    offered_len = n.offered_len;
    taken_len = n.taken_len;
    ends = λ i l. let x = at i l in ap ends_by x.3 ∙ (kept i x.0 x.1 x.2 x.3).ends ∙ ap ends_by (sym x.2) ∙ n.ends i l;
  };
  queued = record {
    waits = λ i p l r. let x = at i l in ap (λ o. waiting_by o p) x.3 ∙ (kept i x.0 x.1 x.2 x.3).waits_same p ∙ ap (λ o. waiting_by o p) (sym x.2) ∙ n.queued.waits i p l r;
    offered_within = n.queued.offered_within;
    taken_within = n.queued.taken_within;
  };
  standing = n.standing;
  carries = λ i p l w. let x = at i l in ap (λ o. carried_by o p) x.3 ∙ (kept i x.0 x.1 x.2 x.3).carries p ∙ ap (λ o. carried_by o p) (sym x.2) ∙ n.carries i p l w;
  took = n.took;
}
  where
    at : (i : ℕ) → i < length program.instances.items → (x : Ports) × (y : Ports) × (slice_get t.ports.items i ≡ Some x) × (slice_get ports.items i ≡ Some y)
    at i l =
        let a = has_item t.ports.items i (let e = n.ports_len in omega arith) in
        let b = has_item ports.items i (let e = n.ports_len in omega arith) in
        (a.0, b.0, a.1, b.1)

module _ {B : Type 0} (Stands : B → Job → List Tick → Type 0) (program : Program) (input : Input) (bodies : List B) (streams : Streams) (fed : List Bool) (counts : List ℕ) (pauses : List (Option Pause)) (n : IsNetAt Stands program input bodies streams fed counts pauses) (budget : ℕ) (few : budget ≤ 1000000000000) (capped : IsCapped (network_on program input) budget (count_of counts)) where
  abbrev N : Network
  N = network_on program input

  abbrev k : ℕ → ℕ
  k = count_of counts

  abbrev net : NetState
  net = record { program = program; input = input; counts = counts; pauses = pauses }

  -- who has ended has answered so
  unended_new : IsNew net → (i : ℕ) → HasEnded N k i → ⊥
  unended_new new i h = let e = subst (λ (z : ℕ → ℕ). HasEnded N z i) (fun_ext new.none_made) h in let q = e.1 in cc

  unended_answered : AreAnswered net → (i : ℕ) → i < length program.instances.items → (slice_get pauses i ≡ Some (Some Ended) → ⊥) → HasEnded N k i → ⊥
  unended_answered told i l d h =
      let t = told i l in
      let at : slice_get pauses i ≡ Some (Some t.0) = t.1 in
      let inside : i < N.size = let e = n.network.size in omega arith in
      ⊎_elim
      (λ (f : t.0 ≡ Fuel). ended_over N n.network.is_network k i h (subst (HoldsPause N k i (stream_at program i)) f t.2))
      (λ (f : t.0 ≡ Fuel → ⊥).
      not_ended N n.network.is_network k (reach_founded N k n.reachable) i inside (stream_at program i) t.0 f (λ e. d (at ∙ ap (λ x. Some (Some x)) e)) t.2 h)
      (decide_fuel t.0)

  unended : IsNew net ⊎ AreAnswered net → (i : ℕ) → i < length program.instances.items → (slice_get pauses i ≡ Some (Some Ended) → ⊥) → HasEnded N k i → ⊥
  unended told i l d h =
      ⊎_elim (λ (new : IsNew net). unended_new new i h) (λ (all : AreAnswered net). unended_answered all i l d h) told

  -- what waits at a stream is no more than its depth
  few_wait : (s : ℕ) → s < length program.streams.items → length (written N k s) ≤ slice_index streams.taken.items s + depth_of program s
  few_wait s l =
      let r = room_few N n.network.is_network s k n.reachable in
      let t = n.took s l in
      let d = n.network.depth s in
      omega arith

  pub can_fill : CanFill program streams
  can_fill = record {
    ports_len = n.ports_len;
    writers_len = n.writers_len;
    taken_len = n.taken_len;
    port = λ s x l at. let w = n.writer_is s l in port_in program n.connected streams.ports.items n.ends (producer_of program s) (slice_index streams.writers.items s) (producer_in program n.connected s l) w.0.0 x at;
    taken_within = λ s l.
        let a = n.queued.taken_within s l in
        let b = n.queued.offered_within s l in
        let e = ap length (list_is n s l) in
        omega arith;
    few = λ s l. let e = ap length (list_is n s l) in let f = few_wait s l in omega arith;
  }

  module _ (reserved : AreReserved program streams.ports.items) (homes0 : List (Option (Process B))) (limits : List (Vec ℕ Global)) (queues0 : List Queue) (listed : List Bool) (spare : IsSpare program homes0 limits queues0 listed) (queues : List Queue) (filled : AreFilled program streams queues) (homes : List (Option (Process B))) (homes_len : length homes ≡ length homes0) (brought : AreBroughtHome 0 limits bodies streams.ports.items homes) where
    home_at : (i : ℕ) (x : Process B) → slice_get homes i ≡ Some (Some x) → IsHome Stands program input counts streams.taken.items streams.offered.items i x.body x.ports x.limits.items
    home_at i x e =
        let w = slice_get_within homes i (Some x) e in
        let l : i < length program.instances.items = let a = spare.homes_len in omega arith in
        let port = brought.port i x (omega arith) e in
        record {
          standing = n.standing i x.body (brought.body i x (omega arith) e);
          ends = ap ends_by (sym port) ∙ n.ends i l;
          limits_len = spare.limits_are.each i x.limits (brought.limit i x (omega arith) e);
          carries = λ p v. ap (λ o. carried_by o p) (sym port) ∙ n.carries i p l v;
          waits_are = λ p r. ap (λ o. waiting_by o p) (sym port) ∙ n.queued.waits i p l r;
          spaces = λ p r. reserved i x.ports port p r;
        }

    stream_of : (s : ℕ) (q : Queue) → slice_get queues s ≡ Some q → IsStreamAt program N k s q (slice_index streams.taken.items s) (slice_index streams.offered.items s)
    stream_of s q e =
        let w = slice_get_within queues s q e in
        let l : s < length program.streams.items = let a = filled.len in omega arith in
        record {
          took_is = n.took s l;
          rest = filled.waits_are s q e ∙ ap (drop (slice_index streams.taken.items s)) (list_is n s l);
          within = n.queued.taken_within s l;
          given = n.queued.offered_within s l;
          space_is = filled.spaces s q e;
        }

    pub case_of : (joined : ℕ) → joined ≡ joined_ticks N k → IsNew net ⊎ AreAnswered net → IsCaseAt Stands program input budget homes queues streams.taken.items streams.offered.items counts pauses listed joined streams.writers.items fed
    case_of joined joined_is told = record {
      at = record { given = n.given; reachable = n.reachable; capped = capped; few = few; queues_len = filled.len; taken_len = n.taken_len; offered_len = n.offered_len; streams = stream_of };
      bound = n.bound;
      answered = n.answered;
      unended = unended told;
      homes_len = homes_len ∙ spare.homes_len;
      listed_len = ap length spare.listed_are ∙ length-replicate _ true;
      home = home_at;
      rest = λ i x e g. absurd (all_listed i (ap (λ l. slice_get l i) (sym spare.listed_are) ∙ g));
      joined_is = joined_is;
    }
      where
        all_listed : (i : ℕ) → slice_get (replicate (length program.instances.items) true) i ≡ Some false → ⊥
        all_listed i e = let q = replicated (length program.instances.items) i true false e in cc
