-- The net of a case to which all instances have come home.
use Rattle.std.proofs.Common.{◌≡◌, ℕ, ◌<◌, List, length, Bool, Option, Some, sym, ap, ◌∙◌, subst, arith}
use Rattle.std.specs.Prelude.{slice_get, slice_index}
use Rattle.std.proofs.lemmas.Option.{slice_get_within}
use Rattle.tapa_syntax.specs.declared.program.Program.{Program}
use Rattle.kahn_model.specs.declared.tick.Tick.{Tick}
use Rattle.kahn_model.specs.Network.{Network}
use Rattle.kahn_model.specs.Counts.{written}
use Rattle.net_core.specs.declared.body.Pause.{Pause}
use Rattle.net_core.specs.declared.input.Input.{Input}
use Rattle.net_core.specs.declared.streams.Streams.{Streams}
use Rattle.net_core.specs.Job.{Job}
use Rattle.net_core.specs.Load.{AreQueued}
use Rattle.net_core.specs.Ports.{ends_by, carried_by, waiting_by}
use Rattle.net_core.specs.Bounded.{network_on, count_of, IsNetAt, IsBodyAt}
use Rattle.net_case.specs.declared.batch.Process.{Process}
use Rattle.net_case.specs.declared.queue.Queue.{Queue}
use Rattle.net_case.specs.Home.{IsStreamAt, IsCaseAt}
use Rattle.net_case.specs.Make.{AreParted}
use Rattle.tapa_base.proofs.Got.{some_at as has_item}

module _ {B : Type 0} {Stands : B → Job → List Tick → Type 0} {program : Program} {input : Input} {budget : ℕ} {homes : List (Option (Process B))} {queues : List Queue} {counts : List ℕ} {pauses : List (Option Pause)} {listed : List Bool} {joined : ℕ} {fed : List Bool} (t : Streams) (c : IsCaseAt Stands program input budget homes queues t.taken.items t.offered.items counts pauses listed joined t.writers.items fed) (home : (i : ℕ) → i < length homes → (x : Process B) × (slice_get homes i ≡ Some (Some x))) (bodies : List B) (parted : AreParted (length homes) homes bodies t.ports.items) where
  abbrev N : Network
  N = network_on program input

  abbrev k : ℕ → ℕ
  k = count_of counts

  at : (i : ℕ) → i < length program.instances.items → (x : Process B) × (slice_get homes i ≡ Some (Some x))
  at i l = home i (let a = c.homes_len in omega arith)

  at_ports : (i : ℕ) (l : i < length program.instances.items) → slice_get t.ports.items i ≡ Some (at i l).0.ports
  at_ports i l = parted.port i (at i l).0 (let a = c.homes_len in omega arith) (at i l).1

  body_at : (i : ℕ) (b : B) → slice_get bodies i ≡ Some b → IsBodyAt (Stands b) program input counts i
  body_at i b e =
      let w = slice_get_within bodies i b e in
      let l : i < length program.instances.items = let a = parted.bodies_len in let d = c.homes_len in omega arith in
      let x = at i l in
      let same : x.0.body ≡ b = let z = sym (parted.body i x.0 (let a = c.homes_len in omega arith) x.1) ∙ e in cc in
      subst (λ y. IsBodyAt (Stands y) program input counts i) same (c.home i x.0 x.1).standing

  stream_at_end : (s : ℕ) (l : s < length program.streams.items) → (q : Queue) × IsStreamAt program N k s q (slice_index t.taken.items s) (slice_index t.offered.items s)
  stream_at_end s l = let q = has_item queues s (let a = c.queues_len in omega arith) in (q.0, c.streams s q.0 q.1)

  queued : AreQueued program t (written N k)
  queued = record {
    waits = λ i p l r. ap (λ o. waiting_by o p) (at_ports i l) ∙ (c.home i (at i l).0 (at i l).1).waits_are p r;
    offered_within = λ s l. (stream_at_end s l).1.given;
    taken_within = λ s l. (stream_at_end s l).1.within;
  }

  pub net_again : IsNetAt Stands program input bodies t fed counts pauses
  net_again = record {
    given = c.given;
    bound = c.bound;
    answered = c.answered;
    reachable = c.reachable;
    bodies_len = parted.bodies_len ∙ c.homes_len;
    tables = record {
      ports_len = parted.ports_len ∙ c.homes_len;
      offered_len = c.offered_len;
      taken_len = c.taken_len;
      ends = λ i l. ap ends_by (at_ports i l) ∙ (c.home i (at i l).0 (at i l).1).ends;
    };
    queued = queued;
    standing = body_at;
    carries = λ i p l w. ap (λ o. carried_by o p) (at_ports i l) ∙ (c.home i (at i l).0 (at i l).1).carries p w;
    took = λ s l. (stream_at_end s l).1.took_is;
  }
