-- The streams of a case.
use Rattle.std.proofs.Common.{◌≡◌, ℕ, ◌+◌, ◌<◌, ◌≤◌, List, length, drop, Some, sym, ap, ◌∙◌, subst, arith, All}
use Rattle.std.specs.Prelude.{slice_get, slice_index}
use Rattle.std.proofs.lemmas.Option.{slice_get_within, get_or_from_slice_get}
use Rattle.std.proofs.lemmas.List.{length-drop}
use Rattle.tapa_base.specs.declared.token.Token.TheVariants.{Datum}
use Rattle.tapa_syntax.specs.declared.program.Program.{Program}
use Rattle.kahn_model.specs.Prefix.{IsPrefixOf}
use Rattle.kahn_model.specs.Network.{Network}
use Rattle.kahn_model.specs.Counts.{written, taken}
use Rattle.kahn_model.specs.Fits.{stream_kind, IsTokenOf}
use Rattle.kahn_model.proofs.Order.{prefix_length}
use Rattle.kahn_model.proofs.Reach.{reach_founded}
use Rattle.kahn_model.proofs.Taken.{taken_begins}
use Rattle.kahn_model.proofs.FitsNetwork.{written_fits, network_keeps}
use Rattle.kahn_model.specs.Fits.{memory_kind}
use Rattle.net_core.specs.Kinds.{AreTokensOf}
use Rattle.net_core.specs.declared.input.Input.{Input}
use Rattle.net_core.specs.Bindings.{depth_of}
use Rattle.net_core.specs.Bounded.{network_on, count_of, scalars_of, memories_of}
use Rattle.net_core.proofs.Tokens.{tokens_drop}
use Rattle.net_case.specs.declared.queue.Queue.{Queue}
use Rattle.net_case.specs.Deliver.{tokens_in, queue_at}
use Rattle.net_case.specs.Home.{AreStreamsAt, IsStreamAt}
use Rattle.net_case.proofs.Few.{written_few, room_few}
use Rattle.tapa_base.proofs.Got.{some_at as has_item}

all_get : {A : Type 0} (P : A → Type 0) (xs : List A) → All P xs → (n : ℕ) (x : A) → slice_get xs n ≡ Some x → P x
all_get P xs h n x e = subst P (get_or_from_slice_get xs n x x e) (h n x (slice_get_within xs n x e))

module _ (program : Program) (input : Input) (budget : ℕ) (queues : List Queue) (taken_list offered counts : List ℕ) (a : AreStreamsAt program input budget queues taken_list offered counts) where
  abbrev N : Network
  N = network_on program input

  abbrev k : ℕ → ℕ
  k = count_of counts

  module _ (s : ℕ) (inside : s < length program.streams.items) where
    pub found : (q : Queue) × (slice_get queues s ≡ Some q)
    found = has_item queues s (let e = a.queues_len in omega arith)

    pub stream_is : IsStreamAt program N k s found.0 (slice_index taken_list s) (slice_index offered s)
    stream_is = a.streams s found.0 found.1

    pub queue_is : queue_at queues s ≡ drop (slice_index taken_list s) (written N k s)
    queue_is = ap tokens_in found.1 ∙ stream_is.rest

    pub begins : IsPrefixOf (taken N k s) (written N k s)
    begins = taken_begins N a.network.is_network k (reach_founded N k a.reachable) s

    pub total_is : slice_index taken_list s + length (queue_at queues s) ≡ length (written N k s)
    total_is =
        let b = prefix_length _ _ begins in
        let t = stream_is.took_is in
        let l = ap length queue_is in
        let d = length-drop (slice_index taken_list s) (written N k s) in
        omega arith

    pub small_is : length (written N k s) ≤ 1000000000000
    small_is =
        let w = written_few N a.network.is_network k a.reachable s in
        let c = a.capped (N.producer s) in
        let f = a.few in
        omega arith

    pub few_is : length (queue_at queues s) ≤ depth_of program s
    few_is =
        let r = room_few N a.network.is_network s k a.reachable in
        let t = stream_is.took_is in
        let e = total_is in
        let d = a.network.depth s in
        omega arith

    pub kinds_are : AreTokensOf (stream_kind program s) (queue_at queues s)
    kinds_are =
        subst (AreTokensOf (stream_kind program s)) (sym queue_is)
        (tokens_drop (stream_kind program s) (slice_index taken_list s) (written N k s) fit)
      where
        fit : AreTokensOf (stream_kind program s) (written N k s)
        fit n v at = all_get (IsTokenOf (stream_kind program s)) (written N k s) (written_fits (stream_kind program) (memory_kind program) N (network_keeps program a.well_formed (scalars_of input) (memories_of input) a.fits) k s) n (Datum v) at
