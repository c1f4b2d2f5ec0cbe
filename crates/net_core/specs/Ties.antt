-- What the ports of an instance are tied to.
use Rattle.std.specs.Prelude.{◌≡◌, ℕ, ◌<◌, List, length, MatchBool, Some, slice_get}
use Rattle.tapa_syntax.specs.declared.program.Program.{Program}
use Rattle.net_core.specs.declared.ties.Tie.{Tie}
use Rattle.net_core.specs.declared.ties.Ties.{Ties}
use Rattle.net_core.specs.Bindings.{arity, stream_at, Reads, Writes, producer_of, depth_of, IsWriter}
use Rattle.net_core.specs.Load.{AreNeighbours}

-- port p of instance i is tied so
pub record IsTie (program : Program) (i p : ℕ) (tie : Tie) : Type 0 where
  pub inside : p < arity program i
  pub stream : tie.stream ≡ stream_at program i p
  pub stream_in : tie.stream < length program.streams.items
  pub direction : MatchBool tie.writes (Writes program i p) (Reads program i p)
  pub depth : tie.depth ≡ depth_of program tie.stream
  pub producer : tie.producer ≡ producer_of program tie.stream
  pub producer_in : tie.producer < length program.instances.items
  pub writer : IsWriter program tie.stream (producer_of program tie.stream) tie.position

abbrev pub AreTies : Program → ℕ → List Tie → Type 0
AreTies program i ties = (p : ℕ) (tie : Tie) → slice_get ties p ≡ Some tie → IsTie program i p tie

-- instance i is tied so
pub record AreTiesOf (program : Program) (i : ℕ) (ties : Ties) : Type 0 where
  pub as_many : length ties.ports.items ≡ arity program i
  pub each : AreTies program i ties.ports.items
  pub near : AreNeighbours program i ties.near.items

abbrev pub AreAllTies : Program → List Ties → Type 0
AreAllTies program all = (i : ℕ) (ties : Ties) → slice_get all i ≡ Some ties → AreTiesOf program i ties
