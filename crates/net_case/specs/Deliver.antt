-- What an instance takes along, by the lists of its case.
use Rattle.std.specs.Prelude.{◌≡◌, ℕ, ◌+◌, ◌-◌, ◌*◌, ◌<◌, ◌≤◌, List, [], length, take, Option, Some, None, slice_get, slice_index}
use Rattle.tapa_base.specs.declared.token.Token.{Token}
use Rattle.tapa_syntax.specs.declared.program.Program.{Program}
use Rattle.kahn_model.specs.Fits.{stream_kind}
use Rattle.net_core.specs.Kinds.{AreTokensOf}
use Rattle.net_core.specs.declared.ports.Ports.{Ports}
use Rattle.net_core.specs.Ports.{waiting, room_at, space_at, ends_of}
use Rattle.net_core.specs.Bindings.{ends_at, stream_at, depth_of, arity, Reads, Writes}
use Rattle.net_case.specs.declared.queue.Queue.{Queue}
use Rattle.net_case.specs.Queue.{waits, space}

abbrev pub tokens_in : Option Queue → List Token
tokens_in None = []
tokens_in (Some q) = waits q

-- the tokens of stream s that were written and not taken
abbrev pub queue_at : List Queue → ℕ → List Token
queue_at queues s = tokens_in (slice_get queues s)

abbrev pub space_in : Option Queue → ℕ
space_in None = 0
space_in (Some q) = space q

abbrev pub queue_space : List Queue → ℕ → ℕ
queue_space queues s = space_in (slice_get queues s)

-- the queues hold tokens of their streams' kinds, and not too many
pub record HoldTokens (program : Program) (queues : List Queue) (taken_list : List ℕ) : Type 0 where
  pub queues_len : length queues ≡ length program.streams.items
  pub taken_len : length taken_list ≡ length program.streams.items
  pub kinds : (s : ℕ) → s < length program.streams.items → AreTokensOf (stream_kind program s) (queue_at queues s)
  pub few : (s : ℕ) → s < length program.streams.items → length (queue_at queues s) ≤ depth_of program s
  pub small : (s : ℕ) → s < length program.streams.items → slice_index taken_list s + length (queue_at queues s) ≤ 1000000000000

-- what each reader's port was given is what was taken of its stream, and some of what waits
pub record AreGiven (program : Program) (queues : List Queue) (taken_list offered : List ℕ) : Type 0 where
  pub offered_len : length offered ≡ length program.streams.items
  pub within : (s : ℕ) → s < length program.streams.items → slice_index taken_list s ≤ slice_index offered s
  pub given : (s : ℕ) → s < length program.streams.items → slice_index offered s ≤ slice_index taken_list s + length (queue_at queues s)

-- the ports of instance i hold what they were given of the queues, and there is space for the rest
pub record AreInOrder (program : Program) (i : ℕ) (queues : List Queue) (taken_list offered : List ℕ) (ports : Ports) (limits : List ℕ) : Type 0 where
  pub tokens : HoldTokens program queues taken_list
  pub open tokens use *
  pub gives : AreGiven program queues taken_list offered
  pub open gives use *
  pub limits_len : length limits ≡ arity program i
  pub ends : ends_of ports ≡ ends_at program i
  pub waits_are : (p : ℕ) → Reads program i p
      → waiting ports p ≡ take (slice_index offered (stream_at program i p) - slice_index taken_list (stream_at program i p)) (queue_at queues (stream_at program i p))
  pub spaces : (p : ℕ) → Reads program i p → 2 * depth_of program (stream_at program i p) ≤ space_at ports p

-- port p of instance i has all tokens that are there for it, or no room and the limit of its stream
pub record IsDelivered (program : Program) (i p : ℕ) (queues : List Queue) (taken_list offered : List ℕ) (ports : Ports) (limits : List ℕ) : Type 0 where
  pub waits_all : Reads program i p → waiting ports p ≡ queue_at queues (stream_at program i p)
  pub gave : Reads program i p → slice_index offered (stream_at program i p) ≡ slice_index taken_list (stream_at program i p) + length (queue_at queues (stream_at program i p))
  pub given : Reads program i p → slice_index limits p ≡ slice_index taken_list (stream_at program i p) + length (queue_at queues (stream_at program i p))
  pub limit : Writes program i p → slice_index limits p ≡ slice_index taken_list (stream_at program i p) + depth_of program (stream_at program i p)
  pub is_shut : Writes program i p → room_at ports p ≡ 0
