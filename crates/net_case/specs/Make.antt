-- What a case is made of, and how its net is put together again.
use Rattle.std.specs.Prelude.{◌≡◌, ℕ, ◌+◌, ◌*◌, ◌<◌, ◌≤◌, Bool, List, [], length, replicate, true, Option, Some, Vec, slice_get, slice_index}
use Rattle.std.specs.declared.alloc.Global.{Global}
use Rattle.tapa_syntax.specs.declared.program.Program.{Program}
use Rattle.net_core.specs.declared.ports.Ports.{Ports}
use Rattle.net_core.specs.declared.streams.Streams.{Streams}
use Rattle.net_core.specs.Ports.{waiting, carried, space_at, port_count, ends_of}
use Rattle.net_core.specs.Load.{list_at, queue_at}
use Rattle.net_core.specs.Bindings.{arity, stream_at, depth_of, producer_of, Reads}
use Rattle.net_case.specs.declared.batch.Process.{Process}
use Rattle.net_case.specs.declared.queue.Queue.{Queue}
use Rattle.net_case.specs.Queue.{waits, space}

-- the queues of the first n streams, with no token and space for twice the depth
pub record AreEmptyQueues (program : Program) (n : ℕ) (queues : List Queue) : Type 0 where
  pub len : length queues ≡ n
  pub empty : (s : ℕ) (q : Queue) → slice_get queues s ≡ Some q → waits q ≡ []
  pub spaces : (s : ℕ) (q : Queue) → slice_get queues s ≡ Some q → 2 * depth_of program s ≤ space q

-- what was written to each stream is at its producer's port, and no more of it than the depth was not taken
pub record CanFill (program : Program) (t : Streams) : Type 0 where
  pub ports_len : length t.ports.items ≡ length program.instances.items
  pub writers_len : length t.writers.items ≡ length program.streams.items
  pub taken_len : length t.taken.items ≡ length program.streams.items
  pub port : (s : ℕ) (x : Ports) → s < length program.streams.items → slice_get t.ports.items (producer_of program s) ≡ Some x → slice_index t.writers.items s < port_count x
  pub taken_within : (s : ℕ) → s < length program.streams.items → slice_index t.taken.items s ≤ length (list_at program t s)
  pub few : (s : ℕ) → s < length program.streams.items → length (list_at program t s) ≤ slice_index t.taken.items s + depth_of program s

-- what was written to each stream and not taken waits in its queue, which has space for twice the depth
pub record AreFilled (program : Program) (t : Streams) (queues : List Queue) : Type 0 where
  pub len : length queues ≡ length program.streams.items
  pub waits_are : (s : ℕ) (q : Queue) → slice_get queues s ≡ Some q → waits q ≡ queue_at program t s
  pub spaces : (s : ℕ) (q : Queue) → slice_get queues s ≡ Some q → 2 * depth_of program s ≤ space q

-- a limit for each port of the first n instances
pub record AreLimits (program : Program) (n : ℕ) (all : List (Vec ℕ Global)) : Type 0 where
  pub len : length all ≡ n
  pub each : (i : ℕ) (v : Vec ℕ Global) → slice_get all i ≡ Some v → length v.items ≡ arity program i

-- ports whose tokens are as they were
pub record HaveSameTokens (before after : Ports) : Type 0 where
  pub ends : ends_of after ≡ ends_of before
  pub carries : (p : ℕ) → carried after p ≡ carried before p
  pub waits_same : (p : ℕ) → waiting after p ≡ waiting before p

-- each port that reads has space for twice the depth of its stream
abbrev pub AreReserved : Program → List Ports → Type 0
AreReserved program all = (i : ℕ) (x : Ports) → slice_get all i ≡ Some x → (p : ℕ) → Reads program i p → 2 * depth_of program (stream_at program i p) ≤ space_at x p

pub record IsSpare {B : Type 0} (program : Program) (homes : List (Option (Process B))) (limits : List (Vec ℕ Global)) (queues : List Queue) (listed : List Bool) : Type 0 where
  pub homes_len : length homes ≡ length program.instances.items
  pub limits_are : AreLimits program (length program.instances.items) limits
  pub queues_are : AreEmptyQueues program (length program.streams.items) queues
  pub listed_are : listed ≡ replicate (length program.instances.items) true

-- from number m on each instance is at home, with its body, ports and limits
pub record AreBroughtHome {B : Type 0} (m : ℕ) (limits : List (Vec ℕ Global)) (bodies : List B) (ports : List Ports) (homes : List (Option (Process B))) : Type 0 where
  pub home : (i : ℕ) → m ≤ i → i < length homes → (x : Process B) × (slice_get homes i ≡ Some (Some x))
  pub body : (i : ℕ) (x : Process B) → m ≤ i → slice_get homes i ≡ Some (Some x) → slice_get bodies i ≡ Some x.body
  pub port : (i : ℕ) (x : Process B) → m ≤ i → slice_get homes i ≡ Some (Some x) → slice_get ports i ≡ Some x.ports
  pub limit : (i : ℕ) (x : Process B) → m ≤ i → slice_get homes i ≡ Some (Some x) → slice_get limits i ≡ Some x.limits

-- the bodies and ports of the first n instances, which were at home
pub record AreParted {B : Type 0} (n : ℕ) (homes : List (Option (Process B))) (bodies : List B) (ports : List Ports) : Type 0 where
  pub bodies_len : length bodies ≡ n
  pub ports_len : length ports ≡ n
  pub body : (i : ℕ) (x : Process B) → i < n → slice_get homes i ≡ Some (Some x) → slice_get bodies i ≡ Some x.body
  pub port : (i : ℕ) (x : Process B) → i < n → slice_get homes i ≡ Some (Some x) → slice_get ports i ≡ Some x.ports
