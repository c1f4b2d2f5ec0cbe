-- What the streams of a net offer to the ports of its instances.
use Rattle.std.specs.Prelude.{◌≡◌, Bool, true, ℕ, ◌<◌, ◌≤◌, ◌-◌, List, length, drop, take, Some, slice_get, slice_index}
use Rattle.tapa_base.specs.declared.token.Token.{Token}
use Rattle.tapa_syntax.specs.declared.program.Program.{Program}
use Rattle.net_core.specs.declared.streams.Streams.{Streams}
use Rattle.net_core.specs.Ports.{IsReloaded, ends_in, carried_of, waiting_of, room_of}
use Rattle.net_core.specs.Bindings.{ends_at, stream_at, Reads, Writes, producer_of, consumer_of, depth_of, IsWriter}

abbrev pub IsIn : ℕ → List ℕ → Type 0
IsIn x xs = (n : ℕ) × (slice_get xs n ≡ Some x)

abbrev pub AreBelow : ℕ → List ℕ → Type 0
AreBelow m xs = (n x : ℕ) → slice_get xs n ≡ Some x → x < m

-- an instance that is marked as listed is on the list
abbrev pub AreListed : List Bool → List ℕ → Type 0
AreListed listed xs = (x : ℕ) → slice_get listed x ≡ Some true → IsIn x xs

-- what is written on stream s, by its producer's port
abbrev pub list_at : Program → Streams → ℕ → List Token
list_at program t s = carried_of t.ports.items (producer_of program s) (slice_index t.writers.items s)

-- and what of it was not taken
abbrev pub queue_at : Program → Streams → ℕ → List Token
queue_at program t s = drop (slice_index t.taken.items s) (list_at program t s)

-- each reader's port holds what it was offered of its stream and has not taken
pub record AreQueued (program : Program) (t : Streams) (lists : ℕ → List Token) : Type 0 where
  pub waits : (i p : ℕ) → i < length program.instances.items → Reads program i p
      → waiting_of t.ports.items i p ≡ drop (slice_index t.taken.items (stream_at program i p)) (take (slice_index t.offered.items (stream_at program i p)) (lists (stream_at program i p)))
  pub offered_within : (s : ℕ) → s < length program.streams.items → slice_index t.offered.items s ≤ length (lists s)
  pub taken_within : (s : ℕ) → s < length program.streams.items → slice_index t.taken.items s ≤ slice_index t.offered.items s

-- the tables have an entry for each instance and each stream
pub record HasTables (program : Program) (t : Streams) : Type 0 where
  pub ports_len : length t.ports.items ≡ length program.instances.items
  pub offered_len : length t.offered.items ≡ length program.streams.items
  pub taken_len : length t.taken.items ≡ length program.streams.items
  pub ends : (i : ℕ) → i < length program.instances.items → ends_in t.ports.items i ≡ ends_at program i

-- each port is at its end of its stream, and holds what it was offered
pub record HasPorts (program : Program) (t : Streams) : Type 0 where
  pub tables : HasTables program t
  pub open tables use *
  pub writers_len : length t.writers.items ≡ length program.streams.items
  pub writer_is : (s : ℕ) → s < length program.streams.items → IsWriter program s (producer_of program s) (slice_index t.writers.items s)
  pub queued : AreQueued program t (list_at program t)

-- what loading leaves as it is
pub record AreKept (before after : Streams) : Type 0 where
  pub len : length after.ports.items ≡ length before.ports.items
  pub ends : (j : ℕ) → ends_in after.ports.items j ≡ ends_in before.ports.items j
  pub carries : (j q : ℕ) → carried_of after.ports.items j q ≡ carried_of before.ports.items j q
  pub offered_len : length after.offered.items ≡ length before.offered.items
  pub writers : after.writers.items ≡ before.writers.items
  pub taken : after.taken.items ≡ before.taken.items

-- port p of instance i is loaded anew, and nothing is recorded but what its stream offers
pub record Reloads (program : Program) (i p : ℕ) (before after : Streams) : Type 0 where
  pub ports : IsReloaded before.ports.items i p after.ports.items
  pub offered_len : length after.offered.items ≡ length before.offered.items
  pub writers : after.writers.items ≡ before.writers.items
  pub taken : after.taken.items ≡ before.taken.items
  pub others : (s : ℕ) → (Reads program i p → s ≡ stream_at program i p → ⊥) → slice_index after.offered.items s ≡ slice_index before.offered.items s

-- what a port of instance i holds then is what its stream offers, and is recorded as offered
pub record IsOffered (program : Program) (i p : ℕ) (before after : Streams) : Type 0 where
  pub waits : waiting_of after.ports.items i p ≡ drop (slice_index before.taken.items (stream_at program i p))
      (take (slice_index after.offered.items (stream_at program i p)) (list_at program before (stream_at program i p)))
  pub within : slice_index after.offered.items (stream_at program i p) ≤ length (list_at program before (stream_at program i p))
  pub more : slice_index before.offered.items (stream_at program i p) ≤ slice_index after.offered.items (stream_at program i p)

-- port p of instance i is loaded
pub record IsLoaded (program : Program) (i p : ℕ) (before after : Streams) : Type 0 where
  pub waits : Reads program i p → waiting_of after.ports.items i p ≡ queue_at program before (stream_at program i p)
  pub offers : Reads program i p → slice_index after.offered.items (stream_at program i p) ≡ length (list_at program before (stream_at program i p))
  pub room : Writes program i p
      → room_of after.ports.items i p ≡ depth_of program (stream_at program i p) - (length (carried_of before.ports.items i p) - slice_index before.taken.items (stream_at program i p))

-- the first m ports of instance i are loaded
abbrev pub AreLoaded : Program → ℕ → ℕ → Streams → Streams → Type 0
AreLoaded program m i before after = (p : ℕ) → p < m → IsLoaded program i p before after

-- nothing is changed but how many tokens were taken
pub record ChangesTaken (before after : Streams) : Type 0 where
  pub ports : after.ports.items ≡ before.ports.items
  pub writers : after.writers.items ≡ before.writers.items
  pub offered : after.offered.items ≡ before.offered.items
  pub taken_len : length after.taken.items ≡ length before.taken.items

-- the other end of a port's stream is on the list
pub record AreWoken (program : Program) (i p : ℕ) (later : List ℕ) : Type 0 where
  pub reader : Writes program i p → IsIn (consumer_of program (stream_at program i p)) later
  pub writer : Reads program i p → IsIn (producer_of program (stream_at program i p)) later

-- the list has the other end of each port's stream of instance i
abbrev pub AreNeighbours : Program → ℕ → List ℕ → Type 0
AreNeighbours program i near = AreBelow (length program.instances.items) near × ((p : ℕ) → AreWoken program i p near)
