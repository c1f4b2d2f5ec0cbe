-- What the ports of an instance hold.
use Rattle.std.specs.Prelude.{◌≡◌, ℕ, ◌+◌, ◌≤◌, vec_capacity, List, [], ◌++◌, length, map, drop, flat_map, Option, Some, None, slice_get}
use Rattle.tapa_base.specs.declared.kind.Kind.{Kind}
use Rattle.tapa_base.specs.declared.token.Token.{Token}
use Rattle.tapa_syntax.specs.declared.program.End.{End}
use Rattle.kahn_model.specs.declared.tick.Tick.{Tick}
use Rattle.kahn_model.specs.Network.{put_on, take_from}
use Rattle.net_core.specs.declared.port.Port.{Port}
use Rattle.net_core.specs.declared.ports.Ports.{Ports}
use Rattle.net_core.specs.Kinds.{kind_in}

abbrev pub waiting_in : Option Port → List Token
waiting_in None = []
waiting_in (Some p) = drop p.head p.tokens.items

-- the tokens that wait at a port, the next one first
abbrev pub waiting : Ports → ℕ → List Token
waiting ports p = waiting_in (slice_get ports.ports.items p)

abbrev pub carried_in : Option Port → List Token
carried_in None = []
carried_in (Some p) = p.carried.items

-- all tokens that were written to a port's stream
abbrev pub carried : Ports → ℕ → List Token
carried ports p = carried_in (slice_get ports.ports.items p)

abbrev pub room_in : Option Port → ℕ
room_in None = 0
room_in (Some p) = p.room

-- how many more tokens a port takes
abbrev pub room_at : Ports → ℕ → ℕ
room_at ports p = room_in (slice_get ports.ports.items p)

abbrev pub held_in : Option Port → ℕ
held_in None = 0
held_in (Some p) = length p.tokens.items

-- how many tokens the queue of a port holds, with those that were taken and not dropped yet
abbrev pub held_at : Ports → ℕ → ℕ
held_at ports p = held_in (slice_get ports.ports.items p)

abbrev pub space_in : Option Port → ℕ
space_in None = 0
space_in (Some p) = vec_capacity p.tokens

-- how many tokens the queue of a port can hold without more memory
abbrev pub space_at : Ports → ℕ → ℕ
space_at ports p = space_in (slice_get ports.ports.items p)

abbrev pub port_count : Ports → ℕ
port_count ports = length ports.ports.items

-- the streams of the ports: their kinds and directions
abbrev pub ends_of : Ports → List End
ends_of ports = map (λ (p : Port). p.end) ports.ports.items

-- the kind of the stream of a port
abbrev pub kind_at : Ports → ℕ → Kind
kind_at ports p = kind_in (ends_of ports) p

-- the ports after these ticks
pub record Moved (before : Ports) (ts : List Tick) (after : Ports) : Type 0 where
  pub ends : ends_of after ≡ ends_of before
  pub waits : (p : ℕ) → waiting after p ≡ drop (length (flat_map (take_from p) ts)) (waiting before p)
  pub puts : (p : ℕ) → carried after p ≡ carried before p ++ flat_map (put_on p) ts
  pub rooms : (p : ℕ) → room_at after p + length (flat_map (put_on p) ts) ≡ room_at before p
  pub spaces : (p : ℕ) → space_at before p ≤ space_at after p

-- the ports after a change of what waits at one of them, or of its room
pub record Adjusted (before : Ports) (s : ℕ) (after : Ports) : Type 0 where
  pub ends : ends_of after ≡ ends_of before
  pub carries : (p : ℕ) → carried after p ≡ carried before p
  pub waits : (p : ℕ) → (p ≡ s → ⊥) → waiting after p ≡ waiting before p
  pub rooms : (p : ℕ) → (p ≡ s → ⊥) → room_at after p ≡ room_at before p
  pub spaces : (p : ℕ) → (p ≡ s → ⊥) → space_at before p ≤ space_at after p

-- the ports of all instances
abbrev pub ends_by : Option Ports → List End
ends_by None = []
ends_by (Some x) = ends_of x

abbrev pub carried_by : Option Ports → ℕ → List Token
carried_by None p = []
carried_by (Some x) p = carried x p

abbrev pub waiting_by : Option Ports → ℕ → List Token
waiting_by None p = []
waiting_by (Some x) p = waiting x p

abbrev pub room_by : Option Ports → ℕ → ℕ
room_by None p = 0
room_by (Some x) p = room_at x p

abbrev pub ends_in : List Ports → ℕ → List End
ends_in all i = ends_by (slice_get all i)

abbrev pub carried_of : List Ports → ℕ → ℕ → List Token
carried_of all i p = carried_by (slice_get all i) p

abbrev pub waiting_of : List Ports → ℕ → ℕ → List Token
waiting_of all i p = waiting_by (slice_get all i) p

abbrev pub room_of : List Ports → ℕ → ℕ → ℕ
room_of all i p = room_by (slice_get all i) p

-- port p of instance i was loaded anew
pub record IsReloaded (before : List Ports) (i p : ℕ) (after : List Ports) : Type 0 where
  pub len : length after ≡ length before
  pub ends : (j : ℕ) → ends_in after j ≡ ends_in before j
  pub carries : (j q : ℕ) → carried_of after j q ≡ carried_of before j q
  pub waits : (q : ℕ) → (q ≡ p → ⊥) → waiting_of after i q ≡ waiting_of before i q
  pub rooms : (q : ℕ) → (q ≡ p → ⊥) → room_of after i q ≡ room_of before i q
  pub others_wait : (j q : ℕ) → (j ≡ i → ⊥) → waiting_of after j q ≡ waiting_of before j q
