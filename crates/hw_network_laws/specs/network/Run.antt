-- A run of a network of machines, cycle by cycle: with it the definitions are not empty.
use Rattle.std.specs.Prelude.{ℕ, zero, suc, ◌-◌, ◌*◌, ◌<◌, List, [], ◌∷◌, ◌++◌, length, get_or, Bool, true, false, ◌&&◌, not, nat_lt, if◌then◌else◌, slice_get}
use Rattle.tapa_base.specs.declared.token.Token.{Token}
use Rattle.tapa_base.specs.declared.token.Token.TheVariants.{Eot}
use Rattle.kahn_model.specs.Trace.{State}
use Rattle.kahn_model.specs.Network.{Network, IsNetwork}
use Rattle.kahn_model.specs.Timed.{Clock}
use Rattle.task_fsm.specs.Run.{StateStep, step_at}
use Rattle.hw_lines.specs.After.{at_after, held_after, ends_by}
use Rattle.hw_lines.specs.Signals.{Streams, History, Part}
use Rattle.hw_lines.specs.Machine.{allows, found, takes_of, puts_of}
use Rattle.hw_network_laws.specs.network.Clocked.{IsPartOf, IsClocked}

-- the snapshot before a cycle: each machine, and what each stream has carried and given
pub record Stand : Type 0 where
  pub at : ℕ → ℕ
  pub holds : ℕ → State
  pub ended : ℕ → Bool
  pub put : ℕ → List Token
  pub took : ℕ → List Token

abbrev pub first_stand : (ℕ → Part) → Stand
first_stand parts = record { at = λ i. 0; holds = λ i. (parts i).first; ended = λ i. false; put = λ s. []; took = λ s. [] }

abbrev pub stood : (ℕ → Part) → List Stand → ℕ → Stand
stood parts past d = get_or past d (first_stand parts)

-- the channels in cycle n, by the snapshots so far, the newest first
abbrev pub has_by : (ℕ → Part) → Clock → List Stand → ℕ → Bool
has_by parts clock past s = nat_lt (length ((stood parts past 0).took s)) (length ((stood parts past (clock.latency s)).put s))

abbrev pub dout_by : (ℕ → Part) → List Stand → ℕ → Token
dout_by parts past s = get_or ((stood parts past 0).put s) (length ((stood parts past 0).took s)) Eot

abbrev pub rdy_by : Network → (ℕ → Part) → Clock → ℕ → List Stand → ℕ → Bool
rdy_by net parts clock n past s =
    nat_lt (clock.latency s) n && nat_lt (length ((stood parts past (2 * clock.latency s)).put s) - length ((stood parts past (clock.latency s)).took s)) (net.depth s)

abbrev pub inputs_by : Network → (ℕ → Part) → Clock → ℕ → List Stand → Streams
inputs_by net parts clock n past = record {
  has = λ s m. has_by parts clock past s;
  dout = λ s m. dout_by parts past s;
  take = λ s m. false;
  rdy = λ s m. rdy_by net parts clock n past s;
  wr = λ s m. false;
  din = λ s m. Eot;
}

abbrev pub step_by : (ℕ → Part) → List Stand → ℕ → StateStep
step_by parts past i =
    step_at (slice_get (parts i).places ((stood parts past 0).at i)) ((stood parts past 0).at i) ((stood parts past 0).holds i)

abbrev pub does_by : Network → (ℕ → Part) → Clock → ℕ → List Stand → ℕ → Bool
does_by net parts clock n past i =
    not ((stood parts past 0).ended i) && allows (inputs_by net parts clock n past) (clock.answers i) (parts i).bound n (step_by parts past i)

abbrev pub puts_in : Network → (ℕ → Part) → Clock → ℕ → List Stand → ℕ → List Token
puts_in net parts clock n past s =
    if nat_lt (net.producer s) net.size && does_by net parts clock n past (net.producer s) then puts_of (parts (net.producer s)).bound s (step_by parts past (net.producer s)) else []

abbrev pub takes_in : Network → (ℕ → Part) → Clock → ℕ → List Stand → ℕ → Bool
takes_in net parts clock n past s =
    nat_lt (net.consumer s) net.size && (does_by net parts clock n past (net.consumer s) && takes_of (parts (net.consumer s)).bound s (step_by parts past (net.consumer s)))

abbrev pub next_stand : Network → (ℕ → Part) → Clock → ℕ → List Stand → Stand
next_stand net parts clock n past = record {
  at = λ i. if does_by net parts clock n past i then at_after (step_by parts past i) ((stood parts past 0).at i) else (stood parts past 0).at i;
  holds = λ i. if does_by net parts clock n past i then held_after (step_by parts past i) ((stood parts past 0).holds i)
      (found (inputs_by net parts clock n past) (parts i).bound n (step_by parts past i)) else (stood parts past 0).holds i;
  ended = λ i. if does_by net parts clock n past i then ends_by (step_by parts past i) else (stood parts past 0).ended i;
  put = λ s. (stood parts past 0).put s ++ puts_in net parts clock n past s;
  took = λ s. (stood parts past 0).took s ++ (if takes_in net parts clock n past s then dout_by parts past s ∷ [] else []);
}

-- the snapshots before the cycles n, n - 1 and so on down to 1
abbrev pub stands : Network → (ℕ → Part) → Clock → ℕ → List Stand
stands net parts clock zero = []
stands net parts clock (suc zero) = first_stand parts ∷ []
stands net parts clock (suc (suc n)) = next_stand net parts clock (suc n) (stands net parts clock (suc n)) ∷ stands net parts clock (suc n)

abbrev pub is_some : List Token → Bool
is_some [] = false
is_some (t ∷ l) = true

abbrev pub streams_of : Network → (ℕ → Part) → Clock → Streams
streams_of net parts clock = record {
  has = λ s n. has_by parts clock (stands net parts clock n) s;
  dout = λ s n. dout_by parts (stands net parts clock n) s;
  take = λ s n. takes_in net parts clock n (stands net parts clock n) s;
  rdy = λ s n. rdy_by net parts clock n (stands net parts clock n) s;
  wr = λ s n. is_some (puts_in net parts clock n (stands net parts clock n) s);
  din = λ s n. get_or (puts_in net parts clock n (stands net parts clock n) s) 0 Eot;
}

abbrev pub history_of : Network → (ℕ → Part) → Clock → ℕ → History
history_of net parts clock i = record {
  at = λ n. (stood parts (stands net parts clock n) 0).at i;
  holds = λ n. (stood parts (stands net parts clock n) 0).holds i;
  ended = λ n. (stood parts (stands net parts clock n) 0).ended i;
}

-- machines that follow the jobs of a network have a run at each clock
abbrev pub ClockedNetworksRun : Type 0
ClockedNetworksRun =
    (net : Network) (clock : Clock) (parts : ℕ → Part) → IsNetwork net → ((i : ℕ) → i < net.size → IsPartOf (net.job i) (parts i))
    → IsClocked net clock parts (streams_of net parts clock) (history_of net parts clock)
