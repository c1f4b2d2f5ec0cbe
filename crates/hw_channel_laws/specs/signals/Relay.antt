-- Registers forward for tokens and back for readiness: one step, and steps in a row.
use Rattle.std.specs.Prelude.{◌≡◌, ℕ, suc, ◌+◌, ◌-◌, ◌<◌, nat_lt, ◌==◌, if◌then◌else◌}
use Rattle.hw_channel_laws.specs.signals.Signals.{Signal, Resets}

pub record RelayPorts : Type 0 where
  pub put : Signal
  pub din : Signal
  pub rdy : Signal
  pub put_late : Signal
  pub din_late : Signal
  pub rdy_early : Signal

-- wires alone
pub record IsStraight (p : RelayPorts) : Type 0 where
  pub put_is : (n : ℕ) → p.put_late n ≡ p.put n
  pub din_is : (n : ℕ) → p.din_late n ≡ p.din n
  pub rdy_is : (n : ℕ) → p.rdy n ≡ p.rdy_early n

-- One step by its printed lines: the registers are the ports on the other side. The token is not reset, and stays where none is put in.
pub record IsStep (rst : Signal) (p : RelayPorts) : Type 0 where
  pub put_goes : (n : ℕ) → p.put_late (suc n) ≡ (if rst n == 1 then 0 else p.put n)
  pub din_goes : (n : ℕ) → p.din_late (suc n) ≡ (if p.put n == 1 then p.din n else p.din_late n)
  pub rdy_goes : (n : ℕ) → p.rdy (suc n) ≡ (if rst n == 1 then 0 else p.rdy_early n)

-- a relay of two parts in a row
pub record IsRow (p first second : RelayPorts) : Type 0 where
  pub put_first : (n : ℕ) → first.put n ≡ p.put n
  pub put_second : (n : ℕ) → second.put n ≡ first.put_late n
  pub put_last : (n : ℕ) → p.put_late n ≡ second.put_late n
  pub din_first : (n : ℕ) → first.din n ≡ p.din n
  pub din_second : (n : ℕ) → second.din n ≡ first.din_late n
  pub din_last : (n : ℕ) → p.din_late n ≡ second.din_late n
  pub rdy_first : (n : ℕ) → second.rdy_early n ≡ p.rdy_early n
  pub rdy_second : (n : ℕ) → first.rdy_early n ≡ second.rdy n
  pub rdy_last : (n : ℕ) → p.rdy n ≡ first.rdy n

-- a relay of a number of steps: none, one, or two relays in a row, as two halves
pub data IsRelay (rst : Signal) : ℕ → RelayPorts → Type 0 where
  Straight : (steps : ℕ) (p : RelayPorts) → steps ≡ 0 → IsStraight p → IsRelay rst steps p
  Step : (steps : ℕ) (p : RelayPorts) → steps ≡ 1 → IsStep rst p → IsRelay rst steps p
  Row : (steps : ℕ) (p : RelayPorts) (a b : ℕ) (first second : RelayPorts) → steps ≡ a + b → IsRow p first second → IsRelay rst a first → IsRelay rst b second → IsRelay rst steps p

-- each net is its source `late` cycles ago, the data where a token was put in; from cycle 1 on, validity and readiness are 0 up to then
pub record Delays (late : ℕ) (p : RelayPorts) : Type 0 where
  pub put_late : (n : ℕ) → 0 < n → p.put_late n ≡ (if nat_lt late n then p.put (n - late) else 0)
  pub din_late : (n : ℕ) → late < n → p.put (n - late) ≡ 1 → p.din_late n ≡ p.din (n - late)
  pub rdy : (n : ℕ) → 0 < n → p.rdy n ≡ (if nat_lt late n then p.rdy_early (n - late) else 0)

abbrev pub RelayLaw : Type 0
RelayLaw = (rst : Signal) → Resets rst → (late : ℕ) (p : RelayPorts) → IsRelay rst late p → Delays late p
