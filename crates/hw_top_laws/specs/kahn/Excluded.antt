-- What a channel's contract excludes: so it is no promise that everything keeps.
use Rattle.std.specs.Prelude.{◌≡◌, ℕ, ◌+◌, ◌*◌, ◌<◌, ◌≤◌, length}
use Rattle.hw_channel_laws.specs.signals.Contract.{ChannelPorts, MeetsContract, written, taken}

-- no channel is ready while it holds all the tokens that it has room for
abbrev pub ReadyTooLong : Type 0
ReadyTooLong = (depth late n : ℕ) (c : ChannelPorts) → 0 < n → taken c n + depth + 2 * late ≤ length (written c n) → c.rdy n ≡ 1 → MeetsContract depth late c → ⊥
