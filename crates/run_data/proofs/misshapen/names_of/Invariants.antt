use Rattle.std.proofs.Common.{◌≡◌, ℕ, List, take}
use Rattle.std.specs.List.{list_any}
use Rattle.run_data.specs.Data.{is_name_of}
use Rattle.run_data.specs.Seen.{has_name}
use Rattle.run_data.proofs.misshapen.names_of.Given as goal

abbrev pub invariant-loop-port : goal.invariant-loop-port
invariant-loop-port l = (name : List ℕ) → has_name l.names name ≡ list_any (is_name_of name) (take l.port-index l.ports)
