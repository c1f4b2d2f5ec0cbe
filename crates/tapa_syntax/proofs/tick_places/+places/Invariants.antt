use Rattle.std.proofs.Common.{◌≡◌, ◌≤◌, ◌^◌, ◌+◌, ◌-◌, map, drop}
use Rattle.tapa_syntax.specs.Flat.{flat_statement, in_row}
use Rattle.tapa_syntax.specs.TickPlaces as ticks
use Rattle.tapa_syntax.specs.TickPlaces.{capped}
use Rattle.tapa_syntax.proofs.tick_places.+places.Given as goal

abbrev pub invariant-places_in-loop-statement : goal.invariant-places_in-loop-statement
invariant-places_in-loop-statement l = (capped (ticks.places_in (in_row (map flat_statement l.code))) ≡ capped (l.sum + ticks.places_in (in_row (map flat_statement (drop l.statement-index l.code))))) × (l.sum ≤ 2 ^ 64 - 1)
