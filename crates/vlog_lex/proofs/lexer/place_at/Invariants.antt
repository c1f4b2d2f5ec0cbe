use Rattle.std.proofs.Common.{◌≡◌, ◌≤◌, ◌+◌, take}
use Rattle.tapa_base.specs.declared.text.Place.{Place}
use Rattle.tapa_syntax.specs.Characters.{place_of}
use Rattle.vlog_lex.proofs.lexer.place_at.Given as goal

abbrev pub invariant-loop-turn : goal.invariant-loop-turn
invariant-loop-turn l = (let p : Place = record { line = l.line; col = l.col } in p ≡ place_of (take l.turn l.before)) × (l.line ≤ l.turn + 1) × (l.col ≤ l.turn + 1)
