use Rattle.std.proofs.Common.{◌+◌, ◌≤◌, ◌++◌, take}
use Rattle.tapa_base.specs.Gaps.{Bytes}
use Rattle.tapa_lex.specs.Standing.{IsBehind}
use Rattle.tapa_lex.proofs.cursor.Cursor.past_all.Given as goal

abbrev pub invariant-loop-b : goal.invariant-loop-b
invariant-loop-b l = (l.cursor.at ≤ l.initial.cursor.at + l.b-index) × (l.cursor.place.line ≤ l.initial.cursor.place.line + l.b-index) × (l.cursor.place.col ≤ l.initial.cursor.place.col + l.b-index) × ((before : Bytes) → IsBehind before l.initial.cursor → IsBehind (before ++ take l.b-index l.bytes) l.cursor)
