use Rattle.std.proofs.Common.{◌≡◌, ◌≤◌, ◌-◌, Ok, take, drop, length}
use Rattle.stream_arrays.specs.Reading.{known}
use Rattle.stream_arrays.specs.Written as spec
use Rattle.stream_arrays.specs.Writing.{writing, more}
use Rattle.stream_arrays.proofs.whole.write_forms.Given as goal

abbrev pub invariant-loop-turn : goal.invariant-loop-turn
invariant-loop-turn l = record {
  written :
      spec.and_then (spec.whole l.text l.lexemes) (λ t. Ok (more (writing l.fn.out).text t))
      ≡ spec.and_then (spec.written_from l.text (l.turn-end - l.turn) (known l.scope) (take l.at l.lexemes) l.end (drop l.at l.lexemes)) (λ t. Ok (more (writing l.out).text t));
  depth : l.scope.depth ≤ l.turn;
  within : l.at ≤ length l.lexemes;
}
