use Rattle.std.proofs.Common.{◌≡◌, ◌-◌, length, drop}
use Rattle.tapa_syntax.specs.LeafKinds.{kinds_of}
use Rattle.tapa_syntax.specs.Typed.{IsTyped, IsTypedCode}
use Rattle.kahn_model.specs.Fits.{IsFitState}
use Rattle.kahn_reference.specs.Kept.{StandsFit}
use Rattle.kahn_model.specs.Behavior.{Behavior}
use Rattle.kahn_reference.specs.Slow.{point, numbers, state_of, loop_of}
use Rattle.kahn_model.specs.Trace.{State, statements}
use Rattle.kahn_reference.proofs.SlowFlows.{Goes}
use Rattle.kahn_reference.proofs.slow.+statements.Given as goal

abbrev pub invariant-run_block-loop-s : goal.invariant-run_block-loop-s
invariant-run_block-loop-s l = record {
  heads : length l.run.heads.items ≡ length l.lists;
  goes : (go out again : State → Behavior) → Goes (numbers l.streams) (point l.lists l.fn.run) (statements (kinds_of l.leaf) l.n l.code (state_of l.fn.run.state) go out again) (point l.lists l.run) (statements (kinds_of l.leaf) l.n (drop l.s-index l.code) (state_of l.run.state) go out again);
  fits : IsTypedCode (kinds_of l.leaf) l.code → StandsFit (kinds_of l.leaf) l.streams l.lists (state_of l.fn.run.state) → IsTypedCode (kinds_of l.leaf) (drop l.s-index l.code) × IsFitState (kinds_of l.leaf) (state_of l.run.state);
}

abbrev pub invariant-run_loop-loop-turn : goal.invariant-run_loop-loop-turn
invariant-run_loop-loop-turn l = record {
  heads : length l.run.heads.items ≡ length l.lists;
  goes : (go out again : State → Behavior) → Goes (numbers l.streams) (point l.lists l.fn.run) (loop_of (kinds_of l.leaf) l.n l.n l.s (state_of l.fn.run.state) go out again) (point l.lists l.run) (loop_of (kinds_of l.leaf) l.n (l.n - l._turn) l.s (state_of l.run.state) go out again);
  fits : IsTyped (kinds_of l.leaf) l.s → StandsFit (kinds_of l.leaf) l.streams l.lists (state_of l.fn.run.state) → IsFitState (kinds_of l.leaf) (state_of l.run.state);
}
