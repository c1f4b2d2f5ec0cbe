use Rattle.std.proofs.Common.{◌≡◌}
use Rattle.hw_build.specs.Elements.{with_all}
use Rattle.hw_build.specs.Scope.{each}
use Rattle.hw_lines.specs.Texts.{asked}
use Rattle.hw_task.specs.Asked.{AreAsked}
use Rattle.hw_nets.specs.Shapes.{form}
use Rattle.hw_task.proofs.reads.add_all_asked.Given as goal

abbrev pub invariant-loop-k : goal.invariant-loop-k
invariant-loop-k l = record {
  draft : l.draft ≡ with_all l.initial.draft (each (asked (form l.shape) l.p) l.k);
  asked : AreAsked (form l.shape) l.p l.all.items l.k;
}
