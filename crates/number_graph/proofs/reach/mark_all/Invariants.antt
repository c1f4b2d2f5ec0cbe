use Rattle.std.proofs.Common.{ℕ, take}
use Rattle.tapa_base.specs.Lists.{Has}
use Rattle.number_graph.specs.Marks.{Grows}
use Rattle.number_graph.proofs.reach.mark_all.Given as goal

abbrev pub invariant-loop-number : goal.invariant-loop-number
invariant-loop-number l = record {
  grows : Grows l.fn.marks.items l.marks.items l.fn.found.items l.found.items (λ m. Has l.numbers m);
  there : (m : ℕ) → Has (take l.number-index l.numbers) m → Has l.found.items m;
}
