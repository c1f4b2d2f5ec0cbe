use Rattle.std.proofs.Common.{ℕ, take}
use Rattle.tapa_base.specs.Lists.{Has}
use Rattle.number_graph.specs.Graphs.{Steps}
use Rattle.number_graph.specs.Marks.{Grows}
use Rattle.number_graph.proofs.reach.mark_targets.Given as goal

abbrev pub invariant-loop-source : goal.invariant-loop-source
invariant-loop-source l = record {
  grows : Grows l.fn.marks.items l.marks.items l.fn.found.items l.found.items (λ m. (j : ℕ) × Has l.sources j × Steps l.graph j m);
  there : (j : ℕ) → Has (take l.source-index l.sources) j → (m : ℕ) → Steps l.graph j m → Has l.found.items m;
}
