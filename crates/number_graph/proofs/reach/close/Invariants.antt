use Rattle.std.proofs.Common.{ℕ, ◌<◌, length, get_or}
use Rattle.tapa_base.specs.Lists.{Has, Chain}
use Rattle.number_graph.specs.Graphs.{Steps}
use Rattle.number_graph.specs.Marks.{Grows}
use Rattle.number_graph.proofs.reach.close.Given as goal

abbrev pub invariant-loop-next : goal.invariant-loop-next
invariant-loop-next l = record {
  grows : Grows l.fn.marks.items l.marks.items l.fn.found.items l.found.items (λ m. (j : ℕ) × Has l.fn.found.items j × Chain (Steps l.graph) j m);
  closed : (i : ℕ) → i < l.next → i < length l.found.items → (m : ℕ) → Steps l.graph (get_or l.found.items i 0) m → Has l.found.items m;
}
