-- What the graph of a well-formed program keeps.
use Rattle.std.proofs.Common.{◌≡◌, ℕ, zero, suc, ◌+◌, ◌-◌, ◌^◌, ◌<◌, ◌≤◌, List, [], ◌∷◌, length, map, refl, sym, ap, subst, ◌∙◌, arith}
use Rattle.std.specs.Prelude.{Option, Some, slice_get, slice_index_or}
use Rattle.std.specs.Option.{option_map_or}
use Rattle.std.proofs.lemmas.List.{length-map}
use Rattle.std.proofs.lemmas.Option.{slice_get_within}
use Rattle.tapa_base.specs.declared.kind.Kind.{Kind}
use Rattle.tapa_base.specs.declared.kind.Kind.TheVariants as kind
use Rattle.tapa_base.specs.Kinds.{bits_of}
use Rattle.tapa_syntax.specs.declared.program.Instance.{Instance}
use Rattle.tapa_syntax.specs.declared.program.Leaf.{Leaf}
use Rattle.tapa_syntax.specs.declared.program.Program.{Program}
use Rattle.tapa_syntax.specs.declared.program.Stream.{Stream}
use Rattle.tapa_syntax.specs.WellFormed.{IsWellFormed}
use Rattle.task_graph.specs.declared.Edge.{Edge}
use Rattle.task_graph.specs.Streams.{from_of, to_of, width_of, amount, amount_at}
use Rattle.std.specs.List.{sum_by}
use Rattle.task_graph.specs.Estimate.{at_most, estimate, luts, flip_flops, array_brams, in_code, dsp_rates}
use Rattle.task_graph.specs.Edges.{edge_of, EndBelow}
use Rattle.task_graph.specs.Uses.{nothing, use_of}
use Rattle.tapa_base.proofs.Tests.{kind_bits as few_bits}

-- ---- streams

edge_at : (streams : List Stream) (e : ℕ) → e < length streams → (r : Stream) × (slice_get streams e ≡ Some r) × (slice_get (map edge_of streams) e ≡ Some (edge_of r))
edge_at [] e l = absurd (omega arith)
edge_at (s ∷ ss) zero l = (s, refl, refl)
edge_at (s ∷ ss) (suc e) l = edge_at ss e (omega arith)

module _ (program : Program) (formed : IsWellFormed program) (edges : List Edge) (is : edges ≡ map edge_of program.streams.items) where
  long : length edges ≡ length program.streams.items
  long = ap length is ∙ length-map program.streams.items edge_of

  pub few_edges : length edges ≤ 1024
  few_edges = let l = long in let f = formed.few_streams in omega arith

  pub ends_below : EndBelow (length program.instances.items) edges
  ends_below e l =
      let at = edge_at program.streams.items e (let n = long in omega arith) in
      let stream = formed.streams e at.0 at.1 in
      let read : slice_get edges e ≡ Some (edge_of at.0) = ap (λ xs. slice_get xs e) is ∙ at.2 in
      let from : from_of edges e ≡ at.0.producer = ap (λ (o : Option Edge). option_map_or (λ (x : Edge). x.from) o 0) read in
      let to : to_of edges e ≡ at.0.consumer = ap (λ (o : Option Edge). option_map_or (λ (x : Edge). x.to) o 0) read in (
        subst (λ n. n < length program.instances.items) (sym from) (slice_get_within program.instances.items at.0.producer stream.written.instance stream.written.is),
        subst (λ n. n < length program.instances.items) (sym to) (slice_get_within program.instances.items at.0.consumer stream.read.instance stream.read.is),
      )

  pub widths : (e : ℕ) → e < length edges → (2 ≤ width_of edges e) × (width_of edges e ≤ 65)
  widths e l =
      let at = edge_at program.streams.items e (let n = long in omega arith) in
      let read : slice_get edges e ≡ Some (edge_of at.0) = ap (λ xs. slice_get xs e) is ∙ at.2 in
      let width : width_of edges e ≡ bits_of at.0.kind + 1 = ap (λ (o : Option Edge). option_map_or (λ (x : Edge). x.width) o 0) read in
      let few = few_bits at.0.kind in (omega arith, omega arith)

-- ---- uses

cut_small : (n : ℕ) → at_most n < 2 ^ 40
cut_small n = omega arith

estimate_small : (leaf : Leaf) (k : ℕ) → amount (estimate leaf) k < 2 ^ 40
estimate_small leaf zero = cut_small (luts leaf)
estimate_small leaf (suc zero) = cut_small (flip_flops leaf)
estimate_small leaf (suc (suc zero)) = cut_small (sum_by array_brams leaf.arrays.items)
estimate_small leaf (suc (suc (suc zero))) = cut_small (in_code dsp_rates leaf)
estimate_small leaf (suc (suc (suc (suc zero)))) = omega arith
estimate_small leaf (suc (suc (suc (suc (suc k))))) = omega arith

nothing_small : (k : ℕ) → amount nothing k < 2 ^ 40
nothing_small zero = omega arith
nothing_small (suc zero) = omega arith
nothing_small (suc (suc zero)) = omega arith
nothing_small (suc (suc (suc zero))) = omega arith
nothing_small (suc (suc (suc (suc zero)))) = omega arith
nothing_small (suc (suc (suc (suc (suc k))))) = omega arith

leaf_small : (bodies : List Leaf) (b k : ℕ) → amount (slice_index_or (map estimate bodies) b nothing) k < 2 ^ 40
leaf_small [] b k = nothing_small k
leaf_small (x ∷ xs) zero k = estimate_small x k
leaf_small (x ∷ xs) (suc b) k = leaf_small xs b k

pub uses_small : (bodies : List Leaf) (instances : List Instance) (i k : ℕ) → amount_at (map (use_of bodies) instances) i k < 2 ^ 40
uses_small bodies [] i k = omega arith
uses_small bodies (x ∷ xs) zero k = leaf_small bodies x.body k
uses_small bodies (x ∷ xs) (suc i) k = uses_small bodies xs i k

pub mapped_long : {A B : Type 0} (f : A → B) (xs : List A) (ys : List B) → ys ≡ map f xs → length ys ≡ length xs
mapped_long f xs ys e = ap length e ∙ length-map xs f
