use Rattle.std.proofs.Common.{◌≡◌, ◌^◌, ◌<◌, ◌≤◌, List, length, map, ap, subst, sym, ◌∙◌, arith}
use Rattle.tapa_syntax.specs.declared.program.Instance.{Instance}
use Rattle.task_graph.specs.declared.Edge.{Edge}
use Rattle.task_graph.specs.declared.Use.{Use}
use Rattle.task_graph.specs.Edges.{edge_of, EndBelow}
use Rattle.task_graph.specs.Streams.{amount_at, AreGroups, HasRank}
use Rattle.task_graph.specs.Uses.{use_of}
use Rattle.task_graph.proofs.Made.{few_edges, ends_below, widths, uses_small, mapped_long}
use Rattle.task_graph.proofs.Graph.of.Goals as goal

pub groups_of-requires-clause-ends : goal.groups_of-requires-clause-ends
groups_of-requires-clause-ends c =
    let program = c.args.program.now in
    let edges = c.in_ok-edges.edges.items in
    let is : edges ≡ map edge_of program.streams.items = c.in_ok-edges.ensures ∙ ap (map edge_of) c.deref-4.ensures.value in
    let n : length program.instances.items ≡ c.len.result = (let k = program.instances.ok.0 in let e = c.len.ensures in omega arith) in
    subst (λ (l : List Edge). EndBelow c.len.result l) (sym c.deref-5.ensures.value) (subst (λ k. EndBelow k edges) n (ends_below program c.requires edges is))

pub invariant_of-result : goal.invariant_of-result
invariant_of-result c =
    let program = c.args.program.now in
    let edges = c.in_ok-edges.edges.items in
    let numbers = c.in_ok-groups.groups.numbers.items in
    let is : edges ≡ map edge_of program.streams.items = c.in_ok-edges.ensures ∙ ap (map edge_of) c.deref-4.ensures.value in
    let n : length program.instances.items ≡ c.len.result = (let k = program.instances.ok.0 in let e = c.len.ensures in omega arith) in
    let len : length program.instances.items ≡ length numbers = n ∙ sym c.in_ok-groups.ensures.len in
    record {
      few_instances = subst (λ k. k ≤ 512) len c.requires.few_instances;
      few_streams = few_edges program c.requires edges is;
      labelled = mapped_long (λ (i : Instance). i.label) c.deref.result.now c.in_ok-labels.labels.items c.in_ok-labels.ensures ∙ ap length c.deref.ensures.value ∙ len;
      used = mapped_long (use_of c.deref-2.result.now) c.deref-3.result.now c.in_ok-uses.uses.items c.in_ok-uses.ensures ∙ ap length c.deref-3.ensures.value ∙ len;
      ends = subst (λ k. EndBelow k edges) len (ends_below program c.requires edges is);
      widths = widths program c.requires edges is;
      amounts = λ i k. subst (λ (l : List Use). amount_at l i k < 2 ^ 40) (sym c.in_ok-uses.ensures) (uses_small c.deref-2.result.now c.deref-3.result.now i k);
      numbered = c.in_ok-groups.ensures.numbered;
      grouped = ∣ subst (λ (l : List Edge). AreGroups numbers l) c.deref-5.ensures.value c.in_ok-groups.ensures.grouped ∣₁;
      ranked = ∣ subst (λ (l : List Edge). HasRank numbers c.in_ok-groups.groups.count l) c.deref-5.ensures.value c.in_ok-groups.ensures.ranked ∣₁;
    }
