use Rattle.std.proofs.Common.{◌≡◌, ◌<◌, ◌≤◌, arith, Bool, true, false, List, [], length, get_or, Some, refl, sym, ap, subst, ◌∙◌, inl, inr, map, rules}
use Rattle.std.specs.Prelude.{slice_get, slice_set, not}
use Rattle.std.specs.Option.{option_copied}
use Rattle.std.proofs.lemmas.List.{length-set, set-get_or, get_or_default}
use Rattle.vlog_tree.specs.declared.table.Declaration.{Declaration}
use Rattle.tapa_base.specs.Lists.{Has}
use Rattle.vlog_tree.specs.Form.{ModuleTree}
use Rattle.vlog_tree.specs.Table.{port_declared}
use Rattle.vlog_tree.specs.Loops.{Edges}
use Rattle.tapa_base.proofs.Lists.{got_index}
use Rattle.vlog_net_graph.specs.Names.{IsGraphOf}
use Rattle.vlog_comb_loops.specs.Merges.{IsGrown}
use Rattle.vlog_comb_loops.specs.Rooms.{candidates, room}
use Rattle.vlog_comb_loops.specs.Questions.{asked_of}
use Rattle.vlog_comb_loops.specs.Summaries.{is_named, module_edges, IsPair, IsSoundSum, IsUsed}
use Rattle.vlog_comb_loops.proofs.Asking.{used_asked}
use Rattle.vlog_comb_loops.proofs.Resting.{sums_set, sound_of}
use Rattle.vlog_comb_loops.proofs.Rooms.{room_less, missing_less, candidate_has}
use Rattle.tapa_base.proofs.Tests.{not_no as not_false, not_so as not_true}
use Rattle.vlog_comb_loops.proofs.sums.renew.Goals as goal

more_of : (ms : List ModuleTree) (old new : List Edges) (b : Bool) → (b ≡ false → new ≡ old) → (b ≡ true → room ms new < room ms old) → room ms new ≤ room ms old
more_of ms old new true f g = let l = g refl in omega (arith, l)
more_of ms old new false f g = let e = ap (λ (s : List Edges). room ms s) (f refl) in omega (arith, e)

pub returns : goal.returns
returns c =
    let ms = c.args.library.now in
    let is_top = is_named (option_copied c.args.root) in
    let sums = c.args.sums.now.items in
    let at = c.args.at in
    let m = c.index-modules-at.result in
    let ports = map port_declared m.ports in
    let edges = module_edges ms is_top sums m in
    let asked = asked_of c.args.uses.now m.name in
    let new = c.grow.new.sum in
    let added = c.in_ok-added.added in
    let low = subst (λ (l : List ModuleTree). at < length l) (sym c.modules.ensures.value) c.requires.module in
    let is : slice_get ms at ≡ Some m = subst (λ (l : List ModuleTree). slice_get l at ≡ Some m) c.modules.ensures.value (got_index c.modules.result.now at m low c.index-modules-at.is) in
    let graph : IsGraphOf edges c.in_ok-graph.graph = subst (λ (l : List Edges). IsGraphOf (module_edges ms is_top l m) c.in_ok-graph.graph) c.deref.ensures.value c.in_ok-graph.ensures.graph in
    let own : c.in_ok-ports.ports ≡ ports = search rules in
    let was : c.index_mut.result.now ≡ get_or sums at [] = c.index_mut.ensures.value ∙ get_or_default sums at c.index_mut.result.now [] c.requires.sum in
    let grown : IsGrown edges ports asked (get_or sums at []) new added =
    subst (λ (l : Edges). IsGrown edges ports asked l new added) was (subst (λ (ds : List Declaration). IsGrown edges ds asked c.index_mut.result.now new added) own (c.in_ok-added.ensures edges graph)) in
    let stays : added ≡ false → slice_set sums at new ≡ sums = λ e. ap (λ (s : Edges). slice_set sums at s) (grown.same e) ∙ set-get_or sums at [] in
    let falls : added ≡ true → room ms (slice_set sums at new) < room ms sums = λ e.
    let w = grown.one_more e in
    room_less ms sums at m new c.requires.sum is
    (missing_less (candidates ports) (get_or sums at []) new (w.0, w.1) (λ p h. grown.kept p.0 p.1 h) (candidate_has ports w.0 w.1 w.2.0 w.2.1) w.3 w.4) in
    record {
      len = length-set sums at new;
      sound = λ sound.
          sums_set (IsSoundSum ms is_top) ms sums at m new c.requires.sum is
          (λ x y h. elim (grown.right x y h) [ inl o ↦ sound.each at m is x y o | inr p ↦ sound_of ms is_top sums m sound x y p ]) sound;
      same = λ e. stays (not_true added e);
      less = λ e. falls (not_false added e);
      more = more_of ms sums (slice_set sums at new) added stays falls;
      closed = λ e k is_k used x y p.
          let same : k ≡ m = cc (is, is_k) in
          let here : IsPair edges ports x y = subst (λ (t : ModuleTree). IsPair (module_edges ms is_top sums t) (map port_declared t.ports) x y) same p in
          let asks = used_asked ms c.args.uses.now c.requires.uses m.name (subst (λ (t : ModuleTree). IsUsed ms t.name) same used) in
          subst (λ (s : Edges). Has s (x, y)) (grown.same (not_true added e)) (grown.there asks.0 asks.1 x y here);
      graph = λ k is_k.
          let same : m ≡ k = cc (is, is_k) in
          subst (λ (t : ModuleTree). IsGraphOf (module_edges ms is_top sums t) c.in_ok-graph.graph) same graph;
      listed = c.in_ok-graph.ensures.listed;
    }
