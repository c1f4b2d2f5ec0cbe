use Rattle.std.proofs.Common.{◌≡◌, length, sym, ap, subst, ◌∙◌, arith}
use Rattle.vlog_tree.specs.Environment.{shape_of}
use Rattle.sim_tape.specs.Trees.{tree_of}
use Rattle.sim_flat.specs.Order.{IsNetOrder}
use Rattle.sim_design.specs.States.{TellsNumbers}
use Rattle.sim_design.proofs.Giving.{given_free, given_read}
use Rattle.sim_design.proofs.Drafting.{is_plan}
use Rattle.sim_design.proofs.drafts.placed_of.Goals as goal

pub returns-clause-places : goal.returns-clause-places
returns-clause-places c = λ m top.
    let ms = c.args.design.now.modules in
    let f = c.args.flat.now in
    let flat = c.requires m top in
    let numbers = c.in_ok-memories.memories.numbers.items in
    let widths = c.in_ok-memories.memories.widths.items in
    let pairs = c.in_ok-pairs.pairs.items in
    let shape = c.in_ok-shape.ensures m top in
    let count_is : length c.in_ok-shape.shape.memories.items ≡ length (shape_of m).memories = ap length shape.1 in
    let outside : c.len.result ≡ length (shape_of m).memories = omega (arith, c.in_ok-shape.shape.memories.ok.0) in
    let own = c.in_ok-memories.ensures ms m flat outside in
    let given = c.in_ok-pairs.ensures.given ms m flat in
    let all = c.in_ok-pairs.ensures.all ms m flat in
    let read = given_read ms m f pairs (tree_of c.give_all.new.tape) given in
    let count = c.in_ok-pairs.ensures.count in
    record {
      flat = flat;
      placed =
          c.in_ok-place_all.ensures.placed ms m (is_plan ms m _ numbers widths flat c.modules.ensures.value (c.deref-2.ensures.value ∙ shape.1) c.deref.ensures.value own)
          (subst (λ l. IsNetOrder ms m f l) (sym c.deref-3.ensures.value) (c.in_ok-order.ensures m top)) count read all;
      given =
          c.in_ok-place_all.ensures.given ms m (is_plan ms m _ numbers widths flat c.modules.ensures.value (c.deref-2.ensures.value ∙ shape.1) c.deref.ensures.value own) count read all given c.in_ok-pairs.ensures.own;
      numbered = own;
    }

pub returns-clause-tells : goal.returns-clause-tells
returns-clause-tells c = λ m top.
    let ms = c.args.design.now.modules in
    let f = c.args.flat.now in
    let flat = c.requires m top in
    let numbers = c.in_ok-memories.memories.numbers.items in
    let widths = c.in_ok-memories.memories.widths.items in
    let pairs = c.in_ok-pairs.pairs.items in
    let shape = c.in_ok-shape.ensures m top in
    let count_is : length c.in_ok-shape.shape.memories.items ≡ length (shape_of m).memories = ap length shape.1 in
    let outside : c.len.result ≡ length (shape_of m).memories = omega (arith, c.in_ok-shape.shape.memories.ok.0) in
    let own = c.in_ok-memories.ensures ms m flat outside in
    let given = c.in_ok-pairs.ensures.given ms m flat in
    let t = tree_of c.give_all.new.tape in
    let same = c.deref.ensures.value in
    subst (λ l. TellsNumbers ms m f c.place_all.new.pairs.items l (tree_of c.place_all.new.tape)) same
    (c.in_ok-place_all.ensures.tells ms m (is_plan ms m _ numbers widths flat c.modules.ensures.value (c.deref-2.ensures.value ∙ shape.1) same own) c.in_ok-pairs.ensures.count (given_read ms m f pairs t given) (given_free ms m f pairs t given)).1
