use Rattle.std.proofs.Common.{◌≡◌, ◌<◌, ◌∙◌, ℕ, length, Some, sym, subst, rules}
use Rattle.vlog_tree.specs.Table.{Name}
use Rattle.vlog_scope.specs.NameTable.{value_in}
use Rattle.vlog_comb_loops.proofs.Placing.{no_places_yet, next_places, all_places}
use Rattle.vlog_comb_loops.proofs.sums.input_places.Goals as goal

pub loop-at-init : goal.loop-at-init
loop-at-init c = record {
  len = search rules;
  so_far = no_places_yet c.args.ports.now c.declarations-declarations.result.now (value_in c.args.graph.now.numbers) c.in_ok-places.places.items c.in_ok-places.ensures.none;
}

pub loop-at-preserved : goal.loop-at-preserved
loop-at-preserved c =
    let number = value_in c.args.graph.now.numbers in
    let below : (y : Name) (k : ℕ) → number y ≡ Some k → k < length c.loop-at.places.items = λ y k h. subst (λ n. k < n) (sym c.loop-at.invariant.len) (c.requires.1.below y k h) in
    record {
      len = c.set_place.ensures.len ∙ c.loop-at.invariant.len;
      so_far =
          next_places c.args.ports.now c.declarations-declarations.result.now number c.loop-at.at c.index-declarations-at.result c.loop-at-test.true c.index-declarations-at.is
          c.loop-at.places.items c.set_place.new.places.items below c.set_place.ensures c.loop-at.invariant.so_far;
    }

pub returns : goal.returns
returns c =
    all_places c.args.ports.now c.declarations-declarations.result.now (value_in c.args.graph.now.numbers) c.loop-at.at c.loop-at.places.items c.loop-at-test.false c.declarations-declarations.ensures c.loop-at.invariant.so_far
