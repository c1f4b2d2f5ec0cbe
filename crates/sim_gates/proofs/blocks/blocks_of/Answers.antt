use Rattle.std.proofs.Common.{◌≡◌, length, sym, subst}
use Rattle.std.proofs.lemmas.Bool.{OnTrue_at, both_ways}
use Rattle.sim_tape.specs.Trees.{tree_of}
use Rattle.sim_tape.proofs.Growing.{solved_on, extends_twice, extends_refl}
use Rattle.sim_gates.specs.Nets.{SlotsBefore}
use Rattle.sim_gates.specs.Parts.{has_conditions}
use Rattle.sim_gates.specs.Next.{SamePlaces, AreKnown}
use Rattle.sim_gates.proofs.Putting.{places_same, places_twice}
use Rattle.sim_gates.proofs.Stepping.{all_got, none_left, item_left, items_left}
use Rattle.sim_gates.specs.Ready.{IsReady}
use Rattle.sim_gates.proofs.Readying.{all_by}
use Rattle.sim_gates.proofs.blocks.blocks_of.Goals as goal

pub loop-item-init : goal.loop-item-init
loop-item-init c =
    let ds = c.args.nets.now.scope.now in
    let memories = c.args.nets.now.memories.now in
    let pairs = c.args.nets.now.pairs.now in
    let e : c.in_ok-next.next.items ≡ pairs = c.in_ok-next.ensures in
    let f = c.new.ensures.items in
    record {
      extends = extends_refl (tree_of c.args.tape.now) c.requires.tape;
      slots = subst (λ l. SlotsBefore l (length (tree_of c.args.tape.now).gates)) (sym e) c.requires.nets;
      same = subst (λ l. SamePlaces pairs l) (sym e) (places_same pairs);
      known = subst (λ l. AreKnown ds memories l) (sym f) (λ t none. absurd none);
      value = λ apart cells ns s k h shows bits. none_left ds memories c.args.items.now s k ns pairs _ _ e f shows;
    }

pub loop-item-preserved : goal.loop-item-preserved
loop-item-preserved c =
    let i = c.loop-item.invariant in
    let e = c.in_ok-add_item.ensures in
    record {
      extends = extends_twice _ _ _ i.extends e.extends;
      slots = e.slots;
      same = places_twice c.args.nets.now.pairs.now c.loop-item.after.next.items c.add_item.new.after.next.items i.same e.same;
      known = e.known i.known;
      value = λ apart cells ns s k h shows bits.
          let ds = c.args.nets.now.scope.now in
          let items = c.args.items.now in
          let at = c.loop-item.item-index in
          let item = c.item-item.result in
          let l = i.value apart cells ns s k (solved_on _ _ e.extends cells ns h) shows bits in
          let bit = all_got (has_conditions ds) items at item c.loop-item-test.true c.item-item.is bits in
          item_left ds c.args.nets.now.memories.now items s k ns c.loop-item.after.next.items c.add_item.new.after.next.items c.loop-item.after.stores.items c.add_item.new.after.stores.items at item
          c.loop-item-test.true c.item-item.is l (OnTrue_at c.if-not-branch.false e.value apart cells ns s k h shows k l.after bit l.shows);
    }

pub returns-clause-value : goal.returns-clause-value
returns-clause-value c = λ apart cells ns s k h shows bits.
    items_left c.args.nets.now.scope.now c.args.nets.now.memories.now c.args.items.now s k ns c.loop-item.after.next.items c.loop-item.after.stores.items c.loop-item.item-index c.loop-item-test.false
    (c.loop-item.invariant.value apart cells ns s k h shows bits)

pub returns-then-not-branch-clause-some : goal.returns-then-not-branch-clause-some
returns-then-not-branch-clause-some c = λ all.
    absurd (both_ways c.in_ok-add_item.field-0 c.if-not-branch.true
    (c.in_ok-add_item.ensures.some c.loop-item.invariant.same
    (all_by (IsReady c.args.nets.now.scope.now c.args.nets.now.pairs.now c.args.nets.now.memories.now) c.args.items.now c.loop-item.item-index c.item-item.result c.loop-item-test.true c.item-item.is all)))
