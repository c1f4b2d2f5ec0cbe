use Rattle.std.proofs.Common.{None, get_or, inl, inr, sym, subst, ◌∙◌}
use Rattle.std.proofs.lemmas.List.{take_all, get_or_default}
use Rattle.tapa_base.specs.Lists.{Has}
use Rattle.tapa_base.proofs.Lists.{taken_split}
use Rattle.vlog_run_laws.proofs.runs.Settled.{top_tree}
use Rattle.sim_flat.specs.Flat.{HasNumber}
use Rattle.sim_flat.proofs.Standing.{number_low}
use Rattle.sim_design.proofs.Reading.{parts_placed}
use Rattle.sim_design.proofs.Giving.{are_given}
use Rattle.std.specs.Prelude.{IsSome}
use Rattle.sim_tape.specs.Trees.{tree_of}
use Rattle.sim_tape.proofs.Growing.{extends_refl, extends_twice}
use Rattle.sim_design.proofs.Telling.{kept_same, kept_twice, same_placed, placed_twice, free_told, kept_some, all_kept}
use Rattle.sim_design.proofs.all.place_all.Goals as goal

pub loop-number-init : goal.loop-number-init
loop-number-init c = record {
  extends = extends_refl (tree_of c.args.tape.now) c.requires.tape;
  slots = c.requires.slots;
  kept = kept_same c.args.pairs.now.items;
  all = λ ms top plan order count free number n has h r. absurd has;
  more = λ ms top plan. same_placed ms top c.args.plan.now.flat.now c.args.plan.now.memories.now c.args.pairs.now.items (tree_of c.args.tape.now);
}

pub loop-number-preserved : goal.loop-number-preserved
loop-number-preserved c =
    let i = c.loop-number.invariant in
    let e = c.in_ok-put_net.ensures in
    record {
      extends = extends_twice _ _ _ i.extends e.extends;
      slots = e.slots;
      kept = kept_twice c.args.pairs.now.items c.loop-number.pairs.items c.put_net.new.pairs.items i.kept e.kept;
      all = λ ms top plan order count free number n has h r.
          let f = c.args.plan.now.flat.now in
          let index = c.loop-number.number-index in
          let low = c.loop-number-test.true in
          let x = get_or c.args.order.now index 0 in
          elim (taken_split c.args.order.now index x number low (get_or_default c.args.order.now index 0 x low) has) [
            | inl was ↦ kept_some c.loop-number.pairs.items c.put_net.new.pairs.items e.kept number (i.all ms top plan order count free number n was h r)
            | inr same ↦
                let t = top_tree ms plan.flat.top_place plan.flat.design top plan.flat.top_at in
                let here : HasNumber ms f x n = subst (λ k. HasNumber ms f k n) (sym same) h in
                subst (λ k. IsSome (get_or c.put_net.new.pairs.items k None)) same
                (e.all ms top n plan here r ((i.more ms top plan).count ∙ count) (all_kept ms top f c.args.pairs.now.items c.loop-number.pairs.items i.kept free)
                (parts_placed ms top plan.flat.design.sound.names plan.flat.design.outside t.has t.is_top f c.args.order.now order c.loop-number.pairs.items index low (i.all ms top plan order count free) n here r))
          ];
      more = λ ms top plan.
          placed_twice ms top c.args.plan.now.flat.now c.args.plan.now.memories.now c.args.pairs.now.items c.loop-number.pairs.items c.put_net.new.pairs.items (tree_of c.args.tape.now) (tree_of c.loop-number.tape) (tree_of c.put_net.new.tape) (i.more ms top plan) (e.more ms top plan);
    }

pub returns-clause-tells : goal.returns-clause-tells
returns-clause-tells c = λ ms top plan count read free.
    let m = c.loop-number.invariant.more ms top plan in
    (m.read count read, m.tells count read (free_told ms top c.args.plan.now.flat.now c.args.plan.now.memories.now c.args.pairs.now.items (tree_of c.args.tape.now) free))

pub returns-clause-placed : goal.returns-clause-placed
returns-clause-placed c = λ ms top plan order count read free.
    let i = c.loop-number.invariant in
    let m = i.more ms top plan in
    record {
      count = m.count ∙ count;
      all = λ number n k h at can clock.
          let has : Has c.args.order.now number = order.all number (number_low ms top c.args.plan.now.flat.now plan.flat number n h) in
          i.all ms top plan order count free number n (subst (λ l. Has l number) (sym (take_all c.loop-number.number-index c.args.order.now c.loop-number-test.false)) has) h (record { tree = k; at = at; read = can; clock = clock });
      only = λ number n k p h at got. m.read count read number n k p h at got;
    }

pub returns-clause-given : goal.returns-clause-given
returns-clause-given c = λ ms top plan count read free nets own.
    let i = c.loop-number.invariant in
    are_given ms top c.args.plan.now.flat.now c.args.pairs.now.items c.loop-number.pairs.items (tree_of c.args.tape.now) (tree_of c.loop-number.tape) i.extends nets own free i.kept ((i.more ms top plan).read count read)
