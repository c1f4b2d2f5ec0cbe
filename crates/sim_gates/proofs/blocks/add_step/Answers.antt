use Rattle.std.proofs.Common.{length}
use Rattle.std.specs.Prelude.{reverse}
use Rattle.std.proofs.lemmas.Bool.{OnTrue_at, OnTrue_from, both_ways}
use Rattle.sim_tape.specs.Trees.{tree_of}
use Rattle.sim_tape.proofs.Growing.{solved_on, extends_twice}
use Rattle.sim_gates.proofs.AtomSlots.{slots_on}
use Rattle.sim_gates.specs.Parts.{parts_run}
use Rattle.sim_gates.proofs.Walking.{on_before, walk_later, all_shown}
use Rattle.sim_gates.proofs.blocks.add_step.Goals as goal

pub write-requires-clause-on : goal.write-requires-clause-on
write-requires-clause-on c = on_before (length (tree_of c.args.tape.now).gates) c.args.walk.now.on (reverse c.args.walk.now.parts.items) c.requires.walk

pub turn-requires : goal.turn-requires
turn-requires c =
    let g = c.in_ok-write.ensures.extends in
    record { tape = g.new_tape; nets = slots_on _ _ _ g c.requires.nets; walk = walk_later _ _ c.args.walk.now.on (reverse c.args.walk.now.parts.items) g.grows.gates c.requires.walk }

pub returns-clause-extends : goal.returns-clause-extends
returns-clause-extends c = extends_twice _ _ _ c.in_ok-write.ensures.extends c.in_ok-done.ensures.extends

pub returns-clause-slots : goal.returns-clause-slots
returns-clause-slots c = slots_on _ _ _ c.in_ok-done.ensures.extends c.in_ok-write.ensures.slots

pub returns-clause-value : goal.returns-clause-value
returns-clause-value c =
    OnTrue_from c.in_ok-done.done _ (λ done. λ apart cells ns s k h shows first now bit walk before.
    let parts = reverse c.args.walk.now.parts.items in
    let at_written = solved_on _ _ c.in_ok-done.ensures.extends cells ns h in (
      OnTrue_at done c.in_ok-done.ensures.value cells ns s k h shows bit walk,
      OnTrue_at c.if-not-branch.false c.in_ok-write.ensures.value apart cells ns s k at_written shows (parts_run ns parts) first now (all_shown ns c.args.walk.now.on parts walk) before,
    ))

pub returns-then-not-branch-clause-walk : goal.returns-then-not-branch-clause-walk
returns-then-not-branch-clause-walk c = walk_later _ _ c.args.walk.now.on (reverse c.args.walk.now.parts.items) c.in_ok-write.ensures.extends.grows.gates c.requires.walk

pub returns-then-not-branch-clause-some : goal.returns-then-not-branch-clause-some
returns-then-not-branch-clause-some c = λ rest same ready nest. absurd (both_ways c.in_ok-write.field-0 c.if-not-branch.true (c.in_ok-write.ensures.some same ready))

pub returns-clause-some : goal.returns-clause-some
returns-clause-some c = λ rest same ready nest. c.in_ok-done.ensures.some rest ready nest
