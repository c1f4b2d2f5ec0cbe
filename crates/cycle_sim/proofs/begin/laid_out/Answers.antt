use Rattle.std.proofs.Common.{Option, sym, subst}
use Rattle.std.specs.Prelude.{IfSome}
use Rattle.vlog_tree.specs.Form.{ModuleTree}
use Rattle.vlog_design.specs.Designs.{TopOf}
use Rattle.sim_tape.specs.Trees.{tree_of}
use Rattle.sim_design.specs.declared.drafts.TapeDraft.{TapeDraft}
use Rattle.sim_design.specs.Drafts.{IsDraft}
use Rattle.sim_design.specs.Given.{ArePlaced, AreGiven}
use Rattle.cycle_sim.specs.Wholes.{IsAround}
use Rattle.cycle_sim.proofs.begin.laid_out.Goals as goal

pub finish-requires : goal.finish-requires
finish-requires c =
    let d = c.args.design.now in
    let flat = c.args.flat.now in
    (subst (λ (o : Option TapeDraft). IfSome o (λ (x : TapeDraft). (m : ModuleTree) → TopOf d m → IsDraft d.modules m flat x)) c.unwrap-draft.ensures c.in_ok-draft_of.ensures.draft c.valid.ensures.0 c.valid.ensures.1).tape

pub returns-clause-machine : goal.returns-clause-machine
returns-clause-machine c = λ m at.
    let d = c.args.design.now in
    let flat = c.args.flat.now in
    c.in_ok-machine.ensures.machine d.modules m flat (subst (λ (o : Option TapeDraft). IfSome o (λ (x : TapeDraft). (m : ModuleTree) → TopOf d m → IsDraft d.modules m flat x)) c.unwrap-draft.ensures c.in_ok-draft_of.ensures.draft m at)

pub returns-clause-around : goal.returns-clause-around
returns-clause-around c = λ m at.
    let d = c.args.design.now in
    let flat = c.args.flat.now in
    let draft = c.unwrap-draft.result in
    let is : IsDraft d.modules m flat draft = subst (λ (o : Option TapeDraft). IfSome o (λ (x : TapeDraft). (m : ModuleTree) → TopOf d m → IsDraft d.modules m flat x)) c.unwrap-draft.ensures c.in_ok-draft_of.ensures.draft m at in
    let placed = subst (λ l. ArePlaced d.modules m flat l) (sym c.deref.ensures.value) is.placed in
    let given = subst (λ l. AreGiven d.modules m flat l (tree_of draft.tape)) (sym c.deref.ensures.value) is.given in
    let around = c.in_ok-around.ensures m flat (tree_of draft.tape) at is.flat placed given in
    rw c.in_ok-machine.ensures.pairs (subst (λ l. IsAround d.modules m flat l c.args.scalars.now c.in_ok-around.around) c.deref.ensures.value around)
