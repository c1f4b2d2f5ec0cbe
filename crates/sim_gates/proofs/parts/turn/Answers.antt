use Rattle.std.proofs.Common.{refl, sym, subst, ◌∷◌}
use Rattle.std.specs.Prelude.{IsTrue, reverse}
use Rattle.std.specs.Bool.{OnTrue}
use Rattle.std.proofs.lemmas.Bool.{OnTrue_at, OnTrue_from}
use Rattle.sim_tape.specs.Trees.{tree_of}
use Rattle.sim_gates.specs.Nets.{Told}
use Rattle.sim_gates.specs.Parts.{WalkShows, IsTurned, is_condition}
use Rattle.vlog_tree.specs.Form.{nested}
use Rattle.sim_gates.proofs.Readying.{else_nested, end_nested}
use Rattle.sim_gates.specs.Ready.{IsStepReady, elses}
use Rattle.sim_gates.proofs.parts.turn.Goals as goal

pub returns-in_ok-opened-in-If-clause-value : goal.returns-in_ok-opened-in-If-clause-value
returns-in_ok-opened-in-If-clause-value c =
    let ds = c.args.nets.now.scope.now in
    subst (λ t. OnTrue c.in_ok-opened-in-If.opened (Told ds c.args.nets.now.pairs.now (tree_of c.open_part.new.tape) (λ s k ns. IsTrue (is_condition ds t) → WalkShows ns c.args.walk.now.on (reverse c.args.walk.now.parts.items)
    → IsTurned s k ns t (reverse c.args.walk.now.parts.items) c.open_part.new.walk.on (reverse c.open_part.new.walk.parts.items)))) (sym c.in-If.is) c.in_ok-opened-in-If.ensures.value

pub returns-in_ok-turned-in-Else-clause-value : goal.returns-in_ok-turned-in-Else-clause-value
returns-in_ok-turned-in-Else-clause-value c =
    OnTrue_from c.in_ok-turned-in-Else.turned _ (λ done. λ cells ns s k h shows bit walk.
    subst (λ t. IsTurned s k ns t (reverse c.args.walk.now.parts.items) c.turn_part.new.walk.on (reverse c.turn_part.new.walk.parts.items)) (sym c.in-Else.is)
    (OnTrue_at done c.in_ok-turned-in-Else.ensures.value cells ns h s k walk))

pub returns-in-End-clause-value : goal.returns-in-End-clause-value
returns-in-End-clause-value c =
    OnTrue_from c.close_part-closed.result _ (λ done. λ cells ns s k h shows bit walk.
    subst (λ t. IsTurned s k ns t (reverse c.args.walk.now.parts.items) c.close_part-closed.new.walk.on (reverse c.close_part-closed.new.walk.parts.items)) (sym c.in-End.is)
    (OnTrue_at done c.close_part-closed.ensures.value s k ns walk))

pub returns-in_ok-opened-in-If-clause-some : goal.returns-in_ok-opened-in-If-clause-some
returns-in_ok-opened-in-If-clause-some c = λ rest ready nest.
    let flags = elses (reverse c.args.walk.now.parts.items) in
    let r = c.in_ok-opened-in-If.ensures.some (subst (λ t. IsStepReady c.args.nets.now.scope.now c.args.nets.now.pairs.now c.args.nets.now.memories.now t) c.in-If.is ready) in
    (r.0, subst (λ l. IsTrue (nested l rest)) (sym r.1) (subst (λ t. IsTrue (nested flags (t ∷ rest))) c.in-If.is nest))

pub returns-in_ok-turned-in-Else-clause-some : goal.returns-in_ok-turned-in-Else-clause-some
returns-in_ok-turned-in-Else-clause-some c = λ rest ready nest.
    let flags = elses (reverse c.args.walk.now.parts.items) in
    let q = else_nested flags rest (subst (λ t. IsTrue (nested flags (t ∷ rest))) c.in-Else.is nest) in
    let r = c.in_ok-turned-in-Else.ensures.some q.0 q.1 in
    (r.0, subst (λ l. IsTrue (nested l rest)) (sym r.1) q.2)

pub returns-in-End-clause-some : goal.returns-in-End-clause-some
returns-in-End-clause-some c = λ rest ready nest.
    let flags = elses (reverse c.args.walk.now.parts.items) in
    let q = end_nested flags rest (subst (λ t. IsTrue (nested flags (t ∷ rest))) c.in-End.is nest) in
    let r = c.close_part-closed.ensures.some q.0 q.1 q.2 in
    (r.0, subst (λ l. IsTrue (nested l rest)) (sym r.1) q.3)

pub returns-in-NonblockingAssign-clause-some : goal.returns-in-NonblockingAssign-clause-some
returns-in-NonblockingAssign-clause-some c = λ rest ready nest.
    (refl, subst (λ t. IsTrue (nested (elses (reverse c.args.walk.now.parts.items)) (t ∷ rest))) c.in-NonblockingAssign.is nest)

pub returns-in-MemoryAssign-clause-some : goal.returns-in-MemoryAssign-clause-some
returns-in-MemoryAssign-clause-some c = λ rest ready nest.
    (refl, subst (λ t. IsTrue (nested (elses (reverse c.args.walk.now.parts.items)) (t ∷ rest))) c.in-MemoryAssign.is nest)
