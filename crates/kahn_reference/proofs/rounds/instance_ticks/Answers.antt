use Rattle.std.proofs.Common.{◌≡◌, ℕ, List, length, Some, None, Err, refl, sym, ap, subst}
use Rattle.std.proofs.lemmas.Option.{slice_get_read, slice_get_past}
use Rattle.tapa_syntax.specs.declared.program.Instance.{Instance}
use Rattle.tapa_syntax.specs.declared.program.Leaf.{Leaf}
use Rattle.std.specs.Prelude.{slice_get}
use Rattle.tapa_syntax.specs.LeafKinds.{kinds_of}
use Rattle.kahn_model.specs.Rows.{rows_of}
use Rattle.kahn_model.specs.Start.{kinds_in, leaf_state}
use Rattle.kahn_model.specs.Trace.{State}
use Rattle.kahn_reference.specs.declared.slow.Fault.{Fault}
use Rattle.kahn_reference.specs.Kept.{StandsFit}
use Rattle.kahn_reference.specs.Slow.{whole, state_of}
use Rattle.kahn_reference.proofs.Kept.{refused}
use Rattle.kahn_reference.proofs.KeptRounds.{instance_stands, leaf_typed, ticks_none, ticks_no_leaf, ticks_leaf}
use Rattle.kahn_reference.proofs.rounds.instance_ticks.Goals as goal

pub returns-in_ok-end_alone-in-None-clause-ticks : goal.returns-in_ok-end_alone-in-None-clause-ticks
returns-in_ok-end_alone-in-None-clause-ticks c =
    let ex : slice_get c.args.program.now.instances.items c.args.i ≡ None =
    subst (λ (l : List Instance). slice_get l c.args.i ≡ None) c.deref.ensures.value (slice_get_past c.deref.result.now c.args.i c.in-None.ensures.lookup.3) in
    ticks_none c.args.program.now c.args.scalars.now (rows_of c.args.memories.now) c.args.i c.args.n (whole c.args.lists.now) c.in_ok-end_alone-in-None.field-0.items ex c.in_ok-end_alone-in-None.ensures

pub returns-in_ok-end_alone-in-None-get-clause-ticks : goal.returns-in_ok-end_alone-in-None-get-clause-ticks
returns-in_ok-end_alone-in-None-get-clause-ticks c =
    let ex : slice_get c.args.program.now.instances.items c.args.i ≡ Some c.in-Some.instance.now =
    subst (λ (l : List Instance). slice_get l c.args.i ≡ Some c.in-Some.instance.now) c.deref.ensures.value (slice_get_read c.deref.result.now (length c.deref.result.now) c.args.i c.in-Some.instance.now refl c.in-Some.ensures.lookup.3.0 c.in-Some.ensures.lookup.1) in
    let el : slice_get c.args.program.now.bodies.items c.in-Some.instance.now.body ≡ None =
    subst (λ (l : List Leaf). slice_get l c.in-Some.instance.now.body ≡ None) c.deref-in-Some.ensures.value (slice_get_past c.deref-in-Some.result.now c.in-Some.instance.now.body c.in-None-get.ensures.lookup.3) in
    ticks_no_leaf c.args.program.now c.args.scalars.now (rows_of c.args.memories.now) c.args.i c.args.n (whole c.args.lists.now) c.in_ok-end_alone-in-None-get.field-0.items c.in-Some.instance.now ex el c.in_ok-end_alone-in-None-get.ensures

pub returns-in_ok-ticks-in-Some-get-clause-ticks : goal.returns-in_ok-ticks-in-Some-get-clause-ticks
returns-in_ok-ticks-in-Some-get-clause-ticks c =
    let ex : slice_get c.args.program.now.instances.items c.args.i ≡ Some c.in-Some.instance.now =
    subst (λ (l : List Instance). slice_get l c.args.i ≡ Some c.in-Some.instance.now) c.deref.ensures.value (slice_get_read c.deref.result.now (length c.deref.result.now) c.args.i c.in-Some.instance.now refl c.in-Some.ensures.lookup.3.0 c.in-Some.ensures.lookup.1) in
    let el : slice_get c.args.program.now.bodies.items c.in-Some.instance.now.body ≡ Some c.in-Some-get.leaf.now =
    subst (λ (l : List Leaf). slice_get l c.in-Some.instance.now.body ≡ Some c.in-Some-get.leaf.now) c.deref-in-Some.ensures.value (slice_get_read c.deref-in-Some.result.now (length c.deref-in-Some.result.now) c.in-Some.instance.now.body c.in-Some-get.leaf.now refl c.in-Some-get.ensures.lookup.3.0 c.in-Some-get.ensures.lookup.1) in
    ticks_leaf c.args.program.now c.args.scalars.now (rows_of c.args.memories.now) c.args.i c.args.n (whole c.args.lists.now) c.in_ok-ticks-in-Some-get.ticks.items c.in-Some.instance.now c.in-Some-get.leaf.now c.deref-in-Some-get.result.now (state_of c.in_ok-state-in-Some-get.state) ex el c.deref-in-Some-get.ensures.value c.in_ok-state-in-Some-get.ensures c.in_ok-ticks-in-Some-get.ensures.ticks

pub returns-in_err-ticks-in-Some-get-clause-fault : goal.returns-in_err-ticks-in-Some-get-clause-fault
returns-in_err-ticks-in-Some-get-clause-fault c = λ w f t h.
    let ex : slice_get c.args.program.now.instances.items c.args.i ≡ Some c.in-Some.instance.now =
    subst (λ (l : List Instance). slice_get l c.args.i ≡ Some c.in-Some.instance.now) c.deref.ensures.value (slice_get_read c.deref.result.now (length c.deref.result.now) c.args.i c.in-Some.instance.now refl c.in-Some.ensures.lookup.3.0 c.in-Some.ensures.lookup.1) in
    let el : slice_get c.args.program.now.bodies.items c.in-Some.instance.now.body ≡ Some c.in-Some-get.leaf.now =
    subst (λ (l : List Leaf). slice_get l c.in-Some.instance.now.body ≡ Some c.in-Some-get.leaf.now) c.deref-in-Some.ensures.value (slice_get_read c.deref-in-Some.result.now (length c.deref-in-Some.result.now) c.in-Some.instance.now.body c.in-Some-get.leaf.now refl c.in-Some-get.ensures.lookup.3.0 c.in-Some-get.ensures.lookup.1) in
    let leaf = c.in-Some-get.leaf.now in
    let stand = instance_stands c.args.program.now w c.args.scalars.now (rows_of c.args.memories.now) f c.args.lists.now t c.args.i c.in-Some.instance.now leaf ex el in
    let at = subst (λ (s : List ℕ). StandsFit (kinds_of leaf) s c.args.lists.now (leaf_state (kinds_in c.args.program.now) c.args.scalars.now (rows_of c.args.memories.now) c.in-Some.instance.now (Some leaf))) (sym c.deref-in-Some-get.ensures.value) stand in
    let now = subst (λ (σ : State). StandsFit (kinds_of leaf) c.deref-in-Some-get.result.now c.args.lists.now σ) (sym c.in_ok-state-in-Some-get.ensures) at in
    refused c.from_residual-in_err-ticks-in-Some-get.result c.in_err-ticks-in-Some-get.field-0.0 c.from_residual-in_err-ticks-in-Some-get.ensures.1
    (λ q. c.in_err-ticks-in-Some-get.ensures.fault (leaf_typed c.args.program.now w c.in-Some.instance.now.body leaf el) now (ap (λ (y : Fault). Err y) q)) h
