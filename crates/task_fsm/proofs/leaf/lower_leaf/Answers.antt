use Rattle.std.proofs.Common.{◌∙◌, ◌∷◌, [], ◌++◌, List, ap, refl}
use Rattle.tapa_base.specs.declared.kind.Kind.{Kind}
use Rattle.tapa_base.specs.declared.kind.Kind.TheVariants.{U32}
use Rattle.tapa_syntax.specs.LeafKinds.{kinds_of}
use Rattle.task_fsm.specs.Machine.{EndAt, TrapAt}
use Rattle.task_fsm.specs.Code.{Emitted, list_code}
use Rattle.tapa_syntax.specs.TickPlaces.{size_of_list}
use Rattle.task_fsm.specs.Draft.{emitted}
use Rattle.task_fsm.proofs.Body.{leaf_written}
use Rattle.task_fsm.proofs.Lowers.{lowered}
use Rattle.task_fsm.proofs.leaf.lower_leaf.Goals as goal

pub returns : goal.returns
returns c = λ is.
    let leaf = c.args.leaf.now in
    let K = kinds_of c.args.leaf.now in
    let size = c.in_ok-size.size in
    let B = emitted c.in_ok-draft.draft in
    let start : List Kind → Emitted = λ l. record { places = EndAt ∷ TrapAt ∷ []; entry = c.in_ok-size.size; regs = l ++ U32 ∷ [] } in
    lowered leaf c.finished.result (emitted c.write_list.new.draft) is
    (leaf_written leaf leaf.code.items size c.in_ok-total.total c.in_ok-counter.counter B (emitted c.write_list.new.draft) refl (c.in_ok-size.ensures ∙ ap size_of_list c.deref.ensures.value) c.in_ok-total.ensures (c.in_ok-counter.ensures ∙ (c.len.ensures ∙ leaf.vars.ok.0)) (c.in_ok-draft.ensures ∙ ap start c.deref-2.ensures.value)
    (c.in_ok-write_list.ensures ∙ ap (λ x. list_code K c.in_ok-total.total c.in_ok-counter.counter x size size B) c.deref-3.ensures.value))
    c.finished.ensures.places c.finished.ensures.regs (c.finished.ensures.name ∙ c.in_ok-name.ensures) (c.finished.ensures.scalars ∙ (c.in_ok-scalars.ensures ∙ c.deref-4.ensures.value)) (c.finished.ensures.arrays ∙ (c.in_ok-arrays.ensures ∙ c.deref-5.ensures.value))
