use Rattle.std.proofs.Common.{◌≡◌, ◌++◌, ◌∙◌, ap}
use Rattle.tapa_base.specs.Kinds.{bits_of}
use Rattle.hw_build.specs.Elements.{with_all}
use Rattle.hw_lines.specs.declared.nets.Choice.TheVariants.{Stores, WriteIndex, WriteData}
use Rattle.hw_lines.specs.Shape.{array_kind, index_bits}
use Rattle.hw_lines.specs.Texts.{any, pick}
use Rattle.hw_nets.specs.Shapes.{form}
use Rattle.hw_nets.proofs.Grows.{both}
use Rattle.hw_outputs.proofs.outputs.add_array_choices.Goals as goal

pub returns : goal.returns
returns c =
    let S = form c.args.machine.now.shape in
    let a = c.args.a in
    let width : c.bits-width.result ≡ bits_of (array_kind S a) = c.bits-width.ensures.value ∙ ap bits_of c.array_kind.ensures in
    let stores = any S (Stores a) in
    let place = pick S (index_bits S a) (WriteIndex a) in
    both c.args.draft.now c.add_value.new.draft c.add_value-2.new.draft (stores ++ place) (pick S (bits_of (array_kind S a)) (WriteData a))
    (both c.args.draft.now c.add_condition.new.draft c.add_value.new.draft stores place c.in_ok-add_condition.ensures
    (c.in_ok-add_value.ensures ∙ ap (λ w. with_all c.add_condition.new.draft (pick S w (WriteIndex a))) c.index_bits-place.ensures.value))
    (c.in_ok-add_value-2.ensures ∙ ap (λ w. with_all c.add_value.new.draft (pick S w (WriteData a))) width)
