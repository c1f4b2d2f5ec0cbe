use Rattle.std.proofs.Common.{◌+◌, ◌++◌, ◌∷◌, [], ◌∙◌, ap}
use Rattle.tapa_base.specs.Kinds.{bits_of}
use Rattle.hw_build.specs.Elements.{Output, with_all}
use Rattle.hw_lines.specs.declared.nets.Choice.TheVariants.{Puts, Token}
use Rattle.hw_lines.specs.declared.nets.Net.TheVariants.{Din, Wr}
use Rattle.hw_lines.specs.Nets.{name}
use Rattle.hw_lines.specs.Shape.{stream_kind}
use Rattle.hw_lines.specs.Texts.{any, pick, result}
use Rattle.hw_nets.specs.Shapes.{form}
use Rattle.hw_nets.proofs.Grows.{both}
use Rattle.hw_outputs.proofs.outputs.add_written.Goals as goal

pub returns : goal.returns
returns c =
    let S = form c.args.machine.now.shape in
    let s = c.args.s in
    let bits = bits_of (stream_kind S s) + 1 in
    let puts = any S (Puts s) in
    let token = pick S bits (Token s) in
    let ports = Output 1 (name (Wr s)) (result S 1 (Puts s)) ∷ Output bits (name (Din s)) (result S bits (Token s)) ∷ [] in
    both c.args.draft.now c.add_value.new.draft c.add_writer.new.draft (puts ++ token) ports
    (both c.args.draft.now c.add_condition.new.draft c.add_value.new.draft puts token c.in_ok-add_condition.ensures
    (c.in_ok-add_value.ensures ∙ ap (λ w. with_all c.add_condition.new.draft (pick S w (Token s))) c.token_bits-width.ensures))
    c.in_ok-add_writer.ensures
