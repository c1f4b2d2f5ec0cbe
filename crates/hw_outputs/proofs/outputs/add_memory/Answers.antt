use Rattle.std.proofs.Common.{◌≡◌, ◌++◌, ◌∷◌, [], ◌∙◌, ap}
use Rattle.tapa_base.specs.Kinds.{bits_of}
use Rattle.hw_build.specs.Elements.{Output, with_all}
use Rattle.hw_lines.specs.declared.nets.Choice.TheVariants.{Address, Data, StoreEnable}
use Rattle.hw_lines.specs.declared.nets.Net.TheVariants.{Addr, Wdata, We}
use Rattle.hw_lines.specs.Nets.{name}
use Rattle.hw_lines.specs.Shape.{memory_kind}
use Rattle.hw_lines.specs.Texts.{any, pick, result}
use Rattle.hw_nets.specs.Shapes.{form}
use Rattle.hw_nets.proofs.Grows.{both}
use Rattle.hw_outputs.proofs.outputs.add_memory.Goals as goal

pub returns : goal.returns
returns c =
    let S = form c.args.machine.now.shape in
    let m = c.args.m in
    let bits = bits_of (memory_kind S m) in
    let width : c.bits-width.result ≡ bits_of (memory_kind S m) = c.bits-width.ensures.value ∙ ap bits_of c.memory_kind.ensures in
    let asks = pick S 64 (Address m) in
    let saves = any S (StoreEnable m) in
    let wdata = pick S bits (Data m) in
    let ports = Output 64 (name (Addr m)) (result S 64 (Address m)) ∷ Output bits (name (Wdata m)) (result S bits (Data m)) ∷ Output 1 (name (We m)) (result S 1 (StoreEnable m)) ∷ [] in
    both c.args.draft.now c.add_value-2.new.draft c.add_memory_ports.new.draft (asks ++ saves ++ wdata) ports
    (both c.args.draft.now c.add_condition.new.draft c.add_value-2.new.draft (asks ++ saves) wdata
    (both c.args.draft.now c.add_value.new.draft c.add_condition.new.draft asks saves c.in_ok-add_value.ensures c.in_ok-add_condition.ensures)
    (c.in_ok-add_value-2.ensures ∙ ap (λ w. with_all c.add_condition.new.draft (pick S w (Data m))) width))
    c.in_ok-add_memory_ports.ensures
