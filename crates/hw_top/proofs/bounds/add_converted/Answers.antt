use Rattle.std.proofs.Common.{◌≡◌, ap, ◌∙◌}
use Rattle.tapa_base.specs.Kinds.{bits_of}
use Rattle.vlog_tree.specs.declared.tree.Atom.TheVariants.{Net}
use Rattle.vlog_tree.specs.declared.tree.Value.TheVariants.{Plain}
use Rattle.hw_build.specs.Elements.{Wire, with, with_all}
use Rattle.hw_lines.specs.Drivers.{conversion, last_of, wires_of}
use Rattle.hw_top.proofs.BoundNets.{converted_grows}
use Rattle.hw_top.proofs.bounds.add_converted.Goals as goal

pub returns : goal.returns
returns c =
    let x = c.args.net.now in
    let at = c.from_zero-at.result in
    let f : at.front.now ≡ x = c.from_zero-at.ensures.front in
    let z : at.first ≡ 0 = c.from_zero-at.ensures.first in
    let e = c.add_wires.new.draft in
    let drivers = c.in_ok-drivers.drivers.items in
    let made : drivers ≡ conversion x 0 c.args.source c.args.target (Net c.in_ok-copy.copy) =
    c.in_ok-drivers.ensures ∙ ap (λ y. conversion y at.first c.args.source c.args.target (Net c.in_ok-copy.copy)) f ∙ ap (λ i. conversion x i c.args.source c.args.target (Net c.in_ok-copy.copy)) z in
    let b = c.in_ok-converted.converted in
    let end : c.wire.new.self ≡ with e (Wire (bits_of c.args.target) x (Plain b)) =
    c.in_ok-wire.ensures ∙ ap (λ w. with e (Wire w c.bytes.result.now (Plain b))) c.bits.ensures.value ∙ ap (λ z. with e (Wire (bits_of c.args.target) z (Plain b))) c.bytes.ensures.value in
    converted_grows c.args.draft.now e c.wire.new.self x c.args.old.now c.args.source c.args.target drivers (Net c.in_ok-copy.copy) b (ap Net c.in_ok-copy.ensures) made
    (c.in_ok-converted.ensures ∙ ap (λ y. last_of y at.first c.deref.result.now (Net c.in_ok-copy.copy)) f ∙ ap (λ i. last_of x i c.deref.result.now (Net c.in_ok-copy.copy)) z
    ∙ ap (λ l. last_of x 0 l (Net c.in_ok-copy.copy)) c.deref.ensures.value)
    (c.in_ok-add_wires.ensures ∙ ap (λ y. with_all c.args.draft.now (wires_of y at.first drivers)) f ∙ ap (λ i. with_all c.args.draft.now (wires_of x i drivers)) z) end
