use Rattle.std.proofs.Common.{◌≡◌, ◌+◌, ◌<◌, length, sym, ap, ◌∙◌, arith}
use Rattle.hw_build.specs.Elements.{Wire, with, with_all}
use Rattle.hw_build.specs.Trees.{numbered}
use Rattle.hw_lines.specs.Drivers.{wires_of}
use Rattle.hw_expressions.proofs.Grown.{some_left, none_left, wires_next, wires_done}
use Rattle.hw_expressions.proofs.wires.add_wires.Goals as goal

pub loop-alloc-preserved : goal.loop-alloc-preserved
loop-alloc-preserved c =
    let d = c.remove-width.result in
    let rest = c.remove-width.new.self.items in
    let n = c.loop-alloc.n in
    let front = c.args.at.now.front.now in
    let left = some_left _ _ c.is_empty.ensures c.loop-alloc-test.true in
    let some : 0 < length c.loop-alloc.drivers.items = omega (arith, left, c.loop-alloc.drivers.ok.0) in
    let name : c.bytes-in-loop-alloc.result.now ≡ numbered front n = c.bytes-in-loop-alloc.ensures.value ∙ c.in_ok-name.ensures ∙ ap (λ f. numbered f n) c.bytes.ensures.value in
    let grown : c.wire.new.self ≡ with c.loop-alloc.draft (Wire d.0 (numbered front n) d.1) = c.in_ok-wire.ensures ∙ ap (λ x. with c.loop-alloc.draft (Wire d.0 x d.1)) name in
    ap (λ m. with_all m (wires_of front c.in_ok-n.n rest)) grown ∙ ap (λ i. with_all (with c.loop-alloc.draft (Wire d.0 (numbered front n) d.1)) (wires_of front i rest)) c.in_ok-n.ensures
    ∙ ap (λ xs. with_all (with c.loop-alloc.draft (Wire d.0 (numbered front n) d.1)) (wires_of front (n + 1) xs)) c.remove-width.ensures.items
    ∙ sym (wires_next front n c.loop-alloc.drivers.items d c.loop-alloc.draft some c.remove-width.ensures.value) ∙ c.loop-alloc.invariant

pub returns : goal.returns
returns c =
    let left = none_left _ _ c.is_empty.ensures c.loop-alloc-test.false in
    let none : length c.loop-alloc.drivers.items ≡ 0 = omega (arith, left, c.loop-alloc.drivers.ok.0) in
    wires_done c.args.at.now.front.now c.loop-alloc.n c.loop-alloc.drivers.items c.loop-alloc.draft none ∙ c.loop-alloc.invariant
