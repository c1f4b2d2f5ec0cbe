use Rattle.std.proofs.Common.{length, refl, sym, ap, ◌∙◌, arith}
use Rattle.std.proofs.lemmas.Option.{slice_get_read}
use Rattle.net_core.specs.Bindings.{arity_in}
use Rattle.net_core.proofs.bindings.ends.Goals as goal

pub index-leaf-requires : goal.index-leaf-requires
index-leaf-requires c =
    let at = slice_get_read c.args.program.now.instances.items _ c.args.i c.index.result.now refl c.requires.instance c.index.ensures in
    let b = (c.requires.connected.built c.args.i c.index.result.now at).body in
    let len = c.args.program.now.bodies.ok.0 in
    omega arith

pub returns : goal.returns
returns c =
    let at = slice_get_read c.args.program.now.instances.items _ c.args.i c.index.result.now refl c.requires.instance c.index.ensures in
    let b = c.requires.connected.built c.args.i c.index.result.now at in
    let leaf = slice_get_read c.args.program.now.bodies.items _ c.index.result.now.body c.index-leaf.result.now refl b.body c.index-leaf.ensures in
    let ends = c.as_slice.ensures.value ∙ b.ends c.index-leaf.result.now leaf in
    record { ends = ends; as_many = ap length ends ∙ b.as_many ∙ ap arity_in (sym at) }
