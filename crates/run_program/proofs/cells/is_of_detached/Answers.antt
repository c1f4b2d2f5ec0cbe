use Rattle.std.proofs.Common.{ℕ, [], length, refl}
use Rattle.std.proofs.lemmas.Option.{slice_get_read}
use Rattle.run_program.proofs.LastCells.{instance_is, owner_absent, owner_there}
use Rattle.run_program.proofs.cells.is_of_detached.Goals as goal

pub returns-in_default : goal.returns-in_default
returns-in_default c =
    let items = c.args.program.now.memories.items in
    let at = slice_get_read items (length items) c.args.m c.index.result.now refl c.requires c.index.ensures in
    owner_absent c.args.program.now c.args.m c.index.result.now at c.deref.result.now c.deref.ensures.value c.in_default.ensures.lookup.3

pub returns : goal.returns
returns c =
    let items = c.args.program.now.memories.items in
    let at = slice_get_read items (length items) c.args.m c.index.result.now refl c.requires c.index.ensures in
    let there = instance_is c.args.program.now [] [] (λ (i : ℕ). 0) c.args.m c.index.result.now at c.deref.result.now c.in-Some.instance.now c.deref.ensures.value c.in-Some.ensures.lookup.3.0 c.in-Some.ensures.lookup.1 in
    owner_there c.args.program.now c.args.m c.index.result.now at c.in-Some.instance.now there
