use Rattle.std.proofs.Common.{length, sym, ap, ◌∙◌, arith}
use Rattle.std.specs.Prelude.{slice_get}
use Rattle.std.proofs.lemmas.List.{length-replicate}
use Rattle.net_core.proofs.Loaded.{none_in, none_listed}
use Rattle.net_core.proofs.load.neighbours.Goals as goal

pub list_other_ends-requires-clause-below : goal.list_other_ends-requires-clause-below
list_other_ends-requires-clause-below c = λ n x e. absurd (none_in n x _ c.new-near.ensures.items e)

pub list_other_ends-requires-clause-listed_len : goal.list_other_ends-requires-clause-listed_len
list_other_ends-requires-clause-listed_len c =
    let e = ap length c.in_ok-listed.ensures ∙ length-replicate _ _ in
    let l = c.len.ensures in
    let o = c.args.program.now.instances.ok.0 in
    omega arith

pub list_other_ends-requires-clause-listed : goal.list_other_ends-requires-clause-listed
list_other_ends-requires-clause-listed c = λ x e. absurd (none_listed _ x (ap (λ l. slice_get l x) (sym c.in_ok-listed.ensures) ∙ e))

pub returns : goal.returns
returns c = (c.in_ok-list_other_ends.ensures.below, c.in_ok-list_other_ends.ensures.woken)
