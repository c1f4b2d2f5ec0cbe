use Rattle.std.proofs.Common.{ap, sym, subst, ◌∙◌, Some, [], ◌∷◌}
use Rattle.net_case.specs.State.{AreAllHome, IsValidCase}
use Rattle.coro_threads.proofs.Closing.{opens}
use Rattle.coro_threads.proofs.seats.Board.new.Goals as goal

pub new-requires : goal.new-requires
new-requires g c =
    let same = sym c.of.ensures in
    opens c.of.result.value c.args.workers c.in-Ok-lone_slot.slots.items (c.in-Ok-lone_slot.ensures.ok ∙ ap (λ x. Some x ∷ []) same)
    (subst IsValidCase same c.valid.ensures) (subst AreAllHome same c.requires.case)
