use Rattle.std.proofs.Common.{subst, sym}
use Rattle.std.specs.Prelude.{List, Bool, not}
use Rattle.std.specs.Bool.{MatchBool}
use Rattle.tapa_base.specs.declared.shape.Port.{Port}
use Rattle.vcd_text.specs.Head.{IsFree}
use Rattle.vcd_text.proofs.Tables.{free_or_not}
use Rattle.vcd_text.proofs.table.NetTable.is_free.Goals as goal

pub returns : goal.returns
returns c =
    subst (λ (l : List Port). MatchBool (not c.contains.result) (IsFree l c.args.name.now) (IsFree l c.args.name.now → ⊥)) c.self.view_is
    (subst (λ (b : Bool). MatchBool (not b) (IsFree c.self.inside.nets.items c.args.name.now) (IsFree c.self.inside.nets.items c.args.name.now → ⊥)) (sym c.contains.ensures)
    (free_or_not c.self.inside.nets.items c.self.inside.names.keys c.args.name.now c.self.invariant))
