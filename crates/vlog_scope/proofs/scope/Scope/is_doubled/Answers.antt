use Rattle.std.proofs.Common.{◌∙◌, sym, ap}
use Rattle.std.specs.Prelude.{nat_le}
use Rattle.vlog_scope.proofs.Found.{found, missing}
use Rattle.vlog_scope.proofs.scope.Scope.is_doubled.Goals as goal

pub returns-in-Some : goal.returns-in-Some
returns-in-Some c = let f = found 0 c.args.self.now c.args.name.now _ _ (sym c.place.ensures ∙ c.in-Some.is) in f.doubled

pub returns-in-None : goal.returns-in-None
returns-in-None c = let m = missing 0 c.args.self.now c.args.name.now (sym c.place.ensures ∙ c.in-None.is) in sym (ap (λ n. nat_le 2 n) m.count)
