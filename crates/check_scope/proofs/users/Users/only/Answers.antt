use Rattle.std.proofs.Common.{sym, ◌∙◌}
use Rattle.check_scope.proofs.Only.{one_answers}
use Rattle.check_scope.proofs.users.Users.only.Goals as goal

pub returns-in-One : goal.returns-in-One
returns-in-One c = λ bound h. one_answers c.args.code c.args.place c.in-One.instance bound (sym c.in-One.is ∙ h)
