use Rattle.std.proofs.lemmas.Result.{on_ok_weaker}
use Rattle.vcd_text.proofs.Pushes.{pushed_last, pushed_digit}
use Rattle.vcd_text.proofs.push.+push_identifier.Goals as goal

pub returns-then-number-lt94 : goal.returns-then-number-lt94
returns-then-number-lt94 t c = pushed_last c.args.text.now.items c.push.new.self.items c.args.number c.if-number-lt94.true c.in_ok-push.ensures.items

pub returns-else-number-lt94 : goal.returns-else-number-lt94
returns-else-number-lt94 t c = on_ok_weaker c.push_identifier.result (λ p. pushed_digit c.args.text.now.items c.push.new.self.items c.push_identifier.new.text.items c.args.number c.if-number-lt94.false c.in_ok-push.ensures.items p) c.push_identifier.ensures
