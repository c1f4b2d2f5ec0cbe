use Rattle.std.proofs.Common.{◌&&◌, eq-eqb, ne_eqb, ◌∙◌, ap, Bool}
use Rattle.tapa_lex.proofs.Places.{behind_feed, behind_byte}
use Rattle.tapa_lex.proofs.cursor.Cursor.past.Goals as goal

pub returns-then-b-eq10-clause-behind : goal.returns-then-b-eq10-clause-behind
returns-then-b-eq10-clause-behind c = λ before h. behind_feed before c.args.b c.args.self (eq-eqb _ _ c.if-b-eq10.true) h

pub returns-else-b-eq10-clause-behind : goal.returns-else-b-eq10-clause-behind
returns-else-b-eq10-clause-behind c = λ before h.
    behind_byte before c.args.b c.args.self c.both-opens.result (ne_eqb _ _ c.if-b-eq10.false) (c.both-opens.ensures ∙ ap (λ (t : Bool). c.args.self.opens && t) c.is_blank.ensures) h
