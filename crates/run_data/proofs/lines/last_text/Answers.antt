use Rattle.std.proofs.Common.{◌≡◌, sym, subst}
use Rattle.std.proofs.lemmas.Result.{IfOk-weaker}
use Rattle.run_data.specs.Report.{last_line, IsOneLine}
use Rattle.run_data.proofs.OneLine.{last_is_line}
use Rattle.run_data.proofs.lines.last_text.Goals as goal

pub returns-clause-line : goal.returns-clause-line
returns-clause-line c =
    IfOk-weaker c.last_bytes.result (λ line. line.items ≡ last_line c.args.last) (λ line. IsOneLine line.items)
    (λ line e. subst IsOneLine (sym e) (last_is_line c.args.last))
    c.last_bytes.ensures
