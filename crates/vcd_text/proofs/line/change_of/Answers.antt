use Rattle.std.proofs.Common.{◌≡◌, get_or}
use Rattle.std.specs.Prelude.{Some, slice_get}
use Rattle.std.proofs.lemmas.Option.{slice_get-get_or}
use Rattle.vcd_text.proofs.Common.{then_err}
use Rattle.vcd_text.proofs.Lines.{change_among}
use Rattle.vcd_text.proofs.line.change_of.Goals as goal

pub returns-clause-stop : goal.returns-clause-stop
returns-clause-stop c =
    let at : slice_get c.args.nets.now c.args.net ≡ Some (get_or c.args.nets.now c.args.net c.index-nets-net.result) = slice_get-get_or c.args.nets.now c.args.net c.index-nets-net.result c.requires.within in
    then_err _ _ c.change_at.result (λ left p. change_among c.args.nets.now (slice_get c.args.values.now) c.known_value-before.result c.args.net (get_or c.args.nets.now c.args.net c.index-nets-net.result) c.args.text.now left at c.known_value-before.ensures p) c.change_at.ensures.stop
