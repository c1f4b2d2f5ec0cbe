use Rattle.std.proofs.Common.{◌≡◌, ℕ, List, Some, codes, ap, ◌∙◌, sym}
use Rattle.tapa_syntax.specs.declared.program.Instance.{Instance}
use Rattle.tapa_syntax.specs.declared.program.Stream.{Stream}
use Rattle.net_core.specs.declared.body.Pause.{Pause}
use Rattle.net_core.specs.declared.body.Pause.TheVariants.{WantsRead}
use Rattle.run_program.specs.Run.{wait_line}
use Rattle.run_program.specs.Pauses.{pause_line, bound_label}
use Rattle.run_program.proofs.waits.pause_text.Goals as goal

read_text : (streams : List Stream) (x : Instance) (pause : Pause) (p : ℕ) (label stream line : List ℕ) → pause ≡ WantsRead p → label ≡ x.label → stream ≡ bound_label streams x p → line ≡ wait_line label (codes " waits to read ") stream → pause_line streams x pause ≡ Some line
read_text streams x pause p label stream line is a b e =
    ap (pause_line streams x) is
    ∙ ap (λ (l : List ℕ). Some l) (sym (e ∙ ap (λ (l : List ℕ). wait_line l (codes " waits to read ") stream) a ∙ ap (λ (l : List ℕ). wait_line x.label (codes " waits to read ") l) b))

pub returns-in_ok-line-in-WantsRead : goal.returns-in_ok-line-in-WantsRead
returns-in_ok-line-in-WantsRead c =
    read_text c.args.program.now.streams.items c.args.instance.now c.args.pause c.in-WantsRead.p c.bytes-label.result.now c.label_at.result.now c.in_ok-line-in-WantsRead.line.items c.in-WantsRead.is c.bytes-label.ensures.value c.label_at.ensures c.in_ok-line-in-WantsRead.ensures
