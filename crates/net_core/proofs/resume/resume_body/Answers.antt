use Rattle.std.proofs.Common.{◌++◌, length-append, arith}
use Rattle.net_core.proofs.resume.resume_body.Goals as goal

pub returns : goal.returns
returns g c = λ job ts s r a.
    let h = c.resume-pause.ensures job ts s r a in
    let e1 = c.ticks-before.ensures job ts s in
    let e2 = c.ticks.ensures job (ts ++ h.made) h.stands in
    let l = length-append ts h.made in
    (h, omega arith)
