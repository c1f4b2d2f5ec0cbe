use Rattle.net_core.specs.Bounded.{instance_job}
use Rattle.net_case.proofs.Looking.{order, can_resume, ends_are, agrees_ready, in_ports, looked}
use Rattle.net_case.proofs.look.look.Goals as goal

pub deliver-requires-clause-order : goal.deliver-requires-clause-order
deliver-requires-clause-order g c =
    let r = c.requires in
    order g.B.Body.stands c.args.program.now r.0 r.1 _ _ _ r.2 c.args.i _ _ _ r.3

pub resume_body-pause-requires : goal.resume_body-pause-requires
resume_body-pause-requires g c =
    let r = c.requires in
    can_resume g.B.Body.stands c.args.program.now r.0 r.1 _ _ _ r.2 c.args.i _ _ _ r.3 c.deliver.new.offered.items c.deliver.new.ports c.deliver.new.limits.items c.deliver.ensures.order c.deliver.ensures.delivered c.deliver.ensures.carried

pub may_go_on-may-requires : goal.may_go_on-may-requires
may_go_on-may-requires g c =
    let r = c.requires in
    let P = c.args.program.now in
    let can = r.3 in
    let e = ends_are g.B.Body.stands P r.0 r.1 _ _ _ r.2 c.args.i _ _ _ can c.deliver.new.offered.items c.deliver.new.ports c.deliver.new.limits.items c.deliver.ensures.order c.deliver.ensures.delivered c.deliver.ensures.carried in
    let ag = agrees_ready g.B.Body.stands P r.0 r.1 _ _ _ r.2 c.args.i _ _ _ can c.deliver.new.offered.items c.deliver.new.ports c.deliver.new.limits.items c.deliver.ensures.order c.deliver.ensures.delivered c.deliver.ensures.carried in
    let u = c.resume_body-pause.ensures (instance_job P r.0 c.args.i) can.home.standing.ticks can.home.standing.stands e ag in
    in_ports g.B.Body.stands P r.0 r.1 _ _ _ r.2 c.args.i _ _ _ can c.deliver.new.offered.items c.deliver.new.ports c.deliver.new.limits.items c.deliver.ensures.order c.deliver.ensures.delivered c.deliver.ensures.carried c.resume_body-pause.new.body c.resume_body-pause.new.ports c.resume_body-pause.result.0 u.0

pub returns : goal.returns
returns g c = λ input budget counts can.
    let P = c.args.program.now in
    let e = ends_are g.B.Body.stands P input budget _ _ _ counts c.args.i _ _ _ can c.deliver.new.offered.items c.deliver.new.ports c.deliver.new.limits.items c.deliver.ensures.order c.deliver.ensures.delivered c.deliver.ensures.carried in
    let ag = agrees_ready g.B.Body.stands P input budget _ _ _ counts c.args.i _ _ _ can c.deliver.new.offered.items c.deliver.new.ports c.deliver.new.limits.items c.deliver.ensures.order c.deliver.ensures.delivered c.deliver.ensures.carried in
    let u = c.resume_body-pause.ensures (instance_job P input c.args.i) can.home.standing.ticks can.home.standing.stands e ag in
    looked g.B.Body.stands P input budget _ _ _ counts c.args.i _ _ _ can c.deliver.new.offered.items c.deliver.new.ports c.deliver.new.limits.items c.deliver.ensures.order c.deliver.ensures.delivered c.deliver.ensures.carried c.resume_body-pause.new.body c.resume_body-pause.new.ports c.resume_body-pause.result.0 u.0 c.deliver.ensures.others c.may_go_on-may.result c.may_go_on-may.ensures
