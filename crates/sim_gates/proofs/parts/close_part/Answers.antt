use Rattle.std.specs.Prelude.{reverse}
use Rattle.sim_gates.proofs.Walking.{popped, ended_before, end_turned}
use Rattle.std.proofs.Common.{◌≡◌, refl, length, arith}
use Rattle.sim_gates.proofs.Readying.{none_open, rest_open}
use Rattle.sim_gates.proofs.parts.close_part.Goals as goal

pub returns-clause-slots : goal.returns-clause-slots
returns-clause-slots c = λ n walk.
    let p = c.in-Some.part in
    let old = c.args.walk.now.parts.items in
    let new = c.pop.new.self.items in
    (ended_before p n c.args.walk.now.on (reverse new) (reverse old) (popped old new p c.in-Some.ensures.items) walk).2

pub returns-clause-value : goal.returns-clause-value
returns-clause-value c = λ s k ns walk.
    let p = c.in-Some.part in
    let old = c.args.walk.now.parts.items in
    let new = c.pop.new.self.items in
    end_turned s k ns p c.args.walk.now.on (reverse new) (reverse old) (popped old new p c.in-Some.ensures.items) walk

pub returns-in_default-clause-some : goal.returns-in_default-clause-some
returns-in_default-clause-some c = λ b parts e.
    let empty : length c.args.walk.now.parts.items ≡ 0 = omega (arith, c.args.walk.now.parts.ok.0, c.in_default.ensures.cases.0) in
    absurd (none_open c.args.walk.now.parts.items b parts empty e)

pub returns-clause-some : goal.returns-clause-some
returns-clause-some c = λ b parts e.
    let p = c.in-Some.part in
    let old = c.args.walk.now.parts.items in
    let new = c.pop.new.self.items in
    let r = rest_open p (reverse old) (reverse new) b parts (popped old new p c.in-Some.ensures.items) e in
    (refl, r.1)
