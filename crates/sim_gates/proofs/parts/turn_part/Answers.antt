use Rattle.std.proofs.Common.{length, ◌≡◌, refl, ap, false, true, ◌∷◌, ◌∙◌, arith}
use Rattle.std.specs.Prelude.{reverse, not}
use Rattle.sim_tape.specs.Trees.{tree_of}
use Rattle.sim_gates.proofs.Walking.{popped, ended_before, else_turned}
use Rattle.sim_gates.proofs.Readying.{none_open, rest_open}
use Rattle.sim_gates.specs.Ready.{elses}
use Rattle.sim_gates.proofs.parts.turn_part.Goals as goal

pub enter-requires : goal.enter-requires
enter-requires c =
    let p = c.in-Some.part in
    let old = c.args.walk.now.parts.items in
    let new = c.pop.new.self.items in
    let b = ended_before p (length (tree_of c.args.tape.now).gates) c.args.walk.now.on (reverse new) (reverse old) (popped old new p c.in-Some.ensures.items) c.requires.walk in
    record { tape = c.requires.tape; walk = b.2; around = b.0; test = b.1 }

pub returns-clause-value : goal.returns-clause-value
returns-clause-value c = λ cells ns h s k walk.
    let p = c.in-Some.part in
    let old = c.args.walk.now.parts.items in
    let new = c.pop.new.self.items in
    else_turned s k ns p c.enter.new.walk.on c.args.walk.now.on (reverse new) (reverse old) (reverse c.enter.new.walk.parts.items) (popped old new p c.in-Some.ensures.items)
    c.in_ok-enter.ensures.parts (c.in_ok-enter.ensures.says cells ns h) walk

pub returns-in_default-clause-some : goal.returns-in_default-clause-some
returns-in_default-clause-some c = λ parts e.
    let empty : length c.args.walk.now.parts.items ≡ 0 = omega (arith, c.args.walk.now.parts.ok.0, c.in_default.ensures.cases.0) in
    absurd (none_open c.args.walk.now.parts.items false parts empty e)

pub returns-clause-some : goal.returns-clause-some
returns-clause-some c = λ parts e.
    let p = c.in-Some.part in
    let old = c.args.walk.now.parts.items in
    let new = c.pop.new.self.items in
    let r = rest_open p (reverse old) (reverse new) false parts (popped old new p c.in-Some.ensures.items) e in
    (refl, ap elses c.in_ok-enter.ensures.parts ∙ ap (λ b. not b ∷ elses (reverse new)) r.0 ∙ ap (λ l. true ∷ l) r.1)
