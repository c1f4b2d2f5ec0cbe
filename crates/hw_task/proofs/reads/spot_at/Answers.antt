use Rattle.std.proofs.Common.{◌≡◌, length, ◌∙◌, arith}
use Rattle.std.proofs.lemmas.Result.{IfOk-weaker}
use Rattle.hw_lines.specs.Shape.{state_count}
use Rattle.hw_nets.specs.Shapes.{form}
use Rattle.hw_task.specs.Asked.{read_number}
use Rattle.hw_task.proofs.ReadPorts.{asked_count, asked_here, no_entry, an_entry}
use Rattle.hw_task.proofs.reads.spot_at.Goals as goal

pub bounds-asked-k : goal.bounds-asked-k
bounds-asked-k c =
    let S = form c.args.shape.now in
    let all : length c.args.asked.now ≡ state_count S = asked_count S (read_number c.args.choice) (state_count S) c.args.asked.now c.requires.asked in
    omega (arith, all, c.requires.below)

pub returns-in-None : goal.returns-in-None
returns-in-None c =
    let S = form c.args.shape.now in
    let x = c.index-asked-k.result in
    no_entry S c.args.choice c.args.k x c.requires.of_reads (asked_here S (read_number c.args.choice) (state_count S) c.args.k c.args.asked.now x c.requires.asked c.requires.below c.index-asked-k.is) c.in-None.is

pub returns-in-Some : goal.returns-in-Some
returns-in-Some c =
    let S = form c.args.shape.now in
    let x = c.index-asked-k.result in
    let h = asked_here S (read_number c.args.choice) (state_count S) c.args.k c.args.asked.now x c.requires.asked c.requires.below c.index-asked-k.is in
    IfOk-weaker c.spot_of.result _ _ (λ o e. e ∙ an_entry S c.args.choice c.args.k x c.in-Some.asked c.requires.of_reads h c.in-Some.is) c.spot_of.ensures
