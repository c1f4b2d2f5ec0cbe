use Rattle.std.proofs.Common.{◌≡◌, ◌+◌, ◌-◌, arith, sym, ◌∙◌}
use Rattle.sim_design.proofs.Owning.{at_spot, is_read_net, can_be_read}
use Rattle.sim_design.proofs.Joining.{if_some}
use Rattle.tapa_base.proofs.Tests.{true_not_false}
use Rattle.sim_design.proofs.net.place_net.Goals as goal

pub returns-clause-told : goal.returns-clause-told
returns-clause-told c = λ ms top n plan h count read.
    let f = c.args.plan.now.flat.now in
    let is : c.args.number ≡ c.base_at-base.result + (c.args.number - c.base_at-base.result) = omega arith in
    c.in_ok-placed.ensures.told ms top n plan
    (at_spot ms top f plan.flat c.in-Some-table_at.table.now c.in-Some.instance c.base_at-base.result (c.args.number - c.base_at-base.result) c.args.number n h c.in-Some.ensures c.in-Some-table_at.ensures c.base_at-base.ensures is)
    c.source_at-source.ensures count read

pub returns-clause-read : goal.returns-clause-read
returns-clause-read c = λ ms top n m plan h there.
    let f = c.args.plan.now.flat.now in
    let is : c.args.number ≡ c.base_at-base.result + (c.args.number - c.base_at-base.result) = omega arith in
    let spot = at_spot ms top f plan.flat c.in-Some-table_at.table.now c.in-Some.instance c.base_at-base.result (c.args.number - c.base_at-base.result) c.args.number n h c.in-Some.ensures c.in-Some-table_at.ensures c.base_at-base.ensures is in
    let both = is_read_net ms top f plan.flat c.in-Some-table_at.table.now (record { instance = c.in-Some.instance; base = c.base_at-base.result }) (c.args.number - c.base_at-base.result) n spot c.in-Some-name_at.d.now m c.in-Some-name_at.ensures there (sym c.is_read.ensures ∙ c.if-not-is_read.false) (sym c.is_clock.ensures ∙ c.if-is_clock.false) in
    if_some _ c.in_ok-placed.placed both

pub returns-clause-some : goal.returns-clause-some
returns-clause-some c = λ ms top n plan h count r others placed.
    let f = c.args.plan.now.flat.now in
    let is : c.args.number ≡ c.base_at-base.result + (c.args.number - c.base_at-base.result) = omega arith in
    c.in_ok-placed.ensures.some ms top n plan
    (at_spot ms top f plan.flat c.in-Some-table_at.table.now c.in-Some.instance c.base_at-base.result (c.args.number - c.base_at-base.result) c.args.number n h c.in-Some.ensures c.in-Some-table_at.ensures c.base_at-base.ensures is)
    c.source_at-source.ensures count r others placed

pub returns-then-not-is_read-clause-some : goal.returns-then-not-is_read-clause-some
returns-then-not-is_read-clause-some c = λ ms top n plan h count r others placed.
    let f = c.args.plan.now.flat.now in
    let is : c.args.number ≡ c.base_at-base.result + (c.args.number - c.base_at-base.result) = omega arith in
    let spot = at_spot ms top f plan.flat c.in-Some-table_at.table.now c.in-Some.instance c.base_at-base.result (c.args.number - c.base_at-base.result) c.args.number n h c.in-Some.ensures c.in-Some-table_at.ensures c.base_at-base.ensures is in
    let can = can_be_read ms top f plan.flat c.in-Some-table_at.table.now (record { instance = c.in-Some.instance; base = c.base_at-base.result }) (c.args.number - c.base_at-base.result) n spot c.in-Some-name_at.d.now c.in-Some-name_at.ensures r in
    absurd (true_not_false (sym can.0 ∙ sym c.is_read.ensures ∙ c.if-not-is_read.true))

pub returns-then-is_clock-clause-some : goal.returns-then-is_clock-clause-some
returns-then-is_clock-clause-some c = λ ms top n plan h count r others placed.
    let f = c.args.plan.now.flat.now in
    let is : c.args.number ≡ c.base_at-base.result + (c.args.number - c.base_at-base.result) = omega arith in
    let spot = at_spot ms top f plan.flat c.in-Some-table_at.table.now c.in-Some.instance c.base_at-base.result (c.args.number - c.base_at-base.result) c.args.number n h c.in-Some.ensures c.in-Some-table_at.ensures c.base_at-base.ensures is in
    let can = can_be_read ms top f plan.flat c.in-Some-table_at.table.now (record { instance = c.in-Some.instance; base = c.base_at-base.result }) (c.args.number - c.base_at-base.result) n spot c.in-Some-name_at.d.now c.in-Some-name_at.ensures r in
    absurd (true_not_false (sym (sym c.is_clock.ensures ∙ c.if-is_clock.true) ∙ can.1))
