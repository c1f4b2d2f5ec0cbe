-- What is added is one list.
use Rattle.std.proofs.Common.{◌≡◌, ℕ, ◌<◌, List, sym, ap, subst, ◌∙◌, arith}
use Rattle.std.specs.Prelude.{slice_index}
use Rattle.std.proofs.lemmas.Grind.{same_number_lists}
use Rattle.task_graph.specs.declared.Graph.{Graph}
use Rattle.task_graph.specs.Arcs.{streams}
use Rattle.latency_balance.specs.Result.{IsBalance}
use Rattle.latency_balance.proofs.Earliest.{balances_are_one}
use Rattle.plan_device.specs.declared.device.Device.{Device}
use Rattle.plan_report.specs.Added.{OneAdded}
use Rattle.plan_report.specs.Borders.{AreBorderLatencies}

-- the border latencies of a plan are one list
pub one_borders : (g : Graph) (d : Device) (slots lat other : List ℕ) → AreBorderLatencies g d slots lat → AreBorderLatencies g d slots other → lat ≡ other
one_borders g d slots lat other a b =
    same_number_lists lat other (a.long ∙ sym b.long)
    (λ e l. let inside : e < streams g = (let n = a.long in omega arith) in a.value e inside ∙ sym (b.value e inside))

pub one_added : OneAdded
one_added = λ g d slots lat b added borders best are e inside.
    let same : are.lat ≡ lat = one_borders g d slots are.lat lat are.borders borders in
    let other : IsBalance g lat are.adds.balance = subst (λ (xs : List ℕ). IsBalance g xs are.adds.balance) same are.adds.best in
    let bal = (balances_are_one g lat are.adds.balance b other best).1 in
    let x = ap (λ (xs : List ℕ). slice_index xs e) same in
    let y = ap (λ (xs : List ℕ). slice_index xs e) bal in
    let z = are.adds.sums e inside in
    omega arith
