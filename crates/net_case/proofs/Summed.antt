-- The ticks of the joined instances fit a word.
use Rattle.std.proofs.Common.{ℕ, ◌+◌, ◌*◌, ◌^◌, ◌<◌, ◌≤◌, List, Bool, true, false, Option, arith}
use Rattle.std.specs.Prelude.{if◌then◌else◌}
use Rattle.tapa_syntax.specs.declared.program.Program.{Program}
use Rattle.kahn_model.specs.declared.tick.Tick.{Tick}
use Rattle.kahn_model.specs.Network.{Network}
use Rattle.kahn_model.specs.Outcome.{joined_part, joined_ticks}
use Rattle.kahn_model.proofs.Ends.{total_cap}
use Rattle.net_core.specs.declared.body.Pause.{Pause}
use Rattle.net_core.specs.declared.input.Input.{Input}
use Rattle.net_core.specs.Job.{Job}
use Rattle.net_core.specs.Bounded.{network_on, count_of}
use Rattle.net_case.specs.declared.batch.Process.{Process}
use Rattle.net_case.specs.declared.queue.Queue.{Queue}
use Rattle.net_case.specs.Home.{IsCaseAt}

part_le : (b : Bool) (x n : ℕ) → x ≤ n → (if b then 0 else x) ≤ n
part_le true x n h = omega arith
part_le false x n h = h

pub joined_few : (net : Network) (k : ℕ → ℕ) (cap : ℕ) → ((i : ℕ) → k i ≤ cap) → joined_ticks net k ≤ net.size * cap
joined_few net k cap h = total_cap net.size cap (joined_part net k) (λ i. part_le (net.detached i) (k i) cap (h i))

pub sum_fits : {B : Type 0} {Stands : B → Job → List Tick → Type 0} {program : Program} {input : Input} {budget : ℕ} {homes : List (Option (Process B))} {queues : List Queue} {taken_list offered counts : List ℕ} {pauses : List (Option Pause)} {listed : List Bool} {joined : ℕ} {writers : List ℕ} {fed : List Bool} → IsCaseAt Stands program input budget homes queues taken_list offered counts pauses listed joined writers fed → (made : ℕ) → made ≤ 1000000000000 → joined + made < 2 ^ 64
sum_fits {program} {input} {counts} c made l =
    let few = c.few in
    let cap = c.capped in
    let s = c.network.size in
    let n = c.well_formed.few_instances in
    let t = joined_few (network_on program input) (count_of counts) 1000000000000 (λ i. let x = c.capped i in omega arith) in
    let j = c.joined_is in
    omega arith
