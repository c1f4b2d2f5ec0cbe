-- What is left of the budget to an instance, and the claim that hands it out.
use Rattle.std.proofs.Common.{◌≡◌, ℕ, ◌+◌, ◌-◌, ◌<◌, ◌≤◌, List, Bool, true, false, Option, Some, None, refl, sym, ap, ◌∙◌, arith}
use Rattle.std.specs.Prelude.{slice_get, slice_index, slice_set, if◌then◌else◌}
use Rattle.std.proofs.lemmas.Option.{slice_get_within}
use Rattle.tapa_syntax.specs.declared.program.Program.{Program}
use Rattle.kahn_model.specs.declared.tick.Tick.{Tick}
use Rattle.kahn_model.specs.Network.{Network}
use Rattle.kahn_model.specs.Outcome.{IsJoined, joined_ticks}
use Rattle.net_core.specs.declared.body.Pause.{Pause}
use Rattle.net_core.specs.declared.input.Input.{Input}
use Rattle.net_core.specs.Job.{Job}
use Rattle.net_core.specs.Bindings.{detached_at}
use Rattle.net_core.specs.Bounded.{network_on, count_of}
use Rattle.net_core.proofs.Shown.{detached_is}
use Rattle.net_case.specs.declared.batch.Process.{Process}
use Rattle.net_case.specs.declared.queue.Queue.{Queue}
use Rattle.net_case.specs.Claims.{HandsOut}
use Rattle.net_case.specs.Home.{IsCaseAt, outs}
use Rattle.net_case.specs.Over.{MayStep}
use Rattle.net_case.proofs.Outs.{out_at, outs_set}

module _ {B : Type 0} {Stands : B → Job → List Tick → Type 0} {program : Program} {input : Input} {budget : ℕ} {homes : List (Option (Process B))} {queues : List Queue} {taken_list offered counts : List ℕ} {pauses : List (Option Pause)} {listed : List Bool} {joined : ℕ} {writers : List ℕ} {fed : List Bool} (c : IsCaseAt Stands program input budget homes queues taken_list offered counts pauses listed joined writers fed) (i : ℕ) (from left : ℕ) (from_is : from ≡ slice_index counts i) (left_is : left ≡ (if detached_at program i then budget - from else budget - joined)) where
  abbrev N : Network
  N = network_on program input

  abbrev k : ℕ → ℕ
  k = count_of counts

  by_join : (b : Bool) → N.detached i ≡ b → left ≡ (if b then budget - from else budget - joined)
  by_join b e = left_is ∙ ap (λ (x : Bool). if x then budget - from else budget - joined) (sym (detached_is program input i) ∙ e)

  pub joined_left : (fuel : ℕ) → fuel ≤ left → 0 < fuel → IsJoined N i → joined_ticks N k + fuel ≤ budget
  joined_left fuel l some j = let e = by_join false j in let s = c.joined_is in omega arith

  pub detached_left : (fuel : ℕ) → fuel ≤ left → 0 < fuel → N.detached i ≡ true → k i + fuel ≤ budget
  detached_left fuel l some d = let e = by_join true d in omega arith

  -- nothing is left
  pub none_left : left ≡ 0 → (IsJoined N i → budget ≤ joined_ticks N k) × (N.detached i ≡ true → budget ≤ k i)
  none_left z = (
    (λ j. let e = by_join false j in let s = c.joined_is in omega arith),
    (λ d. let e = by_join true d in omega arith),
  )

  pub hands_out : (x : Process B) → slice_get homes i ≡ Some (Some x) → (fuel : ℕ) → fuel ≤ left → 0 < fuel → MayStep N budget k i → HandsOut (record { program = program; input = input; budget = budget; counts = counts; out = outs homes; pauses = pauses }) (record { program = program; input = input; budget = budget; instance = i; at = counts; from = from; fuel = fuel; made = 0; pause = None; ready = false }) (record { program = program; input = input; budget = budget; counts = counts; out = outs (slice_set homes i None); pauses = pauses })
  hands_out x at fuel l some may = record {
    inside = let w = slice_get_within homes i (Some x) at in let a = c.homes_len in let b = c.counts_len in omega arith;
    at_home = out_at homes i (Some x) at;
    may = may;
    starts = record { program = refl; input = refl; budget = refl; at = refl; from = from_is; none_made = refl; unrun = refl; unready = refl };
    some = some;
    joined = joined_left fuel l some;
    detached = detached_left fuel l some;
    program = refl;
    input = refl;
    budget = refl;
    counts = refl;
    out = outs_set homes i None;
  }
