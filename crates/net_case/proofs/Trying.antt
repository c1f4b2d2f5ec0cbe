-- An instance that was looked at goes out, or comes home again.
use Rattle.std.proofs.Common.{◌≡◌, ℕ, ◌+◌, ◌-◌, ◌<◌, ◌≤◌, ◌⊎◌, List, Bool, true, false, Option, Some, None, refl, sym, ap, ◌∙◌, subst, ⊎_elim, arith}
use Rattle.std.specs.Prelude.{slice_get, slice_index, slice_set, if◌then◌else◌}
use Rattle.tapa_syntax.specs.declared.program.Program.{Program}
use Rattle.kahn_model.specs.declared.tick.Tick.{Tick}
use Rattle.kahn_model.specs.Network.{Network}
use Rattle.kahn_model.specs.Outcome.{IsJoined, joined_ticks}
use Rattle.net_core.specs.declared.body.Pause.{Pause}
use Rattle.net_core.specs.declared.body.Pause.TheVariants.{Fuel}
use Rattle.net_core.specs.declared.input.Input.{Input}
use Rattle.net_core.specs.Job.{Job}
use Rattle.net_core.specs.Bindings.{detached_at}
use Rattle.net_core.specs.Bounded.{network_on, count_of}
use Rattle.net_case.specs.Batch.{IsBatchAt}
use Rattle.net_case.specs.declared.batch.Process.{Process}
use Rattle.net_case.specs.declared.case_state.CaseState.{CaseState}
use Rattle.net_case.specs.declared.queue.Queue.{Queue}
use Rattle.net_case.specs.Claims.{HandsOut, IsSameCase, KeepsRest, Rests}
use Rattle.net_case.specs.Home.{IsCaseAt, outs}
use Rattle.net_case.specs.Look.{HasLooked}
use Rattle.net_case.proofs.Going.{outs_back, rests, rest_kept, stays, goes, allowed_by, goes_batch, may_step}
use Rattle.net_case.proofs.Left.{joined_left, detached_left, none_left, hands_out}

-- it may not step, or nothing is left to it
pub nothing_left : (may : Bool) (left : ℕ) → ((may ≡ true) × (left ≤ 0)) ⊎ (may ≡ false) → may ≡ true → left ≡ 0
nothing_left may left e t = ⊎_elim (λ (a : (may ≡ true) × (left ≤ 0)). let l = a.1 in omega arith) (λ (f : may ≡ false). let q = sym t ∙ f in absurd (cc)) e

-- instance i of a case was looked at, its home is empty, and `left` ticks are left to it
pub record HasTried {B : Type 0} (Stands : B → Job → List Tick → Type 0) (program : Program) (input : Input) (budget : ℕ) (homes : List (Option (Process B))) (queues : List Queue) (taken_list offered counts : List ℕ) (pauses : List (Option Pause)) (listed : List Bool) (joined : ℕ) (writers : List ℕ) (fed : List Bool) (i : ℕ) (x : Process B) (gone : Option (Process B)) (offered' : List ℕ) (y : Process B) (may : Bool) (pause : Pause) (from left : ℕ) : Type 0 where
  pub is_case : IsCaseAt Stands program input budget homes queues taken_list offered counts pauses listed joined writers fed
  pub is_home : slice_get homes i ≡ Some (Some x)
  pub gone_is : gone ≡ None
  pub looked : HasLooked Stands program input budget queues taken_list offered offered' counts i y.body y.ports y.limits.items may pause
  pub from_is : from ≡ slice_index counts i
  pub left_is : left ≡ (if detached_at program i then budget - from else budget - joined)

module _ {B : Type 0} {Stands : B → Job → List Tick → Type 0} {program : Program} {input : Input} {budget : ℕ} {homes : List (Option (Process B))} {queues : List Queue} {taken_list offered counts : List ℕ} {pauses : List (Option Pause)} {listed : List Bool} {joined : ℕ} {writers : List ℕ} {fed : List Bool} {i : ℕ} {x : Process B} {gone : Option (Process B)} {offered' : List ℕ} {y : Process B} {may : Bool} {pause : Pause} {from left : ℕ} (tried : HasTried Stands program input budget homes queues taken_list offered counts pauses listed joined writers fed i x gone offered' y may pause from left) where
  open tried use {is_case as c, is_home, gone_is, looked as h, from_is, left_is}

  abbrev N : Network
  N = network_on program input

  abbrev k : ℕ → ℕ
  k = count_of counts

  abbrev state : List (Option (Process B)) → List (Option Pause) → CaseState
  state hs ps = record { program = program; input = input; budget = budget; counts = counts; out = outs hs; pauses = ps }

  -- ---- it goes out

  pub case_without : IsCaseAt Stands program input budget (slice_set homes i gone) queues taken_list offered' counts pauses (slice_set listed i false) joined writers fed
  case_without =
      subst (λ (o : Option (Process B)). IsCaseAt Stands program input budget (slice_set homes i o) queues taken_list offered' counts pauses (slice_set listed i false) joined writers fed) (sym gone_is)
      (goes c i x is_home offered' y may pause h)

  module _ (can : may ≡ true) (fuel : ℕ) (few : fuel ≤ left) (some : 0 < fuel) where
    joined_room : IsJoined N i → joined_ticks N k + fuel ≤ budget
    joined_room = joined_left c i from left from_is left_is fuel few some

    own_room : N.detached i ≡ true → k i + fuel ≤ budget
    own_room = detached_left c i from left from_is left_is fuel few some

    pub batch_out : IsBatchAt Stands program input budget counts i from fuel 0 None false y.body y.ports y.limits.items
    batch_out =
        subst (λ (n : ℕ). IsBatchAt Stands program input budget counts i n fuel 0 None false y.body y.ports y.limits.items) (sym from_is)
        (goes_batch c i x is_home offered' y may pause h (allowed_by c i x is_home offered' y may pause h can) fuel joined_room own_room)

    pub handed_out : HandsOut (state homes pauses) (record { program = program; input = input; budget = budget; instance = i; at = counts; from = from; fuel = fuel; made = 0; pause = None; ready = false }) (state (slice_set homes i gone) pauses)
    handed_out =
        subst (λ (o : Option (Process B)). HandsOut (state homes pauses) (record { program = program; input = input; budget = budget; instance = i; at = counts; from = from; fuel = fuel; made = 0; pause = None; ready = false }) (state (slice_set homes i o) pauses)) (sym gone_is)
        (hands_out c i from left from_is left_is x is_home fuel few some (may_step c i x is_home offered' y may pause h (allowed_by c i x is_home offered' y may pause h can) fuel joined_room own_room some))

  -- ---- it comes home again

  module _ (nothing : may ≡ true → left ≡ 0) (kept : Pause) (kept_is : kept ≡ (if may then Fuel else pause)) where
    blocked : may ≡ true → (IsJoined N i → budget ≤ joined_ticks N k) × (N.detached i ≡ true → budget ≤ k i)
    blocked e = none_left c i from left from_is left_is (nothing e)

    abbrev homes_after : Option (Process B) → List (Option (Process B))
    homes_after o = slice_set (slice_set homes i o) i (Some y)

    abbrev pauses_after : Pause → List (Option Pause)
    pauses_after z = slice_set pauses i (Some z)

    pub case_with : IsCaseAt Stands program input budget (homes_after gone) queues taken_list offered' counts (pauses_after kept) (slice_set listed i false) joined writers fed
    case_with =
        subst (λ (o : Option (Process B)). IsCaseAt Stands program input budget (homes_after o) queues taken_list offered' counts (pauses_after kept) (slice_set listed i false) joined writers fed) (sym gone_is)
        (subst (λ (z : Pause). IsCaseAt Stands program input budget (homes_after None) queues taken_list offered' counts (pauses_after z) (slice_set listed i false) joined writers fed) (sym kept_is)
        (stays c i x is_home offered' y may pause h blocked))

    pub same_with : IsSameCase (state homes pauses) (state (homes_after gone) (pauses_after kept))
    same_with = record { program = refl; input = refl; budget = refl; counts = refl; out = ap (λ (o : Option (Process B)). outs (homes_after o)) gone_is ∙ outs_back homes i x y is_home }

    pub keeps_with : KeepsRest (state homes pauses) (state (homes_after gone) (pauses_after kept))
    keeps_with j r = subst (λ (z : Pause). Rests (state (homes_after gone) (pauses_after z)) j) (sym kept_is) (rest_kept c i x is_home offered' y may pause h blocked j r)

    pub rests_with : Rests (state (homes_after gone) (pauses_after kept)) i
    rests_with = subst (λ (z : Pause). Rests (state (homes_after gone) (pauses_after z)) i) (sym kept_is) (rests c i x is_home offered' y may pause h blocked)
