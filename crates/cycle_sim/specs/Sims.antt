-- A simulator of a design, in a cycle.
use Rattle.std.specs.Prelude.{◌≡◌, ℕ, suc, ◌+◌, ◌<◌, ◌≤◌, ◌++◌, Bool, List, [], Option, Some, None, length, slice_get, slice_index_or}
use Rattle.std.specs.Option.{option_to_list}
use Rattle.tapa_base.specs.declared.shape.Port.{Port}
use Rattle.tapa_base.specs.declared.token.Token.{Token}
use Rattle.vlog_tree.specs.Form.{ModuleTree}
use Rattle.vlog_tree.specs.Cycle.{Cycle, Path}
use Rattle.vlog_tree.specs.Environment.{Environment, FitsShape, RunsIn, RaisesDone, shape_of, streams_of, tokens}
use Rattle.vlog_design.specs.Designs.{DesignTree, TopOf}
use Rattle.cycle_sim.specs.Told.{TellTree, IsToldOf, TellsEachRun}

-- the design, what is shown of it in this cycle, and when the memories around it are ready
pub record SimTree : Type 0 where
  pub design : DesignTree
  pub told : TellTree
  pub ready : List (List Bool)

-- what is true of each run that a simulator shows: one of its design, in an environment that fits it and whose memories are
-- ready when those around the simulator are
abbrev pub InRuns : SimTree → (ModuleTree → Environment → (ℕ → Path → Cycle) → Type 0) → Type 0
InRuns s P =
    (m : ModuleTree) (env : Environment) (nets : ℕ → Path → Cycle) → TopOf s.design m → FitsShape env (shape_of m) → env.ready ≡ s.ready
    → RunsIn s.design.modules m env nets → IsToldOf s.design.modules m env nets s.told → P m env nets

-- a simulator in cycle 0 of a design in an environment, where every register and every cell begins with a number, cut to its width
pub record IsNewSim (design : DesignTree) (env : Environment) (fill : ℕ) (s : SimTree) : Type 0 where
  pub same : s.design ≡ design
  pub cycle : s.told.cycle ≡ 0
  pub ready : s.ready ≡ env.ready
  pub told : (m : ModuleTree) → TopOf design m → FitsShape env (shape_of m) → TellsEachRun design.modules m env fill s.told

-- a simulator in the next cycle, of each run that the one before shows
pub record IsNext (now next : SimTree) : Type 0 where
  pub same : next.design ≡ now.design
  pub cycle : next.told.cycle ≡ now.told.cycle + 1
  pub ready : next.ready ≡ now.ready
  pub told : InRuns now (λ m env nets. IsToldOf now.design.modules m env nets next.told)

-- a simulator in a later cycle, of each run that the one before shows
pub record IsLater (now later : SimTree) (cycle : ℕ) : Type 0 where
  pub same : later.design ≡ now.design
  pub at : later.told.cycle ≡ cycle
  pub ready : later.ready ≡ now.ready
  pub told : InRuns now (λ m env nets. IsToldOf now.design.modules m env nets later.told)

-- what a stream carries in a cycle is added to what it carried before, and nothing in cycle 0
pub record IsCarried (s : SimTree) (place : ℕ) (token : Option Token) : Type 0 where
  pub first : s.told.cycle ≡ 0 → token ≡ None
  pub later : InRuns s (λ m env nets. (l : Port) (n : ℕ) → slice_get (streams_of m) place ≡ Some l → s.told.cycle ≡ suc n
      → tokens l.bits (λ k. nets k []) l.name (suc n) ≡ tokens l.bits (λ k. nets k []) l.name n ++ option_to_list token)

-- the token of a stream is added to what it carried before
abbrev pub IsAdded : SimTree → ℕ → List Token → List Token → Type 0
IsAdded s place old new = (token : Option Token) × IsCarried s place token × (new ≡ old ++ option_to_list token)

abbrev pub AreTokensAdded : SimTree → List (List Token) → List (List Token) → Type 0
AreTokensAdded s old new = (length new ≡ length old) × ((i : ℕ) → i < length old → IsAdded s i (slice_index_or old i []) (slice_index_or new i []))

-- a simulator that went on from a first one, what its streams carried since, and that no cycle up to this one was the last
pub record IsRunTo (first now : SimTree) (carried : List (List Token)) : Type 0 where
  pub same : now.design ≡ first.design
  pub ready : now.ready ≡ first.ready
  pub told : InRuns first (λ m env nets. IsToldOf first.design.modules m env nets now.told)
  pub count : (m : ModuleTree) → TopOf first.design m → length carried ≡ length (streams_of m)
  pub tokens : InRuns first (λ m env nets. (place : ℕ) (l : Port) → slice_get (streams_of m) place ≡ Some l
      → tokens l.bits (λ n. nets n []) l.name now.told.cycle ≡ slice_index_or carried place [])
  pub going : InRuns first (λ m env nets. (n : ℕ) → n ≤ now.told.cycle → RaisesDone (λ n. nets n []) n → ⊥)

-- the first cycle in which a design is done, or none up to a limit
abbrev pub IsDoneAt : (ℕ → Cycle) → ℕ → Option ℕ → Type 0
IsDoneAt run limit None = (n : ℕ) → n ≤ limit → RaisesDone run n → ⊥
IsDoneAt run limit (Some at) = (at ≤ limit) × RaisesDone run at × ((n : ℕ) → n < at → RaisesDone run n → ⊥)

-- the last cycle that is gone over
abbrev pub last_cycle : ℕ → Option ℕ → ℕ
last_cycle limit None = limit
last_cycle limit (Some at) = at
