-- Solutions of the equations of a network's tasks, as histories: what each stream has carried at each stage. A stream that
-- never ends has no last stage (Kahn 1974).
use Rattle.std.specs.Prelude.{ℕ, suc, List, flat_map}
use Rattle.tapa_base.specs.declared.token.Token.{Token}
use Rattle.kahn_model.specs.Behavior.{ticks}
use Rattle.kahn_model.specs.Network.{Network, IsNetwork, put_on, stream}
use Rattle.kahn_model.specs.Prefix.{IsPrefixOf}

-- the tokens of each stream by stages
abbrev pub StreamHistory : Type 0
StreamHistory = ℕ → ℕ → List Token

-- no token is taken back
abbrev pub IsGrowing : StreamHistory → Type 0
IsGrowing x = (n s : ℕ) → IsPrefixOf (x n s) (x (suc n) s)

-- what the tasks write on the streams of each stage, with one more test of their loops at each
abbrev pub written_by_tasks : Network → StreamHistory → StreamHistory
written_by_tasks net x n s = flat_map (put_on s) (ticks (net.job (net.producer s) (suc n)) (x n))

-- all streams of each stage of the first are prefixes of those of some stage of the second
abbrev pub IsPartOfHistory : StreamHistory → StreamHistory → Type 0
IsPartOfHistory x y = (n : ℕ) → (m : ℕ) × ((s : ℕ) → IsPrefixOf (x n s) (y m s))

-- the streams carry all that the tasks write on them, and nothing else
pub record IsSolution (net : Network) (x : StreamHistory) : Type 0 where
  pub grows : IsGrowing x
  pub all : IsPartOfHistory (written_by_tasks net x) x
  pub only : IsPartOfHistory x (written_by_tasks net x)

-- a solution that is within every history which carries all that the tasks write on it, and so within every solution
pub record IsLeastSolution (net : Network) (x : StreamHistory) : Type 0 where
  pub solves : IsSolution net x
  pub least : (y : StreamHistory) → IsGrowing y → IsPartOfHistory (written_by_tasks net y) y → IsPartOfHistory x y

-- the streams by rounds are the least solution
abbrev pub StreamsAreTheLeastSolution : Type 0
StreamsAreTheLeastSolution = (net : Network) → IsNetwork net → IsLeastSolution net (stream net)
