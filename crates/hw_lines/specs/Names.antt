-- Each net has a name of its own.
use Rattle.std.specs.Prelude.{◌≡◌, ℕ, ◌^◌, ◌<◌, List, true}
use Rattle.std.specs.List.{AllByRecursion}
use Rattle.vlog_tree.specs.Names.{is_name}
use Rattle.hw_build.specs.Trees.{numbered}
use Rattle.hw_lines.specs.Nets.{Choice, Net, Node, numbers, name, front}

abbrev pub AreSmall : List ℕ → Type 0
AreSmall ns = AllByRecursion (λ n. n < 2 ^ 64) ns

abbrev pub NamesTellNets : Type 0
NamesTellNets = (x y : Net) → AreSmall (numbers x) → AreSmall (numbers y) → name x ≡ name y → x ≡ y

-- the names of the nets of a choice are its prefix and their numbers
abbrev pub NodesAreNumbered : Type 0
NodesAreNumbered = (c : Choice) (j : ℕ) → name (Node c j) ≡ numbered (front c) j

-- and every net's name is one
abbrev pub NetsHaveNames : Type 0
NetsHaveNames = (x : Net) → AreSmall (numbers x) → is_name (name x) ≡ true
