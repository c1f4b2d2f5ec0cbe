-- Trees of ors over numbered nets, each node over two nets before it.
use Rattle.std.specs.Prelude.{◌≡◌, ℕ, zero, suc, ◌+◌, ◌-◌, ◌*◌, ◌<◌, List, [], ◌∷◌, ◌++◌, bit_or, decimal}
use Rattle.vlog_tree.specs.declared.tree.Atom.TheVariants.{Net}
use Rattle.vlog_tree.specs.declared.tree.BinaryOp.TheVariants.{Or}
use Rattle.vlog_tree.specs.declared.tree.Value.TheVariants.{Binary}
use Rattle.tapa_base.specs.Lists.{Has}
use Rattle.vlog_tree.specs.Table.{Name}
use Rattle.vlog_tree.specs.Cycle.{Cycle, Follows}
use Rattle.hw_build.specs.Elements.{Element, Wire, built}

unfoldable pub numbered : Name → ℕ → Name
numbered front n = front ++ 95 ∷ decimal n

-- Node m of a tree over the leaves, which are the nets 0, 1 and so on, is the net leaves + m, the or of the nets 2 m and
-- 2 m + 1. So the last of one node fewer than leaves has all of them below it, at depths that differ by one at most.
abbrev pub tree_node : (width : ℕ) (front : Name) (leaves m : ℕ) → Element
tree_node width front leaves m = Wire width (numbered front (leaves + m)) (Binary (Net (numbered front (2 * m))) Or (Net (numbered front (2 * m + 1))))

abbrev pub tree_nodes : (width : ℕ) (front : Name) (leaves m : ℕ) → List Element
tree_nodes width front leaves zero = []
tree_nodes width front leaves (suc m) = tree_nodes width front leaves m ++ tree_node width front leaves m ∷ []

-- the last node, or the only leaf
abbrev pub tree_root : Name → (leaves : ℕ) → Name
tree_root front leaves = numbered front (2 * leaves - 2)

-- the or of n numbers from an index on
abbrev pub or_range : (ℕ → ℕ) → (from n : ℕ) → ℕ
or_range v a zero = 0
or_range v a (suc n) = bit_or (v a) (or_range v (suc a) n)

-- an or of zeros is 0
abbrev pub NoneIsZero : Type 0
NoneIsZero = (v : ℕ → ℕ) (n : ℕ) → ((j : ℕ) → j < n → v j ≡ 0) → or_range v 0 n ≡ 0

-- an or of bits is set if one of them is
abbrev pub SetBitStays : Type 0
SetBitStays = (v : ℕ → ℕ) (n i : ℕ) → i < n → ((j : ℕ) → j < n → v j < 2) → v i ≡ 1 → or_range v 0 n ≡ 1

-- numbers of which each after the first n is the or of two before it, as in a tree: the last is the or of the first n
abbrev pub TreesAreOrs : Type 0
TreesAreOrs = (v : ℕ → ℕ) (n : ℕ) → 0 < n → ((m : ℕ) → m + 1 < n → v (n + m) ≡ bit_or (v (2 * m)) (v (2 * m + 1))) → v (2 * n - 2) ≡ or_range v 0 n

-- in each cycle of a run a tree's root has the or of its leaves
abbrev pub RootsAreDriven : Type 0
RootsAreDriven =
    (name : Name) (elements : List Element) (run : ℕ → Cycle) → Follows (built name elements) run → (width : ℕ) (front : Name) (leaves : ℕ) → 0 < leaves
    → ((e : Element) → Has (tree_nodes width front leaves (leaves - 1)) e → Has elements e) → (n : ℕ)
    → (run n).net (tree_root front leaves) ≡ or_range (λ j. (run n).net (numbered front j)) 0 leaves
