-- How much the sums of all modules can grow.
use Rattle.std.specs.Prelude.{ℕ, ◌+◌, List, [], ◌∷◌, Bool, false, ◌&&◌, ◌||◌, bytes_eq, if◌then◌else◌, map}
use Rattle.std.specs.List.{flat_map}
use Rattle.vlog_tree.specs.declared.table.Declaration.{Declaration}
use Rattle.vlog_tree.specs.Form.{ModuleTree}
use Rattle.vlog_tree.specs.Table.{Name, port_declared, declaration_name}
use Rattle.vlog_tree.specs.Loops.{Edges}

abbrev pub is_pair_in : Edges → Name × Name → Bool
is_pair_in [] p = false
is_pair_in (q ∷ sum) p = (bytes_eq q.0 p.0 && bytes_eq q.1 p.1) || is_pair_in sum p

-- how many of some pairs a sum does not have
abbrev pub missing : Edges → Edges → ℕ
missing [] sum = 0
missing (p ∷ ps) sum = (if is_pair_in sum p then 0 else 1) + missing ps sum

-- all pairs of names of ports
abbrev pub candidates : List Declaration → Edges
candidates ports = flat_map (λ x. map (λ y. (x, y)) (map declaration_name ports)) (map declaration_name ports)

abbrev pub room : List ModuleTree → List Edges → ℕ
room [] sums = 0
room (m ∷ ms) [] = 0
room (m ∷ ms) (sum ∷ sums) = missing (candidates (map port_declared m.ports)) sum + room ms sums
