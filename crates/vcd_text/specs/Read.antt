-- What is read of a dump.
use Rattle.std.specs.Prelude.{◌≡◌, ℕ, zero, suc, ◌<◌, ◌≤◌, ◌&&◌, ◌==◌, nat_le, if◌then◌else◌, List, [], ◌∷◌, ◌++◌, length, map}
use Rattle.tapa_base.specs.declared.shape.Port.{Port}
use Rattle.tapa_base.specs.Gaps.{Bytes}
use Rattle.vcd_text.specs.Nets.{Net}
use Rattle.vcd_text.specs.Dump.{Values, IsDumpOf, is_change}
use Rattle.vcd_text.specs.declared.dump.Change.{Change}

-- the value of a net after changes, in order, up to a cycle, where it had a value before
abbrev pub value_after : List Change → ℕ → ℕ → ℕ → ℕ
value_after [] k n v = v
value_after (c ∷ cs) k n v = value_after cs k n (if (c.net == k) && nat_le c.cycle n then c.value else v)

-- the value of the net at an index in a cycle
abbrev pub value_of : List Change → ℕ → ℕ → ℕ
value_of changes k n = value_after changes k n 0

abbrev pub port_of : Net → Port
port_of n = record { name = n.name; bits = n.bits }

-- the changes of a cycle, from the net at an index on
abbrev pub changes_from : Values → ℕ → ℕ → List Net → List Change
changes_from v n k [] = []
changes_from v n k (x ∷ xs) = (if is_change v n k then record { cycle = n; net = k; value = v n k } ∷ [] else []) ++ changes_from v n (suc k) xs

-- the changes of the cycles up to one, by cycles and in each by nets
abbrev pub changes_to : List Net → Values → ℕ → List Change
changes_to nets v zero = changes_from v 0 0 nets
changes_to nets v (suc n) = changes_to nets v n ++ changes_from v (suc n) 0 nets

-- these nets, the last cycle, and the changes of the values were read of a text
pub record IsReadAs (text : Bytes) (ports : List Port) (last : ℕ) (changes : List Change) : Type 0 where
  pub top : List ℕ
  pub nets : List Net
  pub values : Values
  pub dump : IsDumpOf top nets values last text
  pub are_ports : ports ≡ map port_of nets
  pub are_changes : changes ≡ changes_to nets values last

-- ---- what follows from it

-- the changes that are read give each net its value in each cycle
abbrev pub ReadsValues : Type 0
ReadsValues =
    (top : List ℕ) (nets : List Net) (v : Values) (last : ℕ) (text : Bytes) (ports : List Port) (end : ℕ) (changes : List Change) → IsDumpOf top nets v last text
    → IsReadAs text ports end changes
    → (n k : ℕ) → n ≤ last → k < length nets → value_of changes k n ≡ v n k
