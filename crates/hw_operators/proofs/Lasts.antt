-- The number behind drivers, and the wire of the last one.
use Rattle.std.proofs.Common.{◌≡◌, ℕ, suc, ◌+◌, ◌-◌, ◌<◌, List, [], ◌∷◌, length, sym, ap, ◌∙◌, arith, add-zero}
use Rattle.vlog_tree.specs.declared.tree.Atom.{Atom}
use Rattle.vlog_tree.specs.Table.{Name}
use Rattle.hw_lines.specs.Drivers.{Driver, after, last_of, wire}

pub after_is : (n : ℕ) (drivers : List Driver) → after n drivers ≡ n + length drivers
after_is n [] = sym (add-zero n)
after_is n (d ∷ drivers) = after_is (suc n) drivers ∙ omega arith

pub last_is : (front : Name) (n : ℕ) (drivers : List Driver) (a : Atom) (k : ℕ) → 0 < length drivers → k ≡ n + (length drivers - 1) → wire front k ≡ last_of front n drivers a
last_is front n [] a k h e = absurd (omega arith)
last_is front n (d ∷ []) a k h e = let f : k ≡ n = omega arith in ap (wire front) f
last_is front n (d ∷ c ∷ drivers) a k h e = last_is front (suc n) (c ∷ drivers) (wire front n) k (omega arith) (omega arith)
