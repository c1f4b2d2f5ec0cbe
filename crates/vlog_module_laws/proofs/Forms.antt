-- The usual blocks, case by case.
use Rattle.std.proofs.Common.{◌≡◌, ℕ, Bool, true, false, cond, eqb, ltb, ◌&&◌, [], refl, ap}
use Rattle.std.specs.Prelude.{bytes_eq, not}
use Rattle.std.specs.Cmp.Lexicographic.{bytes_decides}
use Rattle.vlog_tree.specs.declared.tree.Atom.{Atom}
use Rattle.vlog_tree.specs.Table.{Name}
use Rattle.vlog_tree.specs.Cycle.{Cycle, Sizes, atom_value, run_steps, put, store}
use Rattle.vlog_module_laws.specs.Forms.{reset_block, steady_block, set_block, write_block}

pub itself : (x : Name) → bytes_eq x x ≡ true
itself x = (bytes_decides x x).1 refl

put_itself : (x : Name) (v : ℕ) (c : Cycle) → (put x v c).net x ≡ v
put_itself x v c = ap (λ b. cond b v (c.net x)) (itself x)

reset_cases : (x : Name) (v w : ℕ) (left : Cycle) (b c : Bool)
    → (cond (c && (not b && true)) (put x w (cond (b && true) (put x v left) left)) (cond (b && true) (put x v left) left)).net x ≡ cond b v (cond c w (left.net x))
reset_cases x v w left true true = put_itself x v left
reset_cases x v w left true false = put_itself x v left
reset_cases x v w left false true = put_itself x w left
reset_cases x v w left false false = refl

pub reset_leaves : (s : Sizes) (old left : Cycle) (rst set x : Name) (first next : Atom)
    → (run_steps s old [] (reset_block rst set x first next) left).net x ≡ cond (eqb (old.net rst) 1) (atom_value old first) (cond (eqb (old.net set) 1) (atom_value old next) (left.net x))
reset_leaves s old left rst set x first next = reset_cases x (atom_value old first) (atom_value old next) left (eqb (old.net rst) 1) (eqb (old.net set) 1)

steady_cases : (x : Name) (v w : ℕ) (left : Cycle) (b : Bool)
    → (cond (not b && true) (put x w (cond (b && true) (put x v left) left)) (cond (b && true) (put x v left) left)).net x ≡ cond b v w
steady_cases x v w left true = put_itself x v left
steady_cases x v w left false = put_itself x w left

pub steady_leaves : (s : Sizes) (old left : Cycle) (rst x : Name) (first next : Atom)
    → (run_steps s old [] (steady_block rst x first next) left).net x ≡ cond (eqb (old.net rst) 1) (atom_value old first) (atom_value old next)
steady_leaves s old left rst x first next = steady_cases x (atom_value old first) (atom_value old next) left (eqb (old.net rst) 1)

set_cases : (x : Name) (v : ℕ) (left : Cycle) (b : Bool) → (cond (b && true) (put x v left) left).net x ≡ cond b v (left.net x)
set_cases x v left true = put_itself x v left
set_cases x v left false = refl

pub set_leaves : (s : Sizes) (old left : Cycle) (set x : Name) (next : Atom) → (run_steps s old [] (set_block set x next) left).net x ≡ cond (eqb (old.net set) 1) (atom_value old next) (left.net x)
set_leaves s old left set x next = set_cases x (atom_value old next) left (eqb (old.net set) 1)

hit : (p q r : Bool) (v u : ℕ) → p ≡ true → cond (p && q && r) v u ≡ cond (q && r) v u
hit true q r v u e = refl
hit false q r v u e = cc

write_cases : (s : Sizes) (m : Name) (at v : ℕ) (left : Cycle) (a : ℕ) (b : Bool)
    → (cond (b && true) (store s m at v left) left).cell m a ≡ cond (b && (eqb a at && ltb at (s.cells m))) v (left.cell m a)
write_cases s m at v left a true = hit (bytes_eq m m) (eqb a at) (ltb at (s.cells m)) v (left.cell m a) (itself m)
write_cases s m at v left a false = refl

pub write_leaves : (s : Sizes) (old left : Cycle) (we m at : Name) (value : Atom) (a : ℕ)
    → (run_steps s old [] (write_block we m at value) left).cell m a ≡ cond (eqb (old.net we) 1 && (eqb a (old.net at) && ltb (old.net at) (s.cells m))) (atom_value old value) (left.cell m a)
write_leaves s old left we m at value a = write_cases s m (old.net at) (atom_value old value) left a (eqb (old.net we) 1)
