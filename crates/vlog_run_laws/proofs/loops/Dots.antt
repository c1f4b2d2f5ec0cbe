-- Names without a dot, and the net of the flattened design that a wire of a module stands for.
use Rattle.std.proofs.Common.{◌≡◌, ℕ, Bool, true, false, ◌||◌, [], ◌∷◌, ◌++◌, Option, Some, None, refl, sym, ap, subst, ◌∙◌}
use Rattle.std.specs.Prelude.{◌==◌}
use Rattle.std.specs.List.{list_all}
use Rattle.std.proofs.lemmas.Bool.{eqb-true}
use Rattle.vlog_tree.specs.Names.{within, starts_name, goes_on, has_name_form, is_name}
use Rattle.vlog_tree.specs.Table.{Name}
use Rattle.vlog_tree.specs.Cycle.{Path}
use Rattle.vlog_tree.specs.Loops.{port_of}
use Rattle.vlog_tree.specs.Flattened.{FlatNet}
use Rattle.tapa_base.proofs.Tests.{both_true, true_not_false}

abbrev behind : ℕ → Option (Name × Name) → Option (Name × Name)
behind c None = None
behind c (Some p) = Some (c ∷ p.0, p.1)

abbrev step_dot : Bool → ℕ → Name → Option (Name × Name) → Option (Name × Name)
step_dot true c x o = Some ([], x)
step_dot false c x o = behind c o

-- what stands before the first dot, and what follows it
abbrev pub at_dot : Name → Option (Name × Name)
at_dot [] = None
at_dot (c ∷ x) = step_dot (c == 46) c x (at_dot x)

dot_ends : goes_on 46 ≡ true → ⊥
unfolding goes_on starts_name
dot_ends h = true_not_false (sym h)

starts_on : (c : ℕ) → starts_name c ≡ true → goes_on c ≡ true
unfolding goes_on
starts_on c h = ap (λ b. b || within 48 57 c || (c == 36)) h

no_dot : (c : ℕ) → goes_on c ≡ true → (b : Bool) → (c == 46) ≡ b → b ≡ false
no_dot c h false e = refl
no_dot c h true e = absurd (dot_ends (subst (λ d. goes_on d ≡ true) (eqb-true c 46 e) h))

plain_step : (c : ℕ) (x : Name) → goes_on c ≡ true → at_dot x ≡ None → at_dot (c ∷ x) ≡ None
plain_step c x h e = ap (λ b. step_dot b c x (at_dot x)) (no_dot c h (c == 46) refl) ∙ ap (behind c) e

all_plain : (x : Name) → list_all goes_on x ≡ true → at_dot x ≡ None
all_plain [] h = refl
all_plain (c ∷ x) h = let p = both_true (goes_on c) (list_all goes_on x) h in plain_step c x p.0 (all_plain x p.1)

form_plain : (x : Name) → has_name_form x ≡ true → at_dot x ≡ None
form_plain [] h = refl
form_plain (c ∷ x) h = let p = both_true (starts_name c) (list_all goes_on x) h in plain_step c x (starts_on c p.0) (all_plain x p.1)

-- a name has no dot
pub name_plain : (x : Name) → is_name x ≡ true → at_dot x ≡ None
name_plain x h = form_plain x (both_true (has_name_form x) _ h).0

behind_none : (c : ℕ) (o : Option (Name × Name)) → behind c o ≡ None → o ≡ None
behind_none c None e = refl
behind_none c (Some p) e = cc

port_step : (c : ℕ) (i p : Name) (b : Bool) → step_dot b c i (at_dot i) ≡ None → (at_dot i ≡ None → at_dot (i ++ 46 ∷ p) ≡ Some (i, p))
    → step_dot b c (i ++ 46 ∷ p) (at_dot (i ++ 46 ∷ p)) ≡ Some (c ∷ i, p)
port_step c i p true e ih = cc
port_step c i p false e ih = ap (behind c) (ih (behind_none c (at_dot i) e))

dot_found : (i p : Name) → at_dot i ≡ None → at_dot (i ++ 46 ∷ p) ≡ Some (i, p)
dot_found [] p e = refl
dot_found (c ∷ i) p e = port_step c i p (c == 46) e (dot_found i p)

abbrev node_of : Path → Name → Option (Name × Name) → FlatNet
node_of path x None = (path, x)
node_of path x (Some p) = (p.0 ∷ path, p.1)

-- the flattened net of a name in the module at a path: its own net, or a port of an instance
abbrev pub node : Path → Name → FlatNet
node path x = node_of path x (at_dot x)

pub own_node : (path : Path) (x : Name) → at_dot x ≡ None → node path x ≡ (path, x)
own_node path x e = ap (node_of path x) e

pub port_node : (path : Path) (i p : Name) → at_dot i ≡ None → node path (port_of i p) ≡ (i ∷ path, p)
unfolding port_of
port_node path i p e = ap (node_of path (i ++ 46 ∷ p)) (dot_found i p e)
