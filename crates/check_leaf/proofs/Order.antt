-- The first of the faults of several parts.
use Rattle.std.proofs.Common.{◌≡◌, ℕ, zero, suc, ◌<◌, List, [], ◌∷◌, ◌++◌, length, get_or, map, drop, Bool, subst, sym, ap, arith}
use Rattle.std.specs.List.{flat_map}
use Rattle.std.specs.Prelude.{Err}
use Rattle.tapa_syntax.specs.declared.tree.Statement.{Statement}
use Rattle.tapa_syntax.specs.Trees as tree
use Rattle.check_scope.specs.declared.fault.Broken.{Broken}
use Rattle.check_scope.specs.declared.fault.CheckFault.{CheckFault}
use Rattle.check_scope.specs.declared.fault.CheckFault.TheVariants.{At, OutOfMemory}
use Rattle.check_scope.specs.Answers.{ScopeAnswers, IsFirstBroken}
use Rattle.check_leaf.specs.Statements.{Frame, statement_faults, statements_faults, after}

-- what a check that answers an error says, whatever the part means
abbrev pub Refused : {B : Type 0} → CheckFault → List Broken → B → Type 0
Refused {B} e fs m = ScopeAnswers {A = Unit {0}} {B = B} (λ x. m) (Err e) fs m

pub same : {B D : Type 0} (e : CheckFault) (fs gs : List Broken) (m : B) (n : D) → fs ≡ gs → Refused e fs m → Refused e gs n
same (At b) fs gs m n q h = subst (λ xs. IsFirstBroken xs b) q h
same OutOfMemory fs gs m n q h = tt

-- a part that is refused is before those behind it
pub fails : {B D : Type 0} (e : CheckFault) (fs gs : List Broken) (m : B) (n : D) → Refused e fs m → Refused e (fs ++ gs) n
fails (At b) (f ∷ fs) gs m n h = h
fails (At b) [] gs m n h = absurd h
fails OutOfMemory fs gs m n h = tt

-- and behind those where nothing is refused
pub then_fails : {B D : Type 0} (e : CheckFault) (fs gs : List Broken) (m : B) (n : D) → fs ≡ [] → Refused e gs m → Refused e (fs ++ gs) n
then_fails e fs gs m n q h = same e gs (fs ++ gs) m n (ap (λ xs. xs ++ gs) (sym q)) h

-- a part that is refused in a list
pub fails_in : {B D T S : Type 0} (view : T → S) (faults : S → List Broken) (xs : List T) (i : ℕ) (x : T) (e : CheckFault) (m : B) (n : D) → i < length xs → x ≡ get_or xs i x → Refused e (faults (view x)) m → Refused e (flat_map faults (map view (drop i xs))) n
fails_in view faults [] i x e m n h k l = absurd (omega arith)
fails_in view faults (y ∷ ys) zero x e m n h k l = fails e (faults (view y)) (flat_map faults (map view ys)) m n (subst (λ z. Refused e (faults (view z)) m) k l)
fails_in view faults (y ∷ ys) (suc i) x e m n h k l = fails_in view faults ys i x e m n (omega arith) k l

pub fails_stated : {B D : Type 0} (l : Bool) (f : Frame) (xs : List Statement) (i : ℕ) (x : Statement) (e : CheckFault) (m : B) (n : D) → i < length xs → x ≡ get_or xs i x → Refused e (statement_faults l f (tree.statement x)) m → Refused e (statements_faults l f (tree.statements (map tree.statement (drop i xs)))) n
fails_stated l f [] i x e m n h k r = absurd (omega arith)
fails_stated l f (y ∷ ys) zero x e m n h k r =
    fails e (statement_faults l f (tree.statement y)) (statements_faults l (after f (tree.statement y)) (tree.statements (map tree.statement ys))) m n (subst (λ z. Refused e (statement_faults l f (tree.statement z)) m) k r)
fails_stated l f (y ∷ ys) (suc i) x e m n h k r = fails_stated l f ys i x e m n (omega arith) k r
