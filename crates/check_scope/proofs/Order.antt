-- The first of the faults of several parts, where they are told one after the other.
use Rattle.std.proofs.Common.{◌≡◌, ◌<◌, ◌+◌, ℕ, List, [], ◌∷◌, ◌++◌, length, get_or, drop, sym, subst, ◌∙◌, ap, drop-cons, suc, arith}
use Rattle.std.specs.Prelude.{Ok, Err, Result}
use Rattle.check_scope.specs.declared.fault.Broken.{Broken}
use Rattle.check_scope.specs.declared.fault.CheckFault.{CheckFault}
use Rattle.check_scope.specs.declared.fault.CheckFault.TheVariants.{At, OutOfMemory}
use Rattle.check_scope.specs.Answers.{ScopeAnswers, IsFirstBroken}

-- a part that is refused is before those behind it
pub fails : {A B C D : Type 0} (view : A → B) (other : C → D) (e : CheckFault) (fs gs : List Broken) (m : B) (n : D) → ScopeAnswers view (Err e) fs m → ScopeAnswers other (Err e) (fs ++ gs) n
fails view other (At b) (f ∷ fs) gs m n h = h
fails view other (At b) [] gs m n h = absurd h
fails view other OutOfMemory fs gs m n h = tt

-- the same of all the faults
pub refuses : {B D : Type 0} (e : CheckFault) (all fs gs : List Broken) (m : B) (n : D) → ScopeAnswers {A = Unit {0}} (λ x. m) (Err e) fs m → all ≡ fs ++ gs → ScopeAnswers {A = Unit {0}} (λ x. n) (Err e) all n
refuses e all fs gs m n h k = subst (λ (l : List Broken). ScopeAnswers {A = Unit {0}} (λ x. n) (Err e) l n) (sym k) (fails {A = Unit {0}} {C = Unit {0}} (λ x. m) (λ x. n) e fs gs m n h)

-- the same of another meaning, with the same faults
pub meant : {B D : Type 0} (r : Result (Unit {0}) CheckFault) (b m : B) (d n : D) (fs gs : List Broken) → ScopeAnswers {A = Unit {0}} (λ x. b) r fs m → fs ≡ gs → (b ≡ m → d ≡ n) → ScopeAnswers {A = Unit {0}} (λ x. d) r gs n
meant (Ok x) b m d n fs gs h e f = (sym e ∙ h.0, f h.1)
meant (Err (At a)) b m d n fs gs h e f = subst (λ (l : List Broken). IsFirstBroken l a) e h
meant (Err OutOfMemory) b m d n fs gs h e f = tt
