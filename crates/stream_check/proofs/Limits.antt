-- Parts that are added in turn.
use Rattle.std.proofs.Common.{◌≡◌, ◌+◌, ℕ, suc, List, [], ◌∷◌, ◌++◌, length, refl, sym, ap, subst, ◌∙◌, append_assoc, length-append, arith}
use Rattle.std.specs.Prelude.{Err, Result, nat_le}
use Rattle.check_scope.specs.Answers.{ScopeAnswers}
use Rattle.check_scope.specs.declared.fault.Broken.{Broken}
use Rattle.check_scope.specs.declared.fault.CheckFault.{CheckFault}
use Rattle.check_scope.specs.Faults.{over, where_so}
use Rattle.stream_check.specs.Parts.{Part, own, instance, too_deep, streams_in, instances_in, followed}
use Rattle.stream_check.specs.Programs.{limit_faults, most_levels}
use Rattle.stream_check.specs.Views.{Flat, flat_faults, with_parts}
use Rattle.check_scope.proofs.Order.{refuses}

streams_both : (p q : List Part) → streams_in (p ++ q) ≡ streams_in p ++ streams_in q
streams_both [] q = refl
streams_both (own c ∷ p) q = ap (λ cs. c ∷ cs) (streams_both p q)
streams_both (instance at x ∷ p) q = streams_both p q
streams_both (too_deep at ∷ p) q = streams_both p q

instances_both : (p q : List Part) → instances_in (p ++ q) ≡ instances_in p ++ instances_in q
instances_both [] q = refl
instances_both (own c ∷ p) q = instances_both p q
instances_both (instance at x ∷ p) q = ap (λ xs. x ∷ xs) (instances_both p q)
instances_both (too_deep at ∷ p) q = instances_both p q

at_counts : (s t i j : ℕ) (q : List Part) → s ≡ t → i ≡ j → limit_faults s i q ≡ limit_faults t j q
at_counts s t i j q h k = ap (λ n. limit_faults n i q) h ∙ ap (λ n. limit_faults t n q) k

-- the faults of some parts, and of those behind them
faults_both : (s i : ℕ) (p q : List Part) → limit_faults s i (p ++ q) ≡ limit_faults s i p ++ limit_faults (s + length (streams_in p)) (i + length (instances_in p)) q
faults_both s i [] q = at_counts s (s + 0) i (i + 0) q (omega arith) (omega arith)
faults_both s i (own c ∷ p) q =
    let first = where_so (nat_le 1024 s) (over 1024 c.place) in
    ap (λ l. first ++ l) (faults_both (s + 1) i p q ∙ ap (λ l. limit_faults (s + 1) i p ++ l) (at_counts (s + 1 + length (streams_in p)) (s + suc (length (streams_in p))) _ _ q (omega arith) refl))
    ∙ sym (append_assoc first (limit_faults (s + 1) i p) _)
faults_both s i (instance at x ∷ p) q =
    let first = where_so (nat_le 512 i) (over 512 at) in
    ap (λ l. first ++ l) (faults_both s (i + 1) p q ∙ ap (λ l. limit_faults s (i + 1) p ++ l) (at_counts _ _ (i + 1 + length (instances_in p)) (i + suc (length (instances_in p))) q refl (omega arith)))
    ∙ sym (append_assoc first (limit_faults s (i + 1) p) _)
faults_both s i (too_deep at ∷ p) q = ap (λ l. over most_levels at ++ l) (faults_both s i p q) ∙ sym (append_assoc (over most_levels at) (limit_faults s i p) _)

with_both : (f : Flat) (p q : List Part) → with_parts f (p ++ q) ≡ with_parts (with_parts f p) q
with_both f p q =
    let a = streams_both p q in
    let b = instances_both p q in
    let d = append_assoc f.streams (streams_in p) (streams_in q) in
    let e = append_assoc f.instances (instances_in p) (instances_in q) in
    cc

-- parts that pass no limit, and more behind them
pub faults_go : (f g : Flat) (p : List Part) (more : ℕ → List Part) → flat_faults f p ≡ [] → g ≡ with_parts f p → flat_faults f (followed (length f.streams) p more) ≡ flat_faults g (more (length g.streams))
faults_go f g p more h k =
    let s : length f.streams + length (streams_in p) ≡ length g.streams = sym (ap (λ (x : Flat). length x.streams) k ∙ length-append f.streams (streams_in p)) in
    let i : length f.instances + length (instances_in p) ≡ length g.instances = sym (ap (λ (x : Flat). length x.instances) k ∙ length-append f.instances (instances_in p)) in
    let q = more (length f.streams + length (streams_in p)) in
    faults_both (length f.streams) (length f.instances) p q
    ∙ ap (λ l. l ++ limit_faults (length f.streams + length (streams_in p)) (length f.instances + length (instances_in p)) q) h
    ∙ at_counts _ _ _ _ q s i
    ∙ ap (λ n. flat_faults g (more n)) s

pub parts_go : (f g : Flat) (p : List Part) (more : ℕ → List Part) → g ≡ with_parts f p → with_parts f (followed (length f.streams) p more) ≡ with_parts g (more (length g.streams))
parts_go f g p more k =
    let s : length f.streams + length (streams_in p) ≡ length g.streams = sym (ap (λ (x : Flat). length x.streams) k ∙ length-append f.streams (streams_in p)) in
    with_both f p (more (length f.streams + length (streams_in p)))
    ∙ ap (λ n. with_parts (with_parts f p) (more n)) s
    ∙ ap (λ (x : Flat). with_parts x (more (length g.streams))) (sym k)

-- parts of which one passes a limit, and more behind them
pub parts_stop : {B D : Type 0} (e : CheckFault) (f : Flat) (p : List Part) (more : ℕ → List Part) (all : List Broken) (m : B) (n : D) → ScopeAnswers {A = Unit {0}} (λ x. m) (Err e) (flat_faults f p) m → all ≡ flat_faults f (followed (length f.streams) p more) → ScopeAnswers {A = Unit {0}} (λ x. n) (Err e) all n
parts_stop e f p more all m n h k = refuses e all (flat_faults f p) _ m n h (k ∙ faults_both (length f.streams) (length f.instances) p (more (length f.streams + length (streams_in p))))

-- what is added to parts that were added is added to those before them
pub adds_on : {A : Type 0} (view : A → Flat) (r : Result A CheckFault) (f g : Flat) (p q : List Part) → flat_faults f p ≡ flat_faults g q → with_parts f p ≡ with_parts g q → ScopeAnswers view r (flat_faults g q) (with_parts g q) → ScopeAnswers view r (flat_faults f p) (with_parts f p)
adds_on view r f g p q h k a = subst (λ (l : List Broken). ScopeAnswers view r l (with_parts f p)) (sym h) (subst (λ m. ScopeAnswers view r (flat_faults g q) m) (sym k) a)
