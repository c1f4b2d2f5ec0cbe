-- What is known of the instances that something is bound to.
use Rattle.std.proofs.Common.{◌≡◌, ◌<◌, ◌≤◌, ◌+◌, ℕ, zero, suc, List, [], ◌∷◌, ◌++◌, length, map, drop, get_or, Bool, false, refl, sym, ap, ◌∙◌, arith}
use Rattle.std.specs.Prelude.{slice_get}
use Rattle.tapa_syntax.specs.declared.program.End.{End}
use Rattle.tapa_syntax.specs.declared.program.Instance.{Instance}
use Rattle.tapa_syntax.specs.declared.tree.Parameter.{Parameter}
use Rattle.tapa_syntax.specs.declared.tree.Parameter.TheVariants as parameter
use Rattle.tapa_syntax.specs.Flat.{FlatInstance, flat_instance}
use Rattle.check_upper.specs.Tasks.{Task}
use Rattle.check_scope.specs.declared.users.Users.{Users}
use Rattle.check_scope.specs.declared.users.Users.TheVariants.{Nobody, One, Several}
use Rattle.check_scope.specs.Users.{with_user, with_users, users_of}
use Rattle.check_scope.proofs.Only.{one_only}
use Rattle.stream_check.specs.Programs.{ends_of, bound_ends, bound_memories, instances_at, instances_with, memory_of, is_detached, is_of_detached}
use Rattle.tapa_base.proofs.Got.{next_of as begins}

-- ---- whether what is bound to one instance is bound to one that is not waited for

pub one_detached : (is : List FlatInstance) (i : ℕ) (bound : List ℕ) → One i ≡ users_of bound → is_detached (slice_get is i) ≡ is_of_detached is bound
one_detached is i bound h = ap (is_of_detached is) (sym (one_only i bound h))

pub nobody_detached : (is : List FlatInstance) (bound : List ℕ) → Nobody ≡ users_of bound → false ≡ is_of_detached is bound
nobody_detached is [] h = refl
nobody_detached is (i ∷ []) h = absurd (cc)
nobody_detached is (i ∷ j ∷ rest) h = refl

pub several_detached : (is : List FlatInstance) (bound : List ℕ) → Several ≡ users_of bound → false ≡ is_of_detached is bound
several_detached is [] h = refl
several_detached is (i ∷ []) h = absurd (cc)
several_detached is (i ∷ j ∷ rest) h = refl

-- users of a list in two parts
pub with_append : (u : Users) (xs ys : List ℕ) → with_users u (xs ++ ys) ≡ with_users (with_users u xs) ys
with_append u [] ys = refl
with_append u (x ∷ xs) ys = with_append (with_user u x) xs ys

-- ---- lists that are gone through from the front

pub none_left : {A : Type 0} (i : ℕ) (xs : List A) → length xs ≤ i → drop i xs ≡ []
none_left zero [] h = refl
none_left zero (x ∷ xs) h = absurd (omega arith)
none_left (suc i) [] h = refl
none_left (suc i) (x ∷ xs) h = none_left i xs (omega arith)

no_ends : (i s : ℕ) (w : Bool) (xs : List ℕ) → bound_ends i s w xs [] ≡ []
no_ends i s w [] = refl
no_ends i s w (x ∷ xs) = refl

pub ends_end : (i p s : ℕ) (w : Bool) (streams : List ℕ) (ends : List End) (u : Users) → length ends ≤ p → with_users u (bound_ends i s w (drop p streams) (drop p ends)) ≡ u
ends_end i p s w streams ends u h = ap (λ es. with_users u (bound_ends i s w (drop p streams) es)) (none_left p ends h) ∙ ap (with_users u) (no_ends i s w (drop p streams))

pub same_ports : (u : Users) (i j s : ℕ) (w : Bool) (xs ys : List ℕ) (es fs : List End) → i ≡ j → xs ≡ ys → es ≡ fs → with_users u (bound_ends i s w xs es) ≡ with_users u (bound_ends j s w ys fs)
same_ports u i j s w xs ys es fs p q r = cc

pub same_memories : (u : Users) (i j m : ℕ) (xs ys : List ℕ) → i ≡ j → xs ≡ ys → with_users u (bound_memories i m xs) ≡ with_users u (bound_memories j m ys)
same_memories u i j m xs ys p q = cc

-- the instances from i on: that at i, and then those behind it
pub instances_next : (tasks : List Task) (s : ℕ) (w : Bool) (i : ℕ) (xs : List Instance) (x : Instance) (u v : Users) → i < length xs → x ≡ get_or xs i x → v ≡ with_users u (bound_ends i s w x.streams.items (ends_of (slice_get tasks x.body)))
    → with_users v (instances_at tasks s w (i + 1) (map flat_instance (drop (i + 1) xs))) ≡ with_users u (instances_at tasks s w i (map flat_instance (drop i xs)))
instances_next tasks s w i xs x u v h a q =
    ap (λ z. with_users z (instances_at tasks s w (i + 1) (map flat_instance (drop (i + 1) xs)))) q
    ∙ sym (with_append u (bound_ends i s w x.streams.items (ends_of (slice_get tasks x.body))) (instances_at tasks s w (i + 1) (map flat_instance (drop (i + 1) xs))))
    ∙ ap (λ ys. with_users u (instances_at tasks s w i (map flat_instance ys))) (sym (begins xs i x h a))

pub owners_next : (m i : ℕ) (xs : List Instance) (x : Instance) (u v : Users) → i < length xs → x ≡ get_or xs i x → v ≡ with_users u (bound_memories i m x.memories.items)
    → with_users v (instances_with m (i + 1) (map flat_instance (drop (i + 1) xs))) ≡ with_users u (instances_with m i (map flat_instance (drop i xs)))
owners_next m i xs x u v h a q =
    ap (λ z. with_users z (instances_with m (i + 1) (map flat_instance (drop (i + 1) xs)))) q
    ∙ sym (with_append u (bound_memories i m x.memories.items) (instances_with m (i + 1) (map flat_instance (drop (i + 1) xs))))
    ∙ ap (λ ys. with_users u (instances_with m i (map flat_instance ys))) (sym (begins xs i x h a))

pub few_memories : (instances : List FlatInstance) (m : ℕ) (p : Parameter) → length (memory_of instances m p) ≤ 1
few_memories instances m (parameter.Memory constant k x) = omega arith
few_memories instances m (parameter.Scalar constant k x) = omega arith
few_memories instances m (parameter.InputStream k x) = omega arith
few_memories instances m (parameter.OutputStream k x) = omega arith
