-- The leaves and the parameters of a program have names of tasks and of the top task's parameters.
use Rattle.std.proofs.Common.{◌≡◌, ◌+◌, ℕ, List, [], ◌∷◌, ◌++◌, map, Bool, true, false, refl, sym, subst}
use Rattle.std.specs.Prelude.{if◌then◌else◌}
use Rattle.std.specs.List.{AllByRecursion}
use Rattle.tapa_syntax.specs.declared.program.Memory.{Memory}
use Rattle.tapa_syntax.specs.declared.program.Scalar.{Scalar}
use Rattle.tapa_syntax.specs.declared.tree.Parameter.{Parameter}
use Rattle.tapa_syntax.specs.declared.tree.Parameter.TheVariants as parameter
use Rattle.tapa_base.specs.Gaps.{Bytes}
use Rattle.tapa_syntax.specs.Flat.{FlatInstance, FlatLeaf}
use Rattle.check_upper.specs.Tasks.{Body, leaf_body, upper_body, Task}
use Rattle.stream_check.specs.Programs.{memories_of, scalars_of, leaf_in, is_among, bodies_of}
use Rattle.command_source.specs.Named.{parameter_name}
use Rattle.command_source.proofs.Apart.{all_both, Avoids, Distinct, distinct_append}

-- ---- parameters

abbrev pub scalar_names : List Parameter → List Bytes
scalar_names ps = map (λ (c : Scalar). c.name) (scalars_of ps)

abbrev pub memory_names : List FlatInstance → ℕ → List Parameter → List Bytes
memory_names is m ps = map (λ (r : Memory). r.name) (memories_of is m ps)

pub scalars_all : (P : Bytes → Type 0) (ps : List Parameter) → AllByRecursion P (map parameter_name ps) → AllByRecursion P (scalar_names ps)
scalars_all P [] a = tt
scalars_all P (parameter.Scalar constant k x ∷ ps) a = (a.0, scalars_all P ps a.1)
scalars_all P (parameter.Memory constant k x ∷ ps) a = scalars_all P ps a.1
scalars_all P (parameter.InputStream k x ∷ ps) a = scalars_all P ps a.1
scalars_all P (parameter.OutputStream k x ∷ ps) a = scalars_all P ps a.1

pub memories_all : (P : Bytes → Type 0) (is : List FlatInstance) (m : ℕ) (ps : List Parameter) → AllByRecursion P (map parameter_name ps) → AllByRecursion P (memory_names is m ps)
memories_all P is m [] a = tt
memories_all P is m (parameter.Memory constant k x ∷ ps) a = (a.0, memories_all P is (m + 1) ps a.1)
memories_all P is m (parameter.Scalar constant k x ∷ ps) a = memories_all P is (m + 0) ps a.1
memories_all P is m (parameter.InputStream k x ∷ ps) a = memories_all P is (m + 0) ps a.1
memories_all P is m (parameter.OutputStream k x ∷ ps) a = memories_all P is (m + 0) ps a.1

scalars_distinct : (ps : List Parameter) → Distinct (map parameter_name ps) → Distinct (scalar_names ps)
scalars_distinct [] d = tt
scalars_distinct (parameter.Scalar constant k x ∷ ps) d = (scalars_all (λ y. x.text ≡ y → ⊥) ps d.0, scalars_distinct ps d.1)
scalars_distinct (parameter.Memory constant k x ∷ ps) d = scalars_distinct ps d.1
scalars_distinct (parameter.InputStream k x ∷ ps) d = scalars_distinct ps d.1
scalars_distinct (parameter.OutputStream k x ∷ ps) d = scalars_distinct ps d.1

memories_distinct : (is : List FlatInstance) (m : ℕ) (ps : List Parameter) → Distinct (map parameter_name ps) → Distinct (memory_names is m ps)
memories_distinct is m [] d = tt
memories_distinct is m (parameter.Memory constant k x ∷ ps) d = (memories_all (λ y. x.text ≡ y → ⊥) is (m + 1) ps d.0, memories_distinct is (m + 1) ps d.1)
memories_distinct is m (parameter.Scalar constant k x ∷ ps) d = memories_distinct is (m + 0) ps d.1
memories_distinct is m (parameter.InputStream k x ∷ ps) d = memories_distinct is (m + 0) ps d.1
memories_distinct is m (parameter.OutputStream k x ∷ ps) d = memories_distinct is (m + 0) ps d.1

-- no scalar has the name of a memory
scalars_avoid : (is : List FlatInstance) (m : ℕ) (ps : List Parameter) → Distinct (map parameter_name ps) → AllByRecursion (λ x. Avoids x (memory_names is m ps)) (scalar_names ps)
scalars_avoid is m [] d = tt
scalars_avoid is m (parameter.Scalar constant k x ∷ ps) d = (memories_all (λ y. x.text ≡ y → ⊥) is (m + 0) ps d.0, scalars_avoid is (m + 0) ps d.1)
scalars_avoid is m (parameter.Memory constant k x ∷ ps) d =
    all_both (λ y. x.text ≡ y → ⊥) (λ y. Avoids y (memory_names is (m + 1) ps)) (λ y. Avoids y (x.text ∷ memory_names is (m + 1) ps)) (λ y far a. (λ e. far (sym e), a)) (scalar_names ps)
    (scalars_all (λ y. x.text ≡ y → ⊥) ps d.0) (scalars_avoid is (m + 1) ps d.1)
scalars_avoid is m (parameter.InputStream k x ∷ ps) d = scalars_avoid is (m + 0) ps d.1
scalars_avoid is m (parameter.OutputStream k x ∷ ps) d = scalars_avoid is (m + 0) ps d.1

pub parameters_distinct : (is : List FlatInstance) (ps : List Parameter) → Distinct (map parameter_name ps) → Distinct (scalar_names ps ++ memory_names is 0 ps)
parameters_distinct is ps d = distinct_append (scalar_names ps) (memory_names is 0 ps) (scalars_distinct ps d) (memories_distinct is 0 ps d) (scalars_avoid is 0 ps d)

-- ---- leaves

abbrev pub task_names : List Task → List Bytes
task_names ts = map (λ (t : Task). t.declared.name.text) ts

abbrev pub leaf_names_of : List ℕ → ℕ → List Task → List Bytes
leaf_names_of numbers n ts = map (λ (l : FlatLeaf). l.name) (bodies_of numbers n ts)

-- a leaf has the name of its task
abbrev pub NamesLeaf : Task → Type 0
NamesLeaf t = (l : FlatLeaf) → t.body ≡ leaf_body l → l.name ≡ t.declared.name.text

-- of the leaf of a task, if it is used, and of those behind
abbrev first_leaf : Bool → Body → List FlatLeaf → List Bytes
first_leaf used b rest = map (λ (l : FlatLeaf). l.name) ((if used then leaf_in b else []) ++ rest)

leaf_all : (P : Bytes → Type 0) (t : Task) (used : Bool) (b : Body) (rest : List FlatLeaf) → t.body ≡ b → NamesLeaf t → P t.declared.name.text → AllByRecursion P (map (λ (l : FlatLeaf). l.name) rest) → AllByRecursion P (first_leaf used b rest)
leaf_all P t true (leaf_body l) rest e named p a = (subst P (sym (named l e)) p, a)
leaf_all P t true (upper_body channels invocations) rest e named p a = a
leaf_all P t false b rest e named p a = a

pub leaves_all : (P : Bytes → Type 0) (numbers : List ℕ) (n : ℕ) (ts : List Task) → AllByRecursion NamesLeaf ts → AllByRecursion P (task_names ts) → AllByRecursion P (leaf_names_of numbers n ts)
leaves_all P numbers n [] named a = tt
leaves_all P numbers n (t ∷ ts) named a = leaf_all P t (is_among n numbers) t.body (bodies_of numbers (n + 1) ts) refl named.0 a.0 (leaves_all P numbers (n + 1) ts named.1 a.1)

leaf_distinct : (t : Task) (used : Bool) (b : Body) (rest : List FlatLeaf) → t.body ≡ b → NamesLeaf t → Avoids t.declared.name.text (map (λ (l : FlatLeaf). l.name) rest) → Distinct (map (λ (l : FlatLeaf). l.name) rest) → Distinct (first_leaf used b rest)
leaf_distinct t true (leaf_body l) rest e named far d = (subst (λ x. Avoids x (map (λ (l : FlatLeaf). l.name) rest)) (sym (named l e)) far, d)
leaf_distinct t true (upper_body channels invocations) rest e named far d = d
leaf_distinct t false b rest e named far d = d

pub leaves_distinct : (numbers : List ℕ) (n : ℕ) (ts : List Task) → AllByRecursion NamesLeaf ts → Distinct (task_names ts) → Distinct (leaf_names_of numbers n ts)
leaves_distinct numbers n [] named d = tt
leaves_distinct numbers n (t ∷ ts) named d =
    leaf_distinct t (is_among n numbers) t.body (bodies_of numbers (n + 1) ts) refl named.0
    (leaves_all (λ y. t.declared.name.text ≡ y → ⊥) numbers (n + 1) ts named.1 d.0) (leaves_distinct numbers (n + 1) ts named.1 d.1)

-- what holds of each leaf that a task of a list is
own_leaf : (Q : Bytes → Type 0) (t : Task) (used : Bool) (b : Body) (rest : List FlatLeaf) → t.body ≡ b → ((l : FlatLeaf) → t.body ≡ leaf_body l → Q l.name) → AllByRecursion Q (map (λ (l : FlatLeaf). l.name) rest) → AllByRecursion Q (first_leaf used b rest)
own_leaf Q t true (leaf_body l) rest e f a = (f l e, a)
own_leaf Q t true (upper_body channels invocations) rest e f a = a
own_leaf Q t false b rest e f a = a

pub leaves_by : (Q : Bytes → Type 0) (numbers : List ℕ) (n : ℕ) (ts : List Task) → AllByRecursion (λ (t : Task). (l : FlatLeaf) → t.body ≡ leaf_body l → Q l.name) ts → AllByRecursion Q (leaf_names_of numbers n ts)
leaves_by Q numbers n [] a = tt
leaves_by Q numbers n (t ∷ ts) a = own_leaf Q t (is_among n numbers) t.body (bodies_of numbers (n + 1) ts) refl a.0 (leaves_by Q numbers (n + 1) ts a.1)
