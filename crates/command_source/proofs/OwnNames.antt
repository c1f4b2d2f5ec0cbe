-- The parts of the program of a source have names of their own, as the circuit of the program asks for.
use Rattle.std.proofs.Common.{◌≡◌, ℕ, Bool, true, false, ◌&&◌, ◌||◌, List, [], ◌∷◌, map, refl, sym, ap, subst, ◌∙◌}
use Rattle.std.specs.Prelude.{◌==◌, IsTrue}
use Rattle.std.specs.List.{list_all, AllByRecursion}
use Rattle.tapa_base.specs.Gaps.{Bytes, begins}
use Rattle.tapa_syntax.specs.Characters.{is_letter, is_word_byte}
use Rattle.tapa_syntax.specs.Flat.{FlatInstance, FlatLeaf, flat_instance, flat_leaf, flat_program}
use Rattle.tapa_syntax.specs.Trees.{file_of}
use Rattle.tapa_syntax.specs.declared.program.Instance.{Instance}
use Rattle.tapa_syntax.specs.declared.program.Leaf.{Leaf}
use Rattle.tapa_syntax.specs.declared.program.Program.{Program}
use Rattle.std.proofs.lemmas.Bool.{and_parts, or_left}
use Rattle.command_source.specs.Labels.{IsPlainName, IsLabel, HasOwnLabels}
use Rattle.command_source.proofs.Apart.{all_at, distinct, apart}
use Rattle.command_source.proofs.Sources.{labels_tell}
use Rattle.tapa_syntax.specs.OwnNames.{AreApart, AreWritten, HasOwnNames, instance_labels, stream_labels, parameter_names, task_names}
use Rattle.command_source.specs.Source.{IsProgramOfText, IsProgramOf}

-- ---- what a name is written with

all_true : (f g : ℕ → Bool) → ((b : ℕ) → f b ≡ true → g b ≡ true) → (xs : List ℕ) → list_all f xs ≡ true → list_all g xs ≡ true
all_true f g h [] a = refl
all_true f g h (x ∷ xs) a =
    let p = and_parts (f x) (list_all f xs) a in
    ap (λ b. b && list_all g xs) (h x p.0) ∙ all_true f g h xs p.1

not_empty : (x : Bytes) → IsTrue (begins is_letter x) → x ≡ [] → ⊥
not_empty [] h e = cc
not_empty (b ∷ x) h e = cc

label_written : (xs : List Bytes) → AllByRecursion IsLabel xs → AreWritten xs
label_written xs a p x e =
    let l = all_at IsLabel xs p x a e in
    (l.all, not_empty x l.first)

name_written : (xs : List Bytes) → AllByRecursion IsPlainName xs → AreWritten xs
name_written xs a p x e =
    let l = all_at IsPlainName xs p x a e in
    (all_true is_word_byte (λ b. is_word_byte b || b == 36) (λ b h. or_left (is_word_byte b) (b == 36) h) x l.all, not_empty x l.first)

-- ---- the names of a program are those of its plain data

instances_same : (xs : List Instance) → map (λ (x : FlatInstance). x.label) (map flat_instance xs) ≡ map (λ (x : Instance). x.label) xs
instances_same [] = refl
instances_same (x ∷ xs) = ap (λ l. x.label ∷ l) (instances_same xs)

leaves_same : (xs : List Leaf) → map (λ (x : FlatLeaf). x.name) (map flat_leaf xs) ≡ map (λ (x : Leaf). x.name) xs
leaves_same [] = refl
leaves_same (x ∷ xs) = ap (λ l. x.name ∷ l) (leaves_same xs)

of_flat : (program : Program) → HasOwnLabels (flat_program program) → HasOwnNames program
of_flat program h =
    let instances = instances_same program.instances.items in
    let leaves = leaves_same program.bodies.items in
    let far = subst (AllByRecursion (λ x. program.top ≡ x → ⊥)) leaves h.top.apart in
    let own = subst (λ l. AreApart l) leaves h.leaves in
    record {
      instances = subst (λ l. AreApart l) instances h.instances;
      streams = h.streams;
      parameters = h.parameters;
      tasks = apart (program.top ∷ map (λ (x : Leaf). x.name) program.bodies.items) (far, distinct (map (λ (x : Leaf). x.name) program.bodies.items) own);
      instances_written = label_written (instance_labels program) (subst (AllByRecursion IsLabel) instances h.instances_written);
      streams_written = label_written (stream_labels program) h.streams_written;
      parameters_written = name_written (parameter_names program) h.parameters_written;
      tasks_written = name_written (task_names program) (h.top.written, subst (AllByRecursion IsPlainName) leaves h.leaves_written);
    }

text_own_names : (text top : List ℕ) (program : Program) → IsProgramOfText text top program → HasOwnNames program
text_own_names text top program p =
    of_flat program (subst HasOwnLabels (sym p.means) (labels_tell text p.tree.lexemes (file_of p.file) top p.tree.are p.tree.spelled p.legal))

pub own_names : (text top : List ℕ) (program : Program) → IsProgramOf text top program → HasOwnNames program
own_names text top program p = text_own_names p.out top program p.means
