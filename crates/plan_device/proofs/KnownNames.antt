-- The names in a table after one more was put in.
use Rattle.std.proofs.Common.{◌≡◌, ℕ, ◌+◌, ◌<◌, List, map, length, take, get_or, Bool, true, false, cond, Option, Some, None, refl, sym, ap, ◌∙◌}
use Rattle.std.specs.Prelude.{◌||◌, bytes_eq, is_some, String}
use Rattle.std.specs.HashMap.{HashMap, get_by_text}
use Rattle.std.specs.Cmp.Lexicographic.{nat_list_eq_equiv}
use Rattle.std.proofs.lemmas.List.Folds.{list_any_more}
use Rattle.tapa_syntax.specs.declared.program.Instance.{Instance}
use Rattle.tapa_syntax.specs.declared.program.Leaf.{Leaf}
use Rattle.tapa_syntax.specs.declared.program.Program.{Program}
use Rattle.run_data.specs.Data.{is_among}
use Rattle.run_data.specs.Seen.{has_name}
use Rattle.plan_device.specs.Keys.{Names, names_of}
use Rattle.run_data.proofs.Names.{some_or}

abbrev pub of_lists : List (List ℕ) → List (List ℕ) → Names
of_lists tasks labels = record { tasks = tasks; labels = labels }

-- a table that has the first i names has one more
pub one_more : {X A S : Type 0} (old new : HashMap (String A) X S) (bs : List ℕ) (w : X) (names : List (List ℕ)) (i : ℕ) (entry : List ℕ) → bs ≡ entry → i < length names → entry ≡ get_or names i entry
    → (name : List ℕ) → get_by_text new name ≡ cond (bytes_eq bs name) (Some w) (get_by_text old name) → has_name old name ≡ is_among (take i names) name → has_name new name ≡ is_among (take (i + 1) names) name
one_more old new bs w names i entry same within is name step known =
    ap is_some step ∙ some_or (bytes_eq bs name) w (get_by_text old name)
    ∙ ap (λ b. b || bytes_eq bs name) known
    ∙ ap (λ b. is_among (take i names) name || b) (nat_list_eq_equiv.symm bs name ∙ ap (bytes_eq name) (same ∙ is))
    ∙ sym (list_any_more (bytes_eq name) names i entry within)

pub names_by : (program : Program) (tasks labels : List (List ℕ)) → tasks ≡ map (λ (leaf : Leaf). leaf.name) program.bodies.items → labels ≡ map (λ (x : Instance). x.label) program.instances.items → of_lists tasks labels ≡ names_of program
names_by program tasks labels is_tasks is_labels = ap (λ (l : List (List ℕ)). of_lists l labels) is_tasks ∙ ap (of_lists (map (λ (leaf : Leaf). leaf.name) program.bodies.items)) is_labels
