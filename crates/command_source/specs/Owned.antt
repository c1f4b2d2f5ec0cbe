-- The tasks of a legal file: which of their names are apart.
use Rattle.std.specs.Prelude.{◌≡◌, ℕ, List, map, Some, slice_get}
use Rattle.std.specs.List.{AllByRecursion}
use Rattle.tapa_syntax.specs.Flat.{FlatLeaf}
use Rattle.check_upper.specs.declared.task.Channel.{Channel}
use Rattle.check_upper.specs.Tasks.{Invocation, Task, leaf_body, upper_body}
use Rattle.command_source.specs.Labels.{IsPlainName}
use Rattle.tapa_syntax.specs.OwnNames.{AreApart}
use Rattle.command_source.specs.Named.{parameter_name}

-- what holds of the tasks of a legal file whose names are names
pub record HaveOwnNames (tasks : List Task) : Type 0 where
  pub names : AllByRecursion (λ (t : Task). IsPlainName t.declared.name.text) tasks
  pub apart : AreApart (map (λ (t : Task). t.declared.name.text) tasks)
  pub parameters : (n : ℕ) (t : Task) → slice_get tasks n ≡ Some t → AllByRecursion IsPlainName (map parameter_name t.declared.parameters)
  pub parameters_apart : (n : ℕ) (t : Task) → slice_get tasks n ≡ Some t → AreApart (map parameter_name t.declared.parameters)
  pub streams : (n : ℕ) (t : Task) (channels : List Channel) (invocations : List Invocation) → slice_get tasks n ≡ Some t → t.body ≡ upper_body channels invocations
      → AllByRecursion IsPlainName (map (λ (c : Channel). c.name) channels)
  pub streams_apart : (n : ℕ) (t : Task) (channels : List Channel) (invocations : List Invocation) → slice_get tasks n ≡ Some t
      → t.body ≡ upper_body channels invocations → AreApart (map (λ (c : Channel). c.name) channels)
  pub leaves : (n : ℕ) (t : Task) (l : FlatLeaf) → slice_get tasks n ≡ Some t → t.body ≡ leaf_body l → l.name ≡ t.declared.name.text
