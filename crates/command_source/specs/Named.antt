-- The names that a file declares for its tasks, their parameters and their streams.
use Rattle.std.specs.Prelude.{List}
use Rattle.std.specs.List.{AllByRecursion}
use Rattle.tapa_syntax.specs.declared.tree.Name.{Name}
use Rattle.tapa_syntax.specs.declared.tree.Parameter.{Parameter}
use Rattle.tapa_syntax.specs.declared.tree.Parameter.TheVariants as parameter
use Rattle.tapa_base.specs.Gaps.{Bytes}
use Rattle.tapa_syntax.specs.Trees.{BodyTree, leaf, upper, StreamTree, TaskTree, ItemTree, constant, task}
use Rattle.command_source.specs.Labels.{IsPlainName}

abbrev pub parameter_name : Parameter → Bytes
parameter_name (parameter.InputStream kind x) = x.text
parameter_name (parameter.OutputStream kind x) = x.text
parameter_name (parameter.Memory is_const kind x) = x.text
parameter_name (parameter.Scalar is_const kind x) = x.text

abbrev pub NamesStreams : BodyTree → Type 0
NamesStreams (leaf ss) = Unit {0}
NamesStreams (upper streams invocations) = AllByRecursion (λ (s : StreamTree). AllByRecursion (λ (x : Name). IsPlainName x.text) s.names) streams

pub record IsNamedTask (t : TaskTree) : Type 0 where
  pub name : IsPlainName t.name.text
  pub parameters : AllByRecursion (λ (p : Parameter). IsPlainName (parameter_name p)) t.parameters
  pub streams : NamesStreams t.body

abbrev pub IsNamedItem : ItemTree → Type 0
IsNamedItem (constant attributes k x e) = Unit {0}
IsNamedItem (task t) = IsNamedTask t

-- the names of a file's tasks, of their parameters and of their streams are names
abbrev pub AreNamed : List ItemTree → Type 0
AreNamed items = AllByRecursion IsNamedItem items
