-- The labels of a program's parts: made of the names of the source, and no two parts of one entity have the same.
use Rattle.std.specs.Prelude.{◌≡◌, ◌==◌, ◌||◌, List, map, ◌++◌, IsTrue}
use Rattle.std.specs.List.{list_all, AllByRecursion}
use Rattle.tapa_syntax.specs.declared.program.Memory.{Memory}
use Rattle.tapa_syntax.specs.declared.program.Scalar.{Scalar}
use Rattle.tapa_syntax.specs.declared.program.Stream.{Stream}
use Rattle.tapa_base.specs.Gaps.{Bytes, begins}
use Rattle.tapa_syntax.specs.Characters.{is_letter, is_word_byte}
use Rattle.tapa_syntax.specs.Flat.{FlatInstance, FlatLeaf, FlatProgram}
use Rattle.tapa_syntax.specs.OwnNames.{AreApart}

-- a name of a source (ISO C++ [lex.name]): a letter or `_`, and then letters, digits and `_`
pub record IsPlainName (x : Bytes) : Type 0 where
  pub first : IsTrue (begins is_letter x)
  pub all : IsTrue (list_all is_word_byte x)

-- a label: a letter or `_`, and then letters, digits, `_` and `$`
pub record IsLabel (x : Bytes) : Type 0 where
  pub first : IsTrue (begins is_letter x)
  pub all : IsTrue (list_all (λ b. is_word_byte b || b == 36) x)

abbrev pub instance_labels : FlatProgram → List Bytes
instance_labels program = map (λ (x : FlatInstance). x.label) program.instances

abbrev pub stream_labels : FlatProgram → List Bytes
stream_labels program = map (λ (s : Stream). s.label) program.streams

abbrev pub parameter_names : FlatProgram → List Bytes
parameter_names program = map (λ (c : Scalar). c.name) program.scalars ++ map (λ (m : Memory). m.name) program.memories

abbrev pub leaf_names : FlatProgram → List Bytes
leaf_names program = map (λ (l : FlatLeaf). l.name) program.bodies

-- the top task is named, and no leaf has its name
pub record IsNamedApart (program : FlatProgram) : Type 0 where
  pub written : IsPlainName program.top
  pub apart : AllByRecursion (λ x. program.top ≡ x → ⊥) (leaf_names program)

pub record HasOwnLabels (program : FlatProgram) : Type 0 where
  pub top : IsNamedApart program
  pub instances : AreApart (instance_labels program)
  pub streams : AreApart (stream_labels program)
  pub parameters : AreApart (parameter_names program)
  pub leaves : AreApart (leaf_names program)
  pub instances_written : AllByRecursion IsLabel (instance_labels program)
  pub streams_written : AllByRecursion IsLabel (stream_labels program)
  pub parameters_written : AllByRecursion IsPlainName (parameter_names program)
  pub leaves_written : AllByRecursion IsPlainName (leaf_names program)
