-- A source has one graph.
use Rattle.std.specs.Prelude.{◌≡◌, List, ℕ}
use Rattle.tapa_syntax.specs.declared.program.Program.{Program}
use Rattle.tapa_syntax.specs.Flat.{flat_program}
use Rattle.task_graph.specs.declared.Graph.{Graph}
use Rattle.task_graph.specs.Programs.{IsGraphOf}
use Rattle.command_source.specs.Source.{IsProgramOf}

-- two graphs are one as plain data: where their lists lie in memory is no matter
pub record AreAlikeGraphs (one other : Graph) : Type 0 where
  pub labels : one.labels.items ≡ other.labels.items
  pub group : one.group.items ≡ other.group.items
  pub groups : one.groups ≡ other.groups
  pub uses : one.uses.items ≡ other.uses.items
  pub edges : one.edges.items ≡ other.edges.items

-- the graphs of programs that are one as plain data are one
abbrev pub ProgramsHaveOneGraph : Type 0
ProgramsHaveOneGraph = (p q : Program) (g h : Graph) → flat_program p ≡ flat_program q → IsGraphOf p g → IsGraphOf q h → AreAlikeGraphs g h

-- the graphs of a source are one
abbrev pub SourcesHaveOneGraph : Type 0
SourcesHaveOneGraph = (text top : List ℕ) (p q : Program) (g h : Graph) → IsProgramOf text top p → IsProgramOf text top q → IsGraphOf p g → IsGraphOf q h → AreAlikeGraphs g h
