-- Which questions are asked of a name.
use Rattle.std.specs.Prelude.{◌≡◌, ℕ, List, [], Option, Some, None, slice_get}
use Rattle.std.specs.Option.{option_map_or}
use Rattle.vlog_tree.specs.declared.tree.Item.{Item}
use Rattle.tapa_base.specs.Lists.{Has}
use Rattle.vlog_tree.specs.Form.{ModuleTree}
use Rattle.vlog_tree.specs.Table.{Name}
use Rattle.vlog_tree.specs.Loops.{item_instances, port_of}
use Rattle.vlog_scope.specs.NameTable.{value_in}
use Rattle.number_graph.specs.Graphs.{targets_of}
use Rattle.vlog_net_graph.specs.Names.{texts}
use Rattle.vlog_comb_loops.specs.declared.suspects.Suspect.{Suspect}
use Rattle.vlog_comb_loops.specs.declared.questions.Questions.{Questions}

-- the index of a suspect, and the line of an instance in it, or none for the suspect's own names
abbrev pub Question : Type 0
Question = ℕ × Option ℕ

-- the questions of a name
abbrev pub asked_of : Questions → Name → List Question
asked_of q m = option_map_or (λ n. targets_of q.lists.items n) (value_in q.numbers m) []

-- no question is lost
abbrev pub Keeps : Questions → Questions → Type 0
Keeps old new = (m : Name) (e : Question) → Has (asked_of old m) e → Has (asked_of new m) e

-- each instance of some lines is noted under a name
abbrev pub NotesLines : (Name → Name → Name) → Questions → ℕ → List Item → Type 0
NotesLines key q at items = (j : ℕ) (item : Item) (m i : Name) → slice_get items j ≡ Some item → Has (item_instances item) (m, i) → Has (asked_of q (key m i)) (at, Some j)

-- the name of its module
abbrev pub AsksLines : Questions → ℕ → List Item → Type 0
AsksLines q at items = NotesLines (λ m i. m) q at items

-- its own name
abbrev pub NamesLines : Questions → ℕ → List Item → Type 0
NamesLines q at items = NotesLines (λ m i. i) q at items

-- each instance is noted under the name of its module
abbrev pub AreUses : List ModuleTree → Questions → Type 0
AreUses ms q = (at : ℕ) (k : ModuleTree) → slice_get ms at ≡ Some k → AsksLines q at k.items

-- those of some lines that have an instance ask of its port
abbrev pub AsksPort : Questions → ModuleTree → List Question → Name → Type 0
AsksPort q k lines x = (e : Question) (j : ℕ) (item : Item) (m i : Name) → Has lines e → e.1 ≡ Some j → slice_get k.items j ≡ Some item
    → Has (item_instances item) (m, i) → Has (asked_of q (port_of m x)) e

-- the names of a module's graph are asked for: its own, and those of ports of its instances
pub record Asks (q : Questions) (at : ℕ) (k : ModuleTree) (names : List Name) : Type 0 where
  pub own : (x : Name) → Has names x → Has (asked_of q (port_of k.name x)) (at, None)
  pub wires : (j : ℕ) (item : Item) (m i x : Name) → slice_get k.items j ≡ Some item → Has (item_instances item) (m, i) → Has names (port_of i x)
      → Has (asked_of q (port_of m x)) (at, Some j)

-- each suspect asks for the names of its module
abbrev pub AsksAll : List ModuleTree → List Suspect → Questions → Type 0
AsksAll ms suspects q = (at : ℕ) (s : Suspect) (k : ModuleTree) → slice_get suspects at ≡ Some s → slice_get ms s.place ≡ Some k → Asks q at k (texts s.graph.names.items)
