-- The labels of the program of a legal source tell its parts apart.
use Rattle.std.proofs.Common.{◌≡◌, ℕ, List, []}
use Rattle.tapa_syntax.specs.declared.lexeme.Lexeme.{Lexeme}
use Rattle.tapa_syntax.specs.Grammar.{IsTreeOf}
use Rattle.tapa_syntax.specs.Lexemes.{HasLexemes}
use Rattle.tapa_syntax.specs.Symbols.{symbols_of}
use Rattle.tapa_syntax.specs.Trees.{ItemTree}
use Rattle.check_upper.specs.Tasks.{task_position}
use Rattle.stream_check.specs.Items.{no_items, items_faults, tasks_of}
use Rattle.stream_check.specs.Programs.{all_levels, program_faults, program_of, whole_faults}
use Rattle.stream_check.proofs.WellLists.{no_faults}
use Rattle.command_source.specs.Labels.{HasOwnLabels}
use Rattle.command_source.proofs.Declared.{legal_names}
use Rattle.command_source.proofs.Invoked.{legal_tasks_invoke}
use Rattle.command_source.proofs.Parts.{tasks_labelled}
use Rattle.command_source.proofs.Spelled.{spelled_names}

pub labels_tell : (text : List ℕ) (lexemes : List Lexeme) (items : List ItemTree) (top : List ℕ) → HasLexemes text lexemes → IsTreeOf (symbols_of text lexemes) items → program_faults items top ≡ [] → HasOwnLabels (program_of items top)
labels_tell text lexemes items top l t f =
    let p = no_faults (items_faults no_items items) (whole_faults all_levels (tasks_of items) (task_position 0 top (tasks_of items))) f in
    let names = legal_names items p.0 (spelled_names text lexemes items l t) in
    tasks_labelled all_levels (tasks_of items) (task_position 0 top (tasks_of items)) names (legal_tasks_invoke (symbols_of text lexemes) items t p.0) p.1
