-- A task's module fits, is right, has the form of a module and no loop.
use Rattle.std.proofs.Common.{ap, ◌∙◌, ◌≡◌, Bool, true, List, [], ◌∷◌, ◌++◌, length, refl, sym, subst}
use Rattle.std.specs.Prelude.{Some}
use Rattle.std.specs.List.{flat_map, list_all, AllByRecursion}
use Rattle.vlog_tree.specs.Form.{ModuleTree}
use Rattle.vlog_tree.specs.Table.{Name, module_named}
use Rattle.vlog_tree.specs.declared.tree.Item.{Item}
use Rattle.vlog_tree.specs.V6.{item_children, module_children}
use Rattle.hw_build.specs.Elements.{Element, Instance, element_items, empty}
use Rattle.hw_build.proofs.Tables.{items_of_all}
use Rattle.hw_build.specs.Forms.{is_element}
use Rattle.hw_build.specs.Order.{child_names, RestsOnNoInput, ChildrenRestOnNoInput}
use Rattle.hw_build.proofs.Forms.{built_form}
use Rattle.hw_build.proofs.Right.{built_right}
use Rattle.hw_build.proofs.Free.{no_loop_of_registered}
use Rattle.hw_build.specs.Scope.{each, FitInOrder}
use Rattle.hw_build.specs.Fits.{IsAmong, FitAlone}
use Rattle.hw_build.proofs.Fit.{alone_fits}
use Rattle.hw_build.proofs.Form.{alone_has_form}
use Rattle.hw_build.proofs.Parts.{parts_fit}
use Rattle.hw_lines.specs.Shape.{Shape, shape_of, state_count}
use Rattle.hw_lines.specs.States.{state_wires, decoded}
use Rattle.hw_lines.specs.Texts.{inputs, held, offered, reads_of, read_numbers, choices, outputs, blocks, task_elements}
use Rattle.hw_task_laws.specs.names.Countable.{IsCountable}
use Rattle.hw_task_laws.proofs.names.Sorts.{names_once, nets_named, blocks_once}
use Rattle.hw_task_laws.proofs.fit.Scopes.{left_among, right_among, among_more}
use Rattle.hw_task_laws.specs.form.Form.{TasksFit, TasksAreFitting, TasksAreRight, TasksAreModules, TasksHaveNoChildren, TasksHaveNoLoop}
use Rattle.hw_task_laws.proofs.form.Task.{IsTask, is_task}
use Rattle.hw_task_laws.proofs.form.Asked.{reads_fit}
use Rattle.hw_task_laws.proofs.form.States.{inputs_fit, held_fits, decodes_fit, offers_fit, states_fit}
use Rattle.hw_task_laws.proofs.form.Entries.{AreBefore}
use Rattle.hw_task_laws.proofs.form.Parts.{choices_fit, outputs_fit, blocks_fit}

module _ (S : Shape) (T : IsTask S) where
  abbrev decodes : List Element
  decodes = each (decoded S) (state_count S)

  abbrev offers : List Element
  offers = each (offered S) (length S.streams)

  abbrev reads : List Element
  reads = each (reads_of S) (read_numbers S)

  abbrev states : List Element
  states = each (state_wires S) (state_count S)

  abbrev e2 : List Element
  e2 = inputs S ++ held S

  abbrev e3 : List Element
  e3 = e2 ++ decodes

  abbrev e4 : List Element
  e4 = e3 ++ offers

  abbrev e5 : List Element
  e5 = e4 ++ reads

  abbrev e6 : List Element
  e6 = e5 ++ states

  abbrev e7 : List Element
  e7 = e6 ++ choices S

  abbrev e8 : List Element
  e8 = e7 ++ outputs S

  fit_2 : FitInOrder [] e2
  fit_2 = parts_fit [] (inputs S) (held S) (inputs_fit S T) (held_fits S T (inputs S))

  held_2 : IsAmong (held S) e2
  held_2 = right_among (inputs S) (held S)

  ports_2 : IsAmong (inputs S) e2
  ports_2 = left_among (inputs S) (held S)

  fit_3 : FitInOrder [] e3
  fit_3 = parts_fit [] e2 decodes fit_2 (decodes_fit S T e2 held_2)

  held_3 : IsAmong (held S) e3
  held_3 = among_more (held S) e2 decodes held_2

  ports_3 : IsAmong (inputs S) e3
  ports_3 = among_more (inputs S) e2 decodes ports_2

  decodes_3 : IsAmong decodes e3
  decodes_3 = right_among e2 decodes

  fit_4 : FitInOrder [] e4
  fit_4 = parts_fit [] e3 offers fit_3 (offers_fit S T e3 ports_3)

  held_4 : IsAmong (held S) e4
  held_4 = among_more (held S) e3 offers held_3

  decodes_4 : IsAmong decodes e4
  decodes_4 = among_more decodes e3 offers decodes_3

  fit_5 : FitInOrder [] e5
  fit_5 = parts_fit [] e4 reads fit_4 (reads_fit S T e4 held_4 decodes_4 (read_numbers S))

  ports_5 : IsAmong (inputs S) e5
  ports_5 = among_more (inputs S) e4 reads (among_more (inputs S) e3 offers ports_3)

  held_5 : IsAmong (held S) e5
  held_5 = among_more (held S) e4 reads held_4

  decodes_5 : IsAmong decodes e5
  decodes_5 = among_more decodes e4 reads decodes_4

  offers_5 : IsAmong offers e5
  offers_5 = among_more offers e4 reads (right_among e3 offers)

  reads_5 : IsAmong reads e5
  reads_5 = right_among e4 reads

  fit_6 : FitInOrder [] e6
  fit_6 = parts_fit [] e5 states fit_5 (states_fit S T e5 ports_5 held_5 decodes_5 offers_5 reads_5)

  before_6 : AreBefore S e6
  before_6 = record {
    ports = among_more (inputs S) e5 states ports_5;
    kept = among_more (held S) e5 states held_5;
    decodes = among_more decodes e5 states decodes_5;
    offers = among_more offers e5 states offers_5;
    reads = among_more reads e5 states reads_5;
    states = right_among e5 states;
  }

  before_more : (all more : List Element) → AreBefore S all → AreBefore S (all ++ more)
  before_more all more b = record {
    ports = among_more (inputs S) all more b.ports;
    kept = among_more (held S) all more b.kept;
    decodes = among_more decodes all more b.decodes;
    offers = among_more offers all more b.offers;
    reads = among_more reads all more b.reads;
    states = among_more states all more b.states;
  }

  before_7 : AreBefore S e7
  before_7 = before_more e6 (choices S) before_6

  before_8 : AreBefore S e8
  before_8 = before_more e7 (outputs S) before_7

  fit_7 : FitInOrder [] e7
  fit_7 = parts_fit [] e6 (choices S) fit_6 (choices_fit S T e6 before_6)

  fit_8 : FitInOrder [] e8
  fit_8 = parts_fit [] e7 (outputs S) fit_7 (outputs_fit S T e7 before_7)

  pub elements_fit : FitInOrder [] (task_elements S)
  elements_fit = parts_fit [] e8 (blocks S) fit_8 (blocks_fit S T e8 before_8 (among_more (choices S) e7 (outputs S) (right_among e6 (choices S))))

-- ---- the module

pub tasks_fit : TasksFit
tasks_fit leaf machine is_leaf lowered c =
    let S = shape_of machine leaf.memories.items leaf.streams.items in
    record { order = elements_fit S (is_task leaf machine is_leaf lowered c); names = names_once S c; blocks = blocks_once S c }

pub tasks_are_fitting : TasksAreFitting
tasks_are_fitting leaf machine is_leaf lowered c ms = alone_fits ms (task_elements (shape_of machine leaf.memories.items leaf.streams.items)) (tasks_fit leaf machine is_leaf lowered c)

pub tasks_are_right : TasksAreRight
tasks_are_right leaf machine is_leaf lowered c ms title single =
    built_right ms title (task_elements (shape_of machine leaf.memories.items leaf.streams.items)) (tasks_are_fitting leaf machine is_leaf lowered c ms) single

pub in_form : (S : Shape) → IsCountable S → FitAlone (task_elements S) → list_all is_element (task_elements S) ≡ true
in_form S c f = alone_has_form (task_elements S) f (nets_named S c)

pub tasks_are_modules : TasksAreModules
tasks_are_modules leaf machine is_leaf lowered c title named =
    let S = shape_of machine leaf.memories.items leaf.streams.items in
    built_form title (task_elements S) named (in_form S c (tasks_fit leaf machine is_leaf lowered c))

-- no element is an instance
no_children : (before elements : List Element) → FitInOrder before elements → flat_map child_names elements ≡ []
no_children before [] h = refl
no_children before (Instance k i ls ∷ elements) h = absurd h.0
no_children before (e ∷ elements) h = no_children (before ++ e ∷ []) elements h.1

pub childless : (ms : List ModuleTree) (is_top : Name → Bool) (elements : List Element) → FitInOrder [] elements → ChildrenRestOnNoInput ms is_top elements
childless ms is_top elements h = subst (λ (l : List Name). AllByRecursion (λ kn. (k : ModuleTree) → module_named ms kn ≡ Some k → RestsOnNoInput ms is_top k) l) (sym (no_children [] elements h)) tt

no_inner : (before elements : List Element) → FitInOrder before elements → flat_map item_children (flat_map element_items elements) ≡ []
no_inner before [] h = refl
no_inner before (Instance k i ls ∷ elements) h = absurd h.0
no_inner before (e ∷ elements) h = no_inner (before ++ e ∷ []) elements h.1

pub tasks_have_no_children : TasksHaveNoChildren
unfolding module_children
tasks_have_no_children leaf machine is_leaf lowered c title =
    let S = shape_of machine leaf.memories.items leaf.streams.items in
    ap (λ (l : List Item). flat_map item_children l) (items_of_all (task_elements S) (empty title)) ∙ no_inner [] (task_elements S) (tasks_fit leaf machine is_leaf lowered c).order

pub tasks_have_no_loop : TasksHaveNoLoop
tasks_have_no_loop leaf machine is_leaf lowered c ms is_top title inner x rests =
    let S = shape_of machine leaf.memories.items leaf.streams.items in
    let f = tasks_fit leaf machine is_leaf lowered c in
    no_loop_of_registered ms is_top title (task_elements S) (tasks_are_fitting leaf machine is_leaf lowered c ms) (in_form S c f) inner (childless ms is_top (task_elements S) f.order) x rests
