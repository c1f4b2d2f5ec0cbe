-- The rules of the statements of a leaf task, and what they mean in the flat program (ISO C++ [stmt.stmt], [expr.ass];
-- TAPA, streams).
use Rattle.std.specs.Prelude.{ℕ, ◌+◌, List, [], ◌∷◌, ◌++◌, length, map, Bool, true, false, not, ◌&&◌, Option, Some, None, nat_le, nat_lt}
use Rattle.std.specs.List.{flat_map}
use Rattle.tapa_base.specs.declared.kind.Kind.{Kind}
use Rattle.tapa_base.specs.declared.kind.Kind.TheVariants as kind
use Rattle.tapa_base.specs.declared.op.Op.{Op}
use Rattle.tapa_base.specs.declared.op.Op.TheVariants as op
use Rattle.tapa_base.specs.declared.text.Place.{Place}
use Rattle.tapa_base.specs.Kinds.{promoted}
use Rattle.tapa_syntax.specs.declared.program.Array.{Array}
use Rattle.tapa_syntax.specs.declared.tree.Name.{Name}
use Rattle.tapa_syntax.specs.declared.tree.StepOperator.{StepOperator}
use Rattle.tapa_syntax.specs.declared.tree.StepOperator.TheVariants.{Increment, Decrement}
use Rattle.tapa_syntax.specs.declared.tree.AssignmentOperator.{AssignmentOperator}
use Rattle.tapa_syntax.specs.declared.tree.AssignmentOperator.TheVariants.{Plain, Compound}
use Rattle.tapa_syntax.specs.declared.tree.BinaryOperator.TheVariants.{Value}
use Rattle.tapa_syntax.specs.Trees as tree
use Rattle.tapa_syntax.specs.Trees.{ExpressionTree, PlaceTree, ActionTree, DeclaratorTree, DeclarationTree, StartTree, HeadTree, StatementTree, Statements}
use Rattle.tapa_syntax.specs.Typed.{right_kind}
use Rattle.tapa_syntax.specs.Flat as flat
use Rattle.tapa_syntax.specs.Flat.{FlatExpression, FlatStatement, FlatStatements, literal, variable, set, set_cell, set_cell_by, store, store_by, read_variable, read_cell}
use Rattle.tapa_syntax.specs.Flat.{read_store, take_end, put_end, discard, clear, branch, loop, in_row}
use Rattle.check_scope.specs.declared.fault.CheckCode.TheVariants.{C3}
use Rattle.check_scope.specs.declared.entity.Entity.{Entity}
use Rattle.check_scope.specs.declared.entity.Entity.TheVariants as entity
use Rattle.check_scope.specs.Scopes.{Scope, entity_of, declaring, kind_of_entity, number_of, is_free_variable, has_free_cells, is_output, is_input}
use Rattle.check_scope.specs.declared.fault.Broken.{Broken}
use Rattle.check_scope.specs.Faults.{fault, over, where_so, name_faults, doubled}
use Rattle.check_expression.specs.Expressions.{Method, peeks, tests_end, writes, opens, closes, method_of, call_faults, kind_of, value_of, wanted, as_kind, binary_kind}
use Rattle.check_expression.specs.Expressions.{operated, operated_kind, faults_of, divides, divisor_faults}
use Rattle.check_expression.specs.Counts.{count_of, count_faults}

-- What a task has declared before a statement: the names in scope, and the kinds of its variables and its arrays so
-- far, which are numbered in order of declaration.
pub record Frame : Type 0 where
  pub scope : Scope
  pub vars : List Kind
  pub arrays : List Array

-- a block begins in a frame
abbrev pub opened : Frame → Frame
opened f = record { scope = f.scope ++ [] ∷ []; vars = f.vars; arrays = f.arrays }

-- after a block the names are those before it, and numbers go on
abbrev pub closed : Frame → Frame → Frame
closed f g = record { scope = f.scope; vars = g.vars; arrays = g.arrays }

-- ---- declarations

-- C11: a task has at most 1,024 variables
abbrev pub variable_faults : Frame → Name → List Broken
variable_faults f x = doubled f.scope x ++ where_so (nat_le 1024 (length f.vars)) (over 1024 x.place)

-- one declaration more
abbrev pub with_name : List ℕ → Entity → Frame → Frame
with_name x s f = record { scope = declaring x s f.scope; vars = f.vars; arrays = f.arrays }

abbrev pub with_variable : Bool → Kind → Name → Frame → Frame
with_variable free k x f = record { scope = declaring x.text (entity.Variable free k (length f.vars)) f.scope; vars = f.vars ++ k ∷ []; arrays = f.arrays }

abbrev pub with_array : Bool → Kind → Name → ℕ → Frame → Frame
with_array free k x cells f =
    record { scope = declaring x.text (entity.Array free k (length f.arrays)) f.scope; vars = f.vars; arrays = f.arrays ++ record { kind = k; cells = cells } ∷ [] }

-- the cells of all arrays
abbrev pub all_cells : List Array → ℕ
all_cells [] = 0
all_cells (a ∷ rest) = a.cells + all_cells rest

-- C11: the arrays of a task have at most 65,536 cells in all
abbrev pub array_faults : Frame → ℕ → Place → List Broken
array_faults f cells place = where_so (nat_lt 65536 (all_cells f.arrays + cells)) (over 65536 place)

abbrev pub declarator_faults : Frame → DeclaratorTree → List Broken
declarator_faults f (tree.plain x) = variable_faults f x
declarator_faults f (tree.initialized x e) = variable_faults f x ++ faults_of f.scope false e
declarator_faults f (tree.array x count) = doubled f.scope x ++ count_faults f.scope count ++ array_faults f (count_of f.scope count) count.place

-- a name is in scope from the end of its initialiser on
abbrev pub after_declarator : Bool → Kind → Frame → DeclaratorTree → Frame
after_declarator free k f (tree.plain x) = with_variable free k x f
after_declarator free k f (tree.initialized x e) = with_variable free k x f
after_declarator free k f (tree.array x count) = with_array free k x (count_of f.scope count) f

-- a variable without initialiser is 0, and so is each cell of an array
abbrev pub declarator_code : Kind → Frame → DeclaratorTree → FlatStatement
declarator_code k f (tree.plain x) = set (length f.vars) (literal k 0)
declarator_code k f (tree.initialized x e) = set (length f.vars) (wanted f.scope k e)
declarator_code k f (tree.array x count) = clear (length f.arrays)

abbrev pub after_declarators : Bool → Kind → Frame → List DeclaratorTree → Frame
after_declarators free k f [] = f
after_declarators free k f (d ∷ rest) = after_declarators free k (after_declarator free k f d) rest

abbrev pub declarators_faults : Bool → Kind → Frame → List DeclaratorTree → List Broken
declarators_faults free k f [] = []
declarators_faults free k f (d ∷ rest) = declarator_faults f d ++ declarators_faults free k (after_declarator free k f d) rest

abbrev pub declarators_code : Bool → Kind → Frame → List DeclaratorTree → List FlatStatement
declarators_code free k f [] = []
declarators_code free k f (d ∷ rest) = declarator_code k f d ∷ declarators_code free k (after_declarator free k f d) rest

abbrev pub after_declaration : Frame → DeclarationTree → Frame
after_declaration f d = after_declarators (not d.constant) d.kind f d.names

abbrev pub declaration_faults : Frame → DeclarationTree → List Broken
declaration_faults f d = declarators_faults (not d.constant) d.kind f d.names

abbrev pub declaration_code : Frame → DeclarationTree → List FlatStatement
declaration_code f d = declarators_code (not d.constant) d.kind f d.names

-- ---- targets of assignments

abbrev pub place_name : PlaceTree → Name
place_name (tree.variable_place x) = x
place_name (tree.element_place x e) = x

abbrev pub place_kind : Scope → PlaceTree → Kind
place_kind E p = kind_of_entity (entity_of (place_name p).text E)

-- C3: what is assigned is a variable, a cell or a stored word, and not const
abbrev pub target_faults : Scope → PlaceTree → List Broken
target_faults E (tree.variable_place x) = name_faults E is_free_variable x
target_faults E (tree.element_place x e) = name_faults E has_free_cells x

abbrev pub index_faults : Scope → PlaceTree → List Broken
index_faults E (tree.variable_place x) = []
index_faults E (tree.element_place x e) = faults_of E false e

abbrev pub is_bool : Kind → Bool
is_bool kind.Bool = true
is_bool k = false

-- C3: ++ is not for bool (ISO C++17 [expr.pre.incr])
abbrev pub changed_faults : Scope → Bool → PlaceTree → List Broken
changed_faults E increment p = target_faults E p ++ where_so (increment && is_bool (place_kind E p)) (fault C3 (place_name p).place) ++ index_faults E p

abbrev pub place_faults : Scope → PlaceTree → List Broken
place_faults E p = changed_faults E false p

abbrev pub is_increment : StepOperator → Bool
is_increment Increment = true
is_increment Decrement = false

abbrev pub step_faults : Scope → StepOperator → PlaceTree → List Broken
step_faults E step p = changed_faults E (is_increment step) p

-- ---- assignments: of a value of some kind

-- what is assigned, with its kind and its number, and for a cell of an array or a word of a memory its index
pub data Target : Type 0 where
  in_variable : Kind → ℕ → Target
  in_cell : Kind → ℕ → FlatExpression → Target
  in_word : Kind → ℕ → FlatExpression → Target

abbrev pub element_target : Option Entity → FlatExpression → Target
element_target (Some (entity.Memory free k n)) i = in_word k n i
element_target entity i = in_cell (kind_of_entity entity) (number_of entity) i

abbrev pub target_of : Scope → PlaceTree → Target
target_of E (tree.variable_place x) = in_variable (kind_of_entity (entity_of x.text E)) (number_of (entity_of x.text E))
target_of E (tree.element_place x i) = element_target (entity_of x.text E) (wanted E kind.U64 i)

abbrev pub set_target : Target → Kind → FlatExpression → FlatStatement
set_target (in_variable j n) k e = set n (as_kind k j e)
set_target (in_cell j n i) k e = set_cell n i (as_kind k j e)
set_target (in_word j n i) k e = store n i (as_kind k j e)

-- x op= e is x = x op e, with the index of x evaluated once
abbrev pub change_target : Target → Op → Kind → FlatExpression → FlatStatement
change_target (in_variable j n) o k e = set n (as_kind (binary_kind (Value o) j k) j (operated o j k (variable n) e))
change_target (in_cell j n i) o k e = set_cell_by n i o (operated_kind o j k) (as_kind k (right_kind o (operated_kind o j k)) e)
change_target (in_word j n i) o k e = store_by n i o (operated_kind o j k) (as_kind k (right_kind o (operated_kind o j k)) e)

abbrev pub read_target : ℕ → Target → FlatStatement
read_target s (in_variable j n) = read_variable s n
read_target s (in_cell j n i) = read_cell s n i
read_target s (in_word j n i) = read_store s n i

abbrev pub assigned : Target → AssignmentOperator → Kind → FlatExpression → FlatStatement
assigned t Plain k e = set_target t k e
assigned t (Compound o) k e = change_target t o k e

abbrev pub step_op : StepOperator → Op
step_op Increment = op.Add
step_op Decrement = op.Sub

abbrev pub kind_of_target : Target → Kind
kind_of_target (in_variable k n) = k
kind_of_target (in_cell k n i) = k
kind_of_target (in_word k n i) = k

-- ++x is x = x + 1 with a 1 of the promoted kind
abbrev pub stepped : Target → StepOperator → FlatStatement
stepped t step = change_target t (step_op step) (promoted (kind_of_target t)) (literal (promoted (kind_of_target t)) 1)

abbrev pub assignment_divides : AssignmentOperator → Bool
assignment_divides Plain = false
assignment_divides (Compound o) = divides (Value o)

-- ---- actions

-- the value that a method is given
abbrev pub given_faults : Scope → Option Method → List Broken
given_faults E (Some (writes e)) = faults_of E false e
given_faults E method = []

abbrev pub called : Scope → Kind → ℕ → Option Method → FlatStatement
called E k s (Some peeks) = discard (flat.peek s)
called E k s (Some tests_end) = discard (flat.is_end s)
called E k s (Some (writes e)) = flat.write s (wanted E k e)
called E k s (Some opens) = take_end s
called E k s (Some closes) = put_end s
called E k s method = discard (flat.read s)

abbrev pub action_faults : Scope → ActionTree → List Broken
action_faults E (tree.call_action s m es) = call_faults (entity_of s.text E) (method_of m.text es) s m ++ given_faults E (method_of m.text es)
action_faults E (tree.write s es) = name_faults E is_output s ++ flat_map (faults_of E false) es
action_faults E (tree.read s places) = name_faults E is_input s ++ flat_map (place_faults E) places
action_faults E (tree.assign p o at e) = place_faults E p ++ divisor_faults E (assignment_divides o) at e ++ faults_of E false e
action_faults E (tree.postfix p step at) = step_faults E step p
action_faults E (tree.prefix_step step at p) = step_faults E step p

abbrev pub action_code : Scope → ActionTree → List FlatStatement
action_code E (tree.call_action s m es) = called E (kind_of_entity (entity_of s.text E)) (number_of (entity_of s.text E)) (method_of m.text es) ∷ []
action_code E (tree.write s es) = map (λ e. flat.write (number_of (entity_of s.text E)) (wanted E (kind_of_entity (entity_of s.text E)) e)) es
action_code E (tree.read s places) = map (λ p. read_target (number_of (entity_of s.text E)) (target_of E p)) places
action_code E (tree.assign p o at e) = assigned (target_of E p) o (kind_of E e) (value_of E e) ∷ []
action_code E (tree.postfix p step at) = stepped (target_of E p) step ∷ []
action_code E (tree.prefix_step step at p) = stepped (target_of E p) step ∷ []

-- ---- loops

abbrev pub after_start : Frame → StartTree → Frame
after_start f tree.no_start = f
after_start f (tree.declare_start d) = after_declaration f d
after_start f (tree.act_start a) = f

abbrev pub start_faults : Frame → StartTree → List Broken
start_faults f tree.no_start = []
start_faults f (tree.declare_start d) = declaration_faults f d
start_faults f (tree.act_start a) = action_faults f.scope a

abbrev pub start_code : Frame → StartTree → List FlatStatement
start_code f tree.no_start = []
start_code f (tree.declare_start d) = declaration_code f d
start_code f (tree.act_start a) = action_code f.scope a

abbrev pub test_faults : Scope → Option ExpressionTree → List Broken
test_faults E None = []
test_faults E (Some e) = faults_of E false e

-- a for without a test goes on
abbrev pub test_of : Scope → Option ExpressionTree → FlatExpression
test_of E None = literal kind.Bool 1
test_of E (Some e) = wanted E kind.Bool e

abbrev pub next_faults : Scope → Option ActionTree → List Broken
next_faults E None = []
next_faults E (Some a) = action_faults E a

abbrev pub next_code : Scope → Option ActionTree → List FlatStatement
next_code E None = []
next_code E (Some a) = action_code E a

-- the head of a for is a block that has the body within it
abbrev pub in_head : Frame → HeadTree → Frame
in_head f head = after_start (opened f) head.start

abbrev pub head_faults : Frame → HeadTree → List Broken
head_faults f head = start_faults (opened f) head.start ++ test_faults (in_head f head).scope head.test ++ next_faults (in_head f head).scope head.step

-- ---- statements; each substatement is a block of its own (ISO C++ [stmt.select], [stmt.iter])

abbrev mutual
  pub after : Frame → StatementTree → Frame
  after f (tree.attributed attributes s) = after f s
  after f (tree.block ss) = closed f (after_all (opened f) ss)
  after f (tree.declare d) = after_declaration f d
  after f (tree.if_only c s) = closed f (after (opened f) s)
  after f (tree.if_else c s t) = closed f (after (opened (closed f (after (opened f) s))) t)
  after f (tree.while c s) = closed f (after (opened f) s)
  after f (tree.for head s) = closed f (after (opened (in_head f head)) s)
  after f (tree.while_not_eot stream s) = closed f (after (opened f) s)
  after f _ = f

  pub after_all : Frame → Statements → Frame
  after_all f tree.no_statement = f
  after_all f (tree.statement_then s ss) = after_all (after f s) ss

-- C3: break and continue are in a loop (ISO C++ [stmt.break], [stmt.cont])
abbrev pub jump_faults : Bool → Place → List Broken
jump_faults in_loop at = where_so (not in_loop) (fault C3 at)

abbrev mutual
  -- the faults of a statement in the order of the text; l says whether it is in a loop
  pub statement_faults : Bool → Frame → StatementTree → List Broken
  statement_faults l f (tree.attributed attributes s) = statement_faults l f s
  statement_faults l f tree.empty = []
  statement_faults l f (tree.block ss) = statements_faults l (opened f) ss
  statement_faults l f (tree.declare d) = declaration_faults f d
  statement_faults l f (tree.act a) = action_faults f.scope a
  statement_faults l f (tree.if_only c s) = faults_of f.scope false c ++ statement_faults l (opened f) s
  statement_faults l f (tree.if_else c s t) = faults_of f.scope false c ++ (statement_faults l (opened f) s ++ statement_faults l (opened (closed f (after (opened f) s))) t)
  statement_faults l f (tree.while c s) = faults_of f.scope false c ++ statement_faults true (opened f) s
  statement_faults l f (tree.for head s) = head_faults f head ++ statement_faults true (opened (in_head f head)) s
  statement_faults l f (tree.while_not_eot stream s) = name_faults f.scope is_input stream ++ statement_faults true (opened f) s
  statement_faults l f (tree.break at) = jump_faults l at
  statement_faults l f (tree.continue at) = jump_faults l at

  pub statements_faults : Bool → Frame → Statements → List Broken
  statements_faults l f tree.no_statement = []
  statements_faults l f (tree.statement_then s ss) = statement_faults l f s ++ statements_faults l (after f s) ss

abbrev mutual
  pub code_of : Frame → StatementTree → List FlatStatement
  code_of f (tree.attributed attributes s) = code_of f s
  code_of f tree.empty = []
  code_of f (tree.block ss) = codes_of (opened f) ss
  code_of f (tree.declare d) = declaration_code f d
  code_of f (tree.act a) = action_code f.scope a
  code_of f (tree.if_only c s) = branch (wanted f.scope kind.Bool c) (in_row (code_of (opened f) s)) (in_row []) ∷ []
  code_of f (tree.if_else c s t) = branch (wanted f.scope kind.Bool c) (in_row (code_of (opened f) s)) (in_row (code_of (opened (closed f (after (opened f) s))) t)) ∷ []
  code_of f (tree.while c s) = loop (wanted f.scope kind.Bool c) (in_row (code_of (opened f) s)) (in_row []) ∷ []
  code_of f (tree.for head s) =
      start_code (opened f) head.start
      ++ loop (test_of (in_head f head).scope head.test) (in_row (code_of (opened (in_head f head)) s)) (in_row (next_code (in_head f head).scope head.step)) ∷ []
  code_of f (tree.while_not_eot stream s) = loop (flat.negation (flat.is_end (number_of (entity_of stream.text f.scope)))) (in_row (code_of (opened f) s)) (in_row []) ∷ []
  code_of f (tree.break at) = flat.break ∷ []
  code_of f (tree.continue at) = flat.continue ∷ []

  pub codes_of : Frame → Statements → List FlatStatement
  codes_of f tree.no_statement = []
  codes_of f (tree.statement_then s ss) = code_of f s ++ codes_of (after f s) ss
