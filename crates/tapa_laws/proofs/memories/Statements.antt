-- The code of a legal leaf task stores in no memory that is const.
use Rattle.std.proofs.Common.{◌≡◌, ℕ, List, [], ◌∷◌, ◌++◌, length, map, Bool, true, false, not, ◌&&◌, Some, None, refl}
use Rattle.std.specs.Prelude.{Option, slice_get}
use Rattle.std.specs.List.{flat_map}
use Rattle.tapa_base.specs.declared.kind.Kind.{Kind}
use Rattle.tapa_base.specs.declared.kind.Kind.TheVariants as kind
use Rattle.tapa_base.specs.declared.op.Op.{Op}
use Rattle.tapa_base.specs.declared.text.Place.{Place}
use Rattle.tapa_base.specs.Kinds.{promoted}
use Rattle.tapa_syntax.specs.declared.tree.StepOperator.{StepOperator}
use Rattle.tapa_syntax.specs.declared.tree.AssignmentOperator.{AssignmentOperator}
use Rattle.tapa_syntax.specs.declared.tree.AssignmentOperator.TheVariants.{Plain, Compound}
use Rattle.tapa_syntax.specs.Trees as tree
use Rattle.tapa_syntax.specs.Trees.{ExpressionTree, PlaceTree, ActionTree, DeclaratorTree, StartTree, StatementTree, Statements}
use Rattle.tapa_syntax.specs.Flat as flat
use Rattle.tapa_syntax.specs.Flat.{FlatExpression, literal}
use Rattle.check_scope.specs.declared.fault.CheckCode.TheVariants.{C3}
use Rattle.check_scope.specs.declared.entity.Entity.{Entity}
use Rattle.check_scope.specs.declared.entity.Entity.TheVariants as entity
use Rattle.check_scope.specs.Faults.{fault, where_so, wrong_entity, name_faults}
use Rattle.check_scope.specs.Scopes.{Scope, entity_of, number_of, kind_of_entity, has_free_cells, is_input}
use Rattle.check_expression.specs.Expressions.{Method, reads, peeks, tests_end, writes, opens, closes, method_of, kind_of, value_of, wanted, faults_of, divisor_faults}
use Rattle.check_leaf.specs.Statements.{Frame, opened, closed, after_declarator, after_declarators, declarator_code, declarators_code}
use Rattle.check_leaf.specs.Statements.{place_kind, is_bool, Target, in_variable, in_cell, in_word, element_target, target_of, target_faults, index_faults}
use Rattle.check_leaf.specs.Statements.{changed_faults, place_faults, set_target, change_target, read_target, assigned, kind_of_target, step_op, stepped, is_increment}
use Rattle.check_leaf.specs.Statements.{assignment_divides, called, action_faults, action_code, after_start, start_faults, start_code, test_faults, test_of, next_faults, next_code}
use Rattle.check_leaf.specs.Statements.{in_head, after, statement_faults, statements_faults, code_of, codes_of}
use Rattle.stream_check.proofs.WellLists.{no_faults}
use Rattle.stream_check.proofs.WellPorts.{found, declare}
use Rattle.tapa_laws.specs.memories.Stores.{StoresAt, CodeStoresAt}
use Rattle.tapa_laws.proofs.memories.Stores.{code_joined, code_row}
use Rattle.tapa_laws.proofs.memories.Flags.{IsFree, IsFlagged, AreFlagged, flags_opened}

module _ (q : List Bool) where
  -- ---- targets of assignments

  abbrev IsFreeTarget : Target → Type 0
  IsFreeTarget (in_variable k n) = Unit {0}
  IsFreeTarget (in_cell k n i) = Unit {0}
  IsFreeTarget (in_word k n i) = IsFree q n

  free_memory : (b : Bool) (p : Place) (n : ℕ) → slice_get q n ≡ Some b → where_so (not b) (fault C3 p) ≡ [] → IsFree q n
  free_memory true p n h e = h
  free_memory false p n h e = absurd (cc)

  free_element : (x : List ℕ) (p : Place) (o : Option Entity) (i : FlatExpression) → ((s : Entity) → o ≡ Some s → IsFlagged q x s) → wrong_entity has_free_cells p o ≡ []
      → IsFreeTarget (element_target o i)
  free_element x p None i h e = tt
  free_element x p (Some (entity.Memory free k n)) i h e = free_memory free p n (h (entity.Memory free k n) refl) e
  free_element x p (Some (entity.Constant k n)) i h e = tt
  free_element x p (Some (entity.Variable free k n)) i h e = tt
  free_element x p (Some (entity.Array free k n)) i h e = tt
  free_element x p (Some (entity.Stream w k n)) i h e = tt
  free_element x p (Some (entity.Channel k n)) i h e = tt
  free_element x p (Some (entity.Task task_number)) i h e = tt

  free_target : (E : Scope) → AreFlagged q E → (b : Bool) (p : PlaceTree) → changed_faults E b p ≡ [] → IsFreeTarget (target_of E p)
  free_target E i b (tree.variable_place x) h = tt
  free_target E i b (tree.element_place x e) h =
      let p = tree.element_place x e in
      let bools = where_so (b && is_bool (place_kind E p)) (fault C3 x.place) in
      let first = no_faults (target_faults E p ++ bools) (index_faults E p) h in
      let named = no_faults (target_faults E p) bools first.0 in
      free_element x.text x.place (entity_of x.text E) (wanted E kind.U64 e) (found (IsFlagged q) x.text E i) named.0

  set_stores : (t : Target) (k : Kind) (e : FlatExpression) → IsFreeTarget t → StoresAt (IsFree q) (set_target t k e)
  set_stores (in_variable j n) k e h = tt
  set_stores (in_cell j n i) k e h = tt
  set_stores (in_word j n i) k e h = h

  change_stores : (t : Target) (o : Op) (k : Kind) (e : FlatExpression) → IsFreeTarget t → StoresAt (IsFree q) (change_target t o k e)
  change_stores (in_variable j n) o k e h = tt
  change_stores (in_cell j n i) o k e h = tt
  change_stores (in_word j n i) o k e h = h

  read_stores : (s : ℕ) (t : Target) → IsFreeTarget t → StoresAt (IsFree q) (read_target s t)
  read_stores s (in_variable j n) h = tt
  read_stores s (in_cell j n i) h = tt
  read_stores s (in_word j n i) h = h

  assigned_stores : (t : Target) (o : AssignmentOperator) (k : Kind) (e : FlatExpression) → IsFreeTarget t → StoresAt (IsFree q) (assigned t o k e)
  assigned_stores t Plain k e h = set_stores t k e h
  assigned_stores t (Compound o) k e h = change_stores t o k e h

  step_stores : (t : Target) (step : StepOperator) → IsFreeTarget t → StoresAt (IsFree q) (stepped t step)
  step_stores t step h = change_stores t (step_op step) (promoted (kind_of_target t)) (literal (promoted (kind_of_target t)) 1) h

  -- ---- actions

  called_stores : (E : Scope) (k : Kind) (s : ℕ) (m : Option Method) → StoresAt (IsFree q) (called E k s m)
  called_stores E k s None = tt
  called_stores E k s (Some reads) = tt
  called_stores E k s (Some peeks) = tt
  called_stores E k s (Some tests_end) = tt
  called_stores E k s (Some (writes e)) = tt
  called_stores E k s (Some opens) = tt
  called_stores E k s (Some closes) = tt

  written_stores : (E : Scope) (k : Kind) (s : ℕ) (es : List ExpressionTree) → CodeStoresAt (IsFree q) (map (λ e. flat.write s (wanted E k e)) es)
  written_stores E k s [] = tt
  written_stores E k s (e ∷ es) = (tt, written_stores E k s es)

  places_store : (E : Scope) → AreFlagged q E → (s : ℕ) (ps : List PlaceTree) → flat_map (place_faults E) ps ≡ [] → CodeStoresAt (IsFree q) (map (λ p. read_target s (target_of E p)) ps)
  places_store E i s [] h = tt
  places_store E i s (p ∷ ps) h =
      let f = no_faults (place_faults E p) (flat_map (place_faults E) ps) h in
      (read_stores s (target_of E p) (free_target E i false p f.0), places_store E i s ps f.1)

  action_stores : (E : Scope) → AreFlagged q E → (a : ActionTree) → action_faults E a ≡ [] → CodeStoresAt (IsFree q) (action_code E a)
  action_stores E i (tree.call_action s m es) h = (called_stores E (kind_of_entity (entity_of s.text E)) (number_of (entity_of s.text E)) (method_of m.text es), tt)
  action_stores E i (tree.write s es) h = written_stores E (kind_of_entity (entity_of s.text E)) (number_of (entity_of s.text E)) es
  action_stores E i (tree.read s ps) h = places_store E i (number_of (entity_of s.text E)) ps (no_faults (name_faults E is_input s) (flat_map (place_faults E) ps) h).1
  action_stores E i (tree.assign p o at e) h =
      let f = no_faults (place_faults E p ++ divisor_faults E (assignment_divides o) at e) (faults_of E false e) h in
      let g = no_faults (place_faults E p) (divisor_faults E (assignment_divides o) at e) f.0 in
      (assigned_stores (target_of E p) o (kind_of E e) (value_of E e) (free_target E i false p g.0), tt)
  action_stores E i (tree.postfix p step at) h = (step_stores (target_of E p) step (free_target E i (is_increment step) p h), tt)
  action_stores E i (tree.prefix_step step at p) h = (step_stores (target_of E p) step (free_target E i (is_increment step) p h), tt)

  -- ---- declarations

  declarator_stores : (k : Kind) (f : Frame) (d : DeclaratorTree) → StoresAt (IsFree q) (declarator_code k f d)
  declarator_stores k f (tree.plain x) = tt
  declarator_stores k f (tree.initialized x e) = tt
  declarator_stores k f (tree.array x count) = tt

  declarators_store : (free : Bool) (k : Kind) (f : Frame) (ds : List DeclaratorTree) → CodeStoresAt (IsFree q) (declarators_code free k f ds)
  declarators_store free k f [] = tt
  declarators_store free k f (d ∷ ds) = (declarator_stores k f d, declarators_store free k (after_declarator free k f d) ds)

  declarator_flags : (free : Bool) (k : Kind) (f : Frame) (d : DeclaratorTree) → AreFlagged q f.scope → AreFlagged q (after_declarator free k f d).scope
  declarator_flags free k f (tree.plain x) h = declare (IsFlagged q) x.text (entity.Variable free k (length f.vars)) f.scope h tt
  declarator_flags free k f (tree.initialized x e) h = declare (IsFlagged q) x.text (entity.Variable free k (length f.vars)) f.scope h tt
  declarator_flags free k f (tree.array x count) h = declare (IsFlagged q) x.text (entity.Array free k (length f.arrays)) f.scope h tt

  declarators_flags : (free : Bool) (k : Kind) (f : Frame) (ds : List DeclaratorTree) → AreFlagged q f.scope → AreFlagged q (after_declarators free k f ds).scope
  declarators_flags free k f [] h = h
  declarators_flags free k f (d ∷ ds) h = declarators_flags free k (after_declarator free k f d) ds (declarator_flags free k f d h)

  -- ---- heads of loops

  start_stores : (f : Frame) (s : StartTree) → AreFlagged q f.scope → start_faults f s ≡ [] → CodeStoresAt (IsFree q) (start_code f s)
  start_stores f tree.no_start i h = tt
  start_stores f (tree.declare_start d) i h = declarators_store (not d.constant) d.kind f d.names
  start_stores f (tree.act_start a) i h = action_stores f.scope i a h

  start_flags : (f : Frame) (s : StartTree) → AreFlagged q f.scope → AreFlagged q (after_start f s).scope
  start_flags f tree.no_start h = h
  start_flags f (tree.declare_start d) h = declarators_flags (not d.constant) d.kind f d.names h
  start_flags f (tree.act_start a) h = h

  next_stores : (E : Scope) → AreFlagged q E → (a : Option ActionTree) → next_faults E a ≡ [] → CodeStoresAt (IsFree q) (next_code E a)
  next_stores E i None h = tt
  next_stores E i (Some a) h = action_stores E i a h

  -- ---- statements

  after_flags : (f : Frame) (s : StatementTree) → AreFlagged q f.scope → AreFlagged q (after f s).scope
  after_flags f (tree.attributed attributes s) h = after_flags f s h
  after_flags f tree.empty h = h
  after_flags f (tree.block ss) h = h
  after_flags f (tree.declare d) h = declarators_flags (not d.constant) d.kind f d.names h
  after_flags f (tree.act a) h = h
  after_flags f (tree.if_only c s) h = h
  after_flags f (tree.if_else c s t) h = h
  after_flags f (tree.while c s) h = h
  after_flags f (tree.for head s) h = h
  after_flags f (tree.while_not_eot stream s) h = h
  after_flags f (tree.break at) h = h
  after_flags f (tree.continue at) h = h

  mutual
    statement_stores : (l : Bool) (f : Frame) (s : StatementTree) → AreFlagged q f.scope → statement_faults l f s ≡ [] → CodeStoresAt (IsFree q) (code_of f s)
    statement_stores l f (tree.attributed attributes s) i h = statement_stores l f s i h
    statement_stores l f tree.empty i h = tt
    statement_stores l f (tree.block ss) i h = statements_store l (opened f) ss (flags_opened q f.scope i) h
    statement_stores l f (tree.declare d) i h = declarators_store (not d.constant) d.kind f d.names
    statement_stores l f (tree.act a) i h = action_stores f.scope i a h
    statement_stores l f (tree.if_only c s) i h =
        let e = no_faults (faults_of f.scope false c) (statement_faults l (opened f) s) h in
        ((code_row (IsFree q) (code_of (opened f) s) (statement_stores l (opened f) s (flags_opened q f.scope i) e.1), tt), tt)
    statement_stores l f (tree.if_else c s t) i h =
        let k = closed f (after (opened f) s) in
        let e = no_faults (faults_of f.scope false c) (statement_faults l (opened f) s ++ statement_faults l (opened k) t) h in
        let g = no_faults (statement_faults l (opened f) s) (statement_faults l (opened k) t) e.1 in
        let yes = code_row (IsFree q) (code_of (opened f) s) (statement_stores l (opened f) s (flags_opened q f.scope i) g.0) in
        let no = code_row (IsFree q) (code_of (opened k) t) (statement_stores l (opened k) t (flags_opened q f.scope i) g.1) in
        ((yes, no), tt)
    statement_stores l f (tree.while c s) i h =
        let e = no_faults (faults_of f.scope false c) (statement_faults true (opened f) s) h in
        ((code_row (IsFree q) (code_of (opened f) s) (statement_stores true (opened f) s (flags_opened q f.scope i) e.1), tt), tt)
    statement_stores l f (tree.for head s) i h =
        let g = in_head f head in
        let start = start_faults (opened f) head.start in
        let test = test_faults g.scope head.test in
        let next = next_faults g.scope head.step in
        let e = no_faults (start ++ test ++ next) (statement_faults true (opened g) s) h in
        let d = no_faults (start ++ test) next e.0 in
        let u = no_faults start test d.0 in
        let j = start_flags (opened f) head.start (flags_opened q f.scope i) in
        let body = code_row (IsFree q) (code_of (opened g) s) (statement_stores true (opened g) s (flags_opened q g.scope j) e.1) in
        let step = code_row (IsFree q) (next_code g.scope head.step) (next_stores g.scope j head.step d.1) in
        code_joined (IsFree q) (start_code (opened f) head.start) (flat.loop (test_of g.scope head.test) (flat.in_row (code_of (opened g) s)) (flat.in_row (next_code g.scope head.step)) ∷ [])
        (start_stores (opened f) head.start (flags_opened q f.scope i) u.0)
        ((body, step), tt)
    statement_stores l f (tree.while_not_eot stream s) i h =
        let e = no_faults (name_faults f.scope is_input stream) (statement_faults true (opened f) s) h in
        ((code_row (IsFree q) (code_of (opened f) s) (statement_stores true (opened f) s (flags_opened q f.scope i) e.1), tt), tt)
    statement_stores l f (tree.break at) i h = (tt, tt)
    statement_stores l f (tree.continue at) i h = (tt, tt)

    pub statements_store : (l : Bool) (f : Frame) (ss : Statements) → AreFlagged q f.scope → statements_faults l f ss ≡ [] → CodeStoresAt (IsFree q) (codes_of f ss)
    statements_store l f tree.no_statement i h = tt
    statements_store l f (tree.statement_then s ss) i h =
        let e = no_faults (statement_faults l f s) (statements_faults l (after f s) ss) h in
        code_joined (IsFree q) (code_of f s) (codes_of (after f s) ss) (statement_stores l f s i e.0) (statements_store l (after f s) ss (after_flags f s i) e.1)
