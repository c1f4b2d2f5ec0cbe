-- The variables of a task's frame stay where they are.
use Rattle.std.proofs.Common.{◌≡◌, ℕ, List, [], ◌∷◌, not, Some}
use Rattle.std.specs.Prelude.{slice_get}
use Rattle.tapa_base.specs.declared.kind.Kind.{Kind}
use Rattle.tapa_syntax.specs.Trees as tree
use Rattle.tapa_syntax.specs.Trees.{StatementTree, Statements, DeclarationTree, DeclaratorTree, StartTree}
use Rattle.check_leaf.specs.Statements.{Frame, opened, closed, after_declarator, after_declarators, after_declaration, after_start, in_head, after, after_all}
use Rattle.tapa_base.proofs.Got.{got_left as get_left}

abbrev pub HasVariable : Frame → ℕ → Kind → Type 0
HasVariable f v k = slice_get f.vars v ≡ Some k

after_one : (free : _) (k : Kind) (f : Frame) (d : DeclaratorTree) (v : ℕ) (j : Kind) → HasVariable f v j → HasVariable (after_declarator free k f d) v j
after_one free k f (tree.plain x) v j h = get_left f.vars (k ∷ []) v j h
after_one free k f (tree.initialized x e) v j h = get_left f.vars (k ∷ []) v j h
after_one free k f (tree.array x count) v j h = h

after_each : (free : _) (k : Kind) (f : Frame) (ds : List DeclaratorTree) (v : ℕ) (j : Kind) → HasVariable f v j → HasVariable (after_declarators free k f ds) v j
after_each free k f [] v j h = h
after_each free k f (d ∷ ds) v j h = after_each free k (after_declarator free k f d) ds v j (after_one free k f d v j h)

after_declared : (f : Frame) (d : DeclarationTree) (v : ℕ) (j : Kind) → HasVariable f v j → HasVariable (after_declaration f d) v j
after_declared f d v j h = after_each (not d.constant) d.kind f d.names v j h

after_started : (f : Frame) (s : StartTree) (v : ℕ) (j : Kind) → HasVariable f v j → HasVariable (after_start f s) v j
after_started f tree.no_start v j h = h
after_started f (tree.declare_start d) v j h = after_declared f d v j h
after_started f (tree.act_start a) v j h = h

mutual
  after_statement : (f : Frame) (s : StatementTree) (v : ℕ) (j : Kind) → HasVariable f v j → HasVariable (after f s) v j
  after_statement f (tree.attributed attributes s) v j h = after_statement f s v j h
  after_statement f tree.empty v j h = h
  after_statement f (tree.block ss) v j h = after_statements (opened f) ss v j h
  after_statement f (tree.declare d) v j h = after_declared f d v j h
  after_statement f (tree.act a) v j h = h
  after_statement f (tree.if_only c s) v j h = after_statement (opened f) s v j h
  after_statement f (tree.if_else c s t) v j h = after_statement (opened (closed f (after (opened f) s))) t v j (after_statement (opened f) s v j h)
  after_statement f (tree.while c s) v j h = after_statement (opened f) s v j h
  after_statement f (tree.for head s) v j h = after_statement (opened (in_head f head)) s v j (after_started (opened f) head.start v j h)
  after_statement f (tree.while_not_eot stream s) v j h = after_statement (opened f) s v j h
  after_statement f (tree.break at) v j h = h
  after_statement f (tree.continue at) v j h = h

  pub after_statements : (f : Frame) (ss : Statements) (v : ℕ) (j : Kind) → HasVariable f v j → HasVariable (after_all f ss) v j
  after_statements f tree.no_statement v j h = h
  after_statements f (tree.statement_then s ss) v j h = after_statements (after f s) ss v j (after_statement f s v j h)
