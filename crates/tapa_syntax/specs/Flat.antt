-- The flat program as plain data: numbers, names and lists, without where they lie in memory.
use Rattle.std.specs.Prelude.{ℕ, Bool, List, [], ◌∷◌, map}
use Rattle.tapa_base.specs.declared.kind.Kind.{Kind}
use Rattle.tapa_base.specs.declared.op.Op.{Op}
use Rattle.tapa_syntax.specs.declared.program.Array.{Array}
use Rattle.tapa_syntax.specs.declared.program.Bound.{Bound}
use Rattle.tapa_syntax.specs.declared.program.Bound.TheVariants as bound
use Rattle.tapa_syntax.specs.declared.program.End.{End}
use Rattle.tapa_syntax.specs.declared.program.Expr.{Expr}
use Rattle.tapa_syntax.specs.declared.program.Expr.TheVariants.{Lit, Var, Cell', Read, Peek, Eot, Load', Conv', Apply', Flip', Not', And', Or', Choose'}
use Rattle.tapa_syntax.specs.declared.program.Instance.{Instance}
use Rattle.tapa_syntax.specs.declared.program.Leaf.{Leaf}
use Rattle.tapa_syntax.specs.declared.program.Memory.{Memory}
use Rattle.tapa_syntax.specs.declared.program.Program.{Program}
use Rattle.tapa_syntax.specs.declared.program.Scalar.{Scalar}
use Rattle.tapa_syntax.specs.declared.program.Stmt.{Stmt, Row_of-Stmt, end_of-Stmt, more_of-Stmt}
use Rattle.tapa_syntax.specs.declared.program.Stmt.TheVariants.{Set, SetCell, SetCellBy, Store, StoreBy, ReadVar, ReadCell, ReadStore, Write, Open, Close, Discard, Clear, If', Loop', Break, Continue}
use Rattle.tapa_syntax.specs.declared.program.Stream.{Stream}

-- ---- expressions

pub data FlatExpression : Type 0 where
  literal : Kind → ℕ → FlatExpression
  variable : ℕ → FlatExpression
  cell : ℕ → FlatExpression → FlatExpression
  read : ℕ → FlatExpression
  peek : ℕ → FlatExpression
  is_end : ℕ → FlatExpression
  load : ℕ → FlatExpression → FlatExpression
  convert : Kind → Kind → FlatExpression → FlatExpression
  apply : Op → Kind → FlatExpression → FlatExpression → FlatExpression
  flip : Kind → FlatExpression → FlatExpression
  negation : FlatExpression → FlatExpression
  conjunction : FlatExpression → FlatExpression → FlatExpression
  disjunction : FlatExpression → FlatExpression → FlatExpression
  choice : FlatExpression → FlatExpression → FlatExpression → FlatExpression

abbrev pub flat_expression : Expr → FlatExpression
flat_expression (Lit kind n) = literal kind n
flat_expression (Var x) = variable x
flat_expression (Cell' a p e) = cell a (flat_expression e)
flat_expression (Read s) = read s
flat_expression (Peek s) = peek s
flat_expression (Eot s) = is_end s
flat_expression (Load' m p e) = load m (flat_expression e)
flat_expression (Conv' from to p e) = convert from to (flat_expression e)
flat_expression (Apply' op kind p l q r) = apply op kind (flat_expression l) (flat_expression r)
flat_expression (Flip' kind p e) = flip kind (flat_expression e)
flat_expression (Not' p e) = negation (flat_expression e)
flat_expression (And' p l q r) = conjunction (flat_expression l) (flat_expression r)
flat_expression (Or' p l q r) = disjunction (flat_expression l) (flat_expression r)
flat_expression (Choose' p e q a r b) = choice (flat_expression e) (flat_expression a) (flat_expression b)

-- ---- statements

mutual
  pub data FlatStatement : Type 0 where
    set : ℕ → FlatExpression → FlatStatement
    set_cell : ℕ → FlatExpression → FlatExpression → FlatStatement
    set_cell_by : ℕ → FlatExpression → Op → Kind → FlatExpression → FlatStatement
    store : ℕ → FlatExpression → FlatExpression → FlatStatement
    store_by : ℕ → FlatExpression → Op → Kind → FlatExpression → FlatStatement
    read_variable : ℕ → ℕ → FlatStatement
    read_cell : ℕ → ℕ → FlatExpression → FlatStatement
    read_store : ℕ → ℕ → FlatExpression → FlatStatement
    write : ℕ → FlatExpression → FlatStatement
    take_end : ℕ → FlatStatement
    put_end : ℕ → FlatStatement
    discard : FlatExpression → FlatStatement
    clear : ℕ → FlatStatement
    branch : FlatExpression → FlatStatements → FlatStatements → FlatStatement
    -- the test, the body, the step
    loop : FlatExpression → FlatStatements → FlatStatements → FlatStatement
    break : FlatStatement
    continue : FlatStatement

  pub data FlatStatements : Type 0 where
    no_statement : FlatStatements
    statement_then : FlatStatement → FlatStatements → FlatStatements

abbrev mutual
  pub flat_statement : Stmt → FlatStatement
  flat_statement (Set x e) = set x (flat_expression e)
  flat_statement (SetCell a i e) = set_cell a (flat_expression i) (flat_expression e)
  flat_statement (SetCellBy a i op kind e) = set_cell_by a (flat_expression i) op kind (flat_expression e)
  flat_statement (Store m i e) = store m (flat_expression i) (flat_expression e)
  flat_statement (StoreBy m i op kind e) = store_by m (flat_expression i) op kind (flat_expression e)
  flat_statement (ReadVar s x) = read_variable s x
  flat_statement (ReadCell s a i) = read_cell s a (flat_expression i)
  flat_statement (ReadStore s m i) = read_store s m (flat_expression i)
  flat_statement (Write s e) = write s (flat_expression e)
  flat_statement (Open s) = take_end s
  flat_statement (Close s) = put_end s
  flat_statement (Discard e) = discard (flat_expression e)
  flat_statement (Clear a) = clear a
  flat_statement (If' e p left q right) = branch (flat_expression e) (flat_row left) (flat_row right)
  flat_statement (Loop' e p body q step) = loop (flat_expression e) (flat_row body) (flat_row step)
  flat_statement Break = break
  flat_statement Continue = continue

  pub flat_row : {m : _} → Row_of-Stmt m → FlatStatements
  flat_row end_of-Stmt = no_statement
  flat_row (more_of-Stmt s rest) = statement_then (flat_statement s) (flat_row rest)

-- the statements of a list, in a row
abbrev pub in_row : List FlatStatement → FlatStatements
in_row [] = no_statement
in_row (s ∷ ss) = statement_then s (in_row ss)

-- ---- leaves, instances, programs

pub record FlatLeaf : Type 0 where
  pub name : List ℕ
  pub scalars : List ℕ
  pub streams : List End
  pub memories : List Kind
  pub vars : List Kind
  pub arrays : List Array
  pub code : List FlatStatement

abbrev pub flat_leaf : Leaf → FlatLeaf
flat_leaf l = record {
  name = l.name;
  scalars = l.scalars.items;
  streams = l.streams.items;
  memories = l.memories.items;
  vars = l.vars.items;
  arrays = l.arrays.items;
  code = map flat_statement l.code.items;
}

pub data FlatBound : Type 0 where
  number : ℕ → FlatBound
  top_scalar : ℕ → List Kind → FlatBound

abbrev pub flat_bound : Bound → FlatBound
flat_bound (bound.Number n) = number n
flat_bound (bound.Top x kinds) = top_scalar x kinds.items

pub record FlatInstance : Type 0 where
  pub label : List ℕ
  pub body : ℕ
  pub detached : Bool
  pub scalars : List FlatBound
  pub streams : List ℕ
  pub memories : List ℕ

abbrev pub flat_instance : Instance → FlatInstance
flat_instance i = record {
  label = i.label;
  body = i.body;
  detached = i.detached;
  scalars = map flat_bound i.scalars.items;
  streams = i.streams.items;
  memories = i.memories.items;
}

pub record FlatProgram : Type 0 where
  pub top : List ℕ
  pub scalars : List Scalar
  pub memories : List Memory
  pub bodies : List FlatLeaf
  pub instances : List FlatInstance
  pub streams : List Stream

abbrev pub flat_program : Program → FlatProgram
flat_program p = record {
  top = p.top;
  scalars = p.scalars.items;
  memories = p.memories.items;
  bodies = map flat_leaf p.bodies.items;
  instances = map flat_instance p.instances.items;
  streams = p.streams.items;
}
