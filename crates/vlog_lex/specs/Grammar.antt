-- The grammar of the subset (IEEE 1364-2005, annex A, cut down to what the subset has). Each part says which words spell a tree,
-- from a position in the list of words to a later one. It neither prints nor reads.
use Rattle.std.specs.Prelude.{◌≡◌, ℕ, ◌+◌, List, [], ◌∷◌, ◌++◌, codes, if◌then◌else◌}
use Rattle.vlog_tree.specs.declared.tree.Atom.{Atom}
use Rattle.vlog_tree.specs.declared.tree.Atom.TheVariants.{Net, Part as PartSelect, Literal}
use Rattle.vlog_tree.specs.declared.tree.BinaryOp.{BinaryOp}
use Rattle.vlog_tree.specs.declared.tree.BinaryOp.TheVariants.{Plus, Minus, Times, Divide, Remainder, And, Or, Xor, ShiftLeft, ShiftRight, Equals, Differs, Less}
use Rattle.vlog_tree.specs.declared.tree.Value.{Value}
use Rattle.vlog_tree.specs.declared.tree.Value.TheVariants.{Plain, Invert, Binary, Choose, Concat, Repeat, Cell}
use Rattle.vlog_tree.specs.declared.tree.Step.{Step}
use Rattle.vlog_tree.specs.declared.tree.Step.TheVariants.{If, Else, End, NonblockingAssign, MemoryAssign}
use Rattle.vlog_tree.specs.declared.tree.Connection.{Connection}
use Rattle.vlog_tree.specs.declared.tree.Item.{Item}
use Rattle.vlog_tree.specs.declared.tree.Item.TheVariants.{Wire, Reg, Memory, Assign, Always, Instance}
use Rattle.vlog_tree.specs.declared.tree.PortDecl.{PortDecl}
use Rattle.vlog_tree.specs.Form.{ModuleTree, is_input}
use Rattle.vlog_tree.specs.Names.{IsName}
use Rattle.vlog_tree.specs.Spelling.{Word}
use Rattle.tapa_base.specs.Spans.{◌⨾◌, ◌∣◌, Nothing, Is, Each, EachOfSome, Separated, Given}
use Rattle.vlog_lex.specs.Spans.{Part, Takes, SeparatedTwo}
use Rattle.vlog_lex.specs.Numerals.{IsNumber, IsLiteral}
use Rattle.tapa_base.specs.Gaps.{Bytes}
use Rattle.vlog_lex.specs.Lexemes.{HasWords}

-- ---- names and numbers

-- a name, which is no keyword (3.7, 3.7.2)
abbrev pub SpellsName : List ℕ → Part
SpellsName x i j = IsName x × Takes x i j

-- a number, as the bounds of a range have (3.5.1)
abbrev pub SpellsNumber : ℕ → Part
SpellsNumber n = Is (IsNumber n)

-- the last of n bits or cells, which are counted from 0: the number n - 1; there is no last of none
abbrev pub SpellsLastOf : ℕ → Part
SpellsLastOf n i j = (last : ℕ) × (n ≡ last + 1) × SpellsNumber last i j

-- the range of a vector (4.3), which is left out or not at one bit
abbrev pub SpellsRange : ℕ → Part
SpellsRange bits = Given (bits ≡ 1) Nothing ∣ Takes (codes "[") ⨾ SpellsLastOf bits ⨾ Takes (codes ":") ⨾ Takes (codes "0") ⨾ Takes (codes "]")

-- ---- atoms and values (clause 5)

-- a net, a part of one (5.2.1) or a literal (3.5.1)
abbrev pub SpellsAtom : Atom → Part
SpellsAtom (Net x) = SpellsName x
SpellsAtom (PartSelect x high low) = SpellsName x ⨾ Takes (codes "[") ⨾ SpellsNumber high ⨾ Takes (codes ":") ⨾ SpellsNumber low ⨾ Takes (codes "]")
SpellsAtom (Literal width value) = Is (IsLiteral width value)

-- the operators on two atoms (5.1)
abbrev pub SpellsOperator : BinaryOp → Part
SpellsOperator Plus = Takes (codes "+")
SpellsOperator Minus = Takes (codes "-")
SpellsOperator Times = Takes (codes "*")
SpellsOperator Divide = Takes (codes "/")
SpellsOperator Remainder = Takes (codes "%")
SpellsOperator And = Takes (codes "&")
SpellsOperator Or = Takes (codes "|")
SpellsOperator Xor = Takes (codes "^")
SpellsOperator ShiftLeft = Takes (codes "<<")
SpellsOperator ShiftRight = Takes (codes ">>")
SpellsOperator Equals = Takes (codes "==")
SpellsOperator Differs = Takes (codes "!=")
SpellsOperator Less = Takes (codes "<")

-- what drives a wire: an atom, `~`, an operator, a choice (5.1.13), a concatenation or a replication (5.1.14), or a cell of a memory (5.2.2)
abbrev pub SpellsValue : Value → Part
SpellsValue (Plain a) = SpellsAtom a
SpellsValue (Invert a) = Takes (codes "~") ⨾ SpellsAtom a
SpellsValue (Binary a op b) = SpellsAtom a ⨾ SpellsOperator op ⨾ SpellsAtom b
SpellsValue (Choose c a b) = SpellsAtom c ⨾ Takes (codes "?") ⨾ SpellsAtom a ⨾ Takes (codes ":") ⨾ SpellsAtom b
SpellsValue (Concat atoms) = Takes (codes "{") ⨾ SeparatedTwo (Takes (codes ",")) SpellsAtom atoms ⨾ Takes (codes "}")
SpellsValue (Repeat n a) = Takes (codes "{") ⨾ SpellsNumber n ⨾ Takes (codes "{") ⨾ SpellsAtom a ⨾ Takes (codes "}") ⨾ Takes (codes "}")
SpellsValue (Cell memory x) = SpellsName memory ⨾ Takes (codes "[") ⨾ SpellsName x ⨾ Takes (codes "]")

-- ---- blocks (clause 9)

-- the steps of a block, nested; each has the steps after it last
pub data Steps : Type 0 where
  no_step : Steps
  if_only : List ℕ → Steps → Steps → Steps
  if_else : List ℕ → Steps → Steps → Steps → Steps
  assign : List ℕ → Atom → Steps → Steps
  store : List ℕ → List ℕ → Atom → Steps → Steps

-- the list in which a tree keeps them; no else is other than an else without steps
abbrev pub flat : Steps → List Step
flat no_step = []
flat (if_only c p rest) = If c ∷ (flat p ++ End ∷ flat rest)
flat (if_else c p q rest) = If c ∷ (flat p ++ Else ∷ (flat q ++ End ∷ flat rest))
flat (assign x a rest) = NonblockingAssign x a ∷ flat rest
flat (store m x a rest) = MemoryAssign m x a ∷ flat rest

-- the head of an if (9.4)
abbrev pub SpellsCondition : List ℕ → Part
SpellsCondition c = Takes (codes "if") ⨾ Takes (codes "(") ⨾ SpellsName c ⨾ Takes (codes ")")

-- each branch is a block (9.8), so that an else has one if; what is assigned is a reg or a cell, nonblocking (9.2.2)
abbrev pub SpellsSteps : Steps → Part
SpellsSteps no_step i j = i ≡ j
SpellsSteps (if_only c p rest) i j = (SpellsCondition c ⨾ Takes (codes "begin") ⨾ SpellsSteps p ⨾ Takes (codes "end") ⨾ SpellsSteps rest) i j
SpellsSteps (if_else c p q rest) i j =
    (SpellsCondition c ⨾ Takes (codes "begin") ⨾ SpellsSteps p ⨾ Takes (codes "end")
    ⨾ Takes (codes "else") ⨾ Takes (codes "begin") ⨾ SpellsSteps q ⨾ Takes (codes "end") ⨾ SpellsSteps rest) i j
SpellsSteps (assign x a rest) i j = (SpellsName x ⨾ Takes (codes "<=") ⨾ SpellsAtom a ⨾ Takes (codes ";") ⨾ SpellsSteps rest) i j
SpellsSteps (store m x a rest) i j =
    (SpellsName m ⨾ Takes (codes "[") ⨾ SpellsName x ⨾ Takes (codes "]") ⨾ Takes (codes "<=") ⨾ SpellsAtom a ⨾ Takes (codes ";") ⨾ SpellsSteps rest) i j

-- `begin`, steps and `end` (9.8)
abbrev pub SpellsBlock : List Step → Part
SpellsBlock steps i j = (s : Steps) × (flat s ≡ steps) × (Takes (codes "begin") ⨾ SpellsSteps s ⨾ Takes (codes "end")) i j

-- ---- items (clauses 4, 6, 9 and 12)

-- a port connected by its name (12.3.6)
abbrev pub SpellsConnection : Connection → Part
SpellsConnection l = Takes (codes ".") ⨾ SpellsName l.port ⨾ Takes (codes "(") ⨾ SpellsName l.net ⨾ Takes (codes ")")

-- nets (4.2), regs and memories (4.2.2, 4.9), continuous assignments (6.1), clocked blocks (9.9.2) and instances (12.1.2)
abbrev pub SpellsItem : Item → Part
SpellsItem (Wire bits x) = Takes (codes "wire") ⨾ SpellsRange bits ⨾ SpellsName x ⨾ Takes (codes ";")
SpellsItem (Reg bits x) = Takes (codes "reg") ⨾ SpellsRange bits ⨾ SpellsName x ⨾ Takes (codes ";")
SpellsItem (Memory bits x cells) =
    Takes (codes "reg") ⨾ SpellsRange bits ⨾ SpellsName x ⨾ Takes (codes "[") ⨾ Takes (codes "0") ⨾ Takes (codes ":") ⨾ SpellsLastOf cells ⨾ Takes (codes "]") ⨾ Takes (codes ";")
SpellsItem (Assign x value) = Takes (codes "assign") ⨾ SpellsName x ⨾ Takes (codes "=") ⨾ SpellsValue value ⨾ Takes (codes ";")
SpellsItem (Always steps) = Takes (codes "always") ⨾ Takes (codes "@") ⨾ Takes (codes "(") ⨾ Takes (codes "posedge") ⨾ Takes (codes "clk") ⨾ Takes (codes ")") ⨾ SpellsBlock steps
SpellsItem (Instance m x connections) = SpellsName m ⨾ SpellsName x ⨾ Takes (codes "(") ⨾ Separated (Takes (codes ",")) SpellsConnection connections ⨾ Takes (codes ")") ⨾ Takes (codes ";")

-- ---- modules (clause 12)

-- a port, declared where it is listed (12.3.4)
abbrev pub SpellsPort : PortDecl → Part
SpellsPort p = Takes (if is_input p.direction then codes "input" else codes "output") ⨾ SpellsRange p.width ⨾ SpellsName p.name

-- a module (12.1)
abbrev pub SpellsModule : ModuleTree → Part
SpellsModule m =
    Takes (codes "module") ⨾ SpellsName m.name ⨾ Takes (codes "(") ⨾ Separated (Takes (codes ",")) SpellsPort m.ports ⨾ Takes (codes ")") ⨾ Takes (codes ";")
    ⨾ Each SpellsItem m.items ⨾ Takes (codes "endmodule")

-- a design is one module or more, up to the last word
abbrev pub SpellsDesign : List ModuleTree → List Word → Type 0
SpellsDesign modules words = EachOfSome SpellsModule modules words []

-- the text has this tree
abbrev pub HasTree : Bytes → List ModuleTree → Type 0
HasTree text modules = (words : List Word) × HasWords text words × SpellsDesign modules words
