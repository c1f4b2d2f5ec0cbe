-- The words with which a reader may go on to a whole design, and the modules that it has read then, their numbers cut. Each is made
-- of the rest of the parts of the grammar that are open.
use Rattle.std.specs.Prelude.{◌≡◌, ◌⊎◌, ℕ, ◌≤◌, true, false, List, [], ◌∷◌, ◌++◌, length, fold, codes}
use Rattle.std.specs.List.{AllByRecursion}
use Rattle.vlog_tree.specs.declared.tree.Atom.{Atom}
use Rattle.vlog_tree.specs.declared.tree.Atom.TheVariants.{Net, Part as PartSelect}
use Rattle.vlog_tree.specs.declared.tree.BinaryOp.{BinaryOp}
use Rattle.vlog_tree.specs.declared.tree.Value.{Value as ValueTree}
use Rattle.vlog_tree.specs.declared.tree.Value.TheVariants.{Plain, Invert, Binary, Choose, Concat, Repeat, Cell}
use Rattle.vlog_tree.specs.declared.tree.Step.{Step}
use Rattle.vlog_tree.specs.declared.tree.Step.TheVariants.{If, Else, End, NonblockingAssign, MemoryAssign}
use Rattle.vlog_tree.specs.declared.tree.Connection.{Connection}
use Rattle.vlog_tree.specs.declared.tree.Item.{Item as ItemTree}
use Rattle.vlog_tree.specs.declared.tree.Item.TheVariants.{Wire, Reg, Memory, Assign, Always}
use Rattle.vlog_tree.specs.declared.tree.Direction.TheVariants as direction_form
use Rattle.vlog_tree.specs.declared.tree.PortDecl.{PortDecl}
use Rattle.vlog_tree.specs.Form.{ModuleTree, IsModule, nested}
use Rattle.vlog_tree.specs.Spelling.{Word}
use Rattle.vlog_tree.specs.Clamped.{clamped_width, clamped_cells, clamped_atom, clamped_value, clamped_step, clamped_item, clamped_port, clamped}
use Rattle.tapa_base.specs.Spans.{◌⨾◌, Each}
use Rattle.vlog_lex.specs.Spans.{Takes}
use Rattle.vlog_lex.specs.Grammar.{SpellsName, SpellsNumber, SpellsLastOf, SpellsRange, SpellsAtom, SpellsOperator, SpellsValue, SpellsConnection, SpellsItem, SpellsPort, SpellsModule}
use Rattle.vlog_lex.specs.Flat.{SpellsStep}
use Rattle.vlog_read.specs.declared.state.ModuleDraft.{ModuleDraft}
use Rattle.vlog_read.specs.declared.state.Steps.{Steps}
use Rattle.vlog_read.specs.declared.state.Joining.{Joining}
use Rattle.vlog_read.specs.declared.state.Declared.{Declared}
use Rattle.vlog_read.specs.declared.state.Declared.TheVariants as declared_form
use Rattle.vlog_read.specs.declared.state.Purpose.{Purpose}
use Rattle.vlog_read.specs.declared.state.Purpose.TheVariants.{First, Inverted, Right, Yes, No, Joined, Copied, Assigned, Stored}
use Rattle.vlog_read.specs.declared.state.HeadState.{HeadState}
use Rattle.vlog_read.specs.declared.state.HeadState.TheVariants.{Between, ModuleName, PortStart, RangeOrName, RangeHigh, DeclaredName, PortNext}
use Rattle.vlog_read.specs.declared.state.ItemState.{ItemState}
use Rattle.vlog_read.specs.declared.state.ItemState.TheVariants.{ItemStart, RegNext, CellsLast, InstanceName, ConnectionPort, ConnectionNet, ConnectionNext}
use Rattle.vlog_read.specs.declared.state.ValueState.{ValueState}
use Rattle.vlog_read.specs.declared.state.ValueState.TheVariants.{AssignName, ValueStart, BraceStart, ValueNext, ConcatNext, AtomStart, AtomNext, AtomHigh, AtomLow, AtomEnd}
use Rattle.vlog_read.specs.declared.state.BlockState.{BlockState}
use Rattle.vlog_read.specs.declared.state.BlockState.TheVariants.{StepStart, AfterEnd, IfName, StepTarget, StepIndex}
use Rattle.vlog_read.specs.declared.state.State.{State}
use Rattle.vlog_read.specs.declared.state.State.TheVariants.{Head, Item, Value, Block}
use Rattle.vlog_read.specs.declared.state.Reader.{Reader}
use Rattle.vlog_lex.specs.Coming.{coming_words}
use Rattle.vlog_read.specs.ValueReading.{begun, with_port, with_item, finished, with_step, opened, with_connection, joined}
use Rattle.vlog_read.specs.BlockReading.{no_connection, connection_of, port_of}

-- which words are left
abbrev pub Left : Type 1
Left = List Word → Type 0

-- these words, and then such
abbrev pub Words : List Word → Left → Left
Words [] G i = G i
Words (w ∷ ws) G i = (j : List Word) × (i ≡ w ∷ j) × Words ws G j

abbrev pub Named : (Word → Left) → Left
Named G i = (x : Word) × (j : List Word) × SpellsName x i j × G x j

abbrev pub Numbered : (ℕ → Left) → Left
Numbered G i = (n : ℕ) × (j : List Word) × SpellsNumber n i j × G n j

-- the last of n bits or cells
abbrev pub Counted : (ℕ → Left) → Left
Counted G i = (n : ℕ) × (j : List Word) × SpellsLastOf n i j × G n j

abbrev pub OneAtom : (Atom → Left) → Left
OneAtom G i = (a : Atom) × (j : List Word) × SpellsAtom a i j × G (clamped_atom a) j

-- ---- lists, one more at the end

abbrev pub put_module : List ModuleTree → ModuleTree → List ModuleTree
put_module ms m = ms ++ clamped m ∷ []

abbrev pub put_port : ModuleDraft → PortDecl → ModuleDraft
put_port d p = with_port d (clamped_port p)

abbrev pub put_item : ModuleDraft → ItemTree → ModuleDraft
put_item d x = with_item d (clamped_item x)

abbrev pub put_step : List Step → Step → List Step
put_step xs x = xs ++ clamped_step x ∷ []

abbrev pub put_atom : List Atom → Atom → List Atom
put_atom xs a = xs ++ clamped_atom a ∷ []

-- ---- the rest of modules; the words end with these modules

module _ (cs : List ModuleTree) where
  abbrev pub Modules : List ModuleTree → Left
  Modules ms i = (more : List ModuleTree) × Each SpellsModule more i [] × (cs ≡ fold put_module ms more) × (1 ≤ length cs)

  abbrev pub Items : ModuleDraft → Left
  Items d i = (more : List ItemTree) × (j : List Word) × Each SpellsItem more i j × Words (codes "endmodule" ∷ []) (Modules (finished (fold put_item d more))) j

  -- after an item, and the words that end it
  abbrev pub ItemBehind : List Word → ModuleDraft → ItemTree → Left
  ItemBehind ws d x = Words ws (Items (with_item d x))

  abbrev pub MorePorts : ModuleDraft → Left
  MorePorts d i = (more : List PortDecl) × (j : List Word) × Each (λ p. Takes (codes ",") ⨾ SpellsPort p) more i j × Words (codes ")" ∷ codes ";" ∷ []) (Items (fold put_port d more)) j

  abbrev pub Ports : ModuleDraft → Left
  Ports d i = (p : PortDecl) × (j : List Word) × SpellsPort p i j × MorePorts (put_port d p) j

  -- ---- declarations

  abbrev pub Cells : ModuleDraft → ℕ → Word → Left
  Cells d bits x = Counted (λ n. ItemBehind (codes "]" ∷ codes ";" ∷ []) d (Memory bits x (clamped_cells n)))

  abbrev pub RegEnd : ModuleDraft → ℕ → Word → Left
  RegEnd d bits x i = ItemBehind (codes ";" ∷ []) d (Reg bits x) i ⊎ Words (codes "[" ∷ codes "0" ∷ codes ":" ∷ []) (Cells d bits x) i

  abbrev pub DeclarationEnd : ModuleDraft → Declared → ℕ → Word → Left
  DeclarationEnd d declared_form.Input bits x = MorePorts (with_port d (port_of direction_form.Input bits x))
  DeclarationEnd d declared_form.Output bits x = MorePorts (with_port d (port_of direction_form.Output bits x))
  DeclarationEnd d declared_form.Wire bits x = ItemBehind (codes ";" ∷ []) d (Wire bits x)
  DeclarationEnd d declared_form.Reg bits x = RegEnd d bits x

  abbrev pub Name : ModuleDraft → Declared → ℕ → Left
  Name d k bits = Named (λ x. DeclarationEnd d k bits x)

  abbrev pub High : ModuleDraft → Declared → Left
  High d k = Counted (λ n. Words (codes ":" ∷ codes "0" ∷ codes "]" ∷ []) (Name d k (clamped_width n)))

  abbrev pub Declaration : ModuleDraft → Declared → Left
  Declaration d k i = (n : ℕ) × (j : List Word) × SpellsRange n i j × Name d k (clamped_width n) j

  -- ---- blocks

  abbrev pub MoreSteps : ModuleDraft → Steps → Left
  MoreSteps d s i = (more : List Step) × (j : List Word) × (nested s.parts more ≡ true) × Each SpellsStep more i j × ItemBehind (codes "end" ∷ []) d (Always (fold put_step s.steps more)) j

  abbrev pub ElseOrMore : ModuleDraft → Steps → Left
  ElseOrMore d s i = Words (codes "else" ∷ codes "begin" ∷ []) (MoreSteps d (opened s Else true)) i ⊎ MoreSteps d (with_step s End) i

  abbrev pub Condition : ModuleDraft → Steps → Left
  Condition d s = Named (λ x. Words (codes ")" ∷ codes "begin" ∷ []) (MoreSteps d (opened s (If x) false)))

  -- ---- atoms, and what drives a net

  abbrev pub Driven : ModuleDraft → Word → ValueTree → Left
  Driven d y v = ItemBehind (codes ";" ∷ []) d (Assign y v)

  abbrev pub ValueEnd : ModuleDraft → Word → Atom → Left
  ValueEnd d y a i =
      Driven d y (Plain a) i
      ⊎ (Words (codes "?" ∷ []) (OneAtom (λ b. Words (codes ":" ∷ []) (OneAtom (λ c. Driven d y (Choose a b c))))) i
      ⊎ ((op : BinaryOp) × (j : List Word) × SpellsOperator op i j × OneAtom (λ b. Driven d y (Binary a op b)) j))

  abbrev pub MoreAtoms : ModuleDraft → Word → List Atom → Left
  MoreAtoms d y atoms i =
      (more : List Atom) × (j : List Word) × Each (λ a. Takes (codes ",") ⨾ SpellsAtom a) more i j × (2 ≤ length (fold put_atom atoms more))
      × ItemBehind (codes "}" ∷ codes ";" ∷ []) d (Assign y (Concat (fold put_atom atoms more))) j

  abbrev pub AtomBehind : ModuleDraft → Purpose → Atom → Left
  AtomBehind d (First y) a = ValueEnd d y a
  AtomBehind d (Inverted y) a = Driven d y (Invert a)
  AtomBehind d (Right y left op) a = Driven d y (Binary left op a)
  AtomBehind d (Yes y c) a = Words (codes ":" ∷ []) (OneAtom (λ b. Driven d y (Choose c a b)))
  AtomBehind d (No y c chosen) a = Driven d y (Choose c chosen a)
  AtomBehind d (Joined y atoms) a = MoreAtoms d y (atoms ++ a ∷ [])
  AtomBehind d (Copied y n) a = ItemBehind (codes "}" ∷ codes "}" ∷ codes ";" ∷ []) d (Assign y (Repeat n a))
  AtomBehind d (Assigned s x) a = Words (codes ";" ∷ []) (MoreSteps d (with_step s (NonblockingAssign x a)))
  AtomBehind d (Stored s m x) a = Words (codes ";" ∷ []) (MoreSteps d (with_step s (MemoryAssign m x a)))

  -- the index of a memory, which drives a net alone
  abbrev pub Index : ModuleDraft → Purpose → Word → Left
  Index d (First y) m = Named (λ x. ItemBehind (codes "]" ∷ codes ";" ∷ []) d (Assign y (Cell m x)))
  Index d _ m = λ i. ⊥

  abbrev pub Low : ModuleDraft → Purpose → Word → ℕ → Left
  Low d p x high = Numbered (λ n. Words (codes "]" ∷ []) (AtomBehind d p (PartSelect x high (clamped_width n))))

  abbrev pub HighOrIndex : ModuleDraft → Purpose → Word → Left
  HighOrIndex d p x i = Numbered (λ n. Words (codes ":" ∷ []) (Low d p x (clamped_width n))) i ⊎ Index d p x i

  abbrev pub NameEnd : ModuleDraft → Purpose → Word → Left
  NameEnd d p x i = Words (codes "[" ∷ []) (HighOrIndex d p x) i ⊎ AtomBehind d p (Net x) i

  -- an atom, or a cell of a memory
  abbrev pub AnAtom : ModuleDraft → Purpose → Left
  AnAtom d p i = OneAtom (AtomBehind d p) i ⊎ Named (λ m. Words (codes "[" ∷ []) (Index d p m)) i

  abbrev pub InBraces : ModuleDraft → Word → Left
  InBraces d y i = Numbered (λ n. Words (codes "{" ∷ []) (AnAtom d (Copied y (clamped_width n)))) i ⊎ AnAtom d (Joined y []) i

  abbrev pub Drives : ModuleDraft → Word → Left
  Drives d y i = (v : ValueTree) × (j : List Word) × SpellsValue v i j × Driven d y (clamped_value v) j

  abbrev pub Place : ModuleDraft → Steps → Word → Left
  Place d s m = Named (λ x. Words (codes "]" ∷ codes "<=" ∷ []) (AnAtom d (Stored s m x)))

  abbrev pub Target : ModuleDraft → Steps → Word → Left
  Target d s x i = Words (codes "<=" ∷ []) (AnAtom d (Assigned s x)) i ⊎ Words (codes "[" ∷ []) (Place d s x) i

  -- ---- instances

  abbrev pub MoreConnections : ModuleDraft → Joining → Left
  MoreConnections d q i =
      (more : List Connection) × (j : List Word) × Each (λ l. Takes (codes ",") ⨾ SpellsConnection l) more i j
      × ItemBehind (codes ")" ∷ codes ";" ∷ []) d (joined (fold with_connection q more)) j

  abbrev pub JoinedNet : ModuleDraft → Joining → Word → Left
  JoinedNet d q p = Named (λ n. Words (codes ")" ∷ []) (MoreConnections d (with_connection q (connection_of p n))))

  abbrev pub JoinedPort : ModuleDraft → Joining → Left
  JoinedPort d q = Named (λ p. Words (codes "(" ∷ []) (JoinedNet d q p))

  abbrev pub Instances : ModuleDraft → Word → Left
  Instances d m = Named (λ x. Words (codes "(" ∷ codes "." ∷ []) (JoinedPort d (no_connection m x)))

  -- ---- any state

  abbrev pub FinishesHead : HeadState → Left
  FinishesHead (Between ms) = Modules ms
  FinishesHead (ModuleName ms) = Named (λ x. Words (codes "(" ∷ []) (Ports (begun ms x)))
  FinishesHead (PortStart d) = Ports d
  FinishesHead (RangeOrName d k) = Declaration d k
  FinishesHead (RangeHigh d k) = High d k
  FinishesHead (DeclaredName d k bits) = Name d k bits
  FinishesHead (PortNext d) = MorePorts d

  abbrev pub FinishesItem : ItemState → Left
  FinishesItem (ItemStart d) = Items d
  FinishesItem (RegNext d bits x) = RegEnd d bits x
  FinishesItem (CellsLast d bits x) = Cells d bits x
  FinishesItem (InstanceName d m) = Instances d m
  FinishesItem (ConnectionPort d q) = JoinedPort d q
  FinishesItem (ConnectionNet d q p) = JoinedNet d q p
  FinishesItem (ConnectionNext d q) = MoreConnections d q

  abbrev pub FinishesValue : ValueState → Left
  FinishesValue (AssignName d) = Named (λ x. Words (codes "=" ∷ []) (Drives d x))
  FinishesValue (ValueStart d y) = Drives d y
  FinishesValue (BraceStart d y) = InBraces d y
  FinishesValue (ValueNext d y a) = ValueEnd d y a
  FinishesValue (ConcatNext d y atoms) = MoreAtoms d y atoms
  FinishesValue (AtomStart d p) = AnAtom d p
  FinishesValue (AtomNext d p x) = NameEnd d p x
  FinishesValue (AtomHigh d p x) = HighOrIndex d p x
  FinishesValue (AtomLow d p x high) = Low d p x high
  FinishesValue (AtomEnd d p a) = AtomBehind d p a

  abbrev pub FinishesBlock : BlockState → Left
  FinishesBlock (StepStart d s) = MoreSteps d s
  FinishesBlock (AfterEnd d s) = ElseOrMore d s
  FinishesBlock (IfName d s) = Condition d s
  FinishesBlock (StepTarget d s x) = Target d s x
  FinishesBlock (StepIndex d s m) = Place d s m

  abbrev pub FinishesState : State → Left
  FinishesState (Head s) = FinishesHead s
  FinishesState (Item s) = FinishesItem s
  FinishesState (Value s) = FinishesValue s
  FinishesState (Block s) = FinishesBlock s

  abbrev pub Finishes : Reader → Left
  Finishes r = Words (coming_words r.coming) (FinishesState r.state)

-- with whatever words a reader goes on to modules, they have the form of modules
pub record IsFormed (r : Reader) : Type 0 where
  pub all : (cs : List ModuleTree) (i : List Word) → Finishes cs r i → AllByRecursion IsModule cs
