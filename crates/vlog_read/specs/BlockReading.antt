-- A design, read word by word: the reader after each word, or none where it refuses the word.
use Rattle.std.specs.Prelude.{ℕ, Bool, true, false, ◌||◌, ◌==◌, if◌then◌else◌, List, [], ◌∷◌, ◌++◌, length, Option, Some, None, codes, bytes_eq}
use Rattle.vlog_tree.specs.declared.tree.Step.{Step}
use Rattle.vlog_tree.specs.declared.tree.Step.TheVariants.{If, Else, End}
use Rattle.vlog_tree.specs.declared.tree.Connection.{Connection}
use Rattle.vlog_tree.specs.declared.tree.Item.TheVariants.{Wire, Reg, Memory, Always}
use Rattle.vlog_tree.specs.declared.tree.Direction.{Direction}
use Rattle.vlog_tree.specs.declared.tree.Direction.TheVariants as direction_form
use Rattle.vlog_tree.specs.declared.tree.PortDecl.{PortDecl}
use Rattle.vlog_tree.specs.Form.{ModuleTree}
use Rattle.vlog_tree.specs.Names.{is_name}
use Rattle.vlog_tree.specs.Spelling.{Word}
use Rattle.vlog_lex.specs.declared.coming.Coming.TheVariants.{Nothing, Semicolon, LeftParen, ParenDot, Dot, RightParen, RangeEnd, ZeroColon, BracketSemicolon, BracketArrow, Clocked, ParenBegin, Begin}
use Rattle.vlog_read.specs.declared.state.ModuleDraft.{ModuleDraft}
use Rattle.vlog_read.specs.declared.state.Steps.{Steps}
use Rattle.vlog_read.specs.declared.state.Joining.{Joining}
use Rattle.vlog_read.specs.declared.state.Declared.{Declared}
use Rattle.vlog_read.specs.declared.state.Declared.TheVariants as declared_form
use Rattle.vlog_read.specs.declared.state.Purpose.TheVariants.{Assigned, Stored}
use Rattle.vlog_read.specs.declared.state.HeadState.{HeadState}
use Rattle.vlog_read.specs.declared.state.HeadState.TheVariants.{Between, ModuleName, PortStart, RangeOrName, RangeHigh, DeclaredName, PortNext}
use Rattle.vlog_read.specs.declared.state.ItemState.{ItemState}
use Rattle.vlog_read.specs.declared.state.ItemState.TheVariants.{ItemStart, RegNext, CellsLast, InstanceName, ConnectionPort, ConnectionNet, ConnectionNext}
use Rattle.vlog_read.specs.declared.state.ValueState.{ValueState}
use Rattle.vlog_read.specs.declared.state.ValueState.TheVariants.{AssignName, ValueStart, BraceStart, ValueNext, ConcatNext, AtomStart, AtomNext, AtomHigh, AtomLow, AtomEnd}
use Rattle.vlog_read.specs.declared.state.BlockState.{BlockState}
use Rattle.vlog_read.specs.declared.state.BlockState.TheVariants.{StepStart, AfterEnd, IfName, StepTarget, StepIndex}
use Rattle.vlog_read.specs.declared.state.State.{State}
use Rattle.vlog_read.specs.declared.state.State.TheVariants.{Head, Item, Value, Block}
use Rattle.vlog_read.specs.declared.state.Reader.{Reader}
use Rattle.vlog_lex.specs.Coming.{is_nothing}
use Rattle.vlog_lex.specs.ReadNumerals.{is_number, width_behind, cells_behind}
use Rattle.vlog_read.specs.ValueReading.{Next, behind, at, expected, begun, with_port, finished, item_behind, no_steps, with_step, opened, with_connection, joined}
use Rattle.vlog_read.specs.ValueReading.{assign_name, atom_start, value_start, brace_start, value_next, concat_next, atom_end, atom_next, atom_high, atom_low}

-- ---- modules up to their items

abbrev pub between : List ModuleTree → Word → Next
between modules w = if bytes_eq w (codes "module") then Some (at (Head (ModuleName modules))) else None

abbrev pub module_name : List ModuleTree → Word → Next
module_name modules w = if is_name w then Some (behind LeftParen (Head (PortStart (begun modules w)))) else None

abbrev pub port_start : ModuleDraft → Word → Next
port_start d w =
    if bytes_eq w (codes "input") then Some (at (Head (RangeOrName d declared_form.Input)))
    else (if bytes_eq w (codes "output") then Some (at (Head (RangeOrName d declared_form.Output))) else None)

abbrev pub port_next : ModuleDraft → Word → Next
port_next d w =
    if bytes_eq w (codes ",") then Some (at (Head (PortStart d)))
    else (if bytes_eq w (codes ")") then Some (behind Semicolon (Item (ItemStart d))) else None)

abbrev pub range_high : ModuleDraft → Declared → Word → Next
range_high d k w = if is_number w then Some (behind RangeEnd (Head (DeclaredName d k (width_behind w)))) else None

abbrev pub port_of : Direction → ℕ → Word → PortDecl
port_of way bits x = record { direction = way; width = bits; name = x }

abbrev pub port_named : ModuleDraft → Direction → ℕ → Word → Reader
port_named d way bits x = at (Head (PortNext (with_port d (port_of way bits x))))

abbrev pub named : ModuleDraft → Declared → ℕ → Word → Reader
named d declared_form.Input bits x = port_named d direction_form.Input bits x
named d declared_form.Output bits x = port_named d direction_form.Output bits x
named d declared_form.Wire bits x = item_behind Semicolon d (Wire bits x)
named d declared_form.Reg bits x = at (Item (RegNext d bits x))

abbrev pub declared_name : ModuleDraft → Declared → ℕ → Word → Next
declared_name d k bits w = if is_name w then Some (named d k bits w) else None

abbrev pub range_or_name : ModuleDraft → Declared → Word → Next
range_or_name d k w = if bytes_eq w (codes "[") then Some (at (Head (RangeHigh d k))) else declared_name d k 1 w

-- ---- items

-- a keyword that begins an item, or ends the module
abbrev pub begins_item : Word → Bool
begins_item w = bytes_eq w (codes "wire") || bytes_eq w (codes "reg") || bytes_eq w (codes "assign") || bytes_eq w (codes "always") || bytes_eq w (codes "endmodule")

abbrev pub item_word : ModuleDraft → Word → Next
item_word d w =
    if bytes_eq w (codes "wire") then Some (at (Head (RangeOrName d declared_form.Wire)))
    else (if bytes_eq w (codes "reg") then Some (at (Head (RangeOrName d declared_form.Reg)))
    else (if bytes_eq w (codes "assign") then Some (at (Value (AssignName d)))
    else (if bytes_eq w (codes "always") then Some (behind Clocked (Block (StepStart d no_steps)))
    else (if bytes_eq w (codes "endmodule") then Some (at (Head (Between (finished d)))) else None))))

abbrev pub item_start : ModuleDraft → Word → Next
item_start d w = if is_name w then Some (at (Item (InstanceName d w))) else item_word d w

abbrev pub reg_next : ModuleDraft → ℕ → Word → Word → Next
reg_next d bits x w =
    if bytes_eq w (codes ";") then Some (item_behind Nothing d (Reg bits x))
    else (if bytes_eq w (codes "[") then Some (behind ZeroColon (Item (CellsLast d bits x))) else None)

abbrev pub cells_last : ModuleDraft → ℕ → Word → Word → Next
cells_last d bits x w = if is_number w then Some (item_behind BracketSemicolon d (Memory bits x (cells_behind w))) else None

abbrev pub no_connection : Word → Word → Joining
no_connection m x = record { child = m; name = x; connections = [] }

abbrev pub instance_name : ModuleDraft → Word → Word → Next
instance_name d m w = if is_name w then Some (behind ParenDot (Item (ConnectionPort d (no_connection m w)))) else None

abbrev pub connection_port : ModuleDraft → Joining → Word → Next
connection_port d q w = if is_name w then Some (behind LeftParen (Item (ConnectionNet d q w))) else None

abbrev pub connection_of : Word → Word → Connection
connection_of p n = record { port = p; net = n }

abbrev pub connection_net : ModuleDraft → Joining → Word → Word → Next
connection_net d q p w = if is_name w then Some (behind RightParen (Item (ConnectionNext d (with_connection q (connection_of p w))))) else None

abbrev pub connection_next : ModuleDraft → Joining → Word → Next
connection_next d q w =
    if bytes_eq w (codes ",") then Some (behind Dot (Item (ConnectionPort d q)))
    else (if bytes_eq w (codes ")") then Some (item_behind Semicolon d (joined q)) else None)

-- ---- blocks

abbrev pub ended_by : ModuleDraft → List Step → List Bool → Reader
ended_by d steps [] = item_behind Nothing d (Always steps)
ended_by d steps (false ∷ parts) = at (Block (AfterEnd d (record { steps = steps; parts = parts })))
ended_by d steps (true ∷ parts) = at (Block (StepStart d (record { steps = steps ++ End ∷ []; parts = parts })))

abbrev pub ended : ModuleDraft → Steps → Reader
ended d s = ended_by d s.steps s.parts

abbrev pub step_start : ModuleDraft → Steps → Word → Next
step_start d s w =
    if is_name w then Some (at (Block (StepTarget d s w)))
    else (if bytes_eq w (codes "if") then Some (behind LeftParen (Block (IfName d s)))
    else (if bytes_eq w (codes "end") then Some (ended d s) else None))

abbrev pub after_end : ModuleDraft → Steps → Word → Next
after_end d s w = if bytes_eq w (codes "else") then Some (behind Begin (Block (StepStart d (opened s Else true)))) else step_start d (with_step s End) w

abbrev pub if_name : ModuleDraft → Steps → Word → Next
if_name d s w = if is_name w then Some (behind ParenBegin (Block (StepStart d (opened s (If w) false)))) else None

abbrev pub step_target : ModuleDraft → Steps → Word → Word → Next
step_target d s x w =
    if bytes_eq w (codes "<=") then Some (at (Value (AtomStart d (Assigned s x))))
    else (if bytes_eq w (codes "[") then Some (at (Block (StepIndex d s x))) else None)

abbrev pub step_index : ModuleDraft → Steps → Word → Word → Next
step_index d s m w = if is_name w then Some (behind BracketArrow (Value (AtomStart d (Stored s m w)))) else None

-- ---- any state

abbrev pub head_next : HeadState → Word → Next
head_next (Between modules) w = between modules w
head_next (ModuleName modules) w = module_name modules w
head_next (PortStart d) w = port_start d w
head_next (RangeOrName d k) w = range_or_name d k w
head_next (RangeHigh d k) w = range_high d k w
head_next (DeclaredName d k bits) w = declared_name d k bits w
head_next (PortNext d) w = port_next d w

abbrev pub item_next : ItemState → Word → Next
item_next (ItemStart d) w = item_start d w
item_next (RegNext d bits x) w = reg_next d bits x w
item_next (CellsLast d bits x) w = cells_last d bits x w
item_next (InstanceName d m) w = instance_name d m w
item_next (ConnectionPort d q) w = connection_port d q w
item_next (ConnectionNet d q p) w = connection_net d q p w
item_next (ConnectionNext d q) w = connection_next d q w

abbrev pub value_word : ValueState → Word → Next
value_word (AssignName d) w = assign_name d w
value_word (ValueStart d y) w = value_start d y w
value_word (BraceStart d y) w = brace_start d y w
value_word (ValueNext d y a) w = value_next d y a w
value_word (ConcatNext d y atoms) w = concat_next d y atoms w
value_word (AtomStart d p) w = atom_start d p w
value_word (AtomNext d p x) w = atom_next d p x w
value_word (AtomHigh d p x) w = atom_high d p x w
value_word (AtomLow d p x high) w = atom_low d p x high w
value_word (AtomEnd d p a) w = atom_end d p a w

abbrev pub block_next : BlockState → Word → Next
block_next (StepStart d s) w = step_start d s w
block_next (AfterEnd d s) w = after_end d s w
block_next (IfName d s) w = if_name d s w
block_next (StepTarget d s x) w = step_target d s x w
block_next (StepIndex d s m) w = step_index d s m w

abbrev pub state_next : State → Word → Next
state_next (Head s) w = head_next s w
state_next (Item s) w = item_next s w
state_next (Value s) w = value_word s w
state_next (Block s) w = block_next s w

abbrev pub next : Reader → Word → Next
next r w = if is_nothing r.coming then state_next r.state w else expected r.coming r.state w

-- ---- the end of the words

abbrev pub whole_head : HeadState → Option (List ModuleTree)
whole_head (Between modules) = if length modules == 0 then None else Some modules
whole_head _ = None

abbrev pub whole_state : State → Option (List ModuleTree)
whole_state (Head s) = whole_head s
whole_state _ = None

-- the modules, where a design may end
abbrev pub whole : Reader → Option (List ModuleTree)
whole r = if is_nothing r.coming then whole_state r.state else None
