-- The reader after each word of a value, or none where it refuses the word.
use Rattle.std.specs.Prelude.{ℕ, Bool, ◌&&◌, nat_le, if◌then◌else◌, List, [], ◌∷◌, ◌++◌, length, Option, Some, None, codes, bytes_eq}
use Rattle.vlog_tree.specs.declared.tree.Atom.{Atom}
use Rattle.vlog_tree.specs.declared.tree.Atom.TheVariants.{Net, Part}
use Rattle.vlog_tree.specs.declared.tree.BinaryOp.{BinaryOp}
use Rattle.vlog_tree.specs.declared.tree.BinaryOp.TheVariants.{Plus, Minus, Times, Divide, Remainder, And, Or, Xor, ShiftLeft, ShiftRight, Equals as EqualsOp, Differs, Less}
use Rattle.vlog_tree.specs.declared.tree.Value.{Value as ValueTree}
use Rattle.vlog_tree.specs.declared.tree.Value.TheVariants.{Plain, Invert, Binary, Choose, Concat, Repeat, Cell}
use Rattle.vlog_tree.specs.declared.tree.Step.{Step}
use Rattle.vlog_tree.specs.declared.tree.Step.TheVariants.{NonblockingAssign, MemoryAssign}
use Rattle.vlog_tree.specs.declared.tree.Connection.{Connection}
use Rattle.vlog_tree.specs.declared.tree.Item.{Item as ItemTree}
use Rattle.vlog_tree.specs.declared.tree.Item.TheVariants.{Assign, Instance}
use Rattle.vlog_tree.specs.declared.tree.PortDecl.{PortDecl}
use Rattle.vlog_tree.specs.Form.{ModuleTree}
use Rattle.vlog_tree.specs.Names.{is_name}
use Rattle.vlog_tree.specs.Spelling.{Word}
use Rattle.vlog_lex.specs.declared.coming.Coming.{Coming}
use Rattle.vlog_lex.specs.declared.coming.Coming.TheVariants.{Nothing, Semicolon, RightBracket, Colon, BracketSemicolon, Equals, LeftBrace, BracesEnd}
use Rattle.vlog_read.specs.declared.state.ModuleDraft.{ModuleDraft}
use Rattle.vlog_read.specs.declared.state.Steps.{Steps}
use Rattle.vlog_read.specs.declared.state.Joining.{Joining}
use Rattle.vlog_read.specs.declared.state.Purpose.{Purpose}
use Rattle.vlog_read.specs.declared.state.Purpose.TheVariants.{First, Inverted, Right, Yes, No, Joined, Copied, Assigned, Stored}
use Rattle.vlog_read.specs.declared.state.ItemState.TheVariants.{ItemStart}
use Rattle.vlog_read.specs.declared.state.ValueState.{ValueState}
use Rattle.vlog_read.specs.declared.state.ValueState.TheVariants.{ValueStart, BraceStart, ValueNext, ConcatNext, AtomStart, AtomNext, AtomHigh, AtomLow, AtomEnd}
use Rattle.vlog_read.specs.declared.state.BlockState.TheVariants.{StepStart}
use Rattle.vlog_read.specs.declared.state.State.{State}
use Rattle.vlog_read.specs.declared.state.State.TheVariants.{Item, Value, Block}
use Rattle.vlog_read.specs.declared.state.Reader.{Reader}
use Rattle.vlog_lex.specs.Coming.{is_nothing, coming_words, first_coming, rest_coming}
use Rattle.vlog_lex.specs.ReadNumerals.{is_number, width_at, literal_of}

abbrev pub Next : Type 0
Next = Option Reader

abbrev pub behind : Coming → State → Reader
behind c s = record { coming = c; state = s }

-- a reader whose next word chooses
abbrev pub at : State → Reader
at s = behind Nothing s

-- the first of the words that must come
abbrev pub expected : Coming → State → Word → Next
expected c s w = if bytes_eq w (first_coming (coming_words c)) then Some (behind (rest_coming c) s) else None

-- ---- what is read so far

abbrev pub begun : List ModuleTree → Word → ModuleDraft
begun modules x = record { modules = modules; name = x; ports = []; items = [] }

abbrev pub with_port : ModuleDraft → PortDecl → ModuleDraft
with_port d p = record { modules = d.modules; name = d.name; ports = d.ports ++ p ∷ []; items = d.items }

abbrev pub with_item : ModuleDraft → ItemTree → ModuleDraft
with_item d x = record { modules = d.modules; name = d.name; ports = d.ports; items = d.items ++ x ∷ [] }

abbrev pub module_of : ModuleDraft → ModuleTree
module_of d = record { name = d.name; ports = d.ports; items = d.items }

abbrev pub finished : ModuleDraft → List ModuleTree
finished d = d.modules ++ module_of d ∷ []

abbrev pub item_behind : Coming → ModuleDraft → ItemTree → Reader
item_behind c d x = behind c (Item (ItemStart (with_item d x)))

abbrev pub no_steps : Steps
no_steps = record { steps = []; parts = [] }

abbrev pub with_step : Steps → Step → Steps
with_step s x = record { steps = s.steps ++ x ∷ []; parts = s.parts }

-- a step that opens a part, an else or not
abbrev pub opened : Steps → Step → Bool → Steps
opened s x is_else = record { steps = s.steps ++ x ∷ []; parts = is_else ∷ s.parts }

abbrev pub with_connection : Joining → Connection → Joining
with_connection q l = record { child = q.child; name = q.name; connections = q.connections ++ l ∷ [] }

abbrev pub joined : Joining → ItemTree
joined q = Instance q.child q.name q.connections

-- ---- atoms, and what drives a net

abbrev pub driven : ModuleDraft → Coming → Word → ValueTree → Reader
driven d c y v = item_behind c d (Assign y v)

abbrev pub assign_name : ModuleDraft → Word → Next
assign_name d w = if is_name w then Some (behind Equals (Value (ValueStart d w))) else None

abbrev pub atom_by : ModuleDraft → Purpose → Option Atom → Next
atom_by d p None = None
atom_by d p (Some a) = Some (at (Value (AtomEnd d p a)))

abbrev pub atom_start : ModuleDraft → Purpose → Word → Next
atom_start d p w = if is_name w then Some (at (Value (AtomNext d p w))) else atom_by d p (literal_of w)

abbrev pub value_start : ModuleDraft → Word → Word → Next
value_start d y w =
    if bytes_eq w (codes "~") then Some (at (Value (AtomStart d (Inverted y))))
    else (if bytes_eq w (codes "{") then Some (at (Value (BraceStart d y))) else atom_start d (First y) w)

abbrev pub brace_start : ModuleDraft → Word → Word → Next
brace_start d y w = if is_number w then Some (behind LeftBrace (Value (AtomStart d (Copied y (width_at w))))) else atom_start d (Joined y []) w

abbrev pub arithmetic_of : Word → Option BinaryOp
arithmetic_of w =
    if bytes_eq w (codes "+") then Some Plus
    else (if bytes_eq w (codes "-") then Some Minus
    else (if bytes_eq w (codes "*") then Some Times
    else (if bytes_eq w (codes "/") then Some Divide
    else (if bytes_eq w (codes "%") then Some Remainder else None))))

abbrev pub bits_of : Word → Option BinaryOp
bits_of w =
    if bytes_eq w (codes "&") then Some And
    else (if bytes_eq w (codes "|") then Some Or
    else (if bytes_eq w (codes "^") then Some Xor
    else (if bytes_eq w (codes "<<") then Some ShiftLeft
    else (if bytes_eq w (codes ">>") then Some ShiftRight else None))))

abbrev pub comparison_of : Word → Option BinaryOp
comparison_of w =
    if bytes_eq w (codes "==") then Some EqualsOp
    else (if bytes_eq w (codes "!=") then Some Differs
    else (if bytes_eq w (codes "<") then Some Less else None))

abbrev pub or_else : Option BinaryOp → Option BinaryOp → Option BinaryOp
or_else None b = b
or_else (Some a) b = Some a

abbrev pub operator_of : Word → Option BinaryOp
operator_of w = or_else (arithmetic_of w) (or_else (bits_of w) (comparison_of w))

abbrev pub right_by : ModuleDraft → Word → Atom → Option BinaryOp → Next
right_by d y a None = None
right_by d y a (Some op) = Some (at (Value (AtomStart d (Right y a op))))

abbrev pub value_next : ModuleDraft → Word → Atom → Word → Next
value_next d y a w =
    if bytes_eq w (codes ";") then Some (driven d Nothing y (Plain a))
    else (if bytes_eq w (codes "?") then Some (at (Value (AtomStart d (Yes y a)))) else right_by d y a (operator_of w))

abbrev pub concat_next : ModuleDraft → Word → List Atom → Word → Next
concat_next d y atoms w =
    if bytes_eq w (codes ",") then Some (at (Value (AtomStart d (Joined y atoms))))
    else (if bytes_eq w (codes "}") && nat_le 2 (length atoms) then Some (driven d Semicolon y (Concat atoms)) else None)

abbrev pub step_behind : ModuleDraft → Steps → Step → Reader
step_behind d s x = behind Semicolon (Block (StepStart d (with_step s x)))

-- after an atom that is whole
abbrev pub after_atom : ModuleDraft → Purpose → Atom → Reader
after_atom d (First y) a = at (Value (ValueNext d y a))
after_atom d (Inverted y) a = driven d Semicolon y (Invert a)
after_atom d (Right y left op) a = driven d Semicolon y (Binary left op a)
after_atom d (Yes y c) a = behind Colon (Value (AtomStart d (No y c a)))
after_atom d (No y c chosen) a = driven d Semicolon y (Choose c chosen a)
after_atom d (Joined y atoms) a = at (Value (ConcatNext d y (atoms ++ a ∷ [])))
after_atom d (Copied y n) a = driven d BracesEnd y (Repeat n a)
after_atom d (Assigned s x) a = step_behind d s (NonblockingAssign x a)
after_atom d (Stored s m x) a = step_behind d s (MemoryAssign m x a)

abbrev pub behind_first : ValueState → Word → Next
behind_first (ValueNext d y a) w = value_next d y a w
behind_first (ConcatNext d y atoms) w = concat_next d y atoms w
behind_first _ w = None

abbrev pub behind_state : State → Word → Next
behind_state (Value s) w = behind_first s w
behind_state _ w = None

abbrev pub next_behind : Reader → Word → Next
next_behind r w = if is_nothing r.coming then behind_state r.state w else expected r.coming r.state w

abbrev pub atom_end : ModuleDraft → Purpose → Atom → Word → Next
atom_end d p a w = next_behind (after_atom d p a) w

abbrev pub atom_next : ModuleDraft → Purpose → Word → Word → Next
atom_next d p x w = if bytes_eq w (codes "[") then Some (at (Value (AtomHigh d p x))) else atom_end d p (Net x) w

abbrev pub cell_index : ModuleDraft → Purpose → Word → Word → Next
cell_index d (First y) m w = if is_name w then Some (driven d BracketSemicolon y (Cell m w)) else None
cell_index d _ m w = None

abbrev pub atom_high : ModuleDraft → Purpose → Word → Word → Next
atom_high d p x w = if is_number w then Some (behind Colon (Value (AtomLow d p x (width_at w)))) else cell_index d p x w

abbrev pub atom_low : ModuleDraft → Purpose → Word → ℕ → Word → Next
atom_low d p x high w = if is_number w then Some (behind RightBracket (Value (AtomEnd d p (Part x high (width_at w))))) else None
