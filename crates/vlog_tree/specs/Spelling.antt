-- The one text of a design.
use Rattle.std.specs.Prelude.{ℕ, zero, suc, ◌+◌, ◌-◌, Bool, true, false, ◌||◌, List, [], ◌∷◌, ◌++◌, codes, ◌==◌, if◌then◌else◌, bytes_eq, fold, map}
use Rattle.std.specs.List.{flat_map}
use Rattle.std.specs.Fmt.{decimal}
use Rattle.vlog_tree.specs.declared.tree.Atom.{Atom}
use Rattle.vlog_tree.specs.declared.tree.Atom.TheVariants.{Net, Part, Literal}
use Rattle.vlog_tree.specs.declared.tree.BinaryOp.{BinaryOp}
use Rattle.vlog_tree.specs.declared.tree.BinaryOp.TheVariants.{Plus, Minus, Times, Divide, Remainder, And, Or, Xor, ShiftLeft, ShiftRight, Equals, Differs, Less}
use Rattle.vlog_tree.specs.declared.tree.Value.{Value}
use Rattle.vlog_tree.specs.declared.tree.Value.TheVariants.{Plain, Invert, Binary, Choose, Concat, Repeat, Cell}
use Rattle.vlog_tree.specs.declared.tree.Step.{Step}
use Rattle.vlog_tree.specs.declared.tree.Step.TheVariants.{If, Else, End, NonblockingAssign, MemoryAssign}
use Rattle.vlog_tree.specs.declared.tree.Connection.{Connection}
use Rattle.vlog_tree.specs.declared.tree.Item.{Item}
use Rattle.vlog_tree.specs.declared.tree.Item.TheVariants.{Wire, Reg, Memory, Assign, Always, Instance}
use Rattle.vlog_tree.specs.declared.tree.PortDecl.{PortDecl}
use Rattle.vlog_tree.specs.Form.{ModuleTree, is_input}

abbrev pub Word : Type 0
Word = List ℕ

-- the words of a range, which is left out at one bit
abbrev pub range_words : ℕ → List Word
range_words w = if w == 1 then [] else codes "[" ∷ decimal (w - 1) ∷ codes ":" ∷ codes "0" ∷ codes "]" ∷ []

abbrev pub port_words : PortDecl → List Word
port_words p = (if is_input p.direction then codes "input" else codes "output") ∷ (range_words p.width ++ p.name ∷ [])

abbrev pub atom_words : Atom → List Word
atom_words (Net x) = x ∷ []
atom_words (Part x high low) = x ∷ codes "[" ∷ decimal high ∷ codes ":" ∷ decimal low ∷ codes "]" ∷ []
atom_words (Literal w n) = (decimal w ++ codes "'d" ++ decimal n) ∷ []

abbrev pub op_word : BinaryOp → Word
op_word Plus = codes "+"
op_word Minus = codes "-"
op_word Times = codes "*"
op_word Divide = codes "/"
op_word Remainder = codes "%"
op_word And = codes "&"
op_word Or = codes "|"
op_word Xor = codes "^"
op_word ShiftLeft = codes "<<"
op_word ShiftRight = codes ">>"
op_word Equals = codes "=="
op_word Differs = codes "!="
op_word Less = codes "<"

-- lists of words with a comma between them
abbrev pub more_words : List (List Word) → List Word
more_words [] = []
more_words (x ∷ xs) = codes "," ∷ (x ++ more_words xs)

abbrev pub with_commas : List (List Word) → List Word
with_commas [] = []
with_commas (x ∷ xs) = x ++ more_words xs

abbrev pub value_words : Value → List Word
value_words (Plain a) = atom_words a
value_words (Invert a) = codes "~" ∷ atom_words a
value_words (Binary a op b) = atom_words a ++ op_word op ∷ atom_words b
value_words (Choose c a b) = atom_words c ++ codes "?" ∷ (atom_words a ++ codes ":" ∷ atom_words b)
value_words (Concat atoms) = codes "{" ∷ (with_commas (map atom_words atoms) ++ codes "}" ∷ [])
value_words (Repeat n a) = codes "{" ∷ decimal n ∷ codes "{" ∷ (atom_words a ++ codes "}" ∷ codes "}" ∷ [])
value_words (Cell m x) = m ∷ codes "[" ∷ x ∷ codes "]" ∷ []

abbrev pub step_words : Step → List Word
step_words (If c) = codes "if" ∷ codes "(" ∷ c ∷ codes ")" ∷ codes "begin" ∷ []
step_words Else = codes "end" ∷ codes "else" ∷ codes "begin" ∷ []
step_words End = codes "end" ∷ []
step_words (NonblockingAssign x a) = x ∷ codes "<=" ∷ (atom_words a ++ codes ";" ∷ [])
step_words (MemoryAssign m x a) = m ∷ codes "[" ∷ x ∷ codes "]" ∷ codes "<=" ∷ (atom_words a ++ codes ";" ∷ [])

abbrev pub connection_words : Connection → List Word
connection_words l = codes "." ∷ l.port ∷ codes "(" ∷ l.net ∷ codes ")" ∷ []

abbrev pub item_words : Item → List Word
item_words (Wire w x) = codes "wire" ∷ (range_words w ++ x ∷ codes ";" ∷ [])
item_words (Reg w x) = codes "reg" ∷ (range_words w ++ x ∷ codes ";" ∷ [])
item_words (Memory w x n) = codes "reg" ∷ (range_words w ++ x ∷ codes "[" ∷ codes "0" ∷ codes ":" ∷ decimal (n - 1) ∷ codes "]" ∷ codes ";" ∷ [])
item_words (Assign x e) = codes "assign" ∷ x ∷ codes "=" ∷ (value_words e ++ codes ";" ∷ [])
item_words (Always b) =
    codes "always" ∷ codes "@" ∷ codes "(" ∷ codes "posedge" ∷ codes "clk" ∷ codes ")" ∷ codes "begin" ∷ (flat_map step_words b ++ codes "end" ∷ [])
item_words (Instance m i connections) = m ∷ i ∷ codes "(" ∷ (with_commas (map connection_words connections) ++ codes ")" ∷ codes ";" ∷ [])

abbrev pub module_words : ModuleTree → List Word
module_words m =
    codes "module" ∷ m.name ∷ codes "(" ∷ (with_commas (map port_words m.ports) ++ codes ")" ∷ codes ";" ∷ (flat_map item_words m.items ++ codes "endmodule" ∷ []))

unfoldable pub ends_line : Word → Bool
ends_line w = bytes_eq w (codes ";") || bytes_eq w (codes "begin") || bytes_eq w (codes "end") || bytes_eq w (codes "endmodule")

unfoldable pub opens : Word → Bool
opens w = bytes_eq w (codes "begin") || bytes_eq w (codes "module")

unfoldable pub closes : Word → Bool
closes w = bytes_eq w (codes "end") || bytes_eq w (codes "endmodule")

-- a text that grows by words: how many modules and blocks are open, and whether a line has begun
pub record Page : Type 0 where
  pub text : List ℕ
  pub depth : ℕ
  pub begun : Bool

abbrev pub indent : ℕ → List ℕ
indent zero = []
indent (suc n) = 32 ∷ 32 ∷ indent n

-- one word more: a blank before it, or two for each that is open where it begins a line, and an end of line after it
unfoldable pub lay_word : Page → Word → Page
lay_word page w =
    let inner = if closes w then page.depth - 1 else page.depth in
    record {
      text = page.text ++ (if page.begun then 32 ∷ [] else indent inner) ++ (w ++ (if ends_line w then 10 ∷ [] else []));
      depth = if opens w then inner + 1 else inner;
      begun = if ends_line w then false else true;
    }

abbrev pub blank_page : Page
blank_page = record { text = []; depth = 0; begun = false }

abbrev pub spelling : List ModuleTree → List ℕ
spelling ms = (fold lay_word blank_page (flat_map module_words ms)).text
