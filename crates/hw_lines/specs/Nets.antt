-- The one spelling of each net of a task's module: a word and numbers, as `e_3_0`.
use Rattle.std.specs.Prelude.{ℕ, List, [], ◌∷◌, ◌++◌, codes}
use Rattle.vlog_tree.specs.Table.{Name}
use Rattle.hw_build.specs.Trees.{numbered}
pub use Rattle.hw_lines.specs.declared.nets.Choice.{Choice}
pub use Rattle.hw_lines.specs.declared.nets.Choice.TheVariants.{ToState, ToEnd, Clear, Set, NextValue, Stores, WriteIndex, WriteData, Reads, ArrayIndex, Puts, Token, Takes, Address, StoreEnable, Data}
pub use Rattle.hw_lines.specs.declared.nets.Net.{Net}
pub use Rattle.hw_lines.specs.declared.nets.Net.TheVariants.{
  State,
  Ended,
  Done,
  Scalar,
  Variable,
  Array,
  Has,
  Dout,
  Taken,
  Din,
  Wr,
  Rdy,
  Ack,
  Rdata,
  Addr,
  Wdata,
  We,
  Plain,
  Datum,
  Eot,
  At,
  Go,
  Inside,
  Into,
  Packed,
  Reset,
  Next,
  Value,
  Index,
  ReadIndex,
  ReadInside,
  ReadOn,
  Raw,
  Answer,
  Node,
}

abbrev pub choice_word : Choice → Name
choice_word ToState = codes "to"
choice_word ToEnd = codes "last"
choice_word (Clear a) = codes "zero"
choice_word (Set a) = codes "set"
choice_word (NextValue a) = codes "in"
choice_word (Stores a) = codes "store"
choice_word (WriteIndex a) = codes "place"
choice_word (WriteData a) = codes "content"
choice_word (Reads a b) = codes "read"
choice_word (ArrayIndex a b) = codes "spot"
choice_word (Puts a) = codes "put"
choice_word (Token a) = codes "token"
choice_word (Takes a) = codes "get"
choice_word (Address a) = codes "ask"
choice_word (StoreEnable a) = codes "save"
choice_word (Data a) = codes "data"

abbrev pub choice_numbers : Choice → List ℕ
choice_numbers ToState = []
choice_numbers ToEnd = []
choice_numbers (Clear a) = a ∷ []
choice_numbers (Set a) = a ∷ []
choice_numbers (NextValue a) = a ∷ []
choice_numbers (Stores a) = a ∷ []
choice_numbers (WriteIndex a) = a ∷ []
choice_numbers (WriteData a) = a ∷ []
choice_numbers (Reads a b) = a ∷ b ∷ []
choice_numbers (ArrayIndex a b) = a ∷ b ∷ []
choice_numbers (Puts a) = a ∷ []
choice_numbers (Token a) = a ∷ []
choice_numbers (Takes a) = a ∷ []
choice_numbers (Address a) = a ∷ []
choice_numbers (StoreEnable a) = a ∷ []
choice_numbers (Data a) = a ∷ []

abbrev pub word : Net → Name
word State = codes "state"
word Ended = codes "ended"
word Done = codes "done"
word (Scalar a) = codes "v"
word (Variable a) = codes "x"
word (Array a) = codes "a"
word (Has a) = codes "has"
word (Dout a) = codes "dout"
word (Taken a) = codes "take"
word (Din a) = codes "din"
word (Wr a) = codes "wr"
word (Rdy a) = codes "rdy"
word (Ack a) = codes "ack"
word (Rdata a) = codes "rdata"
word (Addr a) = codes "addr"
word (Wdata a) = codes "wdata"
word (We a) = codes "we"
word (Plain a) = codes "plain"
word (Datum a) = codes "datum"
word (Eot a) = codes "eot"
word (At a) = codes "at"
word (Go a) = codes "go"
word (Inside a) = codes "inside"
word (Into a) = codes "into"
word (Packed a) = codes "packed"
word (Reset a) = codes "reset"
word (Next a) = codes "next"
word (Value a b) = codes "e"
word (Index a b) = codes "i"
word (ReadIndex a b c) = codes "r"
word (ReadInside a b) = codes "within"
word (ReadOn a b) = codes "reads"
word (Raw a b) = codes "raw"
word (Answer a b) = codes "q"
word (Node c j) = choice_word c

abbrev pub numbers : Net → List ℕ
numbers State = []
numbers Ended = []
numbers Done = []
numbers (Scalar a) = a ∷ []
numbers (Variable a) = a ∷ []
numbers (Array a) = a ∷ []
numbers (Has a) = a ∷ []
numbers (Dout a) = a ∷ []
numbers (Taken a) = a ∷ []
numbers (Din a) = a ∷ []
numbers (Wr a) = a ∷ []
numbers (Rdy a) = a ∷ []
numbers (Ack a) = a ∷ []
numbers (Rdata a) = a ∷ []
numbers (Addr a) = a ∷ []
numbers (Wdata a) = a ∷ []
numbers (We a) = a ∷ []
numbers (Plain a) = a ∷ []
numbers (Datum a) = a ∷ []
numbers (Eot a) = a ∷ []
numbers (At a) = a ∷ []
numbers (Go a) = a ∷ []
numbers (Inside a) = a ∷ []
numbers (Into a) = a ∷ []
numbers (Packed a) = a ∷ []
numbers (Reset a) = a ∷ []
numbers (Next a) = a ∷ []
numbers (Value a b) = a ∷ b ∷ []
numbers (Index a b) = a ∷ b ∷ []
numbers (ReadIndex a b c) = a ∷ b ∷ c ∷ []
numbers (ReadInside a b) = a ∷ b ∷ []
numbers (ReadOn a b) = a ∷ b ∷ []
numbers (Raw a b) = a ∷ b ∷ []
numbers (Answer a b) = a ∷ b ∷ []
numbers (Node c j) = choice_numbers c ++ j ∷ []

abbrev pub spelled : Name → List ℕ → Name
spelled word [] = word
spelled word (n ∷ ns) = spelled (numbered word n) ns

unfoldable pub name : Net → Name
name x = spelled (word x) (numbers x)

-- the prefix of the names of a choice's nets
unfoldable pub front : Choice → Name
front c = spelled (choice_word c) (choice_numbers c)

-- and of a state's operators
unfoldable pub value_front : ℕ → Name
value_front k = spelled (codes "e") (k ∷ [])

unfoldable pub index_front : ℕ → Name
index_front k = spelled (codes "i") (k ∷ [])

unfoldable pub read_front : ℕ → ℕ → Name
read_front k p = spelled (codes "r") (k ∷ p ∷ [])
