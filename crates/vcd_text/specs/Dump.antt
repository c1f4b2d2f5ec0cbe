-- Value change dumps (IEEE 1364-2005, clause 18) in one spelling: what is written of nets cycle by cycle, and which texts are such dumps.
use Rattle.std.specs.Prelude.{◌≡◌, ◌+◌, ◌/◌, ◌%◌, ◌^◌, ◌<◌, ◌≤◌, ◌==◌, if◌then◌else◌, ◌∷◌, ◌++◌}
use Rattle.std.specs.Prelude.{ℕ, zero, suc, Bool, true, not, nat_lt, List, [], length, codes, decimal, slice_get, Some}
use Rattle.tapa_base.specs.declared.text.Place.{Place}
use Rattle.tapa_base.specs.Gaps.{Bytes}
use Rattle.tapa_syntax.specs.Characters.{place_of}
use Rattle.vlog_tree.specs.Names.{IsName}
use Rattle.vlog_tree.specs.Table.{Name}
use Rattle.vcd_text.specs.Nets.{Net}

-- ---- identifiers

-- at most the given number of digits of a number to base 94, the lowest first, as the bytes from 33 on (18.2.1)
abbrev pub digits_94 : ℕ → ℕ → Bytes
digits_94 zero k = []
digits_94 (suc most) k = (33 + k % 94) ∷ (if nat_lt k 94 then [] else digits_94 most (k / 94))

-- the identifier of the net at an index, counted from 0; it has at most k + 1 digits
unfoldable pub identifier : ℕ → Bytes
identifier k = digits_94 (suc k) k

-- ---- the head (18.2.3)

abbrev pub net_type : Bool → Bytes
net_type is_reg = if is_reg then codes "reg " else codes "wire "

abbrev pub var_line : ℕ → Net → Bytes
var_line k n = codes "$var " ++ (net_type n.is_reg ++ (decimal n.bits ++ (codes " " ++ (identifier k ++ (codes " " ++ (n.name ++ codes " $end\n"))))))

-- the lines of things by their indices, from a first one on
abbrev pub lines_from : {A : Type 0} → (ℕ → A → Bytes) → ℕ → List A → Bytes
lines_from line k [] = []
lines_from line k (x ∷ xs) = line k x ++ lines_from line (suc k) xs

abbrev pub nets_text : List Net → Bytes
nets_text nets = lines_from var_line 0 nets ++ codes "$upscope $end\n$enddefinitions $end\n"

abbrev pub head_text : Name → List Net → Bytes
head_text top nets = codes "$timescale 1 ns $end\n$scope module " ++ (top ++ (codes " $end\n" ++ nets_text nets))

-- ---- values (18.2.2)

-- the binary digits of a number, without leading zeros; of 0 one digit; at most the given number of them
abbrev pub bits_from : ℕ → ℕ → Bytes
bits_from zero v = []
bits_from (suc most) v = (if nat_lt v 2 then [] else bits_from most (v / 2)) ++ (48 + v % 2) ∷ []

unfoldable pub binary : ℕ → Bytes
binary v = bits_from (suc v) v

-- of a net of one bit the digit; of a wider one `b`, the binary digits and a space
abbrev pub value_text : ℕ → ℕ → Bytes
value_text bits v = if bits == 1 then (48 + v) ∷ [] else (98 ∷ (binary v ++ codes " "))

abbrev pub change_line : ℕ → ℕ → ℕ → Bytes
change_line k bits v = value_text bits v ++ (identifier k ++ codes "\n")

-- the values of nets by cycle and index
abbrev pub Values : Type 0
Values = ℕ → ℕ → ℕ

-- in cycle 0 each net changes, and later each whose value is another than in the cycle before
abbrev pub is_change : Values → ℕ → ℕ → Bool
is_change v zero k = true
is_change v (suc n) k = not (v (suc n) k == v n k)

abbrev pub net_line : Values → ℕ → ℕ → Net → Bytes
net_line v n k net = if is_change v n k then change_line k net.bits (v n k) else []

abbrev pub cycle_line : ℕ → Bytes
cycle_line n = codes "#" ++ (decimal n ++ codes "\n")

abbrev pub cycle_text : List Net → Values → ℕ → Bytes
cycle_text nets v n = cycle_line n ++ lines_from (net_line v n) 0 nets

-- the cycles from 0 to one
abbrev pub cycles_text : List Net → Values → ℕ → Bytes
cycles_text nets v zero = cycle_text nets v 0
cycles_text nets v (suc n) = cycles_text nets v n ++ cycle_text nets v (suc n)

abbrev pub dump_text : Name → List Net → Values → ℕ → Bytes
dump_text top nets v last = head_text top nets ++ cycles_text nets v last

-- ---- which texts are dumps

-- each net has a name of its own and from 1 to 128 bits
pub record AreNets (nets : List Net) : Type 0 where
  pub names : (k : ℕ) (n : Net) → slice_get nets k ≡ Some n → IsName n.name
  pub some_bits : (k : ℕ) (n : Net) → slice_get nets k ≡ Some n → 0 < n.bits
  pub few_bits : (k : ℕ) (n : Net) → slice_get nets k ≡ Some n → n.bits ≤ 128
  pub own : (j k : ℕ) (m n : Net) → slice_get nets j ≡ Some m → slice_get nets k ≡ Some n → m.name ≡ n.name → j ≡ k

-- values of the nets' bits in the cycles up to one
abbrev pub AreValues : List Net → Values → ℕ → Type 0
AreValues nets v last = (n k : ℕ) (net : Net) → n ≤ last → slice_get nets k ≡ Some net → v n k < 2 ^ net.bits

pub record IsDumpOf (top : Name) (nets : List Net) (v : Values) (last : ℕ) (text : Bytes) : Type 0 where
  pub top_name : IsName top
  pub are_nets : AreNets nets
  pub are_values : AreValues nets v last
  pub is : text ≡ dump_text top nets v last

pub record IsDump (text : Bytes) : Type 0 where
  pub top : Name
  pub nets : List Net
  pub values : Values
  pub last : ℕ
  pub dump : IsDumpOf top nets values last text

-- some dump begins so
abbrev pub BeginsDump : Bytes → Type 0
BeginsDump front = (rest : Bytes) × IsDump (front ++ rest)

-- after bytes with which some dump begins: a byte with which none goes on, or the end of the text, where more would have to come
abbrev pub StopsAt : Bytes → Bytes → Type 0
StopsAt before [] = IsDump before → ⊥
StopsAt before (b ∷ behind) = BeginsDump (before ++ b ∷ []) → ⊥

pub record IsNoDumpAt (text : Bytes) (place : Place) : Type 0 where
  pub before : Bytes
  pub behind : Bytes
  pub is : before ++ behind ≡ text
  pub begun : BeginsDump before
  pub stops : StopsAt before behind
  pub at : place ≡ place_of before

-- ---- what follows from it

-- a text is the dump of one list of nets, of one number of cycles, and of one value of each net in each of them
pub record IsSameDump (nets others : List Net) (v w : Values) (last end : ℕ) : Type 0 where
  pub same_nets : nets ≡ others
  pub same_last : last ≡ end
  pub same_values : (n k : ℕ) → n ≤ last → k < length nets → v n k ≡ w n k

abbrev pub IsOneDump : Type 0
IsOneDump = (top other : Name) (nets others : List Net) (v w : Values) (last end : ℕ) (text : Bytes) → IsDumpOf top nets v last text
    → IsDumpOf other others w end text → IsSameDump nets others v w last end

-- no text is a dump and also refused at a place as none
abbrev pub IsNeverBoth : Type 0
IsNeverBoth = (text : Bytes) (place : Place) → IsDump text → IsNoDumpAt text place → ⊥

abbrev pub IsNoneOnce : Type 0
IsNoneOnce = (text : Bytes) (place there : Place) → IsNoDumpAt text place → IsNoDumpAt text there → place ≡ there
