-- The modules of a channel by their elements.
use Rattle.std.specs.Prelude.{◌≡◌, ℕ, ◌+◌, ◌-◌, ◌/◌, ◌%◌, ◌*◌, ◌<◌, List, [], ◌∷◌, codes, ◌==◌, if◌then◌else◌}
use Rattle.vlog_tree.specs.declared.tree.Atom.{Atom}
use Rattle.vlog_tree.specs.declared.tree.Atom.TheVariants.{Net, Literal}
use Rattle.vlog_tree.specs.declared.tree.BinaryOp.{BinaryOp}
use Rattle.vlog_tree.specs.declared.tree.BinaryOp.TheVariants.{Plus, Minus, And, Xor, Equals, Differs, Less}
use Rattle.vlog_tree.specs.declared.tree.Value.{Value}
use Rattle.vlog_tree.specs.declared.tree.Value.TheVariants.{Plain, Binary, Choose, Cell}
use Rattle.vlog_tree.specs.declared.tree.Step.{Step}
use Rattle.vlog_tree.specs.declared.tree.Step.TheVariants.{If, End, NonblockingAssign}
use Rattle.vlog_tree.specs.declared.tree.Connection.{Connection}
use Rattle.vlog_tree.specs.Form.{ModuleTree}
use Rattle.vlog_tree.specs.Table.{Name}
use Rattle.hw_build.specs.Elements.{Element, Input, Output, Outlet, Wire, InstanceWire, Register, Memory, Block, Instance, built, reset_or, reset_or_set, stored}
use Rattle.hw_build.specs.Widths.{bits_for}
use Rattle.hw_channel_lines.specs.Names.{channel_name, fifo_name, relay_name}

abbrev pub connected_to : Name → Name → Connection
connected_to port net = record { port = port; net = net }

abbrev pub of_net : Name → Value
of_net x = Plain (Net x)

abbrev pub two : Name → BinaryOp → Name → Value
two x op y = Binary (Net x) op (Net y)

abbrev pub with_number : Name → BinaryOp → ℕ → ℕ → Value
with_number x op w n = Binary (Net x) op (Literal w n)

abbrev pub clocks : List Connection → List Connection
clocks connections = connected_to (codes "clk") (codes "clk") ∷ connected_to (codes "rst") (codes "rst") ∷ connections

-- the block of a register that takes the number of an atom in the cycles in which a net is 1, and keeps its number in the others
abbrev pub set_where : Name → Name → Atom → List Step
set_where x set next = If set ∷ NonblockingAssign x next ∷ End ∷ []

-- One step: the registers are the ports on the other side. The token is not reset; it is taken where one is put in, so that no synthesizer
-- makes a shift register of a row of steps.
abbrev pub step_elements : ℕ → List Element
step_elements bits =
    Input 1 (codes "put") ∷ Input bits (codes "din") ∷ Input 1 (codes "rdy_early")
    ∷ Register 1 (codes "full") ∷ Register bits (codes "token") ∷ Register 1 (codes "room")
    ∷ Output 1 (codes "put_late") (of_net (codes "full")) ∷ Output bits (codes "din_late") (of_net (codes "token")) ∷ Output 1 (codes "rdy") (of_net (codes "room"))
    ∷ Block (reset_or (codes "full") (Literal 1 0) (Net (codes "put"))) ∷ Block (set_where (codes "token") (codes "put") (Net (codes "din"))) ∷ Block
    (reset_or (codes "room") (Literal 1 0) (Net (codes "rdy_early"))) ∷ []

-- the nets of an instance of a relay
abbrev pub relay_connections : (put din rdy_early put_late din_late rdy : Name) → List Connection
relay_connections put din rdy_early put_late din_late rdy =
    clocks (connected_to (codes "put") put ∷ connected_to (codes "din") din ∷ connected_to (codes "rdy_early") rdy_early
    ∷ connected_to (codes "put_late") put_late ∷ connected_to (codes "din_late") din_late ∷ connected_to (codes "rdy") rdy ∷ [])

-- the ports of a relay that is made of others, and the wires after its first part
abbrev pub row_ports : ℕ → List Element → List Element
row_ports bits rest =
    Input 1 (codes "put") ∷ Input bits (codes "din") ∷ Input 1 (codes "rdy_early")
    ∷ Outlet 1 (codes "put_late") ∷ Outlet bits (codes "din_late") ∷ Outlet 1 (codes "rdy")
    ∷ InstanceWire 1 (codes "put_1") ∷ InstanceWire bits (codes "din_1") ∷ InstanceWire 1 (codes "rdy_1") ∷ rest

abbrev pub first_part : List Connection
first_part = relay_connections (codes "put") (codes "din") (codes "rdy_1") (codes "put_1") (codes "din_1") (codes "rdy")

abbrev pub second_of_two : List Connection
second_of_two = relay_connections (codes "put_1") (codes "din_1") (codes "rdy_early") (codes "put_late") (codes "din_late") (codes "rdy_1")

abbrev pub second_of_three : List Connection
second_of_three = relay_connections (codes "put_1") (codes "din_1") (codes "rdy_2") (codes "put_2") (codes "din_2") (codes "rdy_1")

abbrev pub third_part : List Connection
third_part = relay_connections (codes "put_2") (codes "din_2") (codes "rdy_early") (codes "put_late") (codes "din_late") (codes "rdy_2")

-- two halves in a row
abbrev pub even_elements : (bits : ℕ) (half : Name) → List Element
even_elements bits half = row_ports bits (Instance half (codes "part_0") first_part ∷ Instance half (codes "part_1") second_of_two ∷ [])

-- two halves and a step
abbrev pub odd_elements : (bits : ℕ) (half step : Name) → List Element
odd_elements bits half step =
    row_ports bits
    (InstanceWire 1 (codes "put_2") ∷ InstanceWire bits (codes "din_2") ∷ InstanceWire 1 (codes "rdy_2")
    ∷ Instance half (codes "part_0") first_part ∷ Instance half (codes "part_1") second_of_three ∷ Instance step (codes "part_2") third_part ∷ [])

abbrev pub step_tree : ℕ → ModuleTree
step_tree bits = built (relay_name bits 1) (step_elements bits)

abbrev pub even_tree : (bits steps half : ℕ) → ModuleTree
even_tree bits steps half = built (relay_name bits steps) (even_elements bits (relay_name bits half))

abbrev pub odd_tree : (bits steps half : ℕ) → ModuleTree
odd_tree bits steps half = built (relay_name bits steps) (odd_elements bits (relay_name bits half) (relay_name bits 1))

-- the wires for the next index of a ring: `_up`, `_last` and `_next`
abbrev pub next_wires : (place_bits places : ℕ) (place up last next : Name) → List Element → List Element
next_wires place_bits places place up last next rest =
    Wire place_bits up (with_number place Plus place_bits 1) ∷ Wire 1 last (with_number place Equals place_bits (places - 1))
    ∷ Wire place_bits next (Choose (Net last) (Literal place_bits 0) (Net up)) ∷ rest

abbrev pub pointer_wires : (place_bits places : ℕ) → List Element → List Element
pointer_wires place_bits places rest =
    next_wires place_bits places (codes "head") (codes "head_up") (codes "head_last") (codes "head_next")
    (next_wires place_bits places (codes "tail") (codes "tail_up") (codes "tail_last") (codes "tail_next") rest)

abbrev pub fifo_blocks : (place_bits count_bits : ℕ) → List Element
fifo_blocks place_bits count_bits =
    Block (reset_or_set (codes "head") (Literal place_bits 0) (codes "pop") (Net (codes "head_next")))
    ∷ Block (reset_or_set (codes "tail") (Literal place_bits 0) (codes "put") (Net (codes "tail_next")))
    ∷ Block (reset_or_set (codes "count") (Literal count_bits 0) (codes "moves") (Net (codes "count_next")))
    ∷ Block (stored (codes "tokens") (codes "put") (codes "tail") (Net (codes "din"))) ∷ []

abbrev pub count_wires : (count_bits : ℕ) → List Element → List Element
count_wires count_bits rest =
    Wire 1 (codes "moves") (two (codes "put") Xor (codes "pop")) ∷ Wire count_bits (codes "more") (with_number (codes "count") Plus count_bits 1)
    ∷ Wire count_bits (codes "fewer") (with_number (codes "count") Minus count_bits 1)
    ∷ Wire count_bits (codes "count_next") (Choose (Net (codes "put")) (Net (codes "more")) (Net (codes "fewer"))) ∷ rest

-- A ring of entries, read at its head. It is written without asking, and says whether it holds fewer tokens than its depth.
abbrev pub fifo_elements : (bits depth places place_bits count_bits : ℕ) → List Element
fifo_elements bits depth places place_bits count_bits =
    Input 1 (codes "put") ∷ Input bits (codes "din") ∷ Input 1 (codes "take")
    ∷ Register place_bits (codes "head") ∷ Register place_bits (codes "tail") ∷ Register count_bits (codes "count") ∷ Memory bits (codes "tokens") places
    ∷ Output 1 (codes "rdy") (with_number (codes "count") Less count_bits depth) ∷ Wire 1 (codes "some") (with_number (codes "count") Differs count_bits 0)
    ∷ Output 1 (codes "has") (of_net (codes "some")) ∷ Output bits (codes "dout") (Cell (codes "tokens") (codes "head"))
    ∷ Wire 1 (codes "pop") (two (codes "take") And (codes "some"))
    ∷ pointer_wires place_bits places (count_wires count_bits (fifo_blocks place_bits count_bits))

abbrev pub fifo_tree : (bits depth places : ℕ) → ModuleTree
fifo_tree bits depth places = built (fifo_name bits depth places) (fifo_elements bits depth places (bits_for (places - 1)) (bits_for places))

-- the nets of an instance of a FIFO
abbrev pub fifo_connections : (put din rdy : Name) → List Connection
fifo_connections put din rdy =
    clocks (connected_to (codes "put") put ∷ connected_to (codes "din") din ∷ connected_to (codes "take") (codes "take")
    ∷ connected_to (codes "rdy") rdy ∷ connected_to (codes "has") (codes "has") ∷ connected_to (codes "dout") (codes "dout") ∷ [])

-- a token is put in where it is written and the channel is ready
abbrev pub channel_ports : ℕ → List Element → List Element
channel_ports bits rest =
    Input bits (codes "din") ∷ Input 1 (codes "wr") ∷ Input 1 (codes "take")
    ∷ InstanceWire 1 (codes "ready") ∷ Output 1 (codes "rdy") (of_net (codes "ready")) ∷ Outlet 1 (codes "has") ∷ Outlet bits (codes "dout")
    ∷ Wire 1 (codes "put") (two (codes "wr") And (codes "ready")) ∷ rest

-- without added latency a FIFO alone
abbrev pub plain_tree : (bits depth : ℕ) → ModuleTree
plain_tree bits depth =
    built (channel_name bits depth 0) (channel_ports bits (Instance (fifo_name bits depth depth) (codes "fifo") (fifo_connections (codes "put") (codes "din") (codes "ready")) ∷ []))

abbrev pub relayed_inside : (bits : ℕ) (relay fifo : Name) → List Element
relayed_inside bits relay fifo =
    InstanceWire 1 (codes "put_late") ∷ InstanceWire bits (codes "din_late") ∷ InstanceWire 1 (codes "rdy_early")
    ∷ Instance relay (codes "relay") (relay_connections (codes "put") (codes "din") (codes "rdy_early") (codes "put_late") (codes "din_late") (codes "ready"))
    ∷ Instance fifo (codes "fifo") (fifo_connections (codes "put_late") (codes "din_late") (codes "rdy_early")) ∷ []

-- with added latency a relay before it
abbrev pub relayed_tree : (bits depth late : ℕ) → ModuleTree
relayed_tree bits depth late =
    built (channel_name bits depth late) (channel_ports bits (relayed_inside bits (relay_name bits late) (fifo_name bits depth (depth + 2 * late))))

-- of an even number of steps two halves, of an odd one two halves and a step
abbrev pub row_tree : (bits steps : ℕ) → ModuleTree
row_tree bits steps = if steps % 2 == 0 then even_tree bits steps (steps / 2) else odd_tree bits steps (steps / 2)

-- a relay of a number of steps, and below it those that it is made of
pub data AreRelays (bits : ℕ) : ℕ → List ModuleTree → Type 0 where
  One : (steps : ℕ) → steps ≡ 1 → AreRelays bits steps (step_tree bits ∷ [])
  More : (steps : ℕ) (rest : List ModuleTree) → 1 < steps → AreRelays bits (steps / 2) rest → AreRelays bits steps (row_tree bits steps ∷ rest)

-- the modules of a channel, its outermost module first
pub data AreModules (bits depth : ℕ) : ℕ → List ModuleTree → Type 0 where
  Alone : (late : ℕ) → late ≡ 0 → AreModules bits depth late (plain_tree bits depth ∷ fifo_tree bits depth depth ∷ [])
  Relayed : (late : ℕ) (relays : List ModuleTree) → 0 < late → AreRelays bits late relays
      → AreModules bits depth late (relayed_tree bits depth late ∷ fifo_tree bits depth (depth + 2 * late) ∷ relays)
