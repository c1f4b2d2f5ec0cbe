-- The environment of a design, and what its streams and memories carry.
use Rattle.std.specs.Prelude.{◌≡◌, ◌-◌, ◌^◌, ◌<◌, ◌≤◌, ◌&&◌, ◌∷◌, ◌++◌}
use Rattle.std.specs.Prelude.{ℕ, zero, suc, Bool, true, false, List, [], Option, Some, None, length, unwrap_or, slice_get}
use Rattle.std.specs.Prelude.{slice_index, slice_index_or, slice_set, map, nat_le, nat_lt, ◌==◌, if◌then◌else◌, bytes_eq}
use Rattle.std.specs.List.{flat_map}
use Rattle.vlog_tree.specs.declared.tree.Item.{Item}
use Rattle.vlog_tree.specs.declared.tree.Item.TheVariants.{Wire, Reg, Memory, Assign, Always, Instance}
use Rattle.vlog_tree.specs.declared.tree.PortDecl.{PortDecl}
use Rattle.vlog_tree.specs.declared.table.Declaration.{Declaration}
use Rattle.tapa_base.specs.declared.shape.Port.{Port}
use Rattle.tapa_base.specs.declared.token.Token.{Token}
use Rattle.tapa_base.specs.declared.token.Token.TheVariants.{Datum, Eot}
use Rattle.tapa_base.specs.Fits.{Fits}
use Rattle.vlog_tree.specs.Form.{ModuleTree}
use Rattle.vlog_tree.specs.Table.{Name, declared, net_kind_of, net_kind_is_wire, bits_of}
use Rattle.vlog_tree.specs.Cycle.{Cycle, Path, Runs}
use Rattle.vlog_tree.specs.Labels.{rst, done, scalar, m_ack, m_rdata, m_addr, m_wdata, m_we, s_din, s_wr, s_rdy, scalar_of, ack_of, din_of}

pub record ShapeTree : Type 0 where
  pub scalars : List Port
  pub memories : List Port

abbrev pub scalar_label : PortDecl → Option Name → List Port
scalar_label p None = []
scalar_label p (Some x) = record { name = x; bits = p.width } ∷ []

abbrev pub memory_label : List Declaration → Option Name → List Port
memory_label ds None = []
memory_label ds (Some x) = record { name = x; bits = bits_of ds (m_rdata x) } ∷ []

-- the scalars in the order of their ports, the memories in that of their acks
abbrev pub shape_of : ModuleTree → ShapeTree
shape_of top = record {
  scalars = flat_map (λ (p : PortDecl). scalar_label p (scalar_of p.name)) top.ports;
  memories = flat_map (λ (p : PortDecl). memory_label (declared top) (ack_of p.name)) top.ports;
}

-- a wire of 1 bit
abbrev pub is_bit_wire : List Declaration → Name → Bool
is_bit_wire ds x = net_kind_is_wire (net_kind_of ds x) && (bits_of ds x == 1)

unfoldable pub is_stream : List Declaration → ℕ → Name → Name → Bool
is_stream ds w wr rdy = nat_le 2 w && nat_le w 65 && is_bit_wire ds wr && is_bit_wire ds rdy

abbrev pub stream_label : List Declaration → ℕ → Option Name → List Port
stream_label ds w None = []
stream_label ds w (Some x) = if is_stream ds w (s_wr x) (s_rdy x) then record { name = x; bits = w } ∷ [] else []

abbrev pub item_stream : List Declaration → Item → List Port
item_stream ds (Wire w y) = stream_label ds w (din_of y)
item_stream ds (Reg w y) = []
item_stream ds (Memory w y n) = []
item_stream ds (Assign y e) = []
item_stream ds (Always b) = []
item_stream ds (Instance m i connections) = []

-- the streams in the order of their din
abbrev pub streams_of : ModuleTree → List Port
streams_of top = flat_map (item_stream (declared top)) top.items

-- a value for each scalar, and for each memory its first cells and its ready bits
pub record Environment : Type 0 where
  pub scalars : List ℕ
  pub memories : List (List ℕ)
  pub ready : List (List Bool)

abbrev pub widths : List Port → List ℕ
widths ports = map (λ (l : Port). l.bits) ports

-- a number for each scalar and cells for each memory, all of their bits, and ready bits for each memory
pub record FitsShape (env : Environment) (shape : ShapeTree) : Type 0 where
  pub numbers : Fits (widths shape.scalars) (widths shape.memories) env.scalars env.memories
  pub as_many_ready : length env.ready ≡ length shape.memories

-- entry n, counted from 1, and 1 after the list's end; in cycle 0 it is 0
abbrev pub ready_at : List Bool → ℕ → ℕ
ready_at bits zero = 0
ready_at bits (suc n) = if unwrap_or (slice_get bits n) true then 1 else 0

-- past the end nothing changes
abbrev pub set_cell : List ℕ → ℕ → ℕ → List ℕ
set_cell cells a v = if nat_lt a (length cells) then slice_set cells a v else cells

-- the cells of a memory in a cycle, before the store of that cycle; run has the numbers of the top's nets
abbrev pub cells_at : (ℕ → Cycle) → Name → List ℕ → ℕ → List ℕ
cells_at run x first zero = first
cells_at run x first (suc n) =
    let c = run n in
    let cells = cells_at run x first n in
    if (c.net (m_ack x) == 1) && (c.net (m_we x) == 1) then set_cell cells (c.net (m_addr x)) (c.net (m_wdata x)) else cells

-- what a memory answers in every cycle
pub record Answers (run : ℕ → Cycle) (x : Name) (first : List ℕ) (ready : List Bool) : Type 0 where
  pub ack : (n : ℕ) → (run n).net (m_ack x) ≡ ready_at ready n
  pub rdata : (n : ℕ) → (run n).net (m_rdata x) ≡ unwrap_or (slice_get (cells_at run x first n) ((run n).net (m_addr x))) 0

-- the top's inputs: reset in cycle 0 alone, the scalars, and what the memories answer
pub record Stands (top : ModuleTree) (env : Environment) (run : ℕ → Cycle) : Type 0 where
  pub reset : (run 0).net rst ≡ 1
  pub runs : (n : ℕ) → (run (suc n)).net rst ≡ 0
  pub scalars : (n i : ℕ) (l : Port) → slice_get (shape_of top).scalars i ≡ Some l → (run n).net (scalar l.name) ≡ slice_index env.scalars i
  pub memories : (i : ℕ) (l : Port) → slice_get (shape_of top).memories i ≡ Some l → Answers run l.name (slice_index_or env.memories i []) (slice_index_or env.ready i [])

-- a run of a design in an environment, from any power-up contents
pub record RunsIn (ms : List ModuleTree) (top : ModuleTree) (env : Environment) (nets : ℕ → Path → Cycle) : Type 0 where
  pub runs : Runs ms top nets
  pub stands : Stands top env (λ n. nets n [])

-- the numbers on the stream's din in those cycles from 1 to n in which it carries
abbrev pub carried : (ℕ → Cycle) → Name → ℕ → List ℕ
carried run x zero = []
carried run x (suc n) =
    let c = run (suc n) in
    if (c.net (s_wr x) == 1) && (c.net (s_rdy x) == 1) then carried run x n ++ c.net (s_din x) ∷ [] else carried run x n

-- what w bits on din say: the end of a transaction (EoT) where the highest bit is set, and else a datum
abbrev pub token_of : ℕ → ℕ → Token
token_of w d = if nat_lt d (2 ^ (w - 1)) then Datum d else Eot

-- the tokens that a stream of w bits carries in the cycles from 1 to n
abbrev pub tokens : ℕ → (ℕ → Cycle) → Name → ℕ → List Token
tokens w run x n = map (token_of w) (carried run x n)

abbrev pub RaisesDone : (ℕ → Cycle) → ℕ → Type 0
RaisesDone run n = (1 ≤ n) × ((run n).net done ≡ 1)
