-- The lines of a plan: each slot with what is in it, each task with its slot, each stream with its registers, and the sums.
use Rattle.std.specs.Prelude.{◌+◌, ◌-◌, ◌/◌, ◌%◌, ◌∷◌, ◌++◌}
use Rattle.std.specs.Prelude.{ℕ, zero, suc, List, [], codes, decimal, length, map, slice_index, slice_index_or, slice_get, unwrap_or, option_map, Vec}
use Rattle.std.specs.declared.alloc.Global.{Global}
use Rattle.task_graph.specs.declared.Edge.{Edge}
use Rattle.task_graph.specs.declared.Graph.{Graph}
use Rattle.task_graph.specs.declared.Use.{Use}
use Rattle.task_graph.specs.Arcs.{streams, width}
use Rattle.task_graph.specs.Uses.{nothing}
use Rattle.flow_cert.specs.Balance.{cost}
use Rattle.flow_cert.specs.Flow.{weight}
use Rattle.flow_cert.specs.Verdicts.{balance_of}
use Rattle.latency_balance.specs.declared.balance.Balance.{Balance}
use Rattle.plan_device.specs.declared.device.Device.{Device}
use Rattle.slot_plan.specs.declared.floorplan.Plan.{Plan}

-- the lines that vectors hold
abbrev pub texts : List (Vec ℕ Global) → List (List ℕ)
texts lines = map (λ (line : Vec ℕ Global). line.items) lines

-- the lines that f has for the numbers below n
abbrev pub lines_below : ℕ → (ℕ → List ℕ) → List (List ℕ)
lines_below zero f = []
lines_below (suc n) f = lines_below n f ++ f n ∷ []

-- `slot ROW COLUMN: `
abbrev pub place_text : ℕ → ℕ → List ℕ
place_text row col = codes "slot " ++ (decimal row ++ (codes " " ++ (decimal col ++ codes ": ")))

-- `LUT FF `
abbrev pub logic_text : Use → List ℕ
logic_text u = decimal u.lut ++ (codes " " ++ (decimal u.ff ++ codes " "))

-- `BRAM DSP URAM`
abbrev pub block_text : Use → List ℕ
block_text u = decimal u.bram ++ (codes " " ++ (decimal u.dsp ++ (codes " " ++ (decimal u.uram ++ codes "\n"))))

-- `slot ROW COLUMN: LUT FF BRAM DSP URAM`: what the groups of a slot use
abbrev pub use_line : ℕ → ℕ → Use → List ℕ
use_line row col u = place_text row col ++ (logic_text u ++ block_text u)

-- slots are numbered row by row
abbrev pub slot_line : ℕ → List Use → ℕ → List ℕ
slot_line cols used s = use_line (s / cols) (s % cols) (slice_index_or used s nothing)

-- `task LABEL: ROW COLUMN`: the slot of an instance of a task
abbrev pub task_line : Graph → ℕ → List ℕ → ℕ → List ℕ
task_line g cols slots i =
    codes "task " ++ (unwrap_or (slice_get g.labels.items i) [] ++
    (codes ": " ++ (decimal (slice_index slots (slice_index g.group.items i) / cols) ++
    (codes " " ++ (decimal (slice_index slots (slice_index g.group.items i) % cols) ++ codes "\n")))))

-- `stream LABEL: width W latency L balance B flow F`: its bits, the registers of its border latency, those that balance it, and
-- its part of the flow that shows the balance to be best
abbrev pub stream_line : Graph → List ℕ → Balance → ℕ → List ℕ
stream_line g lat b e =
    codes "stream " ++ (unwrap_or (option_map (λ (x : Edge). x.label) (slice_get g.edges.items e)) [] ++ (codes ": width " ++ (decimal (width g e)
    ++ (codes " latency " ++ (decimal (slice_index lat e)
    ++ (codes " balance " ++ (decimal (balance_of g lat b.s.items e) ++ (codes " flow " ++ (decimal (slice_index b.flow.items e) ++ codes "\n")))))))))

-- a word and a number
abbrev pub sum_line : List ℕ → ℕ → List ℕ
sum_line word n = word ++ (codes " " ++ (decimal n ++ codes "\n"))

-- the cost of the plan, the registers that the balance takes, and the value of the flow
abbrev pub sum_lines : Graph → Plan → List ℕ → Balance → List (List ℕ)
sum_lines g p lat b =
    sum_line (codes "cost") p.cost ∷ sum_line (codes "registers") (cost g (balance_of g lat b.s.items))
    ∷ sum_line (codes "dual") (weight g (slice_index lat) (slice_index b.flow.items) - weight g (slice_index lat) (width g)) ∷ []

abbrev pub plan_lines : Graph → Device → Plan → List ℕ → Balance → List (List ℕ)
plan_lines g d p lat b =
    lines_below (length p.used.items) (slot_line d.cols p.used.items)
    ++ (lines_below (length g.group.items) (task_line g d.cols p.slot.items) ++ (lines_below (streams g) (stream_line g lat b) ++ sum_lines g p lat b))
