-- The amounts of a device are small.
use Rattle.std.proofs.Common.{◌≡◌, ℕ, zero, suc, ◌^◌, ◌<◌, List, [], ◌∷◌, map, length, Option, Some, None, option_and_then, slice_get, codes, subst, arith}
use Rattle.std.specs.Option.{option_map_or}
use Rattle.std.proofs.lemmas.List.{length-map}
use Rattle.serde_json.specs.Data.{Data as Json}
use Rattle.serde_json.specs.Find.{get, get_member}
use Rattle.tapa_syntax.specs.declared.program.Instance.{Instance}
use Rattle.tapa_syntax.specs.declared.program.Leaf.{Leaf}
use Rattle.tapa_syntax.specs.declared.program.Program.{Program}
use Rattle.task_graph.specs.declared.Graph.{Graph}
use Rattle.task_graph.specs.declared.Use.{Use}
use Rattle.task_graph.specs.Streams.{amount, amount_at}
use Rattle.task_graph.specs.Uses.{use_of}
use Rattle.run_data.specs.Data.{items_at, members_at}
use Rattle.plan_device.specs.Amounts.{amounts_of}
use Rattle.plan_device.specs.Contents.{slots_of, use_by, use_in, uses_of}
use Rattle.plan_device.specs.Json.{past_amounts}
use Rattle.plan_device.proofs.Ranges.{number_below}

pub amounts_small : (json : Json) (k : ℕ) → amount (amounts_of json) k < 2 ^ 32
amounts_small json zero = number_below 0 past_amounts 0 (get (codes "LUT") json) (omega arith)
amounts_small json (suc zero) = number_below 0 past_amounts 0 (get (codes "FF") json) (omega arith)
amounts_small json (suc (suc zero)) = number_below 0 past_amounts 0 (get (codes "BRAM") json) (omega arith)
amounts_small json (suc (suc (suc zero))) = number_below 0 past_amounts 0 (get (codes "DSP") json) (omega arith)
amounts_small json (suc (suc (suc (suc zero)))) = number_below 0 past_amounts 0 (get (codes "URAM") json) (omega arith)
amounts_small json (suc (suc (suc (suc (suc k))))) = omega arith

by_small : (found : Option Json) (estimate : Use) (k : ℕ) → amount estimate k < 2 ^ 40 → amount (option_map_or amounts_of found estimate) k < 2 ^ 40
by_small None estimate k small = small
by_small (Some json) estimate k small = let below = amounts_small json k in omega arith

-- each instance's amounts, where the estimates are small
all_small : (program : Program) (file : Json) (instances : List Instance) (i k : ℕ) → ((j : ℕ) → amount_at (map (use_of program.bodies.items) instances) j k < 2 ^ 40) → amount_at (map (use_in program file) instances) i k < 2 ^ 40
all_small program file [] i k small = omega arith
all_small program file (x ∷ instances) zero k small =
    by_small (option_and_then (λ (leaf : Leaf). get_member leaf.name (members_at (get (codes "tasks") file))) (slice_get program.bodies.items x.body)) (use_of program.bodies.items x) k (small 0)
all_small program file (x ∷ instances) (suc i) k small = all_small program file instances i k (λ j. small (suc j))

pub uses_small : (program : Program) (graph : Graph) (file : Json) → graph.uses.items ≡ map (use_of program.bodies.items) program.instances.items → ((i k : ℕ) → amount_at graph.uses.items i k < 2 ^ 40) → (i k : ℕ) → amount_at (uses_of program file) i k < 2 ^ 40
unfolding uses_of
uses_small program graph file is small i k = all_small program file program.instances.items i k (λ j. subst (λ uses. amount_at uses j k < 2 ^ 40) is (small j k))

pub as_many_uses : (program : Program) (file : Json) → length (uses_of program file) ≡ length program.instances.items
unfolding uses_of
as_many_uses program file = length-map program.instances.items (use_in program file)

-- ---- slots

pub slots_by : (file : Json) (found : Option Json) (values : List Json) → found ≡ get (codes "slots") file → values ≡ items_at found → map amounts_of values ≡ slots_of file
unfolding slots_of
slots_by file found values is all = rw (all, is)

pub slots_small : (values : List Json) (s k : ℕ) → amount_at (map amounts_of values) s k < 2 ^ 32
slots_small [] s k = omega arith
slots_small (json ∷ values) zero k = amounts_small json k
slots_small (json ∷ values) (suc s) k = slots_small values s k

-- ---- uses

pub uses_by : (program : Program) (file : Json) (tasks : Option Json) (leaves : List Leaf) (instances : List Instance) → tasks ≡ get (codes "tasks") file → leaves ≡ program.bodies.items → instances ≡ program.instances.items
    → map (λ (x : Instance). use_by tasks leaves x (use_of leaves x)) instances ≡ uses_of program file
unfolding uses_of
uses_by program file tasks leaves instances is all each = rw (is, all, each)
