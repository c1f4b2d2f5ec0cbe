-- A wire within one slot crosses no border.
use Rattle.std.proofs.Common.{◌≡◌, ◌≤◌, ◌==◌, ℕ, zero, suc, ◌/◌, ◌%◌, ◌&&◌, max, min, nat_le, nat_lt, Bool, true, false, List, length, if◌then◌else◌, refl, ap, subst, arith}
use Rattle.std.specs.Prelude.{slice_index}
use Rattle.std.proofs.lemmas.Bool.Decides.{nat_tests}
use Rattle.task_graph.specs.Arcs.{total}
use Rattle.plan_device.specs.declared.device.Device.{Device}
use Rattle.plan_report.specs.Borders.{crossed, border_latency}
use Rattle.plan_device.proofs.Numbers.{is_same as same_number}

not_between : (low high n : ℕ) → high ≤ low → (nat_le low n && nat_lt n high) ≡ false
not_between low high n h = grind (arith, nat_tests)

-- what a border adds
abbrev part : List ℕ → ℕ → ℕ → ℕ → ℕ
part levels low high border = if nat_le low border && nat_lt border high then slice_index levels border else 0

no_part : (levels : List ℕ) (low high n : ℕ) → high ≤ low → part levels low high n ≡ 0
no_part levels low high n h = ap (λ (b : Bool). if b then slice_index levels n else 0) (not_between low high n h)

no_parts : (levels : List ℕ) (low high n : ℕ) → high ≤ low → total n (part levels low high) ≡ 0
no_parts levels low high zero h = refl
no_parts levels low high (suc n) h =
    let before : total n (part levels low high) ≡ 0 = no_parts levels low high n h in
    let here : part levels low high n ≡ 0 = no_part levels low high n h in
    omega (arith, before, here)

crossed_none : (levels : List ℕ) (a : ℕ) → crossed levels a a ≡ 0
crossed_none levels a = no_parts levels (min a a) (max a a) (length levels) (omega arith)

still : (d : Device) (s : ℕ) → border_latency d s s ≡ 0
still d s =
    let rows : crossed d.levels_rows.items (s / d.cols) (s / d.cols) ≡ 0 = crossed_none d.levels_rows.items (s / d.cols) in
    let cols : crossed d.levels_cols.items (s % d.cols) (s % d.cols) ≡ 0 = crossed_none d.levels_cols.items (s % d.cols) in
    omega (arith, rows, cols)

-- two groups that are one stand in one slot
pub still_within : (d : Device) (slots : List ℕ) (a b : ℕ) → (a == b) ≡ true → border_latency d (slice_index slots a) (slice_index slots b) ≡ 0
still_within d slots a b h = subst (λ (x : ℕ). border_latency d (slice_index slots a) (slice_index slots x) ≡ 0) (same_number a b h) (still d (slice_index slots a))
