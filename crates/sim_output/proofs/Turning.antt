-- The lines of a cycle's changes, net by net.
use Rattle.std.proofs.Common.{◌≡◌, ℕ, ◌+◌, ◌^◌, ◌<◌, ◌≤◌, Bool, true, cond, ◌||◌, List, [], ◌∷◌, ◌++◌, Option, Some, None, length, get_or, map, take, refl, sym, ap, subst, ◌∙◌, append_assoc, arith}
use Rattle.std.specs.Prelude.{◌==◌, not, slice_get, option_map}
use Rattle.std.specs.Option.{option_map_or}
use Rattle.std.proofs.lemmas.List.{length-map, length-take-le, take_more}
use Rattle.std.proofs.lemmas.Option.{slice_get-map, slice_get-get_or, same_Some}
use Rattle.tapa_base.specs.Gaps.{Bytes}
use Rattle.vlog_tree.specs.declared.table.Declaration.{Declaration}
use Rattle.vlog_tree.specs.Form.{ModuleTree}
use Rattle.vlog_tree.specs.Table.{unknown}
use Rattle.cycle_sim.specs.ShownNets.{shown_nets}
use Rattle.cycle_sim.specs.Sims.{SimTree}
use Rattle.vcd_text.specs.Nets.{Net}
use Rattle.vcd_text.specs.Dump.{lines_from, change_line}
use Rattle.sim_output.specs.Dumped.{net_of, nets_of, widths_of, name_at}
use Rattle.sim_output.specs.Turns.{told_at, Fit, turn_line, turn_lines}
use Rattle.sim_output.proofs.Listing.{lines_if}

-- the net at a place, and the name that it stands for
pub net_here : (m : ModuleTree) (k : ℕ) → k < length (nets_of m) → (d : Declaration) × (slice_get (shown_nets m) k ≡ Some d) × (slice_get (nets_of m) k ≡ Some (net_of d))
net_here m k low =
    let within : k < length (shown_nets m) = omega (arith, length-map (shown_nets m) net_of) in
    let d = get_or (shown_nets m) k unknown in
    let at : slice_get (shown_nets m) k ≡ Some d = slice_get-get_or (shown_nets m) k unknown within in
    (d, at, slice_get-map net_of (shown_nets m) k ∙ ap (λ (o : Option Declaration). option_map net_of o) at)

pub name_here : (m : ModuleTree) (k : ℕ) (n : Net) → slice_get (nets_of m) k ≡ Some n → name_at (nets_of m) k ≡ n.name
name_here m k n at = ap (λ (o : Option Net). option_map_or (λ (n : Net). n.name) o []) at

module _ (s : SimTree) (m : ModuleTree) (widths : List ℕ) (are : widths ≡ widths_of (nets_of m)) where
  pub count : length widths ≡ length (nets_of m)
  count = ap length are ∙ length-map (nets_of m) (λ (n : Net). n.bits)

  -- what is told of the net at a place
  pub told_here : (k v : ℕ) → k < length widths → ((d : Declaration) → slice_get (shown_nets m) k ≡ Some d → v ≡ s.told.number [] d.name) → v ≡ told_at s m k
  told_here k v low h =
      let n = net_here m k (omega (arith, count)) in
      h n.0 n.1 ∙ ap (s.told.number []) (sym (name_here m k (net_of n.0) n.2))

  -- its width
  bits_here : (k w : ℕ) (low : k < length widths) → w ≡ get_or widths k w → (n : Net) × (slice_get (nets_of m) k ≡ Some n) × (n.bits ≡ w)
  bits_here k w low is =
      let n = net_here m k (omega (arith, count)) in
      let got : slice_get widths k ≡ Some w = slice_get-get_or widths k w low ∙ ap (λ z. Some z) (sym is) in
      let wide : slice_get widths k ≡ Some n.0.bits = ap (λ (l : List ℕ). slice_get l k) are ∙ slice_get-map (λ (n : Net). n.bits) (nets_of m) k ∙ ap (λ (o : Option Net). option_map (λ (n : Net). n.bits) o) n.2 in
      (net_of n.0, n.2, same_Some n.0.bits w (sym wide ∙ got))

  pub value_fits : (k w v : ℕ) (low : k < length widths) → w ≡ get_or widths k w → v ≡ told_at s m k → Fit m (told_at s m) → v < 2 ^ w
  value_fits k w v low is same fit =
      let n = bits_here k w low is in
      subst (λ (b : ℕ). v < 2 ^ b) n.2 (subst (λ (z : ℕ). z < 2 ^ n.0.bits) (sym same) (fit k n.0 n.1))

  -- one net more
  pub more_turns : (all : Bool) (before : List ℕ) (k w v last : ℕ) (low : k < length widths) → w ≡ get_or widths k w → v ≡ told_at s m k → last ≡ get_or before k 0 → (text old new : Bytes)
      → old ≡ text ++ turn_lines all before (told_at s m) (take k (nets_of m)) → new ≡ old ++ cond (all || not (v == last)) (change_line k w v) [] → new ≡ text ++ turn_lines all before (told_at s m) (take (k + 1) (nets_of m))
  more_turns all before k w v last low is same kept text old new so_far grown =
      let q : ℕ → ℕ = told_at s m in
      let line : ℕ → Net → Bytes = turn_line all before q in
      let n = bits_here k w low is in
      let within : k < length (nets_of m) = omega (arith, count) in
      let here : get_or (nets_of m) k n.0 ≡ n.0 = same_Some (get_or (nets_of m) k n.0) n.0 (sym (slice_get-get_or (nets_of m) k n.0 within) ∙ n.1) in
      let taken : take (k + 1) (nets_of m) ≡ take k (nets_of m) ++ n.0 ∷ [] = take_more (nets_of m) k n.0 within ∙ ap (λ (x : Net). take k (nets_of m) ++ x ∷ []) here in
      let place : length (take k (nets_of m)) ≡ k = length-take-le k (nets_of m) (omega arith) in
      let piece : cond (all || not (v == last)) (change_line k w v) [] ≡ line k n.0 =
      ap (λ (z : ℕ). cond (all || not (z == last)) (change_line k w z) []) same ∙ ap (λ (z : ℕ). cond (all || not (q k == z)) (change_line k w (q k)) []) kept ∙ ap (λ (b : ℕ). cond (all || not (q k == get_or before k 0)) (change_line k b (q k)) []) (sym n.2) in
      let whole : lines_from line 0 (take (k + 1) (nets_of m)) ≡ lines_from line 0 (take k (nets_of m)) ++ line k n.0 =
      ap (λ (l : List Net). lines_from line 0 l) taken ∙ lines_if line (take k (nets_of m)) n.0 true ∙ ap (λ (i : ℕ). lines_from line 0 (take k (nets_of m)) ++ line i n.0) place in
      grown ∙ ap (λ (l : Bytes). old ++ l) piece ∙ ap (λ (l : Bytes). l ++ line k n.0) so_far
      ∙ append_assoc text (lines_from line 0 (take k (nets_of m))) (line k n.0) ∙ ap (λ (l : Bytes). text ++ l) (sym whole)
