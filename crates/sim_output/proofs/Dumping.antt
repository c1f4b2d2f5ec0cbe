-- What is written of each cycle of a run is that cycle's part of its dump.
use Rattle.std.proofs.Common.{◌≡◌, ℕ, zero, suc, ◌+◌, ◌^◌, ◌<◌, ◌≤◌, Bool, true, false, cond, ◌||◌, List, [], ◌∷◌, ◌++◌, Some, length, get_or, append-nil, inl, inr, refl, sym, ap, subst, ◌∙◌, append_assoc, arith}
use Rattle.std.specs.Prelude.{◌==◌, not, slice_get}
use Rattle.std.proofs.lemmas.Bool.{cases_eq}
use Rattle.std.proofs.lemmas.Bool.Decides.{nat_tests}
use Rattle.std.proofs.lemmas.Option.{slice_get_within, same_Some}
use Rattle.tapa_base.specs.Gaps.{Bytes}
use Rattle.vlog_tree.specs.Form.{ModuleTree}
use Rattle.vlog_tree.specs.Refused.{IsDesign}
use Rattle.vlog_tree.specs.Cycle.{Cycle, Path}
use Rattle.vlog_tree.specs.Environment.{Environment, FitsShape, RunsIn, shape_of}
use Rattle.vlog_design.specs.Designs.{DesignTree, TopOf}
use Rattle.cycle_sim.specs.Told.{IsToldOf}
use Rattle.cycle_sim.specs.Sims.{SimTree}
use Rattle.cycle_sim.proofs.Showing.{told_value, told_fits}
use Rattle.vcd_text.specs.Nets.{Net}
use Rattle.vcd_text.specs.Dump.{Values, lines_from, change_line, net_line, cycle_line, cycle_text, cycles_text, head_text, dump_text}
use Rattle.sim_output.specs.Dumped.{net_of, nets_of, name_at, values_in, dump_of}
use Rattle.sim_output.specs.Turns.{told_at, Fit, turn_line, turn_lines}
use Rattle.sim_output.proofs.Listing.{lines_alike}
use Rattle.sim_output.proofs.Turning.{net_here, name_here}
use Rattle.vlog_run_laws.proofs.runs.Surround.{later as not_first}

-- ---- dumps of more and more cycles

-- one cycle more
pub dump_next : (m : ModuleTree) (run : ℕ → Cycle) (n : ℕ) → dump_of m run (suc n) ≡ dump_of m run n ++ cycle_text (nets_of m) (values_in (nets_of m) run) (suc n)
dump_next m run n =
    let v : Values = values_in (nets_of m) run in
    sym (append_assoc (head_text m.name (nets_of m)) (cycles_text (nets_of m) v n) (cycle_text (nets_of m) v (suc n)))

-- the dump of fewer cycles is a front of it
pub dump_front : (m : ModuleTree) (run : ℕ → Cycle) (n last : ℕ) → n ≤ last → (back : Bytes) × (dump_of m run last ≡ dump_of m run n ++ back)
dump_front m run n zero low = let same : 0 ≡ n = omega arith in ([], ap (λ (k : ℕ). dump_of m run k) same ∙ sym (append-nil (dump_of m run n)))
dump_front m run n (suc k) low = elim (cases_eq n (suc k)) [
  | inl e ↦ ([], ap (λ (i : ℕ). dump_of m run i) (sym e) ∙ sym (append-nil (dump_of m run n)))
  | inr ne ↦
      let b = dump_front m run n k (omega arith) in
      let last : Bytes = cycle_text (nets_of m) (values_in (nets_of m) run) (suc k) in
      (b.0 ++ last, dump_next m run k ∙ ap (λ (l : Bytes). l ++ last) b.1 ∙ append_assoc (dump_of m run n) b.0 last)
]

-- ---- one cycle of a run

module _ (design : DesignTree) (is_design : IsDesign design.modules design.top) (m : ModuleTree) (at : TopOf design m) (env : Environment) (env_fits : FitsShape env (shape_of m)) (nets : ℕ → Path → Cycle) (r : RunsIn design.modules m env nets)
    (s : SimTree) (told : IsToldOf design.modules m env nets s.told) where
  abbrev run : ℕ → Cycle
  run n = nets n []

  abbrev v : Values
  v = values_in (nets_of m) run

  -- what is told is the run's
  pub told_is : (k : ℕ) → k < length (nets_of m) → told_at s m k ≡ v s.told.cycle k
  told_is k low =
      let n = net_here m k low in
      let name : name_at (nets_of m) k ≡ n.0.name = name_here m k (net_of n.0) n.2 in
      ap (s.told.number []) name ∙ told_value design.modules design.top is_design m at k n.0 n.1 env nets s.told told ∙ ap (λ x. (run s.told.cycle).net x) (sym name)

  pub fit : Fit m (told_at s m)
  fit k net got =
      let low : k < length (nets_of m) = slice_get_within (nets_of m) k net got in
      let n = net_here m k low in
      let same : net_of n.0 ≡ net = same_Some (net_of n.0) net (sym n.2 ∙ got) in
      let name : name_at (nets_of m) k ≡ n.0.name = name_here m k (net_of n.0) n.2 in
      subst (λ (x : Net). told_at s m k < 2 ^ x.bits) same (subst (λ x. s.told.number [] x < 2 ^ n.0.bits) (sym name) (told_fits design.modules design.top is_design m at k n.0 n.1 env nets s.told told env_fits r))

  pub first_turn : (before : List ℕ) → s.told.cycle ≡ 0 → cycle_line s.told.cycle ++ turn_lines (s.told.cycle == 0) before (told_at s m) (nets_of m) ≡ cycle_text (nets_of m) v 0
  first_turn before is =
      let q : ℕ → ℕ = told_at s m in
      ap (λ (c : ℕ). cycle_line c ++ turn_lines (c == 0) before q (nets_of m)) is
      ∙ ap (λ (l : Bytes). cycle_line 0 ++ l) (lines_alike (turn_line true before q) (net_line v 0) (nets_of m) (λ i x got.
      (let low : i < length (nets_of m) = slice_get_within (nets_of m) i x got in ap (λ (z : ℕ). change_line i x.bits z) (told_is i low ∙ ap (λ (c : ℕ). v c i) is))))

  pub next_turn : (before : List ℕ) (n : ℕ) → s.told.cycle ≡ suc n → ((k : ℕ) → k < length (nets_of m) → get_or before k 0 ≡ v n k)
      → cycle_line s.told.cycle ++ turn_lines (s.told.cycle == 0) before (told_at s m) (nets_of m) ≡ cycle_text (nets_of m) v (suc n)
  next_turn before n is kept =
      let q : ℕ → ℕ = told_at s m in
      ap (λ (c : ℕ). cycle_line c ++ turn_lines (c == 0) before q (nets_of m)) is
      ∙ ap (λ (b : Bool). cycle_line (suc n) ++ turn_lines b before q (nets_of m)) (not_first n)
      ∙ ap (λ (l : Bytes). cycle_line (suc n) ++ l) (lines_alike (turn_line false before q) (net_line v (suc n)) (nets_of m) (λ i x got.
      (let low : i < length (nets_of m) = slice_get_within (nets_of m) i x got in
      ap (λ (z : ℕ). cond (not (z == get_or before i 0)) (change_line i x.bits z) []) (told_is i low ∙ ap (λ (c : ℕ). v c i) is)
      ∙ ap (λ (z : ℕ). cond (not (v (suc n) i == z)) (change_line i x.bits (v (suc n) i)) []) (kept i low))))
