-- A design in an environment has one dump.
use Rattle.std.proofs.Common.{◌≡◌, ℕ, zero, suc, List, [], ◌∷◌, ◌++◌, Option, Some, refl, sym, ap, subst, ◌∙◌}
use Rattle.std.specs.Prelude.{◌==◌, not, if◌then◌else◌, slice_get}
use Rattle.std.proofs.lemmas.Option.{same_Some, slice_get_within}
use Rattle.tapa_base.specs.Gaps.{Bytes}
use Rattle.vlog_tree.specs.Cycle.{Cycle, Path}
use Rattle.vlog_tree.specs.Environment.{Environment}
use Rattle.vlog_tree.specs.Form.{ModuleTree}
use Rattle.vlog_tree.specs.Refused.{IsDesign}
use Rattle.vlog_design.specs.Designs.{DesignTree}
use Rattle.vlog_run_laws.specs.runs.Filled.{IsFilled, filled}
use Rattle.vlog_run_laws.specs.runs.OneRun.{IsRunFrom}
use Rattle.vlog_run_laws.proofs.runs.Filled as fill
use Rattle.vlog_run_laws.proofs.runs.Surround.{one_run_from}
use Rattle.tapa_base.proofs.Lists.{has_got}
use Rattle.cycle_sim.specs.Sims.{last_cycle}
use Rattle.cycle_sim.proofs.Showing.{shown_read}
use Rattle.vcd_text.specs.Nets.{Net}
use Rattle.vcd_text.specs.Dump.{Values, change_line, net_line, cycle_line, cycle_text, cycles_text, head_text}
use Rattle.sim_output.proofs.OneReport.{agree, same_done, done_once, some_done}
use Rattle.sim_output.specs.Dumped.{net_of, nets_of, values_in, dump_of, IsDumped}
use Rattle.sim_output.proofs.Listing.{lines_alike}
use Rattle.sim_output.proofs.Turning.{net_here, name_here}

-- ---- dumps of values that are the same

module _ (nets : List Net) (v w : Values) (same : (k : ℕ) (net : Net) → slice_get nets k ≡ Some net → (n : ℕ) → v n k ≡ w n k) where
  abbrev changed : ℕ → Net → ℕ → ℕ → Bytes
  changed k net now before = if not (now == before) then change_line k net.bits now else []

  line_same : (n k : ℕ) (net : Net) → slice_get nets k ≡ Some net → net_line v n k net ≡ net_line w n k net
  line_same zero k net got = ap (change_line k net.bits) (same k net got 0)
  line_same (suc n) k net got = ap (λ x. changed k net x (v n k)) (same k net got (suc n)) ∙ ap (changed k net (w (suc n) k)) (same k net got n)

  cycle_same : (n : ℕ) → cycle_text nets v n ≡ cycle_text nets w n
  cycle_same n = ap (λ (l : Bytes). cycle_line n ++ l) (lines_alike (net_line v n) (net_line w n) nets (λ k net got. line_same n k net got))

  cycles_same : (n : ℕ) → cycles_text nets v n ≡ cycles_text nets w n
  cycles_same zero = cycle_same 0
  cycles_same (suc n) = ap (λ (l : Bytes). l ++ cycle_text nets v (suc n)) (cycles_same n) ∙ ap (λ (l : Bytes). cycles_text nets w n ++ l) (cycle_same (suc n))

module _ (m : ModuleTree) (a b : ℕ → Cycle) (same : (k : ℕ) (net : Net) → slice_get (nets_of m) k ≡ Some net → (n : ℕ) → (a n).net net.name ≡ (b n).net net.name) where
  same_dump : (last : ℕ) → dump_of m a last ≡ dump_of m b last
  same_dump last =
      ap (λ (l : Bytes). head_text m.name (nets_of m) ++ l)
      (cycles_same (nets_of m) (values_in (nets_of m) a) (values_in (nets_of m) b)
      (λ k net got n. ap (λ x. (a n).net x) (name_here m k net got) ∙ same k net got n ∙ ap (λ x. (b n).net x) (sym (name_here m k net got))) last)

-- ---- the dump of a design

-- a design that runs in an environment up to a limit is done in one way, with one dump
pub one_dump : (design : DesignTree) → IsDesign design.modules design.top → (env : Environment) (limit : ℕ) (o p : Option ℕ) (t u : Bytes) → IsDumped design env limit o t → IsDumped design env limit p u → (o ≡ p) × (t ≡ u)
one_dump design is env limit o p t u h k =
    let top : h.top ≡ k.top = same_Some h.top k.top (sym h.is_top ∙ k.is_top) in
    let zeros : IsFilled design.modules h.top 0 k.contents = subst (λ (m : ModuleTree). IsFilled design.modules m 0 k.contents) (sym top) k.zeros in
    let run : IsRunFrom design.modules h.top env k.contents k.nets = subst (λ (m : ModuleTree). IsRunFrom design.modules m env k.contents k.nets) (sym top) k.run in
    let a : ℕ → Cycle = λ n. h.nets n [] in
    let b : ℕ → Cycle = λ n. k.nets n [] in
    let at = done_once a b (same_done design is env h.top h.is_top h.contents k.contents h.zeros zeros h.nets k.nets h.run run) limit o p h.done k.done in
    let alike : (j : ℕ) (net : Net) → slice_get (nets_of h.top) j ≡ Some net → (n : ℕ) → (a n).net net.name ≡ (b n).net net.name =
    λ j net got n.
    let d = net_here h.top j (slice_get_within (nets_of h.top) j net got) in
    let r = shown_read design.modules design.top is h.top h.is_top j d.0 d.1 in
    subst (λ x. (a n).net x ≡ (b n).net x) (ap (λ (y : Net). y.name) (same_Some (net_of d.0) net (sym d.2 ∙ got)))
    (agree design is env h.top h.is_top h.contents k.contents h.zeros zeros h.nets k.nets h.run run d.0.name r.0 r.1 n) in (
      at,
      h.shown
          ∙ same_dump h.top a b alike (last_cycle limit o)
          ∙ ap (λ (m : ModuleTree). dump_of m b (last_cycle limit o)) top
          ∙ ap (λ (z : Option ℕ). dump_of k.top b (last_cycle limit z)) at
          ∙ sym k.shown,
    )

pub some_dump : (design : DesignTree) → IsDesign design.modules design.top → (env : Environment) (limit : ℕ) → (o : Option ℕ) × (t : Bytes) × IsDumped design env limit o t
some_dump design is env limit =
    let top = is.one_top.0 in
    let at = is.one_top.1 in
    let contents : Path → Cycle = filled design.modules top 0 in
    let zeros : IsFilled design.modules top 0 contents = fill.is_filled design.modules top 0 is.sound (has_got design.modules design.top top at) in
    let only = one_run_from design.modules design.top top is at env contents (fill.fits design.modules top 0 contents zeros) in
    let run : ℕ → Cycle = λ n. only.run n [] in
    let d = some_done run limit in
    (d.0, dump_of top run (last_cycle limit d.0), record { top = top; is_top = at; contents = contents; zeros = zeros; nets = only.run; run = only.is; done = d.1; shown = refl })
