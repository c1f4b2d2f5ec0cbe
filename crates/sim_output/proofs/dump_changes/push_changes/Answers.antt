use Rattle.std.proofs.Common.{◌≡◌, ◌≢◌, ◌<◌, ◌≤◌, ◌+◌, ◌++◌, ◌||◌, cond, ℕ, Bool, List, [], length, get_or, take, set, refl, sym, ap, subst, ◌∙◌, inl, inr, append-nil, arith}
use Rattle.std.specs.Prelude.{◌⊎◌, ◌==◌, not}
use Rattle.std.proofs.lemmas.Bool.{cases_eq}
use Rattle.std.proofs.lemmas.List.{get_or-set_same, get_or-set_other, get_or_default, length-set}
use Rattle.std.proofs.Math.Seq.{take-length}
use Rattle.vcd_text.specs.Nets.{Net}
use Rattle.vcd_text.specs.Dump.{change_line}
use Rattle.cycle_sim.specs.Simulators.{sim_of}
use Rattle.sim_output.specs.Dumped.{nets_of, widths_of}
use Rattle.sim_output.specs.Turns.{told_at, turn_lines}
use Rattle.sim_output.proofs.Turning.{count, told_here, value_fits, more_turns}
use Rattle.sim_output.proofs.dump_changes.push_changes.Goals as goal

pub loop-net-init : goal.loop-net-init
loop-net-init c = record {
  count = refl;
  later = λ k low. refl;
  kept = λ m at are k low. absurd (omega arith);
  lines = λ m at are fit. sym (append-nil c.args.text.now.items);
}

pub loop-net-preserved : goal.loop-net-preserved
loop-net-preserved c =
    let s = sim_of c.args.sim.now in
    let net = c.loop-net.net in
    let vs : List ℕ = c.loop-net.values.items in
    let old : List ℕ = c.args.values.now.items in
    let widths : List ℕ = c.args.widths.now in
    let v = c.value-value.result in
    let last = c.index-before.result.now in
    let low : net < length widths = omega (arith, c.loop-net-test.true) in
    let w : ℕ = get_or widths net 0 in
    let wide : w ≡ get_or widths net w = get_or_default widths net 0 w low in
    let long : net < length vs = omega (arith, low, c.loop-net.invariant.count, c.requires) in
    let held : last ≡ get_or old net 0 = c.index-before.ensures ∙ get_or_default vs net last 0 long ∙ c.loop-net.invariant.later net (omega arith) in
    record {
      count = length-set vs net v ∙ c.loop-net.invariant.count;
      later = λ k h. get_or-set_other vs net k v 0 (λ e. absurd (omega arith)) ∙ c.loop-net.invariant.later k (omega arith);
      kept = λ m at are k h. elim (cases_eq k net) [
        | inl e ↦ subst (λ (i : ℕ). get_or (set vs net v) i 0 ≡ told_at s m i) (sym e) (get_or-set_same vs net v 0 long ∙ told_here s m widths are net v low (λ d got. c.value-value.ensures.told m d at got))
        | inr ne ↦ get_or-set_other vs net k v 0 ne ∙ c.loop-net.invariant.kept m at are k (omega arith)
      ];
      lines = λ m at are fit.
          let told : v ≡ told_at s m net = told_here s m widths are net v low (λ d got. c.value-value.ensures.told m d at got) in
          let grown : c.push_if.new.text.items ≡ c.loop-net.text.items ++ cond (c.args.first || not (v == last)) (change_line net w v) [] =
          c.in_ok-push_if.ensures (value_fits s m widths are net w v low wide told fit) ∙ ap (λ (b : Bool). c.loop-net.text.items ++ cond b (change_line net w v) []) c.is_change.ensures in
          more_turns s m widths are c.args.first old net w v last low wide told held c.args.text.now.items c.loop-net.text.items c.push_if.new.text.items (c.loop-net.invariant.lines m at are fit) grown;
    }

pub returns-clause-lines : goal.returns-clause-lines
returns-clause-lines c = λ m at are fit.
    let s = sim_of c.args.sim.now in
    let stop : c.loop-net.net ≡ length (nets_of m) = omega (arith, c.loop-net-test.false, count s m c.args.widths.now are) in
    c.loop-net.invariant.lines m at are fit ∙ ap (λ (n : ℕ). c.args.text.now.items ++ turn_lines c.args.first c.args.values.now.items (told_at s m) (take n (nets_of m))) stop
    ∙ ap (λ (l : List Net). c.args.text.now.items ++ turn_lines c.args.first c.args.values.now.items (told_at s m) l) (take-length (nets_of m))

pub returns-clause-kept : goal.returns-clause-kept
returns-clause-kept c = λ m at are k low.
    c.loop-net.invariant.kept m at are k (omega (arith, low, c.loop-net-test.false, count (sim_of c.args.sim.now) m c.args.widths.now are))
