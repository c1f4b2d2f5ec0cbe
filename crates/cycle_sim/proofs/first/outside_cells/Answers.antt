use Rattle.std.proofs.Common.{◌≡◌, ◌<◌, ◌+◌, ◌++◌, ◌∷◌, [], ℕ, get_or, length, sym, ap, subst, ◌∙◌, arith}
use Rattle.std.proofs.lemmas.List.{length_push}
use Rattle.vlog_design.specs.Environments.{lists_of}
use Rattle.sim_tape.specs.Operators.{cells_of}
use Rattle.cycle_sim.proofs.Starting.{cells_more}
use Rattle.cycle_sim.proofs.first.outside_cells.Goals as goal

pub loop-i-init : goal.loop-i-init
loop-i-init c = (search arith, λ j low. absurd (omega (arith, low)))

pub loop-i-preserved : goal.loop-i-preserved
loop-i-preserved c =
    let i = c.loop-i.i in
    let is : c.push.new.self.items ≡ c.loop-i.all.items ++ c.in_ok-one.one ∷ [] = c.in_ok-push.ensures.items in (
      ap length is ∙ length_push c.loop-i.all.items c.in_ok-one.one ∙ ap (λ n. n + 1) c.loop-i.invariant.0,
      subst (λ l. (j : ℕ) → j < i + 1 → get_or (cells_of l) j [] ≡ get_or (lists_of c.args.memories.now) j []) (sym is)
          (cells_more c.loop-i.all.items c.in_ok-one.one (λ j. get_or (lists_of c.args.memories.now) j []) i c.loop-i.invariant.0 c.loop-i.invariant.1 c.in_ok-one.ensures),
    )

pub returns-clause-lists : goal.returns-clause-lists
returns-clause-lists c = λ i low. c.loop-i.invariant.1 i (omega (arith, low, c.loop-i-test.false))
