-- Where no store is made and no memory around is written, all cells stay.
use Rattle.std.proofs.Common.{◌≡◌, ℕ, zero, suc, cond, List, [], ◌∷◌, refl, sym, ap, ◌∙◌}
use Rattle.std.specs.Prelude.{Bool, false}
use Rattle.vlog_tree.specs.Environment.{set_cell}
use Rattle.sim_tape.specs.Tape.{number_at}
use Rattle.sim_gates.specs.declared.writes.Store.{Store}
use Rattle.cycle_sim.specs.declared.cells.Outside.{Outside}
use Rattle.cycle_sim.specs.Steps.{put_list, stored_list, stored_all, is_made, outside_list, is_written}
use Rattle.cycle_sim.specs.Writes.{AreUnmade}

-- the choice that a false test makes
chosen : {A : Type 0} (b : Bool) (x y : A) → b ≡ false → y ≡ cond b x y
chosen b x y e = ap (λ t. cond t x y) (sym e)

pub stored_same : (ns : List ℕ) (m : ℕ) (cells : List ℕ) (stores : List Store) → AreUnmade ns stores → cells ≡ stored_all ns m cells stores
stored_same ns m cells [] unmade = refl
stored_same ns m cells (t ∷ stores) unmade =
    let here : cells ≡ stored_list ns t m cells =
    chosen (is_made ns t) (put_list t.memory.high (number_at ns t.at.low) (number_at ns t.value.high) m (put_list t.memory.low (number_at ns t.at.low) (number_at ns t.value.low) m cells)) cells (unmade zero t refl) in
    stored_same ns m cells stores (λ i u g. unmade (suc i) u g) ∙ ap (λ l. stored_all ns m l stores) here

pub asked_same : (ns : List ℕ) (o : Outside) (cells : List ℕ) → is_written ns o ≡ false → cells ≡ outside_list ns o cells
asked_same ns o cells e = chosen (is_written ns o) (set_cell cells (number_at ns o.addr.low) (number_at ns o.wdata)) cells e
