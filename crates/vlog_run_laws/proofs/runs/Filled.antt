-- Numbers cut to a width fit it.
use Rattle.std.proofs.Common.{ℕ, ◌%◌, ◌^◌, ◌<◌, List, Some, inl, refl, sym, ap, subst}
use Rattle.std.specs.List.{AllByRecursion}
use Rattle.std.proofs.Math.Nat.{mod-lt}
use Rattle.std.proofs.Math.Pow.{pow_pos}
use Rattle.vlog_tree.specs.declared.tree.Item.{Item}
use Rattle.vlog_tree.specs.declared.tree.Item.TheVariants.{Wire, Reg, Memory, Assign, Always, Instance}
use Rattle.vlog_tree.specs.declared.table.NetKind.TheVariants.{Register, MemoryArray}
use Rattle.vlog_tree.specs.Form.{ModuleTree}
use Rattle.tapa_base.specs.Lists.{Has}
use Rattle.vlog_tree.specs.Cycle.{Cycle, Path, PowersUp}
use Rattle.vlog_tree.specs.Refused.{IsSound}
use Rattle.vlog_run_laws.specs.runs.Filled.{HoldsFill, IsFilled, filled, filled_module}
use Rattle.vlog_run_laws.specs.runs.OneRun.{FitsPowerUp}
use Rattle.vlog_run_laws.proofs.runs.Settled.{module_in}
use Rattle.vlog_run_laws.proofs.runs.Sizes.{declared_bits, has_line}
use Rattle.tapa_base.proofs.Got.{all_at, all_from}

pub cut_below : (n w : ℕ) → n % 2 ^ w < 2 ^ w
cut_below n w = mod-lt n (pow_pos w)

fill_fits : (fill : ℕ) (c : Cycle) (it : Item) → HoldsFill fill c it → PowersUp c it
fill_fits fill c (Reg w x) h = subst (λ v. v < 2 ^ w) (sym h) (cut_below fill w)
fill_fits fill c (Memory w m n) h = λ a low. subst (λ v. v < 2 ^ w) (sym (h a low)) (cut_below fill w)
fill_fits fill c (Wire w x) h = tt
fill_fits fill c (Assign x e) h = tt
fill_fits fill c (Always b) h = tt
fill_fits fill c (Instance m i connections) h = tt

pub fits : (ms : List ModuleTree) (top : ModuleTree) (fill : ℕ) (contents : Path → Cycle) → IsFilled ms top fill contents → FitsPowerUp ms top contents
fits ms top fill contents h path m at = all_from (PowersUp (contents path)) m.items (λ it has. fill_fits fill (contents path) it (all_at (HoldsFill fill (contents path)) m.items it (h path m at) has))

module _ (ms : List ModuleTree) (sound : IsSound ms) (fill : ℕ) (m : ModuleTree) (in_ms : Has ms m) where
  line_filled : (it : Item) → Has m.items it → HoldsFill fill (filled_module fill (Some m)) it
  line_filled (Reg w x) has = ap (λ k. fill % 2 ^ k) (declared_bits m ms sound.names in_ms _ (has_line m ms sound.names in_ms (Reg w x) has (record { name = x; net_kind = Register; bits = w; cells = 0 }) (inl refl)))
  line_filled (Memory w x n) has = λ a low. ap (λ k. fill % 2 ^ k) (declared_bits m ms sound.names in_ms _ (has_line m ms sound.names in_ms (Memory w x n) has (record { name = x; net_kind = MemoryArray; bits = w; cells = n }) (inl refl)))
  line_filled (Wire w x) has = tt
  line_filled (Assign x e) has = tt
  line_filled (Always b) has = tt
  line_filled (Instance k i connections) has = tt

pub is_filled : (ms : List ModuleTree) (top : ModuleTree) (fill : ℕ) → IsSound ms → Has ms top → IsFilled ms top fill (filled ms top fill)
is_filled ms top fill sound in_top path m at =
    subst (λ o. AllByRecursion (HoldsFill fill (filled_module fill o)) m.items) (sym at)
    (all_from (HoldsFill fill (filled_module fill (Some m))) m.items (line_filled ms sound fill m (module_in ms top in_top path m at)))
