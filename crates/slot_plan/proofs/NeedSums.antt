-- What groups need.
use Rattle.std.proofs.Common.{◌≡◌, ℕ, ◌+◌, ◌*◌, ◌^◌, ◌<◌, ◌≤◌, List, [], ◌∷◌, ◌++◌, length, get_or, sym, ap, ◌∙◌, arith, ⊎_elim, length-append}
use Rattle.std.specs.Prelude.{if◌then◌else◌, ◌==◌}
use Rattle.task_graph.specs.declared.Graph.{Graph}
use Rattle.task_graph.specs.declared.Use.{Use}
use Rattle.task_graph.specs.Streams.{amount, amount_at}
use Rattle.task_graph.specs.Arcs.{total}
use Rattle.plan_device.specs.declared.device.Device.{Device}
use Rattle.slot_plan.specs.Plan.{need_of}
use Rattle.slot_plan.proofs.Uses.{amount_push}

-- the part of a need over the first n instances
abbrev pub need_part : Graph → Device → ℕ → ℕ → ℕ → ℕ
need_part g d n v k = total n (λ i. if get_or g.group.items i 0 == v then amount_at d.uses.items i k else 0)

pub record IsNeedPart (g : Graph) (d : Device) (n v : ℕ) (sum : Use) : Type 0 where
  pub value : (k : ℕ) → amount sum k ≡ need_part g d n v k
  pub low : (k : ℕ) → amount sum k ≤ n * 1099511627775

-- the needs of the groups so far
pub record AreNeedsBelow (g : Graph) (d : Device) (n : ℕ) (needs : List Use) : Type 0 where
  pub long : length needs ≡ n
  pub value : (v k : ℕ) → v < n → amount_at needs v k ≡ need_of g d v k
  pub small : (v k : ℕ) → amount_at needs v k < 2 ^ 49

pub needs_push : (g : Graph) (d : Device) (n : ℕ) (needs : List Use) (u : Use) → ((k : ℕ) → amount u k ≡ need_of g d n k) → ((k : ℕ) → amount u k < 2 ^ 49) → AreNeedsBelow g d n needs → AreNeedsBelow g d (n + 1) (needs ++ u ∷ [])
needs_push g d n needs u is small h = record {
  long = (let a = length-append needs (u ∷ []) in let b = h.long in omega arith);
  value = λ v k l. ⊎_elim
      (λ w. w.1 ∙ h.value v k (let a = h.long in let b = w.0 in omega arith))
      (λ w. ⊎_elim
      (λ y. y.1 ∙ (is k ∙ ap (λ j. need_of g d j k) (sym (y.0 ∙ h.long))))
      (λ z. absurd (let a = z.0 in let b = h.long in omega arith))
      w)
      (amount_push needs u v k);
  small = λ v k. ⊎_elim
      (λ w. let a = h.small v k in let b = w.1 in omega arith)
      (λ w. ⊎_elim (λ y. let a = small k in let b = y.1 in omega arith) (λ z. let b = z.1 in omega arith) w)
      (amount_push needs u v k);
}
