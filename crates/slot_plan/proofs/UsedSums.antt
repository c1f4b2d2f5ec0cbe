-- What the groups of each slot use, group by group.
use Rattle.std.proofs.Common.{◌≡◌, ℕ, ◌+◌, ◌*◌, ◌^◌, ◌<◌, ◌≤◌, List, length, get_or, set, refl, sym, ap, ◌∙◌, arith, add-one, ⊎_elim, length-set}
use Rattle.std.specs.Prelude.{if◌then◌else◌, ◌==◌}
use Rattle.task_graph.specs.declared.Graph.{Graph}
use Rattle.task_graph.specs.declared.Use.{Use}
use Rattle.task_graph.specs.Streams.{amount, amount_at}
use Rattle.task_graph.specs.Arcs.{total}
use Rattle.plan_device.specs.declared.device.Device.{Device}
use Rattle.slot_plan.specs.Causes.{AreUsed}
use Rattle.slot_plan.specs.Plan.{need_of, IsPlanOf, AreNeeds}
use Rattle.flow_cert.proofs.Sums.{total_same}
use Rattle.slot_plan.proofs.Sums.{pick_same, pick_other}
use Rattle.slot_plan.proofs.Uses.{amount_set}

-- what the first n groups use of a kind in a slot
abbrev pub used_below : List Use → List ℕ → ℕ → ℕ → ℕ → ℕ
used_below needs p n s k = total n (λ v. if get_or p v 0 == s then amount_at needs v k else 0)

pub record AreUsedBelow (d : Device) (needs : List Use) (p : List ℕ) (n : ℕ) (used : List Use) : Type 0 where
  pub long : length used ≡ length d.slots.items
  pub value : (s k : ℕ) → s < length d.slots.items → amount_at used s k ≡ used_below needs p n s k
  pub low : (s k : ℕ) → s < length d.slots.items → amount_at used s k ≤ n * 562949953421311

pub used_more : (d : Device) (needs : List Use) (p : List ℕ) (n : ℕ) (used : List Use) (sum : Use) → get_or p n 0 < length d.slots.items → ((k : ℕ) → amount_at needs n k < 2 ^ 49) → ((k : ℕ) → amount sum k ≡ amount_at used (get_or p n 0) k + amount_at needs n k) → AreUsedBelow d needs p n used → AreUsedBelow d needs p (n + 1) (set used (get_or p n 0) sum)
used_more d needs p n used sum l small is h =
    let s = get_or p n 0 in
    let inside : s < length used = (let a = h.long in omega arith) in
    let more : (t k : ℕ) → used_below needs p (n + 1) t k ≡ used_below needs p n t k + (if s == t then amount_at needs n k else 0) = (λ t k. rw add-one refl) in
    record {
      long = length-set used s sum ∙ h.long;
      value = λ t k lt. (
          let m = more t k in
          let v = h.value t k lt in
          ⊎_elim
          (λ w.
          let a = is k in
          let b = pick_same s t (amount_at needs n k) (sym w.0) in
          let c = ap (λ (x : ℕ). amount_at used x k) w.0 in
          let y = w.1 in omega arith)
          (λ w.
          let b = pick_other s t (amount_at needs n k) (λ e. w.0 (sym e)) in
          let y = w.1 in omega arith)
          (amount_set used s t k sum inside));
      low = λ t k lt. (
          let v = h.low t k lt in
          let o = small k in
          ⊎_elim
          (λ w.
          let a = is k in
          let c = ap (λ (x : ℕ). amount_at used x k) w.0 in
          let y = w.1 in omega arith)
          (λ w. let y = w.1 in omega arith)
          (amount_set used s t k sum inside));
    }

pub used_all : (g : Graph) (d : Device) (needs : List Use) (p : List ℕ) (n : ℕ) (used : List Use) → AreNeeds g d needs → IsPlanOf g d p → n ≡ g.groups → AreUsedBelow d needs p n used → AreUsed g d p used
used_all g d needs p n used needed plan e h = record {
  long = h.long;
  value = λ s k l. (
      let a = h.value s k l in
      let b : used_below needs p n s k ≡ total n (λ v. if get_or p v 0 == s then need_of g d v k else 0) = total_same n _ _ (λ v lv. ap (λ (x : ℕ). if get_or p v 0 == s then x else 0) (needed.value v k (omega arith))) in
      let c = ap (λ (m : ℕ). total m (λ v. if get_or p v 0 == s then need_of g d v k else 0)) (e ∙ sym plan.whole) in
      omega arith);
}
