-- Dual flows.
use Rattle.std.specs.Prelude.{◌≡◌, ℕ, ◌+◌, ◌*◌, ◌<◌, ◌≤◌, ◌==◌, true, if◌then◌else◌}
use Rattle.task_graph.specs.declared.Graph.{Graph}
use Rattle.task_graph.specs.Arcs.{streams, tail, head, width, inner, total}
use Rattle.flow_cert.specs.Balance.{IsEven, cost}

-- what a flow brings into a group, and what it takes out of it
abbrev pub inflow : Graph → (ℕ → ℕ) → ℕ → ℕ
inflow g flow v = total (streams g) (λ e. if head g e == v then flow e else 0)

abbrev pub outflow : Graph → (ℕ → ℕ) → ℕ → ℕ
outflow g flow v = total (streams g) (λ e. if tail g e == v then flow e else 0)

-- the net inflow of a group is that by the widths. An inner stream adds the same to both sides
abbrev pub IsKept : Graph → (ℕ → ℕ) → ℕ → Type 0
IsKept g flow v = inflow g flow v + outflow g (width g) v ≡ inflow g (width g) v + outflow g flow v

pub record IsDualFlow (g : Graph) (flow : ℕ → ℕ) : Type 0 where
  pub idle : (e : ℕ) → e < streams g → inner g e ≡ true → flow e ≡ 0
  pub kept : (v : ℕ) → v < g.groups → IsKept g flow v

-- latency times flow, summed. The value of a dual flow is that less latency times width
abbrev pub weight : Graph → (ℕ → ℕ) → (ℕ → ℕ) → ℕ
weight g lat flow = total (streams g) (λ e. lat e * flow e)

-- weighted by heights, the flow into the heads and the widths out of the tails equal the widths into the heads and the flow out of the tails
abbrev pub Levels : Graph → (ℕ → ℕ) → (ℕ → ℕ) → Type 0
Levels g f t = total (streams g) (λ e. f e * t (head g e)) + total (streams g) (λ e. width g e * t (tail g e)) ≡ total (streams g)
    (λ e. width g e * t (head g e)) + total (streams g) (λ e. f e * t (tail g e))

-- no dual flow's value is above the cost of an even balance
abbrev pub WeakDuality : Type 0
WeakDuality = (g : Graph) (lat bal flow : ℕ → ℕ) → IsEven g lat bal → IsDualFlow g flow → weight g lat flow ≤ weight g lat (width g) + cost g bal
