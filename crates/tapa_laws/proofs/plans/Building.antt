-- What a circuit adds by a plan is what the lines of the plan show, of graphs and devices that are one as plain data.
use Rattle.std.proofs.Common.{◌≡◌, ℕ, ◌+◌, ◌-◌, ◌*◌, ◌/◌, ◌%◌, ◌<◌, ◌≤◌, true, List, length, sym, ap, subst, ◌∙◌, arith}
use Rattle.std.specs.Prelude.{slice_index}
use Rattle.std.proofs.lemmas.Grind.{same_number_lists}
use Rattle.task_graph.specs.declared.Edge.{Edge}
use Rattle.task_graph.specs.declared.Graph.{Graph}
use Rattle.task_graph.specs.Arcs.{streams, tail, head, total}
use Rattle.task_graph.specs.Streams.{from_of, to_of, width_of}
use Rattle.flow_cert.specs.Balance.{cost}
use Rattle.flow_cert.specs.Verdicts.{balance_of}
use Rattle.flow_cert.proofs.Sums.{total_same}
use Rattle.latency_balance.specs.declared.balance.Balance.{Balance}
use Rattle.latency_balance.specs.Earliest.{Spaces, left_by, IsEarliest}
use Rattle.latency_balance.specs.Result.{IsBalance}
use Rattle.plan_device.specs.One.{AreAlike}
use Rattle.plan_device.specs.declared.device.Device.{Device}
use Rattle.plan_report.specs.Added.{AreAdded}
use Rattle.plan_report.specs.Borders.{crossed, border_latency, AreBorderLatencies}
use Rattle.plan_report.proofs.OneAdded.{one_borders}
use Rattle.tapa_laws.specs.plans.OneGraph.{AreAlikeGraphs}
use Rattle.tapa_laws.proofs.plans.Over.{flip_graphs}

-- ---- streams

module _ (g h : Graph) (a : AreAlikeGraphs g h) where
  stream_back : (e : ℕ) → e < streams h → e < streams g
  stream_back e inside = subst (λ (edges : List Edge). e < length edges) (sym a.edges) inside

  tail_same : (e : ℕ) → tail g e ≡ tail h e
  tail_same e =
      ap (λ (group : List ℕ). slice_index group (from_of g.edges.items e)) a.group ∙ ap (λ (edges : List Edge). slice_index h.group.items (from_of edges e)) a.edges

  head_same : (e : ℕ) → head g e ≡ head h e
  head_same e =
      ap (λ (group : List ℕ). slice_index group (to_of g.edges.items e)) a.group ∙ ap (λ (edges : List Edge). slice_index h.group.items (to_of edges e)) a.edges

  spaces_over : (lat t : ℕ → ℕ) → Spaces g lat t → Spaces h lat t
  spaces_over lat t is = λ e inside.
      subst (λ (x : ℕ). t x + lat e ≤ t (head h e)) (tail_same e) (subst (λ (y : ℕ). t (tail g e) + lat e ≤ t y) (head_same e) (is e (stream_back e inside)))

  left_same : (lat t : ℕ → ℕ) (e : ℕ) → left_by g lat t e ≡ left_by h lat t e
  left_same lat t e = ap (λ (y : ℕ). t y - t (tail g e) - lat e) (head_same e) ∙ ap (λ (x : ℕ). t (head h e) - t x - lat e) (tail_same e)

  abbrev cost_by : List Edge → (ℕ → ℕ) → ℕ
  cost_by edges added = total (length edges) (λ e. width_of edges e * added e)

  left_cost_same : (lat t : ℕ → ℕ) → cost g (left_by g lat t) ≡ cost h (left_by h lat t)
  left_cost_same lat t =
      total_same (length g.edges.items) _ _ (λ e l. ap (λ (x : ℕ). width_of g.edges.items e * x) (left_same lat t e))
      ∙ ap (λ (edges : List Edge). cost_by edges (left_by h lat t)) a.edges

earliest_over : (g h : Graph) (a : AreAlikeGraphs g h) (lat s : ℕ → ℕ) → IsEarliest g lat s → IsEarliest h lat s
earliest_over g h a lat s is =
    let there : (t : ℕ → ℕ) → cost g (left_by g lat t) ≡ cost h (left_by h lat t) = left_cost_same g h a lat in record {
      spaces = spaces_over g h a lat s is.spaces;
      least = λ t spaces.
          (let x = there s in let y = there t in let less = is.least t (spaces_over h g (flip_graphs g h a) lat t spaces) in omega arith);
      first = λ t spaces cheap v inside.
          is.first t (spaces_over h g (flip_graphs g h a) lat t spaces) (let x = there s in let y = there t in omega arith) v (subst (λ (n : ℕ). v < n) (sym a.groups) inside);
    }

-- each of two earliest is no later than the other
no_later : (g : Graph) (lat s t : ℕ → ℕ) → IsEarliest g lat s → IsEarliest g lat t → (v : ℕ) → v < g.groups → s v ≤ t v
no_later g lat s t a b v inside = a.first t b.spaces (b.least s a.spaces) v inside

-- ---- borders

module _ (g h : Graph) (d e : Device) (a : AreAlikeGraphs g h) (b : AreAlike d e) where
  abbrev border_by : List ℕ → List ℕ → ℕ → ℕ → ℕ → ℕ
  border_by rows cols n from to = crossed rows (from / n) (to / n) + crossed cols (from % n) (to % n)

  border_same : (from to : ℕ) → border_latency d from to ≡ border_latency e from to
  border_same from to =
      ap (λ (rows : List ℕ). border_by rows d.levels_cols.items d.cols from to) b.levels_rows
      ∙ (ap (λ (cols : List ℕ). border_by e.levels_rows.items cols d.cols from to) b.levels_cols ∙ ap (λ (n : ℕ). border_by e.levels_rows.items e.levels_cols.items n from to) b.cols)

  borders_over : (slots lat : List ℕ) → AreBorderLatencies g d slots lat → AreBorderLatencies h e slots lat
  borders_over slots lat is = record {
    long = is.long ∙ ap (λ (edges : List Edge). length edges) a.edges;
    value = λ s inside.
        is.value s (stream_back g h a s inside)
        ∙ (border_same (slice_index slots (tail g s)) (slice_index slots (head g s))
        ∙ (ap (λ (x : ℕ). border_latency e (slice_index slots x) (slice_index slots (head g s))) (tail_same g h a s)
        ∙ ap (λ (y : ℕ). border_latency e (slice_index slots (tail h s)) (slice_index slots y)) (head_same g h a s)));
  }

  -- the border latencies of a plan, and what its balance leaves of each stream, are the same by both
  pub balance_same : (slots lat more : List ℕ) (balance other : Balance) → AreBorderLatencies g d slots lat → AreBorderLatencies h e slots more → IsBalance g lat balance → IsBalance h more other
      → (lat ≡ more) × ((s : ℕ) → s < streams g → balance_of g lat balance.s.items s ≡ balance_of h more other.s.items s)
  balance_same slots lat more balance other borders more_borders best is =
      let same : lat ≡ more = one_borders h e slots lat more (borders_over slots lat borders) more_borders in
      let here : IsEarliest h (slice_index more) (slice_index balance.s.items) =
      earliest_over g h a (slice_index more) (slice_index balance.s.items)
      (subst (λ (xs : List ℕ). IsEarliest g (slice_index xs) (slice_index balance.s.items)) same best.earliest) in
      let times : balance.s.items ≡ other.s.items =
      same_number_lists balance.s.items other.s.items (best.lists.times ∙ (a.groups ∙ sym is.lists.times))
      (λ v l.
      let within : v < h.groups = (let n = best.lists.times in let m = a.groups in omega arith) in
      let x = no_later h (slice_index more) (slice_index other.s.items) (slice_index balance.s.items) is.earliest here v within in
      let y = no_later h (slice_index more) (slice_index balance.s.items) (slice_index other.s.items) here is.earliest v within in
      omega arith) in (
        same,
        λ s inside.
            left_same g h a (slice_index lat) (slice_index balance.s.items) s
            ∙ (ap (λ (xs : List ℕ). balance_of h xs balance.s.items s) same ∙ ap (λ (xs : List ℕ). balance_of h more xs s) times),
      )

  -- what is added by one is what the other's latencies and balance come to
  pub added_same : (slots lat : List ℕ) (balance : Balance) (added : List ℕ) → AreBorderLatencies g d slots lat → IsBalance g lat balance → AreAdded h e slots true added
      → (s : ℕ) → s < streams g → slice_index added s ≡ slice_index lat s + balance_of g lat balance.s.items s
  added_same slots lat balance added borders best are s inside =
      let same = balance_same slots lat are.lat balance are.adds.balance borders are.borders best are.adds.best in
      let there : s < streams h = subst (λ (edges : List Edge). s < length edges) a.edges inside in
      are.adds.sums s there
      ∙ (ap (λ (xs : List ℕ). slice_index xs s + slice_index are.adds.balance.bal.items s) (sym same.0)
      ∙ ap (λ (n : ℕ). slice_index lat s + n) (are.adds.best.bal s there ∙ sym (same.1 s inside)))
