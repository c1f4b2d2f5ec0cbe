-- Nets that are joined by instances have the same numbers.
use Rattle.std.proofs.Common.{◌≡◌, ℕ, List, ◌∷◌, Option, None, get_or, sym, ap, ◌∙◌, Some}
use Rattle.std.specs.Prelude.{option_and_then, is_some, IfSome, IsSome}
use Rattle.std.specs.List.{AllByRecursion}
use Rattle.vlog_tree.specs.declared.tree.Connection.{Connection}
use Rattle.vlog_tree.specs.declared.tree.Item.TheVariants.{Instance}
use Rattle.vlog_tree.specs.Form.{ModuleTree}
use Rattle.vlog_tree.specs.Flattened.{FlatNet}
use Rattle.vlog_tree.specs.Cycle.{Cycle, Path, Connected}
use Rattle.sim_tape.specs.declared.gates.Pair.{Pair}
use Rattle.sim_tape.specs.Tape.{pair_value}
use Rattle.sim_gates.proofs.AtomSlots.{each_is}
use Rattle.sim_flat.specs.declared.flat.Flat.{Flat}
use Rattle.sim_flat.specs.Flat.{AreJoined, IsLink}
use Rattle.sim_design.specs.Valuations.{IsValuation}
use Rattle.sim_design.specs.States.{ShowsPlaced, PartsPlaced}
use Rattle.tapa_base.proofs.Got.{all_at}

module _ (ms : List ModuleTree) (top : ModuleTree) where
  pub same_number : (port net : FlatNet) → AreJoined ms top port net → (c : Path → Cycle) → IsValuation ms top c → (c port.0).net port.1 ≡ (c net.0).net net.1
  same_number port net j c v =
      let all : AllByRecursion (λ l. (c (j.name ∷ net.0)).net l.port ≡ (c net.0).net l.net) j.connections = all_at (Connected c net.0) j.tree.items (Instance j.module_name j.name j.connections) (v.connections net.0 j.tree j.at) j.line in
      let one : (c (j.name ∷ net.0)).net j.connection.port ≡ (c net.0).net j.connection.net = all_at (λ (l : Connection). (c (j.name ∷ net.0)).net l.port ≡ (c net.0).net l.net) j.connections j.connection all j.connected in
      ap (λ (q : FlatNet). (c q.0).net q.1) j.port_is ∙ one ∙ ap (λ y. (c net.0).net y) (sym j.net_is)

  module _ (f : Flat) (pairs : List (Option Pair)) (n : FlatNet) (J : FlatNet → FlatNet → Type 0) (same : (b : FlatNet) → J n b → (c : Path → Cycle) → IsValuation ms top c → (c n.0).net n.1 ≡ (c b.0).net b.1)
      (answer : Option ℕ) (link : IsLink ms top f n J answer) (found : Option Pair) (is : found ≡ option_and_then (λ k. get_or pairs k None) answer) where
    got : found ≡ get_or pairs link.number None
    got = is ∙ ap (λ o. option_and_then (λ k. get_or pairs k None) o) link.is

    -- the pair of a linked net has the number
    pub linked : IfSome found (λ p. (c : Path → Cycle) (ns : List ℕ) → IsValuation ms top c → ShowsPlaced ms f pairs c ns → (c n.0).net n.1 ≡ pair_value ns p)
    linked = each_is (λ p. (c : Path → Cycle) (ns : List ℕ) → IsValuation ms top c → ShowsPlaced ms f pairs c ns → (c n.0).net n.1 ≡ pair_value ns p) found (get_or pairs link.number None) got
        (λ p e c ns v shows. same link.net link.joined c v ∙ shows link.number link.net p link.has_number e)

    pub linked_there : PartsPlaced ms top f pairs n → IsSome found
    linked_there placed = ap (λ o. is_some o) got ∙ placed link.number link.net link.has_number link.part

-- what holds whatever the value is
pub if_some : {A : Type 0} (P : Type 0) (o : Option A) → P → IfSome o (λ x. P)
if_some P None h = tt
if_some P (Some x) h = h
