use Rattle.std.proofs.Common.{◌≡◌, ℕ, ◌<◌, ◌++◌, Some, length, drop, refl, sym, ap, ◌∙◌, arith, rules}
use Rattle.std.specs.Prelude.{false, slice_get, is_ok, if◌then◌else◌}
use Rattle.net_core.specs.Ports.{waiting}
use Rattle.std.proofs.lemmas.List.{drop-append-le}
use Rattle.std.proofs.lemmas.Option.{slice_get_read}
use Rattle.net_core.specs.declared.ports.Ports.{Ports}
use Rattle.net_core.specs.Ports.{Adjusted, waiting_in, held_in, space_in, space_at, port_count}
use Rattle.net_core.proofs.Moves.{adjust, adjusted_twice, get_set_same, port_count_is, space_grows, grown_twice}
use Rattle.net_core.proofs.ports.Ports.offer_more.Goals.{After-index_mut-port}
use Rattle.net_core.proofs.ports.Ports.offer_more.Goals as goal

still_there : (a b : Ports) (s : ℕ) → Adjusted a s b → s < port_count a → s < port_count b
still_there a b s h l =
    let x = port_count_is a in
    let y = port_count_is b in
    let z = ap length h.ends in
    omega arith

-- the port that is grown
module _ (c : After-index_mut-port) where
  there : c.args.s < port_count c.trim.new.self
  there = still_there c.args.self.now c.trim.new.self c.args.s c.trim.ensures.adjusted c.requires.port

  at : slice_get c.trim.new.self.ports.items c.args.s ≡ Some c.index_mut-port.result.now
  at = slice_get_read c.trim.new.self.ports.items _ c.args.s c.index_mut-port.result.now refl there c.index_mut-port.ensures.value

pub returns-clause-adjusted : goal.returns-clause-adjusted
returns-clause-adjusted c =
    adjusted_twice c.args.self.now c.trim.new.self _ c.args.s c.trim.ensures.adjusted (adjust c.trim.new.self _ c.args.s c.index_mut-port.result.now _ (at (goal.at.returns-clause-adjusted c).After-index_mut-port) refl refl refl)

pub returns-in_err-extend_from_slice-clause-adjusted : goal.returns-in_err-extend_from_slice-clause-adjusted
returns-in_err-extend_from_slice-clause-adjusted c =
    adjusted_twice c.args.self.now c.trim.new.self _ c.args.s c.trim.ensures.adjusted (adjust c.trim.new.self _ c.args.s c.index_mut-port.result.now _ (at (goal.at.returns-in_err-extend_from_slice-clause-adjusted c).After-index_mut-port) refl refl refl)

pub returns-clause-waits : goal.returns-clause-waits
returns-clause-waits c =
    let k = (goal.at.returns-clause-waits c).After-index_mut-port in
    ap waiting_in (get_set_same c.trim.new.self.ports.items c.args.s _ (there k))
    ∙ ap (drop c.index_mut-port.result.now.head) c.in_ok-extend_from_slice.ensures.items
    ∙ drop-append-le c.index_mut-port.result.now.head c.index_mut-port.result.now.tokens.items c.args.more.now c.index_mut-port.result.now.within
    ∙ ap (λ l. l ++ c.args.more.now) (sym (ap waiting_in (at k)) ∙ c.trim.ensures.waits)

pub returns-in_err-extend_from_slice-clause-waits : goal.returns-in_err-extend_from_slice-clause-waits
returns-in_err-extend_from_slice-clause-waits c =
    let k = (goal.at.returns-in_err-extend_from_slice-clause-waits c).After-index_mut-port in
    let no : is_ok c.from_residual.result ≡ false = search rules in
    ap waiting_in (get_set_same c.trim.new.self.ports.items c.args.s _ (there k))
    ∙ ap (drop c.index_mut-port.result.now.head) c.in_err-extend_from_slice.ensures.items
    ∙ (sym (ap waiting_in (at k)) ∙ c.trim.ensures.waits)
    ∙ ap (λ b. if b then waiting c.args.self.now c.args.s ++ c.args.more.now else waiting c.args.self.now c.args.s) (sym no)

pub returns-clause-space : goal.returns-clause-space
returns-clause-space c =
    let k = (goal.at.returns-clause-space c).After-index_mut-port in
    grown_twice (space_at c.args.self.now c.args.s) (space_at c.trim.new.self c.args.s) _ c.trim.ensures.space (space_grows c.trim.new.self.ports.items c.args.s c.index_mut-port.result.now _ (at k) c.in_ok-extend_from_slice.ensures.capacity)

pub returns-in_err-extend_from_slice-clause-space : goal.returns-in_err-extend_from_slice-clause-space
returns-in_err-extend_from_slice-clause-space c =
    let k = (goal.at.returns-in_err-extend_from_slice-clause-space c).After-index_mut-port in
    grown_twice (space_at c.args.self.now c.args.s) (space_at c.trim.new.self c.args.s) _ c.trim.ensures.space (space_grows c.trim.new.self.ports.items c.args.s c.index_mut-port.result.now _ (at k) c.in_err-extend_from_slice.ensures.capacity)

pub returns-in_err-extend_from_slice-clause-succeeds : goal.returns-in_err-extend_from_slice-clause-succeeds
returns-in_err-extend_from_slice-clause-succeeds c = λ enough.
    let k = (goal.at.returns-in_err-extend_from_slice-clause-succeeds c).After-index_mut-port in
    let held = ap held_in (at k) in
    let space = ap space_in (at k) in
    let few = c.trim.ensures.few in
    let before = c.trim.ensures.space in
    let full = c.in_err-extend_from_slice.ensures.full in
    absurd (omega arith)
