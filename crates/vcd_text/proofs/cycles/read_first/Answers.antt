use Rattle.std.proofs.Common.{◌≡◌, ◌+◌, ◌++◌, ◌∷◌, [], ℕ, List, length, get_or, sym, ap, subst, ◌∙◌, arith}
use Rattle.std.specs.Prelude.{Some, None, slice_get}
use Rattle.std.proofs.lemmas.List.{length_push, length-append, length-map}
use Rattle.std.proofs.lemmas.Option.{none-some, slice_get-get_or}
use Rattle.tapa_base.specs.declared.shape.Port.{Port}
use Rattle.tapa_base.specs.Gaps.{Bytes}
use Rattle.vcd_text.specs.Dump.{change_line}
use Rattle.vcd_text.specs.Read.{port_of}
use Rattle.vcd_text.specs.Rest.{Left, Serves}
use Rattle.vcd_text.specs.declared.dump.Change.{Change}
use Rattle.vcd_text.specs.declared.halt.Halt.TheVariants.{Stopped}
use Rattle.vcd_text.proofs.Common.{exit_err}
use Rattle.vcd_text.proofs.Reading.{serves_self}
use Rattle.vcd_text.proofs.Knowing.{push_fits, serve_first, serve_first_stop}
use Rattle.vcd_text.proofs.cycles.read_first.Goals as goal

pub loop-net-init : goal.loop-net-init
loop-net-init c = record {
  short = omega arith;
  count = ap (λ (l : List ℕ). length l) c.new-values.ensures.items;
  fit = λ i p v at is. absurd (none-some v (ap (λ (l : List ℕ). slice_get l i) (sym c.new-values.ensures.items) ∙ is));
  serves = λ xs same. subst (λ (l : List ℕ). Serves (Left xs 0 0 (λ _. None) []) c.args.text.now (Left xs 0 0 (slice_get l) c.new-changes.result.items) c.args.text.now) (sym c.new-values.ensures.items)
      (subst (λ (l : List Change). Serves (Left xs 0 0 (λ _. None) []) c.args.text.now (Left xs 0 0 (λ _. None) l) c.args.text.now) (sym c.new-changes.ensures.items) (serves_self (Left xs 0 0 (λ _. None) []) c.args.text.now));
}

pub change_at-requires-clause-low : goal.change_at-requires-clause-low
change_at-requires-clause-low c = (c.requires.bits c.loop-net.net (get_or c.args.nets.now c.loop-net.net c.index-nets-net.result) (slice_get-get_or c.args.nets.now c.loop-net.net c.index-nets-net.result c.loop-net-test.true)).0

pub change_at-requires-clause-high : goal.change_at-requires-clause-high
change_at-requires-clause-high c = (c.requires.bits c.loop-net.net (get_or c.args.nets.now c.loop-net.net c.index-nets-net.result) (slice_get-get_or c.args.nets.now c.loop-net.net c.index-nets-net.result c.loop-net-test.true)).1

pub returns-in_err-value-clause-stop : goal.returns-in_err-value-clause-stop
returns-in_err-value-clause-stop c =
    let at : slice_get c.args.nets.now c.loop-net.net ≡ Some (get_or c.args.nets.now c.loop-net.net c.index-nets-net.result) = slice_get-get_or c.args.nets.now c.loop-net.net c.index-nets-net.result c.loop-net-test.true in
    exit_err _ c.from_residual.result (Stopped c.in_err-value.field-0.0) c.from_residual.ensures.1
    (λ xs same. serve_first_stop xs c.args.nets.now (Left xs 0 0 (λ _. None) []) c.args.text.now c.loop-net.rest.now c.loop-net.net c.in_err-value.field-0.0 c.loop-net.values.items c.loop-net.changes.items (get_or c.args.nets.now c.loop-net.net c.index-nets-net.result) same c.loop-net.invariant.count at c.loop-net.invariant.fit c.in_err-value.ensures.stop (c.loop-net.invariant.serves xs same))

pub loop-net-preserved : goal.loop-net-preserved
loop-net-preserved c =
    let at : slice_get c.args.nets.now c.loop-net.net ≡ Some (get_or c.args.nets.now c.loop-net.net c.index-nets-net.result) = slice_get-get_or c.args.nets.now c.loop-net.net c.index-nets-net.result c.loop-net-test.true in
    let values : c.push.new.self.items ≡ c.loop-net.values.items ++ c.in_ok-value.value ∷ [] = c.in_ok-push.ensures.items in
    let line : c.loop-net.rest.now ≡ change_line c.loop-net.net (get_or c.args.nets.now c.loop-net.net c.index-nets-net.result).bits c.in_ok-value.value ++ c.in_ok-value.behind.now = c.in_ok-value.ensures.found.1 in
    record {
      short = omega (arith, c.loop-net.invariant.short, ap (λ (l : Bytes). length l) line, length-append (change_line c.loop-net.net (get_or c.args.nets.now c.loop-net.net c.index-nets-net.result).bits c.in_ok-value.value) c.in_ok-value.behind.now);
      count = omega (arith, ap (λ (l : List ℕ). length l) values, length_push c.loop-net.values.items c.in_ok-value.value, c.loop-net.invariant.count);
      fit = λ i p v port is. push_fits c.args.nets.now c.loop-net.values.items c.loop-net.net c.in_ok-value.value (get_or c.args.nets.now c.loop-net.net c.index-nets-net.result) c.loop-net.invariant.count at c.in_ok-value.ensures.found.0.0 c.loop-net.invariant.fit i p v port (ap (λ (l : List ℕ). slice_get l i) (sym values) ∙ is);
      serves = λ xs same. subst (λ (l : List ℕ). Serves (Left xs 0 0 (λ _. None) []) c.args.text.now (Left xs 0 (c.loop-net.net + 1) (slice_get l) c.push-in-loop-net.new.self.items) c.in_ok-value.behind.now) (sym values)
          (subst (λ (l : List Change). Serves (Left xs 0 0 (λ _. None) []) c.args.text.now (Left xs 0 (c.loop-net.net + 1) (slice_get (c.loop-net.values.items ++ c.in_ok-value.value ∷ [])) l) c.in_ok-value.behind.now) (sym c.in_ok-push-2.ensures.items)
          (serve_first xs c.args.nets.now (Left xs 0 0 (λ _. None) []) c.args.text.now c.loop-net.rest.now c.in_ok-value.behind.now c.loop-net.net c.in_ok-value.value c.loop-net.values.items c.loop-net.changes.items (get_or c.args.nets.now c.loop-net.net c.index-nets-net.result) same c.loop-net.invariant.count at c.loop-net.invariant.fit c.in_ok-value.ensures.found.0 c.in_ok-value.ensures.found.1 (c.loop-net.invariant.serves xs same)));
    }

pub returns-clause-found : goal.returns-clause-found
returns-clause-found c = λ xs same.
    let all : c.loop-net.net ≡ length xs = omega (arith, c.loop-net-test.false, c.loop-net.auto.net-end, ap (λ (l : List Port). length l) same, length-map xs port_of) in
    subst (λ (k : ℕ). Serves (Left xs 0 0 (λ _. None) []) c.args.text.now (Left xs 0 k (slice_get c.loop-net.values.items) c.loop-net.changes.items) c.loop-net.rest.now) all (c.loop-net.invariant.serves xs same)
