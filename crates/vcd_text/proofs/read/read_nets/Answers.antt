use Rattle.std.proofs.Common.{◌≡◌, ◌++◌, [], List, length, map, sym, ap, subst, arith}
use Rattle.std.specs.Prelude.{None}
use Rattle.std.proofs.lemmas.List.{length_push, length-append}
use Rattle.tapa_base.specs.declared.shape.Port.{Port}
use Rattle.tapa_base.specs.Gaps.{Bytes}
use Rattle.vcd_text.specs.Nets.{Net}
use Rattle.vcd_text.specs.Head.{IsNetFound}
use Rattle.vcd_text.specs.Lines.{HaveBits, head_end}
use Rattle.vcd_text.specs.Read.{port_of}
use Rattle.vcd_text.specs.Rest.{Left, LeftOfHead, Serves}
use Rattle.vcd_text.specs.declared.halt.Halt.TheVariants.{Stopped}
use Rattle.vcd_text.proofs.Common.{exit_err}
use Rattle.vcd_text.proofs.Tables.{name_ascii}
use Rattle.vcd_text.proofs.Tops.{HeadSo, head_begin, head_net, net_shorter, head_done, head_bits, head_fails}
use Rattle.vcd_text.proofs.read.read_nets.Goals as goal

pub lines-init : goal.lines-init
lines-init c = record {
  short = omega (arith, ap (λ (l : List Port). length l) c.new-nets.ensures);
  so = subst (λ (l : List Port). HeadSo l c.args.text.now c.args.text.now) (sym c.new-nets.ensures) (head_begin c.args.text.now);
}

pub returns-in_err-found-clause-stop : goal.returns-in_err-found-clause-stop
returns-in_err-found-clause-stop c = exit_err _ c.from_residual.result (Stopped c.in_err-found.field-0.0) c.from_residual.ensures.1
    (head_fails c.lines.nets c.args.text.now c.lines.rest.now c.in_err-found.field-0.0 c.lines.invariant.so c.in_err-found.ensures.stop)

pub returns-in-None-clause-few : goal.returns-in-None-clause-few
returns-in-None-clause-few c = omega (arith, c.requires, c.lines.invariant.short, ap (λ (l : List Port). length l) c.into_nets.ensures)

pub returns-in-None-clause-short : goal.returns-in-None-clause-short
returns-in-None-clause-short c =
    let line : c.lines.rest.now ≡ head_end ++ c.in_ok-found.behind.now = rw c.in-None.is at c.in_ok-found.ensures.found in
    omega (arith, c.requires, c.lines.invariant.short, ap (λ (l : Bytes). length l) line, length-append head_end c.in_ok-found.behind.now)

pub returns-in-None-clause-bits : goal.returns-in-None-clause-bits
returns-in-None-clause-bits c = subst HaveBits (sym c.into_nets.ensures) (head_bits c.lines.nets c.args.text.now c.lines.rest.now c.lines.invariant.so)

pub returns-in-None-clause-found : goal.returns-in-None-clause-found
returns-in-None-clause-found c =
    let line : c.lines.rest.now ≡ head_end ++ c.in_ok-found.behind.now = rw c.in-None.is at c.in_ok-found.ensures.found in
    subst (λ (l : List Port). (xs : List Net) × (l ≡ map port_of xs) × Serves (LeftOfHead []) c.args.text.now (Left xs 0 0 (λ _. None) []) c.in_ok-found.behind.now) (sym c.into_nets.ensures)
    (head_done c.lines.nets c.args.text.now c.lines.rest.now c.in_ok-found.behind.now c.lines.invariant.so line)

pub with-requires-clause-ascii : goal.with-requires-clause-ascii
with-requires-clause-ascii c =
    let line : IsNetFound c.lines.nets (length c.lines.nets) c.in-Some.name.now c.in-Some.bits c.lines.rest.now c.in_ok-found.behind.now = rw c.in-Some.is at c.in_ok-found.ensures.found in
    name_ascii c.in-Some.name.now line.0.0

pub with-requires-clause-free : goal.with-requires-clause-free
with-requires-clause-free c =
    let line : IsNetFound c.lines.nets (length c.lines.nets) c.in-Some.name.now c.in-Some.bits c.lines.rest.now c.in_ok-found.behind.now = rw c.in-Some.is at c.in_ok-found.ensures.found in
    line.0.1

pub lines-smaller : goal.lines-smaller
lines-smaller c =
    let line : IsNetFound c.lines.nets (length c.lines.nets) c.in-Some.name.now c.in-Some.bits c.lines.rest.now c.in_ok-found.behind.now = rw c.in-Some.is at c.in_ok-found.ensures.found in
    omega (arith, net_shorter c.lines.nets (length c.lines.nets) c.in-Some.name.now c.in-Some.bits c.lines.rest.now c.in_ok-found.behind.now line)

pub lines-preserved : goal.lines-preserved
lines-preserved c =
    let line : IsNetFound c.lines.nets (length c.lines.nets) c.in-Some.name.now c.in-Some.bits c.lines.rest.now c.in_ok-found.behind.now = rw c.in-Some.is at c.in_ok-found.ensures.found in
    let port : Port = record { name = c.in-Some.name.now; bits = c.in-Some.bits } in
    record {
      short = omega (arith, c.lines.invariant.short, net_shorter c.lines.nets (length c.lines.nets) c.in-Some.name.now c.in-Some.bits c.lines.rest.now c.in_ok-found.behind.now line, ap (λ (l : List Port). length l) c.in_ok-nets-in-Some.ensures, length_push c.lines.nets (record { name = c.in-Some.name.now; bits = c.in-Some.bits }));
      so = subst (λ (l : List Port). HeadSo l c.args.text.now c.in_ok-found.behind.now) (sym c.in_ok-nets-in-Some.ensures) (head_net c.lines.nets c.args.text.now c.lines.rest.now c.in_ok-found.behind.now c.in-Some.name.now c.in-Some.bits c.lines.invariant.so line);
    }
