use Rattle.std.proofs.Common.{◌≡◌, ◌∙◌, ap, refl, length, arith}
use Rattle.sim_flat.specs.Numbering.{names_at}
use Rattle.sim_flat.specs.Rows.{row_at}
use Rattle.sim_flat.proofs.Counted.{numbering_next, numbering_none, nets_next}
use Rattle.sim_flat.proofs.Sizing.{sum_all}
use Rattle.sim_flat.proofs.flat.numbers_of.Goals as goal

pub loop-k-init : goal.loop-k-init
loop-k-init c = record {
  numbering = numbering_none _ 0 _ _ refl c.requires.0 c.requires.1;
  count = ap length c.requires.1;
}

pub loop-k-preserved : goal.loop-k-preserved
loop-k-preserved c =
    let tables = c.args.tables.now in
    let rows = c.args.rows.now in
    let k = c.loop-k.k in
    let count = c.names_of_kind-count.result in
    let is : count ≡ names_at tables (row_at rows k).kind = c.names_of_kind-count.ensures ∙ ap (λ n. names_at tables n) c.kind_of.ensures in
    let e = c.in_ok-add_instance.ensures in
    record {
      numbering = numbering_next tables rows k count _ _ _ _ is e.first e.owners c.loop-k.invariant.numbering;
      count = nets_next tables rows k count _ _ c.loop-k-test.true is e.owners c.loop-k.invariant.count;
    }

pub returns-clause-count : goal.returns-clause-count
returns-clause-count c =
    let all : c.loop-k.k ≡ length c.args.rows.now = omega (arith, c.loop-k-test.false, c.loop-k.auto.k-end) in
    c.loop-k.invariant.count ∙ sum_all (names_at c.args.tables.now) c.args.rows.now c.loop-k.k all
