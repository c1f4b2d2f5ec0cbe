use Rattle.std.proofs.Common.{◌≡◌, ◌+◌, ◌≤◌, ℕ, List, length, sym, ap, subst, ◌∙◌}
use Rattle.std.specs.Prelude.{Vec}
use Rattle.std.specs.declared.alloc.Global.{Global}
use Rattle.std.specs.Vec.{with_items}
use Rattle.std.proofs.lemmas.List.{length-map, with_items_is}
use Rattle.sim_pass.specs.Marks.{AreReaders, KeepsReaders}
use Rattle.sim_pass.specs.Rows.{gate_of, gates_in}
use Rattle.sim_pass.specs.Runs.{run_at}
use Rattle.sim_pass.proofs.Reading.{blocks_read}
use Rattle.sim_pass.proofs.Running.{run_within}
use Rattle.sim_pass.proofs.readers.readers_of.Goals as goal

pub add_rows-requires : goal.add_rows-requires
add_rows-requires c =
    subst (λ n. (run_at c.args.blocks.now c.loop-k.k).to ≤ n) (length-map c.args.rows.now gate_of)
    (run_within (gates_in c.args.rows.now) 0 (length (gates_in c.args.rows.now)) c.args.blocks.now c.requires c.loop-k.k c.loop-k-test.true).1

pub loop-k-preserved : goal.loop-k-preserved
loop-k-preserved c =
    let vs : Vec (Vec ℕ Global) Global = c.loop-k.readers in
    let long : length c.add_rows.new.readers ≡ vs.len = c.add_rows.auto.readers ∙ ap length c.deref_mut.ensures.value ∙ sym vs.ok.0 in
    let is : (with_items vs c.add_rows.new.readers).items ≡ c.add_rows.new.readers = with_items_is vs c.add_rows.new.readers long in
    let kept : KeepsReaders vs.items c.add_rows.new.readers = subst (λ (l : List (Vec ℕ Global)). KeepsReaders l c.add_rows.new.readers) c.deref_mut.ensures.value c.in_ok-add_rows.ensures.kept in
    subst (λ (l : List (Vec ℕ Global)). AreReaders c.args.wides.now (gates_in c.args.rows.now) c.args.blocks.now (c.loop-k.k + 1) l) (sym is)
    (blocks_read c.args.wides.now (gates_in c.args.rows.now) c.args.blocks.now vs.items c.add_rows.new.readers c.loop-k.k kept c.loop-k.invariant c.in_ok-add_rows.ensures.added)
