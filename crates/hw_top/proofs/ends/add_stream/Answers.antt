use Rattle.std.proofs.Common.{List, ℕ, sym, ap, ◌∙◌}
use Rattle.std.specs.Prelude.{slice_index}
use Rattle.std.proofs.lemmas.Result.{IfOk-weaker}
use Rattle.hw_top.proofs.Joined.{written_grows, read_grows}
use Rattle.hw_top.proofs.ends.add_stream.Goals as goal

pub returns-then-is_written : goal.returns-then-is_written
returns-then-is_written c =
    IfOk-weaker c.add_written.result _ _
    (λ u e. written_grows c.args.program.now c.args.x.now c.args.leaf.now c.args.p c.number_at-s.result c.args.ends.now.items c.add_written.new.ends.items c.in_ok-label.label
    (c.number_at-s.ensures ∙ ap (λ (l : List ℕ). slice_index l c.args.p) c.deref.ensures.value) c.in_ok-label.ensures (sym c.is_written.ensures ∙ c.if-is_written.true) e)
    c.add_written.ensures

pub returns : goal.returns
returns c =
    IfOk-weaker c.add_read.result _ _
    (λ u e. read_grows c.args.program.now c.args.x.now c.args.leaf.now c.args.p c.number_at-s.result c.args.ends.now.items c.add_read.new.ends.items c.in_ok-label.label
    (c.number_at-s.ensures ∙ ap (λ (l : List ℕ). slice_index l c.args.p) c.deref.ensures.value) c.in_ok-label.ensures (sym c.is_written.ensures ∙ c.if-is_written.false) e)
    c.add_read.ensures
