use Rattle.std.proofs.Common.{◌≡◌, Bool, sym, ap, ◌∙◌, subst}
use Rattle.std.specs.Prelude.{[], if◌then◌else◌, slice_index_or, IfOk}
use Rattle.kahn_model.specs.Cells.{cells_at}
use Rattle.net_core.specs.Bounded.{scalars_of, memories_of}
use Rattle.net_core.specs.State.{count}
use Rattle.run_program.proofs.cells.shown_cells.Goals as goal

pub returns-then-hides_stores : goal.returns-then-hides_stores
returns-then-hides_stores c =
    c.first_cells.ensures
    ∙ ap (λ (b : Bool). if b then slice_index_or (memories_of c.args.input.now) c.args.m [] else cells_at c.args.program.now (scalars_of c.args.input.now) (memories_of c.args.input.now) (count c.args.net.now) c.args.m)
    (sym c.if-hides_stores.true ∙ c.hides_stores.ensures)

pub returns : goal.returns
returns c =
    subst (λ (b : Bool). IfOk c.last_cells.result (λ cells. cells.now ≡ (if b then slice_index_or (memories_of c.args.input.now) c.args.m [] else cells_at c.args.program.now (scalars_of c.args.input.now) (memories_of c.args.input.now) (count c.args.net.now) c.args.m)))
    (sym c.if-hides_stores.false ∙ c.hides_stores.ensures) c.last_cells.ensures
