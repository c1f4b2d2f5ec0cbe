use Rattle.std.proofs.Common.{◌≡◌, ℕ, ◌<◌, ◌∙◌, List, [], length, replicate, ap, sym, arith}
use Rattle.std.specs.Prelude.{Vec, slice_set}
use Rattle.std.specs.Vec.{with_items}
use Rattle.std.specs.declared.alloc.Global.{Global}
use Rattle.std.proofs.lemmas.List.{map-set, get_or-map, with_items_is, length-replicate}
use Rattle.kahn_model.specs.Rows.{rows_of}
use Rattle.kahn_model.specs.Trace.{State}
use Rattle.kahn_reference.proofs.ticks.zero_array.Goals as goal

pub returns-then-i-len-clause-state : goal.returns-then-i-len-clause-state
returns-then-i-len-clause-state c =
    let rows = c.args.run.now.state.arrays.items in
    let row = c.index_mut.result.now in
    let f : Vec ℕ Global → List ℕ = λ v. v.items in
    let w = c.if-i-len.true in
    let o = c.len.ensures in
    let lt : c.args.a < length rows = omega arith in
    let zeros : c.zero_row.new.row ≡ replicate (length row.items) 0 = c.zero_row.ensures ∙ ap (λ (x : List ℕ). replicate {A = ℕ} (length x) 0) c.deref_mut.ensures.value in
    let l : length c.zero_row.new.row ≡ length row.items = ap (λ (x : List ℕ). length x) zeros ∙ length-replicate {A = ℕ} (length row.items) 0 in
    let k = row.ok.0 in
    let same : length c.zero_row.new.row ≡ row.len = omega arith in
    ap (λ (x : List (List ℕ)). let s : State = record { vars = c.args.run.now.state.vars.items; arrays = x; cells = rows_of c.args.run.now.state.cells.items } in s)
    (map-set f rows c.args.a (with_items row c.zero_row.new.row)
    ∙ ap (λ x. slice_set (rows_of rows) c.args.a x)
    (with_items_is row c.zero_row.new.row same ∙ zeros ∙ ap (λ (x : List ℕ). replicate {A = ℕ} (length x) 0) (sym (get_or-map f rows c.args.a row [] lt ∙ ap f (sym c.index_mut.ensures.value)))))
