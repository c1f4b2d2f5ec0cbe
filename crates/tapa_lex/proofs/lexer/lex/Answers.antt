use Rattle.std.proofs.Common.{◌≡◌, arith, inl, subst, sym}
use Rattle.tapa_base.specs.declared.text.Place.{Place}
use Rattle.tapa_lex.specs.declared.fault.LexCode.{LexCode}
use Rattle.tapa_lex.specs.declared.fault.LexFault.TheVariants.{At}
use Rattle.tapa_lex.proofs.Whole.{HasFront, front_none, front_all, front_next, refused_here, piece_fits, next_is_behind, one_list, one_refusal, not_both, are_slices, in_order}
use Rattle.tapa_lex.proofs.lexer.lex.Goals as goal

fault_same : (c d : LexCode) (p q : Place) → (c ≡ d) × (p ≡ q) → At c p ≡ At d q
fault_same c d p q e = let code = e.0 in let place = e.1 in cc

pub pieces-init : goal.pieces-init
pieces-init c = subst (HasFront c.args.text.now c.start-cursor.result) (sym c.new-found.ensures.items) (front_none c.args.text.now c.start-cursor.result c.start-cursor.ensures)

pub returns-in-Err-clause-refused : goal.returns-in-Err-clause-refused
returns-in-Err-clause-refused c = refused_here c.args.text.now c.pieces.cursor c.pieces.found.items c.in-Err.code c.pieces.invariant (omega arith) (c.in-Err.ensures {u = tt})

pub returns-in-Err-clause-only : goal.returns-in-Err-clause-only
returns-in-Err-clause-only c = λ lexemes h. absurd (not_both c.args.text.now lexemes c.in-Err.code c.pieces.cursor.place h (refused_here c.args.text.now c.pieces.cursor c.pieces.found.items c.in-Err.code c.pieces.invariant (omega arith) (c.in-Err.ensures {u = tt})))

pub returns-in-Err-clause-always : goal.returns-in-Err-clause-always
returns-in-Err-clause-always c = λ code place h. inl (fault_same c.in-Err.code code c.pieces.cursor.place place (one_refusal c.args.text.now c.in-Err.code code c.pieces.cursor.place place (refused_here c.args.text.now c.pieces.cursor c.pieces.found.items c.in-Err.code c.pieces.invariant (omega arith) (c.in-Err.ensures {u = tt})) h))

pub slice_bounds-past_all-end : goal.slice_bounds-past_all-end
slice_bounds-past_all-end c = (piece_fits c.args.text.now c.pieces.cursor c.pieces.found.items c.in-Ok.piece c.pieces.invariant (omega arith) (c.in-Ok.ensures {u = tt})).size

pub past_all-next-requires : goal.past_all-next-requires
past_all-next-requires c =
    let f = piece_fits c.args.text.now c.pieces.cursor c.pieces.found.items c.in-Ok.piece c.pieces.invariant (omega arith) (c.in-Ok.ensures {u = tt}) in
    record { at = omega (arith, f.size, f.at, c.requires); line = omega (arith, f.size, f.line, c.requires); col = omega (arith, f.size, f.col, c.requires) }

pub pieces-smaller : goal.pieces-smaller
pieces-smaller c =
    let f = piece_fits c.args.text.now c.pieces.cursor c.pieces.found.items c.in-Ok.piece c.pieces.invariant (omega arith) (c.in-Ok.ensures {u = tt}) in
    let more = next_is_behind c.args.text.now c.pieces.cursor c.past_all-next.result c.pieces.found.items c.in-Ok.piece.1 c.pieces.invariant f c.past_all-next.ensures in
    omega (arith, more, c.pieces-test.true)

pub pieces-preserved : goal.pieces-preserved
pieces-preserved c =
    let next = front_next c.args.text.now c.pieces.cursor c.past_all-next.result c.pieces.found.items c.in-Ok.piece c.pieces.invariant (omega arith) (c.in-Ok.ensures {u = tt}) c.past_all-next.ensures in
    subst (HasFront c.args.text.now c.past_all-next.result) (sym c.in_ok-put.ensures.ok) next

pub returns-clause-slices : goal.returns-clause-slices
returns-clause-slices c = are_slices c.args.text.now c.pieces.found.items (front_all c.args.text.now c.pieces.cursor c.pieces.found.items c.pieces.invariant (omega arith))

pub returns-clause-in_order : goal.returns-clause-in_order
returns-clause-in_order c = in_order c.args.text.now c.pieces.found.items (front_all c.args.text.now c.pieces.cursor c.pieces.found.items c.pieces.invariant (omega arith))

pub returns-clause-only : goal.returns-clause-only
returns-clause-only c = λ lexemes h. one_list c.args.text.now c.pieces.found.items lexemes (front_all c.args.text.now c.pieces.cursor c.pieces.found.items c.pieces.invariant (omega arith)) h

pub returns-clause-always : goal.returns-clause-always
returns-clause-always c = λ code place h. not_both c.args.text.now c.pieces.found.items code place (front_all c.args.text.now c.pieces.cursor c.pieces.found.items c.pieces.invariant (omega arith)) h

pub returns-clause-found : goal.returns-clause-found
returns-clause-found c = front_all c.args.text.now c.pieces.cursor c.pieces.found.items c.pieces.invariant (omega arith)
