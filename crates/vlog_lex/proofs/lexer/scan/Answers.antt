use Rattle.std.proofs.Common.{◌+◌, arith, refl, subst, sym}
use Rattle.vlog_lex.proofs.Whole.{HasFront, front_none, front_more, piece_fits, scan_all, scan_stopped}
use Rattle.vlog_lex.proofs.lexer.scan.Goals as goal

pub pieces-init : goal.pieces-init
pieces-init c = subst (HasFront c.args.text.now 0) (sym c.new-lexemes.ensures.items) (front_none c.args.text.now)

pub returns-in-None : goal.returns-in-None
returns-in-None c = scan_stopped c.args.text.now c.pieces.at c.pieces.lexemes.items c.pieces.invariant (omega arith) (c.in-None.ensures {u = tt})

pub returns : goal.returns
returns c = scan_all c.args.text.now c.pieces.at c.pieces.lexemes.items c.pieces.invariant (omega arith)

pub overflow_cast-next : goal.overflow_cast-next
overflow_cast-next c =
    let f = piece_fits c.args.text.now c.pieces.at c.pieces.lexemes.items c.in-Some.piece c.pieces.invariant (omega arith) (c.in-Some.ensures {u = tt}) in
    omega (arith, f.within, c.requires)

pub overflow_add-next : goal.overflow_add-next
overflow_add-next c =
    let f = piece_fits c.args.text.now c.pieces.at c.pieces.lexemes.items c.in-Some.piece c.pieces.invariant (omega arith) (c.in-Some.ensures {u = tt}) in
    omega (arith, f.within, c.requires)

pub pieces-smaller : goal.pieces-smaller
pieces-smaller c =
    let f = piece_fits c.args.text.now c.pieces.at c.pieces.lexemes.items c.in-Some.piece c.pieces.invariant (omega arith) (c.in-Some.ensures {u = tt}) in
    omega (arith, f.some, f.within)

pub pieces-preserved : goal.pieces-preserved
pieces-preserved c =
    let next = front_more c.args.text.now c.pieces.at (c.pieces.at + c.in-Some.piece.1) c.pieces.lexemes.items c.in-Some.piece c.pieces.invariant (omega arith) (c.in-Some.ensures {u = tt}) refl in
    subst (HasFront c.args.text.now (c.pieces.at + c.in-Some.piece.1)) (sym c.in_ok-put.ensures) next
