use Rattle.std.proofs.Common.{rules, ◌∙◌}
use Rattle.tapa_files.proofs.Pieces.{front_read, asks_both}
use Rattle.tapa_files.proofs.take.take_pieces.Goals as goal

pub pieces-preserved : goal.pieces-preserved
pieces-preserved g c =
    let told = g.S.Shelf.files c.args.shelf.now in
    let before = c.pieces.invariant.1 in (
      rw (c.in_ok-extend_from_slice.ensures.items) (front_read told (g.S.Shelf.files c.pieces.shelf) c.args.name.now c.pieces.file.items c.read.new.buf c.len-in-pieces.result c.in_ok-count.count before.same_files (search rules) c.pieces.invariant.0 c.in_ok-count.ensures.bytes),
      asks_both g.S.Shelf.files g.S.Shelf.faults c.args.name.now c.args.shelf.now c.pieces.shelf c.read.new.self before c.in_ok-count.ensures.asks,
      c.in_ok-count.ensures.calm ∙ c.pieces.invariant.2,
    )
