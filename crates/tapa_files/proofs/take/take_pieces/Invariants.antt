use Rattle.std.proofs.Common.{◌≡◌, ◌+◌, ◌-◌, length}
use Rattle.tapa_files.specs.Outside.{AsksFor}
use Rattle.tapa_files.proofs.Pieces.{IsFrontOf}
use Rattle.tapa_files.proofs.take.take_pieces.Given as goal

abbrev pub invariant-pieces : goal.invariant-pieces
invariant-pieces g l =
    IsFrontOf (g.S.Shelf.files l.fn.shelf) l.name l.file.items
    × AsksFor g.S.Shelf.files g.S.Shelf.faults l.name l.fn.shelf l.shelf
    × (g.S.Shelf.faults l.shelf l.name ≡ g.S.Shelf.faults l.fn.shelf l.name)

abbrev pub decreases-pieces : goal.decreases-pieces
decreases-pieces g l = l.limit + 1 - length l.file.items
