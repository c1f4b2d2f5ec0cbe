use Rattle.std.proofs.Common.{◌≡◌, length, take}
use Rattle.sim_flat.specs.Numbering.{names_at, count_at, IsNumbering}
use Rattle.sim_flat.specs.Sizes.{own_sum}
use Rattle.sim_flat.proofs.flat.numbers_of.Given as goal

abbrev pub invariant-loop-k : goal.invariant-loop-k
invariant-loop-k l = record {
  numbering : IsNumbering (count_at l.tables l.rows) l.k l.numbers.first.items l.numbers.owners.items;
  count : length l.numbers.owners.items ≡ own_sum (names_at l.tables) (take l.k l.rows);
}
