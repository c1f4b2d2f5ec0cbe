use Rattle.std.proofs.Common.{arith}
use Rattle.vcd_text.proofs.Ends.{ends_within, bytes_within, place_is}
use Rattle.vcd_text.proofs.read.end_place.Goals as goal

pub overflow_cast-lines : goal.overflow_cast-lines
overflow_cast-lines c = omega (arith, c.requires, c.line_ends-lines.ensures, ends_within c.args.text.now)

pub overflow_cast-bytes : goal.overflow_cast-bytes
overflow_cast-bytes c = omega (arith, c.requires, c.bytes_behind-bytes.ensures, bytes_within c.args.text.now)

pub returns : goal.returns
returns c = place_is c.args.text.now c.line_ends-lines.result c.bytes_behind-bytes.result c.line_ends-lines.ensures c.bytes_behind-bytes.ensures
