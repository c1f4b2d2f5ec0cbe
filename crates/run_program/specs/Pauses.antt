-- The line that an instance's last pause gives.
use Rattle.std.specs.Prelude.{ℕ, List, [], ◌∷◌, Option, Some, None, slice_index}
use Rattle.tapa_syntax.specs.declared.program.Instance.{Instance}
use Rattle.tapa_syntax.specs.declared.program.Stream.{Stream}
use Rattle.net_core.specs.declared.body.Pause.{Pause}
use Rattle.net_core.specs.declared.body.Pause.TheVariants.{Ended, WantsRead, WantsWrite, BadToken, Fuel}
use Rattle.run_program.specs.Run.{label_of, read_line, write_line, bad_line}

-- the stream at a position of an instance
abbrev pub bound_label : List Stream → Instance → ℕ → List ℕ
bound_label streams x p = label_of streams (slice_index x.streams.items p)

-- an instance that has ended gives none
abbrev pub pause_line : List Stream → Instance → Pause → Option (List ℕ)
pause_line streams x Ended = None
pause_line streams x Fuel = None
pause_line streams x (WantsRead p) = Some (read_line x.label (bound_label streams x p))
pause_line streams x (WantsWrite p) = Some (write_line x.label (bound_label streams x p))
pause_line streams x (BadToken p) = Some (bad_line x.label (bound_label streams x p))

-- a line, or none
abbrev pub in_list : Option (List ℕ) → List (List ℕ)
in_list None = []
in_list (Some line) = line ∷ []

-- the lines of an instance that may not have been resumed
abbrev pub last_pause_lines : List Stream → Instance → Option Pause → List (List ℕ)
last_pause_lines streams x None = []
last_pause_lines streams x (Some pause) = in_list (pause_line streams x pause)
