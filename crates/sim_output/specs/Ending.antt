-- How the run of a design leaves the output.
use Rattle.std.specs.Prelude.{◌≡◌, ◌⊎◌, ℕ, List, Option, Some, None}
use Rattle.std.specs.Io.KnownBytes.{Appends}
use Rattle.tapa_files.specs.Outside.{AppendsPart}
use Rattle.vlog_tree.specs.Environment.{Environment}
use Rattle.vlog_design.specs.Designs.{DesignTree}
use Rattle.sim_output.specs.declared.run.DesignEnd.{DesignEnd}
use Rattle.sim_output.specs.declared.run.DesignEnd.TheVariants.{Done, Running}

-- a design that is done in a cycle, or in none
abbrev pub end_of : Option ℕ → DesignEnd
end_of None = Running
end_of (Some at) = Done

-- what is written of a design in an environment, up to a limit on its cycles, where it is done in a cycle or in none
abbrev pub Telling : Type 1
Telling = DesignTree → Environment → ℕ → Option ℕ → List ℕ → Type 0

-- the design is done in one of the cycles, or in none, and its text was written
abbrev pub EndsSo : Telling → DesignTree → Environment → ℕ → Option (List ℕ) → Option (List ℕ) → DesignEnd → Type 0
EndsSo Told design env limit old new Done = (at : ℕ) × (text : List ℕ) × Told design env limit (Some at) text × Appends old new text
EndsSo Told design env limit old new Running = (text : List ℕ) × Told design env limit None text × Appends old new text

-- a prefix of the text was written, or of it nothing yet
abbrev pub HasFront : Telling → DesignTree → Environment → ℕ → Option (List ℕ) → Option (List ℕ) → Type 0
HasFront Told design env limit old new = (done_at : Option ℕ) × (text : List ℕ) × Told design env limit done_at text × AppendsPart old new text

-- nothing was written, or a prefix of the text
abbrev pub HasPart : Telling → DesignTree → Environment → ℕ → Option (List ℕ) → Option (List ℕ) → Type 0
HasPart Told design env limit old new = (new ≡ old) ⊎ HasFront Told design env limit old new
