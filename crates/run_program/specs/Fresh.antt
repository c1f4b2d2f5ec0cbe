-- A network before its first tick.
use Rattle.std.specs.Prelude.{◌≡◌}
use Rattle.tapa_syntax.specs.declared.program.Program.{Program}
use Rattle.tapa_syntax.specs.WellFormed.{IsWellFormed}
use Rattle.kahn_model.specs.Fits.{FitsInput}
use Rattle.net_core.specs.declared.input.Input.{Input}
use Rattle.net_core.specs.declared.net_state.NetState.{NetState}
use Rattle.net_core.specs.Bounded.{scalars_of, memories_of}
use Rattle.net_core.specs.State.{IsNew}

-- the net is new, of this program and this input
pub record IsFresh (program : Program) (input : Input) (net : NetState) : Type 0 where
  pub program_is : net.program ≡ program
  pub input_is : net.input ≡ input
  pub new : IsNew net
  pub well_formed : IsWellFormed program
  pub fits : FitsInput program (scalars_of input) (memories_of input)
