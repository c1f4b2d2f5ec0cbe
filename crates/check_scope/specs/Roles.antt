-- What a name that is used may be declared as.
use Rattle.std.specs.Prelude.{Bool, false}
use Rattle.check_scope.specs.declared.role.Role.{Role}
use Rattle.check_scope.specs.declared.role.Role.TheVariants as role
use Rattle.check_scope.specs.declared.entity.Entity.{Entity}
use Rattle.check_scope.specs.Scopes.{is_scalar, has_cells, is_constant, is_free_variable, has_free_cells, is_input, is_output}

abbrev pub fits : Role → Entity → Bool
fits role.Scalar = is_scalar
fits role.Cells = has_cells
fits role.Constant = is_constant
fits role.FreeVariable = is_free_variable
fits role.FreeCells = has_free_cells
fits role.Input = is_input
fits role.Output = is_output
fits role.Nothing = λ s. false
