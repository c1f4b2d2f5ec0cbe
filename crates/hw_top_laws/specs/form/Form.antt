-- The top of a circuit fits the rules.
use Rattle.vlog_tree.specs.Form.{IsModule}
use Rattle.vlog_module_laws.specs.Larger.{IsRightBeside}
use Rattle.hw_build.specs.Fitting.{AreFitting}
use Rattle.hw_top_lines.specs.Texts.{top_elements, top_tree}
use Rattle.hw_top_laws.specs.modules.Lower.{lower_modules, OfReady}

-- its elements fit one after another, beside the modules of the channels and of the leaf tasks
abbrev pub TopsAreFitting : Type 0
TopsAreFitting = OfReady (λ program machines added. AreFitting (lower_modules program machines added) (top_elements program added))

-- so it breaks no rule on names, widths and drivers beside them
abbrev pub TopsAreRight : Type 0
TopsAreRight = OfReady (λ program machines added. IsRightBeside (lower_modules program machines added) (top_tree program added))

-- and it has the form of a module
abbrev pub TopsAreModules : Type 0
TopsAreModules = OfReady (λ program machines added. IsModule (top_tree program added))
