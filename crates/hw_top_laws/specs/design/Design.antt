-- A circuit is a design.
use Rattle.std.specs.Prelude.{◌≡◌, [], ◌∷◌, None, length}
use Rattle.vlog_tree.specs.Refused.{IsSound, IsDesign}
use Rattle.vlog_tree.specs.Table.{first_violation}
use Rattle.vlog_tree.specs.V6.{roots, v6_uses}
use Rattle.hw_top_lines.specs.Designs.{design_tree}
use Rattle.hw_top_lines.specs.Texts.{top_tree}
use Rattle.hw_top_laws.specs.modules.Lower.{lower_modules, OfReady}

-- its modules break no rule on names, widths and drivers
abbrev pub DesignsAreSound : Type 0
DesignsAreSound = OfReady (λ program machines added. IsSound (design_tree program machines added))

-- the top is the only module that no other contains
abbrev pub TopsAreRoots : Type 0
TopsAreRoots = OfReady (λ program machines added. roots (design_tree program machines added) ≡ top_tree program added ∷ [])

-- the top's ports and all clocks are right
abbrev pub OutsidesAreRight : Type 0
OutsidesAreRight = OfReady (λ program machines added. first_violation (v6_uses (design_tree program machines added)) ≡ None)

abbrev pub DesignsAreLegal : Type 0
DesignsAreLegal = OfReady (λ program machines added. IsDesign (design_tree program machines added) (length (lower_modules program machines added)))
