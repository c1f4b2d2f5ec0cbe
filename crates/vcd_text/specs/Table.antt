-- Nets that are looked up by their names.
use Rattle.std.specs.Prelude.{◌≡◌, ℕ, List, map, Vec}
use Rattle.std.specs.declared.alloc.Global.{Global}
use Rattle.tapa_base.specs.declared.shape.Port.{Port}

-- the names are those of the nets, in order
abbrev pub AreNamed : List Port → List (Vec ℕ Global) → Type 0
AreNamed nets names = map (λ (k : Vec ℕ Global). k.items) names ≡ map (λ (p : Port). p.name) nets
