-- Lines that vectors hold, one after another.
use Rattle.std.proofs.Common.{◌≡◌, ℕ, List, [], ◌∷◌, ◌++◌, Vec, refl, ap}
use Rattle.std.specs.List.{flat_map}
use Rattle.std.specs.declared.alloc.Global.{Global}
use Rattle.run_data.specs.Lines.{joined, lines_in}

pub joined_is : (lines : List (Vec ℕ Global)) → joined (lines_in lines) ≡ flat_map (λ (line : Vec ℕ Global). line.items) lines
joined_is [] = refl
joined_is (line ∷ lines) = ap (λ (text : List ℕ). line.items ++ text) (joined_is lines)
