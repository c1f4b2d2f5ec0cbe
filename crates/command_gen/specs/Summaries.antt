-- The lines of a summary.
use Rattle.std.specs.Prelude.{ℕ, List, [], ◌∷◌, ◌++◌, codes, decimal}
use Rattle.command_gen.specs.declared.lines.Summary.{Summary}

-- a word and a number
abbrev pub number_line : List ℕ → ℕ → List ℕ
number_line word n = word ++ (decimal n ++ 10 ∷ [])

abbrev pub summary_lines : Summary → List (List ℕ)
summary_lines s =
    number_line (codes "tasks ") s.tasks ∷ number_line (codes "streams ") s.streams ∷ number_line (codes "ticks ") s.ticks ∷ number_line (codes "tokens ") s.tokens
    ∷ number_line (codes "sum ") s.sum
    ∷ number_line (codes "cycles ") s.cycles ∷ []
