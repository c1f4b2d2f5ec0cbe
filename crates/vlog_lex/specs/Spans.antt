-- Parts of a list of words, beside those of every grammar.
use Rattle.std.specs.Prelude.{◌≡◌, List, [], ◌∷◌}
use Rattle.tapa_base.specs.Spans.{Span, Never, Separated}
use Rattle.vlog_tree.specs.Spelling.{Word}

abbrev pub Part : Type 1
Part = Span Word

-- this word
abbrev pub Takes : Word → Part
Takes w i j = i ≡ w ∷ j

-- at least two, with this between each two
abbrev pub SeparatedTwo : {A : Type 0} → Part → (A → Part) → List A → Part
SeparatedTwo between P [] = Never
SeparatedTwo between P (x ∷ []) = Never
SeparatedTwo between P (x ∷ y ∷ zs) = Separated between P (x ∷ y ∷ zs)
