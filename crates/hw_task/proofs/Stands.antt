-- Elements that stand where there is an entry.
use Rattle.std.proofs.Common.{◌≡◌, List, [], ◌∷◌, length, refl, ap, ◌∙◌, arith}
use Rattle.vlog_tree.specs.Form.{ModuleTree}
use Rattle.hw_build.specs.Elements.{Element, with_all}
use Rattle.hw_build.specs.Choices.{Entry as EntryForm}
use Rattle.hw_lines.specs.Texts.{unless_none}
use Rattle.hw_nets.specs.declared.entries.Entry.{Entry}
use Rattle.hw_nets.specs.Entries.{entry_forms}

pub stands_not : (found : List Entry) (es : List EntryForm) (elements : List Element) (d : ModuleTree) → length found ≡ 0 → entry_forms found ≡ es → d ≡ with_all d (unless_none es elements)
stands_not [] es elements d h e = ap (λ z. with_all d (unless_none z elements)) e
stands_not (x ∷ found) es elements d h e = absurd (omega arith)

pub stands : (found : List Entry) (es : List EntryForm) (elements : List Element) (d f : ModuleTree) → (length found ≡ 0 → ⊥) → entry_forms found ≡ es → f ≡ with_all d elements → f ≡ with_all d (unless_none es elements)
stands [] es elements d f h e p = absurd (h refl)
stands (x ∷ found) es elements d f h e p = p ∙ ap (λ z. with_all d (unless_none z elements)) e
