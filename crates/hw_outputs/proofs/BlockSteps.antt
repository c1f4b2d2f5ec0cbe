-- The blocks of registers, and what resets them.
use Rattle.std.proofs.Common.{◌≡◌, ℕ, List, [], ◌∷◌, length, refl, arith}
use Rattle.vlog_tree.specs.declared.tree.Atom.{Atom}
use Rattle.vlog_tree.specs.declared.tree.Atom.TheVariants.{Net as NetAtom}
use Rattle.vlog_tree.specs.declared.tree.BinaryOp.TheVariants.{Or}
use Rattle.vlog_tree.specs.declared.tree.Value.TheVariants.{Binary}
use Rattle.vlog_tree.specs.Form.{ModuleTree}
use Rattle.vlog_tree.specs.Labels.{rst}
use Rattle.vlog_tree.specs.Table.{Name}
use Rattle.vlog_module_laws.specs.Forms.{reset_block, set_block}
use Rattle.hw_build.specs.Elements.{Wire, with, with_all}
use Rattle.hw_build.specs.Choices.{choice}
use Rattle.hw_lines.specs.declared.nets.Choice.TheVariants.{Clear}
use Rattle.hw_lines.specs.declared.nets.Net.TheVariants.{Reset}
use Rattle.hw_lines.specs.Nets.{name, front}
use Rattle.hw_lines.specs.Texts.{register_block, reset_of, reset_by}
use Rattle.hw_nets.specs.declared.entries.Entry.{Entry}
use Rattle.hw_nets.specs.Entries.{entry_forms}

pub none_set : (reset x set : Name) (first next : Atom) (found : List Entry) → length found ≡ 0 → set_block reset x first ≡ register_block reset x first (entry_forms found) set next
none_set reset x set first next [] h = refl
none_set reset x set first next (e ∷ found) h = absurd (omega arith)

pub some_set : (reset x set : Name) (first next : Atom) (found : List Entry) → (length found ≡ 0 → ⊥) → reset_block reset set x first next ≡ register_block reset x first (entry_forms found) set next
some_set reset x set first next [] h = absurd (h refl)
some_set reset x set first next (e ∷ found) h = refl

pub none_clear : (r : ℕ) (clears : List Entry) → length clears ≡ 0 → rst ≡ reset_of r (entry_forms clears)
none_clear r [] h = refl
none_clear r (e ∷ clears) h = absurd (omega arith)

pub some_clear : (r : ℕ) (clears : List Entry) → (length clears ≡ 0 → ⊥) → name (Reset r) ≡ reset_of r (entry_forms clears)
some_clear r [] h = absurd (h refl)
some_clear r (e ∷ clears) h = refl

pub no_reset : (d : ModuleTree) (r : ℕ) (clears : List Entry) → length clears ≡ 0 → d ≡ with_all d (reset_by r (entry_forms clears))
no_reset d r [] h = refl
no_reset d r (e ∷ clears) h = absurd (omega arith)

pub a_reset : (d : ModuleTree) (r : ℕ) (clears : List Entry) → (length clears ≡ 0 → ⊥)
    → with d (Wire 1 (name (Reset r)) (Binary (NetAtom rst) Or (NetAtom (choice (front (Clear r)) (entry_forms clears))))) ≡ with_all d (reset_by r (entry_forms clears))
a_reset d r [] h = absurd (h refl)
a_reset d r (e ∷ clears) h = refl
