-- A module that grows by what scalar parameters are bound to.
use Rattle.std.proofs.Common.{◌≡◌, ℕ, ◌+◌, List, [], ◌∷◌, Option, Some, None, sym, ap, ◌∙◌}
use Rattle.std.specs.Prelude.{slice_index_or}
use Rattle.tapa_base.specs.declared.kind.Kind.{Kind}
use Rattle.tapa_base.specs.declared.kind.Kind.TheVariants.{U64}
use Rattle.tapa_base.specs.Kinds.{bits_of}
use Rattle.tapa_syntax.specs.declared.program.Bound.{Bound}
use Rattle.tapa_syntax.specs.declared.program.Program.{Program}
use Rattle.vlog_tree.specs.declared.tree.Atom.{Atom}
use Rattle.vlog_tree.specs.declared.tree.Atom.TheVariants.{Net}
use Rattle.vlog_tree.specs.declared.tree.Value.TheVariants.{Plain}
use Rattle.vlog_tree.specs.Form.{ModuleTree}
use Rattle.vlog_tree.specs.Table.{Name}
use Rattle.hw_build.specs.Elements.{Wire, with, with_all}
use Rattle.hw_lines.specs.Drivers.{Driver, conversion, last_of, wires_of}
use Rattle.hw_nets.proofs.Grows.{both}
use Rattle.hw_top_lines.specs.Names.{bound_net}
use Rattle.hw_top_lines.specs.Bounds.{converted_net, kind_before, conversion_step, bound_nets, bound_elements, conversions, bound_by}

-- the wires of a conversion, and the net behind them
pub converted_grows : (d e f : ModuleTree) (x old : Name) (source target : Kind) (drivers : List Driver) (a b : Atom) → a ≡ Net old → drivers ≡ conversion x 0 source target a
    → b ≡ last_of x 0 drivers a → e ≡ with_all d (wires_of x 0 drivers) → f ≡ with e (Wire (bits_of target) x (Plain b)) → f ≡ with_all d (converted_net x source target old)
converted_grows d e f x old source target drivers a b is made last grown end =
    let all : drivers ≡ conversion x 0 source target (Net old) = made ∙ ap (conversion x 0 source target) is in
    let result : b ≡ last_of x 0 (conversion x 0 source target (Net old)) (Net old) = last ∙ ap (last_of x 0 drivers) is ∙ ap (λ l. last_of x 0 l (Net old)) all in
    both d e f (wires_of x 0 (conversion x 0 source target (Net old))) (Wire (bits_of target) x (Plain (last_of x 0 (conversion x 0 source target (Net old)) (Net old))) ∷ [])
    (grown ∙ ap (λ l. with_all d (wires_of x 0 l)) all) (end ∙ ap (λ z. with e (Wire (bits_of target) x (Plain z))) result)

-- one step of a chain
pub step_grows : (d f : ModuleTree) (i p step next : ℕ) (first source target : Kind) (kinds : List Kind) (x old : Name) → f ≡ with_all d (converted_net x source target old)
    → x ≡ bound_net i p next → next ≡ step + 1 → old ≡ bound_net i p step → source ≡ kind_before first kinds step → target ≡ slice_index_or kinds step U64 → f ≡ with_all d (conversion_step i p first kinds step)
step_grows d f i p step next first source target kinds x old grown named more was before after =
    grown ∙ ap (λ z. with_all d (converted_net z source target old)) (named ∙ ap (bound_net i p) more) ∙ ap (λ z. with_all d (converted_net (bound_net i p (step + 1)) source target z)) was
    ∙ ap (λ z. with_all d (converted_net (bound_net i p (step + 1)) z target (bound_net i p step))) before
    ∙ ap (λ z. with_all d (converted_net (bound_net i p (step + 1)) (kind_before first kinds step) z (bound_net i p step))) after

-- what a parameter of its kind is bound to, if it is
pub bound_grows : (program : Program) (i p : ℕ) (k own : Kind) (b : Bound) (o : Option Bound) (d f : ModuleTree) → o ≡ Some b → own ≡ k → f ≡ with_all d (bound_nets program i p own b)
    → f ≡ with_all d (bound_elements program i p k o)
bound_grows program i p k own b o d f is same grown =
    grown ∙ ap (λ z. with_all d (bound_nets program i p z b)) same ∙ sym (ap (λ z. with_all d (bound_elements program i p k z)) is)

pub unbound_stays : (program : Program) (i p : ℕ) (k : Kind) (o : Option Bound) (d : ModuleTree) → o ≡ None → d ≡ with_all d (bound_elements program i p k o)
unbound_stays program i p k o d is = sym (ap (λ z. with_all d (bound_elements program i p k z)) is)

-- the net with its value
pub bound_named : (i p steps : ℕ) (b : Bound) (o : Option Bound) (x : Name) → o ≡ Some b → steps ≡ conversions b → x ≡ bound_net i p steps → x ≡ bound_by i p o
bound_named i p steps b o x is many named = named ∙ ap (bound_net i p) many ∙ sym (ap (bound_by i p) is)

pub unbound_named : (i p : ℕ) (o : Option Bound) (x : Name) → o ≡ None → x ≡ bound_net i p 0 → x ≡ bound_by i p o
unbound_named i p o x is named = named ∙ sym (ap (bound_by i p) is)
