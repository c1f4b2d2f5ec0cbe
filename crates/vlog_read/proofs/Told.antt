-- What is told of modules whose numbers are cut.
use Rattle.std.proofs.Common.{◌≡◌, List, map, Result, Ok, Err, sym, subst}
use Rattle.std.specs.Prelude.{IfOk, IfErr}
use Rattle.vlog_tree.specs.declared.fault.VFault.{VFault}
use Rattle.vlog_tree.specs.Form.{ModuleTree}
use Rattle.vlog_tree.specs.Refused.{Refuses, IsDesign}
use Rattle.vlog_tree.specs.Clamped.{clamped}
use Rattle.tapa_base.specs.Gaps.{Bytes}
use Rattle.vlog_lex.specs.Grammar.{HasTree}
use Rattle.vlog_design.specs.Designs.{DesignTree}
use Rattle.vlog_read.specs.Texts.{RefusesText}
use Rattle.vlog_read.proofs.Judged.{refuses_text, tree_uncut}

pub told_fault : (text : Bytes) (ms cs : List ModuleTree) (result : Result DesignTree VFault) → HasTree text ms → cs ≡ map clamped ms → IfErr result (λ e. Refuses cs e) → IfErr result (λ e. RefusesText text e)
told_fault text ms cs (Ok d) tree is h = tt
told_fault text ms cs (Err e) tree is h = refuses_text text ms e tree (subst (λ (l : List ModuleTree). Refuses l e) is h)

pub told_design : (text : Bytes) (ms cs : List ModuleTree) (result : Result DesignTree VFault) → HasTree text ms → cs ≡ map clamped ms → IfOk result (λ d. d.modules ≡ cs) → IfOk result (λ d. IsDesign cs d.top) → IfOk result (λ d. HasTree text d.modules)
told_design text ms cs (Err e) tree is same design = tt
told_design text ms cs (Ok d) tree is same design =
    subst (HasTree text) (sym same) (subst (HasTree text) (sym is) (tree_uncut text ms d.top tree (subst (λ (l : List ModuleTree). IsDesign l d.top) is design)))

pub told_checked : (cs : List ModuleTree) (result : Result DesignTree VFault) → IfOk result (λ d. d.modules ≡ cs) → IfOk result (λ d. IsDesign cs d.top) → IfOk result (λ d. IsDesign d.modules d.top)
told_checked cs (Err e) same design = tt
told_checked cs (Ok d) same design = subst (λ (l : List ModuleTree). IsDesign l d.top) (sym same) design
