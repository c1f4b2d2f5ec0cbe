use Rattle.std.proofs.Common.{◌≡◌, List, ◌∷◌, refl, inl, subst, sym}
use Rattle.vlog_tree.specs.declared.fault.VFault.{VFault}
use Rattle.vlog_tree.specs.declared.fault.VFault.TheVariants.{V1, V2, V3, V4, V5, V6, OutOfMemory}
use Rattle.vlog_tree.specs.Form.{ModuleTree}
use Rattle.tapa_base.specs.Lists.{Has}
use Rattle.vlog_tree.specs.V6.{is_top}
use Rattle.vlog_tree.specs.Loops.{TextPlace, text_places, LiesOnLoop, IsFirstIn}
use Rattle.vlog_tree.specs.Refused.{Refuses, IsDesign}
use Rattle.tapa_base.proofs.Lists.{has_right}
use Rattle.vlog_tree.proofs.laws.law_design_is_not_refused.Goals as goal

there : {A : Type 0} (P : A → Type 0) (xs : List A) (x : A) → IsFirstIn P xs x → Has xs x
there P xs x f = subst (λ l. Has l x) (sym f.split) (has_right f.before (x ∷ f.after) x (inl refl))

not_refused : (ms : List ModuleTree) (top : _) (e : VFault) → IsDesign ms top → Refuses ms e → e ≡ OutOfMemory
not_refused ms top (V1 place) d r = absurd r
not_refused ms top (V2 x) d r = let n = d.sound.names in cc
not_refused ms top (V3 x) d r = let n = d.sound.widths in let s = r.1 in cc
not_refused ms top (V4 x) d r = let n = d.sound.drivers in let s = r.2 in cc
not_refused ms top (V5 x) d r = let s : TextPlace = r.1.0 in let f = r.1.1 in absurd (d.loopless s (there (LiesOnLoop ms (is_top ms)) (text_places ms) s f) f.this)
not_refused ms top (V6 x) d r = let n = d.outside in let s = r.2 in cc
not_refused ms top OutOfMemory d r = refl

pub returns : goal.returns
returns c0 = λ ms top e d r. not_refused ms top e d r
