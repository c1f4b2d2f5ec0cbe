-- The top has no loop: what it rests on it rests on beside the modules below it.
use Rattle.std.proofs.Common.{◌≡◌, Bool, List, Some, refl, sym, subst, ◌∙◌}
use Rattle.vlog_tree.specs.Form.{ModuleTree}
use Rattle.tapa_base.specs.Lists.{Has}
use Rattle.vlog_tree.specs.Loops.{Edges, Rests, directly, through, after}
use Rattle.vlog_tree.specs.Table.{Name, module_named}
use Rattle.vlog_module_laws.specs.Larger.{IsWithin, HaveInstancesOf}
use Rattle.vlog_module_laws.proofs.Larger.{direct_same, found, named_has, rests_fewer}
use Rattle.hw_build.proofs.Order.{no_loop}
use Rattle.hw_lines.specs.Texts.{task_name}
use Rattle.hw_top_lines.specs.Texts.{top_elements}
use Rattle.hw_top_laws.specs.modules.Lower.{lower_modules}
use Rattle.hw_top_laws.proofs.form.Form.{elements_form}
use Rattle.hw_top_laws.proofs.form.Whole.{tops_are_fitting}
use Rattle.hw_top_laws.specs.design.Order.{TopsHaveNoLoop}
use Rattle.hw_top_laws.proofs.design.Answers.{answers}
use Rattle.hw_top_laws.proofs.design.Kept.{order}

module _ (ms all : List ModuleTree) (is_top : Name → Bool) (within : IsWithin ms all) (have : (m : ModuleTree) → Has ms m → HaveInstancesOf ms m) where
  -- of a module whose instances are of these modules, though it is none of them
  pub fewer : {m : ModuleTree} {x y : Name} → Rests all is_top m x y → HaveInstancesOf ms m → Rests ms is_top m x y
  fewer (directly {m = m} {x = x} {y = y} h) own = directly (subst (λ (l : Edges). Has l (x, y)) (sym (direct_same ms all within m own is_top is_top refl)) h)
  fewer (through {m = m} {a = a} {b = b} k kn i x y inst named out into inside ea eb) own =
      let r = found ms kn (own kn i inst) in
      let n : module_named ms kn ≡ Some k = r.2 ∙ sym (within kn r.0 r.2) ∙ named in
      through k kn i x y inst n out into (rests_fewer ms all is_top is_top within have (λ q h. refl) inside (named_has ms kn k n)) ea eb
  fewer (after {m = m} {x = x} {z = z} y r s) own = after y (fewer r own) (fewer s own)

pub top_no_loop : TopsHaveNoLoop
top_no_loop program machines added ready kept is_top below x r =
    no_loop (lower_modules program machines added) (task_name program.top) (top_elements program added) (tops_are_fitting program machines added ready kept) (elements_form program machines added ready kept)
    is_top (order program machines added ready kept is_top below) (answers program machines added ready kept is_top) x r
