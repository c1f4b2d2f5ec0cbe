use Rattle.std.proofs.Common.{◌≡◌, ◌≤◌, arith, get_or, List, length, map, ap, subst, ◌∙◌}
use Rattle.vlog_tree.specs.Form.{ModuleTree}
use Rattle.vlog_tree.specs.Table.{Name, module_declared}
use Rattle.sim_flat.specs.Kinds.{kind_place, all_kinds}
use Rattle.sim_flat.specs.Rows.{AreRows, HaveDepth}
use Rattle.sim_flat.specs.Sizes.{CountsWithin}
use Rattle.sim_flat.proofs.Numbered.{are_instances, all_done}
use Rattle.sim_flat.proofs.Sizing.{sums_end}
use Rattle.sim_flat.proofs.instances.instances_of.Goals as goal

pub returns-clause-instances : goal.returns-clause-instances
returns-clause-instances c = λ m at.
    let ms = c.args.design.now.modules in
    let rows = c.in_ok-all.all.rows.items in
    let first = c.in_ok-all.all.first.items in
    let same : c.top.result.now ≡ m = cc (c.top.ensures, at) in
    let name : c.name-name.result.now ≡ m.name = c.name-name.ensures ∙ ap (λ (k : ModuleTree). k.name) same in
    let here = c.modules-modules.ensures.value in
    let r = subst (λ (x : Name). AreRows (all_kinds (map module_declared c.modules-modules.result.now) c.modules-modules.result.now) (kind_place (map module_declared c.modules-modules.result.now) x) rows first) name c.in_ok-all.ensures.rows in
    are_instances ms c.args.design.now.top c.modules-modules.ensures.design m at rows first
    (subst (λ (l : List ModuleTree). AreRows (all_kinds (map module_declared l) l) (kind_place (map module_declared l) m.name) rows first) here r)
    (subst (λ (l : List ModuleTree). HaveDepth rows (length first) (length rows) (length l)) here c.in_ok-all.ensures.deepest)

pub returns-clause-counted : goal.returns-clause-counted
returns-clause-counted c = λ m at own counts a.
    let ms = c.args.design.now.modules in
    let rows = c.in_ok-all.all.rows.items in
    let first = c.in_ok-all.all.first.items in
    let same : c.top.result.now ≡ m = cc (c.top.ensures, at) in
    let name : c.name-name.result.now ≡ m.name = c.name-name.ensures ∙ ap (λ (k : ModuleTree). k.name) same in
    let here = c.modules-modules.ensures.value in
    let r = subst (λ (l : List ModuleTree). AreRows (all_kinds (map module_declared l) l) (kind_place (map module_declared l) m.name) rows first) here
    (subst (λ (x : Name). AreRows (all_kinds (map module_declared c.modules-modules.result.now) c.modules-modules.result.now) (kind_place (map module_declared c.modules-modules.result.now) x) rows first) name c.in_ok-all.ensures.rows) in
    let w = subst (λ (l : List ModuleTree). CountsWithin (all_kinds (map module_declared l) l) (kind_place (map module_declared l) m.name) rows (length first)) here
    (subst (λ (x : Name). CountsWithin (all_kinds (map module_declared c.modules-modules.result.now) c.modules-modules.result.now) (kind_place (map module_declared c.modules-modules.result.now) x) rows (length first)) name c.in_ok-all.ensures.counted) in
    let done : length rows ≤ length first = all_done ms c.args.design.now.top c.modules-modules.ensures.design m at rows first r
    (subst (λ (l : List ModuleTree). HaveDepth rows (length first) (length rows) (length l)) here c.in_ok-all.ensures.deepest) in
    let few : length first ≤ length rows = r.fewer in
    let all : length first ≡ length rows = omega arith in
    subst (λ n. get_or counts (kind_place (map module_declared ms) m.name) 0 ≤ n) (sums_end own counts rows (length first) all) (w own counts a)
