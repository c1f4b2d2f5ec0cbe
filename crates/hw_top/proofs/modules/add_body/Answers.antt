use Rattle.std.proofs.Common.{List, ◌++◌, refl, sym, ap, ◌∙◌}
use Rattle.std.proofs.lemmas.List.{append-nil}
use Rattle.std.proofs.lemmas.Result.{IfOk-weaker, on_ok_weaker}
use Rattle.vlog_tree.specs.Form.{ModuleTree}
use Rattle.hw_top.proofs.Found.{found, missing}
use Rattle.hw_top.proofs.TaskModules.{module_at, no_machine_at, no_body_at, kept_at, no_machine_kept, no_body_kept}
use Rattle.hw_top.proofs.modules.add_body.Goals as goal

pub add_module-requires : goal.add_module-requires
add_module-requires c =
    let body = found c.args.program.now.bodies.items c.deref.result.now c.args.b c.in-Some.leaf.now c.deref.ensures.value c.in-Some.ensures.lookup.3.0 c.in-Some.ensures.lookup.1 in
    let machine = found c.args.machines.now c.args.machines.now c.args.b c.in-Some-get.machine.now refl c.in-Some-get.ensures.lookup.3.0 c.in-Some-get.ensures.lookup.1 in
    c.requires.of_leaf c.in-Some.leaf.now c.in-Some-get.machine.now body machine

pub returns-in-Some-get : goal.returns-in-Some-get
returns-in-Some-get c =
    let program = c.args.program.now in
    let machines = c.args.machines.now in
    let l = c.in-Some.leaf.now in
    let m = c.in-Some-get.machine.now in
    let body = found program.bodies.items c.deref.result.now c.args.b l c.deref.ensures.value c.in-Some.ensures.lookup.3.0 c.in-Some.ensures.lookup.1 in
    let machine = found machines machines c.args.b m refl c.in-Some-get.ensures.lookup.3.0 c.in-Some-get.ensures.lookup.1 in
    record {
      modules = IfOk-weaker c.add_module.result _ _ (λ u e. e ∙ sym (ap (λ (ms : List ModuleTree). c.args.modules.now.items ++ ms) (module_at program machines c.args.b l m body machine))) c.add_module.ensures.modules;
      promise = on_ok_weaker c.add_module.result (kept_at program machines c.args.b l m body machine) c.add_module.ensures.promise;
    }

pub returns-in-None-get : goal.returns-in-None-get
returns-in-None-get c =
    let program = c.args.program.now in
    let machines = c.args.machines.now in
    let l = c.in-Some.leaf.now in
    let ms = c.args.modules.now.items in
    let body = found program.bodies.items c.deref.result.now c.args.b l c.deref.ensures.value c.in-Some.ensures.lookup.3.0 c.in-Some.ensures.lookup.1 in
    let machine = missing machines machines c.args.b refl c.in-None-get.ensures.lookup.3 in
    record {
      modules = sym (append-nil ms) ∙ sym (ap (λ (ns : List ModuleTree). ms ++ ns) (no_machine_at program machines c.args.b l body machine));
      promise = no_machine_kept program machines c.args.b machine;
    }

pub returns-in-None : goal.returns-in-None
returns-in-None c =
    let program = c.args.program.now in
    let machines = c.args.machines.now in
    let ms = c.args.modules.now.items in
    let body = missing program.bodies.items c.deref.result.now c.args.b c.deref.ensures.value c.in-None.ensures.lookup.3 in
    record {
      modules = sym (append-nil ms) ∙ sym (ap (λ (ns : List ModuleTree). ms ++ ns) (no_body_at program machines c.args.b body));
      promise = no_body_kept program machines c.args.b body;
    }
