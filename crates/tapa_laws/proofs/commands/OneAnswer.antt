-- Each command comes to one answer by what its files give.
use Rattle.std.proofs.Common.{◌≡◌, ℕ, List, None, refl, sym, subst₂}
use Rattle.tapa_syntax.specs.declared.program.Program.{Program}
use Rattle.command_answers.specs.Answer.{Answer, Writes}
use Rattle.command_answers.specs.declared.file.File.{File}
use Rattle.command_answers.specs.declared.file.File.TheVariants as role
use Rattle.command_source.specs.Means.{IsSourceFault}
use Rattle.command_source.specs.Source.{IsProgramOf}
use Rattle.command_build.specs.Means.{ComesToCircuit, MeansBuild}
use Rattle.tapa_laws.specs.commands.OneAnswer.{RunsMeanOneThing, NetsMeanOneThing, PlansMeanOneThing, CircuitsMeanOneThing}
use Rattle.tapa_laws.specs.plans.OnePlan.{IsSamePlan}
use Rattle.tapa_laws.proofs.commands.NetOnce.{net_once}
use Rattle.tapa_laws.proofs.commands.OneStep.{one_step}
use Rattle.tapa_laws.proofs.plans.OnePlan.{one_meaning}
use Rattle.tapa_laws.proofs.sources.OneMeaning.{sources_mean_one, source_fault_once, legal_source}

pub runs_once : RunsMeanOneThing
runs_once = λ source top input workers limit gives a b. sources_mean_one top limit gives a b

pub nets_once : NetsMeanOneThing
nets_once = λ file net gives a b. net_once net gives a b

pub plans_once : PlansMeanOneThing
plans_once = λ source top device mode aim gives a b. one_meaning top mode aim gives a b

circuit_once : (p q : Program) (a b : Answer) → ComesToCircuit p a → ComesToCircuit q b → IsSamePlan a b
circuit_once p q a b (told, is, e) (more, also, f) =
    let same : IsSamePlan (Writes told None) (Writes more None) = refl in
    subst₂ IsSamePlan (sym e) (sym f) same

pub circuits_once : CircuitsMeanOneThing
circuits_once = λ source top gives a b.
    one_step role.Source (IsSourceFault top) (IsSourceFault top) (λ text p. IsProgramOf text top p) (λ text p. IsProgramOf text top p) IsSamePlan (λ why. refl)
    (source_fault_once top) (legal_source top) (legal_source top) (gives role.Source) ComesToCircuit ComesToCircuit (λ text p q c d is also h k. circuit_once p q c d h k) a b
