-- From what reading a source and a device file and planning give to how the command ends.
use Rattle.std.proofs.Common.{◌≡◌, ◌≢◌, ℕ, List, Bool, None, Ok, refl, sym, ap, subst, inl, inr}
use Rattle.tapa_syntax.specs.declared.program.Program.{Program}
use Rattle.tapa_words.specs.declared.command.PlanAim.{PlanAim}
use Rattle.tapa_words.specs.declared.command.PlanAim.TheVariants.{Lines, Circuit}
use Rattle.tapa_words.specs.declared.command.PlanMode.{PlanMode}
use Rattle.task_graph.specs.declared.Graph.{Graph}
use Rattle.task_graph.specs.Programs.{IsGraphOf}
use Rattle.plan_device.specs.declared.device.Device.{Device}
use Rattle.plan_device.specs.Answer.{IsDeviceOf}
use Rattle.slot_plan.specs.declared.floorplan.Plan.{Plan}
use Rattle.command_answers.specs.Answer.{Answer, Puts, Writes, Refuses, IsRefusedFile}
use Rattle.command_answers.specs.Ends.{End, Ends, ComesTo, IsCarriedOut, ReadsAsked}
use Rattle.command_answers.specs.Files.{Named, Given, IsGiven, Asks, most_of}
use Rattle.command_answers.specs.Outside.{Store, Written}
use Rattle.command_answers.specs.Steps.{Fails, Took}
use Rattle.command_answers.specs.declared.file.File.{File}
use Rattle.command_answers.specs.declared.file.File.TheVariants as role
use Rattle.command_answers.proofs.FirstFile.{at, first_refused}
use Rattle.command_answers.proofs.FurtherFile.{further_refused, further_comes, further_asked}
use Rattle.command_answers.proofs.Texts.{fails, wrote, wrote_whole}
use Rattle.command_source.specs.Means.{IsSourceFault}
use Rattle.command_source.specs.Source.{IsProgramOf}
use Rattle.command_plan.specs.Means.{IsBadDevice, ComesToPlan, MeansPlan, WroteBy, files_of_plan, planned_text}
use Rattle.command_plan.specs.Planned.{IsFound, IsPlanText, IsCircuitBy, IsToldBy, IsUnplanned}

apart : role.Source ≢ role.Device
apart e = cc

module _ (source top name : List ℕ) (mode : PlanMode) (aim : PlanAim) (before mid : Store) (asks : Asks before mid (Named source)) (old : Written) where
  abbrev Gives : List ℕ → Program → Type 0
  Gives text program = IsProgramOf text top program

  -- the source is refused, or memory ran out after it was read
  pub no_program : (end : End) → Fails (λ why. (given : Given) × IsGiven before mid (Named source) (most_of role.Source) given × IsRefusedFile role.Source given (IsSourceFault top) why) end
      → IsCarriedOut (files_of_plan source name) (MeansPlan top mode aim) (at before old) (at mid old) end
  no_program end h = first_refused (files_of_plan source name) (MeansPlan top mode aim) role.Source before mid (IsSourceFault top) (λ gives why w. inl (why, w, refl)) end h asks old

  module _ (program : Program) (took : Took before mid role.Source (Named source) (IsSourceFault top) Gives (Ok program)) (graph : Graph) (is_graph : IsGraphOf program graph)
      (after : Store) (asks_also : Asks mid after (Named name)) where
    abbrev GivesDevice : List ℕ → Device → Type 0
    GivesDevice bytes device = IsDeviceOf bytes program graph device

    pub no_device : (end : End) → Fails (λ why. (given : Given) × IsGiven mid after (Named name) (most_of role.Device) given × IsRefusedFile role.Device given (IsBadDevice program graph) why) end
        → IsCarriedOut (files_of_plan source name) (MeansPlan top mode aim) (at before old) (at after old) end
    no_device end h =
        further_refused (files_of_plan source name) (MeansPlan top mode aim) role.Source role.Device apart before mid after asks asks_also Gives program took
        (IsSourceFault top) (λ gives why w. inl (why, w, refl)) (IsBadDevice program graph)
        (λ gives why taken w. inr (program, taken, (graph, is_graph, inl (why, w, refl)))) end h old

    asked : ReadsAsked (files_of_plan source name) (MeansPlan top mode aim) before after
    asked =
        further_asked (files_of_plan source name) (MeansPlan top mode aim) role.Source role.Device apart before mid after asks asks_also Gives program took
        (IsSourceFault top) (λ gives why w. inl (why, w, refl)) (IsBadDevice program graph)
        (λ gives why taken w. inr (program, taken, (graph, is_graph, inl (why, w, refl))))

    module _ (device : Device) (took_also : Took mid after role.Device (Named name) (IsBadDevice program graph) GivesDevice (Ok device)) where
      abbrev Comes : Answer → Type 0
      Comes = ComesTo (files_of_plan source name) (MeansPlan top mode aim) before after

      comes : (answer : Answer) → ComesToPlan mode aim program graph device answer → Comes answer
      comes answer h =
          further_comes (files_of_plan source name) (MeansPlan top mode aim) role.Source role.Device apart before mid after asks asks_also Gives program took
          GivesDevice device answer took_also (λ gives taken also. inr (program, taken, (graph, is_graph, inr (device, also, h))))

      pub no_plan : (end : End) → Fails (IsUnplanned graph device mode) end → IsCarriedOut (files_of_plan source name) (MeansPlan top mode aim) (at before old) (at after old) end
      no_plan end h = record { ends = fails Comes (IsUnplanned graph device mode) (λ why w. comes (Refuses why) (inl (why, w, refl))) end h old; reads = asked }

      module _ (plan : Plan) (found : IsFound graph device mode plan) (new : Written) (end : End) where
        comes_to_lines : aim ≡ Lines → (told : List ℕ) → IsPlanText graph device plan told → Comes (Puts told)
        comes_to_lines e told is = subst Comes (ap (λ (a : PlanAim). planned_text a told) e) (comes (planned_text aim told) (inr (plan, told, found, subst (λ (a : PlanAim). IsToldBy a program graph device plan told) (sym e) is, refl)))

        comes_to_circuit : (balanced : Bool) → aim ≡ Circuit balanced → (told : List ℕ) → IsCircuitBy program graph device plan balanced told → Comes (Writes told None)
        comes_to_circuit balanced e told is = subst Comes (ap (λ (a : PlanAim). planned_text a told) e) (comes (planned_text aim told) (inr (plan, told, found, subst (λ (a : PlanAim). IsToldBy a program graph device plan told) (sym e) is, refl)))

        ends_by : (a : PlanAim) → aim ≡ a → WroteBy a program graph device plan old new end → Ends Comes old new end
        ends_by Lines e h = wrote_whole Comes (IsPlanText graph device plan) old new (comes_to_lines e) end h
        ends_by (Circuit balanced) e h = wrote Comes (IsCircuitBy program graph device plan balanced) old new (comes_to_circuit balanced e) end h

        pub planned : WroteBy aim program graph device plan old new end → IsCarriedOut (files_of_plan source name) (MeansPlan top mode aim) (at before old) (at after new) end
        planned h = record { ends = ends_by aim refl h; reads = asked }
