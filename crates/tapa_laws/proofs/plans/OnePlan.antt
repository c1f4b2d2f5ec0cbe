-- A source has one graph, one device with a device file, and one plan on it, or one reason for none.
use Rattle.std.proofs.Common.{◌≡◌, ◌+◌, ◌<◌, true, ℕ, List, refl, sym, ap, subst, subst₂, ◌∙◌, inl, inr}
use Rattle.std.specs.Prelude.{slice_index}
use Rattle.tapa_syntax.specs.declared.program.Program.{Program}
use Rattle.tapa_syntax.specs.Flat.{flat_program}
use Rattle.tapa_words.specs.declared.command.PlanAim.{PlanAim}
use Rattle.tapa_words.specs.declared.command.PlanAim.TheVariants.{Lines, Circuit}
use Rattle.tapa_words.specs.declared.command.PlanMode.{PlanMode}
use Rattle.task_graph.specs.declared.Graph.{Graph}
use Rattle.task_graph.specs.Arcs.{streams}
use Rattle.flow_cert.specs.Verdicts.{balance_of}
use Rattle.plan_device.specs.declared.device.Device.{Device}
use Rattle.plan_device.specs.One.{AreAlike}
use Rattle.plan_report.specs.Added.{AreAdded}
use Rattle.plan_report.specs.Borders.{AreBorderLatencies}
use Rattle.task_graph.specs.Programs.{IsGraphOf}
use Rattle.plan_device.specs.Answer.{IsDeviceOf}
use Rattle.command_answers.specs.Answer.{Answer, Refuses}
use Rattle.command_answers.specs.Files.{Given}
use Rattle.command_answers.specs.Refusal.{Refusal, DeviceFault, NoJson, HasFault}
use Rattle.command_answers.specs.Refusal as refusal
use Rattle.command_source.specs.Source.{IsProgramOf}
use Rattle.command_source.specs.Means.{IsSourceFault}
use Rattle.command_answers.specs.declared.file.File.{File}
use Rattle.command_answers.specs.declared.file.File.TheVariants as role
use Rattle.command_plan.specs.Planned.{HasDeviceFault, HasPlan, IsAskedOn}
use Rattle.command_plan.specs.Means.{IsBadDevice, ReadsDevice, ComesToPlan, MeansPlan, planned_text}
use Rattle.tapa_laws.proofs.plans.OnePlanOf.{plans_are_one, refusals_are_one, planned_or_refused}
use Rattle.tapa_laws.proofs.sources.OneMeaning.{one_program, source_fault_once, legal_source}
use Rattle.tapa_laws.proofs.commands.OneStep.{one_step}
use Rattle.tapa_laws.specs.plans.OneGraph.{AreAlikeGraphs, SourcesHaveOneGraph}
use Rattle.tapa_laws.specs.plans.OneDevice.{HasBadDevice, SourcesHaveOneDevice, SourcesHaveOneDeviceFault, DevicesHaveNoFault}
use Rattle.tapa_laws.specs.plans.OnePlan.{IsSamePlan, PlansMeanOneThing, SourcesHaveOnePlan, SourcesPrintOneBalance, SourcesBuildWhatPlanPrints}
use Rattle.tapa_laws.proofs.plans.Building.{added_same, balance_same}
use Rattle.tapa_laws.proofs.plans.OneDevice.{devices_alike, faults_alike, never_faulty}
use Rattle.tapa_laws.proofs.plans.OneGraph.{one_graph}
use Rattle.tapa_laws.proofs.plans.Planning.{found_over, unplanned_over}

pub one_source_graph : SourcesHaveOneGraph
one_source_graph = λ text top p q g h means other is are. one_graph p q g h (one_program text top p q means other) is are

module _ (text top bytes : List ℕ) where
  -- the program, the graph and the device of a source, twice, are one as plain data
  module _ (p q : Program) (g h : Graph) (d e : Device) (one : IsAskedOn text top bytes p g d) (two : IsAskedOn text top bytes q h e) where
    same_program : flat_program p ≡ flat_program q
    same_program = one_program text top p q one.means two.means

    pub same_graph : AreAlikeGraphs g h
    same_graph = one_graph p q g h same_program one.is_graph two.is_graph

    pub same_device : AreAlike d e
    same_device = devices_alike p q same_program g h same_graph bytes d e one.is_device two.is_device

  pub fault_once : (fault other : DeviceFault) → HasBadDevice text top bytes fault → HasBadDevice text top bytes other → fault ≡ other
  fault_once NoJson NoJson a b = refl
  fault_once NoJson (HasFault other) a b = absurd (a.has b.has.file b.has.is_json)
  fault_once (HasFault fault) NoJson a b = absurd (b.has a.has.file a.has.is_json)
  fault_once (HasFault fault) (HasFault other) a b =
      let same = one_program text top a.program b.program a.means b.means in
      let graphs = one_graph a.program b.program a.graph b.graph same a.is_graph b.is_graph in
      ap HasFault (faults_alike a.program b.program same a.graph b.graph graphs bytes fault other a.has b.has)

  pub no_fault : (p : Program) (g : Graph) (d : Device) (fault : DeviceFault) → IsAskedOn text top bytes p g d → HasBadDevice text top bytes fault → ⊥
  no_fault p g d NoJson a b = b.has a.is_device.file a.is_device.is_json
  no_fault p g d (HasFault fault) a b =
      let same = one_program text top p b.program a.means b.means in
      let graphs = one_graph p b.program g b.graph same a.is_graph b.is_graph in
      never_faulty p b.program same g b.graph graphs bytes d fault a.is_device b.has

  module _ (mode : PlanMode) where
    pub plan_once : (aim other : PlanAim) (told more : List ℕ) (one : HasPlan text top bytes mode aim told) (two : HasPlan text top bytes mode other more)
        → (one.plan.slot.items ≡ two.plan.slot.items) × (one.plan.used.items ≡ two.plan.used.items) × (one.plan.cost ≡ two.plan.cost)
    plan_once aim other told more one two =
        let graphs = same_graph one.program two.program one.graph two.graph one.device two.device one.asked two.asked in
        let devices = same_device one.program two.program one.graph two.graph one.device two.device one.asked two.asked in
        plans_are_one two.graph two.device mode one.plan two.plan (found_over one.graph two.graph one.device two.device graphs devices mode one.plan one.found) two.found

    pub balance_once : (told more : List ℕ) (one : HasPlan text top bytes mode Lines told) (two : HasPlan text top bytes mode Lines more)
        → (one.is.1.latencies ≡ two.is.1.latencies) × ((e : ℕ) → e < streams one.graph → balance_of one.graph one.is.1.latencies one.is.1.balance.s.items e
        ≡ balance_of two.graph two.is.1.latencies two.is.1.balance.s.items e)
    balance_once told more one two =
        let graphs = same_graph one.program two.program one.graph two.graph one.device two.device one.asked two.asked in
        let devices = same_device one.program two.program one.graph two.graph one.device two.device one.asked two.asked in
        let slots = (plan_once Lines Lines told more one two).0 in
        let borders : AreBorderLatencies two.graph two.device one.plan.slot.items two.is.1.latencies =
        subst (λ (xs : List ℕ). AreBorderLatencies two.graph two.device xs two.is.1.latencies) (sym slots) two.is.1.borders in
        balance_same one.graph two.graph one.device two.device graphs devices one.plan.slot.items one.is.1.latencies two.is.1.latencies
        one.is.1.balance two.is.1.balance one.is.1.borders borders one.is.1.best two.is.1.best

    pub builds_what_is_printed : (told more : List ℕ) (printed : HasPlan text top bytes mode Lines told) (built : HasPlan text top bytes mode (Circuit true) more) (e : ℕ)
        → e < streams printed.graph
        → slice_index built.is.added e ≡ slice_index printed.is.1.latencies e + balance_of printed.graph printed.is.1.latencies printed.is.1.balance.s.items e
    builds_what_is_printed told more printed built e inside =
        let graphs = same_graph printed.program built.program printed.graph built.graph printed.device built.device printed.asked built.asked in
        let devices = same_device printed.program built.program printed.graph built.graph printed.device built.device printed.asked built.asked in
        let slots = (plan_once Lines (Circuit true) told more printed built).0 in
        let are : AreAdded built.graph built.device printed.plan.slot.items true built.is.added =
        subst (λ (xs : List ℕ). AreAdded built.graph built.device xs true built.is.added) (sym slots) built.is.are in
        added_same printed.graph built.graph printed.device built.device graphs devices printed.plan.slot.items printed.is.1.latencies
        printed.is.1.balance built.is.added printed.is.1.borders printed.is.1.best are e inside

pub one_source_device : SourcesHaveOneDevice
one_source_device = λ text top bytes p q g h d e one two. same_device text top bytes p q g h d e one two

pub one_source_fault : SourcesHaveOneDeviceFault
one_source_fault = λ text top bytes fault other one two. fault_once text top bytes fault other one two

pub no_source_fault : DevicesHaveNoFault
no_source_fault = λ text top bytes p g d fault one two. no_fault text top bytes p g d fault one two

pub one_source_plan : SourcesHaveOnePlan
one_source_plan = λ text top bytes mode aim other told more one two. plan_once text top bytes mode aim other told more one two

pub one_source_balance : SourcesPrintOneBalance
one_source_balance = λ text top bytes mode told more one two. balance_once text top bytes mode told more one two

pub source_builds : SourcesBuildWhatPlanPrints
source_builds = λ text top bytes mode told more printed built e inside. builds_what_is_printed text top bytes mode told more printed built e inside

-- ---- steps that read a source and a device file

module _ (text top bytes : List ℕ) (p q : Program) (g h : Graph) (a : IsProgramOf text top p) (b : IsProgramOf text top q) (is : IsGraphOf p g) (also : IsGraphOf q h) where
  bad : (fault : DeviceFault) → HasDeviceFault p g bytes fault → HasBadDevice text top bytes fault
  bad fault has = record { program = p; graph = g; means = a; is_graph = is; has = has }

  bad_also : (fault : DeviceFault) → HasDeviceFault q h bytes fault → HasBadDevice text top bytes fault
  bad_also fault has = record { program = q; graph = h; means = b; is_graph = also; has = has }

  device_fault_once : (why other : Refusal) → IsBadDevice p g bytes why → IsBadDevice q h bytes other → why ≡ other
  device_fault_once why other (fault, has, e) (again, have, f) = e ∙ ap refusal.Device (fault_once text top bytes fault again (bad fault has) (bad_also again have)) ∙ sym f

  never_bad : (why : Refusal) (e : Device) → IsBadDevice p g bytes why → IsDeviceOf bytes q h e → ⊥
  never_bad why e (fault, has, x) gives = no_fault text top bytes q h e fault (record { means = b; is_graph = also; is_device = gives }) (bad fault has)

module _ (mode : PlanMode) (aim : PlanAim) where
  same_texts : (a : PlanAim) (told more : List ℕ) → IsSamePlan (planned_text a told) (planned_text a more)
  same_texts Lines told more = tt
  same_texts (Circuit balanced) told more = refl

  same_refusals : (why other : Refusal) → why ≡ other → IsSamePlan (Refuses why) (Refuses other)
  same_refusals why other e = ap Refuses e

  module _ (text top bytes : List ℕ) (p q : Program) (g h : Graph) (d e : Device) (one : IsAskedOn text top bytes p g d) (two : IsAskedOn text top bytes q h e) where
    graphs : AreAlikeGraphs g h
    graphs = same_graph text top bytes p q g h d e one two

    devices : AreAlike d e
    devices = same_device text top bytes p q g h d e one two

    comes_once : (a b : Answer) → ComesToPlan mode aim p g d a → ComesToPlan mode aim q h e b → IsSamePlan a b
    comes_once a b (inl (why, w, x)) (inl (other, v, y)) =
        subst₂ IsSamePlan (sym x) (sym y) (same_refusals why other (refusals_are_one h e mode why other (unplanned_over g h d e graphs devices mode why w) v))
    comes_once a b (inl (why, w, x)) (inr (plan, more, found, is, y)) = absurd (planned_or_refused h e mode plan why found (unplanned_over g h d e graphs devices mode why w))
    comes_once a b (inr (plan, told, found, is, x)) (inl (other, v, y)) = absurd (planned_or_refused h e mode plan other (found_over g h d e graphs devices mode plan found) v)
    comes_once a b (inr (plan, told, found, is, x)) (inr (again, more, find, also, y)) = subst₂ IsSamePlan (sym x) (sym y) (same_texts aim told more)

  module _ (top : List ℕ) (gives : File → Given) where
    abbrev Then : Program → Answer → Type 0
    Then p a = (g : Graph) × IsGraphOf p g × ReadsDevice p g (gives role.Device) (ComesToPlan mode aim p g) a

    of_programs : (text : List ℕ) (p q : Program) (a b : Answer) → IsProgramOf text top p → IsProgramOf text top q → Then p a → Then q b → IsSamePlan a b
    of_programs text p q a b is also (g, x, r) (h, y, s) =
        one_step role.Device (IsBadDevice p g) (IsBadDevice q h) (λ bytes d. IsDeviceOf bytes p g d) (λ bytes d. IsDeviceOf bytes q h d) IsSamePlan (λ why. refl)
        (λ bytes. device_fault_once text top bytes p q g h is also x y) (λ bytes. never_bad text top bytes p q g h is also x y)
        (λ bytes. never_bad text top bytes q p h g also is y x) (gives role.Device) (ComesToPlan mode aim p g) (ComesToPlan mode aim q h)
        (λ bytes d e c f m n. comes_once text top bytes p q g h d e (record { means = is; is_graph = x; is_device = m }) (record { means = also; is_graph = y; is_device = n }) c f)
        a b r s

    pub means_one : (a b : Answer) → MeansPlan top mode aim gives a → MeansPlan top mode aim gives b → IsSamePlan a b
    means_one a b =
        one_step role.Source (IsSourceFault top) (IsSourceFault top) (λ text p. IsProgramOf text top p) (λ text p. IsProgramOf text top p) IsSamePlan (λ why. refl)
        (source_fault_once top) (legal_source top) (legal_source top) (gives role.Source) Then Then of_programs a b

pub one_meaning : PlansMeanOneThing
one_meaning = λ top mode aim gives a b. means_one mode aim top gives a b
