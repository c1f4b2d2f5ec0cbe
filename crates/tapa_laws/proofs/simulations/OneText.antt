-- A Verilog text and its data have one meaning.
use Rattle.std.proofs.Common.{◌≡◌, ℕ, List, [], Option, refl, sym, ap, subst, ◌∙◌}
use Rattle.std.proofs.lemmas.Option.{same_Some}
use Rattle.tapa_base.specs.declared.shape.Shape.{Shape}
use Rattle.vlog_tree.specs.declared.fault.VFault.{VFault}
use Rattle.vlog_tree.specs.declared.fault.VFault.TheVariants as verilog_fault
use Rattle.vlog_tree.specs.Environment.{Environment, shape_of}
use Rattle.vlog_tree.specs.Form.{ModuleTree}
use Rattle.vlog_design.specs.Designs.{DesignTree}
use Rattle.vlog_tree.specs.Refused.{IsDesign}
use Rattle.vlog_lex.specs.Grammar.{HasTree}
use Rattle.vlog_lex.proofs.OneTree.{one_tree}
use Rattle.vlog_read.specs.Texts.{RefusesText}
use Rattle.vlog_read.proofs.OneTop.{one_design}
use Rattle.run_data.specs.Data.{faults, scalars_of, memories_of, waits_of}
use Rattle.run_data.specs.Seen.{first}
use Rattle.sim_output.proofs.OneReport.{one_report, some_report}
use Rattle.sim_output.proofs.OneDump.{one_dump, some_dump}
use Rattle.tapa_words.specs.declared.command.CosimAim.{CosimAim}
use Rattle.tapa_words.specs.declared.command.CosimAim.TheVariants.{Report, Dump}
use Rattle.command_answers.specs.Answer.{Answer, Writes}
use Rattle.command_answers.specs.Files.{Given}
use Rattle.command_answers.specs.Refusal as refusal
use Rattle.command_answers.specs.Refusal.{Refusal, DataFault, NotJson, Faulty, VerilogFault, V1, V2, V3, V4, V5, V6}
use Rattle.command_source.proofs.Given.{same_faults, same_scalars, same_memories, same_waits, one_json, no_first}
use Rattle.command_answers.specs.declared.file.File.{File}
use Rattle.command_answers.specs.declared.file.File.TheVariants as role
use Rattle.command_source.specs.Means.{HasFault, IsDataFault, ReadsData}
use Rattle.command_cosim.specs.Means.{MeansCosim, unless_done, IsTextFault}
use Rattle.command_cosim.specs.Designs.{IsDesignOf, IsShapeIn, fault_of, IsRefusedText, IsToldFor, GivesEnvironment, HasSimulated}
use Rattle.tapa_laws.specs.simulations.OneText.{TextsMeanOneThing, TextsMeanSomething, RefusedTextsHaveNoDesign}
use Rattle.tapa_laws.proofs.commands.OneStep.{one_step}

-- what the reader's law says of a text
abbrev pub TextsHaveOneFault : Type 0
TextsHaveOneFault = (text : List ℕ) (e f : VFault) → RefusesText text e → RefusesText text f → (e ≡ verilog_fault.OutOfMemory → ⊥) → (f ≡ verilog_fault.OutOfMemory → ⊥) → e ≡ f

abbrev pub DesignsAreTaken : Type 0
DesignsAreTaken = (text : List ℕ) (d : DesignTree) (e : VFault) → HasTree text d.modules → IsDesign d.modules d.top → RefusesText text e → e ≡ verilog_fault.OutOfMemory

-- ---- faults

abbrev told_of : VFault → VerilogFault
told_of (verilog_fault.V1 place) = V1 place
told_of (verilog_fault.V2 x) = V2 x
told_of (verilog_fault.V3 x) = V3 x
told_of (verilog_fault.V4 x) = V4 x
told_of (verilog_fault.V5 x) = V5 x
told_of (verilog_fault.V6 x) = V6 x
told_of verilog_fault.OutOfMemory = V2 []

told_again : (f : VerilogFault) → told_of (fault_of f) ≡ f
told_again (V1 place) = refl
told_again (V2 x) = refl
told_again (V3 x) = refl
told_again (V4 x) = refl
told_again (V5 x) = refl
told_again (V6 x) = refl

no_memory : (f : VerilogFault) → fault_of f ≡ verilog_fault.OutOfMemory → ⊥
no_memory (V1 place) e = cc
no_memory (V2 x) e = cc
no_memory (V3 x) e = cc
no_memory (V4 x) e = cc
no_memory (V5 x) e = cc
no_memory (V6 x) e = cc

-- ---- designs and what data give them

one_design_of : (text : List ℕ) (d e : DesignTree) → IsDesignOf text d → IsDesignOf text e → e ≡ d
one_design_of text d e h k = one_design d e h.legal k.legal (one_tree text e.modules d.modules k.spelled h.spelled)

module _ (design : DesignTree) (s t : Shape) (is : IsShapeIn design s) (also : IsShapeIn design t) where
  one_top : is.top ≡ also.top
  one_top = same_Some is.top also.top (sym is.is_top ∙ also.is_top)

  one_scalars : s.scalars.items ≡ t.scalars.items
  one_scalars = is.scalars ∙ ap (λ (m : ModuleTree). (shape_of m).scalars) one_top ∙ sym also.scalars

  one_memories : s.memories.items ≡ t.memories.items
  one_memories = is.memories ∙ ap (λ (m : ModuleTree). (shape_of m).memories) one_top ∙ sym also.memories

one_environment : (design : DesignTree) (bytes : List ℕ) (e f : Environment) → GivesEnvironment design bytes e → GivesEnvironment design bytes f → e ≡ f
one_environment design bytes e f h g =
    let xs = one_scalars design h.shape g.shape h.is_shape g.is_shape in
    let ms = one_memories design h.shape g.shape h.is_shape g.is_shape in
    let json = one_json bytes h.file g.file h.is_json g.is_json in
    let scalars : e.scalars ≡ f.scalars = h.scalars ∙ ap (scalars_of h.shape) json ∙ same_scalars h.shape g.shape xs ms g.file ∙ sym g.scalars in
    let memories : e.memories ≡ f.memories = h.memories ∙ ap (memories_of h.shape) json ∙ same_memories h.shape g.shape xs ms g.file ∙ sym g.memories in
    let ready : e.ready ≡ f.ready = h.ready ∙ ap (waits_of h.shape) json ∙ same_waits h.shape g.shape xs ms g.file ∙ sym g.ready in
    λ i. record { scalars = scalars i; memories = memories i; ready = ready i }

no_fault : (design : DesignTree) (bytes : List ℕ) (env : Environment) (fault : DataFault) → GivesEnvironment design bytes env → HasFault (IsShapeIn design) bytes fault → ⊥
no_fault design bytes env NotJson h d = d h.file h.is_json
no_fault design bytes env (Faulty fault) h (shape, is, d) =
    let xs = one_scalars design h.shape shape h.is_shape is in
    let ms = one_memories design h.shape shape h.is_shape is in
    let none : faults shape d.file ≡ [] = sym (same_faults h.shape shape xs ms d.file) ∙ ap (faults h.shape) (one_json bytes d.file h.file d.is_json h.is_json) ∙ h.faultless in
    no_first (faults shape d.file) fault none d.first

one_data_fault : (design : DesignTree) (bytes : List ℕ) (f g : DataFault) → HasFault (IsShapeIn design) bytes f → HasFault (IsShapeIn design) bytes g → f ≡ g
one_data_fault design bytes NotJson NotJson h k = refl
one_data_fault design bytes NotJson (Faulty g) h (shape, is, d) = absurd (h d.file d.is_json)
one_data_fault design bytes (Faulty f) NotJson (shape, is, d) k = absurd (k d.file d.is_json)
one_data_fault design bytes (Faulty f) (Faulty g) (s, is, d) (t, also, e) =
    let xs = one_scalars design s t is also in
    let ms = one_memories design s t is also in
    let faults_are : faults s d.file ≡ faults t e.file = ap (faults s) (one_json bytes d.file e.file d.is_json e.is_json) ∙ same_faults s t xs ms e.file in
    ap Faulty (same_Some f g (sym d.first ∙ ap first faults_are ∙ e.first))

-- what is told of a run is one, the report as the dump
one_told : (aim : CosimAim) (design : DesignTree) → IsDesign design.modules design.top → (env : Environment) (limit : ℕ) (o p : Option ℕ) (r q : List ℕ)
    → IsToldFor aim design env limit o r → IsToldFor aim design env limit p q → (o ≡ p) × (r ≡ q)
one_told Report = one_report
one_told Dump = one_dump

some_told : (aim : CosimAim) (design : DesignTree) → IsDesign design.modules design.top → (env : Environment) (limit : ℕ) → (o : Option ℕ) × (r : List ℕ) × IsToldFor aim design env limit o r
some_told Report = some_report
some_told Dump = some_dump

-- ---- what a text means with data

-- a step that reads data for a design, and what is told of its run
abbrev Then : ℕ → CosimAim → (File → Given) → DesignTree → Answer → Type 0
Then limit aim gives design answer =
    ReadsData (IsShapeIn design) (gives role.Data) (GivesEnvironment design)
    (λ env a. (at : Option ℕ) × (told : List ℕ) × IsToldFor aim design env limit at told × (a ≡ Writes told (unless_done limit at))) answer

module _ (design : DesignTree) (bytes : List ℕ) where
  data_fault_once : (why other : Refusal) → IsDataFault (IsShapeIn design) bytes why → IsDataFault (IsShapeIn design) bytes other → why ≡ other
  data_fault_once why other (fault, h, e) (again, k, f) = e ∙ ap refusal.Data (one_data_fault design bytes fault again h k) ∙ sym f

  never_misgiven : (why : Refusal) (env : Environment) → IsDataFault (IsShapeIn design) bytes why → GivesEnvironment design bytes env → ⊥
  never_misgiven why env (fault, h, e) g = no_fault design bytes env fault g h

module _ (once : TextsHaveOneFault) (taken : DesignsAreTaken) where
  pub refused_has_none : RefusedTextsHaveNoDesign
  refused_has_none text fault design h k = no_memory fault (taken text design (fault_of fault) k.spelled k.legal h)

  one_refusal : (text : List ℕ) (f g : VerilogFault) → IsRefusedText text f → IsRefusedText text g → f ≡ g
  one_refusal text f g h k = sym (told_again f) ∙ ap told_of (once text (fault_of f) (fault_of g) h k (no_memory f) (no_memory g)) ∙ told_again g

  text_fault_once : (text : List ℕ) (why other : Refusal) → IsTextFault text why → IsTextFault text other → why ≡ other
  text_fault_once text why other (fault, h, e) (again, k, f) = e ∙ ap refusal.Verilog (one_refusal text fault again h k) ∙ sym f

  never_faulty : (text : List ℕ) (why : Refusal) (design : DesignTree) → IsTextFault text why → IsDesignOf text design → ⊥
  never_faulty text why design (fault, h, e) k = refused_has_none text fault design h k

  module _ (limit : ℕ) (aim : CosimAim) (gives : File → Given) where
    -- what is told of a run in an environment
    abbrev Told : DesignTree → Environment → Answer → Type 0
    Told design env answer = (at : Option ℕ) × (told : List ℕ) × IsToldFor aim design env limit at told × (answer ≡ Writes told (unless_done limit at))

    told_once : (design : DesignTree) → IsDesign design.modules design.top → (bytes : List ℕ) (e f : Environment) (a b : Answer) → GivesEnvironment design bytes e → GivesEnvironment design bytes f → Told design e a → Told design f b → a ≡ b
    told_once design legal bytes e f a b g h (at, told, is, x) (other, more, also, y) =
        let here = subst (λ (env : Environment). IsToldFor aim design env limit at told) (one_environment design bytes e f g h) is in
        let one = one_told aim design legal f limit at other told more here also in
        x ∙ (ap (λ (l : List ℕ). Writes l (unless_done limit at)) one.1 ∙ ap (λ (o : Option ℕ). Writes more (unless_done limit o)) one.0) ∙ sym y

    of_design : (design : DesignTree) → IsDesign design.modules design.top → (a b : Answer) → Then limit aim gives design a → Then limit aim gives design b → a ≡ b
    of_design design legal a b h k =
        one_step role.Data (IsDataFault (IsShapeIn design)) (IsDataFault (IsShapeIn design)) (GivesEnvironment design) (GivesEnvironment design) (λ x y. x ≡ y) (λ why. refl)
        (data_fault_once design) (never_misgiven design) (never_misgiven design) (gives role.Data) (Told design) (Told design) (λ bytes e f c d. told_once design legal bytes e f c d) a b h k

    pub means_one : (a b : Answer) → MeansCosim limit aim gives a → MeansCosim limit aim gives b → a ≡ b
    means_one a b =
        one_step role.Text IsTextFault IsTextFault IsDesignOf IsDesignOf (λ x y. x ≡ y) (λ why. refl) text_fault_once never_faulty never_faulty (gives role.Text)
        (Then limit aim gives) (Then limit aim gives)
        (λ text d e x y is also h k. of_design d is.legal x y h (subst (λ (design : DesignTree). Then limit aim gives design y) (one_design_of text d e is also) k)) a b

  pub one_meaning : TextsMeanOneThing
  one_meaning = λ limit aim gives a b. means_one limit aim gives a b

pub some_meaning : TextsMeanSomething
some_meaning aim told bytes limit design env means gives =
    let s = some_told aim design means.legal env limit in
    (s.0, s.1, record { design = design; env = env; means = means; gives = gives; is = s.2 })
