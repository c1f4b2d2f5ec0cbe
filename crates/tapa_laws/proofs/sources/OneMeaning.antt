-- A source has one program as plain data, one input, and one meaning.
use Rattle.std.proofs.Common.{◌≡◌, ℕ, List, refl, sym, ap, subst, ◌∙◌, inl, inr}
use Rattle.tapa_base.specs.declared.text.Place.{Place}
use Rattle.tapa_syntax.specs.declared.program.Program.{Program}
use Rattle.tapa_syntax.specs.Flat.{flat_program}
use Rattle.tapa_syntax.specs.Shapes.{IsShapeOf}
use Rattle.tapa_syntax.specs.Trees.{ItemTree, file_of}
use Rattle.tapa_syntax.specs.WellFormed.{IsWellFormed}
use Rattle.stream_check.specs.Programs.{program_of}
use Rattle.stream_check.proofs.WellPrograms.{legal_program_well}
use Rattle.run_program.specs.Laws.{RunMeaning, RunsAs}
use Rattle.run_program.proofs.OneWay.{runs_alike, one_way, some_way}
use Rattle.net_core.specs.Bounded.{Values}
use Rattle.command_answers.specs.Answer.{Answer, IsTaken}
use Rattle.command_answers.specs.Files.{Given, Bytes}
use Rattle.command_answers.specs.Refusal as refusal
use Rattle.command_answers.specs.Refusal.{Refusal, DataFault}
use Rattle.command_answers.specs.declared.file.File.{File}
use Rattle.command_answers.specs.declared.file.File.TheVariants as role
use Rattle.command_answers.specs.declared.source.SourceCode.{SourceCode}
use Rattle.command_source.specs.Inputs.{GivesValues, HasDataFault}
use Rattle.command_source.specs.Means.{IsSourceFault, IsDataFault}
use Rattle.command_source.specs.Source.{IsProgramOfText, IsProgramOf, IsRefusedSource}
use Rattle.command_source.proofs.Given.{one_input, one_fault, not_misgiven}
use Rattle.command_source.proofs.Sourced.{one_tree, one_written, means_nothing}
use Rattle.command_run.specs.Means.{MeansRun, answer_of}
use Rattle.tapa_laws.specs.sources.OneMeaning.{IsAsked, SourcesMeanOneThing, SourcesMeanSomething}
use Rattle.tapa_laws.proofs.commands.OneStep.{one_step}
use Rattle.tapa_laws.proofs.sources.OneRefusal.{one_refusal}

-- a text in which nothing is to be written out has one program
text_one_program : (text top : List ℕ) (p q : Program) → IsProgramOfText text top p → IsProgramOfText text top q → flat_program p ≡ flat_program q
text_one_program text top p q h k =
    let same = one_tree text h.file k.file h.tree k.tree in
    h.means ∙ ap (λ (items : List ItemTree). program_of items top) same ∙ sym k.means

module _ (text top : List ℕ) where
  pub one_program : (p q : Program) → IsProgramOf text top p → IsProgramOf text top q → flat_program p ≡ flat_program q
  one_program p q h k =
      text_one_program k.out top p q (subst (λ (t : List ℕ). IsProgramOfText t top p) (one_written text h.out k.out h.written k.written) h.means) k.means

  pub well : (p : Program) → IsProgramOf text top p → IsWellFormed p
  well p h = legal_program_well (file_of h.means.file) top p h.means.legal h.means.means

  pub asked_once : (bytes : List ℕ) (p q : Program) (v w : Values) → IsAsked text top bytes p v → IsAsked text top bytes q w → v ≡ w
  asked_once bytes p q v w h g = one_input p q (one_program p q h.means g.means) bytes v w h.gives g.gives

  pub faulty_once : (bytes : List ℕ) (p q : Program) (fault other : DataFault) → IsProgramOf text top p → IsProgramOf text top q → HasDataFault p bytes fault → HasDataFault q bytes other → fault ≡ other
  faulty_once bytes p q fault other h g = one_fault p q (one_program p q h g) bytes fault other

  -- a source that has a program is not refused
  legal : (p : Program) (place : Place) (code : SourceCode) → IsProgramOf text top p → IsRefusedSource text top place code → ⊥
  legal p place code h refused = means_nothing text top place code refused p h

-- the runs of two programs that are one as plain data, on their values, are one
one_run : (p q : Program) → flat_program p ≡ flat_program q → IsWellFormed q → (bytes : List ℕ) (limit : ℕ) (v w : Values) (how other : RunMeaning) → GivesValues p bytes v → GivesValues q bytes w → RunsAs p v limit how → RunsAs q w limit other → how ≡ other
one_run p q same fine bytes limit v w how other h g a b =
    let at_w : RunsAs p w limit how = subst (λ (u : Values). RunsAs p u limit how) (one_input p q same bytes v w h g) a in
    one_way q fine w limit how other (runs_alike p q same w limit how at_w) b

-- ---- steps that read a source and its data

refused_place : (place there : Place) (code other : SourceCode) → (place ≡ there) × (code ≡ other) → refusal.Source place code ≡ refusal.Source there other
refused_place place there code other (p, c) = ap (λ (x : Place). refusal.Source x code) p ∙ ap (refusal.Source there) c

pub source_fault_once : (top bytes : List ℕ) (why other : Refusal) → IsSourceFault top bytes why → IsSourceFault top bytes other → why ≡ other
source_fault_once top bytes why other (place, code, h, e) (there, rule, k, f) = e ∙ refused_place place there code rule (one_refusal bytes top place there code rule h k) ∙ sym f

pub legal_source : (top bytes : List ℕ) (why : Refusal) (p : Program) → IsSourceFault top bytes why → IsProgramOf bytes top p → ⊥
legal_source top bytes why p (place, code, h, e) is = means_nothing bytes top place code h p is

module _ (p q : Program) (same : flat_program p ≡ flat_program q) (bytes : List ℕ) where
  data_fault_once : (why other : Refusal) → IsDataFault (IsShapeOf p) bytes why → IsDataFault (IsShapeOf q) bytes other → why ≡ other
  data_fault_once why other (fault, h, e) (again, k, f) = e ∙ ap refusal.Data (one_fault p q same bytes fault again h k) ∙ sym f

  never_misgiven : (why : Refusal) (w : Values) → IsDataFault (IsShapeOf p) bytes why → GivesValues q bytes w → ⊥
  never_misgiven why w (fault, h, e) g = not_misgiven q p (sym same) bytes w fault g h

module _ (top : List ℕ) (limit : ℕ) (gives : File → Given) where
  run_once : (p q : Program) → flat_program p ≡ flat_program q → IsWellFormed q → (bytes : List ℕ) (v w : Values) (a b : Answer) → GivesValues p bytes v → GivesValues q bytes w
      → (how : RunMeaning) × RunsAs p v limit how × (a ≡ answer_of limit how) → (how : RunMeaning) × RunsAs q w limit how × (b ≡ answer_of limit how) → a ≡ b
  run_once p q same fine bytes v w a b h g (how, r, e) (other, s, f) = e ∙ ap (answer_of limit) (one_run p q same fine bytes limit v w how other h g r s) ∙ sym f

  pub means_one : (a b : Answer) → MeansRun top limit gives a → MeansRun top limit gives b → a ≡ b
  means_one a b =
      one_step role.Source (IsSourceFault top) (IsSourceFault top) (λ text p. IsProgramOf text top p) (λ text p. IsProgramOf text top p) (λ x y. x ≡ y) (λ why. refl)
      (source_fault_once top) (legal_source top) (legal_source top) (gives role.Source) _ _
      (λ text p q c d is also.
      let same : flat_program p ≡ flat_program q = one_program text top p q is also in
      one_step role.Data (IsDataFault (IsShapeOf p)) (IsDataFault (IsShapeOf q)) (GivesValues p) (GivesValues q) (λ x y. x ≡ y) (λ why. refl)
      (data_fault_once p q same) (never_misgiven p q same) (never_misgiven q p (sym same)) (gives role.Data) _ _
      (λ bytes v w e f. run_once p q same (well text top q also) bytes v w e f) c d)
      a b

pub sources_mean_one : SourcesMeanOneThing
sources_mean_one = λ top limit gives a b. means_one top limit gives a b

pub means_some : SourcesMeanSomething
means_some = λ text top bytes limit p v asked gives of_source of_data.
    let s = some_way p (well text top p asked.means) v limit in
    let is = subst (λ (g : Given). IsTaken {A = Program} g (λ t program. IsProgramOf t top program) p) (sym of_source) asked.means in
    let also = subst (λ (g : Given). IsTaken {A = Values} g (λ b values. GivesValues p b values) v) (sym of_data) asked.gives in
    (answer_of limit s.0, inr (p, is, inr (v, also, (s.0, s.1, refl))))
