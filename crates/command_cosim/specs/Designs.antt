-- The design of a Verilog text, what data give it, and what it does with them.
use Rattle.std.specs.Prelude.{◌≡◌, ℕ, List, [], Option}
use Rattle.serde_json.specs.Data.{Data as Json}
use Rattle.tapa_base.specs.declared.shape.Shape.{Shape}
use Rattle.vlog_tree.specs.declared.fault.VFault.{VFault}
use Rattle.vlog_tree.specs.declared.fault.VFault.TheVariants as verilog_fault
use Rattle.vlog_tree.specs.Environment.{Environment, FitsShape, shape_of}
use Rattle.vlog_tree.specs.Form.{ModuleTree}
use Rattle.vlog_tree.specs.Refused.{IsDesign}
use Rattle.vlog_lex.specs.Grammar.{HasTree}
use Rattle.vlog_design.specs.Designs.{DesignTree, TopOf}
use Rattle.vlog_read.specs.Texts.{RefusesText}
use Rattle.run_data.specs.Data.{IsJson, faults, scalars_of, memories_of, waits_of}
use Rattle.sim_output.specs.Ending.{Telling}
use Rattle.sim_output.specs.Reports.{IsSimulated}
use Rattle.sim_output.specs.Dumped.{IsDumped}
use Rattle.tapa_words.specs.declared.command.CosimAim.{CosimAim}
use Rattle.tapa_words.specs.declared.command.CosimAim.TheVariants.{Report, Dump}
use Rattle.command_answers.specs.Refusal.{VerilogFault, V1, V2, V3, V4, V5, V6}

-- the text spells modules, and these are a design
pub record IsDesignOf (text : List ℕ) (design : DesignTree) : Type 0 where
  pub spelled : HasTree text design.modules
  pub legal : IsDesign design.modules design.top

abbrev pub fault_of : VerilogFault → VFault
fault_of (V1 place) = verilog_fault.V1 place
fault_of (V2 name) = verilog_fault.V2 name
fault_of (V3 name) = verilog_fault.V3 name
fault_of (V4 name) = verilog_fault.V4 name
fault_of (V5 name) = verilog_fault.V5 name
fault_of (V6 name) = verilog_fault.V6 name

-- the text spells no modules, and this is the place; or they break this rule first, at this name
abbrev pub IsRefusedText : List ℕ → VerilogFault → Type 0
IsRefusedText text fault = RefusesText text (fault_of fault)

-- what the top of a design asks for
pub record IsShapeIn (design : DesignTree) (shape : Shape) : Type 0 where
  pub top : ModuleTree
  pub is_top : TopOf design top
  pub scalars : shape.scalars.items ≡ (shape_of top).scalars
  pub memories : shape.memories.items ≡ (shape_of top).memories

-- the text is JSON without a fault for the design, and gives this environment, which fits the design: a value for each scalar, and
-- for each memory its first cells and when it is ready
pub record GivesEnvironment (design : DesignTree) (bytes : List ℕ) (env : Environment) : Type 0 where
  pub shape : Shape
  pub is_shape : IsShapeIn design shape
  pub file : Json
  pub is_json : IsJson bytes file
  pub faultless : faults shape file ≡ []
  pub scalars : env.scalars ≡ scalars_of shape file
  pub memories : env.memories ≡ memories_of shape file
  pub ready : env.ready ≡ waits_of shape file
  pub fits : (m : ModuleTree) → TopOf design m → FitsShape env (shape_of m)

-- what a simulation is for: the report of the run, or its dump
abbrev pub IsToldFor : CosimAim → Telling
IsToldFor Report design env limit done_at told = IsSimulated design env limit done_at told
IsToldFor Dump design env limit done_at told = IsDumped design env limit done_at told

-- The design of the text runs in the environment that the data give. It is done first in this cycle, or in none up to a limit;
-- and this is the report or the dump up to there.
pub record HasSimulated (aim : CosimAim) (text bytes : List ℕ) (limit : ℕ) (done_at : Option ℕ) (report : List ℕ) : Type 0 where
  pub design : DesignTree
  pub env : Environment
  pub means : IsDesignOf text design
  pub gives : GivesEnvironment design bytes env
  pub is : IsToldFor aim design env limit done_at report
