-- From why a text or data are not taken to how they are refused.
use Rattle.std.proofs.Common.{◌≡◌, ℕ, List, refl, subst}
use Rattle.tapa_base.specs.declared.shape.Shape.{Shape}
use Rattle.vlog_tree.specs.declared.fault.VFault.{VFault}
use Rattle.vlog_tree.specs.declared.fault.VFault.TheVariants as verilog_fault
use Rattle.vlog_read.specs.Texts.{RefusesText}
use Rattle.vlog_design.specs.Designs.{DesignTree}
use Rattle.run_data.specs.Answer.{IsFirstFault}
use Rattle.command_answers.specs.Meaning.{verilog_end}
use Rattle.command_answers.specs.Refusal.{Refusal, V1, V2, V3, V4, V5, V6, NotJson, Faulty}
use Rattle.command_answers.specs.Steps.{Fails}
use Rattle.command_source.specs.Means.{IsDataFault}
use Rattle.command_cosim.specs.Designs.{IsShapeIn}
use Rattle.command_cosim.specs.Means.{IsTextFault}

pub faulty_text : (text : List ℕ) (fault : VFault) → RefusesText text fault → Fails (IsTextFault text) (verilog_end fault)
faulty_text text (verilog_fault.V1 place) h = (V1 place, h, refl)
faulty_text text (verilog_fault.V2 name) h = (V2 name, h, refl)
faulty_text text (verilog_fault.V3 name) h = (V3 name, h, refl)
faulty_text text (verilog_fault.V4 name) h = (V4 name, h, refl)
faulty_text text (verilog_fault.V5 name) h = (V5 name, h, refl)
faulty_text text (verilog_fault.V6 name) h = (V6 name, h, refl)
faulty_text text verilog_fault.OutOfMemory h = tt

-- data that are refused for the shape of a design are refused for the design
pub faulty_data : (design : DesignTree) (shape : Shape) → IsShapeIn design shape → (bytes : List ℕ) (why : Refusal) → IsDataFault (λ (s : Shape). s ≡ shape) bytes why → IsDataFault (IsShapeIn design) bytes why
faulty_data design shape is bytes why (NotJson, none, e) = (NotJson, none, e)
faulty_data design shape is bytes why (Faulty fault, (s, same, first), e) = (Faulty fault, (shape, is, subst (λ (t : Shape). IsFirstFault bytes t fault) same first), e)
