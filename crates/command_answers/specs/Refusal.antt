-- Why a command that is carried out ends with another status than that of done work.
use Rattle.std.specs.Prelude.{ℕ, List, [], ◌++◌, Option, Some, None, codes, decimal}
use Rattle.tapa_base.specs.declared.text.Place.{Place}
use Rattle.check_scope.specs.declared.fault.CheckCode.{CheckCode}
use Rattle.check_scope.specs.declared.fault.CheckCode.TheVariants.{C1, C2, C3, C4, C5, C6, C7, C8, C9, C10, C11, C12}
use Rattle.run_data.specs.Data.{Fault, Misshapen, Misfit, Oversized}
use Rattle.plan_device.specs.Faults as device
use Rattle.command_answers.specs.declared.file.File.{File}
use Rattle.command_answers.specs.declared.source.SourceCode.{SourceCode}
use Rattle.command_answers.specs.declared.source.SourceCode.TheVariants.{L1, L2, L3, L4, A1, A2, A3, A4, P1, P2, Rule}

-- what is wrong with data: the text is no JSON, or it has this fault
pub data DataFault : Type 0 where
  NotJson : DataFault
  Faulty : (fault : Fault) → DataFault

-- what is wrong with a device file: the text is no JSON, or it has this fault
pub data DeviceFault : Type 0 where
  NoJson : DeviceFault
  HasFault : (fault : device.Fault) → DeviceFault

-- why a Verilog text has no design: no text of the subset goes on at a place, or a rule is broken first at a name
pub data VerilogFault : Type 0 where
  V1 : (place : Place) → VerilogFault
  V2 : (name : List ℕ) → VerilogFault
  V3 : (name : List ℕ) → VerilogFault
  V4 : (name : List ℕ) → VerilogFault
  V5 : (name : List ℕ) → VerilogFault
  V6 : (name : List ℕ) → VerilogFault

-- why a file shows nothing of a net: no dump goes on at a place of its text, or its dump has no net of this name
pub data DumpFault : Type 0 where
  NoDump : (place : Place) → DumpFault
  NoNet : (name : List ℕ) → DumpFault

-- why a command ends so
pub data Refusal : Type 0 where
  -- a file cannot be read, or has more bytes than it may
  Read : (file : File) → Refusal
  TooLong : (file : File) → Refusal
  -- what is wrong with a source, with data (of a program or of a design), a device file, a Verilog text or a dump
  Source : (place : Place) (code : SourceCode) → Refusal
  Data : (fault : DataFault) → Refusal
  Device : (fault : DeviceFault) → Refusal
  Verilog : (fault : VerilogFault) → Refusal
  Dump : (fault : DumpFault) → Refusal
  -- the instances of a run that are waited for make more ticks than its limit, or never end
  Ticks : (limit : ℕ) → Refusal
  -- a run stopped, and each line says what an instance waits for
  Stopped : (lines : List (List ℕ)) → Refusal
  -- there are more ways to place the free groups than are looked at
  TooManyPlans : (slots free : ℕ) → Refusal
  -- no plan is within capacity
  NoPlan : Refusal
  -- first fit has no slot for the group of this instance
  NoRoom : (label : List ℕ) → Refusal
  -- planning by halving has no list of regions that fits at this level
  NoHalving : (level : ℕ) → Refusal
  -- a design is not done within this number of cycles
  Undone : (limit : ℕ) → Refusal

-- the code of a rule beyond the grammar, and what it says
abbrev pub rule_text : CheckCode → List ℕ
rule_text C1 = codes "C1 unknown name"
rule_text C2 = codes "C2 doubled name"
rule_text C3 = codes "C3 wrong kind"
rule_text C4 = codes "C4 stream without exactly one producer"
rule_text C5 = codes "C5 stream without exactly one consumer"
rule_text C6 = codes "C6 nonblocking operation"
rule_text C7 = codes "C7 memory without exactly one instance"
rule_text C8 = codes "C8 operation in a conditional place"
rule_text C9 = codes "C9 divisor"
rule_text C10 = codes "C10 task invokes itself"
rule_text C11 = codes "C11 over the limit"
rule_text C12 = codes "C12 memory written by a detached task"

-- the greatest number that a limit allows
abbrev pub limit_text : Option ℕ → List ℕ
limit_text None = []
limit_text (Some limit) = codes " of " ++ decimal limit

-- the code of a rule, and what it says
abbrev pub code_text : SourceCode → List ℕ
code_text L1 = codes "L1 byte outside the profile"
code_text L2 = codes "L2 open comment or string"
code_text L3 = codes "L3 bad number"
code_text L4 = codes "L4 refused line"
code_text A1 = codes "A1 bad count"
code_text A2 = codes "A2 array of another length"
code_text A3 = codes "A3 array out of place"
code_text A4 = codes "A4 written out too long"
code_text P1 = codes "P1 unexpected token"
code_text P2 = codes "P2 nested too deep"
code_text (Rule code limit) = rule_text code ++ limit_text limit

-- the code of a fault of data, and its key
abbrev pub data_text : DataFault → List ℕ
data_text NotJson = codes "J1"
data_text (Faulty (Misshapen key)) = codes "J2 " ++ key
data_text (Faulty (Misfit key)) = codes "J3 " ++ key
data_text (Faulty (Oversized key)) = codes "J4 " ++ key

-- the code of a fault of a device file, and its key, name or label
abbrev pub device_text : DeviceFault → List ℕ
device_text NoJson = codes "J1"
device_text (HasFault (device.Misshapen key)) = codes "J2 " ++ key
device_text (HasFault (device.Misfit key)) = codes "J3 " ++ key
device_text (HasFault (device.OutOfRange key)) = codes "K1 " ++ key
device_text (HasFault (device.Unknown name)) = codes "K2 " ++ name
device_text (HasFault (device.Elsewhere label)) = codes "K3 " ++ label
device_text (HasFault (device.OnForbidden label)) = codes "K4 " ++ label
