-- No refusal has the status of done work.
use Rattle.std.proofs.Common.{◌≢◌, ap}
use Rattle.plan_device.specs.declared.fault.DeviceFault.TheVariants as device_fault
use Rattle.run_data.specs.declared.data.DataFault.TheVariants.{J1, J2, J3, J4, OutOfMemory}
use Rattle.vlog_tree.specs.declared.fault.VFault.TheVariants as verilog_fault
use Rattle.command_answers.specs.Ends.{Done}
use Rattle.command_answers.specs.Meaning.{end_at}
use Rattle.command_answers.specs.Told.{status_of}
use Rattle.command_answers.specs.declared.refusal.DumpFault.TheVariants.{NoDump, NoNet}
use Rattle.command_answers.specs.declared.refusal.Refusal.{Refusal}
use Rattle.command_answers.specs.declared.refusal.Refusal.TheVariants as code
use Rattle.command_answers.specs.declared.status.Status.TheVariants.{Ok}

pub never : (refusal : Refusal) → status_of (end_at refusal) ≢ Ok
never (code.Read file) e = cc
never code.Write e = cc
never (code.TooLong file) e = cc
never (code.Source place rule) e = cc
never (code.Data J1) e = cc
never (code.Data (J2 key)) e = cc
never (code.Data (J3 key)) e = cc
never (code.Data (J4 key)) e = cc
never (code.Data OutOfMemory) e = cc
never (code.Ticks limit) e = cc
never (code.Stopped lines) e = cc
never (code.Device device_fault.J1) e = cc
never (code.Device (device_fault.J2 key)) e = cc
never (code.Device (device_fault.J3 key)) e = cc
never (code.Device (device_fault.K1 key)) e = cc
never (code.Device (device_fault.K2 key)) e = cc
never (code.Device (device_fault.K3 key)) e = cc
never (code.Device (device_fault.K4 key)) e = cc
never (code.Device device_fault.OutOfMemory) e = cc
never (code.TooManyPlans slots free) e = cc
never code.NoPlan e = cc
never (code.NoRoom label) e = cc
never (code.NoHalving level) e = cc
never (code.Verilog (verilog_fault.V1 place)) e = cc
never (code.Verilog (verilog_fault.V2 name)) e = cc
never (code.Verilog (verilog_fault.V3 name)) e = cc
never (code.Verilog (verilog_fault.V4 name)) e = cc
never (code.Verilog (verilog_fault.V5 name)) e = cc
never (code.Verilog (verilog_fault.V6 name)) e = cc
never (code.Verilog verilog_fault.OutOfMemory) e = cc
never (code.Undone limit) e = cc
never (code.Dump (NoDump place)) e = cc
never (code.Dump (NoNet name)) e = cc
never code.Memory e = cc

pub not_done : (refusal : Refusal) → end_at refusal ≢ Done
not_done refusal e = never refusal (ap status_of e)
