-- The ends that values of the code stand for, and the refusals that `?` makes of the faults of other crates.
use Rattle.std.specs.Prelude.{Result, Ok, Err}
use Rattle.tapa_files.specs.declared.fault.PrintFault.{PrintFault}
use Rattle.tapa_files.specs.declared.fault.PrintFault.TheVariants as print
use Rattle.run_data.specs.Data.{Misshapen, Misfit, Oversized}
use Rattle.run_data.specs.declared.data.DataFault.{DataFault as FaultOfData}
use Rattle.run_data.specs.declared.data.DataFault.TheVariants.{J1, J2, J3, J4, OutOfMemory}
use Rattle.run_data.specs.Lines.{lines_in}
use Rattle.plan_device.specs.Faults as device
use Rattle.plan_device.specs.declared.fault.DeviceFault.{DeviceFault}
use Rattle.plan_device.specs.declared.fault.DeviceFault.TheVariants as device_fault
use Rattle.vlog_tree.specs.declared.fault.VFault.{VFault}
use Rattle.vlog_tree.specs.declared.fault.VFault.TheVariants as verilog_fault
use Rattle.command_answers.specs.Ends.{End, Done, Refused, Unwritten, NoMemory}
use Rattle.command_answers.specs.Refusal as spec
use Rattle.command_answers.specs.Refusal.{NotJson, Faulty, NoJson, HasFault}
use Rattle.command_answers.specs.declared.refusal.Refusal.{Refusal}
use Rattle.command_answers.specs.declared.refusal.Refusal.TheVariants as code
use Rattle.command_answers.specs.declared.refusal.DumpFault.{DumpFault}
use Rattle.command_answers.specs.declared.refusal.DumpFault.TheVariants.{NoDump, NoNet}

-- a fault of data, of a device file, of a Verilog text, of a dump
abbrev pub data_end : FaultOfData → End
data_end J1 = Refused (spec.Data NotJson)
data_end (J2 key) = Refused (spec.Data (Faulty (Misshapen key.items)))
data_end (J3 key) = Refused (spec.Data (Faulty (Misfit key.items)))
data_end (J4 key) = Refused (spec.Data (Faulty (Oversized key.items)))
data_end OutOfMemory = NoMemory

abbrev pub device_end : DeviceFault → End
device_end device_fault.J1 = Refused (spec.Device NoJson)
device_end (device_fault.J2 key) = Refused (spec.Device (HasFault (device.Misshapen key.items)))
device_end (device_fault.J3 key) = Refused (spec.Device (HasFault (device.Misfit key.items)))
device_end (device_fault.K1 key) = Refused (spec.Device (HasFault (device.OutOfRange key.items)))
device_end (device_fault.K2 name) = Refused (spec.Device (HasFault (device.Unknown name.items)))
device_end (device_fault.K3 label) = Refused (spec.Device (HasFault (device.Elsewhere label.items)))
device_end (device_fault.K4 label) = Refused (spec.Device (HasFault (device.OnForbidden label.items)))
device_end device_fault.OutOfMemory = NoMemory

abbrev pub verilog_end : VFault → End
verilog_end (verilog_fault.V1 place) = Refused (spec.Verilog (spec.V1 place))
verilog_end (verilog_fault.V2 name) = Refused (spec.Verilog (spec.V2 name))
verilog_end (verilog_fault.V3 name) = Refused (spec.Verilog (spec.V3 name))
verilog_end (verilog_fault.V4 name) = Refused (spec.Verilog (spec.V4 name))
verilog_end (verilog_fault.V5 name) = Refused (spec.Verilog (spec.V5 name))
verilog_end (verilog_fault.V6 name) = Refused (spec.Verilog (spec.V6 name))
verilog_end verilog_fault.OutOfMemory = NoMemory

abbrev pub dump_end : DumpFault → End
dump_end (NoDump place) = Refused (spec.Dump (spec.NoDump place))
dump_end (NoNet name) = Refused (spec.Dump (spec.NoNet name.items))

-- a refusal of the code
abbrev pub end_at : Refusal → End
end_at (code.Read file) = Refused (spec.Read file)
end_at code.Write = Unwritten
end_at (code.TooLong file) = Refused (spec.TooLong file)
end_at (code.Source place rule) = Refused (spec.Source place rule)
end_at (code.Data fault) = data_end fault
end_at (code.Ticks limit) = Refused (spec.Ticks limit)
end_at (code.Stopped lines) = Refused (spec.Stopped (lines_in lines.items))
end_at (code.Device fault) = device_end fault
end_at (code.TooManyPlans slots free) = Refused (spec.TooManyPlans slots free)
end_at code.NoPlan = Refused spec.NoPlan
end_at (code.NoRoom label) = Refused (spec.NoRoom label.items)
end_at (code.NoHalving level) = Refused (spec.NoHalving level)
end_at (code.Verilog fault) = verilog_end fault
end_at (code.Undone limit) = Refused (spec.Undone limit)
end_at (code.Dump fault) = dump_end fault
end_at code.Memory = NoMemory

-- the answer of a step
abbrev pub end_of : {A : Type 0} → Result A Refusal → End
end_of (Ok x) = Done
end_of (Err refusal) = end_at refusal

-- a text that was not written whole
abbrev pub print_refusal : PrintFault → Refusal
print_refusal print.WriteFault = code.Write
print_refusal print.OutOfMemory = code.Memory
