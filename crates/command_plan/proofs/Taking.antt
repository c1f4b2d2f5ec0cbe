-- Why a program has no device from a text.
use Rattle.std.proofs.Common.{ℕ, List, refl}
use Rattle.tapa_syntax.specs.declared.program.Program.{Program}
use Rattle.task_graph.specs.declared.Graph.{Graph}
use Rattle.plan_device.specs.Answer.{IsDeviceCause}
use Rattle.plan_device.specs.Faults as device
use Rattle.plan_device.specs.declared.fault.DeviceFault.{DeviceFault}
use Rattle.plan_device.specs.declared.fault.DeviceFault.TheVariants as device_fault
use Rattle.command_answers.specs.Meaning.{device_end}
use Rattle.command_answers.specs.Refusal.{NoJson, HasFault}
use Rattle.command_answers.specs.Steps.{Fails}
use Rattle.command_plan.specs.Means.{IsBadDevice}

pub faulty_device : (program : Program) (graph : Graph) (bytes : List ℕ) (fault : DeviceFault) → IsDeviceCause bytes program graph fault → Fails (IsBadDevice program graph bytes) (device_end fault)
faulty_device program graph bytes device_fault.J1 h = (NoJson, h, refl)
faulty_device program graph bytes (device_fault.J2 key) h = (HasFault (device.Misshapen key.items), h, refl)
faulty_device program graph bytes (device_fault.J3 key) h = (HasFault (device.Misfit key.items), h, refl)
faulty_device program graph bytes (device_fault.K1 key) h = (HasFault (device.OutOfRange key.items), h, refl)
faulty_device program graph bytes (device_fault.K2 label) h = (HasFault (device.Unknown label.items), h, refl)
faulty_device program graph bytes (device_fault.K3 label) h = (HasFault (device.Elsewhere label.items), h, refl)
faulty_device program graph bytes (device_fault.K4 label) h = (HasFault (device.OnForbidden label.items), h, refl)
faulty_device program graph bytes device_fault.OutOfMemory h = tt
