-- Which fault a call hands on for one that it met.
use Rattle.tapa_files.specs.declared.fault.ShelfFault.{ShelfFault}
use Rattle.tapa_files.specs.declared.fault.ShelfFault.TheVariants as shelf
use Rattle.tapa_files.specs.declared.fault.TakeFault.{TakeFault}
use Rattle.tapa_files.specs.declared.fault.TakeFault.TheVariants as take

-- a failed read is a read fault, and want of memory stays that
abbrev pub take_fault_of : ShelfFault → TakeFault
take_fault_of shelf.ReadFailed = take.ReadFault
take_fault_of shelf.OutOfMemory = take.OutOfMemory
