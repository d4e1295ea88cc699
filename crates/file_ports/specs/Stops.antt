-- Private. How an answer of a folder stops the reading of a whole file.
use Rattle.file_ports.specs.declared.ports.OutStop.{OutStop}
use Rattle.file_ports.specs.declared.whole.ReadStop.{ReadStop}
use Rattle.file_ports.specs.declared.ports.OutStop.TheVariants as out
use Rattle.file_ports.specs.declared.whole.ReadStop.TheVariants as stop

-- a fault of the folder is a fault of the reading, and its running out of memory is the reading's
abbrev pub stop_of : OutStop → ReadStop
stop_of out.Failed = stop.Fault
stop_of out.Memory = stop.Memory
