-- Private. The answer where a file was not read.
use Rattle.std.specs.Prelude.{◌≡◌}
use Rattle.file_ports.specs.declared.whole.ReadStop.{ReadStop}
use Rattle.file_ports.specs.declared.whole.ReadStop.TheVariants as stop
use Rattle.carcara_cli.specs.declared.answer.Answer.{Answer}
use Rattle.carcara_cli.specs.declared.answer.Answer.TheVariants.{ReadFault, TooLong}

-- the answer where a file was not read, except when out of memory
abbrev pub IsUnread : ReadStop → Answer → Type 0
IsUnread stop.Fault a = a ≡ ReadFault
IsUnread stop.TooLong a = a ≡ TooLong
IsUnread stop.Memory a = ⊥
