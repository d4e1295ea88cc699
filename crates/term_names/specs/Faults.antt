-- Public. What the refusals of the reader mean.
use Rattle.std.specs.Prelude.{◌≡◌, Result, Err}
use Rattle.sexpr.specs.declared.causes.Refusal.{Refusal}
use Rattle.term_pool.specs.declared.stop.TermStop.{TermStop}
use Rattle.term_names.specs.declared.faults.ReadFault.{ReadFault}

-- The reading ends with this fault of the text. Out of memory may come at any time.
abbrev pub IsFaultOf : {A : Type 0} → Result A Refusal → ReadFault → Type 0
IsFaultOf reading (ReadFault.Text refusal) = reading ≡ Err refusal
IsFaultOf reading ReadFault.PoolFull = ⊥
IsFaultOf reading ReadFault.Memory = Unit {0}

-- what a stop of the pool is for a reader
abbrev pub fault_of : TermStop → ReadFault
fault_of TermStop.PoolFull = ReadFault.PoolFull
fault_of TermStop.Memory = ReadFault.Memory
