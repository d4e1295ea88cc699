-- What a stop of the pool is for a reader.
use Rattle.std.specs.Prelude.{◌≡◌}
use Rattle.std.proofs.Common.{refl}
use Rattle.sexpr.specs.declared.causes.Refusal.{Refusal}
use Rattle.term_pool.specs.declared.stop.TermStop.{TermStop}
use Rattle.term_names.specs.Faults.{fault_of}
use Rattle.term_names.specs.declared.faults.ReadFault.{ReadFault}

pub full_stops : (stop : TermStop) → fault_of stop ≡ ReadFault.PoolFull → stop ≡ TermStop.PoolFull
full_stops TermStop.PoolFull e = refl
full_stops TermStop.Memory e = cc

pub stops_are_no_text : (stop : TermStop) (r : Refusal) → fault_of stop ≡ ReadFault.Text r → ⊥
stops_are_no_text TermStop.PoolFull r e = cc
stops_are_no_text TermStop.Memory r e = cc
