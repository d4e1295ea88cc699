-- What holds of an answer that is there, and where there is none.
use Rattle.std.proofs.Common.{Result, Ok, Err, IfOk}

pub if_ok : {X E : Type 0} (P Q : X → Type 0) (o : Result X E) → ((x : X) → P x → Q x) → IfOk o P → IfOk o Q
if_ok P Q (Ok x) f h = f x h
if_ok P Q (Err e) f h = tt
