-- Public. The clauses that vectors hold, of items of any kind.
use Rattle.std.specs.Prelude.{List, map}
use Rattle.std.specs.Global.{Vec}

abbrev pub clauses_of : {X : Type 0} → List (Vec X) → List (List X)
clauses_of vectors = map (λ v. v.items) vectors
