use Rattle.std.proofs.Common.{ℕ, ◌<◌}
use Rattle.std.specs.Prelude.{slice_index}
use Rattle.term_sharing.specs.NamedTerms.{IsClosed}
use Rattle.term_sharing.proofs.marks.are_closed.Given as goal

abbrev pub invariant-parts : goal.invariant-parts
invariant-parts l = (k : ℕ) → k < l.r-index → IsClosed l.symbols l.terms (slice_index l.parts k)
