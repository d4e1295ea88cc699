use Rattle.std.proofs.Common.{◌≡◌, ◌<◌, length, ◌+◌, ◌-◌, ◌*◌, ◌^◌, ◌++◌, ◌∷◌, [], vec_len, ℕ}
use Rattle.pair_pool.specs.Trees.{Tree}
use Rattle.pair_pool.specs.Views.{Knows}
use Rattle.term_pool.specs.Views.{KeepsTerms}
use Rattle.contexts.specs.declared.places.Place.TheVariants.{Term}
use Rattle.contexts.specs.Becoming.{AreImages}
use Rattle.contexts.specs.Layers.{shadowed}
use Rattle.contexts.specs.Remembering.{memory_size}
use Rattle.contexts.proofs.Walking.{IsWalk, GoesRight}
use Rattle.contexts.proofs.putting.put.Given as goal

abbrev pub invariant-places : goal.invariant-places
invariant-places l = record {
  keeps : KeepsTerms l.fn.terms l.terms;
  first : shadowed l.walked.layers.lists.items 0 ≡ [];
  whole : Tree;
  whole_known : Knows l.fn.terms.pass l.fn.r whole;
  some : 0 < length l.walked.layers.lists.items;
  walk : IsWalk l.fn.terms.pass l.terms.pass l.images l.walked.layers.lists.items l.walked.memo (Term l.fn.r 0) whole (l.way.items ++ l.at ∷ []);
  right : (f : ℕ → Tree) → AreImages l.fn.terms.pass l.images f → GoesRight l.fn.terms.pass l.terms.pass f l.walked.layers.lists.items l.walked.memo (Term l.fn.r 0) whole;
}

abbrev pub decreases-places : goal.decreases-places
decreases-places l = (2 ^ 65 - memory_size l.walked.memo) * 2 ^ 64 + (2 ^ 64 - vec_len l.way)
