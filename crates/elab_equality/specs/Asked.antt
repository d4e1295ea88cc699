-- Public. When assertions can be asked which of them is equal to a term.
use Rattle.std.specs.Prelude.{◌≡◌, ℕ, List}
use Rattle.term_pool.specs.Views.{TermsView}
use Rattle.flip_keys.specs.declared.assertions.Assertions.{Assertions}
use Rattle.flip_keys.specs.Assertions.{references_of, AreAssertionsReady}

-- these are their references, and they can be asked by what is known of the terms
pub record CanBeAsked (references : List ℕ) (v : TermsView) (asserted : Assertions) : Type 0 where
  pub are : references_of asserted ≡ references
  pub ready : AreAssertionsReady v asserted
