-- Public. Terms with their sorts.
use Rattle.term_model.specs.declared.symbols.Sort.{Sort}
use Rattle.term_model.specs.Terms.{Term}

-- a term with its sort
pub record Typed : Type 0 where
  pub tree : Term
  pub sort : Sort
