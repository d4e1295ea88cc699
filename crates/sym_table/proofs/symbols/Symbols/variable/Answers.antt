-- The name and then the key of the variable are placed, so its leaf is found or added.
use Rattle.std.proofs.Common.{◌∙◌, ap, arith}
use Rattle.sym_table.proofs.Links.{AreLinked-more_variables}
use Rattle.sym_table.proofs.Laws.{table_of}
use Rattle.sym_table.proofs.Adds.{FindsOrAdds-variable, AreLinked-variable, few-PlacesItem, place_fits, table_of-more_variables, on_err, Keeps-same, Keeps-FindsOrAdds, IsLeaf-FindsOrAdds}
use Rattle.sym_table.proofs.symbols.Symbols.variable.Goals as goal

pub invariant_of-self-2 : goal.invariant_of-self-2
invariant_of-self-2 c = (
  AreLinked-variable _ _ _ _ _ _ _ _ _ _ c.self.invariant.0 c.in_ok-number.ensures.ok c.in_ok-place.ensures.ok,
  few-PlacesItem _ _ _ _ _ _ _ _ _ c.self.view_is c.requires c.in_ok-place.ensures.ok,
  c.self.invariant.2,
  c.self.invariant.3,
)

pub returns-in_err-number-clause-keeps : goal.returns-in_err-number-clause-keeps
returns-in_err-number-clause-keeps c =
    Keeps-same _ _ (ap (λ vs. table_of c.self.inside.function_names c.self.inside.functions.items vs c.self.inside.leaves c.self.inside.sort_names) c.in_err-number.ensures.err ∙ c.self.view_is)

pub returns-in_err-place-clause-refused : goal.returns-in_err-place-clause-refused
returns-in_err-place-clause-refused c =
    on_err _ (table_of-more_variables _ _ _ _ _ _ _ _ _ c.self.invariant.0 c.in_ok-number.ensures.ok c.in_err-place.ensures.err ∙ c.self.view_is)

pub returns-in_err-place-clause-keeps : goal.returns-in_err-place-clause-keeps
returns-in_err-place-clause-keeps c =
    Keeps-same _ _ (table_of-more_variables _ _ _ _ _ _ _ _ _ c.self.invariant.0 c.in_ok-number.ensures.ok c.in_err-place.ensures.err ∙ c.self.view_is)

pub invariant_of-self-in_err-place : goal.invariant_of-self-in_err-place
invariant_of-self-in_err-place c =
    rw c.in_err-place.ensures.err (
      AreLinked-more_variables _ _ _ _ _ _ _ c.self.invariant.0 c.in_ok-number.ensures.ok,
      c.self.invariant.1,
      c.self.invariant.2,
      c.self.invariant.3,
    )

pub overflow_cast-result : goal.overflow_cast-result
overflow_cast-result c = omega (arith, place_fits _ _ _ _ c.self.invariant.1 c.in_ok-place.ensures.ok)

pub overflow_add-result : goal.overflow_add-result
overflow_add-result c = omega (arith, place_fits _ _ _ _ c.self.invariant.1 c.in_ok-place.ensures.ok)

pub returns-clause-found_or_new : goal.returns-clause-found_or_new
returns-clause-found_or_new c = FindsOrAdds-variable _ _ _ _ _ _ _ _ _ _ _ _ c.self.view_is c.self.invariant.0 c.in_ok-number.ensures.ok c.in_ok-place.ensures.ok

pub returns-clause-leaf : goal.returns-clause-leaf
returns-clause-leaf c = IsLeaf-FindsOrAdds _ _ _ _ (FindsOrAdds-variable _ _ _ _ _ _ _ _ _ _ _ _ c.self.view_is c.self.invariant.0 c.in_ok-number.ensures.ok c.in_ok-place.ensures.ok)

pub returns-clause-keeps : goal.returns-clause-keeps
returns-clause-keeps c = Keeps-FindsOrAdds _ _ _ _ (FindsOrAdds-variable _ _ _ _ _ _ _ _ _ _ _ _ c.self.view_is c.self.invariant.0 c.in_ok-number.ensures.ok c.in_ok-place.ensures.ok)
