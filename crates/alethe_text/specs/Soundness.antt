-- Public. What holds of every proof that a text stands for behind a problem whose script is sound: its terms are well sorted
-- and no higher than the limit.
use Rattle.std.specs.Prelude.{ℕ, ◌≤◌, Option, IfSome, ⊤}
use Rattle.std.specs.List.{AllByRecursion}
use Rattle.term_model.specs.declared.symbols.Sort.{Sort}
use Rattle.term_model.specs.Terms.{Var, Term}
use Rattle.term_model.specs.Heights.{height}
use Rattle.rule_model.specs.Proofs.{Step, ProofItems, no_items, with_assume, with_step, with_subproof}
use Rattle.rule_model.specs.Scopes.{Nesting, inner}
use Rattle.problem_text.specs.Soundness.{IsReadWithin}
use Rattle.alethe_text.specs.Anchors.{image_of}

-- no higher than the limit, where there is one
abbrev pub IsFormula : Option ℕ → Term → Type 0
IsFormula limit t = IsReadWithin limit (record { tree = t; sort = Sort.Bool })

-- a term of some sort
pub record HasSomeSort (limit : Option ℕ) (t : Term) : Type 0 where
  pub sort : Sort
  pub read : IsReadWithin limit (record { tree = t; sort = sort })

-- literals are formulas, and pivots are terms
pub record HasTerms (limit : Option ℕ) (s : Step Term) : Type 0 where
  pub clause : AllByRecursion (IsFormula limit) s.clause
  pub pivots : AllByRecursion (λ p. HasSomeSort limit p.0) s.pivots

-- The term has the sort of its variable, and in the scope where the anchor stands its image is not too high.
pub record IsBinding (limit : Option ℕ) (nesting : Nesting Var Term) (b : Var × Term) : Type 0 where
  pub term : IsReadWithin limit (record { tree = b.1; sort = b.0.sort })
  pub image : IfSome limit (λ most. height (image_of nesting b.1) ≤ most)

-- the terms of the items of a scope
abbrev pub AreSorted : Option ℕ → Nesting Var Term → ProofItems Var Term → Type 0
AreSorted limit nesting no_items = ⊤
AreSorted limit nesting (with_assume items id t) = AreSorted limit nesting items × IsFormula limit t
AreSorted limit nesting (with_step items s) = AreSorted limit nesting items × HasTerms limit s
AreSorted limit nesting (with_subproof items bindings proof s) =
    AreSorted limit nesting items × AllByRecursion (IsBinding limit nesting) bindings
    × AreSorted limit (inner nesting items bindings s) proof × HasTerms limit s
