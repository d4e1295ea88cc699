-- Private. What holds of each `ite`, by its parts.
use Rattle.std.specs.Prelude.{◌≡◌, ◌⊎◌, ℕ, List, ◌∷◌, All}
use Rattle.sym_table.specs.Table.{Table}
use Rattle.term_model.specs.declared.symbols.Op.{Op}
use Rattle.term_model.specs.Flips.{EqualUpToFlips}
use Rattle.term_model.specs.Terms.{Term, operation, terms_of}
use Rattle.term_pool.specs.Views.{TermsView, RefersTo}
use Rattle.rule_model.specs.Ite.{choice, IsFactOfChoice}

-- the references stand for the parts of the `ite` that the term is
pub record AreChoiceParts (s : Table) (v : TermsView) (p : ℕ × ℕ × ℕ) (t : Term) : Type 0 where
  pub condition : Term
  pub first : Term
  pub second : Term
  pub condition_refers : RefersTo s v p.0 condition
  pub first_refers : RefersTo s v p.1 first
  pub second_refers : RefersTo s v p.2 second
  pub is : t ≡ choice condition first second

-- The whole is an `ite` whose condition is c and whose first branch is t up to flips, and the equality of p and q is, up to
-- flips, that of the whole and its second branch.
pub record IsAbout (c whole t p q : Term) : Type 0 where
  pub condition : Term
  pub first : Term
  pub second : Term
  pub is : whole ≡ choice condition first second
  pub same_condition : EqualUpToFlips c condition
  pub same_first : EqualUpToFlips t first
  pub same_second :
      (EqualUpToFlips p whole × EqualUpToFlips q second) ⊎ (EqualUpToFlips p second × EqualUpToFlips q whole)

-- the first term is, up to flips, the first item of a conjunction whose others are facts of `ite`
pub record Introduces (t u : Term) : Type 0 where
  pub first : Term
  pub facts : List Term
  pub is : u ≡ operation Op.And (terms_of (first ∷ facts))
  pub same : EqualUpToFlips t first
  pub say : All IsFactOfChoice facts
