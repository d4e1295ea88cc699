-- Private. How equalities are used by congruence.
use Rattle.std.specs.Prelude.{◌≡◌, ℕ, List, [], ◌∷◌}
use Rattle.rule_model.specs.Congruence.{Head, AreLinked, AreDifferences, ArePlaces}
use Rattle.sym_table.specs.Leaf.{operator}
use Rattle.sym_table.specs.Table.{Table, IsLeaf}
use Rattle.term_model.specs.declared.symbols.Op.{Op}
use Rattle.term_model.specs.Terms.{Term}
use Rattle.rules_congruence.specs.declared.uses.Uses.{Uses}

-- the written ways in which arguments hang together
abbrev pub Together : Uses → Head → List (List Term) → List Term → List Term → Type 0
Together Uses.Any head premises ts us = AreLinked head premises ts us
Together Uses.Differing head premises ts us = AreDifferences premises ts us
Together Uses.Each head premises ts us = ArePlaces premises ts us

-- two lists are the sides of two equalities, whose head this leaf is
pub record ArePairs (s : Table) (k : ℕ) (ps qs : List ℕ) (pairs : (ℕ × ℕ) × (ℕ × ℕ)) : Type 0 where
  pub equal : IsLeaf s k (operator Op.Equal)
  pub left : ps ≡ pairs.0.0 ∷ pairs.0.1 ∷ []
  pub right : qs ≡ pairs.1.0 ∷ pairs.1.1 ∷ []
