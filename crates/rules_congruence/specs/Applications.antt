-- Private. Two applications of one head.
use Rattle.std.specs.Prelude.{◌≡◌, ◌≢◌, ◌<◌, ◌++◌, ℕ, List, [], length}
use Rattle.rule_model.specs.Congruence.{Head, operator, function, applied}
use Rattle.sym_table.specs.Leaf.{Leaf}
use Rattle.sym_table.specs.Table.{Table, IsLeaf}
use Rattle.term_model.specs.Terms.{Term}
use Rattle.schema_match.specs.ArgumentCells.{IsListOf}
use Rattle.term_pool.specs.Building.{IsAppliedLeaf}
use Rattle.term_pool.specs.Reading.{arguments_of}
use Rattle.term_pool.specs.StandsFor.{function_leaf}
use Rattle.term_pool.specs.Views.{TermsView, ReferToAll}
use Rattle.rules_congruence.specs.declared.uses.Uses.{Uses}

-- the symbol of a head
abbrev pub leaf_of : Head → Leaf
leaf_of (operator op) = Leaf.operator op
leaf_of (function f) = function_leaf f

-- the term is the leaf's symbol, applied to its arguments
abbrev pub HasHead : Table → ℕ → Term → Type 0
HasHead s k t = IsAppliedLeaf s k (arguments_of t) t

-- Two lists up to what they have in common at their ends: the references stand for what comes before that, as many items of
-- the one as of the other. Where something is left out, three items or more come before it, so that it is no list of two,
-- and not every place needs an equality.
pub record AreCut (s : Table) (v : TermsView) (uses : Uses) (ps qs : List ℕ) (ts us : List Term) : Type 0 where
  pub prefix : List Term
  pub others : List Term
  pub tail : List Term
  pub left_is : ts ≡ prefix ++ tail
  pub right_is : us ≡ others ++ tail
  pub left : ReferToAll s v ps prefix
  pub right : ReferToAll s v qs others
  pub long : length ps ≡ length qs
  pub cut : tail ≢ [] → (uses ≢ Uses.Each) × (2 < length ps)

-- the references are known to be lists of terms
pub record AreLists (v : TermsView) (p q : ℕ) : Type 0 where
  pub symbols : Table
  pub ts : List Term
  pub us : List Term
  pub left : IsListOf symbols v p ts
  pub right : IsListOf symbols v q us

-- the terms are applications of the head of this leaf, the first to one argument or more, and the references stand for
-- their arguments, up to those that both end with
pub record AreApplied (s : Table) (v : TermsView) (uses : Uses) (k : ℕ) (ps qs : List ℕ) (t u : Term) : Type 0 where
  pub head : Head
  pub ts : List Term
  pub us : List Term
  pub leaf : IsLeaf s k (leaf_of head)
  pub some : ts ≢ []
  pub left_is : t ≡ applied head ts
  pub right_is : u ≡ applied head us
  pub cut : AreCut s v uses ps qs ts us
