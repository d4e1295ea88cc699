-- Public. Leading `not`s of terms, and the terms that differ from the literals of a step by these alone, three more at most.
use Rattle.std.specs.Prelude.{◌≡◌, ℕ, suc, List, [], ◌∷◌, ◌++◌, Contains}
use Rattle.std.specs.List.{sum_by, flat_map}
use Rattle.term_model.specs.declared.symbols.Op.{Op}
use Rattle.term_model.specs.Terms.{Term, operation, no_terms, term}
use Rattle.term_pool.specs.Nots.{negated}

-- how many `not`s a term begins with, and the literals of a clause and of clauses do
abbrev pub leading_nots : Term → ℕ
leading_nots (operation Op.Not (term t no_terms)) = suc (leading_nots t)
leading_nots t = 0

abbrev pub leading_nots_of : List Term → ℕ
leading_nots_of clause = sum_by leading_nots clause

abbrev pub leading_nots_in : List (List Term) → ℕ
leading_nots_in clauses = sum_by leading_nots_of clauses

-- the literals of the premises' clauses and of the clause, and the constants
abbrev pub roots_of : List (List Term) → List Term → List Term
roots_of premises clause =
    flat_map (λ (c : List Term). c) premises ++ (clause ++ operation Op.True no_terms ∷ operation Op.False no_terms ∷ [])

-- With some more leading `not`s the term is one of these with three more: its atom is the atom of one, and it has three `not`s
-- more at most.
pub record IsNearTo (roots : List Term) (t : Term) : Type 0 where
  pub root : Term
  pub is : Contains roots root
  pub nots : ℕ
  pub same : negated nots t ≡ negated 3 root
