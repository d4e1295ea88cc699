-- Public. The sides of the equality that a step states, and what they become.
use Rattle.std.specs.Prelude.{◌≡◌, ◌⊎◌, ℕ, List, [], ◌∷◌}
use Rattle.rule_model.specs.Contexts.{images}
use Rattle.rule_model.specs.Judged.{anchors_at}
use Rattle.rule_model.specs.Proofs.{ProofItems}
use Rattle.rule_model.specs.Reading.{clause_at, premise_clauses}
use Rattle.rule_model.specs.Replacement.{Replacement}
use Rattle.rule_model.specs.Substitution.{put_in}
use Rattle.term_model.specs.Flips.{equality}
use Rattle.term_model.specs.Terms.{Var, Term}

-- one of two terms
abbrev pub IsEither : Term → Term → Term → Type 0
IsEither a b t = (t ≡ a) ⊎ (t ≡ b)

-- the term is a side of the equality that a step without premises states, after substitution by these anchors
pub record IsSubstitutedSide (anchors : List Replacement) (premises : List (List Term)) (clause : List Term) (t : Term) : Type 0 where
  pub left : Term
  pub right : Term
  pub none : premises ≡ []
  pub literal : clause ≡ equality left right ∷ []
  pub is : IsEither (put_in (images anchors) left) (put_in (images anchors) right) t

-- the same of the step at an index, by the anchors that are open there
abbrev pub IsSideOf : ProofItems Var Term → ℕ → Term → Type 0
IsSideOf proof i t = IsSubstitutedSide (anchors_at proof i) (premise_clauses proof i) (clause_at proof i) t
