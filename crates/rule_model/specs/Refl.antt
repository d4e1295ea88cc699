-- Public. The rule `refl` (Alethe specification, the rule `refl`): `(= a b)`, where a and b become the same when the images
-- of the variables that open anchors bind are put in.
use Rattle.std.specs.Prelude.{◌≡◌, List, [], ◌∷◌}
use Rattle.term_model.specs.Flips.{equality, EqualUpToFlips}
use Rattle.term_model.specs.Terms.{Term}
use Rattle.rule_model.specs.declared.rules.Mode.{Mode}
use Rattle.rule_model.specs.Contexts.{images}
use Rattle.rule_model.specs.Replacement.{Replacement}
use Rattle.rule_model.specs.Substitution.{put_in}

-- in check mode terms count as the same that are equal up to flips, and strictly those that are identical
abbrev pub AreSame : Mode → Term → Term → Type 0
AreSame Mode.Check t u = EqualUpToFlips t u
AreSame Mode.Strict t u = t ≡ u

pub record MeetsRefl (mode : Mode) (anchors : List Replacement) (premises : List (List Term)) (clause : List Term) : Type 0 where
  pub left : Term
  pub right : Term
  pub none : premises ≡ []
  pub literal : clause ≡ equality left right ∷ []
  pub same : AreSame mode (put_in (images anchors) left) (put_in (images anchors) right)
