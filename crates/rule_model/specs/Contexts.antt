-- Public. Contexts (Alethe, "The Proof Format": anchors, and subproofs with a context): what open anchors put in for the
-- variables that they bind, and when a clause is true in its scope. The anchors that are open are listed with the
-- innermost first. An anchor is here what it binds, each variable with its term; it binds nothing in these terms.
use Rattle.std.specs.Prelude.{◌≡◌, ◌⊎◌, List, [], ◌∷◌, ◌++◌, map}
use Rattle.std.specs.List.{AllByRecursion}
use Rattle.term_model.specs.FreeVariables.{IsFree}
use Rattle.term_model.specs.Interpretations.{Interpretation}
use Rattle.term_model.specs.Meaning.{Valuation, value_at}
use Rattle.term_model.specs.Terms.{Var, Term}
use Rattle.term_model.specs.Unsatisfiable.{MakesTrue, MakesAllTrue}
use Rattle.rule_model.specs.Clauses.{MakesClauseTrue}
use Rattle.rule_model.specs.Replacement.{Replacement}
use Rattle.rule_model.specs.Substitution.{put_in, Replaces, image_values}

-- the terms of an anchor, with these put in
abbrev pub put_in_each : Replacement → Replacement → Replacement
put_in_each s anchor = map (λ b. (b.0, put_in s b.1)) anchor

-- The images of the variables that the anchors bind: the image of a variable is its anchor's term with the images of the
-- outer anchors put in.
abbrev pub images : List Replacement → Replacement
images [] = []
images (anchor ∷ outer) = put_in_each (images outer) anchor ++ images outer

-- some anchor binds the variable
abbrev pub IsBoundBy : List Replacement → Var → Type 0
IsBoundBy [] x = ⊥
IsBoundBy (anchor ∷ outer) x = Replaces anchor x ⊎ IsBoundBy outer x

-- the anchors bind each variable that stands free in the term
abbrev pub IsClosedUnder : List Replacement → Term → Type 0
IsClosedUnder anchors t = (x : Var) → IsFree x t → IsBoundBy anchors x

-- the anchors outside one bind each variable that stands free in its terms
abbrev pub AreAnchorsNested : List Replacement → Type 0
AreAnchorsNested [] = Unit {0}
AreAnchorsNested (anchor ∷ outer) = AllByRecursion (λ b. IsClosedUnder outer b.1) anchor × AreAnchorsNested outer

-- the values of the variables that the anchors bind: those of their images
abbrev pub context_values : Interpretation → List Replacement → Valuation
context_values I anchors = image_values I (images anchors)

-- The variables that the anchors bind have the values of their images, and the anchors outside one bind what stands free
-- in its terms.
pub record IsInContext (I : Interpretation) (r : Valuation) (anchors : List Replacement) : Type 0 where
  pub nested : AreAnchorsNested anchors
  pub values : (x : Var) → IsBoundBy anchors x → value_at r x ≡ value_at (context_values I anchors) x

-- The clause is true in its scope. The anchors are those that are open there, and the assumes those that stand directly
-- in an open scope other than the outermost. Where an interpretation makes the assertions true, and under the values of
-- the anchors' variables these assumes, it makes some literal of the clause true under these values.
abbrev pub IsTrueInScope : List Term → List Replacement → List Term → List Term → Type 0
IsTrueInScope assertions anchors assumes clause =
    (I : Interpretation) → MakesAllTrue I assertions →
    AllByRecursion (MakesTrue I (context_values I anchors)) assumes →
    MakesClauseTrue I (context_values I anchors) clause
