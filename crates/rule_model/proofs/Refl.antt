-- The rule `refl` keeps truth where the variables that open anchors bind have the values of their images.
use Rattle.std.proofs.Common.{◌≡◌, ◌⊎◌, List, [], ◌∷◌, ◌++◌, Bool, true, false, if◌then◌else◌, refl, sym, ap, ◌∙◌, inl, inr}
use Rattle.term_model.specs.Flips.{equality}
use Rattle.term_model.specs.Terms.{Var, var_eq, Term}
use Rattle.term_model.specs.Values.{Value}
use Rattle.term_model.specs.Interpretations.{Interpretation}
use Rattle.term_model.specs.Meaning.{Valuation, value, value_at}
use Rattle.term_model.specs.Unsatisfiable.{MakesTrue}
use Rattle.term_model.proofs.Basics.{any_here}
use Rattle.term_model.proofs.Coincidence.{value_coincides}
use Rattle.term_model.proofs.Flips.{flips_value}
use Rattle.term_model.proofs.Meanings.{equality_is}
use Rattle.term_model.proofs.Tests.{var_eq_decides}
use Rattle.rule_model.specs.declared.rules.Mode.{Mode}
use Rattle.rule_model.specs.Clauses.{MakesClauseTrue}
use Rattle.rule_model.specs.Contexts.{images, IsInContext}
use Rattle.rule_model.specs.Refl.{AreSame, MeetsRefl}
use Rattle.rule_model.specs.Replacement.{Replacement}
use Rattle.rule_model.specs.Substitution.{put_in, Replaces, image_values}
use Rattle.rule_model.proofs.ContextLaws.{images_bind, images_closed}
use Rattle.rule_model.proofs.SubstitutedValues.{value_put_in}

-- a variable has the value of what is put in for it, or nothing is, and it has the value behind
front_or_behind : (I : Interpretation) (r : Valuation) (s : Replacement) (x : Var) → (Replaces s x × (value_at (image_values I s ++ r) x ≡ value_at (image_values I s) x)) ⊎ (value_at (image_values I s ++ r) x ≡ value_at r x)
front_or_behind I r [] x = inr refl
front_or_behind I r (b ∷ s) x = go (var_eq b.0 x) refl (front_or_behind I r s x)
  where
    here : Bool → Value → Value
    here t v = if t then value I [] b.1 else v

    go : (t : Bool) → var_eq b.0 x ≡ t → (Replaces s x × (value_at (image_values I s ++ r) x ≡ value_at (image_values I s) x)) ⊎ (value_at (image_values I s ++ r) x ≡ value_at r x) → (Replaces (b ∷ s) x × (here t (value_at (image_values I s ++ r) x) ≡ here t (value_at (image_values I s) x))) ⊎ (here t (value_at (image_values I s ++ r) x) ≡ value_at r x)
    go true e k = inl (inl ((var_eq_decides b.0 x).0 e), refl)
    go false e (inl k) = inl (inr k.0, k.1)
    go false e (inr k) = inr k

pub means_in_context : (I : Interpretation) (r : Valuation) (anchors : List Replacement) (t : Term) → IsInContext I r anchors → value I r (put_in (images anchors) t) ≡ value I r t
means_in_context I r anchors t context =
    value_put_in I r (images anchors) t (images_closed anchors context.nested)
    ∙ value_coincides I (image_values I (images anchors) ++ r) r t
    (λ x free. elim (front_or_behind I r (images anchors) x) [
      | inl k ↦ k.1 ∙ sym (context.values x ((images_bind anchors x).0 k.0))
      | inr k ↦ k
    ])

same_values : (I : Interpretation) (r : Valuation) (mode : Mode) (t u : Term) → AreSame mode t u → value I r t ≡ value I r u
same_values I r Mode.Check t u h = flips_value I r t u h
same_values I r Mode.Strict t u h = ap (value I r) h

pub refl_keeps : (I : Interpretation) (r : Valuation) (mode : Mode) (anchors : List Replacement) (premises : List (List Term)) (clause : List Term) → MeetsRefl mode anchors premises clause → IsInContext I r anchors → MakesClauseTrue I r clause
refl_keeps I r mode anchors premises clause h context =
    rw h.literal
    (any_here (MakesTrue I r) (equality h.left h.right) []
    ((equality_is I r h.left h.right).1
    (sym (means_in_context I r anchors h.left context)
    ∙ same_values I r mode (put_in (images anchors) h.left) (put_in (images anchors) h.right) h.same
    ∙ means_in_context I r anchors h.right context)))
