use Rattle.std.proofs.Common.{◌≡◌, [], ◌∷◌, List, refl, sym, ap, subst}
use Rattle.rule_model.specs.Resolution.{ResolvesStrictly}
use Rattle.term_model.specs.Terms.{Term}
use Rattle.elab_resolution.proofs.laws.copies_need_no_steps.Goals as goal

is_copy : (premises : List (List Term)) (clause : List Term) → ResolvesStrictly [] premises clause → premises ≡ clause ∷ []
is_copy [] clause h = absurd h
is_copy (p ∷ []) clause h = ap (λ c. c ∷ []) h
is_copy (p ∷ q ∷ premises) clause h = absurd h

pub returns : goal.returns
returns c premises clause =
    (is_copy premises clause, λ e. subst (λ ps. ResolvesStrictly [] ps clause) (sym e) refl)
