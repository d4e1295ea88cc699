use Rattle.std.proofs.Common.{ℕ, Option, Some, subst}
use Rattle.rule_model.specs.Scopes.{outermost}
use Rattle.problem_text.specs.Limits.{most_height}
use Rattle.alethe_text.specs.Soundness.{AreSorted}
use Rattle.readable_proofs.proofs.PrintedHeights.{items_low}
use Rattle.readable_proofs.proofs.ReadScripts.{problem_good}
use Rattle.readable_proofs.proofs.laws.printed_terms_are_low.Goals as goal

pub returns-clause-scripts : goal.returns-clause-scripts
returns-clause-scripts c = λ source replaces s h. (problem_good c.tokens_are_spelled.ensures.spelled source replaces s h).low

pub returns-clause-printed : goal.returns-clause-printed
returns-clause-printed c = λ problem replaces before source settings proof after plan h k e.
    let sorted = c.proofs_are_well_sorted.ensures.terms source settings before proof after (c.scripts_are_well_sorted.ensures problem replaces before h) k in
    items_low (Some most_height) plan outermost proof before (subst (λ (limit : Option ℕ). AreSorted limit outermost proof) e sorted)
    (problem_good c.tokens_are_spelled.ensures.spelled problem replaces before h).low
