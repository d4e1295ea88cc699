use Rattle.std.proofs.Common.{ℕ, Option, Some, subst}
use Rattle.rule_model.specs.Scopes.{outermost}
use Rattle.problem_text.specs.Limits.{most_height}
use Rattle.alethe_text.specs.Soundness.{AreSorted}
use Rattle.reread_laws.proofs.LowTerms.{pruned_low}
use Rattle.reread_laws.proofs.laws.pruned_proofs_are_printed_low.Goals as goal

pub returns : goal.returns
returns c = λ problem replaces before source settings proof after marks plan h k e.
    let sound = c.scripts_are_well_sorted.ensures problem replaces before h in
    let sorted = c.proofs_are_well_sorted.ensures.terms source settings before proof after sound k in
    pruned_low (Some most_height) plan marks proof before (subst (λ (limit : Option ℕ). AreSorted limit outermost proof) e sorted)
    (c.printed_terms_are_low.ensures.scripts problem replaces before h)
