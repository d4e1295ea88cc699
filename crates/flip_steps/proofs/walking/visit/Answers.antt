use Rattle.std.proofs.Common.{refl, sym, subst}
use Rattle.flip_steps.specs.declared.visits.Visit.{Visit}
use Rattle.flip_steps.specs.Walks.{IsVisit, was_first, was_last}
use Rattle.flip_steps.proofs.walking.visit.Goals as goal

pub returns-in_ok-open-in-Open-clause-visit : goal.returns-in_ok-open-in-Open-clause-visit
returns-in_ok-open-in-Open-clause-visit c =
    subst (λ (x : Visit). IsVisit c.args.at.now c.args.terms.now c.open.new.terms c.args.block.now c.args.block.now c.args.forms.now c.open.new.forms
    c.args.visits.now.items c.open.new.visits.items x) (sym c.in-Open.is)
    (was_first c.in-Open.r c.in_ok-open-in-Open.ensures.same refl c.in_ok-open-in-Open.ensures.first)

pub returns-in_ok-close-in-Close-clause-visit : goal.returns-in_ok-close-in-Close-clause-visit
returns-in_ok-close-in-Close-clause-visit c =
    let formed = c.in_ok-close-in-Close.ensures.formed in
    subst (λ (x : Visit). IsVisit c.args.at.now c.args.terms.now c.close.new.terms c.args.block.now c.close.new.block c.args.forms.now c.close.new.forms
    c.args.visits.now.items c.args.visits.now.items x) (sym c.in-Close.is)
    (was_last c.in-Close.r formed.0 formed.1 formed.2 c.in_ok-close-in-Close.ensures.grown refl)
