use Rattle.std.proofs.Common.{◌∙◌, sym, ap, ℕ}
use Rattle.term_expansion.specs.Assigned.{assigned_for}
use Rattle.term_expansion.proofs.AssignedLists.{term_found, term_missed}
use Rattle.term_expansion.proofs.assignments.term_at.Goals as goal

pub returns-in-Some : goal.returns-in-Some
returns-in-Some c =
    let list = c.args.assignments.now in
    sym (term_found c.args.leaf c.in-Some.term list (ap (λ (k : ℕ). assigned_for k list) (sym c.number.ensures.number) ∙ sym c.find.ensures ∙ c.in-Some.is))

pub returns-in-None : goal.returns-in-None
returns-in-None c =
    let list = c.args.assignments.now in
    sym (term_missed c.args.leaf list (ap (λ (k : ℕ). assigned_for k list) (sym c.number.ensures.number) ∙ sym c.find.ensures ∙ c.in-None.is))
