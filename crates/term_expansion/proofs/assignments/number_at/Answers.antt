use Rattle.std.proofs.Common.{◌∙◌, sym}
use Rattle.term_expansion.proofs.AssignedLists.{term_found, term_missed}
use Rattle.term_expansion.proofs.assignments.number_at.Goals as goal

pub returns-in-Some : goal.returns-in-Some
returns-in-Some c =
    c.number.ensures.number
    ∙ sym (term_found c.args.variable c.in-Some.term c.args.assignments.now (sym c.find.ensures ∙ c.in-Some.is))

pub returns-in-None : goal.returns-in-None
returns-in-None c = sym (term_missed c.args.variable c.args.assignments.now (sym c.find.ensures ∙ c.in-None.is))
