use Rattle.std.proofs.lemmas.Int.{to_z-of_z}
use Rattle.linear_forms.proofs.Forming.{form_fits, tells_form}
use Rattle.linear_forms.proofs.forms.LinearForms.have_one_form.Goals as goal

pub returns-in_default-clause-form : goal.returns-in_default-clause-form
returns-in_default-clause-form c =
    λ t u refers other. let told = c.in_ok-numbers.ensures.difference t u refers other in rw c.in_default.is at told

pub returns-clause-form : goal.returns-clause-form
returns-clause-form c =
    λ t u refers other.
    let told = c.in_ok-numbers.ensures.difference t u refers other in
    let form = rw c.in-Some.is at told in
    let fits = form_fits c.args.symbols.now c.args.terms.now t u c.in-Some.numbers c.subtract.new.self.found.items form in
    tells_form c.args.symbols.now c.args.terms.now t u c.in-Some.numbers c.subtract.new.self.found.items c.tell.result form
    (rw (to_z-of_z _ _ fits, c.deref.ensures.value) at c.tell.ensures)
