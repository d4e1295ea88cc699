use Rattle.std.proofs.Common.{◌∙◌}
use Rattle.std.proofs.lemmas.Int.{to_z-of_z}
use Rattle.linear_forms.proofs.Forming.{expanded_fits, linear_of}
use Rattle.linear_forms.proofs.forms.LinearForms.linear.Goals as goal

pub returns-in_default-clause-linear : goal.returns-in_default-clause-linear
returns-in_default-clause-linear c =
    λ t refers. let told = c.in_ok-numbers.ensures.expanded t refers in rw c.in_default.is at told

pub returns-clause-linear : goal.returns-clause-linear
returns-clause-linear c =
    λ t refers.
    let told = c.in_ok-numbers.ensures.expanded t refers in
    let form = rw c.in-Some.is at told in
    rw (to_z-of_z _ _ (expanded_fits c.args.symbols.now c.args.terms.now t c.in-Some.numbers c.expand.new.self.found.items form))
    (linear_of c.args.symbols.now c.args.terms.now t c.in-Some.numbers c.expand.new.self.found.items c.in_ok-coefs.coefs (c.in_ok-coefs.ensures.items ∙ c.deref.ensures.value) form)
