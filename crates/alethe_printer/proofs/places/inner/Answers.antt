use Rattle.std.proofs.Common.{sym, ◌∙◌}
use Rattle.alethe_printer.proofs.NextEvents.{reached_in, reached_outside}
use Rattle.alethe_printer.proofs.places.inner.Goals as goal

pub returns-in-Some : goal.returns-in-Some
returns-in-Some c = λ s v of l stand there.
    reached_in s v c.args.proof.now of c.args.i l (c.places_correspond.ensures s v c.args.proof.now of c.args.i stand) there c.in-Some.scope
    (sym c.closes.ensures ∙ c.in-Some.is)

pub returns-in-None : goal.returns-in-None
returns-in-None c = λ s v of l stand there.
    c.scope_of.ensures
    ∙ reached_outside s v c.args.proof.now of c.args.i l (c.places_correspond.ensures s v c.args.proof.now of c.args.i stand) there
    (sym c.closes.ensures ∙ c.in-None.is)
