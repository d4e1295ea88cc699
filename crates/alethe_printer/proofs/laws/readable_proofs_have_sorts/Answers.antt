use Rattle.alethe_printer.proofs.DeclaredSorts.{have_sorts}
use Rattle.alethe_printer.proofs.laws.readable_proofs_have_sorts.Goals as goal

pub returns : goal.returns
returns c = λ settings plan script s v refs of same stand readable.
    have_sorts s script same v settings plan refs of (λ k. c.terms_correspond.ensures.bindings s v refs of k stand) readable
