use Rattle.alethe_printer.proofs.DeclaredSorts.{read_sorts}
use Rattle.alethe_printer.proofs.laws.readable_sorts_are_declared.Goals as goal

pub returns : goal.returns
returns c = λ script s v refs of same stand read. read_sorts s script same v refs of (λ k. c.terms_correspond.ensures.bindings s v refs of k stand) read
