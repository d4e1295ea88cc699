use Rattle.readable_proofs.proofs.PrintableTerms.{printable}
use Rattle.readable_proofs.proofs.laws.terms_are_printable.Goals as goal

pub returns : goal.returns
returns c = λ s names p t allows kept named free of.
    printable s names allows.well allows.own allows.apart t p (record { kept = kept; named = named }) free of
