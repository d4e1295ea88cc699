use Rattle.alethe_printer.proofs.FormedProofs.{formed_of}
use Rattle.alethe_printer.proofs.laws.proofs_stand_well_formed.Goals as goal

pub returns : goal.returns
returns c = λ s v refs of table stand formed. formed_of s v table refs of stand formed
