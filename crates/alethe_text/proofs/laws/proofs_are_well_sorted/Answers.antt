-- By recursion on the commands.
use Rattle.alethe_text.proofs.SortedProofs.{text_sorted}
use Rattle.alethe_text.proofs.laws.proofs_are_well_sorted.Goals as goal

pub returns-clause-terms : goal.returns-clause-terms
returns-clause-terms c = λ source settings before proof after sound h. (text_sorted source settings before proof after sound h).0

pub returns-clause-script : goal.returns-clause-script
returns-clause-script c = λ source settings before proof after sound h. (text_sorted source settings before proof after sound h).1
