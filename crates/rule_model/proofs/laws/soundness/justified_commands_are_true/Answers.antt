-- By induction on the place in the file.
use Rattle.rule_model.proofs.Soundness.{justified_are_true}
use Rattle.rule_model.proofs.Verdicts.{empty_refutes}
use Rattle.rule_model.proofs.laws.soundness.justified_commands_are_true.Goals as goal

pub returns-clause-scope : goal.returns-clause-scope
returns-clause-scope c check proof i formed sorted just = justified_are_true check proof formed sorted i just

pub returns-clause-empty : goal.returns-clause-empty
returns-clause-empty c check proof i formed sorted within just number empty =
    empty_refutes check proof formed sorted i within just number empty
