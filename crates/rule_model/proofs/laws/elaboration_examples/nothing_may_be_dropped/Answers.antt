use Rattle.rule_model.proofs.ElaborationExamples.{short_drops, dropped_subproof, other_hole, not_back}
use Rattle.rule_model.proofs.laws.elaboration_examples.nothing_may_be_dropped.Goals as goal

pub returns-clause-short : goal.returns-clause-short
returns-clause-short c checking keeps = short_drops checking keeps

pub returns-clause-subproof : goal.returns-clause-subproof
returns-clause-subproof c checking keeps = dropped_subproof checking keeps

pub returns-clause-hole : goal.returns-clause-hole
returns-clause-hole c checking keeps = other_hole checking keeps

pub returns-clause-back : goal.returns-clause-back
returns-clause-back c checking keeps = not_back checking keeps
