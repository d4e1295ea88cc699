-- A premise is visible where the command belongs.
use Rattle.rule_model.proofs.Standing.{premise_earlier, premise_encloses}
use Rattle.rule_model.proofs.laws.commands.premises_stand_before.Goals as goal

pub returns-clause-earlier : goal.returns-clause-earlier
returns-clause-earlier c proof i j l formed h has = premise_earlier proof i j l formed h has

pub returns-clause-encloses : goal.returns-clause-encloses
returns-clause-encloses c proof i j l m formed h has there = premise_encloses proof i j l m formed h has there
