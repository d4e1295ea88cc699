use Rattle.judged_texts.proofs.judging.proofs_correspond.Goals as goal

pub returns : goal.returns
returns c = λ s v refs proof stands. record {
  count = c.commands_correspond.ensures.commands s v refs proof stands;
  ids = λ i. c.commands_correspond.ensures.id s v refs proof i stands;
  rules = λ i. c.commands_correspond.ensures.rule_name s v refs proof i stands;
  scopes = λ i. c.commands_correspond.ensures.scope s v refs proof i stands;
  premises = λ i. c.commands_correspond.ensures.premises s v refs proof i stands;
  clauses = λ i. c.terms_correspond.ensures.clause s v refs proof i stands;
}
