use Rattle.std.proofs.Common.{◌∙◌, refl, sym}
use Rattle.step_check.proofs.judging.step_at.Goals as goal

pub returns-clause-stands : goal.returns-clause-stands
returns-clause-stands c s v of stand = record {
  mode = refl;
  rule = sym (c.rule.ensures ∙ c.commands_correspond.ensures.rule s v c.args.proof.now of c.args.i stand);
  premises = c.requires.premises s v of stand;
  clause = rw c.clause.ensures (c.terms_correspond.ensures.clause s v c.args.proof.now of c.args.i stand);
}
