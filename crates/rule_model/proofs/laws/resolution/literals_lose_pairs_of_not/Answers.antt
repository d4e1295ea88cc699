use Rattle.std.proofs.Common.{◌∙◌}
use Rattle.rule_model.specs.Resolution.{as_literal}
use Rattle.rule_model.proofs.Consequence.{negation_of-negation_of}
use Rattle.rule_model.proofs.Resolution.{bare_is_bare, atom_is_plain}
use Rattle.rule_model.proofs.laws.resolution.literals_lose_pairs_of_not.Goals as goal

pub returns-clause-pairs : goal.returns-clause-pairs
returns-clause-pairs c t = negation_of-negation_of (as_literal t)

pub returns-clause-atom : goal.returns-clause-atom
returns-clause-atom c t bare no_true no_false = bare_is_bare t bare ∙ atom_is_plain t no_true no_false
