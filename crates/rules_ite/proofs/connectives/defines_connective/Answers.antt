use Rattle.std.proofs.lemmas.Result.{IfOk-weaker}
use Rattle.rule_model.specs.Ite.{connective_definitions}
use Rattle.rules_ite.specs.Connectives.{schemas_of}
use Rattle.rules_ite.proofs.ConnectiveLemmas.{connective_is}
use Rattle.rules_ite.proofs.connectives.defines_connective.Goals as goal

pub returns-clause-defines : goal.returns-clause-defines
returns-clause-defines c =
    IfOk-weaker c.is_instance_of_one.result _ _ (λ b test ps ts premises clause truths.
    connective_is ps ts b truths (test (schemas_of connective_definitions) ps ts c.connectives.ensures premises clause)) c.is_instance_of_one.ensures.instance
