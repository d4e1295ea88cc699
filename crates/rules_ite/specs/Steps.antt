-- Private. What each rule asks of the clauses of a step.
use Rattle.std.specs.Prelude.{List}
use Rattle.term_model.specs.Terms.{Term}
use Rattle.rule_model.specs.declared.rules.Rule.{Rule}
use Rattle.rule_model.specs.Ite.{MeetsConnectiveDef, MeetsIteIntro, MeetsDistinctElim}
use Rattle.rule_model.specs.RuleSchemas.{MeetsChoice}

abbrev pub MeetsDefinition : Rule → List (List Term) → List Term → Type 0
MeetsDefinition Rule.ConnectiveDef = MeetsConnectiveDef
MeetsDefinition Rule.IteIntro = MeetsIteIntro
MeetsDefinition Rule.DistinctElim = MeetsDistinctElim
MeetsDefinition rule = MeetsChoice rule
