-- What each rule of this family asks of the clauses of a step.
use Rattle.std.proofs.Common.{◌≡◌, ◌≢◌, ◌↔◌, List, Bool, IsTrue, Option, Some, None, refl}
use Rattle.term_model.specs.Terms.{Term}
use Rattle.rule_model.specs.declared.kinds.Family.{Family}
use Rattle.rule_model.specs.declared.kinds.Kind.{Kind}
use Rattle.rule_model.specs.declared.rules.Rule.{Rule}
use Rattle.rule_model.specs.RuleSchemas.{choice_schema_of}
use Rattle.rule_model.specs.RuleNames.{kind_of}
use Rattle.rule_model.specs.Schemas.{Schema, IsInstance, IsInstanceOf}
use Rattle.schema_match.specs.declared.instances.SchemaParts.{SchemaParts}
use Rattle.schema_match.specs.Schemas.{AreSchemaParts, HasParts}
use Rattle.rules_ite.specs.Steps.{MeetsDefinition}

module _ (ps : List (List Term)) (ts : List Term) where
  -- the rule has a schema
  with_schema : (o : Option Schema) (parts : SchemaParts) (b : Bool) → AreSchemaParts o (Some parts) →
      ((of : Schema) → HasParts of.premises of.clause parts → IsTrue b ↔ IsInstance of ps ts) → IsTrue b ↔ IsInstanceOf o ps ts
  with_schema None parts b are test = absurd are
  with_schema (Some of) parts b are test = test of are

  pub choice_is : (rule : Rule) (parts : SchemaParts) (b : Bool) → AreSchemaParts (choice_schema_of rule) (Some parts) →
      ((of : Schema) → HasParts of.premises of.clause parts → IsTrue b ↔ IsInstance of ps ts) → IsTrue b ↔ MeetsDefinition rule ps ts
  choice_is Rule.ConnectiveDef parts b are test = absurd are
  choice_is Rule.IteIntro parts b are test = absurd are
  choice_is Rule.DistinctElim parts b are test = absurd are
  choice_is rule parts b are test = with_schema (choice_schema_of rule) parts b are test

-- no rule of the family is left that has no schema
pub none_left : (rule : Rule) → kind_of rule ≡ Kind.Judged Family.Ite → AreSchemaParts (choice_schema_of rule) None →
    rule ≢ Rule.ConnectiveDef → rule ≢ Rule.IteIntro → rule ≢ Rule.DistinctElim → ⊥
none_left Rule.ItePos1 is none no_connective no_intro no_elim = none
none_left Rule.ItePos2 is none no_connective no_intro no_elim = none
none_left Rule.IteNeg1 is none no_connective no_intro no_elim = none
none_left Rule.IteNeg2 is none no_connective no_intro no_elim = none
none_left Rule.Ite1 is none no_connective no_intro no_elim = none
none_left Rule.Ite2 is none no_connective no_intro no_elim = none
none_left Rule.NotIte1 is none no_connective no_intro no_elim = none
none_left Rule.NotIte2 is none no_connective no_intro no_elim = none
none_left Rule.ConnectiveDef is none no_connective no_intro no_elim = no_connective refl
none_left Rule.IteIntro is none no_connective no_intro no_elim = no_intro refl
none_left Rule.DistinctElim is none no_connective no_intro no_elim = no_elim refl
none_left _ is none no_connective no_intro no_elim = absurd cc
