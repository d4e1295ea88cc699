-- Private. Which rules are asked, by their families, and for which steps.
use Rattle.std.specs.Prelude.{◌≡◌, Bool, true, false, None}
use Rattle.sym_table.specs.Table.{Table}
use Rattle.term_pool.specs.Views.{TermsView}
use Rattle.rule_model.specs.declared.kinds.Family.{Family}
use Rattle.rule_model.specs.declared.kinds.Kind.{Kind}
use Rattle.rule_model.specs.declared.rules.Rule.{Rule}
use Rattle.rule_model.specs.Judged.{Judged}
use Rattle.rule_model.specs.RuleNames.{kind_of}
use Rattle.term_parts.specs.Judging.{StandsForStep}
use Rattle.term_parts.specs.declared.answers.Answer.{Answer}
use Rattle.term_parts.specs.declared.steps.Step.{Step}

-- whether a family is asked: not one whose rules take premises, or look at anchors or at a proof
abbrev pub is_asked_family : Family → Bool
is_asked_family Family.Clausal = true
is_asked_family Family.Resolution = false
is_asked_family Family.Congruence = true
is_asked_family Family.Refl = false
is_asked_family Family.Ite = true
is_asked_family Family.Simplify = true
is_asked_family Family.Arith = true
is_asked_family Family.Subproof = false

-- whether a command of this kind is judged by a family that is asked
abbrev pub is_asked : Kind → Bool
is_asked Kind.Assumed = false
is_asked Kind.Unknown = false
is_asked Kind.Hole = false
is_asked (Kind.Judged family) = is_asked_family family

-- whether a rule is one of such a family
abbrev pub is_asked_rule : Rule → Bool
is_asked_rule rule = is_asked (kind_of rule)

-- the step stands for one without coefficients
pub record StandsForLone (s : Table) (v : TermsView) (given : Step) (j : Judged) : Type 0 where
  pub step : StandsForStep s v given j
  pub ratios : j.ratios ≡ None

-- the answer says that the condition is met
abbrev pub says_met : Answer → Bool
says_met Answer.Met = true
says_met Answer.NotMet = false
says_met Answer.TooWide = false
