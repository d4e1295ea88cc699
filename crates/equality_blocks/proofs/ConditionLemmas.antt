-- Cited by crates above. What a command meets that is Ok in check mode, by a rule that no step which closes a scope has.
use Rattle.std.proofs.Common.{◌≡◌, ℕ, false, Option, Some, None, refl, sym, ◌∙◌, subst}
use Rattle.term_pool.specs.Views.{TermsView}
use Rattle.rule_model.specs.declared.kinds.Family.{Family}
use Rattle.rule_model.specs.declared.kinds.Kind.{Kind}
use Rattle.rule_model.specs.declared.rules.Mode.{Mode}
use Rattle.rule_model.specs.declared.rules.Rule.{Rule}
use Rattle.rule_model.specs.declared.statuses.Status.{Status}
use Rattle.rule_model.specs.Conditions.{MeetsClosing, MeetsRule, MeetsWhere}
use Rattle.rule_model.specs.Judged.{judged_at}
use Rattle.rule_model.specs.Reading.{closes_at, rule_at}
use Rattle.rule_model.specs.RuleNames.{kind_of}
use Rattle.rule_model.specs.Statuses.{IsStatusBy, kind_under}
use Rattle.elaboration_laws.proofs.Reading.{closes_same, rule_same}
use Rattle.equality_steps.specs.declared.site.Site.{Site}
use Rattle.equality_blocks.specs.Commands.{IsToElaborate, in_check_mode, rule_of_command}

module _ (p : Site) (v : TermsView) (h : IsToElaborate p v) (family : Family) (rule : Rule) (is : rule_of_command p ≡ rule)
    (kind : kind_of rule ≡ Kind.Judged family) (never : (k : ℕ) → MeetsClosing Mode.Check rule h.proof p.command k → ⊥) where
  rule_there : rule_at h.proof p.command ≡ rule
  rule_there = sym (rule_same p.symbols.now v p.proof.now h.proof h.stand p.command) ∙ is

  met_where : MeetsWhere Mode.Check h.proof p.command (closes_at h.proof p.command)
  met_where =
      (subst (λ k. IsStatusBy (kind_under false k) (in_check_mode h.assertions) h.proof p.command Status.Ok) kind
      (subst (λ r. IsStatusBy (kind_under false (kind_of r)) (in_check_mode h.assertions) h.proof p.command Status.Ok) rule_there h.ok)).1

  closes_none : (o : Option ℕ) → MeetsWhere Mode.Check h.proof p.command o → o ≡ None
  closes_none None met = refl
  closes_none (Some k) met = absurd (never k (subst (λ r. MeetsClosing Mode.Check r h.proof p.command k) rule_there met))

  pub closes_nothing : closes_at p.proof.now p.command ≡ None
  closes_nothing =
      closes_same p.symbols.now v p.proof.now h.proof h.stand p.command ∙ closes_none (closes_at h.proof p.command) met_where

  met_open : (o : Option ℕ) → MeetsWhere Mode.Check h.proof p.command o → MeetsRule rule (judged_at Mode.Check h.proof p.command)
  met_open None met = subst (λ r. MeetsRule r (judged_at Mode.Check h.proof p.command)) rule_there met
  met_open (Some k) met = absurd (never k (subst (λ r. MeetsClosing Mode.Check r h.proof p.command k) rule_there met))

  pub met_rule : MeetsRule rule (judged_at Mode.Check h.proof p.command)
  met_rule = met_open (closes_at h.proof p.command) met_where
