-- The status of a command by how its rule is judged.
use Rattle.std.proofs.Common.{◌≡◌, ◌≢◌, ◌↔◌, ℕ, Bool, true, false, List, All, IsTrue, ap, refl, sym, subst}
use Rattle.term_model.specs.Terms.{Var, Term}
use Rattle.rule_model.specs.declared.kinds.Family.{Family}
use Rattle.rule_model.specs.declared.kinds.Kind.{Kind}
use Rattle.rule_model.specs.declared.rules.Rule.{Rule}
use Rattle.rule_model.specs.declared.rules.StepCause.{StepCause}
use Rattle.rule_model.specs.declared.statuses.Status.{Status}
use Rattle.rule_model.specs.Conditions.{IsMetAt, IsTooWideAt}
use Rattle.rule_model.specs.Proofs.{ProofItems}
use Rattle.rule_model.specs.Reading.{rule_at, clause_at, scope_at}
use Rattle.rule_model.specs.RuleNames.{kind_of}
use Rattle.rule_model.specs.Statuses.{kind_under, kind_of_rule, IsAsserted, MayAssume, IsStatusBy, IsStatusAt}
use Rattle.term_parts.specs.Judging.{Tells}
use Rattle.term_parts.specs.declared.answers.Answer.{Answer}
use Rattle.term_reader.specs.declared.flags.Flags.{Flags}
use Rattle.step_check.specs.Statuses.{checking, mode_of}
use Rattle.step_check.specs.Steps.{IsStatusOfAnswer}

-- the kinds that flags leave as they are
pub only_judged : (ignored : Bool) (kind : Kind) (family : Family) → kind_under ignored kind ≡ Kind.Judged family → kind ≡ Kind.Judged family
only_judged ignored Kind.Assumed family e = absurd cc
only_judged true Kind.Unknown family e = absurd cc
only_judged false Kind.Unknown family e = absurd cc
only_judged ignored Kind.Hole family e = absurd cc
only_judged ignored (Kind.Judged other) family e = e

only_assumed : (ignored : Bool) (kind : Kind) → kind_under ignored kind ≡ Kind.Assumed → kind ≡ Kind.Assumed
only_assumed ignored Kind.Assumed e = refl
only_assumed true Kind.Unknown e = absurd cc
only_assumed false Kind.Unknown e = absurd cc
only_assumed ignored Kind.Hole e = absurd cc
only_assumed ignored (Kind.Judged other) e = absurd cc

assume_rule : (rule : Rule) → kind_of rule ≡ Kind.Assumed → rule ≡ Rule.Assume
assume_rule Rule.Assume e = refl
assume_rule _ e = absurd cc

pub refl_rule : (rule : Rule) → kind_of rule ≡ Kind.Judged Family.Refl → rule ≡ Rule.Refl
refl_rule Rule.Refl e = refl
refl_rule _ e = absurd cc

pub is_assume_rule : (ignored : Bool) (rule : Rule) → Kind.Assumed ≡ kind_under ignored (kind_of rule) → rule ≡ Rule.Assume
is_assume_rule ignored rule e = assume_rule rule (only_assumed ignored (kind_of rule) (sym e))

module _ (flags : Flags) (ts : List Term) (proof : ProofItems Var Term) (i : ℕ) where
  by_kind : (kind : Kind) (status : Status) → kind_of_rule (checking flags ts) (rule_at proof i) ≡ kind → IsStatusBy kind (checking flags ts) proof i status → IsStatusAt (checking flags ts) proof i status
  by_kind kind status e h = subst (λ k. IsStatusBy k (checking flags ts) proof i status) (sym e) h

  pub hole_status : kind_of_rule (checking flags ts) (rule_at proof i) ≡ Kind.Hole → IsStatusAt (checking flags ts) proof i Status.Hole
  hole_status e = by_kind Kind.Hole Status.Hole e tt

  pub unknown_status : kind_of_rule (checking flags ts) (rule_at proof i) ≡ Kind.Unknown → IsStatusAt (checking flags ts) proof i (Status.Faulty StepCause.UnknownRule)
  unknown_status e = by_kind Kind.Unknown (Status.Faulty StepCause.UnknownRule) e tt

  -- a rule that is judged is judged under any flags
  conditional : (family : Family) → kind_of (rule_at proof i) ≡ Kind.Judged family → kind_of_rule (checking flags ts) (rule_at proof i) ≡ Kind.Judged family
  conditional family is = ap (kind_under flags.ignore_unknown) is

  pub judged_status : (family : Family) (answer : Answer) (status : Status) → kind_of (rule_at proof i) ≡ Kind.Judged family →
      IsStatusOfAnswer answer status → Tells answer (IsTooWideAt (mode_of flags) proof i) (IsMetAt (mode_of flags) proof i) →
      IsStatusAt (checking flags ts) proof i status
  judged_status family Answer.Met status judged is h =
      subst (IsStatusAt (checking flags ts) proof i) (sym is) (by_kind (Kind.Judged family) Status.Ok (conditional family judged) h)
  judged_status family Answer.NotMet status judged is h =
      subst (IsStatusAt (checking flags ts) proof i) (sym is)
      (by_kind (Kind.Judged family) (Status.Faulty StepCause.NotMet) (conditional family judged) h)
  judged_status family Answer.TooWide status judged is h =
      subst (IsStatusAt (checking flags ts) proof i) (sym is) (by_kind (Kind.Judged family) Status.Wide (conditional family judged) h)

  pub assume_passes : kind_of_rule (checking flags ts) (rule_at proof i) ≡ Kind.Assumed → MayAssume (checking flags ts) proof i → IsStatusAt (checking flags ts) proof i Status.Ok
  assume_passes e may = by_kind Kind.Assumed Status.Ok e may

  pub assume_fails : kind_of_rule (checking flags ts) (rule_at proof i) ≡ Kind.Assumed → ¬ MayAssume (checking flags ts) proof i → IsStatusAt (checking flags ts) proof i (Status.Faulty StepCause.NotAsserted)
  assume_fails e may_not = by_kind Kind.Assumed (Status.Faulty StepCause.NotAsserted) e may_not

  -- what is assumed inside a scope is not asked for
  pub inner_assume : scope_at proof i ≢ 0 → MayAssume (checking flags ts) proof i
  inner_assume inner = λ outer. absurd (inner outer)

  pub outer_assume : (told : Bool) → scope_at proof i ≡ 0 → IsTrue told ↔ All (IsAsserted (mode_of flags) ts) (clause_at proof i) → IsTrue told ↔ MayAssume (checking flags ts) proof i
  outer_assume told outer tells = (λ e _. tells.0 e, λ may. tells.1 (may outer))
