-- Private. The way to show a clause by one rule: where it is closed, what it gives, and that its proof is an answer.
use Rattle.std.proofs.Common.{◌≡◌, ◌≢◌, ◌⊎◌, inr, ℕ, ◌<◌, ◌≤◌, List, [], ◌∷◌, length, map, Option, Some, None, Result, Ok, Err, IfOk}
use Rattle.std.proofs.Common.{IfSome, IfNone, Vec, refl, ap, subst, arith, ◌∙◌}
use Rattle.std.specs.declared.alloc.Global.{Global}
use Rattle.std.specs.List.{AllByRecursion}
use Rattle.std.specs.Prelude.{Any}
use Rattle.sym_table.specs.Table.{Table}
use Rattle.term_model.specs.declared.symbols.Sort.{Sort}
use Rattle.term_model.specs.Heights.{height}
use Rattle.term_model.specs.Terms.{Var, Term, not_of}
use Rattle.term_pool.specs.Views.{TermsView, ReferToAll}
use Rattle.rule_model.specs.declared.rules.Rule.{Rule}
use Rattle.rule_model.specs.Proofs.{ProofItems}
use Rattle.rule_model.specs.RuleNames.{kind_of, IsJudged}
use Rattle.problem_text.specs.Limits.{most_height}
use Rattle.problem_text.specs.Scripts.{Script}
use Rattle.problem_text.specs.Soundness.{IsSound, IsRead}
use Rattle.fillers.specs.Books.{reply_bytes}
use Rattle.hole_fillers.specs.Questions.{most_bytes}
use Rattle.accepted_replies.specs.Refutations.{reply_text}
use Rattle.accepted_replies.specs.Replies.{MayInfer, IsNegation, IsAnswer}
use Rattle.accepted_replies.specs.Texts.{StandsForInference, IsTextOfReply, IsLongReply}
use Rattle.lone_rules.specs.LoneRules.{IsLoneRuleOf}
use Rattle.rule_filler.specs.Denials.{StandForDenials, IsGivenBy}
use Rattle.rule_filler.specs.Filling.{denied_clause, IsClosed, one_rule}
use Rattle.rule_filler.specs.OneRule.{inferred, proof_by, IsShownByRule}
use Rattle.rule_filler.proofs.DenialLemmas.{denied_asserted, denied_low, some_refer}

-- the laws of what is used
abbrev pub IsOneRule : Type 0
IsOneRule = (clause : List Term) (a b : Option Rule) → IsLoneRuleOf clause a → IsLoneRuleOf clause b → a ≡ b

abbrev pub HaveConditions : Type 0
HaveConditions = (clause : List Term) (rule : Rule) → IsLoneRuleOf clause (Some rule) → IsJudged (kind_of rule)

abbrev pub AreDenied : Type 0
AreDenied = (ls : List Term) → AllByRecursion (λ l. Any (λ t. IsNegation t l) (map not_of ls)) ls

-- a clause has one proof by one rule
pub one_proof : IsOneRule → (clause : List Term) (rule : Rule) (proof : ProofItems Var Term) → IsLoneRuleOf clause (Some rule) → IsShownByRule clause proof
    → proof ≡ proof_by rule clause
one_proof one clause rule proof first shown =
    let both : Some shown.rule ≡ Some rule = one clause (Some shown.rule) (Some rule) shown.first first in
    let same : shown.rule ≡ rule = cc in
    shown.by_rule ∙ ap (λ r. proof_by r clause) same

-- WHERE IT IS CLOSED

pub no_literal : (script : Script) → denied_clause script.assertions ≡ [] → IsClosed script one_rule
no_literal script none = λ proof is_open. is_open.shows.some none

pub no_rule : IsOneRule → (script : Script) → IsLoneRuleOf (denied_clause script.assertions) None → IsClosed script one_rule
no_rule one script none = λ proof is_open.
    let both : None ≡ Some is_open.shows.rule = one (denied_clause script.assertions) None (Some is_open.shows.rule) none is_open.shows.first in
    absurd (cc)

pub too_long : IsOneRule → (script : Script) (rule : Rule) → IsLoneRuleOf (denied_clause script.assertions) (Some rule)
    → most_bytes < length (reply_text script (proof_by rule (denied_clause script.assertions))) → IsClosed script one_rule
too_long one script rule first over = λ proof is_open.
    let is = one_proof one (denied_clause script.assertions) rule proof first is_open.shows in
    let short = subst (λ p. length (reply_text script p) ≤ most_bytes) is is_open.short in
    omega (arith, over, short)

-- WHAT IT GIVES

pub may_infer : {T : Type 0} (rule : Rule) (clause : List T) → IsJudged (kind_of rule) → MayInfer (inferred rule clause)
may_infer rule clause judged = record { judged = judged; ratios = inr refl; lowest = tt }

module _ (s : Table) (v : TermsView) (assumed clause : List ℕ) (rule : Rule) (one : IsOneRule) (some : clause ≢ [])
    (first : (ts : List Term) → ReferToAll s v clause ts → IsLoneRuleOf ts (Some rule)) where
  stands_inferred : (ls : List Term) → ReferToAll s v clause ls → StandsForInference s v (inferred rule clause) (inferred rule ls)
  stands_inferred ls refer = record { rule = refl; clause = refer; ratios = refl }

  -- what is found of a reply that may be too long
  pub given : {E : Type 0} (result : Result (Option (Vec ℕ Global)) E) → IfOk result (λ found. IfSome found (λ bytes. length bytes.items ≤ most_bytes))
      → IfOk result (λ found. IfSome found (λ bytes. IsTextOfReply s v assumed (inferred rule clause) bytes.items))
      → IfOk result (λ found. IfNone found (IsLongReply s v assumed (inferred rule clause) most_bytes))
      → IfOk result (λ found. IsGivenBy one_rule s v assumed clause (reply_bytes found))
  given (Err e) short text over = tt
  given (Ok None) short text over = λ script sorts denials.
      let ls = denied_clause script.assertions in
      too_long one script rule (first ls denials.clause_refer)
      (over script (map not_of ls) (inferred rule ls) sorts denials.assumed_refer (stands_inferred ls denials.clause_refer))
  given (Ok (Some bytes)) short text over = λ script sorts denials.
      let ls = denied_clause script.assertions in
      let is = text script (map not_of ls) (inferred rule ls) sorts denials.assumed_refer (stands_inferred ls denials.clause_refer) in (
        proof_by rule ls,
        record {
          shows = record { some = some_refer s v clause ls some denials.clause_refer; rule = rule; first = first ls denials.clause_refer; by_rule = refl };
          short = subst (λ b. length b ≤ most_bytes) is short;
        },
        is,
      )

-- ITS PROOF IS AN ANSWER

low_assertions : (ts : List Term) → AllByRecursion (λ t. IsRead (record { tree = t; sort = Sort.Bool })) ts → AllByRecursion (λ t. height t ≤ most_height) ts
low_assertions [] h = tt
low_assertions (t ∷ ts) h = (h.0.low, low_assertions ts h.1)

pub shown_answers : HaveConditions → AreDenied → (script : Script) → IsSound script → (proof : ProofItems Var Term)
    → (shown : IsShownByRule (denied_clause script.assertions) proof)
    → IsAnswer script (map not_of (denied_clause script.assertions)) (inferred shown.rule (denied_clause script.assertions))
shown_answers judged denied script sound proof shown =
    let ls = denied_clause script.assertions in
    record {
      asserted = denied_asserted script.assertions;
      denied = denied ls;
      low = denied_low most_height script.assertions (low_assertions script.assertions sound.assertions);
      may = may_infer shown.rule ls (judged ls shown.rule shown.first);
      met = shown.first.1.met.met;
      narrow = shown.first.1.met.narrow;
    }
