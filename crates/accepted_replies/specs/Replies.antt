-- Public. Replies of one inference: what they assume, a step by a rule without premises, and the resolution of both to the empty clause.
use Rattle.std.specs.Prelude.{◌≡◌, ◌⊎◌, ◌≤◌, ℕ, zero, suc, List, [], ◌∷◌, length, Option, None, IfSome, All, Any, Contains}
use Rattle.std.specs.List.{AllByRecursion}
use Rattle.term_model.specs.declared.symbols.Sort.{Sort}
use Rattle.term_model.specs.Heights.{height}
use Rattle.term_model.specs.Terms.{Term, not_of}
use Rattle.rule_model.specs.declared.rules.Mode.{Mode}
use Rattle.rule_model.specs.declared.rules.Rule.{Rule}
use Rattle.rule_model.specs.Conditions.{Met, IsTooWide}
use Rattle.rule_model.specs.Judged.{Judged}
use Rattle.rule_model.specs.Proofs.{Fraction, Step, ProofItems, no_items, with_assume, with_step}
use Rattle.rule_model.specs.RuleNames.{word_of, kind_of, IsJudged}
use Rattle.rule_model.specs.Scopes.{outermost, commands_in}
use Rattle.rule_model.specs.WellFormed.{IsLowest}
use Rattle.problem_text.specs.Limits.{most_height}
use Rattle.problem_text.specs.Scripts.{Script}
use Rattle.printed_proofs.specs.Numbered.{printed_id}
use Rattle.printed_proofs.specs.Readable.{IsTermReadable}
use Rattle.readable_proofs.specs.ProofsOver.{printed_settings}

-- what a step concludes without premises: by a rule a clause, with coefficients where the rule is la_generic
pub record Inference (T : Type 0) : Type 0 where
  pub rule : Rule
  pub clause : List T
  pub ratios : Option (List Fraction)

-- the numbers from one on, so many of them
abbrev pub numbers_from : ℕ → ℕ → List ℕ
numbers_from k zero = []
numbers_from k (suc n) = k ∷ numbers_from (suc k) n

-- a term is assumed behind some commands, and several are
abbrev pub assumed_behind : {V T : Type 0} → ProofItems V T → T → ProofItems V T
assumed_behind items t = with_assume items (printed_id (commands_in items)) t

abbrev pub assumes_behind : {V T : Type 0} → ProofItems V T → List T → ProofItems V T
assumes_behind items [] = items
assumes_behind items (t ∷ ts) = assumes_behind (assumed_behind items t) ts

-- the step of an index that infers this, from these premises
abbrev pub concluding : {T : Type 0} → ℕ → Inference T → List ℕ → Step T
concluding index x premises = record {
  id = printed_id index;
  rule = x.rule;
  rule_name = word_of x.rule;
  clause = x.clause;
  premises = premises;
  discharged = [];
  pivots = [];
  ratios = x.ratios;
}

abbrev pub inferring : {T : Type 0} → ℕ → Inference T → Step T
inferring index x = concluding index x []

-- the step behind it, which resolves it and the commands before it, so many, to the empty clause
abbrev pub resolving : {T : Type 0} → ℕ → Step T
resolving count = concluding (suc count) (record { rule = Rule.Resolution; clause = []; ratios = None }) (count ∷ numbers_from 0 count)

-- the whole reply
abbrev pub reply_of : {V T : Type 0} → List T → Inference T → ProofItems V T
reply_of assumed x = with_step (with_step (assumes_behind no_items assumed) (inferring (length assumed) x)) (resolving (length assumed))

-- what the rule of the step looks at
abbrev pub judged_inference : Inference Term → Judged
judged_inference x = record {
  mode = Mode.Check;
  rule = x.rule;
  clause = x.clause;
  premises = [];
  pivots = [];
  ratios = x.ratios;
  anchors = [];
}

-- The rule has a condition, and only la_generic has coefficients, in lowest terms.
pub record MayInfer {T : Type 0} (x : Inference T) : Type 0 where
  pub judged : IsJudged (kind_of x.rule)
  pub ratios : (x.rule ≡ Rule.LaGeneric) ⊎ (x.ratios ≡ None)
  pub lowest : IfSome x.ratios (λ qs. All IsLowest qs)

-- one of two terms is the negation of the other
abbrev pub IsNegation : Term → Term → Type 0
IsNegation t l = (l ≡ not_of t) ⊎ (t ≡ not_of l)

-- What is assumed is asserted and denies each literal of the clause, which is no higher than the limit; and the step meets the condition
-- of its rule.
pub record IsAnswer (s : Script) (assumed : List Term) (x : Inference Term) : Type 0 where
  pub asserted : AllByRecursion (Contains s.assertions) assumed
  pub denied : AllByRecursion (λ l. Any (λ t. IsNegation t l) assumed) x.clause
  pub low : AllByRecursion (λ l. height l ≤ most_height) x.clause
  pub may : MayInfer x
  pub met : Met (judged_inference x)
  pub narrow : ¬ IsTooWide (judged_inference x)

-- the assertions can be printed and read again behind the whole script
abbrev pub AreAssertionsReadable : Script → Type 0
AreAssertionsReadable s = AllByRecursion (λ a. IsTermReadable printed_settings [] s outermost a Sort.Bool) s.assertions
