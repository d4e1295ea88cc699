-- Public. What a second run of the checker reads and says, where the first one printed the text of a proof.
use Rattle.std.specs.Prelude.{◌≡◌, ◌⊎◌, ℕ, Bool, true, false, List, [], Some, map, All, ◌≤◌}
use Rattle.term_model.specs.Heights.{height}
use Rattle.term_model.specs.Terms.{Var, Term}
use Rattle.rule_model.specs.declared.statuses.Verdict.{Verdict}
use Rattle.rule_model.specs.Elaboration.{IsLowProof}
use Rattle.rule_model.specs.LeftOut.{IsSameUpToPivots}
use Rattle.rule_model.specs.Proofs.{ProofItems}
use Rattle.problem_text.specs.Limits.{AreLow, most_height}
use Rattle.problem_text.specs.Scripts.{Script}
use Rattle.alethe_text.specs.ProofTexts.{StandsForProof}
use Rattle.command_words.specs.declared.request.Options.{Options}
use Rattle.judged_texts.specs.declared.judgement.Judgement.{Judgement}
use Rattle.judged_texts.specs.declared.judgement.Judgement.TheVariants.{Holey, PoolFull}
use Rattle.judged_texts.specs.Holes.{holes_from, told_hole}
use Rattle.judged_texts.specs.Judgement.{IsCheckedAs}
use Rattle.judged_texts.specs.Printed.{status_of_judgement}
use Rattle.judged_texts.specs.Reading.{settings_of}

-- the same options with `--strict`; with lets kept; and with lets kept or replaced
abbrev pub strictly : Options → Options
strictly options = record options { is_strict = true }

abbrev pub keeping_lets : Options → Options
keeping_lets options = record options { replaces_lets = false }

abbrev pub with_lets : Bool → Options → Options
with_lets replaces options = record options { replaces_lets = replaces }

-- No term that was read up to this script is higher than the limit. The images of the variables of anchors count as read.
abbrev pub IsReadLow : Script → Type 0
IsReadLow after = AreLow (Some most_height) after.terms

-- No assertion and no term of the proof is higher than 995: then no term of an elaboration is higher than the limit.
pub record IsHalfLow (assertions : List Term) (proof : ProofItems Var Term) : Type 0 where
  pub asserted : All (λ t. height t ≤ 995) assertions
  pub low : IsLowProof 995 proof

-- the words of the rules of a check's holes, in file order
abbrev pub hole_rules : {problem : List ℕ} {options : Options} {proof : List ℕ} {v : Verdict} → IsCheckedAs problem options proof v → List (List ℕ)
hole_rules checked = map (λ h. h.rule) (holes_from checked.commands 0 checked.statuses)

-- a check of the two texts has this verdict, and its holes have these rules
pub record IsCheckedWith (problem : List ℕ) (options : Options) (proof : List ℕ) (v : Verdict) (rules : List (List ℕ)) : Type 0 where
  pub checked : IsCheckedAs problem options proof v
  pub holes : hole_rules checked ≡ rules

-- the words of the rules that a judgement names
abbrev pub named_rules : Judgement → List (List ℕ)
named_rules (Holey holes) = map (λ h. h.rule) (map told_hole holes.items)
named_rules j = []

-- a run ends with this status and names holes of these rules, or its pool is full
abbrev pub SaysSo : ℕ → List (List ℕ) → Judgement → Type 0
SaysSo status rules j = (j ≡ PoolFull) ⊎ ((status_of_judgement j ≡ status) × (named_rules j ≡ rules))

-- two runs end with one status and name holes of the same rules, or the pool of one of them is full
abbrev pub SaySame : Judgement → Judgement → Type 0
SaySame first second = (first ≡ PoolFull) ⊎ SaysSo (status_of_judgement first) (named_rules first) second

-- Behind a script, the text stands by these options for a proof that differs from this one in pivots alone.
pub record IsReadUpToPivots (text : List ℕ) (options : Options) (script : Script) (proof : ProofItems Var Term) : Type 0 where
  pub others : ProofItems Var Term
  pub after : Script
  pub stands : StandsForProof text (settings_of options) script others after
  pub same : IsSameUpToPivots proof others
