-- Public. Which proof a filler by linear arithmetic replies to a question about a hole, and where none: a step of la_generic by a plain
-- combination of the rows that the question's assertions give.
use Rattle.std.specs.Prelude.{◌≡◌, ℕ, ℤ, false, List, map, Option, Some, None}
use Rattle.term_model.specs.Terms.{Var, Term, not_of}
use Rattle.rule_model.specs.declared.rules.Rule.{Rule}
use Rattle.rule_model.specs.Proofs.{ProofItems}
use Rattle.problem_text.specs.Problems.{StandsForProblem}
use Rattle.problem_text.specs.Scripts.{Script}
use Rattle.lia_rows.specs.Combinations.{AreNarrow, AreSearched, IsPlainCombination}
use Rattle.lia_rows.specs.Rows.{Row, AreRowsOf}
use Rattle.lia_rows.specs.Steps.{used, whole_fraction}
use Rattle.accepted_replies.specs.Refutations.{reply_text}
use Rattle.accepted_replies.specs.Replies.{Inference, reply_of}
use Rattle.question_reading.specs.Questions.{IsLeftOut}

-- the assertions whose multiplier is not 0
abbrev pub assumed_by : List Row → List ℤ → List Term
assumed_by rows ms = map (λ (row : Row). row.assertion) (used ms rows)

-- that not all of them are true, by la_generic with these multipliers as coefficients
abbrev pub inference_by : List Row → List ℤ → Inference Term
inference_by rows ms = record {
  rule = Rule.LaGeneric;
  clause = map not_of (assumed_by rows ms);
  ratios = Some (map whole_fraction (used ms ms));
}

-- the reply: it assumes these assertions, infers this, and resolves both to the empty clause
abbrev pub proof_by : List Row → List ℤ → ProofItems Var Term
proof_by rows ms = reply_of (assumed_by rows ms) (inference_by rows ms)

-- the rows are those of the assertions, are searched for a plain combination, and the multipliers are one
pub record AreRefutedBy (assertions : List Term) (rows : List Row) (ms : List ℤ) : Type 0 where
  pub given : AreRowsOf assertions rows
  pub searched : AreSearched rows
  pub combination : IsPlainCombination rows ms

-- The bytes are a reply to a question: it is not left out, and they are the text of the proof by such a combination, with numbers of at most
-- 2^105.
pub record IsReplyTo (question bytes : List ℕ) : Type 0 where
  pub script : Script
  pub stands : StandsForProblem question false script
  pub not_left_out : IsLeftOut question → ⊥
  pub rows : List Row
  pub multipliers : List ℤ
  pub refuted : AreRefutedBy script.assertions rows multipliers
  pub narrow : AreNarrow multipliers
  pub text : bytes ≡ reply_text script (proof_by rows multipliers)

-- Why nothing is replied: the question is left out, or its assertions are refuted by no combination, of any size, of rows that are searched.
pub data IsUnanswered (question : List ℕ) : Type 0 where
  left_out : IsLeftOut question → IsUnanswered question
  unrefuted :
      (script : Script) → StandsForProblem question false script
      → ((rows : List Row) (ms : List ℤ) → AreRefutedBy script.assertions rows ms → ⊥) → IsUnanswered question

-- what is replied to a question: a reply, and nothing where there is a cause
abbrev pub IsAnswerTo : List ℕ → Option (List ℕ) → Type 0
IsAnswerTo question (Some bytes) = IsReplyTo question bytes
IsAnswerTo question None = IsUnanswered question
