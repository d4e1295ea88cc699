-- Public. Which proof a filler by rules replies to a question about a hole, and where none: the ways to show the hole's clause, in their
-- order, and the first of them that is open.
use Rattle.std.specs.Prelude.{◌≡◌, ◌⊎◌, ◌≤◌, ℕ, false, List, [], ◌∷◌, length, Option, Some, None}
use Rattle.std.specs.List.{filter_map}
use Rattle.term_model.specs.declared.symbols.Op.{Op}
use Rattle.term_model.specs.Terms.{Var, Term, operation, no_terms, term}
use Rattle.rule_model.specs.Proofs.{ProofItems}
use Rattle.problem_text.specs.Problems.{StandsForProblem}
use Rattle.problem_text.specs.Scripts.{Script}
use Rattle.accepted_replies.specs.Refutations.{reply_text}
use Rattle.hole_fillers.specs.Questions.{most_bytes}
use Rattle.question_reading.specs.Questions.{IsLeftOut}
use Rattle.rule_filler.specs.OneRule.{IsShownByRule}

-- what an assertion denies, where it is a negation
abbrev pub denied : Term → Option Term
denied (operation Op.Not (term l no_terms)) = Some l
denied _ = None

-- the clause of a hole, as a question says it: what its assertions deny, in their order
abbrev pub denied_clause : List Term → List Term
denied_clause assertions = filter_map denied assertions

-- the ways to show a clause, of which there is one so far: by one rule
pub data Way : Type 0 where
  one_rule : Way

-- in this order they are tried
abbrev pub ways : List Way
ways = one_rule ∷ []

-- where a way shows a clause, and by which proof, which begins with the negations of the clause's literals
abbrev pub Shows : Way → List Term → ProofItems Var Term → Type 0
Shows one_rule clause proof = IsShownByRule clause proof

-- The way is open: by this proof it shows the clause that the script's assertions deny, and the proof's text is not too long.
pub record IsOpen (script : Script) (way : Way) (proof : ProofItems Var Term) : Type 0 where
  pub shows : Shows way (denied_clause script.assertions) proof
  pub short : length (reply_text script proof) ≤ most_bytes

-- it is open by no proof
abbrev pub IsClosed : Script → Way → Type 0
IsClosed script way = (proof : ProofItems Var Term) → IsOpen script way proof → ⊥

-- the proof is by the first way of a list that is open
abbrev pub IsByFirst : List Way → Script → ProofItems Var Term → Type 0
IsByFirst [] script proof = ⊥
IsByFirst (way ∷ later) script proof = IsOpen script way proof ⊎ (IsClosed script way × IsByFirst later script proof)

-- The bytes are the reply to a question: it is not left out, and they are the text of the proof by the first way that is open.
pub record IsReplyTo (question bytes : List ℕ) : Type 0 where
  pub script : Script
  pub stands : StandsForProblem question false script
  pub not_left_out : IsLeftOut question → ⊥
  pub proof : ProofItems Var Term
  pub by_first : IsByFirst ways script proof
  pub text : bytes ≡ reply_text script proof

-- what is replied to a question: its reply, and nothing exactly where it has none
abbrev pub IsAnswerTo : List ℕ → Option (List ℕ) → Type 0
IsAnswerTo question (Some bytes) = IsReplyTo question bytes
IsAnswerTo question None = (bytes : List ℕ) → IsReplyTo question bytes → ⊥
