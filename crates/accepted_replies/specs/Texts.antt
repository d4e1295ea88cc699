-- Public. What is promised of the bytes of a reply, whose terms are handed in as references.
use Rattle.std.specs.Prelude.{◌≡◌, ◌<◌, ℕ, Bool, false, List, length}
use Rattle.sym_table.specs.Table.{Table}
use Rattle.term_model.specs.Terms.{Var, Term}
use Rattle.term_pool.specs.Views.{TermsView, ReferToAll}
use Rattle.rule_model.specs.Proofs.{ProofItems}
use Rattle.proof_store.specs.Meaning.{StandForItems}
use Rattle.proof_store.specs.Ratios.{fractions}
use Rattle.problem_text.specs.Problems.{StandsForProblem}
use Rattle.problem_text.specs.Scripts.{Script}
use Rattle.accepted_replies.specs.declared.building.Inference as code
use Rattle.accepted_replies.specs.Refutations.{CanBeRead, Refutes, in_check_mode, reply_text, IsAccepted}
use Rattle.accepted_replies.specs.Replies.{Inference, reply_of, IsAnswer, AreAssertionsReadable}

-- Of each proof for which the references stand, behind each script that has the table's sorts.
abbrev pub OfEachProof : Table → TermsView → ProofItems ℕ ℕ → (Script → ProofItems Var Term → Type 0) → Type 0
OfEachProof s v refs P = (script : Script) (of : ProofItems Var Term) → script.sorts ≡ s.sorts → StandForItems s v refs of → P script of

-- the bytes are the proof's text
abbrev pub IsTextOf : Table → TermsView → ProofItems ℕ ℕ → List ℕ → Type 0
IsTextOf s v refs bytes = OfEachProof s v refs (λ script of. bytes ≡ reply_text script of)

-- The bytes are accepted as an answer to each question behind whose script the proof can be read, where it refutes the assertions.
abbrev pub IsAcceptedText : Table → TermsView → ProofItems ℕ ℕ → List ℕ → Type 0
IsAcceptedText s v refs bytes =
    OfEachProof s v refs (λ script of. (question : List ℕ) (unknown_are_holes : Bool) → StandsForProblem question false script →
    CanBeRead script of → Refutes (in_check_mode unknown_are_holes script) of → IsAccepted question unknown_are_holes bytes)

-- what is inferred, as it is handed in
abbrev pub inference_of : code.Inference → Inference ℕ
inference_of i = record { rule = i.rule; clause = i.clause.now; ratios = fractions i.ratios }

-- what is inferred by references stands for what is inferred of terms
pub record StandsForInference (s : Table) (v : TermsView) (i : Inference ℕ) (x : Inference Term) : Type 0 where
  pub rule : i.rule ≡ x.rule
  pub clause : ReferToAll s v i.clause x.clause
  pub ratios : i.ratios ≡ x.ratios

-- Of each reply for which references stand, by what it assumes and infers, behind each script that has the table's sorts.
abbrev pub OfEachReply : Table → TermsView → List ℕ → Inference ℕ → (Script → List Term → Inference Term → Type 0) → Type 0
OfEachReply s v refs i P =
    (script : Script) (assumed : List Term) (x : Inference Term) → script.sorts ≡ s.sorts → ReferToAll s v refs assumed →
    StandsForInference s v i x → P script assumed x

-- the bytes are the reply's text, and this text is longer than so many bytes
abbrev pub IsTextOfReply : Table → TermsView → List ℕ → Inference ℕ → List ℕ → Type 0
IsTextOfReply s v refs i bytes = OfEachReply s v refs i (λ script assumed x. bytes ≡ reply_text script (reply_of assumed x))

abbrev pub IsLongReply : Table → TermsView → List ℕ → Inference ℕ → ℕ → Type 0
IsLongReply s v refs i most = OfEachReply s v refs i (λ script assumed x. most < length (reply_text script (reply_of assumed x)))

-- The bytes are accepted as an answer to each question whose assertions are readable, where the reply is an answer to it.
abbrev pub IsAcceptedReply : Table → TermsView → List ℕ → Inference ℕ → List ℕ → Type 0
IsAcceptedReply s v refs i bytes =
    OfEachReply s v refs i (λ script assumed x. (question : List ℕ) (unknown_are_holes : Bool) → StandsForProblem question false script →
    AreAssertionsReadable script → IsAnswer script assumed x → IsAccepted question unknown_are_holes bytes)
