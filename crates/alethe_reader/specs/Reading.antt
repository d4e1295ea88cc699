-- Public. What the reader of proofs has read, and what counts as read.
use Rattle.std.specs.Prelude.{ℕ, List, Contains}
use Rattle.sexpr.specs.Items.{Items, StandsForItems}
use Rattle.sym_table.specs.Table.{Table}
use Rattle.term_model.specs.Terms.{Var, Term}
use Rattle.term_pool.specs.Views.{TermsView}
use Rattle.rule_model.specs.Proofs.{ProofItems as Proof}
use Rattle.proof_store.specs.Meaning.{StandForItems}
use Rattle.problem_text.specs.Scripts.{Script}
use Rattle.alethe_text.specs.ProofTexts.{proof_from, StandsForProof}
use Rattle.alethe_text.specs.States.{ProofSettings, unread}

-- A term that counts as read of the text, behind a problem with this script: one that was read up to the text's end or its
-- first fault.
pub record IsCountedOfProof (source : List ℕ) (settings : ProofSettings) (before : Script) (t : Term) : Type 0 where
  pub items : Items
  pub nested : StandsForItems source items
  pub read : Contains (proof_from settings items (unread before)).state.script.terms t

-- The proof over references stands for the one for which the text stands behind a problem with this script.
pub record IsProofOf (source : List ℕ) (settings : ProofSettings) (before : Script) (s : Table) (v : TermsView) (refs : Proof ℕ ℕ) : Type 0 where
  pub proof : Proof Var Term
  pub after : Script
  pub stands : StandsForProof source settings before proof after
  pub refer : StandForItems s v refs proof
