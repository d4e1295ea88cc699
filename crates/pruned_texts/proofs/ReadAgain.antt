-- The check of two texts that were read speaks of what was read.
use Rattle.std.proofs.Common.{◌≡◌, inl, inr, ℕ, Bool, List, [], ◌∷◌, Contains, refl, sym, subst}
use Rattle.std.specs.List.{AllZip}
use Rattle.sym_table.specs.Table.{Table}
use Rattle.term_model.proofs.Lists.{contains_none, contains_cases}
use Rattle.term_model.specs.Terms.{Var, Term}
use Rattle.term_pool.specs.Views.{TermsView, RefersTo, ReferToAll}
use Rattle.term_reader.specs.ProblemViews.{IsProblemOf}
use Rattle.proof_store.specs.Meaning.{StandForItems}
use Rattle.rule_model.specs.Proofs.{ProofItems}
use Rattle.problem_text.specs.Problems.{StandsForProblem}
use Rattle.problem_text.specs.Scripts.{Script}
use Rattle.alethe_text.specs.ProofTexts.{StandsForProof}
use Rattle.alethe_text.specs.States.{ProofSettings}
use Rattle.command_words.specs.declared.request.Options.{Options}
use Rattle.judged_texts.specs.declared.texts.Both.{Both}
use Rattle.judged_texts.specs.Reading.{settings_of}
use Rattle.pruned_texts.specs.Needing.{IsValidRead}

-- a text stands for one script, and for one proof behind it
abbrev pub OneScript : Type 0
OneScript = (source : List ℕ) (replaces : Bool) (s t : Script) → StandsForProblem source replaces s → StandsForProblem source replaces t → s ≡ t

abbrev pub OneProof : Type 0
OneProof =
    (source : List ℕ) (settings : ProofSettings) (before : Script) (p q : ProofItems Var Term) (s t : Script) →
    StandsForProof source settings before p s → StandsForProof source settings before q t → (p ≡ q) × (s ≡ t)

module _ (one_script : OneScript) (one_proof : OneProof) (problem : List ℕ) (options : Options) (text : List ℕ) (s : Table) (v : TermsView) (both : Both)
    (h : IsValidRead problem options text s v both) where
  same_script : h.checked.script ≡ h.read.read.script
  same_script = one_script problem options.replaces_lets h.checked.script h.read.read.script h.checked.problem_text h.read.read.problem_text

  same_proof : h.checked.commands ≡ h.read.read.read.proof
  same_proof =
      let there : StandsForProof text (settings_of options) h.checked.script h.read.read.read.proof h.read.read.read.after =
      subst (λ sc. StandsForProof text (settings_of options) sc h.read.read.read.proof h.read.read.read.after) (sym same_script) h.read.read.read.stands in
      (one_proof text (settings_of options) h.checked.script h.checked.commands h.read.read.read.proof h.checked.after h.read.read.read.after
      h.checked.proof_text there).0

  pub stand_for : StandForItems s v both.proof h.checked.commands
  stand_for = subst (StandForItems s v both.proof) (sym same_proof) h.read.read.read.refer

  pub refer_to : ReferToAll s v both.problem.assertions h.checked.script.assertions
  refer_to = subst (λ (sc : Script). ReferToAll s v both.problem.assertions sc.assertions) (sym same_script) h.read.read.assertions

  pub is_problem : IsProblemOf s v both.problem h.checked.script
  is_problem = subst (IsProblemOf s v both.problem) (sym same_script) h.read.is

-- a term for which one of these references stands
pub referred : (s : Table) (v : TermsView) (rs : List ℕ) (ts : List Term) (t : Term) → AllZip (RefersTo s v) rs ts → Contains ts t → (r : ℕ) × RefersTo s v r t
referred s v [] [] t zip has = absurd (contains_none t has)
referred s v [] (u ∷ ts) t zip has = absurd zip
referred s v (r ∷ rs) [] t zip has = absurd zip
referred s v (r ∷ rs) (u ∷ ts) t zip has =
    elim (contains_cases u t ts has) [
      | inl e ↦ (r, subst (λ x. RefersTo s v r x) e zip.0)
      | inr later ↦ referred s v rs ts t zip.1 later
    ]

-- what stands for an empty clause is empty
pub none_there : (s : Table) (v : TermsView) (rs : List ℕ) (ts : List Term) → AllZip (RefersTo s v) rs ts → ts ≡ [] → rs ≡ []
none_there s v [] ts zip e = refl
none_there s v (r ∷ rs) [] zip e = absurd zip
none_there s v (r ∷ rs) (t ∷ ts) zip e = absurd (cc)
