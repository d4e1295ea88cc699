-- The terms of a proof that a text stands for are well sorted, and the open anchors bind their free variables.
use Rattle.std.specs.Prelude.{⊤}
use Rattle.std.proofs.Common.{ℕ, List}
use Rattle.term_model.specs.Terms.{Var, Term}
use Rattle.rule_model.specs.Proofs.{ProofItems as Proof, no_items, with_assume, with_step, with_subproof}
use Rattle.rule_model.specs.Scopes.{Nesting, outermost, inner}
use Rattle.rule_model.specs.Truth.{IsLiteralIn, IsBindingIn, AreWellSorted, IsWellSortedProof}
use Rattle.problem_text.specs.Scripts.{Script}
use Rattle.problem_text.specs.Soundness.{IsSound, HasScopedTerms}
use Rattle.alethe_text.specs.ProofTexts.{StandsForProof}
use Rattle.alethe_text.specs.States.{ProofSettings}
use Rattle.alethe_text.proofs.KeptProofs.{BindingsAre, AreOf, text_keeps}
use Rattle.judged_texts.proofs.ScopedTerms.{IsGood, IsTermIn, scoped_terms}

scoped_bindings : (settings : ProofSettings) → BindingsAre settings IsGood IsTermIn IsBindingIn
scoped_bindings settings = record {
  binding = λ nesting name t h low. record { sort = h.sort; closed = h.closed };
  name_added = λ name s h. record {
    sound = record { named = h.sound.named; macros = h.sound.macros; assertions = h.sound.assertions };
    scoped = record { macros = h.scoped.macros; assertions = h.scoped.assertions };
  };
  term_added = λ t s h. record {
    sound = record { named = h.sound.named; macros = h.sound.macros; assertions = h.sound.assertions };
    scoped = record { macros = h.scoped.macros; assertions = h.scoped.assertions };
  };
}

are_well_sorted : (nesting : Nesting Var Term) (items : Proof Var Term) → AreOf IsLiteralIn (λ _ _. ⊤) IsBindingIn nesting items
    → AreWellSorted nesting items
are_well_sorted nesting no_items h = tt
are_well_sorted nesting (with_assume items id t) h = (are_well_sorted nesting items h.0, h.1)
are_well_sorted nesting (with_step items s) h = (are_well_sorted nesting items h.0, h.1.clause)
are_well_sorted nesting (with_subproof items bindings proof s) h =
    (are_well_sorted nesting items h.0, h.1, are_well_sorted (inner nesting items bindings s) proof h.2, h.3.clause)

-- what a text stands for behind a script that is sound, and whose terms are scoped
pub text_scoped : (source : List ℕ) (settings : ProofSettings) (before : Script) (proof : Proof Var Term) (after : Script) → IsSound before
    → HasScopedTerms before → StandsForProof source settings before proof after → IsWellSortedProof proof
text_scoped source settings before proof after sound scoped h =
    are_well_sorted outermost proof (text_keeps (scoped_terms settings) (scoped_bindings settings) (record { sound = sound; scoped = scoped }) h).0
