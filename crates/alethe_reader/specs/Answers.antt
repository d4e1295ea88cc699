-- Public. What a part of the reader returns, and the outcome of its definition.
use Rattle.std.specs.Prelude.{List, Result}
use Rattle.term_model.specs.Terms.{Term}
use Rattle.term_pool.specs.Views.{TermsView}
use Rattle.problem_text.specs.Outcomes.{Outcome}
use Rattle.term_names.specs.declared.faults.ReadFault.{ReadFault}
use Rattle.term_reader.specs.Reading.{IsReadBy, ComesTo}
use Rattle.alethe_text.specs.States.{ProofState}
use Rattle.term_expansion.specs.SymbolsAndTerms.{SymbolsAndTerms}

-- the terms that were read so far
abbrev pub terms_in : ProofState → List Term
terms_in p = p.script.terms

-- a term that was read by the end
abbrev pub WasRead : {A : Type 0} → Outcome ProofState A → Term → Type 0
WasRead o = IsReadBy terms_in o

-- The result is that of the outcome, and this is so for what was read and for the state after it; what was placed are cells of
-- terms that were read.
abbrev pub AnswersAs : {A T : Type 0} → TermsView → SymbolsAndTerms → (T → A → ProofState → Type 0) → Outcome ProofState A
    → Result T ReadFault → Type 0
AnswersAs before w After o result = ComesTo terms_in before w After o result
