-- Private. What a step of a chain of first rows goes on to.
use Rattle.std.specs.Prelude.{◌≡◌, ℕ, List, Bool, true, false, Some}
use Rattle.sym_table.specs.Table.{Table}
use Rattle.term_model.specs.Terms.{Term}
use Rattle.term_pool.specs.Views.{TermsView}
use Rattle.rule_model.specs.declared.letter.Letter.{Letter}
use Rattle.rule_model.specs.Rewriting.{RewriteRow, IsFirstFit}
use Rattle.rule_model.specs.Simplify.{bool_simplify}
use Rattle.schema_match.specs.Letters.{slot, Agrees}
use Rattle.schema_match.specs.declared.letters.Letters.{Letters}
use Rattle.rules_simplify.specs.declared.rewrites.Application.{Application}
use Rattle.rules_simplify.specs.declared.rewrites.Step.{Step}
use Rattle.rules_simplify.specs.declared.rewrites.Step.TheVariants.{Ends, Goes, Conjoins}
use Rattle.rules_simplify.specs.Chains.{StandsForApplication}
use Rattle.rules_simplify.specs.Conjoined.{IsFrom}

abbrev pub step_where : Bool → Step
step_where true = Goes
step_where false = Ends

-- The chain is at a term: it fits no row, or is the application that was made, or an implication whose premise is an `and`.
abbrev pub IsStepTo : Table → TermsView → List RewriteRow → Application → Term → Step → Type 0
IsStepTo s v rows at t Ends = (u : Term) → ¬ IsFirstFit rows t u
IsStepTo s v rows at t Goes = StandsForApplication s v at t
IsStepTo s v rows at t (Conjoins from) = (rows ≡ bool_simplify) × IsFrom s v from t

-- A and B stand for terms
pub record IsNegationSettled (s : Table) (v : TermsView) (letters : Letters) : Type 0 where
  pub terms : Letter → Term
  pub agrees : Agrees s v letters terms
  pub first : ℕ
  pub second : ℕ
  pub has_first : slot letters Letter.A ≡ Some first
  pub has_second : slot letters Letter.B ≡ Some second

-- the step is from what A, B and C stand for, if they do
abbrev pub IsConjoiningStep : Letters → Step → Type 0
IsConjoiningStep letters step =
    (first second conclusion : ℕ) → slot letters Letter.A ≡ Some first → slot letters Letter.B ≡ Some second → slot letters Letter.C ≡ Some conclusion →
    step ≡ Conjoins (record { first = first; second = second; conclusion = conclusion })
