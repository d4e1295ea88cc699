-- Private. Pivots that are found in premises as they are spelled, and links to premises.
use Rattle.std.specs.Prelude.{◌≡◌, ◌⊎◌, ℕ, Bool, List, Contains}
use Rattle.std.specs.Borrow.{Bor}
use Rattle.std.specs.List.{AllZip}
use Rattle.sym_table.specs.Table.{Table}
use Rattle.term_model.specs.Terms.{Term}
use Rattle.term_parts.specs.Judging.{ReferToClauses}
use Rattle.term_parts.specs.Parts.{StandsUnder}
use Rattle.term_pool.specs.Views.{TermsView, RefersTo, ReferToAll}
use Rattle.proof_store.specs.Meaning.{IsPivotOf}
use Rattle.proof_store.specs.declared.added.Link.{Link}
use Rattle.rule_model.specs.declared.rules.Mode.{Mode}
use Rattle.rule_model.specs.declared.rules.Rule.{Rule}
use Rattle.rule_model.specs.Conditions.{Met}
use Rattle.rule_model.specs.Judged.{Judged}

-- the reference of a literal, or of what the literal negates
abbrev pub IsPivotOn : Table → TermsView → ℕ → ℕ → Type 0
IsPivotOn s v literal p = (p ≡ literal) ⊎ ((t : Term) → RefersTo s v literal t → StandsUnder s v p t)

-- the same of some literal of a clause
pub record IsPivotIn (s : Table) (v : TermsView) (clause : List ℕ) (p : ℕ) : Type 0 where
  pub literal : ℕ
  pub is : Contains clause literal
  pub on : IsPivotOn s v literal p

-- and of some clause
pub record IsPivotOfSome (s : Table) (v : TermsView) (clauses : List (Bor (List ℕ))) (p : ℕ) : Type 0 where
  pub clause : Bor (List ℕ)
  pub is : Contains clauses clause
  pub pivot : IsPivotIn s v clause.now p

-- with the pivots, a resolution of the premises to the clause meets its condition in strict mode
abbrev pub AreMetWith : Table → TermsView → List (Bor (List ℕ)) → List ℕ → List (ℕ × Bool) → Type 0
AreMetWith s v premises clause pivots =
    (j : Judged) → j.mode ≡ Mode.Strict → j.rule ≡ Rule.Resolution → ReferToClauses s v premises j.premises → ReferToAll s v clause j.clause
    → AllZip (IsPivotOf s v) pivots j.pivots → Met j

-- a link to a command of the proof
abbrev pub link_to : ℕ → Link
link_to i = Link.Old i
