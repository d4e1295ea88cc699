-- Private. References for what assertions deny, and what ways give to each script for whose assertions references stand.
use Rattle.std.specs.Prelude.{◌≡◌, ℕ, List, map, Option, Some, None}
use Rattle.sym_table.specs.Table.{Table}
use Rattle.term_model.specs.Terms.{Term, Var, not_of}
use Rattle.term_pool.specs.Views.{TermsView, ReferToAll}
use Rattle.rule_model.specs.Proofs.{ProofItems}
use Rattle.problem_text.specs.Scripts.{Script}
use Rattle.accepted_replies.specs.Refutations.{reply_text}
use Rattle.rule_filler.specs.Filling.{denied_clause, Way, ways, IsOpen, IsClosed, IsByFirst}

-- the references stand for the assertions that are negations, and for what they negate
pub record StandForDenials (s : Table) (v : TermsView) (assumed clause : List ℕ) (assertions : List Term) : Type 0 where
  pub assumed_refer : ReferToAll s v assumed (map not_of (denied_clause assertions))
  pub clause_refer : ReferToAll s v clause (denied_clause assertions)

-- the text of a proof of some kind, and nothing where no proof is of this kind
abbrev pub IsTextOfSome : Script → (ProofItems Var Term → Type 0) → Option (List ℕ) → Type 0
IsTextOfSome script Is (Some bytes) = (proof : ProofItems Var Term) × Is proof × (bytes ≡ reply_text script proof)
IsTextOfSome script Is None = (proof : ProofItems Var Term) → Is proof → ⊥

-- what a way gives to each script that has the table's sorts, and for whose denials the references stand
abbrev pub IsGivenBy : Way → Table → TermsView → List ℕ → List ℕ → Option (List ℕ) → Type 0
IsGivenBy way s v assumed clause found =
    (script : Script) → script.sorts ≡ s.sorts → StandForDenials s v assumed clause script.assertions → IsTextOfSome script (IsOpen script way) found

-- what the first way that is open gives to each script that has the table's sorts, and for whose assertions the references stand
abbrev pub IsGivenByFirst : Table → TermsView → List ℕ → Option (List ℕ) → Type 0
IsGivenByFirst s v refs found =
    (script : Script) → script.sorts ≡ s.sorts → ReferToAll s v refs script.assertions → IsTextOfSome script (IsByFirst ways script) found
