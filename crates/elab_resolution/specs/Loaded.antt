-- Private. Clauses as the numbers of their literals, and added steps for planned ones.
use Rattle.std.specs.Prelude.{◌≡◌, ℕ, Bool, false, List, map, slice_index_or, Some}
use Rattle.std.specs.Borrow.{Bor}
use Rattle.std.specs.Global.{Vec}
use Rattle.std.specs.List.{AllZip}
use Rattle.clause_chain.specs.declared.signed_term.SignedTerm.{SignedTerm}
use Rattle.chain_plan.specs.Plans.{PlannedStep}
use Rattle.chain_plan.specs.declared.plan.Source.{Source}
use Rattle.proof_store.specs.AddedSteps.{AddedStep}
use Rattle.proof_store.specs.declared.added.Link.{Link}
use Rattle.elab_resolution.specs.Numbered.{number_in}
use Rattle.elab_resolution.specs.declared.numbering.Numbering.{Numbering}

-- the item is the number of the reference
pub record IsItemOf (n : Numbering) (r : ℕ) (x : SignedTerm) : Type 0 where
  pub unsigned : x.negative ≡ false
  pub number : number_in n r ≡ Some x.term

abbrev pub AreItemsOf : Numbering → Bor (List ℕ) → Vec SignedTerm → Type 0
AreItemsOf n clause items = AllZip (IsItemOf n) clause.now items.items

-- the reference of a number; what has none gets that of `true`
abbrev pub reference_or : List ℕ → ℕ → ℕ → ℕ
reference_or refs truth k = slice_index_or refs k truth

-- a planned premise as a link: the premise of the command at its place, or the added step with the same number
abbrev pub link_for : List ℕ → Source → Link
link_for premises (Source.Given j) = Link.Old (slice_index_or premises j 0)
link_for premises (Source.Added k) = Link.New k

abbrev pub pivot_for : List ℕ → ℕ → ℕ × Bool → ℕ × Bool
pivot_for refs truth p = (reference_or refs truth p.0, p.1)

-- a planned step over references
abbrev pub added_for : List ℕ → ℕ → List ℕ → PlannedStep → AddedStep
added_for refs truth premises p = record {
  rule = p.rule;
  clause = map (λ x. reference_or refs truth x.term) p.clause;
  premises = map (link_for premises) p.premises;
  pivots = map (pivot_for refs truth) p.pivots;
}

-- the reference has a number
pub record HasNumber (n : Numbering) (r : ℕ) : Type 0 where
  pub number : ℕ
  pub is : number_in n r ≡ Some number
