-- Public. What is so of each command of a proof.
use Rattle.std.specs.Prelude.{◌≡◌, List, [], ⊤}
use Rattle.term_model.specs.Terms.{Var, Term}
use Rattle.rule_model.specs.Proofs.{Step, ProofItems, no_items, with_assume, with_step, with_subproof}

-- of each term that is assumed, of what each anchor binds, and of each step
abbrev pub AreEach : (Term → Type 0) → (List (Var × Term) → Type 0) → (Step Term → Type 0) → ProofItems Var Term → Type 0
AreEach Assumed Bound Stepped no_items = ⊤
AreEach Assumed Bound Stepped (with_assume items id t) = AreEach Assumed Bound Stepped items × Assumed t
AreEach Assumed Bound Stepped (with_step items x) = AreEach Assumed Bound Stepped items × Stepped x
AreEach Assumed Bound Stepped (with_subproof items bindings proof x) =
    AreEach Assumed Bound Stepped items × Bound bindings × AreEach Assumed Bound Stepped proof × Stepped x

-- no step has pivots
abbrev pub HasNoPivots : ProofItems Var Term → Type 0
HasNoPivots proof = AreEach (λ t. ⊤) (λ bindings. ⊤) (λ x. x.pivots ≡ []) proof
