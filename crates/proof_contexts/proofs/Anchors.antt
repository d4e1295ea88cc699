-- The anchors that are open in a scope are determined, and scopes stand in ones with smaller numbers.
use Rattle.std.proofs.Common.{◌≡◌, ◌<◌, ◌≤◌, ℕ, zero, suc, List, [], ◌∷◌, Some, None, refl, sym, ◌∙◌, subst, arith}
use Rattle.term_model.proofs.Basics.{same_some}
use Rattle.rule_model.specs.Proofs.{ProofItems}
use Rattle.rule_model.specs.Reading.{parent_at}
use Rattle.rule_model.specs.Scopes.{subproofs_in}
use Rattle.rule_model.proofs.Tree.{scope_closed}
use Rattle.proof_contexts.specs.OpenAnchors.{AreOpenIn}

pub none_some : {X : Type 0} {a : X} → None ≡ Some a → ⊥
none_some e = cc

pub open_same : {V T : Type 0} (proof : ProofItems V T) (k : ℕ) (xs bs : List (List (V × T))) → AreOpenIn proof k xs → AreOpenIn proof k bs → xs ≡ bs
open_same proof k [] [] h g = refl
open_same proof k [] (b ∷ bs) h g = absurd (none_some (sym h ∙ g.1))
open_same proof k (a ∷ xs) [] h g = absurd (none_some (sym g ∙ h.1))
open_same {V} {T} proof k (a ∷ xs) (b ∷ bs) h g =
    let p = same_some (sym h.1 ∙ g.1) in
    let rest = open_same proof g.0 xs bs (subst (λ q. AreOpenIn proof q xs) p h.3) g.3 in
    let first = sym h.2 ∙ g.2 in cc

-- a scope with a number over 0 stands in one with a smaller number
pub has_parent : {V T : Type 0} (proof : ProofItems V T) (k : ℕ) → 0 < k → k ≤ subproofs_in proof → (p : ℕ) × (parent_at proof k ≡ Some p) × (p < k)
has_parent proof k above within = let c = scope_closed proof k above within in (_, c.3, c.4)

pub parent_less : {V T : Type 0} (proof : ProofItems V T) (k p : ℕ) → k ≤ subproofs_in proof → parent_at proof k ≡ Some p → p < k
parent_less proof zero p within e = absurd (none_some e)
parent_less proof (suc k) p within e =
    let c = has_parent proof (suc k) (omega arith) within in
    let same = same_some (sym c.1 ∙ e) in
    let less = c.2 in omega arith

pub some_parent : {V T : Type 0} (proof : ProofItems V T) (k : ℕ) → 0 < k → k ≤ subproofs_in proof → parent_at proof k ≡ None → ⊥
some_parent proof k above within none = none_some (sym none ∙ (has_parent proof k above within).1)
