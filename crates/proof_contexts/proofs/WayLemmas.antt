-- Going up to a scope that was entered, and down again.
use Rattle.std.proofs.Common.{◌≡◌, ◌≤◌, ◌++◌, ℕ, List, [], ◌∷◌, Some, refl, ◌∙◌, ap}
use Rattle.rule_model.specs.Proofs.{ProofItems}
use Rattle.rule_model.specs.Reading.{parent_at}
use Rattle.rule_model.specs.Scopes.{subproofs_in}
use Rattle.proof_contexts.specs.Ways.{IsWayDown}

module _ (proof : ProofItems ℕ ℕ) where
  -- one scope further up
  pub way_up : (k p goal : ℕ) (way : List ℕ) → k ≤ subproofs_in proof → parent_at proof k ≡ Some p → IsWayDown proof k goal way → IsWayDown proof p goal (way ++ k ∷ [])
  way_up k p goal [] within parent h = (h, within, (p, parent, refl))
  way_up k p goal (j ∷ way) within parent h = (h.0, h.1, (h.2.0, h.2.1, way_up k p h.2.0 way within parent h.2.2))

  -- the last scope is entered first
  pub way_down : (start goal : ℕ) (way : List ℕ) (k : ℕ) → IsWayDown proof start goal (way ++ k ∷ []) → IsWayDown proof k goal way × (k ≤ subproofs_in proof) × (parent_at proof k ≡ Some start)
  way_down start goal [] k h = (h.0, h.1, h.2.1 ∙ ap (λ (n : ℕ). Some n) h.2.2)
  way_down start goal (j ∷ way) k h =
      let rest = way_down start h.2.0 way k h.2.2 in
      ((h.0, h.1, (h.2.0, h.2.1, rest.0)), rest.1, rest.2)
