-- Private. Tasks one after another, and what is so of a leaf.
use Rattle.std.proofs.Common.{◌≡◌, ℕ, ◌<◌, List, [], ◌∷◌, ◌++◌, ap, ◌∙◌, subst, length}
use Rattle.std.proofs.lemmas.List.{append_assoc}
use Rattle.std.proofs.lemmas.Option.{slice_get_within}
use Rattle.std.specs.Prelude.{IsSomeAnd}
use Rattle.sym_table.specs.Leaf.{Leaf}
use Rattle.sym_table.specs.Table.{Table, IsLeaf, LeafMeets}
use Rattle.term_walk.specs.declared.tasks.Task.{Task}

-- tasks one after another
pub two_more : (old first new : List Task) (a b : Task) → first ≡ old ++ a ∷ [] → new ≡ first ++ b ∷ [] → new ≡ old ++ (a ∷ b ∷ [])
two_more old first new a b e f = f ∙ (ap (λ ts. ts ++ b ∷ []) e ∙ append_assoc old (a ∷ []) (b ∷ []))

-- what is so of the leaf
pub of_leaf : (s : Table) (k : ℕ) (l : Leaf) (P : Leaf → Type 0) → LeafMeets s k P → IsLeaf s k l → P l
of_leaf s k l P meets is = subst (λ o. IsSomeAnd o P) is meets

pub leaf_within : (s : Table) (k : ℕ) (l : Leaf) → IsLeaf s k l → k < length s.leaves
leaf_within s k l is = slice_get_within s.leaves k l is
