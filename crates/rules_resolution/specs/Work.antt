-- Private. What is known while literals are made false.
use Rattle.std.specs.Prelude.{◌≡◌, ℕ, ◌<◌, Bool, false, List, [], ◌∷◌, ◌++◌, length, map, slice_index_or}
use Rattle.rule_model.specs.Consequence.{literal_of}
use Rattle.rule_model.specs.Literals.{negation_of}
use Rattle.rules_resolution.specs.Falsity.{is_false_in}
use Rattle.rules_resolution.specs.Literal.{Lit}
use Rattle.rules_resolution.specs.declared.occurrence.Occurrence.{Occurrence}
use Rattle.rules_resolution.specs.declared.standing.Standing.{Standing}
use Rattle.rules_resolution.specs.Occurrence.{literal_in}
use Rattle.rules_resolution.specs.Table.{IsOccurrenceTable}
use Rattle.rules_resolution.specs.Standing.{IsTallied}

-- the first occurrence of each literal is marked where the literal is false
pub record IsMarked (falses : List Lit) (table : List Occurrence) (marks : List Bool) : Type 0 where
  pub size : length marks ≡ length table
  pub first : (k : ℕ) (d : Occurrence) → k < length table →
      ((i : ℕ) (e : Occurrence) → i < k → literal_in (slice_index_or table i e) ≡ literal_in (slice_index_or table k d) → ⊥) →
      slice_index_or marks k false ≡ is_false_in falses (literal_in (slice_index_or table k d))

-- marks and standings are those of these false literals
pub record IsState (premises : List (List Lit)) (goal falses : List Lit) (table : List Occurrence) (marks : List Bool)
    (standings : List Standing) : Type 0 where
  pub is_table : IsOccurrenceTable premises goal table
  pub marked : IsMarked falses table marks
  pub tallied : IsTallied premises falses table standings

abbrev pub IsSomeState : List Occurrence → List Bool → List Standing → Type 0
IsSomeState table marks standings =
    (premises : List (List Lit)) × (goal : List Lit) × (falses : List Lit) × IsState premises goal falses table marks standings

-- from any state to that where these literals are false too
abbrev pub FalsifiesAll : List Lit → List Occurrence → List Bool → List Standing → List Bool → List Standing → Type 0
FalsifiesAll literals table marks standings new_marks new_standings =
    (premises : List (List Lit)) (goal falses : List Lit) → IsState premises goal falses table marks standings
    → IsState premises goal (falses ++ literals) table new_marks new_standings

abbrev pub Falsifies : Lit → List Occurrence → List Bool → List Standing → List Bool → List Standing → Type 0
Falsifies literal = FalsifiesAll (literal ∷ [])

-- what is false once these literals of the premises are true
abbrev pub falses_of : List (List Lit) → List Lit → List (ℕ × ℕ) → List Lit
falses_of premises goal units = goal ++ map (λ u. negation_of (literal_of premises u)) units
