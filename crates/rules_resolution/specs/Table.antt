-- Private. All occurrences, in order, in which no premise has a literal twice.
use Rattle.std.specs.Prelude.{◌≡◌, ℕ, ◌+◌, ◌<◌, ◌≤◌, Bool, true, false, List, [], ◌∷◌, ◌++◌, length, slice_index_or, All}
use Rattle.std.specs.List.{Any, AllPairs}
use Rattle.rule_model.specs.Consequence.{literal_at, premise_at}
use Rattle.rule_model.specs.declared.literal.Literal.TheVariants.{Plain, Always, Never}
use Rattle.rules_resolution.specs.Literal.{Lit}
use Rattle.rules_resolution.specs.declared.occurrence.Occurrence.{Occurrence}
use Rattle.rules_resolution.specs.Occurrence.{literal_in, rank_of, is_of}

-- the occurrence of a literal at place k of premise p, if it is no constant
abbrev pub occurrence_at : ℕ → ℕ → Lit → List Occurrence
occurrence_at p k (Plain a s) = record { atom = a; negative = s; premise = p; place = k } ∷ []
occurrence_at p k Always = []
occurrence_at p k Never = []

-- those of the literals of premise p, from place k on
abbrev pub occurrences_of : ℕ → ℕ → List Lit → List Occurrence
occurrences_of p k [] = []
occurrences_of p k (l ∷ ls) = occurrence_at p k l ++ occurrences_of p (k + 1) ls

-- those of the conclusion, all at place 0 of a premise p
abbrev pub goal_occurrences : ℕ → List Lit → List Occurrence
goal_occurrences p [] = []
goal_occurrences p (l ∷ ls) = occurrence_at p 0 l ++ goal_occurrences p ls

-- those of the premises, from premise p on
abbrev pub occurrences_in : ℕ → List (List Lit) → List Occurrence
occurrences_in p [] = []
occurrences_in p (c ∷ cs) = occurrences_of p 0 c ++ occurrences_in (p + 1) cs

abbrev pub all_occurrences : List (List Lit) → List Lit → List Occurrence
all_occurrences premises goal = occurrences_in 0 premises ++ goal_occurrences (length premises) goal

-- the ranks rise from each occurrence to the next
abbrev pub IsRising : List Occurrence → Type 0
IsRising table = AllPairs (λ x y. rank_of x < rank_of y) table

-- what an occurrence says is so; that of the conclusion stands after all premises
pub record StandsIn (premises : List (List Lit)) (o : Occurrence) : Type 0 where
  pub premise : o.premise < length premises + 1
  pub place : o.premise < length premises → o.place < length (premise_at premises o.premise)
  pub literal : o.premise < length premises → literal_at (premise_at premises o.premise) o.place ≡ literal_in o

-- each literal of the conclusion that is no constant occurs
abbrev pub HasGoal : List Lit → List Occurrence → Type 0
HasGoal goal table = (k a : ℕ) (s : Bool) → k < length goal → literal_at goal k ≡ Plain a s → Any (λ o. literal_in o ≡ Plain a s) table

pub record IsOccurrenceTable (premises : List (List Lit)) (goal : List Lit) (table : List Occurrence) : Type 0 where
  pub rising : IsRising table
  pub sound : All (StandsIn premises) table
  pub premises_in : (p k a : ℕ) (s : Bool) → p < length premises → k < length (premise_at premises p) → literal_at (premise_at premises p) k ≡ Plain a s →
      Any (λ o. (o.premise ≡ p) × (literal_in o ≡ Plain a s)) table
  pub goal_in : HasGoal goal table

-- from place i on the ranks are not below this one, and before it they are
pub record IsFirstOfRank (table : List Occurrence) (rank i : ℕ) : Type 0 where
  pub within : i ≤ length table
  pub before : (k : ℕ) (d : Occurrence) → k < i → rank_of (slice_index_or table k d) < rank
  pub from : (k : ℕ) (d : Occurrence) → i ≤ k → k < length table → rank ≤ rank_of (slice_index_or table k d)

-- the first occurrence of a literal
pub record IsLeader (a : ℕ) (s : Bool) (table : List Occurrence) (i : ℕ) : Type 0 where
  pub within : i < length table
  pub is : (d : Occurrence) → is_of a s (slice_index_or table i d) ≡ true
  pub before : (k : ℕ) (d : Occurrence) → k < i → is_of a s (slice_index_or table k d) ≡ false

-- no occurrence of the literal
abbrev pub HasNone : ℕ → Bool → List Occurrence → Type 0
HasNone a s table = (k : ℕ) (d : Occurrence) → k < length table → is_of a s (slice_index_or table k d) ≡ false
