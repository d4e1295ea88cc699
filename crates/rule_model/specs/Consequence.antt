-- Public. Unit consequence over any atoms (Alethe specification, the rules `resolution` and `th_resolution`): all
-- literals of the conclusion are made false, and then literals of premises true, each the only one of its premise that
-- is not false, until all literals of some premise are false.
use Rattle.std.specs.Prelude.{◌≡◌, ◌⊎◌, ◌<◌, ℕ, List, [], ◌∷◌, ◌++◌, length, slice_index_or, All, Contains}
use Rattle.rule_model.specs.declared.literal.Literal.{Literal}
use Rattle.rule_model.specs.declared.literal.Literal.TheVariants.{Never}
use Rattle.rule_model.specs.Literals.{negation_of}

-- a literal is false that is the constant `false`, or that was made false
abbrev pub IsFalse : {A : Type 0} → List (Literal A) → Literal A → Type 0
IsFalse falses l = (l ≡ Never) ⊎ Contains falses l

-- the literal at a place of a clause, and the clause at a place
abbrev pub literal_at : {A : Type 0} → List (Literal A) → ℕ → Literal A
literal_at clause k = slice_index_or clause k Never

abbrev pub premise_at : {A : Type 0} → List (List (Literal A)) → ℕ → List (Literal A)
premise_at premises i = slice_index_or premises i []

-- the literal at place j of the clause is the only one that is not false, where it may be repeated
pub record IsOnly {A : Type 0} (falses clause : List (Literal A)) (j : ℕ) : Type 0 where
  pub place : j < length clause
  pub not_false : ¬ IsFalse falses (literal_at clause j)
  pub others : All (λ l. IsFalse falses l ⊎ (l ≡ literal_at clause j)) clause

-- of premise i the literal at place j is the only one that is not false
pub record IsUnit {A : Type 0} (premises : List (List (Literal A))) (falses : List (Literal A)) (i j : ℕ) : Type 0 where
  pub place : i < length premises
  pub only : IsOnly falses (premise_at premises i) j

-- all literals of premise i are false
pub record IsConflict {A : Type 0} (premises : List (List (Literal A))) (falses : List (Literal A)) (i : ℕ) : Type 0 where
  pub place : i < length premises
  pub all_false : All (IsFalse falses) (premise_at premises i)

-- the literal of a premise that a pair of places names
abbrev pub literal_of : {A : Type 0} → List (List (Literal A)) → ℕ × ℕ → Literal A
literal_of premises u = literal_at (premise_at premises u.0) u.1

-- each of the literals, when its turn comes, is the only one of its premise that is not false and is made
-- true, and after them premise `last` has only false literals
abbrev pub Leads : {A : Type 0} → List (List (Literal A)) → List (Literal A) → List (ℕ × ℕ) → ℕ → Type 0
Leads premises falses [] last = IsConflict premises falses last
Leads premises falses (u ∷ us) last =
    IsUnit premises falses u.0 u.1 × Leads premises (falses ++ negation_of (literal_of premises u) ∷ []) us last

-- to make all literals of the conclusion false makes a literal both true and false, or `true` false
abbrev pub Contradicts : {A : Type 0} → List (Literal A) → Type 0
Contradicts {A} goal = (l : Literal A) × Contains goal l × IsFalse goal (negation_of l)

-- the conclusion follows from the premises by unit propagation
abbrev pub Follows : {A : Type 0} → List (List (Literal A)) → List (Literal A) → Type 0
Follows premises goal = Contradicts goal ⊎ ((units : List (ℕ × ℕ)) × (last : ℕ) × Leads premises goal units last)
