-- Public. Literals and clauses over any atoms: the opposite of a literal, when it is true, when a clause is true, and
-- when one is true wherever others are. A clause is a list of literals that is read as a set.
use Rattle.std.specs.Prelude.{◌≡◌, ◌⊎◌, ◌↔◌, Bool, true, false, not, if◌then◌else◌, List, [], ◌∷◌, All, Contains}
use Rattle.rule_model.specs.declared.literal.Literal.{Literal}
use Rattle.rule_model.specs.declared.literal.Literal.TheVariants.{Plain, Always, Never}

-- the opposite literal
abbrev pub negation_of : {A : Type 0} → Literal A → Literal A
negation_of (Plain atom negative) = Plain atom (not negative)
negation_of Always = Never
negation_of Never = Always

-- the truth value of a literal where the atoms have these truth values
abbrev pub is_true_under : {A : Type 0} → (A → Bool) → Literal A → Bool
is_true_under v (Plain atom negative) = if negative then not (v atom) else v atom
is_true_under v Always = true
is_true_under v Never = false

-- some literal of the clause is true
abbrev pub ClauseTrue : {A : Type 0} → (A → Bool) → List (Literal A) → Type 0
ClauseTrue v [] = ⊥
ClauseTrue v (l ∷ ls) = (is_true_under v l ≡ true) ⊎ ClauseTrue v ls

-- under all truth values of the atoms that make each premise true, the conclusion is true
abbrev pub Entails : {A : Type 0} → List (List (Literal A)) → List (Literal A) → Type 0
Entails {A} premises goal = (v : A → Bool) → All (ClauseTrue v) premises → ClauseTrue v goal

-- two clauses that are the same set of literals
abbrev pub IsSameClause : {A : Type 0} → List (Literal A) → List (Literal A) → Type 0
IsSameClause {A} clause other = (l : Literal A) → Contains clause l ↔ Contains other l
