-- Public. What is asked of clauses of terms where a chain of resolutions takes back unit propagation: some literals are false.
use Rattle.std.specs.Prelude.{◌≡◌, ◌≢◌, ◌⊎◌, List, Contains}
use Rattle.term_model.specs.Terms.{Term}
use Rattle.rule_model.specs.declared.literal.Literal.{Literal}
use Rattle.rule_model.specs.Consequence.{IsFalse}
use Rattle.rule_model.specs.Resolution.{as_literal}

-- all literals of a clause are false
abbrev pub AreFalse : List (Literal Term) → List Term → Type 0
AreFalse falses clause = (t : Term) → Contains clause t → IsFalse falses (as_literal t)

-- all but this one are false
abbrev pub LeavesOnly : List (Literal Term) → Literal Term → List Term → Type 0
LeavesOnly falses l clause = (t : Term) → Contains clause t → IsFalse falses (as_literal t) ⊎ (as_literal t ≡ l)

-- in the clause the literal has one spelling alone
abbrev pub IsSpelled : Literal Term → Term → List Term → Type 0
IsSpelled l here clause = (t : Term) → Contains clause t → as_literal t ≡ l → t ≡ here

-- the clause lacks the literal, in every spelling
abbrev pub Lacks : Literal Term → List Term → Type 0
Lacks l clause = (t : Term) → Contains clause t → as_literal t ≢ l

-- all terms of the clause but one are spellings of this literal
abbrev pub SpellsBut : Literal Term → Term → List Term → Type 0
SpellsBut l other clause = (t : Term) → Contains clause t → (t ≡ other) ⊎ (as_literal t ≡ l)
