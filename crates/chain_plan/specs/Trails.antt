-- Public. How unit propagation goes over clauses of numbered terms, and what it has made false.
use Rattle.std.specs.Prelude.{◌<◌, ℕ, List, [], ◌∷◌, ◌++◌, map, length, slice_index_or, MatchOption, Option}
use Rattle.term_model.specs.Terms.{Term}
use Rattle.rule_model.specs.declared.literal.Literal.{Literal}
use Rattle.rule_model.specs.Consequence.{Contradicts, Leads, literal_of}
use Rattle.rule_model.specs.Literals.{negation_of}
use Rattle.rule_model.specs.Resolution.{as_clause}
use Rattle.clause_chain.specs.declared.signed_term.SignedTerm.{SignedTerm}
use Rattle.chain_plan.specs.Towers.{Towers, AreNumbered, terms_of}

-- the literals of clauses
abbrev pub literals_of : (ℕ → Term) → List (List SignedTerm) → List (List (Literal Term))
literals_of terms given = map (λ c. as_clause (terms_of terms c)) given

-- what is false after some units were made true
abbrev pub falses_after : {A : Type 0} → List (List (Literal A)) → List (Literal A) → List (ℕ × ℕ) → List (Literal A)
falses_after premises falses [] = falses
falses_after premises falses (u ∷ units) = falses_after premises (falses ++ negation_of (literal_of premises u) ∷ []) units

-- the unit is a literal of a given clause
pub record IsPlace (given : List (List SignedTerm)) (u : ℕ × ℕ) : Type 0 where
  pub clause : u.0 < length given
  pub literal : u.1 < length (slice_index_or given u.0 [])

-- the clause follows from the given ones: the units make the premise `last` false, or the clause contradicts itself
abbrev pub IsShown : (ℕ → Term) → List (List SignedTerm) → List SignedTerm → List (ℕ × ℕ) → Option ℕ → Type 0
IsShown terms given goal units last =
    MatchOption last (Contradicts (as_clause (terms_of terms goal)))
    (λ i. (Contradicts (as_clause (terms_of terms goal)) → ⊥) × Leads (literals_of terms given) (as_clause (terms_of terms goal)) units i)

-- the same of some terms with these numbers
pub record FollowsBy (t : Towers) (given : List (List SignedTerm)) (goal : List SignedTerm) (units : List (ℕ × ℕ)) (last : Option ℕ) : Type 0 where
  pub terms : ℕ → Term
  pub named : AreNumbered t terms
  pub shown : IsShown terms given goal units last
