-- Public. Terms by numbers. Numbers that follow each other are a tower: a term that is no negation, its negation, the negation
-- of that, and so on.
use Rattle.std.specs.Prelude.{◌≡◌, ◌≢◌, ◌⊎◌, ◌+◌, ◌-◌, ◌%◌, ◌<◌, ℕ, Bool, true, false, List, length, map, slice_index_or}
use Rattle.std.specs.List.{sum_by}
use Rattle.term_model.specs.declared.symbols.Op.{Op}
use Rattle.term_model.specs.Terms.{Term, operation, no_terms, not_of}
use Rattle.clause_chain.specs.declared.signed_term.SignedTerm.{SignedTerm}

-- for each number how many `not`s its term begins with, and the numbers of `true` and `false`
pub record Towers : Type 0 where
  pub nots : List ℕ
  pub truth : ℕ
  pub falsity : ℕ

abbrev pub nots_at : Towers → ℕ → ℕ
nots_at t k = slice_index_or t.nots k 0

-- how many `not`s the literals of a clause begin with, and those of some clauses
abbrev pub nots_of : Towers → List SignedTerm → ℕ
nots_of t clause = sum_by (λ x. nots_at t x.term) clause

abbrev pub nots_in : Towers → List (List SignedTerm) → ℕ
nots_in t clauses = sum_by (nots_of t) clauses

-- the next number is that of the negation
pub record HasNegation (t : Towers) (k : ℕ) : Type 0 where
  pub within : k + 1 < length t.nots
  pub more : nots_at t (k + 1) ≡ nots_at t k + 1

-- so are the next three
pub record HasRoom (t : Towers) (k : ℕ) : Type 0 where
  pub one : HasNegation t k
  pub two : HasNegation t (k + 1)
  pub three : HasNegation t (k + 2)

-- Each number is that of a bare term, or of the negation of the term before it; those of `true` and `false` are bare.
pub record AreTowers (t : Towers) : Type 0 where
  pub first : nots_at t 0 ≡ 0
  pub next : (k : ℕ) → k + 1 < length t.nots → (nots_at t (k + 1) ≡ 0) ⊎ (nots_at t (k + 1) ≡ nots_at t k + 1)
  pub truth_bare : nots_at t t.truth ≡ 0
  pub truth_room : HasRoom t t.truth
  pub falsity_bare : nots_at t t.falsity ≡ 0
  pub falsity_room : HasRoom t t.falsity

-- the terms with these numbers, each with one
pub record AreNumbered (t : Towers) (terms : ℕ → Term) : Type 0 where
  pub one : (j k : ℕ) → j < length t.nots → k < length t.nots → terms j ≡ terms k → j ≡ k
  pub bare : (k : ℕ) → k < length t.nots → nots_at t k ≡ 0 → (u : Term) → terms k ≢ not_of u
  pub negation : (k : ℕ) → HasNegation t k → terms (k + 1) ≡ not_of (terms k)
  pub truth : terms t.truth ≡ operation Op.True no_terms
  pub falsity : terms t.falsity ≡ operation Op.False no_terms

-- A term as an item of a chain. None is an item with a sign, since a negation has a number of its own.
abbrev pub item_of : ℕ → SignedTerm
item_of k = record { term = k; negative = false }

abbrev pub term_of : (ℕ → Term) → SignedTerm → Term
term_of terms item = terms item.term

abbrev pub terms_of : (ℕ → Term) → List SignedTerm → List Term
terms_of terms clause = map (term_of terms) clause

-- the item is a term's, with room for what bridges need above it
pub record IsLiteral (t : Towers) (item : SignedTerm) : Type 0 where
  pub unsigned : item.negative ≡ false
  pub room : HasRoom t item.term

-- the number of the term that is left where all pairs of `not` are taken away
abbrev pub plain_of : Towers → ℕ → ℕ
plain_of t k = k - (nots_at t k - nots_at t k % 2)

-- what a pivot takes away on the left, where it stands with its sign, and on the right
abbrev pub side : ℕ → Bool → SignedTerm
side pivot true = item_of pivot
side pivot false = item_of (pivot + 1)
