-- Private. Numbers of terms in order, as far as they are made: the numbers of a term that begins with no `not`, of its negation
-- and so on follow each other.
use Rattle.std.specs.Prelude.{◌≡◌, ◌≢◌, ◌⊎◌, ◌+◌, ◌<◌, ◌≤◌, ℕ, List, length, slice_index_or}
use Rattle.term_model.specs.declared.symbols.Op.{Op}
use Rattle.term_model.specs.Terms.{Term, operation, no_terms, not_of}
use Rattle.term_pool.specs.Nots.{negated}

abbrev pub truth_term : Term
truth_term = operation Op.True no_terms

abbrev pub falsity_term : Term
falsity_term = operation Op.False no_terms

-- the term with a number; what has none gets `true`
abbrev pub numbered : List Term → ℕ → Term
numbered terms k = slice_index_or terms k truth_term

abbrev pub nots_of_number : List ℕ → ℕ → ℕ
nots_of_number nots k = slice_index_or nots k 0

pub record AreLevels (nots : List ℕ) (terms : List Term) : Type 0 where
  pub size : length terms ≡ length nots
  pub first : nots_of_number nots 0 ≡ 0
  pub next : (k : ℕ) → k + 1 < length nots →
      (nots_of_number nots (k + 1) ≡ 0) ⊎ (nots_of_number nots (k + 1) ≡ nots_of_number nots k + 1)
  pub bare : (k : ℕ) → k < length nots → nots_of_number nots k ≡ 0 → (u : Term) → numbered terms k ≢ not_of u
  pub negation : (k : ℕ) → k + 1 < length nots → nots_of_number nots (k + 1) ≡ nots_of_number nots k + 1 →
      numbered terms (k + 1) ≡ not_of (numbered terms k)
  pub one : (j k : ℕ) → j < length nots → k < length nots → numbered terms j ≡ numbered terms k → j ≡ k

-- the term may get the next number, with so many leading `not`s
pub record IsNextLevel (nots : List ℕ) (terms : List Term) (x : ℕ) (t : Term) : Type 0 where
  pub first : length nots ≡ 0 → x ≡ 0
  pub next : (k : ℕ) → k + 1 ≡ length nots → (x ≡ 0) ⊎ (x ≡ nots_of_number nots k + 1)
  pub bare : x ≡ 0 → (u : Term) → t ≢ not_of u
  pub negation : (k : ℕ) → k + 1 ≡ length nots → x ≡ nots_of_number nots k + 1 → t ≡ not_of (numbered terms k)
  pub new : (k : ℕ) → k < length nots → numbered terms k ≢ t

-- from number k on there are the negations of its term, up to this many
abbrev pub HasLevels : List ℕ → ℕ → ℕ → Type 0
HasLevels nots k n = (j : ℕ) → j ≤ n → (k + j < length nots) × (nots_of_number nots (k + j) ≡ j)

-- the term is the bare one under so many `not`s at most
pub record IsLevelAbove (bare : Term) (height : ℕ) (t : Term) : Type 0 where
  pub nots : ℕ
  pub within : nots ≤ height
  pub is : t ≡ negated nots bare
