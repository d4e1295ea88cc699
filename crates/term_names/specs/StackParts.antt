-- Private. The values of a stack by their parts.
use Rattle.std.specs.Prelude.{◌≡◌, ◌≤◌, ℕ, Bool, List, [], ◌∷◌, map, take, length}
use Rattle.term_model.specs.declared.symbols.Sort.{Sort}
use Rattle.term_expansion.specs.declared.values.Value.{Value}

-- the values with these terms, sorts and heights, and whether each is plain
abbrev pub values_of : List ℕ → List Sort → List ℕ → List Bool → List Value
values_of (t ∷ ts) (s ∷ ss) (h ∷ hs) (p ∷ ps) = record { term = t; sort = s; height = h; plain = p } ∷ values_of ts ss hs ps
values_of ts ss hs ps = []

-- the values whose parts are the first n of each list
abbrev pub values_in : ℕ → List ℕ → List Sort → List ℕ → List Bool → List Value
values_in n ts ss hs ps = values_of (take n ts) (take n ss) (take n hs) (take n ps)

-- the first n are the terms, the sorts and the heights of the values, and whether each is plain
pub record AreParts (n : ℕ) (ts : List ℕ) (ss : List Sort) (hs : List ℕ) (ps : List Bool) (values : List Value) : Type 0 where
  pub terms : take n ts ≡ map (λ v. v.term) values
  pub sorts : take n ss ≡ map (λ v. v.sort) values
  pub heights : take n hs ≡ map (λ v. v.height) values
  pub plain : take n ps ≡ map (λ v. v.plain) values

-- the lists are of one length, and n is no more
pub record HaveRoom (n : ℕ) (ts : List ℕ) (ss : List Sort) (hs : List ℕ) (ps : List Bool) : Type 0 where
  pub within : n ≤ length ts
  pub sorts : length ss ≡ length ts
  pub heights : length hs ≡ length ts
  pub plain : length ps ≡ length ts
