-- Lists of names, and what they have.
use Rattle.std.proofs.Common.{◌≡◌, ℕ, zero, suc, List, [], ◌∷◌, map, Bool, true, false, Option, Some, None, IfSome, Contains, find, cond, sym, arith}
use Rattle.std.specs.Str.{bytes_eq}
use Rattle.std.proofs.lemmas.Slice.Eq.{bytes_eq-Decides}
use Rattle.std.proofs.lemmas.Bool.{or_parts}
use Rattle.term_model.proofs.Lists.{contains_head, contains_later}
use Rattle.rule_model.specs.Visibility.{Sight}
use Rattle.problem_text.specs.Words.{is_among}

-- a name that is not among the names is none of them
pub not_among : (names : List (List ℕ)) (name : List ℕ) → is_among names name ≡ false → ¬ Contains names name
not_among [] name e (k, h, f) = absurd (omega (arith, h))
not_among (x ∷ xs) name e (zero, h, f) =
    let parts = or_parts (bytes_eq name x) (is_among xs name) e in
    let same = (bytes_eq-Decides name x).1 (sym f) in absurd (cc)
not_among (x ∷ xs) name e (suc k, h, f) =
    not_among xs name (or_parts (bytes_eq name x) (is_among xs name) e).1 (k, omega (arith, h), f)

-- the index of a command that is found is one of those that are seen
pub index_found : (test : Sight → Bool) (sights : List Sight) → IfSome (find test sights) (λ c. Contains (map (λ s. s.index) sights) c.index)
index_found test [] = tt
index_found test (x ∷ xs) = go (test x) (find test xs) (index_found test xs)
  where
    go : (b : Bool) (o : Option Sight) → IfSome o (λ c. Contains (map (λ s. s.index) xs) c.index) → IfSome (cond b (Some x) o) (λ c. Contains (map (λ s. s.index) (x ∷ xs)) c.index)
    go true o h = contains_head x.index (map (λ s. s.index) xs)
    go false None h = tt
    go false (Some c) h = contains_later x.index c.index (map (λ s. s.index) xs) h
