-- Private. The table of links: the pairs of a list both ways round, in the order of their numbers.
use Rattle.std.specs.Prelude.{◌↔◌, ℕ, ◌+◌, ◌*◌, ◌≤◌, ◌<◌, ◌^◌, List, [], ◌∷◌, All, Contains, length, get_or}
use Rattle.std.specs.List.Sorted.{IsNonDecreasingBy}
use Rattle.sym_table.specs.Table.{Table}
use Rattle.term_model.specs.Terms.{Term}
use Rattle.term_pool.specs.Views.{TermsView, RefersTo}
use Rattle.rule_model.specs.Congruence.{AreSides}
use Rattle.rules_congruence.specs.declared.links.Link.{Link}
use Rattle.rules_congruence.specs.Pairs.{AreEnds}

abbrev pub link : ℕ → ℕ → Link
link a b = record { from = a; to = b }

-- the order of links: by where they come from, then by where they go
abbrev pub link_rank : Link → ℕ
link_rank l = l.from * 2 ^ 32 + l.to

-- the pairs both ways round
abbrev pub links_of : List (ℕ × ℕ) → List Link
links_of [] = []
links_of (p ∷ ps) = link p.0 p.1 ∷ link p.1 p.0 ∷ links_of ps

-- references are below 2^31
abbrev pub AreSmall : List Link → Type 0
AreSmall links = All (λ (l : Link). (l.from < 2 ^ 31) × (l.to < 2 ^ 31)) links

-- the table of these pairs
pub record IsTableOf (pairs : List (ℕ × ℕ)) (links : List Link) : Type 0 where
  pub rising : IsNonDecreasingBy link_rank links
  pub small : AreSmall links
  pub has : (a b : ℕ) → Contains links (link a b) ↔ AreEnds pairs a b

-- the place before which all links come before the rank, and from which on none does
pub record IsFirstFrom (links : List Link) (rank place : ℕ) : Type 0 where
  pub within : place ≤ length links
  pub before : (k : ℕ) (d : Link) → k < place → link_rank (get_or links k d) < rank
  pub after : (k : ℕ) (d : Link) → place ≤ k → k < length links → rank ≤ link_rank (get_or links k d)

-- by the table, two references are linked exactly where their terms are the sides of a premise
abbrev pub TellsSides : Table → TermsView → List Link → List (List Term) → Type 0
TellsSides s v links premises =
    (a b : ℕ) (t u : Term) → RefersTo s v a t → RefersTo s v b u → Contains links (link a b) ↔ AreSides premises t u
