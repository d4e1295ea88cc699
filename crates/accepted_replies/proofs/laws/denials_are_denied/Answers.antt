use Rattle.std.proofs.Common.{inl, inr, List, [], ◌∷◌, map, Contains, refl}
use Rattle.std.specs.Prelude.{Any}
use Rattle.std.specs.List.{AllByRecursion}
use Rattle.term_model.specs.Terms.{Term, not_of}
use Rattle.term_model.proofs.Lists.{contains_head, contains_later}
use Rattle.accepted_replies.specs.Replies.{IsNegation}
use Rattle.accepted_replies.proofs.laws.denials_are_denied.Goals as goal

some_denies : (all : List Term) (t l : Term) → Contains all t → IsNegation t l → Any (λ u. IsNegation u l) all
some_denies all t l has denies = (has.0, t, has.1, has.2, denies)

of_assumed : (all ts : List Term) → ((t : Term) → Contains ts t → Contains all t) → AllByRecursion (λ l. Any (λ t. IsNegation t l) all) (map not_of ts)
of_assumed all [] within = tt
of_assumed all (t ∷ ts) within = (
  some_denies all t (not_of t) (within t (contains_head t ts)) (inl refl),
  of_assumed all ts (λ u has. within u (contains_later t u ts has)),
)

of_clause : (all ls : List Term) → ((t : Term) → Contains (map not_of ls) t → Contains all t) → AllByRecursion (λ l. Any (λ t. IsNegation t l) all) ls
of_clause all [] within = tt
of_clause all (l ∷ ls) within = (
  some_denies all (not_of l) l (within (not_of l) (contains_head (not_of l) (map not_of ls))) (inr refl),
  of_clause all ls (λ u has. within u (contains_later (not_of l) u (map not_of ls) has)),
)

pub returns-clause-of_assumed : goal.returns-clause-of_assumed
returns-clause-of_assumed c = λ ts. of_assumed ts ts (λ t has. has)

pub returns-clause-of_clause : goal.returns-clause-of_clause
returns-clause-of_clause c = λ ls. of_clause (map not_of ls) ls (λ t has. has)
