-- Public. Resolution (Alethe specification, the rules `resolution` and `th_resolution`).
use Rattle.std.specs.Prelude.{◌≡◌, ◌≢◌, ◌⊎◌, Bool, true, false, not, List, [], ◌∷◌, ◌++◌, map, Contains}
use Rattle.term_model.specs.declared.symbols.Op.{Op}
use Rattle.term_model.specs.Terms.{Term, operation, no_terms, term, not_of}
use Rattle.rule_model.specs.declared.literal.Literal.{Literal}
use Rattle.rule_model.specs.declared.literal.Literal.TheVariants.{Plain, Always, Never}
use Rattle.rule_model.specs.declared.rules.Mode.{Mode}
use Rattle.rule_model.specs.Literals.{negation_of}
use Rattle.rule_model.specs.Consequence.{Follows}

-- a term that is no negation, as a literal: a constant, or an atom
abbrev pub bare_literal : Term → Literal Term
bare_literal (operation Op.True no_terms) = Always
bare_literal (operation Op.False no_terms) = Never
bare_literal t = Plain t false

-- a term as a literal: leading pairs of `not` are removed, and one that is left is the literal's sign
abbrev pub as_literal : Term → Literal Term
as_literal (operation Op.Not (term t no_terms)) = negation_of (as_literal t)
as_literal t = bare_literal t

abbrev pub as_clause : List Term → List (Literal Term)
as_clause terms = map as_literal terms

-- Check mode: the clause follows from the premises' clauses by unit propagation. The order of the premises plays no
-- part, and pivots play none.
abbrev pub ResolvesInCheck : List (List Term) → List Term → Type 0
ResolvesInCheck premises clause = Follows (map as_clause premises) (as_clause clause)

-- the list is what is left of another where every occurrence of an item is removed
abbrev pub LeavesWithout : {X : Type 0} → X → List X → List X → Type 0
LeavesWithout p [] rest = rest ≡ []
LeavesWithout {X} p (t ∷ ts) rest =
    ((t ≡ p) × LeavesWithout p ts rest) ⊎ ((t ≢ p) × ((us : List X) × (rest ≡ t ∷ us) × LeavesWithout p ts us))

-- the list is what is left of another where each item is dropped that stands before it, or is one of those seen
abbrev pub IsFirstsOf : {X : Type 0} → List X → List X → List X → Type 0
IsFirstsOf seen [] rest = rest ≡ []
IsFirstsOf {X} seen (t ∷ ts) rest =
    (Contains seen t × IsFirstsOf seen ts rest)
    ⊎ ((Contains seen t → ⊥) × ((us : List X) × (rest ≡ t ∷ us) × IsFirstsOf (seen ++ t ∷ []) ts us))

-- One item stands on the left, and another on the right. All occurrences of each are removed from their side, what is left
-- is joined, and later repeats are dropped.
pub record IsJoined {X : Type 0} (left right : List X) (here there : X) (result : List X) : Type 0 where
  pub on_left : Contains left here
  pub on_right : Contains right there
  pub left_rest : List X
  pub left_is : LeavesWithout here left left_rest
  pub right_rest : List X
  pub right_is : LeavesWithout there right right_rest
  pub firsts : IsFirstsOf [] (left_rest ++ right_rest) result

-- A chain from a clause through others to its result. For each of the others it has what is taken away: an item on the left
-- and one on the right.
abbrev pub Joins : {X : Type 0} → List X → List (List X) → List (X × X) → List X → Type 0
Joins left [] [] result = left ≡ result
Joins left [] (taken ∷ more) result = ⊥
Joins left (right ∷ premises) [] result = ⊥
Joins {X} left (right ∷ premises) (taken ∷ more) result =
    (next : List X) × IsJoined left right taken.0 taken.1 next × Joins next premises more result

-- the chain from the first premise through the others, in order, ends in exactly the clause
abbrev pub JoinAll : {X : Type 0} → List (X × X) → List (List X) → List X → Type 0
JoinAll taken [] clause = ⊥
JoinAll taken (first ∷ premises) clause = Joins first premises taken clause

-- a pivot where it is true, and its negation where it is false
abbrev pub with_sign : Term → Bool → Term
with_sign p true = p
with_sign p false = not_of p

-- one step of a chain: the clauses are joined on the pivot with its sign on the left, and with the other on the right
abbrev pub IsResolvent : List Term → List Term → Term → Bool → List Term → Type 0
IsResolvent left right pivot sign result = IsJoined left right (with_sign pivot sign) (with_sign pivot (not sign)) result

-- what a pivot takes away: on the left it stands with its sign, on the right with the other one
abbrev pub sides_of : Term × Bool → Term × Term
sides_of pivot = (with_sign pivot.0 pivot.1, with_sign pivot.0 (not pivot.1))

-- a chain of resolutions from a clause through others, with a pivot for each, to its result
abbrev pub Chains : List Term → List (List Term) → List (Term × Bool) → List Term → Type 0
Chains left premises pivots result = Joins left premises (map sides_of pivots) result

-- Strict mode: the chain from the first premise through the others, in order, ends in exactly the clause. There is at
-- least one premise, and a pivot for each of the others.
abbrev pub ResolvesStrictly : List (Term × Bool) → List (List Term) → List Term → Type 0
ResolvesStrictly pivots premises clause = JoinAll (map sides_of pivots) premises clause

-- the condition of both rules, in either mode
abbrev pub Resolves : Mode → List (Term × Bool) → List (List Term) → List Term → Type 0
Resolves Mode.Check pivots premises clause = ResolvesInCheck premises clause
Resolves Mode.Strict pivots premises clause = ResolvesStrictly pivots premises clause
