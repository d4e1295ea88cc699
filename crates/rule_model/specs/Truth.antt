-- Public. When the clause of a command is true in its scope (Alethe, "Subproofs"), and what terms a proof may have.
use Rattle.std.specs.Prelude.{List, [], ◌∷◌, ◌++◌, ℕ, map, slice_get, IfSome, All, ⊤}
use Rattle.std.specs.List.{AllByRecursion}
use Rattle.term_model.specs.declared.symbols.Sort.{Sort}
use Rattle.term_model.specs.Interpretations.{Interpretation}
use Rattle.term_model.specs.Sorts.{IsOf}
use Rattle.term_model.specs.Terms.{Var, Term}
use Rattle.term_model.specs.Unsatisfiable.{MakesTrue, MakesAllTrue}
use Rattle.rule_model.specs.Clauses.{MakesClauseTrue}
use Rattle.rule_model.specs.Commands.{Line, lines_in}
use Rattle.rule_model.specs.Contexts.{context_values, IsClosedUnder, IsTrueInScope}
use Rattle.rule_model.specs.Judged.{open_anchors}
use Rattle.rule_model.specs.Proofs.{ProofItems, no_items, with_assume, with_step, with_subproof}
use Rattle.rule_model.specs.Reading.{clause_of, clause_at, premises_of}
use Rattle.rule_model.specs.Scopes.{Nesting, outermost, inside, Scope, inner}
use Rattle.rule_model.specs.Writing.{add_command}

-- the terms that are assumed directly in a scope
abbrev pub assumed_in : {V T : Type 0} → ProofItems V T → List T
assumed_in no_items = []
assumed_in (with_assume items id t) = assumed_in items ++ t ∷ []
assumed_in (with_step items s) = assumed_in items
assumed_in (with_subproof items bindings proof s) = assumed_in items

-- those that are assumed directly in the scopes that are open, up to where a scope is written. What the outermost scope
-- assumes does not count: it has to be asserted.
abbrev pub open_assumes : {V T : Type 0} → Nesting V T → ProofItems V T → List T
open_assumes outermost items = []
open_assumes (inside around before anchor) items = open_assumes around before ++ assumed_in items

-- the clause is true in a scope as far as that is written
abbrev pub IsTrueWhere : List Term → Scope Var Term → List Term → Type 0
IsTrueWhere assertions scope clause =
    IsTrueInScope assertions (open_anchors scope.nesting) (open_assumes scope.nesting scope.items) clause

-- the clause of a command is true in the scope to which the command belongs
abbrev pub IsTrueCommand : List Term → Line Var Term → Type 0
IsTrueCommand assertions line =
    IsTrueWhere assertions (add_command line.scope line.command) (clause_of line.command)

abbrev pub IsTrueAt : List Term → ProofItems Var Term → ℕ → Type 0
IsTrueAt assertions proof i = IfSome (slice_get (lines_in outermost proof) i) (IsTrueCommand assertions)

-- The clause is true in its scope wherever the premises' clauses are: under each interpretation that makes the assertions
-- true and, under the values of the anchors' variables, the assumes and the premises' clauses.
abbrev pub FollowsWhere : List Term → Scope Var Term → List (List Term) → List Term → Type 0
FollowsWhere assertions scope premises clause =
    (I : Interpretation) → MakesAllTrue I assertions →
    AllByRecursion (MakesTrue I (context_values I (open_anchors scope.nesting))) (open_assumes scope.nesting scope.items) →
    All (MakesClauseTrue I (context_values I (open_anchors scope.nesting))) premises →
    MakesClauseTrue I (context_values I (open_anchors scope.nesting)) clause

abbrev pub FollowsAt : List Term → ProofItems Var Term → ℕ → Type 0
FollowsAt assertions proof i =
    IfSome (slice_get (lines_in outermost proof) i)
    (λ line. FollowsWhere assertions (add_command line.scope line.command) (map (clause_at proof) (premises_of line.command)) (clause_of line.command))

-- a literal in a scope is a term of Bool, in which no variable stands free but those that open anchors bind
pub record IsLiteralIn (nesting : Nesting Var Term) (t : Term) : Type 0 where
  pub sort : IsOf t Sort.Bool
  pub closed : IsClosedUnder (open_anchors nesting) t

-- an anchor gives a variable a term of its sort, in which no variable stands free but those that outer anchors bind
pub record IsBindingIn (nesting : Nesting Var Term) (b : Var × Term) : Type 0 where
  pub sort : IsOf b.1 b.0.sort
  pub closed : IsClosedUnder (open_anchors nesting) b.1

-- all literals of a proof, and all that its anchors bind, are so
abbrev pub AreWellSorted : Nesting Var Term → ProofItems Var Term → Type 0
AreWellSorted nesting no_items = ⊤
AreWellSorted nesting (with_assume items id t) = AreWellSorted nesting items × IsLiteralIn nesting t
AreWellSorted nesting (with_step items s) = AreWellSorted nesting items × AllByRecursion (IsLiteralIn nesting) s.clause
AreWellSorted nesting (with_subproof items bindings proof s) =
    AreWellSorted nesting items
    × AllByRecursion (IsBindingIn nesting) bindings
    × AreWellSorted (inner nesting items bindings s) proof
    × AllByRecursion (IsLiteralIn nesting) s.clause

abbrev pub IsWellSortedProof : ProofItems Var Term → Type 0
IsWellSortedProof proof = AreWellSorted outermost proof
