-- Public. What corresponds in a proof and in an elaboration of it: its scopes, and its commands by their scopes and clauses.
use Rattle.std.specs.Prelude.{ℕ, List, [], ◌∷◌, map, Option}
use Rattle.rule_model.specs.Commands.{Line, lines_in, own_scope, ScopeEntry, scopes}
use Rattle.rule_model.specs.Proofs.{ProofItems}
use Rattle.rule_model.specs.Reading.{clause_of}
use Rattle.rule_model.specs.Scopes.{outermost}

-- the list is left of another where some items are dropped
pub data IsSubsequence {X : Type 0} : List X → List X → Type 0 where
  both_end : IsSubsequence [] []
  stays : (x : X) (xs ys : List X) → IsSubsequence xs ys → IsSubsequence (x ∷ xs) (x ∷ ys)
  dropped : (y : X) (xs ys : List X) → IsSubsequence xs ys → IsSubsequence xs (y ∷ ys)

-- the commands in file order, each by the number of its scope and its clause
abbrev pub placed_clause : {V T : Type 0} → Line V T → ℕ × List T
placed_clause line = (own_scope line.scope.nesting line.command, clause_of line.command)

abbrev pub placed_clauses : {V T : Type 0} → ProofItems V T → List (ℕ × List T)
placed_clauses proof = map placed_clause (lines_in outermost proof)

-- the scopes in the order of their anchors, each by the number of the scope around it and what its anchor binds
abbrev pub frame_of : {V T : Type 0} → ScopeEntry V T → Option ℕ × List (V × T)
frame_of e = (e.parent, e.bindings)

abbrev pub frames : {V T : Type 0} → ProofItems V T → List (Option ℕ × List (V × T))
frames proof = map frame_of (scopes proof)
