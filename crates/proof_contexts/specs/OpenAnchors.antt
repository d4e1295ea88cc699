-- Public. The anchors that are open in a scope, and what is kept of them from step to step.
use Rattle.std.specs.Prelude.{◌≡◌, ℕ, List, [], ◌∷◌, reverse, Some, None, ⊤}
use Rattle.contexts.specs.Kept.{IsRight, frames_of}
use Rattle.contexts.specs.PutIn.{StandForReplacement, joined}
use Rattle.proof_store.specs.Meaning.{StandForItems}
use Rattle.rule_model.specs.Contexts.{images}
use Rattle.rule_model.specs.Proofs.{ProofItems}
use Rattle.rule_model.specs.Reading.{parent_at, bindings_at}
use Rattle.sym_table.specs.Table.{Table}
use Rattle.term_model.specs.Terms.{Var, Term}
use Rattle.term_pool.specs.Views.{TermsView}
use Rattle.proof_contexts.specs.Images.{IsImageIn}
use Rattle.proof_contexts.specs.declared.scopes.OpenScopes.{OpenScopes}

-- what the anchors bind that are open in scope k, the innermost first: a scope with no scope around it has none
abbrev pub AreOpenIn : {V T : Type 0} → ProofItems V T → ℕ → List (List (V × T)) → Type 0
AreOpenIn proof k [] = parent_at proof k ≡ None
AreOpenIn proof k (anchor ∷ outer) =
    (p : ℕ) × (parent_at proof k ≡ Some p) × (bindings_at proof k ≡ anchor) × AreOpenIn proof p outer

-- the term is the image of a variable that an anchor of the proof binds
pub record IsAnchorImage (proof : ProofItems Var Term) (t : Term) : Type 0 where
  pub scope : ℕ
  pub anchor : List (Var × Term)
  pub outer : List (List (Var × Term))
  pub are_open : AreOpenIn proof scope (anchor ∷ outer)
  pub among : IsImageIn (images outer) anchor t

-- the bindings put in the images of the variables that the anchors bind that are open in the scope
pub record IsLevel (s : Table) (v : TermsView) (proof : ProofItems Var Term) (k : ℕ) (bindings : List (ℕ × ℕ)) : Type 0 where
  pub anchors : List (List (Var × Term))
  pub are_open : AreOpenIn proof k anchors
  pub stand : StandForReplacement s v bindings (images anchors)

-- a scope with none around it is the outermost one
abbrev pub EndsOutermost : ℕ → List ℕ → Type 0
EndsOutermost k [] = k ≡ 0
EndsOutermost k (j ∷ ks) = ⊤

-- each scope has its frame of what is put in, the innermost first
abbrev pub AreLevels : Table → TermsView → ProofItems Var Term → List ℕ → List (List (ℕ × ℕ)) → Type 0
AreLevels s v proof [] frames = frames ≡ []
AreLevels s v proof (k ∷ ks) [] = ⊥
AreLevels s v proof (k ∷ ks) (bs ∷ frames) =
    IsLevel s v proof k (joined (bs ∷ frames)) × EndsOutermost k ks × AreLevels s v proof ks frames

-- the scopes that were entered, the last one first
abbrev pub scopes_entered : OpenScopes → List ℕ
scopes_entered x = x.here ∷ reverse x.around.items

-- what is kept is right, of the proof for which these items stand
pub record AreKept (s : Table) (v : TermsView) (refs : ProofItems ℕ ℕ) (x : OpenScopes) : Type 0 where
  pub proof : ProofItems Var Term
  pub stand : StandForItems s v refs proof
  pub levels : AreLevels s v proof (scopes_entered x) (frames_of x.substitution)
  pub right : IsRight v x.substitution

-- the scope that was entered last
abbrev pub scope_of : OpenScopes → ℕ
scope_of x = x.here
