-- Proofs with the same frames bind the same in each scope.
use Rattle.std.proofs.Common.{◌≡◌, ℕ, zero, suc, List, [], ◌∷◌, map, slice_get, refl, sym, ap, ◌∙◌}
use Rattle.std.specs.Option.{option_map_or}
use Rattle.term_model.specs.Terms.{Var, Term}
use Rattle.rule_model.specs.Commands.{ScopeEntry, scopes}
use Rattle.rule_model.specs.Correspondence.{frame_of, frames}
use Rattle.rule_model.specs.Proofs.{ProofItems}
use Rattle.rule_model.specs.Reading.{bindings_at}

-- what an anchor binds is told by the frames
abbrev bound_in : List (ScopeEntry Var Term) → ℕ → List (Var × Term)
bound_in entries k = option_map_or (λ (e : ScopeEntry Var Term). e.bindings) (slice_get entries k) []

framed : (entries : List (ScopeEntry Var Term)) (k : ℕ) → bound_in entries k ≡ option_map_or (λ f. f.1) (slice_get (map frame_of entries) k) []
framed [] k = refl
framed (e ∷ entries) zero = refl
framed (e ∷ entries) (suc k) = framed entries k

pub same_bindings : (new old : ProofItems Var Term) (k : ℕ) → frames new ≡ frames old → bindings_at old k ≡ bindings_at new k
same_bindings new old k same =
    framed (scopes old) k ∙ (ap (λ fs. option_map_or (λ f. f.1) (slice_get fs k) []) (sym same) ∙ sym (framed (scopes new) k))
