-- Public. What was read of a proof, and the state of the reading for which it stands.
use Rattle.std.specs.Prelude.{◌≡◌, ℕ, List, [], ◌∷◌, ◌++◌, map, length, ⊤}
use Rattle.std.specs.List.{AllZip}
use Rattle.term_model.specs.Terms.{Var, Term}
use Rattle.rule_model.specs.Scopes.{Nesting, outermost, inside, at}
use Rattle.term_pool.specs.Bindings.{IsBindingOf}
use Rattle.proof_store.specs.Meaning.{StandForItems}
use Rattle.term_reader.specs.ProblemViews.{IsReaderOf}
use Rattle.alethe_text.specs.ProofTerms.{place_in}
use Rattle.alethe_text.specs.States.{ProofSettings, ProofState}
use Rattle.alethe_reader.specs.Bound.{AreAnchorsBound}
use Rattle.alethe_reader.specs.IdsInUse.{ids_in}
use Rattle.alethe_reader.specs.declared.session.Session.{Session}
use Rattle.term_expansion.specs.SymbolsAndTerms.{SymbolsAndTerms}

-- what stands around the scope that is written
abbrev pub StandForNesting : SymbolsAndTerms → Nesting ℕ ℕ → Nesting Var Term → Type 0
StandForNesting w outermost outermost = ⊤
StandForNesting w outermost (inside around before anchor) = ⊥
StandForNesting w (inside around before anchor) outermost = ⊥
StandForNesting w (inside around before anchor) (inside outer behind other) =
    StandForNesting w around outer × StandForItems w.symbols w.terms before behind
    × (anchor.id ≡ other.id) × AllZip (IsBindingOf w.symbols w.terms) anchor.bindings other.bindings

-- how many ids were in use where each open anchor stands, and how many variables it binds, the outermost first
abbrev pub starts : Nesting ℕ ℕ → List ℕ
starts outermost = []
starts (inside around before anchor) = starts around ++ length (ids_in (at around before)) ∷ []

abbrev pub counts : Nesting ℕ ℕ → List ℕ
counts outermost = []
counts (inside around before anchor) = counts around ++ length anchor.bindings ∷ []

-- The proof as far as it is written, the ids in use and the open anchors are those of the state.
pub record IsWritten (w : SymbolsAndTerms) (d : Session) (p : ProofState) : Type 0 where
  pub nesting : StandForNesting w d.builder.nesting p.scope.nesting
  pub items : StandForItems w.symbols w.terms d.builder.items p.scope.items
  pub ids : d.ids.used ≡ ids_in d.builder
  pub places : map (λ a. a.place) d.anchors.items ≡ p.anchors
  pub starts_kept : map (λ a. a.ids) d.anchors.items ≡ starts d.builder.nesting
  pub counts_kept : map (λ a. a.variables) d.anchors.items ≡ counts d.builder.nesting
  pub bound : AreAnchorsBound w d.bound p.scope.nesting

-- what was read of a proof stands for the state
pub record IsProofSession (w : SymbolsAndTerms) (settings : ProofSettings) (d : Session) (p : ProofState) : Type 0 where
  pub reader : IsReaderOf w.symbols w.terms d.reader p.script (place_in settings p.scope.nesting)
  pub written : IsWritten w d p

-- After a command what was read stands for the new state.
pub record StandsAfter (w : SymbolsAndTerms) (settings : ProofSettings) (d : Session) (done answer : ⊤) (p : ProofState) : Type 0 where
  pub session : IsProofSession w settings d p
