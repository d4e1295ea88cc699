-- Private. An anchor that is being read: its arguments up to some place.
use Rattle.std.specs.Prelude.{◌≡◌, ◌++◌, ◌∷◌, [], ℕ, Bool, true, false, ◌||◌, List, map, reverse, take, Option, Result, Ok, Err, ⊤}
use Rattle.std.specs.List.{AllZip}
use Rattle.std.specs.Option.{option_map_or}
use Rattle.sexpr.specs.declared.causes.Cause.TheVariants.{Repeated, BadAnchor, SortMismatch, TooHigh}
use Rattle.sexpr.specs.declared.causes.Refusal.{Refusal}
use Rattle.term_model.specs.declared.symbols.Sort.{Sort}
use Rattle.term_model.specs.Terms.{Var, Term, sort_eq}
use Rattle.term_pool.specs.Views.{RefersTo}
use Rattle.rule_model.specs.Contexts.{put_in_each, images}
use Rattle.term_model.specs.Heights.{height}
use Rattle.rule_model.specs.Judged.{open_anchors}
use Rattle.rule_model.specs.Scopes.{Nesting}
use Rattle.term_pool.specs.Bindings.{IsBindingOf}
use Rattle.problem_text.specs.Limits.{is_low}
use Rattle.problem_text.specs.Names.{Bound, itself}
use Rattle.problem_text.specs.Scripts.{with_term}
use Rattle.problem_text.specs.TypedTerms.{Typed}
use Rattle.problem_text.specs.Words.{is_among}
use Rattle.term_reader.specs.ProblemViews.{ReaderView, IsReaderOf}
use Rattle.alethe_text.specs.Anchors.{bound_names, image_of, script_changed}
use Rattle.alethe_text.specs.ProofTerms.{place_in}
use Rattle.alethe_text.specs.States.{ProofSettings, ProofState, Reading, ◌>>=◌, give, demand}
use Rattle.alethe_reader.specs.Bound.{images_in, BindApart}
use Rattle.alethe_reader.specs.declared.bound.BoundVariables.{BoundVariables}
use Rattle.term_expansion.specs.SymbolsAndTerms.{SymbolsAndTerms}

-- none of the names is one of these, and no two are the same
abbrev pub AreFresh : List (List ℕ) → List (Var × Term) → Type 0
AreFresh names [] = ⊤
AreFresh names (b ∷ bs) = (is_among names b.0.name ≡ false) × AreFresh (names ++ b.0.name ∷ []) bs

-- The variables bs of the anchor were read, with these names, the last one first.
pub record IsOpening (w : SymbolsAndTerms) (settings : ProofSettings) (r : ReaderView) (d : BoundVariables) (earlier : List (List ℕ))
    (bs : List (Var × Term)) (p : ProofState) : Type 0 where
  pub reader : IsReaderOf w.symbols w.terms r p.script (place_in settings p.scope.nesting)
  pub names : map (λ u. u.id) d.names.used ≡ bound_names p.scope.nesting ++ map (λ b. b.0.name) bs
  pub judged : (name : List ℕ) → (is_among earlier name || is_among (bound_names p.scope.nesting) name) ≡ is_among (map (λ u. u.id) d.names.used) name
  pub images : AllZip (IsBindingOf w.symbols w.terms) d.images.items (images_in p.scope.nesting ++ put_in_each (images (open_anchors p.scope.nesting)) bs)
  pub opened : AllZip (IsBindingOf w.symbols w.terms) d.opened.items bs
  pub apart : BindApart p.scope.nesting
  pub fresh : AreFresh (bound_names p.scope.nesting) bs

-- The state is the same but for its script.
pub record IsSameScope (old new : ProofState) : Type 0 where
  pub scope : new.scope ≡ old.scope
  pub anchors : new.anchors ≡ old.anchors

-- an argument was read
pub record IsArgumentRead (w : SymbolsAndTerms) (settings : ProofSettings) (r : ReaderView) (d : BoundVariables) (earlier : List (List ℕ))
    (bs : List (Var × Term)) (old : ProofState) (_ : ⊤) (b : Var × Term) (new : ProofState) : Type 0 where
  pub opening : IsOpening w settings r d (b.0.name ∷ earlier) (bs ++ b ∷ []) new
  pub same : IsSameScope old new

-- all of them were read
pub record AreArgumentsRead (w : SymbolsAndTerms) (settings : ProofSettings) (r : ReaderView) (d : BoundVariables) (old : ProofState) (_ : ⊤)
    (bs : List (Var × Term)) (new : ProofState) : Type 0 where
  pub earlier : List (List ℕ)
  pub opening : IsOpening w settings r d earlier bs new
  pub same : IsSameScope old new

-- the name of a variable at this place is judged, by whether it is built in and whether it is bound
abbrev pub IsNameJudged : Bool → Bool → ℕ → Result ⊤ Refusal → Type 0
IsNameJudged true bound place (Ok _) = ⊥
IsNameJudged true bound place (Err refusal) = refusal ≡ record { cause = Repeated; at = place }
IsNameJudged false true place (Ok _) = ⊥
IsNameJudged false true place (Err refusal) = refusal ≡ record { cause = BadAnchor; at = place }
IsNameJudged false false place (Ok _) = ⊤
IsNameJudged false false place (Err refusal) = ⊥

-- a sort is the one that the text gives, where it gives one
abbrev pub is_wanted : Option Sort → Sort → Bool
is_wanted wanted sort = option_map_or (λ s. sort_eq sort s) wanted true

-- what comes of a variable once its term was read
unfoldable pub image_read : Option ℕ → ℕ → List ℕ → Option Sort → Nesting Var Term → Typed → Reading (Var × Term)
image_read limit place name wanted nesting t = do
  _ ← demand (is_wanted wanted t.sort) SortMismatch place
  _ ← script_changed (with_term (image_of nesting t.tree))
  _ ← demand (is_low limit (height (image_of nesting t.tree))) TooHigh place
  give (record { name = name; sort = t.sort }, t.tree)

-- The image was made, and counts as read.
pub record IsImageRead (w : SymbolsAndTerms) (name : List ℕ) (nesting : Nesting Var Term) (t : Typed) (old : ProofState) (c : ℕ) (b : Var × Term)
    (new : ProofState) : Type 0 where
  pub refers : RefersTo w.symbols w.terms c (image_of nesting t.tree)
  pub same : b ≡ (record { name = name; sort = t.sort }, t.tree)
  pub state : new ≡ record old { script = with_term (image_of nesting t.tree) old.script }

-- the variables of an anchor in scope, the first `left` of them
abbrev pub entered : ℕ → List (Var × Term) → List Bound → List Bound
entered left bs around = map (λ b. itself b.0) (reverse (take left bs)) ++ around
