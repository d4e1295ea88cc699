-- A reading after which a reader has the entries that it had gives no name.
use Rattle.std.proofs.Common.{◌≡◌, ◌⊎◌, inl, inr, ℕ, List, [], ◌∷◌, ◌++◌, Bool, true, false, ◌||◌, Option, Some, None, refl, sym, ap, ◌∙◌, bytes_eq}
use Rattle.std.proofs.lemmas.List.Folds.{list_any-append}
use Rattle.std.proofs.lemmas.Slice.Eq.{bytes_eq-Decides}
use Rattle.term_model.specs.Terms.{Term}
use Rattle.problem_text.specs.Words.{is_among, is_built_in}
use Rattle.problem_text.specs.Alike.{SayTheSame}
use Rattle.problem_text.specs.Forms.{Form}
use Rattle.problem_text.specs.Names.{Place}
use Rattle.problem_text.specs.Scripts.{Named, Script, is_taken, with_named, with_term, with_let_name}
use Rattle.problem_text.specs.Terms.{term_from}
use Rattle.problem_text.proofs.Growing.{kept_term}
use Rattle.term_names.specs.Known.{KnownView, known_entry}
use Rattle.term_names.specs.Standing.{IsNameMeant, IsScript}
use Rattle.term_names.specs.declared.names.KnownEntry.{KnownEntry}
use Rattle.term_expansion.specs.SymbolsAndTerms.{SymbolsAndTerms}

-- a name that was free is taken
pub record NewlyTaken (s u : Script) : Type 0 where
  pub name : List ℕ
  pub free : is_taken s name ≡ false
  pub now : is_among u.taken name ≡ true

abbrev pub SameOrNamed : Script → Script → Type 0
SameOrNamed s u = SayTheSame s u ⊎ NewlyTaken s u

or_true : (b : Bool) → (b || true) ≡ true
or_true true = refl
or_true false = refl

among_last : (names : List (List ℕ)) (name : List ℕ) → is_among (names ++ name ∷ []) name ≡ true
among_last names name =
    list_any-append (bytes_eq name) names (name ∷ []) ∙ ap (λ b. is_among names name || (b || false)) ((bytes_eq-Decides name name).1 refl) ∙ or_true (is_among names name)

among_still : (names : List (List ℕ)) (other name : List ℕ) → is_among names name ≡ true → is_among (names ++ other ∷ []) name ≡ true
among_still names other name h = list_any-append (bytes_eq name) names (other ∷ []) ∙ ap (λ b. b || (bytes_eq name other || false)) h

by_term : (s u : Script) (t : Term) → SameOrNamed s u → SameOrNamed s (with_term t u)
by_term s u t (inl h) = inl h
by_term s u t (inr h) = inr (record { name = h.name; free = h.free; now = h.now })

by_let : (s u : Script) (name : List ℕ) → SameOrNamed s u → SameOrNamed s (with_let_name name u)
by_let s u name (inl h) = inl h
by_let s u name (inr h) = inr (record { name = h.name; free = h.free; now = h.now })

by_naming : (s u : Script) (n : Named) → is_taken u n.name ≡ false → SameOrNamed s u → SameOrNamed s (with_named n u)
by_naming s u n free (inl h) = inr (record { name = n.name; free = ap (λ names. is_built_in n.name || is_among names n.name) (ap (λ (x : Script). x.taken) h) ∙ free; now = among_last u.taken n.name })
by_naming s u n free (inr h) = inr (record { name = h.name; free = h.free; now = among_still u.taken n.name h.name h.now })

pub same_or_named : (f : Form) (p : Place) (s : Script) → SameOrNamed s (term_from f p s).state
same_or_named f p s =
    (kept_term (SameOrNamed s) (λ t u h. by_term s u t h) (λ name u h. by_let s u name h) (λ n u free h. by_naming s u n free h) f p s
    (inl refl)).0

or_parts : (x y : Bool) → (x || y) ≡ false → y ≡ false
or_parts true y e = absurd (cc)
or_parts false y e = e

clash : (b : Bool) → b ≡ true → b ≡ false → ⊥
clash b h k = let e : true ≡ false = sym h ∙ k in cc

-- the entries are those of both scripts, so no name is newly taken
none_new : (w v : SymbolsAndTerms) (k : KnownView) (s u : Script) (name : List ℕ) (o : Option KnownEntry) → is_taken s name ≡ false → is_among u.taken name ≡ true
    → IsNameMeant w k s name o → IsNameMeant v k u name o → ⊥
none_new w v k s u name None free now h g = clash (is_among u.taken name) now g.1.free
none_new w v k s u name (Some (KnownEntry.Function n)) free now h g = clash (is_among s.taken name) h.function.taken (or_parts (is_built_in name) _ free)
none_new w v k s u name (Some KnownEntry.Reserved) free now h g = clash (is_among s.taken name) h.taken (or_parts (is_built_in name) _ free)
none_new w v k s u name (Some (KnownEntry.Macro n)) free now h g = clash (is_among s.taken name) h.taken (or_parts (is_built_in name) _ free)
none_new w v k s u name (Some (KnownEntry.Named n)) free now h g = clash (is_among s.taken name) h.taken (or_parts (is_built_in name) _ free)

-- After a reading with the same entries names say the same.
pub unnamed : (w v : SymbolsAndTerms) (k : KnownView) (f : Form) (p : Place) (s : Script) → IsScript w k s → IsScript v k (term_from f p s).state → SayTheSame s (term_from f p s).state
unnamed w v k f p s h g = go (same_or_named f p s)
  where
    go : SameOrNamed s (term_from f p s).state → SayTheSame s (term_from f p s).state
    go (inl same) = same
    go (inr new) = absurd (none_new w v k s _ new.name (known_entry k new.name) new.free new.now (h.names new.name) (g.names new.name))
