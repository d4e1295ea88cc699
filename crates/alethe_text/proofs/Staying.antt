-- Readings of terms, ids and arguments leave the proof that is written.
use Rattle.std.proofs.Common.{◌≡◌, List, [], ◌∷◌, map, Bool, true, false, All, Contains, find, if◌then◌else◌}
use Rattle.std.specs.Prelude.{bytes_eq}
use Rattle.std.proofs.lemmas.List.Elements.{All-nil, All-cons}
use Rattle.sexpr.specs.declared.causes.Cause.TheVariants.{NoStep, SortMismatch}
use Rattle.sexpr.specs.Items.{Item, word, quoted, string, list, Items, no_items, item, place_of}
use Rattle.term_model.specs.declared.symbols.Sort.{Sort}
use Rattle.term_model.specs.Terms.{Var, Term, sort_eq}
use Rattle.rule_model.specs.Scopes.{Nesting, Scope}
use Rattle.rule_model.specs.Visibility.{Sight}
use Rattle.text_items.specs.ItemShapes.{Name}
use Rattle.problem_text.specs.Terms.{read_term}
use Rattle.alethe_text.specs.States.{ProofSettings, ProofState, ◌>>=◌, give}
use Rattle.alethe_text.specs.Ids.{indices_of}
use Rattle.alethe_text.specs.ProofTerms.{place_in, term_in, formula_in, formulas_in}
use Rattle.alethe_text.specs.Arguments.{is_naming, named_in, named_among, pivots_from}
use Rattle.alethe_text.proofs.Endings.{Ends, and_next, demanded, found_one, in_script_stays}
use Rattle.alethe_text.proofs.Lists.{index_found}

module _ (P : Scope Var Term → Type 0) (settings : ProofSettings) (nesting : Nesting Var Term) where
  -- P of the proof that is written
  abbrev pub Stays : {A : Type 0} → A → ProofState → Type 0
  Stays a t = P t.scope

  pub term_stays : (i : Item) (s : ProofState) → P s.scope → Ends Stays (term_in settings nesting i s)
  unfolding term_in
  term_stays i s p = in_script_stays P (λ sc. read_term i (place_in settings nesting) sc) s p

  pub formula_stays : (i : Item) (s : ProofState) → P s.scope → Ends Stays (formula_in settings nesting i s)
  unfolding formula_in
  formula_stays i s p =
      and_next Stays Stays (term_in settings nesting i) _ s (term_stays i s p)
      (λ t after q. and_next (λ _ u. (sort_eq t.sort Sort.Bool ≡ true) × P u.scope) Stays _ _ after
      (demanded (λ u. P u.scope) (sort_eq t.sort Sort.Bool) SortMismatch (place_of i) after q) (λ _ u h. h.1))

  pub formulas_stay : (items : Items) (s : ProofState) → P s.scope → Ends Stays (formulas_in settings nesting items s)
  unfolding formulas_in
  formulas_stay no_items s p = p
  formulas_stay (item i rest) s p =
      and_next Stays Stays (formula_in settings nesting i) _ s (formula_stays i s p)
      (λ t after q. and_next Stays Stays (formulas_in settings nesting rest) _ after (formulas_stay rest after q) (λ ts last r. r))

  mutual
    unfolding named_in

    pub named_stays : (i : Item) (s : ProofState) → P s.scope → Ends Stays (named_in settings nesting i s)
    named_stays (word place spelling) s p = p
    named_stays (quoted place spelling) s p = p
    named_stays (string place spelling) s p = p
    named_stays (list place items) s p = go (is_naming items) (all_stay items s p)
      where
        go : (b : Bool) → Ends Stays (named_among settings nesting items s) → Ends Stays ((if b then (term_in settings nesting (list place items) >>= λ _. give tt) else named_among settings nesting items) s)
        go true h = and_next Stays Stays (term_in settings nesting (list place items)) _ s (term_stays (list place items) s p) (λ t after q. q)
        go false h = h

    pub all_stay : (items : Items) (s : ProofState) → P s.scope → Ends Stays (named_among settings nesting items s)
    all_stay no_items s p = p
    all_stay (item i rest) s p =
        and_next Stays Stays (named_in settings nesting i) _ s (named_stays i s p) (λ _ after q. all_stay rest after q)

  pub pivots_stay : (items : Items) (s : ProofState) → P s.scope → Ends Stays (pivots_from settings nesting items s)
  unfolding pivots_from
  pivots_stay no_items s p = p
  pivots_stay (item i no_items) s p = and_next Stays Stays (term_in settings nesting i) _ s (term_stays i s p) (λ t after q. q)
  pivots_stay (item i (item truth rest)) s p =
      and_next Stays Stays (term_in settings nesting i) _ s (term_stays i s p)
      (λ t after q. and_next Stays Stays (named_in settings nesting truth) _ after (named_stays truth after q)
      (λ _ behind r. and_next Stays Stays (pivots_from settings nesting rest) _ behind (pivots_stay rest behind r) (λ ps last l. l)))

-- the indices are those of commands that are seen
pub indices_seen : (P : Scope Var Term → Type 0) (sights : List Sight) (ns : List Name) (s : ProofState) → P s.scope → Ends (λ indices t. All (Contains (map (λ c. c.index) sights)) indices × P t.scope) (indices_of sights ns s)
unfolding indices_of
indices_seen P sights [] s p = (All-nil _, p)
indices_seen P sights (n ∷ ns) s p =
    and_next (λ (c : Sight) t. Contains (map (λ c. c.index) sights) c.index × P t.scope) (λ indices t. All (Contains (map (λ c. c.index) sights)) indices × P t.scope) _ _ s
    (found_one (λ (c : Sight). Contains (map (λ c. c.index) sights) c.index) (λ t. P t.scope) (find (λ c. bytes_eq c.id n.name) sights) NoStep n.place s (index_found _ sights) p)
    (λ c after h. and_next (λ indices t. All (Contains (map (λ c. c.index) sights)) indices × P t.scope) (λ indices t. All (Contains (map (λ c. c.index) sights)) indices × P t.scope) (indices_of sights ns) _ after (indices_seen P sights ns after h.1)
    (λ indices last k. (All-cons (Contains (map (λ c. c.index) sights)) c.index indices h.0 k.0, k.1)))
