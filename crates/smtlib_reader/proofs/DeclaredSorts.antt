-- A sort is declared: the tables stand for the script with the sort then.
use Rattle.std.proofs.Common.{◌≡◌, ◌⊎◌, inl, inr, ◌↔◌, ℕ, ◌==◌, Bool, true, false, ◌||◌, List, [], ◌∷◌, ◌++◌, Option, Some, None, IfSome, IfErr, IsNone, OnOk, refl, sym, ap, subst, ◌∙◌, if◌then◌else◌, Result, Ok, Err}
use Rattle.std.specs.Cmp.Lexicographic.{nat_list_eq_equiv}
use Rattle.std.specs.Option.{is_some}
use Rattle.std.specs.Prelude.{⊤, bytes_eq, position, slice_get}
use Rattle.std.proofs.lemmas.Bool.{or_parts}
use Rattle.std.proofs.lemmas.Map.Views.{list_any-from_Contains}
use Rattle.sym_table.proofs.Places.{position-there}
use Rattle.term_names.proofs.Positions.{list_any-no_place}
use Rattle.smtlib_reader.proofs.SortItems.{among_at}
use Rattle.sexpr.specs.declared.causes.Cause.TheVariants.{Repeated, LeftOut}
use Rattle.sexpr.specs.declared.causes.Refusal.{Refusal}
use Rattle.sym_table.specs.Table.{Table, IsSortName, IsDeclaredSort, Keeps, with_sort_name}
use Rattle.sym_table.specs.Words.{IsBuiltIn, built_in_words}
use Rattle.term_model.specs.declared.symbols.Sort.{Sort}
use Rattle.term_pool.specs.Views.{TermsView}
use Rattle.term_pool.proofs.Keeping.{terms-refl}
use Rattle.problem_text.specs.Commands.{declare_sort}
use Rattle.text_items.specs.ItemShapes.{Name}
use Rattle.problem_text.specs.Problems.{script_performed}
use Rattle.problem_text.specs.Scripts as spec
use Rattle.problem_text.specs.Outcomes.{Outcome, done, refuse}
use Rattle.problem_text.specs.Scripts.{Script}
use Rattle.smtlib_reader.specs.Sessions.{IsSession, top, IsPerformed}
use Rattle.problem_text.specs.Words.{is_among, is_built_in}
use Rattle.term_names.specs.declared.faults.ReadFault.{ReadFault}
use Rattle.smtlib_reader.specs.Sessions.{SessionView}
use Rattle.smtlib_reader.proofs.AgreeingScripts.{idle_agrees}
use Rattle.term_reader.proofs.Coming.{answers, refuses, no_memory}
use Rattle.term_reader.proofs.Staying.{all_stay}
use Rattle.term_expansion.specs.SymbolsAndTerms.{both}
use Rattle.term_reader.specs.Reading.{ComesTo, terms_read}

-- a name among the names has a place
place_among : (names : List (List ℕ)) (name : List ℕ) → is_among names name ≡ true → (n : ℕ) × (slice_get names n ≡ Some name)
place_among names name e = go (position (bytes_eq name) names) refl
  where
    go : (o : Option ℕ) → position (bytes_eq name) names ≡ o → (n : ℕ) × (slice_get names n ≡ Some name)
    go None f = absurd (let g = list_any-no_place (bytes_eq name) names f in cc)
    go (Some k) f = (k, position-there names name k f)

-- what the table finds is among its sorts
pub sort_is_among : (s : Table) (name : List ℕ) (o : Option Sort) → IfSome o (λ sort. IsDeclaredSort s sort name) → IsNone o ↔ (IsSortName s name → ⊥) → is_some o ≡ is_among s.sorts name
sort_is_among s name None found none = sym (go (is_among s.sorts name) (λ h. none.0 refl (place_among s.sorts name h)))
  where
    go : (b : Bool) → (b ≡ true → ⊥) → b ≡ false
    go true h = absurd (h refl)
    go false h = refl
sort_is_among s name (Some Sort.Bool) found none = absurd found
sort_is_among s name (Some Sort.Int) found none = absurd found
sort_is_among s name (Some (Sort.Declared n)) found none = sym (among_at s.sorts n name found)

-- no built-in word passes for none
pub is_no_word : (name : List ℕ) → is_built_in name ≡ false → IsBuiltIn name → ⊥
is_no_word name e h = let f = list_any-from_Contains {eq = bytes_eq} nat_list_eq_equiv name built_in_words h in cc

-- a name that is free is not refused
pub sort_is_free : (s : Table) (name : List ℕ) → (is_built_in name || is_among s.sorts name) ≡ false → IsBuiltIn name ⊎ IsSortName s name → ⊥
sort_is_free s name e (inl h) = is_no_word name (or_parts (is_built_in name) (is_among s.sorts name) e).0 h
sort_is_free s name e (inr (n, there)) =
    let f = (or_parts (is_built_in name) (is_among s.sorts name) e).1 in
    let g = among_at s.sorts n name there in
    cc

-- the script with one more sort
sort_session : (s : Table) (v : TermsView) (name : List ℕ) (sc : Script) → Keeps s (with_sort_name s name) → (d : SessionView) → IsSession (both s v) d sc
    → IsSession (both (with_sort_name s name) v) d (spec.with_sort name sc)
sort_session s v name sc keeps d h = record {
  idle = idle_agrees s (with_sort_name s name) v v keeps (terms-refl v) d.reader sc (spec.with_sort name sc) (top d.reader.replaces_lets) (ap (λ names. names ++ name ∷ []) h.idle.script.sorts)
      (λ other. record { functions = refl; macros = refl; named = refl; taken = refl; back = λ f. f }) h.idle;
  assertions = all_stay s (with_sort_name s name) v v keeps (terms-refl v) d.assertions.items sc.assertions h.assertions;
  has_logic = h.has_logic;
  is_checked = h.is_checked;
}

module _ (s : Table) (v : TermsView) (d : SessionView) (replaces : Bool) (x : Name) (place arity : ℕ) (sc : Script) (is : IsSession (both s v) d sc) where
  abbrev asked : Outcome Script ⊤
  asked = script_performed replaces (declare_sort x place arity) sc

  -- by whether the name is taken, and whether the sort has no parameters
  abbrev sort_by : Bool → Bool → Outcome Script ⊤
  sort_by taken none = if taken then refuse Repeated x.place sc else if none then done tt (spec.with_sort x.name sc) else refuse LeftOut place sc

  sort_parts : (taken none : Bool) → (is_built_in x.name || is_among s.sorts x.name) ≡ taken → (arity == 0) ≡ none → asked ≡ sort_by taken none
  unfolding script_performed
  sort_parts taken none e f =
      ap (λ (names : List (List ℕ)). sort_by (is_built_in x.name || is_among names x.name) (arity == 0)) (sym is.idle.script.sorts)
      ∙ ap (λ b. sort_by b (arity == 0)) e
      ∙ ap (sort_by taken) f

  pub sort_repeated : (r : Refusal) → (is_built_in x.name || is_among s.sorts x.name) ≡ true → r ≡ record { cause = Repeated; at = x.place }
      → ComesTo terms_read v (both s v) (IsPerformed (both s v) d) asked (Err (ReadFault.Text r))
  sort_repeated r taken same = refuses refl (ap (λ o. o.result) (sort_parts true (arity == 0) taken refl) ∙ ap Err (sym same))

  pub sort_left_out : (r : Refusal) → (is_built_in x.name || is_among s.sorts x.name) ≡ false → (arity == 0) ≡ false → r ≡ record { cause = LeftOut; at = place }
      → ComesTo terms_read v (both s v) (IsPerformed (both s v) d) asked (Err (ReadFault.Text r))
  sort_left_out r taken none same = refuses refl (ap (λ o. o.result) (sort_parts false false taken none) ∙ ap Err (sym same))

  pub sort_added : (z : Table) (result : Result Unit ReadFault) → (is_built_in x.name || is_among s.sorts x.name) ≡ false → (arity == 0) ≡ true → OnOk result (z ≡ with_sort_name s x.name)
      → IfErr result (λ fault. fault ≡ ReadFault.Memory) → Keeps s z → ComesTo terms_read v (both z v) (IsPerformed (both z v) d) asked result
  sort_added z (Ok u) taken none added fault keeps =
      let kept : Keeps s (with_sort_name s x.name) = subst (λ (t : Table). Keeps s t) added keeps in
      rw added (answers tt (spec.with_sort x.name sc) refl (sort_parts false true taken none) (record { session = sort_session s v x.name sc kept d is }))
  sort_added z (Err f) taken none added fault keeps = rw fault (no_memory refl)

pub ruleset sort_declared = (sort_repeated, sort_left_out, sort_added)
