-- Cited by crates above. What the reading of a term keeps of a script, and that the terms that were read stay read.
use Rattle.std.proofs.Common.{◌≡◌, ℕ, ◌==◌, List, [], ◌∷◌, map, Bool, true, false, ◌||◌, Result, Ok, Err, IfOk, if◌then◌else◌, Option, Some, None, refl}
use Rattle.std.specs.Prelude.{⊤, Contains}
use Rattle.std.proofs.lemmas.List.Elements.{Contains-append_left}
use Rattle.sexpr.specs.declared.causes.Cause.{Cause}
use Rattle.sexpr.specs.declared.causes.Cause.TheVariants.{Repeated, LeftOut, SortMismatch, TooHigh}
use Rattle.sexpr.specs.declared.causes.Refusal.{Refusal}
use Rattle.sexpr.specs.Items.{Item, Items, no_items, item, place_of}
use Rattle.term_model.specs.declared.symbols.Sort.{Sort}
use Rattle.term_model.specs.Terms.{Term, numeral, sort_eq}
use Rattle.term_model.specs.Heights.{height}
use Rattle.problem_text.specs.Words.{is_among, is_built_in, logics}
use Rattle.text_items.specs.ItemShapes.{Name}
use Rattle.problem_text.specs.Forms.{Form, faulty, number, symbol, application, let_form, annotated, Forms, no_forms, form, LetBinds, no_binds, bind, form_of}
use Rattle.problem_text.specs.Limits.{limited, is_low}
use Rattle.problem_text.specs.Commands.{ScriptCommand, set_logic, without_effect, declare_sort, declare_fun, define_fun, assert_term, check_sat, exit, script_command_of}
use Rattle.problem_text.specs.TypedTerms.{Typed}
use Rattle.problem_text.specs.Outcomes.{Outcome, done, refuse, given, and_then}
use Rattle.problem_text.specs.Scripts.{Named, Script, is_taken, with_name, with_named, with_term, with_let_name}
use Rattle.problem_text.specs.Sorts.{sort_from, sorts_from, parameters_from}
use Rattle.problem_text.specs.Names.{Place, Meaning, meaning_of, meaning_applied, refusal_of, place_inside, let_term, itself}
use Rattle.problem_text.specs.Terms.{settled, with_meaning, with_names, term_from, terms_from, bounds_from, read_term}
use Rattle.problem_text.specs.Problems.{logic_set, sort_declared, function_declared, function_defined, term_asserted, script_performed, ends, script_commands}
use Rattle.problem_text.proofs.Outcomes.{Ends, ends-and_then, ends-goes_on}

abbrev pub Anything : {A : Type 0} → A → Type 0
Anything a = ⊤

pub anything : {A : Type 0} (r : Result A Refusal) → IfOk r Anything
anything (Ok a) = tt
anything (Err refusal) = tt

module _ (P : Script → Type 0) where
  abbrev pub Keeps : {A : Type 0} → Outcome Script A → Type 0
  Keeps o = Ends P Anything o

  keeps_then : {A B : Type 0} (o : Outcome Script A) (next : A → Script → Outcome Script B) → P o.state
      → ((a : A) (s : Script) → P s → Keeps (next a s)) → Keeps (and_then o next)
  keeps_then o next h k = ends-and_then P Anything Anything o next (h, anything o.result) (λ a s _ p. k a s p)

  unless : {A : Type 0} (b : Bool) (cause : Cause) (place : ℕ) (s : Script) (o : Outcome Script A) → P s → Keeps o
      → Keeps (if b then refuse cause place s else o)
  unless true cause place s o h k = (h, tt)
  unless false cause place s o h k = k

  where_so : {A : Type 0} (b : Bool) (cause : Cause) (place : ℕ) (s : Script) (o : Outcome Script A) → P s → Keeps o
      → Keeps (if b then o else refuse cause place s)
  where_so true cause place s o h k = k
  where_so false cause place s o h k = (h, tt)

-- what stays as a term is read, the name of a variable is noted, and a name that is not taken is given
module _ (P : Script → Type 0) (after_term : (t : Term) (s : Script) → P s → P (with_term t s))
    (after_let_name : (name : List ℕ) (s : Script) → P s → P (with_let_name name s))
    (after_naming : (n : Named) (s : Script) → is_taken s n.name ≡ false → P s → P (with_named n s)) where
  kept_settled : (cause : Cause) (limit : Option ℕ) (place : ℕ) (o : Option Typed) (s : Script) → P s → Keeps P (settled cause limit place o s)
  kept_settled cause limit place None s h = (h, tt)
  kept_settled cause limit place (Some t) s h = go (is_low limit (height t.tree))
    where
      go : (b : Bool) → Keeps P (if b then done t (with_term t.tree s) else refuse TooHigh place (with_term t.tree s))
      go true = (after_term t.tree s h, tt)
      go false = (after_term t.tree s h, tt)

  by_meaning : (place : ℕ) (o : Option Meaning) (s : Script) (next : Meaning → Outcome Script Typed) → P s
      → ((m : Meaning) → Keeps P (next m)) → Keeps P (with_meaning place o s next)
  by_meaning place None s next h k = (h, tt)
  by_meaning place (Some m) s next h k = k m

  kept_names : (t : Typed) (ns : List Name) (s : Script) → P s → Keeps P (with_names t ns s)
  kept_names t [] s h = (h, tt)
  kept_names t (n ∷ ns) s h = go (is_taken s n.name) refl
      (λ e. kept_names t ns (with_named (record { name = n.name; meant = t }) s) (after_naming (record { name = n.name; meant = t }) s e h))
    where
      after : Outcome Script Typed
      after = with_names t ns (with_named (record { name = n.name; meant = t }) s)

      go : (b : Bool) → is_taken s n.name ≡ b → (is_taken s n.name ≡ false → Keeps P after) → Keeps P (if b then refuse Repeated n.place s else after)
      go true e k = (h, tt)
      go false e k = k e

  mutual
    unfolding term_from terms_from bounds_from

    pub kept_term : (f : Form) (p : Place) (s : Script) → P s → Keeps P (term_from f p s)
    kept_term (faulty cause place) p s h = (h, tt)
    kept_term (number place n) p s h = kept_settled SortMismatch p.settings.limit place (Some (record { tree = numeral n; sort = Sort.Int })) s h
    kept_term (symbol n) p s h = by_meaning n.place (meaning_of p s n.name) s _ h
        (λ m. kept_settled SortMismatch p.settings.limit n.place (meaning_applied m []) s h)
    kept_term (application place head fs) p s h =
        by_meaning head.place (meaning_of p s head.name) s _ h
        (λ m. keeps_then P (terms_from fs p s) _ (kept_terms fs p s h).0
        (λ ts end k. kept_settled (refusal_of m ts) p.settings.limit place (meaning_applied m ts) end k))
    kept_term (let_form place bs body) p s h =
        keeps_then P (bounds_from bs [] p s) _ (kept_bounds bs [] p s h).0
        (λ bound end k. keeps_then P (term_from body (place_inside bound p) end) _ (kept_term body (place_inside bound p) end k).0
        (λ t last l. kept_settled SortMismatch p.settings.limit place (Some (let_term p bound t)) last l))
    kept_term (annotated place f names) p s h = keeps_then P (term_from f p s) _ (kept_term f p s h).0 (λ t end k. kept_names t names end k)

    kept_terms : (fs : Forms) (p : Place) (s : Script) → P s → Keeps P (terms_from fs p s)
    kept_terms no_forms p s h = (h, tt)
    kept_terms (form f fs) p s h =
        keeps_then P (term_from f p s) _ (kept_term f p s h).0
        (λ t end k. keeps_then P (terms_from fs p end) _ (kept_terms fs p end k).0 (λ ts last l. (l, tt)))

    kept_bounds : (bs : LetBinds) (earlier : List (List ℕ)) (p : Place) (s : Script) → P s → Keeps P (bounds_from bs earlier p s)
    kept_bounds no_binds earlier p s h = (h, tt)
    kept_bounds (bind n f bs) earlier p s h =
        let named = after_let_name n.name s h in
        unless P (is_built_in n.name || is_among earlier n.name) Repeated n.place s _ h
        (keeps_then P (term_from f p (with_let_name n.name s)) _ (kept_term f p (with_let_name n.name s) named).0
        (λ t end k. keeps_then P (bounds_from bs (n.name ∷ earlier) p end) _ (kept_bounds bs (n.name ∷ earlier) p end k).0 (λ bound last l. (l, tt))))

-- the term was read, before or now
abbrev pub HasRead : Term → Script → Type 0
HasRead x s = Contains s.terms x

abbrev pub Reads : {A : Type 0} → Term → Outcome Script A → Type 0
Reads x o = Keeps (HasRead x) o

module _ (x : Term) where
  more : (t : Term) (s : Script) → HasRead x s → HasRead x (with_term t s)
  more t s h = Contains-append_left s.terms (t ∷ []) x h

  pub reads_then : {A B : Type 0} (o : Outcome Script A) (next : A → Script → Outcome Script B) → HasRead x o.state
      → ((a : A) (s : Script) → HasRead x s → Reads x (next a s)) → Reads x (and_then o next)
  reads_then o next h k = keeps_then (HasRead x) o next h k

  pub by_settled : (cause : Cause) (limit : Option ℕ) (place : ℕ) (o : Option Typed) (s : Script) → HasRead x s → Reads x (settled cause limit place o s)
  by_settled cause limit place o s h = kept_settled (HasRead x) more (λ name s k. k) (λ n s e k. k) cause limit place o s h

  pub by_names : (t : Typed) (ns : List Name) (s : Script) → HasRead x s → Reads x (with_names t ns s)
  by_names t ns s h = kept_names (HasRead x) more (λ name s k. k) (λ n s e k. k) t ns s h

  pub by_term : (f : Form) (p : Place) (s : Script) → HasRead x s → Reads x (term_from f p s)
  by_term f p s h = kept_term (HasRead x) more (λ name s k. k) (λ n s e k. k) f p s h

  pub by_terms : (fs : Forms) (p : Place) (s : Script) → HasRead x s → Reads x (terms_from fs p s)
  by_terms fs p s h = kept_terms (HasRead x) more (λ name s k. k) (λ n s e k. k) fs p s h

  pub by_bounds : (bs : LetBinds) (earlier : List (List ℕ)) (p : Place) (s : Script) → HasRead x s → Reads x (bounds_from bs earlier p s)
  by_bounds bs earlier p s h = kept_bounds (HasRead x) more (λ name s k. k) (λ n s e k. k) bs earlier p s h

  -- commands
  by_logic : (n : Name) (s : Script) → HasRead x s → Reads x (logic_set n s)
  by_logic n s h = unless (HasRead x) s.has_logic Repeated n.place s _ h (where_so (HasRead x) (is_among logics n.name) LeftOut n.place s _ h (h, tt))

  by_sort : (n : Name) (arity_place arity : ℕ) (s : Script) → HasRead x s → Reads x (sort_declared n arity_place arity s)
  by_sort n arity_place arity s h =
      unless (HasRead x) (is_built_in n.name || is_among s.sorts n.name) Repeated n.place s _ h
      (where_so (HasRead x) (arity == 0) LeftOut arity_place s _ h (h, tt))

  by_function : (n : Name) (items : Items) (target : Item) (s : Script) → HasRead x s → Reads x (function_declared n items target s)
  by_function n items target s h =
      unless (HasRead x) (is_taken s n.name) Repeated n.place s _ h
      (reads_then (given (sorts_from s.sorts items) s) _ h (λ ss end k. reads_then (given (sort_from s.sorts target) end) _ k (λ t last l. (l, tt))))

  by_macro : (n : Name) (parameters : Items) (target body : Item) (s : Script) → HasRead x s → Reads x (function_defined n parameters target body s)
  by_macro n parameters target body s h =
      unless (HasRead x) (is_taken s n.name) Repeated n.place s _ h
      (reads_then (given (parameters_from s.sorts [] parameters) (with_name n.name s)) _ h
      (λ xs named k. reads_then (given (sort_from s.sorts target) named) _ k
      (λ sort sorted l. reads_then (read_term body (record { scope = map itself xs; settings = limited true }) sorted) _ (by_term (form_of body) _ sorted l).0
      (λ t last m. where_so (HasRead x) (sort_eq t.sort sort) SortMismatch (place_of body) last _ m (m, tt)))))

  by_assertion : (replaces : Bool) (i : Item) (s : Script) → HasRead x s → Reads x (term_asserted replaces i s)
  by_assertion replaces i s h =
      reads_then (read_term i (record { scope = []; settings = limited replaces }) s) _ (by_term (form_of i) _ s h).0
      (λ t end k. where_so (HasRead x) (sort_eq t.sort Sort.Bool) SortMismatch (place_of i) end _ k (k, tt))

  pub by_command : (replaces : Bool) (c : ScriptCommand) (s : Script) → HasRead x s → Reads x (script_performed replaces c s)
  unfolding script_performed
  by_command replaces (set_logic n) s h = by_logic n s h
  by_command replaces without_effect s h = (h, tt)
  by_command replaces (declare_sort n arity_place arity) s h = by_sort n arity_place arity s h
  by_command replaces (declare_fun n items target) s h = by_function n items target s h
  by_command replaces (define_fun n parameters target body) s h = by_macro n parameters target body s h
  by_command replaces (assert_term i) s h = by_assertion replaces i s h
  by_command replaces check_sat s h = (h, tt)
  by_command replaces exit s h = (h, tt)

  by_next : (b replaces : Bool) (c : ScriptCommand) (s : Script) (next : Script → Outcome Script ⊤) → HasRead x s
      → ((s : Script) → HasRead x s → Reads x (next s)) → Reads x (if b then done tt s else and_then (script_performed replaces c s) (λ _ end. next end))
  by_next true replaces c s next h k = (h, tt)
  by_next false replaces c s next h k = reads_then (script_performed replaces c s) (λ _ end. next end) (by_command replaces c s h).0 (λ _ end l. k end l)

  pub by_commands : (items : Items) (replaces : Bool) (s : Script) → HasRead x s → Reads x (script_commands replaces items s)
  unfolding script_commands
  by_commands no_items replaces s h = (h, tt)
  by_commands (item i rest) replaces s h =
      ends-goes_on (HasRead x) Anything Anything (script_command_of s.is_checked i) s _ h (anything (script_command_of s.is_checked i))
      (λ c _. by_next (ends c) replaces c s (script_commands replaces rest) h (λ end k. by_commands rest replaces end k))
