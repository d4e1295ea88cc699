-- Cited by crates above. Where lets are replaced, no term that is read has one, as long as no body of a macro has one.
use Rattle.std.proofs.Common.{◌≡◌, ℕ, List, [], ◌∷◌, ◌++◌, map, zip, Bool, true, false, ◌||◌, Option, Some, None, IfSome, find, option_map, option_and_then, bytes_eq, if◌then◌else◌, refl}
use Rattle.std.specs.List.{AllByRecursion, list_all}
use Rattle.std.specs.Prelude.{⊤}
use Rattle.sexpr.specs.declared.causes.Cause.{Cause}
use Rattle.sexpr.specs.declared.causes.Cause.TheVariants.{Repeated, TooHigh, SortMismatch}
use Rattle.term_model.specs.declared.symbols.Sort.{Sort}
use Rattle.term_model.specs.declared.symbols.Op.{Op}
use Rattle.term_model.specs.Terms.{Var, Fun, Term, numeral, operation, call, let_in}
use Rattle.term_model.specs.Sorts.{sorts_eq, operation_sort, call_sort}
use Rattle.term_model.specs.Heights.{height}
use Rattle.term_model.proofs.Lists.{all_joined}
use Rattle.problem_text.specs.Words.{is_among, is_built_in, operator_named}
use Rattle.text_items.specs.ItemShapes.{Name}
use Rattle.problem_text.specs.Forms.{Form, faulty, number, symbol, application, let_form, annotated, Forms, no_forms, form, LetBinds, no_binds, bind}
use Rattle.problem_text.specs.Limits.{is_low}
use Rattle.rule_model.specs.Replacement.{replaced, free_variables, HasNoLet, HaveNoLet}
use Rattle.problem_text.specs.TypedTerms.{Typed}
use Rattle.problem_text.specs.Outcomes.{Outcome, done, refuse, and_then}
use Rattle.problem_text.specs.Scripts.{Named, Script, is_taken, with_named, with_term, with_let_name}
use Rattle.problem_text.specs.Names.{Bound, Place, itself, innermost, is_bound, replacement, Meaning, value, macro, function, operator, meaning_of_bound, meaning_of_named, meaning_of, trees, sorts_of, expansion, meaning_applied, refusal_of, let_bindings_of, place_inside, let_term}
use Rattle.problem_text.specs.Terms.{settled, with_meaning, with_names, term_from, terms_from, bounds_from}
use Rattle.problem_text.proofs.Outcomes.{Ends, ends-and_then, if_found, if_some-or, if_some-map, if_some-and_then}
use Rattle.rule_model.proofs.Replacing.{AreLetFree, replaced-let_free}

-- where lets are replaced, a term has none, and nothing in scope stands for a term with one
abbrev pub IsFreeIn : Place → Typed → Type 0
IsFreeIn p t = p.settings.replaces_lets ≡ true → HasNoLet t.tree

abbrev pub AreBoundFree : Place → List Bound → Type 0
AreBoundFree p bs = p.settings.replaces_lets ≡ true → AllByRecursion (λ b. HasNoLet b.stands_for) bs

abbrev IsFreeMeaning : Place → Meaning → Type 0
IsFreeMeaning p (value t) = IsFreeIn p t
IsFreeMeaning p (macro m) = HasNoLet m.body
IsFreeMeaning p (function f) = ⊤
IsFreeMeaning p (operator op) = ⊤

-- a parameter stands for itself
pub parameters-free : (xs : List Var) → AllByRecursion (λ b. HasNoLet b.stands_for) (map itself xs)
parameters-free [] = tt
parameters-free (x ∷ xs) = (tt, parameters-free xs)

-- what is said of a script: at least that no macro that a name is found to be has a let
module _ (ArePlain : Script → Type 0) (found_plain : (s : Script) (name : List ℕ) → ArePlain s → IfSome (find (λ m. bytes_eq m.name name) s.macros) (λ m. HasNoLet m.body))
    (after_term : (t : Term) (s : Script) → ArePlain s → ArePlain (with_term t s)) (after_naming : (n : Named) (s : Script) → ArePlain s → ArePlain (with_named n s))
    (after_let_name : (name : List ℕ) (s : Script) → ArePlain s → ArePlain (with_let_name name s)) where
  replacement-free : (scope : List Bound) → AllByRecursion (λ b. HasNoLet b.stands_for) scope → AreLetFree (replacement scope)
  replacement-free [] h = tt
  replacement-free (b ∷ scope) h = (h.0, replacement-free scope h.1)

  named-free : (p : Place) (t : Typed) → AreBoundFree p p.scope → IfSome (meaning_of_named p t) (IsFreeMeaning p)
  named-free p t h = go (list_all (is_bound p.scope) (free_variables t.tree)) p.settings.replaces_lets refl
    where
      go : (b c : Bool) → p.settings.replaces_lets ≡ c → IfSome (if b then Some (value (if c then record { tree = replaced (replacement p.scope) t.tree; sort = t.sort } else t)) else None) (IsFreeMeaning p)
      go true true e = λ _. replaced-let_free t.tree (replacement p.scope) (replacement-free p.scope (h e))
      go true false e = λ f. absurd cc
      go false c e = tt

  bound-found : (p : Place) (name : List ℕ) → AreBoundFree p p.scope → IfSome (innermost p.scope name) (λ b. p.settings.replaces_lets ≡ true → HasNoLet b.stands_for)
  bound-found p name h = if_found (λ b. p.settings.replaces_lets ≡ true → HasNoLet b.stands_for) (λ b. bytes_eq b.variable.name name) p.scope (spread p.scope h)
    where
      spread : (bs : List Bound) → AreBoundFree p bs → AllByRecursion (λ b. p.settings.replaces_lets ≡ true → HasNoLet b.stands_for) bs
      spread [] h = tt
      spread (b ∷ bs) h = (λ e. (h e).0, spread bs (λ e. (h e).1))

  functions-free : (p : Place) (o : Option Fun) → IfSome (option_map function o) (IsFreeMeaning p)
  functions-free p None = tt
  functions-free p (Some f) = tt

  operators-free : (p : Place) (o : Option Op) → IfSome (option_map operator o) (IsFreeMeaning p)
  operators-free p None = tt
  operators-free p (Some op) = tt

  no_claim : {X : Type 0} (xs : List X) → AllByRecursion (λ _. ⊤) xs
  no_claim [] = tt
  no_claim (x ∷ xs) = (tt, no_claim xs)

  meaning-free : (p : Place) (s : Script) (name : List ℕ) → AreBoundFree p p.scope → ArePlain s → IfSome (meaning_of p s name) (IsFreeMeaning p)
  unfolding meaning_of
  meaning-free p s name h plain =
      let named = find (λ n. bytes_eq n.name name) s.named in
      let macros = find (λ m. bytes_eq m.name name) s.macros in
      let functions = find (λ f. bytes_eq f.name name) s.functions in
      if_some-or (IsFreeMeaning p) (option_map meaning_of_bound (innermost p.scope name)) _
      (if_some-map (λ b. p.settings.replaces_lets ≡ true → HasNoLet b.stands_for) (IsFreeMeaning p) meaning_of_bound (innermost p.scope name) (bound-found p name h) (λ b e. e))
      (if_some-or (IsFreeMeaning p) (option_and_then (λ n. meaning_of_named p n.meant) named) _
      (if_some-and_then (λ _. ⊤) (IsFreeMeaning p) (λ n. meaning_of_named p n.meant) named (if_found (λ _. ⊤) (λ n. bytes_eq n.name name) s.named (no_claim s.named)) (λ n _. named-free p n.meant h))
      (if_some-or (IsFreeMeaning p) (option_map macro macros) _
      (if_some-map (λ m. HasNoLet m.body) (IsFreeMeaning p) macro macros (found_plain s name plain) (λ m e. e))
      (if_some-or (IsFreeMeaning p) (option_map function functions) (option_map operator (operator_named name))
      (functions-free p functions) (operators-free p (operator_named name)))))

  abbrev AreFreeIn : Place → List Typed → Type 0
  AreFreeIn p ts = AllByRecursion (IsFreeIn p) ts

  arguments-free : (p : Place) (ts : List Typed) → AreFreeIn p ts → p.settings.replaces_lets ≡ true → HaveNoLet (trees ts)
  arguments-free p [] h e = tt
  arguments-free p (t ∷ ts) h e = (h.0 e, arguments-free p ts h.1 e)

  zip-free : (p : Place) (xs : List Var) (ts : List Typed) → AreFreeIn p ts → p.settings.replaces_lets ≡ true → AreLetFree (zip xs (map (λ t. t.tree) ts))
  zip-free p [] ts h e = tt
  zip-free p (x ∷ xs) [] h e = tt
  zip-free p (x ∷ xs) (t ∷ ts) h e = (h.0 e, zip-free p xs ts h.1 e)

  applied-free : (p : Place) (m : Meaning) (ts : List Typed) → IsFreeMeaning p m → AreFreeIn p ts → IfSome (meaning_applied m ts) (IsFreeIn p)
  unfolding meaning_applied
  applied-free p (value t) [] fit h = fit
  applied-free p (value t) (a ∷ ts) fit h = tt
  applied-free p (macro m) ts fit h = go (sorts_eq (map (λ x. x.sort) m.parameters) (sorts_of ts))
    where
      go : (b : Bool) → IfSome (if b then Some (record { tree = expansion m ts; sort = m.target }) else None) (IsFreeIn p)
      go true = λ e. replaced-let_free m.body (zip m.parameters (map (λ t. t.tree) ts)) (zip-free p m.parameters ts h e)
      go false = tt
  applied-free p (function f) ts fit h = go (call_sort f (sorts_of ts))
    where
      go : (o : Option Sort) → IfSome (option_map (λ s. record { tree = call f (trees ts); sort = s }) o) (IsFreeIn p)
      go None = tt
      go (Some s) = λ e. arguments-free p ts h e
  applied-free p (operator op) ts fit h = go (operation_sort op (trees ts) (sorts_of ts))
    where
      go : (o : Option Sort) → IfSome (option_map (λ s. record { tree = operation op (trees ts); sort = s }) o) (IsFreeIn p)
      go None = tt
      go (Some s) = λ e. arguments-free p ts h e

  themselves-free : (bs : List Bound) → AllByRecursion (λ b. HasNoLet b.stands_for) (map (λ b. itself b.variable) bs)
  themselves-free [] = tt
  themselves-free (b ∷ bs) = (tt, themselves-free bs)

  inside-free : (p : Place) (bs : List Bound) → AreBoundFree p p.scope → AreBoundFree p bs → AreBoundFree (place_inside bs p) (place_inside bs p).scope
  inside-free p bs h k e = go p.settings.replaces_lets
    where
      go : (b : Bool) → AllByRecursion (λ b. HasNoLet b.stands_for) ((if b then bs else map (λ b. itself b.variable) bs) ++ p.scope)
      go true = all_joined (λ b. HasNoLet b.stands_for) bs p.scope (k e) (h e)
      go false = all_joined (λ b. HasNoLet b.stands_for) (map (λ b. itself b.variable) bs) p.scope (themselves-free bs) (h e)

  let-free : (p : Place) (bs : List Bound) (t : Typed) → IsFreeIn p t → IsFreeIn p (let_term p bs t)
  let-free p bs t h = go p.settings.replaces_lets refl
    where
      go : (b : Bool) → p.settings.replaces_lets ≡ b → p.settings.replaces_lets ≡ true → HasNoLet (if b then t else record { tree = let_in (let_bindings_of bs) t.tree; sort = t.sort }).tree
      go true e f = h e
      go false e f = absurd cc

  settled-free : (p : Place) (cause : Cause) (place : ℕ) (o : Option Typed) (s : Script) → ArePlain s → IfSome o (IsFreeIn p) → Ends ArePlain (IsFreeIn p) (settled cause p.settings.limit place o s)
  settled-free p cause place None s plain h = (plain, tt)
  settled-free p cause place (Some t) s plain h = go (is_low p.settings.limit (height t.tree))
    where
      go : (b : Bool) → Ends ArePlain (IsFreeIn p) (if b then done t (with_term t.tree s) else refuse TooHigh place (with_term t.tree s))
      go true = (after_term t.tree s plain, h)
      go false = (after_term t.tree s plain, tt)

  with_meaning-free : {A : Type 0} (p : Place) (Q : A → Type 0) (place : ℕ) (o : Option Meaning) (s : Script) (next : Meaning → Outcome Script A) → ArePlain s → IfSome o (IsFreeMeaning p) → ((m : Meaning) → IsFreeMeaning p m → Ends ArePlain Q (next m)) → Ends ArePlain Q (with_meaning place o s next)
  with_meaning-free p Q place (Some m) s next plain fit k = k m fit
  with_meaning-free p Q place None s next plain fit k = (plain, tt)

  unless_repeated : {A : Type 0} (Q : A → Type 0) (b : Bool) (place : ℕ) (s : Script) (o : Outcome Script A) → ArePlain s → Ends ArePlain Q o → Ends ArePlain Q (if b then refuse Repeated place s else o)
  unless_repeated Q true place s o plain h = (plain, tt)
  unless_repeated Q false place s o plain h = h

  with_names-free : (p : Place) (ns : List Name) (t : Typed) (s : Script) → ArePlain s → IsFreeIn p t → Ends ArePlain (IsFreeIn p) (with_names t ns s)
  with_names-free p [] t s plain h = (plain, h)
  with_names-free p (n ∷ ns) t s plain h =
      unless_repeated (IsFreeIn p) (is_taken s n.name) n.place s _ plain
      (with_names-free p ns t (with_named (record { name = n.name; meant = t }) s) (after_naming (record { name = n.name; meant = t }) s plain) h)

  mutual
    unfolding term_from

    pub term-free : (f : Form) (p : Place) (s : Script) → AreBoundFree p p.scope → ArePlain s → Ends ArePlain (IsFreeIn p) (term_from f p s)
    term-free (faulty cause place) p s h plain = (plain, tt)
    term-free (number place n) p s h plain = settled-free p SortMismatch place (Some (record { tree = numeral n; sort = Sort.Int })) s plain (λ _. tt)
    term-free (symbol n) p s h plain =
        with_meaning-free p (IsFreeIn p) n.place (meaning_of p s n.name) s (λ m. settled SortMismatch p.settings.limit n.place (meaning_applied m []) s) plain (meaning-free p s n.name h plain)
        (λ m fit. settled-free p SortMismatch n.place (meaning_applied m []) s plain (applied-free p m [] fit tt))
    term-free (application place head fs) p s h plain =
        with_meaning-free p (IsFreeIn p) head.place (meaning_of p s head.name) s (λ m. and_then (terms_from fs p s) (λ ts after. settled (refusal_of m ts) p.settings.limit place (meaning_applied m ts) after)) plain (meaning-free p s head.name h plain)
        (λ m fit. ends-and_then ArePlain (AreFreeIn p) (IsFreeIn p) (terms_from fs p s) (λ ts after. settled (refusal_of m ts) p.settings.limit place (meaning_applied m ts) after) (terms-free fs p s h plain)
        (λ ts after read plain'. settled-free p (refusal_of m ts) place (meaning_applied m ts) after plain' (applied-free p m ts fit read)))
    term-free (let_form place bs body) p s h plain =
        ends-and_then ArePlain (AreBoundFree p) (IsFreeIn p) (bounds_from bs [] p s) (λ bound after. and_then (term_from body (place_inside bound p) after) (λ t last. settled SortMismatch p.settings.limit place (Some (let_term p bound t)) last)) (bounds-free bs [] p s h plain)
        (λ bound after fit plain'. ends-and_then ArePlain (IsFreeIn p) (IsFreeIn p) (term_from body (place_inside bound p) after) (λ t last. settled SortMismatch p.settings.limit place (Some (let_term p bound t)) last) (term-free body (place_inside bound p) after (inside-free p bound h fit) plain')
        (λ t last read plain''. settled-free p SortMismatch place (Some (let_term p bound t)) last plain'' (let-free p bound t read)))
    term-free (annotated place f names) p s h plain =
        ends-and_then ArePlain (IsFreeIn p) (IsFreeIn p) (term_from f p s) (λ t after. with_names t names after) (term-free f p s h plain)
        (λ t after read plain'. with_names-free p names t after plain' read)

    pub terms-free : (fs : Forms) (p : Place) (s : Script) → AreBoundFree p p.scope → ArePlain s → Ends ArePlain (AreFreeIn p) (terms_from fs p s)
    terms-free no_forms p s h plain = (plain, tt)
    terms-free (form f fs) p s h plain =
        ends-and_then ArePlain (IsFreeIn p) (AreFreeIn p) (term_from f p s) (λ t after. and_then (terms_from fs p after) (λ ts last. done (t ∷ ts) last)) (term-free f p s h plain)
        (λ t after read plain'. ends-and_then ArePlain (AreFreeIn p) (AreFreeIn p) (terms_from fs p after) (λ ts last. done (t ∷ ts) last) (terms-free fs p after h plain')
        (λ ts last all plain''. (plain'', (read, all))))

    pub bounds-free : (bs : LetBinds) (earlier : List (List ℕ)) (p : Place) (s : Script) → AreBoundFree p p.scope → ArePlain s → Ends ArePlain (AreBoundFree p) (bounds_from bs earlier p s)
    bounds-free no_binds earlier p s h plain = (plain, λ _. tt)
    bounds-free (bind n f bs) earlier p s h plain =
        unless_repeated (AreBoundFree p) (is_built_in n.name || is_among earlier n.name) n.place s _ plain
        (ends-and_then ArePlain (IsFreeIn p) (AreBoundFree p) (term_from f p (with_let_name n.name s)) _ (term-free f p (with_let_name n.name s) h (after_let_name n.name s plain))
        (λ t after read plain'. ends-and_then ArePlain (AreBoundFree p) (AreBoundFree p) (bounds_from bs (n.name ∷ earlier) p after) _ (bounds-free bs (n.name ∷ earlier) p after h plain')
        (λ bound last all plain''. (plain'', λ e. (read e, all e)))))
