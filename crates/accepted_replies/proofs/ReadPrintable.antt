-- Private. What is read as a term is printable where it was read, behind each later script without macros and named terms.
use Rattle.std.proofs.Common.{◌≡◌, ℕ, Bool, true, false, ◌||◌, Option, Some, None, IfSome, List, [], ◌∷◌, ◌++◌, map, bytes_eq, find}
use Rattle.std.proofs.Common.{if◌then◌else◌, option_map, Result, Ok, Err, refl, sym, ap, ◌∙◌, subst}
use Rattle.std.specs.Prelude.{⊤, Contains}
use Rattle.std.specs.List.{AllByRecursion}
use Rattle.std.specs.Option.{option_or}
use Rattle.std.proofs.lemmas.List.Elements.{Contains-append_left}
use Rattle.std.proofs.lemmas.Slice.Eq.{bytes_eq-Decides}
use Rattle.sexpr.specs.declared.causes.Cause.{Cause}
use Rattle.sexpr.specs.declared.causes.Cause.TheVariants.{Repeated, TooHigh, SortMismatch}
use Rattle.sexpr.specs.declared.causes.Refusal.{Refusal}
use Rattle.sym_table.specs.Words.{operator_symbol}
use Rattle.term_model.specs.declared.symbols.Op.{Op}
use Rattle.term_model.specs.declared.symbols.Sort.{Sort}
use Rattle.term_model.specs.Heights.{height}
use Rattle.term_model.specs.Sorts.{call_sort, operation_sort}
use Rattle.term_model.specs.Terms.{Var, Fun, Term, numeral, variable, operation, call}
use Rattle.term_model.proofs.Lists.{contains_head, contains_later}
use Rattle.text_items.specs.ItemShapes.{Name}
use Rattle.problem_text.specs.Forms.{Form, faulty, number, symbol, application, let_form, annotated, Forms, no_forms, form, LetBinds, no_binds, bind}
use Rattle.problem_text.specs.Limits.{is_low, limited}
use Rattle.problem_text.specs.Names.{Bound, Place, itself, innermost, Meaning, value, macro, function, operator, meaning_of, meaning_applied, refusal_of}
use Rattle.problem_text.specs.Names.{trees, sorts_of, let_bindings_of, place_inside, let_term}
use Rattle.problem_text.specs.Outcomes.{Outcome, done, refuse, and_then, going_on}
use Rattle.problem_text.specs.PrintedTerms.{IsPrintable, ArePrintable, AreBoundPrintable, bounds_in, BindsSome}
use Rattle.problem_text.specs.Scripts.{Script, is_taken, with_named, with_term, with_let_name}
use Rattle.problem_text.specs.Terms.{settled, with_meaning, with_names, term_from, terms_from, bounds_from}
use Rattle.problem_text.specs.TypedTerms.{Typed}
use Rattle.problem_text.specs.Words.{is_among, is_built_in, operator_named, operators}
use Rattle.problem_text.proofs.Outcomes.{if_found}
use Rattle.readable_proofs.specs.Names.{IsWellNamed, AreOwnNames}
use Rattle.accepted_replies.proofs.OwnNames.{ArePrintableTerms, there, found_there, operator_leads, function_leads, name_usable}
use Rattle.accepted_replies.proofs.ReadForms.{BindsOne, IsGoodForm, AreGoodForms, AreGoodBinds}

-- Q of what was read and of the state behind it
abbrev pub AfterRead : {S A : Type 0} → (A → S → Type 0) → Result A Refusal → S → Type 0
AfterRead Q (Ok a) s = Q a s
AfterRead Q (Err refusal) s = ⊤

abbrev pub Reads : {S A : Type 0} → (A → S → Type 0) → Outcome S A → Type 0
Reads Q o = AfterRead Q o.result o.state

pub goes_on : {S A B : Type 0} (Q : A → S → Type 0) (R : B → S → Type 0) (r : Result A Refusal) (s : S) (next : A → S → Outcome S B)
    → AfterRead Q r s → ((a : A) (u : S) → Q a u → Reads R (next a u)) → Reads R (going_on r s next)
goes_on Q R (Ok a) s next h k = k a s h
goes_on Q R (Err refusal) s next h k = tt

-- where assertions are read
abbrev pub here : List Bound → Place
here scope = record { scope = scope; settings = limited false }

pub record Grown (s u : Script) : Type 0 where
  pub functions : s.functions ≡ u.functions
  pub macros : s.macros ≡ u.macros
  pub assertions : s.assertions ≡ u.assertions
  pub named : u.named ≡ [] → s.named ≡ []
  pub names : (name : List ℕ) → Contains s.let_names name → Contains u.let_names name

grown_same : (s : Script) → Grown s s
grown_same s = record { functions = refl; macros = refl; assertions = refl; named = λ e. e; names = λ name has. has }

grown_then : (s t u : Script) → Grown s t → Grown t u → Grown s u
grown_then s t u g h = record {
  functions = g.functions ∙ h.functions;
  macros = g.macros ∙ h.macros;
  assertions = g.assertions ∙ h.assertions;
  named = λ e. g.named (h.named e);
  names = λ name has. h.names name (g.names name has);
}

-- a list with an item more is not empty
pub not_empty : {X : Type 0} (xs : List X) (x : X) → xs ++ x ∷ [] ≡ [] → ⊥
not_empty [] x e = cc
not_empty (y ∷ ys) x e = cc

module _ (printable : ArePrintableTerms) (z : Script) (well : IsWellNamed z) (own : AreOwnNames z.let_names) (no_macros : z.macros ≡ [])
    (no_named : z.named ≡ []) where
  -- the script is one from which this one came
  pub record IsBefore (u : Script) : Type 0 where
    pub functions : (f : Fun) → Contains u.functions f → Contains z.functions f
    pub names : (name : List ℕ) → Contains u.let_names name → Contains z.let_names name
    pub macros : u.macros ≡ []
    pub named : u.named ≡ []

  pub earlier : (s u : Script) → Grown s u → IsBefore u → IsBefore s
  earlier s u g b = record {
    functions = λ f has. b.functions f (subst (λ fs. Contains fs f) g.functions has);
    names = λ name has. b.names name (g.names name has);
    macros = g.macros ∙ b.macros;
    named = g.named b.named;
  }

  -- variables in scope stand for themselves, by names that lets bound
  abbrev pub AreKnown : List Bound → Type 0
  AreKnown scope = AllByRecursion (λ b. (b.stands_for ≡ variable b.variable) × Contains z.let_names b.variable.name) scope

  abbrev IsRead : List Bound → Script → Typed → Script → Type 0
  IsRead scope s t u = Grown s u × (IsBefore u → AreKnown scope → IsPrintable (there scope) z t.tree)

  abbrev AreRead : List Bound → Script → List Typed → Script → Type 0
  AreRead scope s ts u = Grown s u × (IsBefore u → AreKnown scope → AllByRecursion (λ t. IsPrintable (there scope) z t.tree) ts)

  pub record AreBoundsRead (binds : LetBinds) (names : List (List ℕ)) (scope : List Bound) (s : Script) (bs : List Bound) (u : Script) : Type 0 where
    pub grown : Grown s u
    pub printed : IsBefore u → AreKnown scope → AreBoundPrintable (there scope) z names (let_bindings_of bs)
    pub known : IsBefore u → AllByRecursion (λ b. Contains z.let_names b.variable.name) bs
    pub some : BindsOne binds → BindsSome (let_bindings_of bs)

  -- what a name means that was read
  abbrev IsMeant : List Bound → Meaning → Type 0
  IsMeant scope (value t) =
      (x : Var) × (t ≡ record { tree = variable x; sort = x.sort }) × Contains z.let_names x.name × (innermost scope x.name ≡ Some (itself x))
  IsMeant scope (macro m) = ⊥
  IsMeant scope (function f) = Contains z.functions f × (innermost scope f.name ≡ None)
  IsMeant scope (operator op) = innermost scope (operator_symbol op) ≡ None

  same_name : (a b : List ℕ) → bytes_eq a b ≡ true → a ≡ b
  same_name a b e = (bytes_eq-Decides a b).0 e

  found_bound : (scope : List Bound) (name : List ℕ) (b : Bound) → AreKnown scope → innermost scope name ≡ Some b
      → IsMeant scope (value (record { tree = b.stands_for; sort = b.variable.sort }))
  found_bound scope name b known e =
      let is : (b.stands_for ≡ variable b.variable) × Contains z.let_names b.variable.name =
      subst (λ o. IfSome o (λ (c : Bound). (c.stands_for ≡ variable c.variable) × Contains z.let_names c.variable.name)) e
      (if_found (λ (c : Bound). (c.stands_for ≡ variable c.variable) × Contains z.let_names c.variable.name)
      (λ c. bytes_eq c.variable.name name) scope known) in
      let passes : bytes_eq b.variable.name name ≡ true =
      (subst (λ o. IfSome o (λ (c : Bound). Contains scope c × (bytes_eq c.variable.name name ≡ true))) e
      (found_there (λ c. bytes_eq c.variable.name name) scope)).1 in
      let same : name ≡ b.variable.name = sym (same_name b.variable.name name passes) in (
        b.variable,
        ap (λ t. record { tree = t; sort = b.variable.sort }) is.0,
        is.1,
        subst (λ n. innermost scope n ≡ Some (itself b.variable)) same
            (e ∙ ap (λ t. Some (record { variable = b.variable; stands_for = t })) is.0),
      )

  meant : (scope : List Bound) (s : Script) (name : List ℕ) → IsBefore s → AreKnown scope → IfSome (meaning_of (here scope) s name) (IsMeant scope)
  unfolding meaning_of
  meant scope s name before known =
      let no_macro = before.macros in
      let no_name = before.named in
      rw (no_macro, no_name) (go (innermost scope name) refl)
    where
      by_operator : innermost scope name ≡ None → IfSome (option_map operator (operator_named name)) (IsMeant scope)
      by_operator none = found (operator_named name) (found_there (λ op. bytes_eq (operator_symbol op) name) operators)
        where
          found : (o : Option Op) → IfSome o (λ op. Contains operators op × (bytes_eq (operator_symbol op) name ≡ true)) →
              IfSome (option_map operator o) (IsMeant scope)
          found None h = tt
          found (Some op) h = subst (λ n. innermost scope n ≡ None) (sym (same_name (operator_symbol op) name h.1)) none

      by_function : innermost scope name ≡ None
          → IfSome (option_or (option_map function (find (λ (f : Fun). bytes_eq f.name name) s.functions)) (option_map operator (operator_named name)))
          (IsMeant scope)
      by_function none = found (find (λ (f : Fun). bytes_eq f.name name) s.functions) (found_there (λ (f : Fun). bytes_eq f.name name) s.functions)
        where
          found : (o : Option Fun) → IfSome o (λ (f : Fun). Contains s.functions f × (bytes_eq f.name name ≡ true))
              → IfSome (option_or (option_map function o) (option_map operator (operator_named name))) (IsMeant scope)
          found None h = by_operator none
          found (Some f) h =
              (before.functions f h.0, subst (λ n. innermost scope n ≡ None) (sym (same_name f.name name h.1)) none)

      go : (o : Option Bound) → innermost scope name ≡ o
          → IfSome (option_or (option_map (λ (b : Bound). value (record { tree = b.stands_for; sort = b.variable.sort })) o)
          (option_or (option_map function (find (λ (f : Fun). bytes_eq f.name name) s.functions)) (option_map operator (operator_named name)))) (IsMeant scope)
      go None e = by_function e
      go (Some b) e = found_bound scope name b known e

  all_printable : (scope : List Bound) (ts : List Typed) → AllByRecursion (λ t. IsPrintable (there scope) z t.tree) ts → ArePrintable (there scope) z (trees ts)
  all_printable scope [] h = tt
  all_printable scope (t ∷ ts) h = (h.0, all_printable scope ts h.1)

  bound_means : (scope : List Bound) (x : Var) → innermost scope x.name ≡ Some (itself x)
      → meaning_of (there scope) z x.name ≡ Some (value (record { tree = variable x; sort = x.sort }))
  unfolding meaning_of
  bound_means scope x e = rw e refl

  applied : (scope : List Bound) (m : Meaning) (ts : List Typed) → IsMeant scope m → AllByRecursion (λ t. IsPrintable (there scope) z t.tree) ts
      → IfSome (meaning_applied m ts) (λ t. IsPrintable (there scope) z t.tree)
  unfolding meaning_applied
  applied scope (value t) [] (x, is, has, found) all =
      let name = own x.name has in
      subst (λ (u : Typed). IsPrintable (there scope) z u.tree) (sym is)
      ((name_usable printable z well no_macros no_named x name, name.symbol), bound_means scope x found)
  applied scope (value t) (a ∷ ts) m all = tt
  applied scope (macro m) ts none all = absurd none
  applied scope (function f) ts m all = go (call_sort f (sorts_of ts))
    where
      go : (o : Option Sort) → IfSome {T = Typed} (option_map (λ s. record { tree = call f (trees ts); sort = s }) o) (λ t. IsPrintable (there scope) z t.tree)
      go None = tt
      go (Some s) = (function_leads printable z well f m.0, well.functions f m.0 (there scope) m.1, all_printable scope ts all)
  applied scope (operator op) ts m all = go (operation_sort op (trees ts) (sorts_of ts))
    where
      go : (o : Option Sort) →
          IfSome {T = Typed} (option_map (λ s. record { tree = operation op (trees ts); sort = s }) o) (λ t. IsPrintable (there scope) z t.tree)
      go None = tt
      go (Some s) = (operator_leads printable z well op, well.operators op (there scope) m, all_printable scope ts all)

  -- parts of readings
  term_added : (t : Term) (s : Script) → Grown s (with_term t s)
  term_added t s = record { functions = refl; macros = refl; assertions = refl; named = λ e. e; names = λ name has. has }

  let_name_added : (name : List ℕ) (s : Script) → Grown s (with_let_name name s)
  let_name_added name s = record {
    functions = refl;
    macros = refl;
    assertions = refl;
    named = λ e. e;
    names = λ n has. Contains-append_left s.let_names (name ∷ []) n has;
  }

  let_name_there : (name : List ℕ) (s : Script) → Contains (with_let_name name s).let_names name
  let_name_there name s = last s.let_names
    where
      last : (xs : List (List ℕ)) → Contains (xs ++ name ∷ []) name
      last [] = contains_head name []
      last (x ∷ xs) = contains_later x name (xs ++ name ∷ []) (last xs)

  settled_read : (scope : List Bound) (cause : Cause) (place : ℕ) (o : Option Typed) (s u : Script) → Grown s u
      → (IsBefore u → AreKnown scope → IfSome o (λ t. IsPrintable (there scope) z t.tree))
      → Reads (IsRead scope s) (settled cause (here scope).settings.limit place o u)
  settled_read scope cause place None s u g h = tt
  settled_read scope cause place (Some t) s u g h = go (is_low (here scope).settings.limit (height t.tree))
    where
      go : (b : Bool) → Reads (IsRead scope s) (if b then done t (with_term t.tree u) else refuse TooHigh place (with_term t.tree u))
      go true = (
        grown_then s u (with_term t.tree u) g (term_added t.tree u),
        λ before known. h (earlier u (with_term t.tree u) (term_added t.tree u) before) known,
      )
      go false = tt

  -- a name that is known
  by_meaning : {A : Type 0} (Q : A → Script → Type 0) (place : ℕ) (o : Option Meaning) (s : Script) (next : Meaning → Outcome Script A)
      → ((m : Meaning) → o ≡ Some m → Reads Q (next m)) → Reads Q (with_meaning place o s next)
  by_meaning Q place (Some m) s next k = k m refl
  by_meaning Q place None s next k = tt

  names_read : (scope : List Bound) (s : Script) (ns : List Name) (t : Typed) (u : Script) → IsRead scope s t u → Reads (IsRead scope s) (with_names t ns u)
  names_read scope s [] t u h = h
  names_read scope s (n ∷ ns) t u h =
      go (is_taken u n.name)
      (names_read scope s ns t (with_named (record { name = n.name; meant = t }) u) (
        record {
          functions = h.0.functions;
          macros = h.0.macros;
          assertions = h.0.assertions;
          named = λ e. absurd (not_empty u.named (record { name = n.name; meant = t }) e);
          names = h.0.names;
        },
        λ before known. absurd (not_empty u.named (record { name = n.name; meant = t }) before.named),
      ))
    where
      after : Outcome Script Typed
      after = with_names t ns (with_named (record { name = n.name; meant = t }) u)

      go : (b : Bool) → Reads (IsRead scope s) after → Reads (IsRead scope s) (if b then refuse Repeated n.place u else after)
      go true k = tt
      go false k = k

  -- the body of a let stands where the let's variables are known
  bounds_same : (bs : List Bound) → bounds_in (let_bindings_of bs) ≡ bs
  bounds_same [] = refl
  bounds_same (b ∷ bs) = ap (λ others. b ∷ others) (bounds_same bs)

  inside_known : (bs scope : List Bound) → AllByRecursion (λ b. Contains z.let_names b.variable.name) bs → AreKnown scope
      → AreKnown (map (λ b. itself b.variable) bs ++ scope)
  inside_known [] scope h known = known
  inside_known (b ∷ bs) scope h known = ((refl, h.0), inside_known bs scope h.1 known)

  unless_repeated : {A : Type 0} (Q : A → Script → Type 0) (b : Bool) (place : ℕ) (s : Script) (o : Outcome Script A) → (b ≡ false → Reads Q o)
      → Reads Q (if b then refuse Repeated place s else o)
  unless_repeated Q true place s o h = tt
  unless_repeated Q false place s o h = h refl

  reads_then : {A B : Type 0} (Q : A → Script → Type 0) (R : B → Script → Type 0) (o : Outcome Script A) (next : A → Script → Outcome Script B) → Reads Q o
      → ((a : A) (u : Script) → Q a u → Reads R (next a u)) → Reads R (and_then o next)
  reads_then Q R o next h k = goes_on Q R o.result o.state next h k

  let_read : (binds : LetBinds) (scope : List Bound) (s after last : Script) (bs : List Bound) (t : Typed) → BindsOne binds →
      AreBoundsRead binds [] scope s bs after
      → IsRead (map (λ b. itself b.variable) bs ++ scope) after t last → IsBefore last → AreKnown scope
      → IsPrintable (there scope) z (let_term (here scope) bs t).tree
  let_read binds scope s after last bs t one bound body before known =
      let outer = earlier after last body.0 before in
      let inner = body.1 before (inside_known bs scope (bound.known outer) known) in (
        refl,
        bound.some one,
        bound.printed outer known,
        subst (λ cs. IsPrintable (there (map (λ b. itself b.variable) cs ++ scope)) z t.tree) (sym (bounds_same bs)) inner,
      )

  mutual
    unfolding term_from terms_from bounds_from

    pub term_read : (f : Form) (scope : List Bound) (s : Script) → IsGoodForm f → Reads (IsRead scope s) (term_from f (here scope) s)
    term_read (faulty cause place) scope s good = tt
    term_read (number place n) scope s good =
        settled_read scope SortMismatch place (Some (record { tree = numeral n; sort = Sort.Int })) s s (grown_same s) (λ before known. good)
    term_read (symbol n) scope s good =
        by_meaning (IsRead scope s) n.place (meaning_of (here scope) s n.name) s _
        (λ m e. settled_read scope SortMismatch n.place (meaning_applied m []) s s (grown_same s)
        (λ before known. applied scope m [] (subst (λ o. IfSome o (IsMeant scope)) e (meant scope s n.name before known)) tt))
    term_read (application place head fs) scope s good =
        by_meaning (IsRead scope s) head.place (meaning_of (here scope) s head.name) s _
        (λ m e. reads_then (AreRead scope s) (IsRead scope s) (terms_from fs (here scope) s) _ (terms_read fs scope s good)
        (λ ts after h. settled_read scope (refusal_of m ts) place (meaning_applied m ts) s after h.0
        (λ before known. applied scope m ts
        (subst (λ o. IfSome o (IsMeant scope)) e (meant scope s head.name (earlier s after h.0 before) known)) (h.1 before known))))
    term_read (let_form place bs body) scope s good =
        reads_then (AreBoundsRead bs [] scope s) (IsRead scope s) (bounds_from bs [] (here scope) s) _ (bounds_read bs [] scope s good.1)
        (λ bound after h. reads_then (IsRead (map (λ b. itself b.variable) bound ++ scope) after) (IsRead scope s)
        (term_from body (place_inside bound (here scope)) after) _ (term_read body (map (λ b. itself b.variable) bound ++ scope) after good.2)
        (λ t last k. settled_read scope SortMismatch place (Some (let_term (here scope) bound t)) s last (grown_then s after last h.grown k.0)
        (λ before known. let_read bs scope s after last bound t good.0 h k before known)))
    term_read (annotated place f names) scope s good =
        reads_then (IsRead scope s) (IsRead scope s) (term_from f (here scope) s) _ (term_read f scope s good) (λ t after h. names_read scope s names t after h)

    terms_read : (fs : Forms) (scope : List Bound) (s : Script) → AreGoodForms fs → Reads (AreRead scope s) (terms_from fs (here scope) s)
    terms_read no_forms scope s good = (grown_same s, λ before known. tt)
    terms_read (form f fs) scope s good =
        reads_then (IsRead scope s) (AreRead scope s) (term_from f (here scope) s) _ (term_read f scope s good.0)
        (λ t after h. reads_then (AreRead scope after) (AreRead scope s) (terms_from fs (here scope) after) _ (terms_read fs scope after good.1)
        (λ ts last k. (grown_then s after last h.0 k.0, λ before known. (h.1 (earlier after last k.0 before) known, k.1 before known))))

    bounds_read : (bs : LetBinds) (names : List (List ℕ)) (scope : List Bound) (s : Script) → AreGoodBinds bs
        → Reads (AreBoundsRead bs names scope s) (bounds_from bs names (here scope) s)
    bounds_read no_binds names scope s good = record { grown = grown_same s; printed = λ before known. tt; known = λ before. tt; some = λ one. absurd one }
    bounds_read (bind n f bs) names scope s good =
        unless_repeated (AreBoundsRead (bind n f bs) names scope s) (is_built_in n.name || is_among names n.name) n.place s _
        (λ new. let u : Script = with_let_name n.name s in
        reads_then (IsRead scope u) (AreBoundsRead (bind n f bs) names scope s) (term_from f (here scope) u) _ (term_read f scope u good.0)
        (λ t after h. reads_then (AreBoundsRead bs (n.name ∷ names) scope after) (AreBoundsRead (bind n f bs) names scope s)
        (bounds_from bs (n.name ∷ names) (here scope) after) _ (bounds_read bs (n.name ∷ names) scope after good.1)
        (λ bound last k.
        let named : IsBefore last → Contains z.let_names n.name =
        λ before. before.names n.name (k.grown.names n.name (h.0.names n.name (let_name_there n.name s))) in
        record {
          grown = grown_then s u last (let_name_added n.name s) (grown_then u after last h.0 k.grown);
          printed = λ before known.
              ((own n.name (named before)).symbol, new, h.1 (earlier after last k.grown before) known, k.printed before known);
          known = λ before. (named before, k.known before);
          some = λ one. tt;
        })))
