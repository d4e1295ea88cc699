-- What is free in a term that is read is free in what the variables in scope stand for.
use Rattle.std.proofs.Common.{◌≡◌, ℕ, zero, suc, List, [], ◌∷◌, ◌++◌, map, zip, Bool, true, false, ◌&&◌, ◌||◌, cond, Option, Some, None, IfSome, find, option_map, option_and_then, bytes_eq, if◌then◌else◌, refl, subst, ◌⊎◌, inl, inr, Contains, arith}
use Rattle.std.specs.List.{AllByRecursion, list_all}
use Rattle.std.specs.Option.{option_map_or}
use Rattle.std.specs.Prelude.{⊤}
use Rattle.sexpr.specs.declared.causes.Cause.{Cause}
use Rattle.sexpr.specs.declared.causes.Cause.TheVariants.{Repeated, TooHigh, SortMismatch}
use Rattle.term_model.specs.declared.symbols.Sort.{Sort}
use Rattle.term_model.specs.declared.symbols.Op.{Op}
use Rattle.term_model.specs.FreeVariables.{Binds, IsFree, IsFreeAmong, IsFreeBound, IsClosed}
use Rattle.term_model.specs.Terms.{Var, var_eq, sort_eq, Fun, Term, numeral, variable, operation, call, let_in, Terms, no_terms, term, Bindings, no_bindings, binding}
use Rattle.term_model.specs.Sorts.{sorts_eq, operation_sort, call_sort}
use Rattle.term_model.proofs.Tests.{var_eq_decides, sorts_eq_decides}
use Rattle.term_model.proofs.Lists.{all_joined}
use Rattle.term_model.specs.Heights.{height}
use Rattle.rule_model.specs.Replacement.{Replacement, replaced_by, replaced, replaced_all, replaced_bindings, free_variables}
use Rattle.rule_model.proofs.Freedom.{IsIn, free-listed}
use Rattle.text_items.specs.ItemShapes.{Name}
use Rattle.problem_text.specs.Words.{is_among, is_built_in, operator_named}
use Rattle.problem_text.specs.Forms as form
use Rattle.problem_text.specs.Forms.{Form, faulty, number, symbol, application, let_form, annotated, Forms, no_forms, no_binds, bind}
use Rattle.problem_text.specs.Limits.{is_low}
use Rattle.problem_text.specs.TypedTerms.{Typed}
use Rattle.problem_text.specs.Outcomes.{Outcome, done, refuse, and_then}
use Rattle.problem_text.specs.Scripts.{Script, is_taken, with_named, with_term, with_let_name}
use Rattle.problem_text.specs.Names.{Bound, Place, itself, innermost, is_bound, replacement, Meaning, value, macro, function, operator, meaning_of_bound, meaning_of_named, meaning_of, trees, sorts_of, expansion, meaning_applied, refusal_of, let_bindings_of, place_inside, let_term}
use Rattle.problem_text.specs.Soundness.{AreThemselves}
use Rattle.problem_text.specs.Terms.{settled, with_meaning, with_names, term_from, terms_from, bounds_from}
use Rattle.problem_text.proofs.Outcomes.{Ends, ends-and_then, if_found, if_some-or, if_some-map, if_some-and_then}

-- Whatever is free in the term is one of these variables.
abbrev pub IsOver : (Var → Type 0) → Term → Type 0
IsOver V t = (x : Var) → IsFree x t → V x

abbrev pub AreOver : (Var → Type 0) → List Bound → Type 0
AreOver V scope = AllByRecursion (λ b. IsOver V b.stands_for) scope

-- Of a script: the free variables of a macro's body are its parameters, and assertions have none.
abbrev pub AreScoped : Script → Type 0
AreScoped s = AllByRecursion (λ m. IsOver (Contains m.parameters) m.body) s.macros × AllByRecursion IsClosed s.assertions

-- what is put in for a variable that a let binds, and for another one
behind_let : (V : Var → Type 0) (bs : Bindings) (p r : Replacement) (y : Var) → AllByRecursion (λ b. IsOver V b.1) (replaced_bindings p bs) → ((¬ Binds bs y) → IsOver V (replaced_by r y)) → IsOver V (replaced_by (replaced_bindings p bs ++ r) y)
unfolding replaced_bindings
behind_let V no_bindings p r y all h = h (λ b. b)
behind_let V (binding z t bs) p r y all h = go (var_eq z y) refl (behind_let V bs p r y all.1)
  where
    go : (b : Bool) → var_eq z y ≡ b → (((¬ Binds bs y) → IsOver V (replaced_by r y)) → IsOver V (replaced_by (replaced_bindings p bs ++ r) y)) → IsOver V (if b then replaced p t else replaced_by (replaced_bindings p bs ++ r) y)
    go true e rest = all.0
    go false e rest = rest (λ free. h (λ bound. elim bound [ inl same ↦ absurd (let f = (var_eq_decides z y).1 same in cc) | inr later ↦ free later ]))

mutual
  unfolding replaced

  pub replaced-over : (V : Var → Type 0) (t : Term) (r : Replacement) → ((y : Var) → IsFree y t → IsOver V (replaced_by r y)) → IsOver V (replaced r t)
  replaced-over V (numeral n) r h = λ x free. absurd free
  replaced-over V (variable y) r h = h y refl
  replaced-over V (operation op ts) r h = replaced_all-over V ts r h
  replaced-over V (call f ts) r h = replaced_all-over V ts r h
  replaced-over V (let_in bs t) r h =
      replaced-over V t (replaced_bindings r bs ++ r)
      (λ y free. behind_let V bs r r y (replaced_bindings-over V bs r (λ z bound. h z (inl bound))) (λ outside. h y (inr (outside, free))))

  replaced_all-over : (V : Var → Type 0) (ts : Terms) (r : Replacement) → ((y : Var) → IsFreeAmong y ts → IsOver V (replaced_by r y)) → (x : Var) → IsFreeAmong x (replaced_all r ts) → V x
  replaced_all-over V no_terms r h x free = absurd free
  replaced_all-over V (term t ts) r h x (inl free) = replaced-over V t r (λ y e. h y (inl e)) x free
  replaced_all-over V (term t ts) r h x (inr free) = replaced_all-over V ts r (λ y e. h y (inr e)) x free

  replaced_bindings-over : (V : Var → Type 0) (bs : Bindings) (r : Replacement) → ((y : Var) → IsFreeBound y bs → IsOver V (replaced_by r y)) → AllByRecursion (λ b. IsOver V b.1) (replaced_bindings r bs)
  replaced_bindings-over V no_bindings r h = tt
  replaced_bindings-over V (binding z t bs) r h = (replaced-over V t r (λ y e. h y (inl e)), replaced_bindings-over V bs r (λ y e. h y (inr e)))

-- the innermost binding of a name is what is put in
scope-found : (V : Var → Type 0) (scope : List Bound) (y : Var) → AreOver V scope → is_bound scope y ≡ true → IsOver V (replaced_by (replacement scope) y)
scope-found V [] y h e = absurd cc
scope-found V (b ∷ scope) y h e = go (bytes_eq b.variable.name y.name) (sort_eq b.variable.sort y.sort) refl e (scope-found V scope y h.1)
  where
    go : (m n : Bool) → sort_eq b.variable.sort y.sort ≡ n → option_map_or (λ c. sort_eq c.variable.sort y.sort) (cond m (Some b) (innermost scope y.name)) false ≡ true
        → (is_bound scope y ≡ true → IsOver V (replaced_by (replacement scope) y)) → IsOver V (if m && n then b.stands_for else replaced_by (replacement scope) y)
    go true true f e rest = h.0
    go true false f e rest = absurd cc
    go false n f e rest = rest e

-- where each variable stands for itself
term_at-itself : (scope : List Bound) (y : Var) → AllByRecursion (λ b. b.stands_for ≡ variable b.variable) scope → replaced_by (replacement scope) y ≡ variable y
term_at-itself [] y h = refl
term_at-itself (b ∷ scope) y h = go (var_eq b.variable y) refl (term_at-itself scope y h.1)
  where
    go : (t : Bool) → var_eq b.variable y ≡ t → replaced_by (replacement scope) y ≡ variable y → (if t then b.stands_for else replaced_by (replacement scope) y) ≡ variable y
    go true e rest = let f = (var_eq_decides b.variable y).0 e in let g = h.0 in cc
    go false e rest = rest

all-bound : (scope : List Bound) (ys : List Var) (y : Var) → list_all (is_bound scope) ys ≡ true → IsIn y ys → is_bound scope y ≡ true
all-bound scope [] y e h = absurd h
all-bound scope (z ∷ ys) y e h = go (is_bound scope z) refl e h (all-bound scope ys y)
  where
    go : (b : Bool) → is_bound scope z ≡ b → (b && list_all (is_bound scope) ys) ≡ true → (z ≡ y) ⊎ IsIn y ys → (list_all (is_bound scope) ys ≡ true → IsIn y ys → is_bound scope y ≡ true) → is_bound scope y ≡ true
    go true f e (inl same) rest = subst (λ x. is_bound scope x ≡ true) same f
    go true f e (inr later) rest = rest e later
    go false f e h rest = absurd cc

-- meanings
abbrev IsOverMeaning : (Var → Type 0) → Meaning → Type 0
IsOverMeaning V (value t) = IsOver V t.tree
IsOverMeaning V (macro m) = IsOver (Contains m.parameters) m.body
IsOverMeaning V (function f) = ⊤
IsOverMeaning V (operator op) = ⊤

named-over : (V : Var → Type 0) (p : Place) (t : Typed) → AreOver V p.scope → AreThemselves p → IfSome (meaning_of_named p t) (IsOverMeaning V)
named-over V p t h themselves = go (list_all (is_bound p.scope) (free_variables t.tree)) p.settings.replaces_lets refl refl
  where
    found : list_all (is_bound p.scope) (free_variables t.tree) ≡ true → (y : Var) → IsFree y t.tree → IsOver V (replaced_by (replacement p.scope) y)
    found e y free = scope-found V p.scope y h (all-bound p.scope (free_variables t.tree) y e (free-listed t.tree y free))

    go : (b c : Bool) → list_all (is_bound p.scope) (free_variables t.tree) ≡ b → p.settings.replaces_lets ≡ c
        → IfSome (if b then Some (value (if c then record { tree = replaced (replacement p.scope) t.tree; sort = t.sort } else t)) else None) (IsOverMeaning V)
    go true true e f = replaced-over V t.tree (replacement p.scope) (found e)
    go true false e f = λ y free. subst (IsOver V) (term_at-itself p.scope y (themselves f)) (found e y free) y refl
    go false c e f = tt

functions-over : (V : Var → Type 0) (o : Option Fun) → IfSome (option_map function o) (IsOverMeaning V)
functions-over V None = tt
functions-over V (Some f) = tt

operators-over : (V : Var → Type 0) (o : Option Op) → IfSome (option_map operator o) (IsOverMeaning V)
operators-over V None = tt
operators-over V (Some op) = tt

no_claim : {X : Type 0} (xs : List X) → AllByRecursion (λ _. ⊤) xs
no_claim [] = tt
no_claim (x ∷ xs) = (tt, no_claim xs)

meaning-over : (V : Var → Type 0) (p : Place) (s : Script) (name : List ℕ) → AreOver V p.scope → AreThemselves p → AreScoped s → IfSome (meaning_of p s name) (IsOverMeaning V)
unfolding meaning_of
meaning-over V p s name h themselves macros =
    let named = find (λ n. bytes_eq n.name name) s.named in
    let defined = find (λ m. bytes_eq m.name name) s.macros in
    let functions = find (λ f. bytes_eq f.name name) s.functions in
    if_some-or (IsOverMeaning V) (option_map meaning_of_bound (innermost p.scope name)) _
    (if_some-map (λ b. IsOver V b.stands_for) (IsOverMeaning V) meaning_of_bound (innermost p.scope name)
    (if_found (λ b. IsOver V b.stands_for) (λ b. bytes_eq b.variable.name name) p.scope h) (λ b e. e))
    (if_some-or (IsOverMeaning V) (option_and_then (λ n. meaning_of_named p n.meant) named) _
    (if_some-and_then (λ _. ⊤) (IsOverMeaning V) (λ n. meaning_of_named p n.meant) named (if_found (λ _. ⊤) (λ n. bytes_eq n.name name) s.named (no_claim s.named)) (λ n _. named-over V p n.meant h themselves))
    (if_some-or (IsOverMeaning V) (option_map macro defined) _
    (if_some-map (λ m. IsOver (Contains m.parameters) m.body) (IsOverMeaning V) macro defined
    (if_found (λ m. IsOver (Contains m.parameters) m.body) (λ m. bytes_eq m.name name) s.macros macros.0) (λ m e. e))
    (if_some-or (IsOverMeaning V) (option_map function functions) (option_map operator (operator_named name))
    (functions-over V functions) (operators-over V (operator_named name)))))

-- terms that are applied to
abbrev AreAllOver : (Var → Type 0) → List Typed → Type 0
AreAllOver V ts = AllByRecursion (λ t. IsOver V t.tree) ts

arguments-over : (V : Var → Type 0) (ts : List Typed) → AreAllOver V ts → (x : Var) → IsFreeAmong x (trees ts) → V x
arguments-over V [] h x free = absurd free
arguments-over V (t ∷ ts) h x (inl free) = h.0 x free
arguments-over V (t ∷ ts) h x (inr free) = arguments-over V ts h.1 x free

first_or_later : (x : Var) (xs : List Var) (y : Var) → Contains (x ∷ xs) y → (x ≡ y) ⊎ Contains xs y
first_or_later x xs y (zero, below, same) = inl same
first_or_later x xs y (suc k, below, same) = inr (k, omega arith, same)

zip-over : (V : Var → Type 0) (xs : List Var) (ts : List Typed) (y : Var) → map (λ x. x.sort) xs ≡ sorts_of ts → AreAllOver V ts → Contains xs y → IsOver V (replaced_by (zip xs (map (λ t. t.tree) ts)) y)
zip-over V [] ts y e h (k, below, same) = absurd (omega arith)
zip-over V (x ∷ xs) [] y e h there = absurd cc
zip-over V (x ∷ xs) (t ∷ ts) y e h there = go (var_eq x y) refl (first_or_later x xs y there) (zip-over V xs ts y (rest e) h.1)
  where
    rest : x.sort ∷ map (λ x. x.sort) xs ≡ t.sort ∷ sorts_of ts → map (λ x. x.sort) xs ≡ sorts_of ts
    rest e = cc

    go : (b : Bool) → var_eq x y ≡ b → (x ≡ y) ⊎ Contains xs y → (Contains xs y → IsOver V (replaced_by (zip xs (map (λ t. t.tree) ts)) y)) → IsOver V (if b then t.tree else replaced_by (zip xs (map (λ t. t.tree) ts)) y)
    go true f c k = h.0
    go false f (inl same) k = absurd (let g = (var_eq_decides x y).1 same in cc)
    go false f (inr later) k = k later

applied-over : (V : Var → Type 0) (m : Meaning) (ts : List Typed) → IsOverMeaning V m → AreAllOver V ts → IfSome (meaning_applied m ts) (λ t. IsOver V t.tree)
unfolding meaning_applied
applied-over V (value t) [] fit h = fit
applied-over V (value t) (a ∷ ts) fit h = tt
applied-over V (macro m) ts fit h = go (sorts_eq (map (λ x. x.sort) m.parameters) (sorts_of ts)) refl
  where
    go : (b : Bool) → sorts_eq (map (λ x. x.sort) m.parameters) (sorts_of ts) ≡ b → IfSome {T = Typed} (if b then Some (record { tree = expansion m ts; sort = m.target }) else None) (λ t. IsOver V t.tree)
    go true e =
        replaced-over V m.body (zip m.parameters (map (λ t. t.tree) ts))
        (λ y free. zip-over V m.parameters ts y ((sorts_eq_decides (map (λ x. x.sort) m.parameters) (sorts_of ts)).0 e) h (fit y free))
    go false e = tt
applied-over V (function f) ts fit h = go (call_sort f (sorts_of ts))
  where
    go : (o : Option Sort) → IfSome {T = Typed} (option_map (λ s. record { tree = call f (trees ts); sort = s }) o) (λ t. IsOver V t.tree)
    go None = tt
    go (Some s) = arguments-over V ts h
applied-over V (operator op) ts fit h = go (operation_sort op (trees ts) (sorts_of ts))
  where
    go : (o : Option Sort) → IfSome {T = Typed} (option_map (λ s. record { tree = operation op (trees ts); sort = s }) o) (λ t. IsOver V t.tree)
    go None = tt
    go (Some s) = arguments-over V ts h

-- Inside a let that is kept its variables are free too.
abbrev Within : Place → List Bound → (Var → Type 0) → Var → Type 0
Within p bs V x = V x ⊎ ((p.settings.replaces_lets ≡ false) × Binds (let_bindings_of bs) x)

more-over : (V W : Var → Type 0) (bs : List Bound) → ((x : Var) → V x → W x) → AreOver V bs → AreOver W bs
more-over V W [] more h = tt
more-over V W (b ∷ bs) more h = (λ x free. more x (h.0 x free), more-over V W bs more h.1)

themselves-over : (W : Var → Type 0) (bs : List Bound) → ((x : Var) → Binds (let_bindings_of bs) x → W x) → AreOver W (map (λ b. itself b.variable) bs)
themselves-over W [] w = tt
themselves-over W (b ∷ bs) w = (λ x e. w x (inl e), themselves-over W bs (λ x later. w x (inr later)))

inside-over : (V : Var → Type 0) (p : Place) (bs : List Bound) → AreOver V p.scope → AreOver V bs → AreOver (Within p bs V) (place_inside bs p).scope
inside-over V p bs h k = go p.settings.replaces_lets refl
  where
    go : (b : Bool) → p.settings.replaces_lets ≡ b → AreOver (Within p bs V) ((if b then bs else map (λ b. itself b.variable) bs) ++ p.scope)
    go true e = all_joined (λ b. IsOver (Within p bs V) b.stands_for) bs p.scope (more-over V (Within p bs V) bs (λ x v. inl v) k) (more-over V (Within p bs V) p.scope (λ x v. inl v) h)
    go false e =
        all_joined (λ b. IsOver (Within p bs V) b.stands_for) (map (λ b. itself b.variable) bs) p.scope (themselves-over (Within p bs V) bs (λ x bound. inr (e, bound)))
        (more-over V (Within p bs V) p.scope (λ x v. inl v) h)

themselves-stand : (bs : List Bound) → AllByRecursion (λ b. b.stands_for ≡ variable b.variable) (map (λ b. itself b.variable) bs)
themselves-stand [] = tt
themselves-stand (b ∷ bs) = (refl, themselves-stand bs)

inside-themselves : (p : Place) (bs : List Bound) → AreThemselves p → AreThemselves (place_inside bs p)
inside-themselves p bs h e = go p.settings.replaces_lets e
  where
    go : (b : Bool) → b ≡ false → AllByRecursion (λ b. b.stands_for ≡ variable b.variable) ((if b then bs else map (λ b. itself b.variable) bs) ++ p.scope)
    go true f = absurd cc
    go false f = all_joined (λ b. b.stands_for ≡ variable b.variable) (map (λ b. itself b.variable) bs) p.scope (themselves-stand bs) (h e)

bindings-over : (V : Var → Type 0) (bs : List Bound) → AreOver V bs → (x : Var) → IsFreeBound x (let_bindings_of bs) → V x
bindings-over V [] h x free = absurd free
bindings-over V (b ∷ bs) h x (inl free) = h.0 x free
bindings-over V (b ∷ bs) h x (inr free) = bindings-over V bs h.1 x free

let-over : (V : Var → Type 0) (p : Place) (bs : List Bound) (t : Typed) → AreOver V bs → IsOver (Within p bs V) t.tree → IsOver V (let_term p bs t).tree
let-over V p bs t k h = go p.settings.replaces_lets refl
  where
    out : (x : Var) → (p.settings.replaces_lets ≡ true) ⊎ (¬ Binds (let_bindings_of bs) x) → Within p bs V x → V x
    out x o (inl v) = v
    out x (inl e) (inr (f, bound)) = absurd cc
    out x (inr outside) (inr (f, bound)) = absurd (outside bound)

    go : (b : Bool) → p.settings.replaces_lets ≡ b → IsOver V (if b then t else record { tree = let_in (let_bindings_of bs) t.tree; sort = t.sort }).tree
    go true e = λ x free. out x (inl e) (h x free)
    go false e = λ x free. elim free [ inl bound ↦ bindings-over V bs k x bound | inr inner ↦ out x (inr inner.0) (h x inner.1) ]

-- readings
module _ (V : Var → Type 0) where
  settled-over : (cause : Cause) (limit : Option ℕ) (place : ℕ) (o : Option Typed) (s : Script) → AreScoped s → IfSome o (λ t. IsOver V t.tree) → Ends AreScoped (λ t. IsOver V t.tree) (settled cause limit place o s)
  settled-over cause limit place None s macros h = (macros, tt)
  settled-over cause limit place (Some t) s macros h = go (is_low limit (height t.tree))
    where
      go : (b : Bool) → Ends AreScoped (λ t. IsOver V t.tree) (if b then done t (with_term t.tree s) else refuse TooHigh place (with_term t.tree s))
      go true = (macros, h)
      go false = (macros, tt)

  with_meaning-over : {A : Type 0} (Q : A → Type 0) (place : ℕ) (o : Option Meaning) (s : Script) (next : Meaning → Outcome Script A) → AreScoped s → IfSome o (IsOverMeaning V) → ((m : Meaning) → IsOverMeaning V m → Ends AreScoped Q (next m)) → Ends AreScoped Q (with_meaning place o s next)
  with_meaning-over Q place (Some m) s next macros fit k = k m fit
  with_meaning-over Q place None s next macros fit k = (macros, tt)

  unless_repeated : {A : Type 0} (Q : A → Type 0) (b : Bool) (place : ℕ) (s : Script) (o : Outcome Script A) → AreScoped s → Ends AreScoped Q o → Ends AreScoped Q (if b then refuse Repeated place s else o)
  unless_repeated Q true place s o macros h = (macros, tt)
  unless_repeated Q false place s o macros h = h

  with_names-over : (ns : List Name) (t : Typed) (s : Script) → AreScoped s → IsOver V t.tree → Ends AreScoped (λ t. IsOver V t.tree) (with_names t ns s)
  with_names-over [] t s macros h = (macros, h)
  with_names-over (n ∷ ns) t s macros h =
      unless_repeated (λ t. IsOver V t.tree) (is_taken s n.name) n.place s _ macros (with_names-over ns t (with_named (record { name = n.name; meant = t }) s) macros h)

mutual
  unfolding term_from

  pub term-over : (f : Form) (V : Var → Type 0) (p : Place) (s : Script) → AreOver V p.scope → AreThemselves p → AreScoped s → Ends AreScoped (λ t. IsOver V t.tree) (term_from f p s)
  term-over (faulty cause place) V p s h themselves macros = (macros, tt)
  term-over (number place n) V p s h themselves macros = settled-over V SortMismatch p.settings.limit place (Some (record { tree = numeral n; sort = Sort.Int })) s macros (λ x free. absurd free)
  term-over (symbol n) V p s h themselves macros =
      with_meaning-over V (λ t. IsOver V t.tree) n.place (meaning_of p s n.name) s (λ m. settled SortMismatch p.settings.limit n.place (meaning_applied m []) s) macros (meaning-over V p s n.name h themselves macros)
      (λ m fit. settled-over V SortMismatch p.settings.limit n.place (meaning_applied m []) s macros (applied-over V m [] fit tt))
  term-over (application place head fs) V p s h themselves macros =
      with_meaning-over V (λ t. IsOver V t.tree) head.place (meaning_of p s head.name) s (λ m. and_then (terms_from fs p s) (λ ts after. settled (refusal_of m ts) p.settings.limit place (meaning_applied m ts) after)) macros (meaning-over V p s head.name h themselves macros)
      (λ m fit. ends-and_then AreScoped (AreAllOver V) (λ t. IsOver V t.tree) (terms_from fs p s) (λ ts after. settled (refusal_of m ts) p.settings.limit place (meaning_applied m ts) after) (terms-over fs V p s h themselves macros)
      (λ ts after read macros'. settled-over V (refusal_of m ts) p.settings.limit place (meaning_applied m ts) after macros' (applied-over V m ts fit read)))
  term-over (let_form place bs body) V p s h themselves macros =
      ends-and_then AreScoped (AreOver V) (λ t. IsOver V t.tree) (bounds_from bs [] p s) (λ bound after. and_then (term_from body (place_inside bound p) after) (λ t last. settled SortMismatch p.settings.limit place (Some (let_term p bound t)) last)) (bounds-over bs [] V p s h themselves macros)
      (λ bound after fit macros'. ends-and_then AreScoped (λ t. IsOver (Within p bound V) t.tree) (λ t. IsOver V t.tree) (term_from body (place_inside bound p) after) (λ t last. settled SortMismatch p.settings.limit place (Some (let_term p bound t)) last)
      (term-over body (Within p bound V) (place_inside bound p) after (inside-over V p bound h fit) (inside-themselves p bound themselves) macros')
      (λ t last read macros''. settled-over V SortMismatch p.settings.limit place (Some (let_term p bound t)) last macros'' (let-over V p bound t fit read)))
  term-over (annotated place f names) V p s h themselves macros =
      ends-and_then AreScoped (λ t. IsOver V t.tree) (λ t. IsOver V t.tree) (term_from f p s) (λ t after. with_names t names after) (term-over f V p s h themselves macros)
      (λ t after read macros'. with_names-over V names t after macros' read)

  terms-over : (fs : Forms) (V : Var → Type 0) (p : Place) (s : Script) → AreOver V p.scope → AreThemselves p → AreScoped s → Ends AreScoped (AreAllOver V) (terms_from fs p s)
  terms-over no_forms V p s h themselves macros = (macros, tt)
  terms-over (form.form f fs) V p s h themselves macros =
      ends-and_then AreScoped (λ t. IsOver V t.tree) (AreAllOver V) (term_from f p s) (λ t after. and_then (terms_from fs p after) (λ ts last. done (t ∷ ts) last)) (term-over f V p s h themselves macros)
      (λ t after read macros'. ends-and_then AreScoped (AreAllOver V) (AreAllOver V) (terms_from fs p after) (λ ts last. done (t ∷ ts) last) (terms-over fs V p after h themselves macros')
      (λ ts last all macros''. (macros'', (read, all))))

  bounds-over : (bs : form.LetBinds) (earlier : List (List ℕ)) (V : Var → Type 0) (p : Place) (s : Script) → AreOver V p.scope → AreThemselves p → AreScoped s → Ends AreScoped (AreOver V) (bounds_from bs earlier p s)
  bounds-over no_binds earlier V p s h themselves macros = (macros, tt)
  bounds-over (bind n f bs) earlier V p s h themselves macros =
      unless_repeated V (AreOver V) (is_built_in n.name || is_among earlier n.name) n.place s _ macros
      (ends-and_then AreScoped (λ t. IsOver V t.tree) (AreOver V) (term_from f p (with_let_name n.name s)) _ (term-over f V p (with_let_name n.name s) h themselves macros)
      (λ t after read macros'. ends-and_then AreScoped (AreOver V) (AreOver V) (bounds_from bs (n.name ∷ earlier) p after) _ (bounds-over bs (n.name ∷ earlier) V p after h themselves macros')
      (λ bound last all macros''. (macros'', (read, all)))))
