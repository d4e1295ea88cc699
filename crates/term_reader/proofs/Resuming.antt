-- How a reading of a term goes on.
use Rattle.std.proofs.Common.{◌≡◌, refl, sym, ap, ◌∙◌, ℕ, Bool, true, false, ◌||◌, cond, List, [], ◌∷◌, ◌++◌, append_assoc, Result, Ok, Err, Some, None, Option}
use Rattle.sexpr.specs.declared.causes.Cause.TheVariants.{UnknownName, Repeated, SortMismatch}
use Rattle.sexpr.specs.declared.causes.Refusal.{Refusal}
use Rattle.problem_text.specs.Words.{is_among, is_built_in}
use Rattle.text_items.specs.ItemShapes.{Name}
use Rattle.problem_text.specs.Forms.{Form, symbol, application, let_form, annotated, Forms, no_forms, form, LetBinds, no_binds, bind}
use Rattle.problem_text.specs.TypedTerms.{Typed}
use Rattle.problem_text.specs.Outcomes.{Outcome, done, refuse, going_on, and_then}
use Rattle.problem_text.specs.Scripts.{Script, with_let_name}
use Rattle.problem_text.specs.Names.{Bound, Place, Meaning, meaning_of, meaning_applied, refusal_of, place_inside, let_term}
use Rattle.problem_text.specs.Terms.{settled, with_names, with_meaning, term_from, terms_from, bounds_from}
use Rattle.term_reader.specs.Resuming.{Waiting, arguments, bindings, body_of, naming, bound_to, body_from, after, resumed}

-- readings one after another
pub same_next : {A B : Type 0} (o : Outcome Script A) (f g : A → Script → Outcome Script B) → ((a : A) (s : Script) → f a s ≡ g a s) → and_then o f ≡ and_then o g
same_next {A = A} {B = B} o f g h = go o.result
  where
    go : (r : Result A Refusal) → going_on r o.state f ≡ going_on r o.state g
    go (Ok a) = h a o.state
    go (Err refusal) = refl

pub joined : {A B C : Type 0} (o : Outcome Script A) (f : A → Script → Outcome Script B) (g : B → Script → Outcome Script C) → and_then (and_then o f) g ≡ and_then o (λ a s. and_then (f a s) g)
joined {A = A} o f g = go o.result
  where
    go : (r : Result A Refusal) → and_then (going_on r o.state f) g ≡ going_on r o.state (λ a s. and_then (f a s) g)
    go (Ok a) = refl
    go (Err refusal) = refl

-- a fault is the fault of the whole
pub refused_whole : (ws : List Waiting) (r : Refusal) (s : Script) → resumed ws (record { result = Err r; state = s }) ≡ record { result = Err r; state = s }
refused_whole [] r s = refl
refused_whole (w ∷ ws) r s = refused_whole ws r s

-- The arguments of an application: the first one, the next one, and the last one.
abbrev pub applies : Option ℕ → ℕ → Meaning → List Typed → List Typed → Script → Outcome Script Typed
applies limit place m read ts last = settled (refusal_of m (read ++ ts)) limit place (meaning_applied m (read ++ ts)) last

next_argument : (ws : List Waiting) (place : ℕ) (m : Meaning) (read : List Typed) (f : Form) (fs : Forms) (p : Place) (s : Script)
    → resumed ws (and_then (terms_from (form f fs) p s) (applies p.settings.limit place m read)) ≡ resumed (arguments place m read fs p ∷ ws) (term_from f p s)
unfolding terms_from
next_argument ws place m read f fs p s =
    ap (resumed ws)
    (joined (term_from f p s) (λ t last. and_then (terms_from fs p last) (λ ts end. done (t ∷ ts) end)) (applies p.settings.limit place m read)
    ∙ same_next (term_from f p s) (λ t last. and_then (and_then (terms_from fs p last) (λ ts end. done (t ∷ ts) end)) (applies p.settings.limit place m read)) (after (arguments place m read fs p))
    (λ t last. joined (terms_from fs p last) (λ ts end. done (t ∷ ts) end) (applies p.settings.limit place m read)))

abbrev headed : ℕ → Name → Forms → Place → Script → Option Meaning → Outcome Script Typed
headed place head fs p s o = with_meaning head.place o s (λ m. and_then (terms_from fs p s) (λ ts last. settled (refusal_of m ts) p.settings.limit place (meaning_applied m ts) last))

application_begins : (place : ℕ) (head : Name) (fs : Forms) (p : Place) (s : Script) → term_from (application place head fs) p s ≡ headed place head fs p s (meaning_of p s head.name)
unfolding term_from
application_begins place head fs p s = refl

pub first_argument : (ws : List Waiting) (place : ℕ) (head : Name) (m : Meaning) (f : Form) (fs : Forms) (p : Place) (s : Script)
    → meaning_of p s head.name ≡ Some m
    → resumed ws (term_from (application place head (form f fs)) p s) ≡ resumed (arguments place m [] fs p ∷ ws) (term_from f p s)
first_argument ws place head m f fs p s known =
    ap (resumed ws) (application_begins place head (form f fs) p s ∙ ap (headed place head (form f fs) p s) known) ∙ next_argument ws place m [] f fs p s

pub unknown_head : (place : ℕ) (head : Name) (fs : Forms) (p : Place) (s : Script)
    → meaning_of p s head.name ≡ None → term_from (application place head fs) p s ≡ refuse UnknownName head.place s
unfolding term_from
unknown_head place head fs p s none = ap (λ o. with_meaning head.place o s (λ n. and_then (terms_from fs p s) (λ ts last. settled (refusal_of n ts) p.settings.limit place (meaning_applied n ts) last))) none

pub next_argument_read : (ws : List Waiting) (place : ℕ) (m : Meaning) (read : List Typed) (t : Typed) (f : Form) (fs : Forms) (p : Place) (s : Script)
    → resumed (arguments place m read (form f fs) p ∷ ws) (done t s) ≡ resumed (arguments place m (read ++ t ∷ []) fs p ∷ ws) (term_from f p s)
next_argument_read ws place m read t f fs p s =
    ap (resumed ws) (same_next (terms_from (form f fs) p s) (λ ts last. applies p.settings.limit place m read (t ∷ ts) last) (applies p.settings.limit place m (read ++ t ∷ [])) (λ ts last. ap (λ us. settled (refusal_of m us) p.settings.limit place (meaning_applied m us) last) (sym (append_assoc read (t ∷ []) ts))))
    ∙ next_argument ws place m (read ++ t ∷ []) f fs p s

pub last_argument_read : (ws : List Waiting) (place : ℕ) (m : Meaning) (read : List Typed) (t : Typed) (p : Place) (s : Script)
    → resumed (arguments place m read no_forms p ∷ ws) (done t s)
    ≡ resumed ws (settled (refusal_of m (read ++ t ∷ [])) p.settings.limit place (meaning_applied m (read ++ t ∷ [])) s)
unfolding terms_from
last_argument_read ws place m read t p s = refl

-- A symbol alone.
pub known_symbol : (n : Name) (m : Meaning) (p : Place) (s : Script) → meaning_of p s n.name ≡ Some m → term_from (symbol n) p s ≡ settled SortMismatch p.settings.limit n.place (meaning_applied m []) s
unfolding term_from
known_symbol n m p s known = ap (λ o. with_meaning n.place o s (λ k. settled SortMismatch p.settings.limit n.place (meaning_applied k []) s)) known

pub unknown_symbol : (n : Name) (p : Place) (s : Script) → meaning_of p s n.name ≡ None → term_from (symbol n) p s ≡ refuse UnknownName n.place s
unfolding term_from
unknown_symbol n p s none = ap (λ o. with_meaning n.place o s (λ k. settled SortMismatch p.settings.limit n.place (meaning_applied k []) s)) none

-- The bindings of a let, the first or the next, whose variable is no built-in word and is not bound twice.
abbrev pub is_refused_name : List (List ℕ) → Name → Bool
is_refused_name earlier n = is_built_in n.name || is_among earlier n.name

abbrev bindings_left : Name → Form → LetBinds → List (List ℕ) → Place → Script → Bool → Outcome Script (List Bound)
bindings_left n f bs earlier p s b =
    cond b (refuse Repeated n.place s)
    (and_then (term_from f p (with_let_name n.name s)) (λ t last.
    and_then (bounds_from bs (n.name ∷ earlier) p last) (λ bound end. done (bound_to n t ∷ bound) end)))

bindings_begin : (n : Name) (f : Form) (bs : LetBinds) (earlier : List (List ℕ)) (p : Place) (s : Script)
    → bounds_from (bind n f bs) earlier p s ≡ bindings_left n f bs earlier p s (is_refused_name earlier n)
unfolding bounds_from
bindings_begin n f bs earlier p s = refl

abbrev pub binds_all : ℕ → Form → Place → List Bound → List Bound → Script → Outcome Script Typed
binds_all place body p read bound s = body_from place body p (read ++ bound) s

next_binding : (ws : List Waiting) (place : ℕ) (read : List Bound) (earlier : List (List ℕ)) (n : Name) (f : Form) (bs : LetBinds) (body : Form) (p : Place) (s : Script)
    → is_refused_name earlier n ≡ false
    → resumed ws (and_then (bounds_from (bind n f bs) earlier p s) (binds_all place body p read))
    ≡ resumed (bindings place read n earlier bs body p ∷ ws) (term_from f p (with_let_name n.name s))
next_binding ws place read earlier n f bs body p s free =
    ap (resumed ws)
    (ap (λ o. and_then o (binds_all place body p read)) (bindings_begin n f bs earlier p s ∙ ap (bindings_left n f bs earlier p s) free)
    ∙ joined (term_from f p (with_let_name n.name s)) (λ t last. and_then (bounds_from bs (n.name ∷ earlier) p last) (λ bound end. done (bound_to n t ∷ bound) end)) (binds_all place body p read)
    ∙ same_next (term_from f p (with_let_name n.name s)) (λ t last. and_then (and_then (bounds_from bs (n.name ∷ earlier) p last) (λ bound end. done (bound_to n t ∷ bound) end)) (binds_all place body p read)) (after (bindings place read n earlier bs body p))
    (λ t last. joined (bounds_from bs (n.name ∷ earlier) p last) (λ bound end. done (bound_to n t ∷ bound) end) (binds_all place body p read)))

refused_binding : (ws : List Waiting) (place : ℕ) (read : List Bound) (earlier : List (List ℕ)) (n : Name) (f : Form) (bs : LetBinds) (body : Form) (p : Place) (s : Script)
    → is_refused_name earlier n ≡ true
    → resumed ws (and_then (bounds_from (bind n f bs) earlier p s) (binds_all place body p read)) ≡ refuse Repeated n.place s
refused_binding ws place read earlier n f bs body p s taken =
    ap (λ o. resumed ws (and_then o (binds_all place body p read))) (bindings_begin n f bs earlier p s ∙ ap (bindings_left n f bs earlier p s) taken)
    ∙ refused_whole ws (record { cause = Repeated; at = n.place }) s

let_begins : (place : ℕ) (bs : LetBinds) (body : Form) (p : Place) (s : Script)
    → term_from (let_form place bs body) p s ≡ and_then (bounds_from bs [] p s) (binds_all place body p [])
unfolding term_from
let_begins place bs body p s = refl

pub first_binding : (ws : List Waiting) (place : ℕ) (n : Name) (f : Form) (bs : LetBinds) (body : Form) (p : Place) (s : Script)
    → is_refused_name [] n ≡ false
    → resumed ws (term_from (let_form place (bind n f bs) body) p s) ≡ resumed (bindings place [] n [] bs body p ∷ ws) (term_from f p (with_let_name n.name s))
first_binding ws place n f bs body p s free = ap (resumed ws) (let_begins place (bind n f bs) body p s) ∙ next_binding ws place [] [] n f bs body p s free

pub first_binding_refused : (ws : List Waiting) (place : ℕ) (n : Name) (f : Form) (bs : LetBinds) (body : Form) (p : Place) (s : Script)
    → is_refused_name [] n ≡ true
    → resumed ws (term_from (let_form place (bind n f bs) body) p s) ≡ refuse Repeated n.place s
first_binding_refused ws place n f bs body p s taken = ap (resumed ws) (let_begins place (bind n f bs) body p s) ∙ refused_binding ws place [] [] n f bs body p s taken

grown : (place : ℕ) (body : Form) (p : Place) (read : List Bound) (b : Bound) (bound : List Bound) (s : Script)
    → binds_all place body p read (b ∷ bound) s ≡ binds_all place body p (read ++ b ∷ []) bound s
grown place body p read b bound s = ap (λ bs. body_from place body p bs s) (sym (append_assoc read (b ∷ []) bound))

binding_read : (ws : List Waiting) (place : ℕ) (read : List Bound) (m : Name) (earlier : List (List ℕ)) (left : LetBinds) (body : Form) (p : Place) (t : Typed) (s : Script)
    → resumed (bindings place read m earlier left body p ∷ ws) (done t s)
    ≡ resumed ws (and_then (bounds_from left (m.name ∷ earlier) p s) (binds_all place body p (read ++ bound_to m t ∷ [])))
binding_read ws place read m earlier left body p t s =
    ap (resumed ws) (same_next (bounds_from left (m.name ∷ earlier) p s) (λ bound last. binds_all place body p read (bound_to m t ∷ bound) last) (binds_all place body p (read ++ bound_to m t ∷ []))
    (λ bound last. grown place body p read (bound_to m t) bound last))

pub next_binding_read : (ws : List Waiting) (place : ℕ) (read : List Bound) (m : Name) (earlier : List (List ℕ)) (n : Name) (f : Form) (bs : LetBinds) (body : Form) (p : Place) (t : Typed) (s : Script)
    → is_refused_name (m.name ∷ earlier) n ≡ false
    → resumed (bindings place read m earlier (bind n f bs) body p ∷ ws) (done t s)
    ≡ resumed (bindings place (read ++ bound_to m t ∷ []) n (m.name ∷ earlier) bs body p ∷ ws) (term_from f p (with_let_name n.name s))
next_binding_read ws place read m earlier n f bs body p t s free =
    binding_read ws place read m earlier (bind n f bs) body p t s ∙ next_binding ws place (read ++ bound_to m t ∷ []) (m.name ∷ earlier) n f bs body p s free

pub next_binding_refused : (ws : List Waiting) (place : ℕ) (read : List Bound) (m : Name) (earlier : List (List ℕ)) (n : Name) (f : Form) (bs : LetBinds) (body : Form) (p : Place) (t : Typed) (s : Script)
    → is_refused_name (m.name ∷ earlier) n ≡ true
    → resumed (bindings place read m earlier (bind n f bs) body p ∷ ws) (done t s) ≡ refuse Repeated n.place s
next_binding_refused ws place read m earlier n f bs body p t s taken =
    binding_read ws place read m earlier (bind n f bs) body p t s ∙ refused_binding ws place (read ++ bound_to m t ∷ []) (m.name ∷ earlier) n f bs body p s taken

-- the last binding is read, so the body comes
pub last_binding_read : (ws : List Waiting) (place : ℕ) (read : List Bound) (m : Name) (earlier : List (List ℕ)) (body : Form) (p : Place) (t : Typed) (s : Script)
    → resumed (bindings place read m earlier no_binds body p ∷ ws) (done t s)
    ≡ resumed (body_of place (read ++ bound_to m t ∷ []) p ∷ ws) (term_from body (place_inside (read ++ bound_to m t ∷ []) p) s)
unfolding bounds_from
last_binding_read ws place read m earlier body p t s = refl

pub body_read : (ws : List Waiting) (place : ℕ) (bound : List Bound) (p : Place) (t : Typed) (s : Script)
    → resumed (body_of place bound p ∷ ws) (done t s) ≡ resumed ws (settled SortMismatch p.settings.limit place (Some (let_term p bound t)) s)
body_read ws place bound p t s = refl

-- An annotated term.
pub annotation_begins : (ws : List Waiting) (place : ℕ) (f : Form) (names : List Name) (p : Place) (s : Script)
    → resumed ws (term_from (annotated place f names) p s) ≡ resumed (naming names ∷ ws) (term_from f p s)
unfolding term_from
annotation_begins ws place f names p s = refl

pub annotated_read : (ws : List Waiting) (names : List Name) (t : Typed) (s : Script) → resumed (naming names ∷ ws) (done t s) ≡ resumed ws (with_names t names s)
annotated_read ws names t s = refl
