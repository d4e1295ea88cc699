-- Public. Reading a term (SMT-LIB 2.6, "Terms and Formulas"): the tree that it stands for and its sort, or its first
-- fault.
use Rattle.std.specs.Prelude.{ℕ, ◌||◌, if◌then◌else◌, List, [], ◌∷◌, Option, Some, None}
use Rattle.sexpr.specs.declared.causes.Cause.{Cause}
use Rattle.sexpr.specs.declared.causes.Cause.TheVariants.{UnknownName, Repeated, SortMismatch, TooHigh}
use Rattle.sexpr.specs.Items.{Item}
use Rattle.term_model.specs.declared.symbols.Sort.{Sort}
use Rattle.term_model.specs.Terms.{numeral}
use Rattle.term_model.specs.Heights.{height}
use Rattle.problem_text.specs.Words.{is_among, is_built_in}
use Rattle.text_items.specs.ItemShapes.{Name}
use Rattle.problem_text.specs.Forms.{Form, faulty, number, symbol, application, let_form, annotated, Forms, no_forms, form, LetBinds, no_binds, bind, form_of}
use Rattle.problem_text.specs.Limits.{is_low}
use Rattle.problem_text.specs.TypedTerms.{Typed}
use Rattle.problem_text.specs.Outcomes.{Outcome, done, refuse, and_then}
use Rattle.problem_text.specs.Scripts.{Script, is_taken, with_named, with_term, with_let_name}
use Rattle.problem_text.specs.Names.{Bound, Place, Meaning, meaning_of, meaning_applied, refusal_of, place_inside, let_term}

-- A term that begins at this place, or the cause why none does. It counts as read also where it is too high.
abbrev pub settled : Cause → Option ℕ → ℕ → Option Typed → Script → Outcome Script Typed
settled cause limit place None s = refuse cause place s
settled cause limit place (Some t) s =
    if is_low limit (height t.tree) then done t (with_term t.tree s) else refuse TooHigh place (with_term t.tree s)

-- a symbol is known before what it is applied to is read
abbrev pub with_meaning : {A : Type 0} → ℕ → Option Meaning → Script → (Meaning → Outcome Script A) → Outcome Script A
with_meaning place (Some m) s next = next m
with_meaning place None s next = refuse UnknownName place s

-- Attributes give the term these names, each of which may be used from here on.
abbrev pub with_names : Typed → List Name → Script → Outcome Script Typed
with_names t [] s = done t s
with_names t (n ∷ ns) s =
    if is_taken s n.name then refuse Repeated n.place s else with_names t ns (with_named (record { name = n.name; meant = t }) s)

unfoldable mutual
  pub term_from : Form → Place → Script → Outcome Script Typed
  term_from (faulty cause place) p s = refuse cause place s
  term_from (number place n) p s = settled SortMismatch p.settings.limit place (Some (record { tree = numeral n; sort = Sort.Int })) s
  term_from (symbol n) p s = with_meaning n.place (meaning_of p s n.name) s (λ m. settled SortMismatch p.settings.limit n.place (meaning_applied m []) s)
  term_from (application place head fs) p s =
      with_meaning head.place (meaning_of p s head.name) s (λ m.
      and_then (terms_from fs p s) (λ ts after. settled (refusal_of m ts) p.settings.limit place (meaning_applied m ts) after))
  term_from (let_form place bs body) p s =
      and_then (bounds_from bs [] p s) (λ bound after.
      and_then (term_from body (place_inside bound p) after) (λ t last. settled SortMismatch p.settings.limit place (Some (let_term p bound t)) last))
  term_from (annotated place f names) p s = and_then (term_from f p s) (λ t after. with_names t names after)

  -- arguments, from the left
  pub terms_from : Forms → Place → Script → Outcome Script (List Typed)
  terms_from no_forms p s = done [] s
  terms_from (form f fs) p s =
      and_then (term_from f p s) (λ t after. and_then (terms_from fs p after) (λ ts last. done (t ∷ ts) last))

  -- The bindings of a let, where those before them have these names. All their terms are read outside the let.
  pub bounds_from : LetBinds → List (List ℕ) → Place → Script → Outcome Script (List Bound)
  bounds_from no_binds earlier p s = done [] s
  bounds_from (bind n f bs) earlier p s =
      if is_built_in n.name || is_among earlier n.name then refuse Repeated n.place s
      else and_then (term_from f p (with_let_name n.name s)) (λ t after.
      and_then (bounds_from bs (n.name ∷ earlier) p after) (λ bound last.
      done (record { variable = record { name = n.name; sort = t.sort }; stands_for = t.tree } ∷ bound) last))

-- an item in a term's place
abbrev pub read_term : Item → Place → Script → Outcome Script Typed
read_term i p s = term_from (form_of i) p s
