-- Private. A reading of a term that is under way: what is left to be done once the term that is read now is there.
use Rattle.std.specs.Prelude.{ℕ, List, [], ◌∷◌, ◌++◌, Some}
use Rattle.text_items.specs.ItemShapes.{Name}
use Rattle.sexpr.specs.declared.causes.Cause.TheVariants.{SortMismatch}
use Rattle.problem_text.specs.Forms.{Form, Forms, LetBinds}
use Rattle.problem_text.specs.TypedTerms.{Typed}
use Rattle.problem_text.specs.Outcomes.{Outcome, and_then}
use Rattle.problem_text.specs.Scripts.{Script}
use Rattle.problem_text.specs.Names.{Bound, Place, Meaning, meaning_applied, refusal_of, place_inside, let_term}
use Rattle.problem_text.specs.Terms.{settled, with_names, term_from, terms_from, bounds_from}

-- The arguments of an application: what it applies, those that were read, and those that are left. The bindings of a
-- let: those that were read, the variable of the one that is read now, the names before it, those that are left and the
-- body. The body of a let with these bindings. The names of an annotated term.
pub data Waiting : Type 0 where
  arguments : ℕ → Meaning → List Typed → Forms → Place → Waiting
  bindings : ℕ → List Bound → Name → List (List ℕ) → LetBinds → Form → Place → Waiting
  body_of : ℕ → List Bound → Place → Waiting
  naming : List Name → Waiting

-- the binding of a variable to a term of its sort
abbrev pub bound_to : Name → Typed → Bound
bound_to n t = record { variable = record { name = n.name; sort = t.sort }; stands_for = t.tree }

-- a let once its bindings are read
abbrev pub body_from : ℕ → Form → Place → List Bound → Script → Outcome Script Typed
body_from place body p bound s =
    and_then (term_from body (place_inside bound p) s) (λ t last. settled SortMismatch p.settings.limit place (Some (let_term p bound t)) last)

-- what comes of the term that was waited for
abbrev pub after : Waiting → Typed → Script → Outcome Script Typed
after (arguments place m read left p) t s =
    and_then (terms_from left p s) (λ ts last. settled (refusal_of m (read ++ t ∷ ts)) p.settings.limit place (meaning_applied m (read ++ t ∷ ts)) last)
after (bindings place read n earlier left body p) t s =
    and_then (bounds_from left (n.name ∷ earlier) p s) (λ bound last. body_from place body p (read ++ bound_to n t ∷ bound) last)
after (body_of place bound p) t s = settled SortMismatch p.settings.limit place (Some (let_term p bound t)) s
after (naming names) t s = with_names t names s

-- what comes of a reading for all that wait, the innermost first
abbrev pub resumed : List Waiting → Outcome Script Typed → Outcome Script Typed
resumed [] o = o
resumed (w ∷ ws) o = resumed ws (and_then o (after w))
