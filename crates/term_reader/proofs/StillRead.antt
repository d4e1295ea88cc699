-- The terms that were read stay read while others are open.
use Rattle.std.proofs.Common.{ℕ, List, [], ◌∷◌, ◌++◌, Bool, true, false, if◌then◌else◌, refl, arith, Option, Some}
use Rattle.std.proofs.lemmas.List.Elements.{Contains-append_right}
use Rattle.sexpr.specs.declared.causes.Cause.{Cause}
use Rattle.sexpr.specs.declared.causes.Cause.TheVariants.{SortMismatch, TooHigh}
use Rattle.term_model.specs.Terms.{Term}
use Rattle.term_model.specs.Heights.{height}
use Rattle.problem_text.specs.Limits.{is_low}
use Rattle.problem_text.specs.TypedTerms.{Typed}
use Rattle.problem_text.specs.Outcomes.{Outcome, done, refuse, and_then}
use Rattle.problem_text.specs.Scripts.{Script, with_term}
use Rattle.problem_text.specs.Names.{meaning_applied, refusal_of, place_inside, let_term}
use Rattle.problem_text.specs.Terms.{settled, term_from, terms_from, bounds_from}
use Rattle.term_reader.specs.Resuming.{Waiting, arguments, bindings, body_of, naming, bound_to, after, resumed}
use Rattle.problem_text.proofs.Growing.{HasRead, Reads, reads_then, by_settled, by_names, by_term, by_terms, by_bounds}

module _ (x : Term) where
  by_waiting : (w : Waiting) (t : Typed) (s : Script) → HasRead x s → Reads x (after w t s)
  by_waiting (arguments place m read left p) t s h =
      reads_then x (terms_from left p s) _ (by_terms x left p s h).0
      (λ ts last k. by_settled x (refusal_of m (read ++ t ∷ ts)) p.settings.limit place (meaning_applied m (read ++ t ∷ ts)) last k)
  by_waiting (bindings place read n earlier left body p) t s h =
      reads_then x (bounds_from left (n.name ∷ earlier) p s) _ (by_bounds x left (n.name ∷ earlier) p s h).0
      (λ bound last k. reads_then x (term_from body (place_inside (read ++ bound_to n t ∷ bound) p) last) _ (by_term x body _ last k).0
      (λ u end l. by_settled x SortMismatch p.settings.limit place (Some (let_term p (read ++ bound_to n t ∷ bound) u)) end l))
  by_waiting (body_of place bound p) t s h = by_settled x SortMismatch p.settings.limit place (Some (let_term p bound t)) s h
  by_waiting (naming names) t s h = by_names x t names s h

  pub by_resumed : (ws : List Waiting) (o : Outcome Script Typed) → HasRead x o.state → HasRead x (resumed ws o).state
  by_resumed [] o h = h
  by_resumed (w ∷ ws) o h = by_resumed ws (and_then o (after w)) (reads_then x o (after w) h (λ t s k. by_waiting w t s k)).0

-- a term that is settled is read
pub settled_is_read : (ws : List Waiting) (cause : Cause) (limit : Option ℕ) (place : ℕ) (t : Typed) (s : Script)
    → HasRead t.tree (resumed ws (settled cause limit place (Some t) s)).state
settled_is_read ws cause limit place t s = by_resumed t.tree ws (settled cause limit place (Some t) s) (go (is_low limit (height t.tree)))
  where
    here : HasRead t.tree (with_term t.tree s)
    here = Contains-append_right s.terms (t.tree ∷ []) t.tree (0, omega arith, refl)

    go : (b : Bool) → HasRead t.tree (if b then done t (with_term t.tree s) else refuse TooHigh place (with_term t.tree s)).state
    go true = here
    go false = here
