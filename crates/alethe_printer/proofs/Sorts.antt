-- The sorts of the script stay behind what is printed.
use Rattle.std.proofs.Common.{◌≡◌, Bool, true, false, Option, Some, None, if◌then◌else◌, refl, ◌∙◌}
use Rattle.term_model.specs.Terms.{Term, numeral, variable, operation, call, let_in, Terms, no_terms, term, Bindings, no_bindings, binding}
use Rattle.problem_text.specs.Scripts.{Named, Script, with_let_name, with_named, with_term}
use Rattle.problem_text.specs.Words.{is_among}
use Rattle.printed_proofs.specs.Shared.{Plan, planned, behind_as, behind_term, behind_terms, behind_pairs}

as_sorts : (s inside : Script) (t : Term) (o : Option Named) → inside.sorts ≡ s.sorts → (behind_as s o t inside).sorts ≡ s.sorts
as_sorts s inside t None e = e
as_sorts s inside t (Some n) e = go (is_among s.taken n.name)
  where
    go : (test : Bool) → (if test then with_term t s else with_named n inside).sorts ≡ s.sorts
    go true = refl
    go false = e

mutual
  pub term_sorts : (plan : Plan) (s : Script) (t : Term) → (behind_term plan s t).sorts ≡ s.sorts
  term_sorts plan s (numeral n) = refl
  term_sorts plan s (variable x) = refl
  term_sorts plan s (operation op ts) =
      as_sorts s (with_term (operation op ts) (behind_terms plan s ts)) (operation op ts) (planned plan (operation op ts)) (terms_sorts plan s ts)
  term_sorts plan s (call f ts) =
      as_sorts s (with_term (call f ts) (behind_terms plan s ts)) (call f ts) (planned plan (call f ts)) (terms_sorts plan s ts)
  term_sorts plan s (let_in bs t) = term_sorts plan (behind_pairs plan s bs) t ∙ pairs_sorts plan s bs

  terms_sorts : (plan : Plan) (s : Script) (ts : Terms) → (behind_terms plan s ts).sorts ≡ s.sorts
  terms_sorts plan s no_terms = refl
  terms_sorts plan s (term t ts) = terms_sorts plan (behind_term plan s t) ts ∙ term_sorts plan s t

  pairs_sorts : (plan : Plan) (s : Script) (bs : Bindings) → (behind_pairs plan s bs).sorts ≡ s.sorts
  pairs_sorts plan s no_bindings = refl
  pairs_sorts plan s (binding x t bs) =
      pairs_sorts plan (behind_term plan (with_let_name x.name s) t) bs ∙ term_sorts plan (with_let_name x.name s) t
