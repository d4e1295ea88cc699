use Rattle.std.proofs.Common.{[], ◌∷◌, Contains}
use Rattle.term_model.specs.Terms.{not_of}
use Rattle.term_model.proofs.Lists.{contains_head}
use Rattle.term_pool.proofs.PlacedCells.{places_of_term, lacks_for_term}
use Rattle.equality_steps.proofs.Results.{if_err}
use Rattle.equality_steps.proofs.clauses.add_implied.Goals as goal

pub returns-in_err-denied-clause-placed : goal.returns-in_err-denied-clause-placed
returns-in_err-denied-clause-placed c t u l r =
    places_of_term c.args.at.now.symbols.now c.args.terms.now.pass c.negation_of.new.terms.pass (Contains (not_of t ∷ u ∷ [])) (not_of t)
    (contains_head (not_of t) (u ∷ [])) (c.in_err-denied.ensures.placed t l)

pub returns-in_err-denied-clause-full : goal.returns-in_err-denied-clause-full
returns-in_err-denied-clause-full c =
    if_err c.from_residual.result _ (λ e is t u l r. lacks_for_term c.args.at.now.symbols.now c.negation_of.new.terms.pass (Contains (not_of t ∷ u ∷ []))
    (not_of t) (contains_head (not_of t) (u ∷ [])) (c.in_err-denied.ensures.full t l))

pub returns-in_err-put-clause-placed : goal.returns-in_err-put-clause-placed
returns-in_err-put-clause-placed c t u l r =
    places_of_term c.args.at.now.symbols.now c.args.terms.now.pass c.negation_of.new.terms.pass (Contains (not_of t ∷ u ∷ [])) (not_of t)
    (contains_head (not_of t) (u ∷ [])) (c.in_ok-denied.ensures.placed t l)

pub returns-in_err-put-2-clause-placed : goal.returns-in_err-put-2-clause-placed
returns-in_err-put-2-clause-placed c t u l r =
    places_of_term c.args.at.now.symbols.now c.args.terms.now.pass c.negation_of.new.terms.pass (Contains (not_of t ∷ u ∷ [])) (not_of t)
    (contains_head (not_of t) (u ∷ [])) (c.in_ok-denied.ensures.placed t l)

pub returns-clause-placed : goal.returns-clause-placed
returns-clause-placed c t u l r =
    places_of_term c.args.at.now.symbols.now c.args.terms.now.pass c.negation_of.new.terms.pass (Contains (not_of t ∷ u ∷ [])) (not_of t)
    (contains_head (not_of t) (u ∷ [])) (c.in_ok-denied.ensures.placed t l)
