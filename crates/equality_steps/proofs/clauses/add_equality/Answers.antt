use Rattle.std.proofs.Common.{[], ◌∷◌, Contains}
use Rattle.term_model.specs.Flips.{equality}
use Rattle.term_model.proofs.Lists.{contains_head}
use Rattle.term_pool.proofs.PlacedCells.{places_of_term, lacks_for_term}
use Rattle.equality_steps.proofs.Results.{if_err}
use Rattle.equality_steps.proofs.clauses.add_equality.Goals as goal

pub returns-in_err-literal-clause-placed : goal.returns-in_err-literal-clause-placed
returns-in_err-literal-clause-placed c t u l r =
    places_of_term c.args.at.now.symbols.now c.args.terms.now.pass c.equality_of.new.terms.pass (Contains (equality t u ∷ [])) (equality t u)
    (contains_head (equality t u) []) (c.in_err-literal.ensures.placed t u l r)

pub returns-in_err-literal-clause-full : goal.returns-in_err-literal-clause-full
returns-in_err-literal-clause-full c =
    if_err c.from_residual.result _ (λ e is t u l r. lacks_for_term c.args.at.now.symbols.now c.equality_of.new.terms.pass (Contains (equality t u ∷ []))
    (equality t u) (contains_head (equality t u) []) (c.in_err-literal.ensures.full t u l r))

pub returns-in_err-put-clause-placed : goal.returns-in_err-put-clause-placed
returns-in_err-put-clause-placed c t u l r =
    places_of_term c.args.at.now.symbols.now c.args.terms.now.pass c.equality_of.new.terms.pass (Contains (equality t u ∷ [])) (equality t u)
    (contains_head (equality t u) []) (c.in_ok-literal.ensures.placed t u l r)

pub returns-clause-placed : goal.returns-clause-placed
returns-clause-placed c t u l r =
    places_of_term c.args.at.now.symbols.now c.args.terms.now.pass c.equality_of.new.terms.pass (Contains (equality t u ∷ [])) (equality t u)
    (contains_head (equality t u) []) (c.in_ok-literal.ensures.placed t u l r)
