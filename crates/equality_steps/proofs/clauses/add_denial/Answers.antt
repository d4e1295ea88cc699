use Rattle.std.proofs.Common.{[], ◌∷◌, Contains}
use Rattle.term_model.specs.Flips.{equality}
use Rattle.term_model.specs.Terms.{not_of}
use Rattle.term_model.proofs.Lists.{contains_head}
use Rattle.term_pool.proofs.PlacedCells.{places_of_term, lacks_for_term}
use Rattle.equality_steps.proofs.DeniedLemmas.{denial_placed, lacks_under, places_under}
use Rattle.equality_steps.proofs.Results.{if_err}
use Rattle.equality_steps.proofs.clauses.add_denial.Goals as goal

pub returns-in_err-literal-clause-placed : goal.returns-in_err-literal-clause-placed
returns-in_err-literal-clause-placed c t u l r =
    places_of_term c.args.at.now.symbols.now c.args.terms.now.pass c.equality_of.new.terms.pass (Contains (not_of (equality t u) ∷ []))
    (not_of (equality t u)) (contains_head (not_of (equality t u)) [])
    (places_under c.args.at.now.symbols.now c.leaves_differ.ensures.table c.args.terms.now.pass c.equality_of.new.terms.pass (equality t u)
    (c.in_err-literal.ensures.placed t u l r))

pub returns-in_err-literal-clause-full : goal.returns-in_err-literal-clause-full
returns-in_err-literal-clause-full c =
    if_err c.from_residual.result _ (λ e is t u l r.
    lacks_for_term c.args.at.now.symbols.now c.equality_of.new.terms.pass (Contains (not_of (equality t u) ∷ [])) (not_of (equality t u))
    (contains_head (not_of (equality t u)) [])
    (lacks_under c.args.at.now.symbols.now c.leaves_differ.ensures.table c.equality_of.new.terms.pass (equality t u) (c.in_err-literal.ensures.full t u l r)))

pub negation_of-requires : goal.negation_of-requires
negation_of-requires c = record {
  means = equality c.requires.left.means c.requires.right.means;
  refers = c.in_ok-literal.ensures.term c.requires.left.means c.requires.right.means c.requires.left.refers c.requires.right.refers;
}

pub returns-in_err-denied-clause-placed : goal.returns-in_err-denied-clause-placed
returns-in_err-denied-clause-placed c t u l r =
    denial_placed c.args.at.now.symbols.now c.leaves_differ.ensures.table c.args.terms.now c.equality_of.new.terms c.negation_of.new.terms t u
    (c.in_ok-literal.ensures.placed t u l r) (c.in_err-denied.ensures.placed (equality t u) (c.in_ok-literal.ensures.term t u l r)) c.negation_of.ensures.keeps

pub returns-in_err-denied-clause-full : goal.returns-in_err-denied-clause-full
returns-in_err-denied-clause-full c =
    if_err c.from_residual-in_err-denied.result _ (λ e is t u l r.
    lacks_for_term c.args.at.now.symbols.now c.negation_of.new.terms.pass (Contains (not_of (equality t u) ∷ [])) (not_of (equality t u))
    (contains_head (not_of (equality t u)) []) (c.in_err-denied.ensures.full (equality t u) (c.in_ok-literal.ensures.term t u l r)))

pub returns-in_err-put-clause-placed : goal.returns-in_err-put-clause-placed
returns-in_err-put-clause-placed c t u l r =
    denial_placed c.args.at.now.symbols.now c.leaves_differ.ensures.table c.args.terms.now c.equality_of.new.terms c.negation_of.new.terms t u
    (c.in_ok-literal.ensures.placed t u l r) (c.in_ok-denied.ensures.placed (equality t u) (c.in_ok-literal.ensures.term t u l r)) c.negation_of.ensures.keeps

pub returns-clause-placed : goal.returns-clause-placed
returns-clause-placed c t u l r =
    denial_placed c.args.at.now.symbols.now c.leaves_differ.ensures.table c.args.terms.now c.equality_of.new.terms c.negation_of.new.terms t u
    (c.in_ok-literal.ensures.placed t u l r) (c.in_ok-denied.ensures.placed (equality t u) (c.in_ok-literal.ensures.term t u l r)) c.negation_of.ensures.keeps
