use Rattle.term_model.specs.Flips.{equality}
use Rattle.term_model.specs.Terms.{Term, not_of}
use Rattle.term_pool.specs.Views.{RefersTo}
use Rattle.rule_model.specs.Clausal.{as_it_stands}
use Rattle.term_parts.specs.Parts.{AreSidesOf}
use Rattle.term_parts.proofs.Options.{if_some, if_none}
use Rattle.term_parts.proofs.PartLemmas.{under_is_term, denied_are, not_denied}
use Rattle.term_parts.proofs.parts.denied_sides.Goals as goal

pub returns-in_default-clause-other : goal.returns-in_default-clause-other
returns-in_default-clause-other c t u w refers e = c.in_default.ensures.other t (equality u w) refers e

pub sides_of-requires : goal.sides_of-requires
sides_of-requires c =
    rw c.under_not.ensures.same (under_is_term c.args.symbols.now c.args.terms.now c.args.r c.in-Some.inner c.requires c.in-Some.ensures.under)

pub returns-clause-sides : goal.returns-clause-sides
returns-clause-sides c =
    if_some (λ p. (t : Term) → RefersTo c.args.symbols.now c.args.terms.now c.in-Some.inner t → AreSidesOf c.args.symbols.now c.args.terms.now as_it_stands p t)
    (λ p. (t : Term) → RefersTo c.args.symbols.now c.args.terms.now c.args.r t → AreSidesOf c.args.symbols.now c.args.terms.now not_of p t)
    c.sides_of.result
    (λ p sides t refers. denied_are c.args.symbols.now c.args.terms.now c.in-Some.inner p t (c.in-Some.ensures.under t refers) sides)
    (rw c.under_not.ensures.same at c.sides_of.ensures.sides)

pub returns-clause-other : goal.returns-clause-other
returns-clause-other c =
    if_none c.sides_of.result
    (λ other t u w refers. not_denied c.args.symbols.now c.args.terms.now c.in-Some.inner t u w (c.in-Some.ensures.under t refers) other)
    (rw c.under_not.ensures.same at c.sides_of.ensures.other)
