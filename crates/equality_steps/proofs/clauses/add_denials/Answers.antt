use Rattle.std.proofs.Common.{sym, subst, arith}
use Rattle.term_pool.specs.Views.{IsTerm}
use Rattle.equality_steps.proofs.DeniedLemmas.{denied_lacks, denied_more, denied_placed, denied_whole, keeps_both, none_denied, term_later}
use Rattle.equality_steps.proofs.Results.{handed_on}
use Rattle.equality_steps.proofs.clauses.add_denials.Goals as goal

pub places-init : goal.places-init
places-init c = none_denied c.args.at.now.symbols.now c.args.left.now c.args.right.now c.args.terms.now c.args.clause.now.items

pub add_denial-requires-clause-left : goal.add_denial-requires-clause-left
add_denial-requires-clause-left c =
    term_later c.args.at.now.symbols.now c.args.terms.now c.places.terms c.places.invariant.keeps c.index-left-place.result
    (subst (IsTerm c.args.at.now.symbols.now c.args.terms.now) (sym c.index-left-place.is)
    (c.requires.left c.places.place c.index-left-place.result (let a = c.requires.long in let b = c.places-test.true in omega arith)))

pub add_denial-requires-clause-right : goal.add_denial-requires-clause-right
add_denial-requires-clause-right c =
    term_later c.args.at.now.symbols.now c.args.terms.now c.places.terms c.places.invariant.keeps c.index-right-place.result
    (subst (IsTerm c.args.at.now.symbols.now c.args.terms.now) (sym c.index-right-place.is)
    (c.requires.right c.places.place c.index-right-place.result c.places-test.true))

pub returns-in_err-add_denial-clause-placed : goal.returns-in_err-add_denial-clause-placed
returns-in_err-add_denial-clause-placed c ts us l r =
    denied_placed c.args.at.now.symbols.now c.args.left.now c.args.right.now c.args.terms.now c.places.terms c.add_denial.new.terms
    c.args.clause.now.items c.places.clause.items c.places.place c.index-left-place.result c.index-right-place.result c.places-test.true
    c.requires.long c.index-left-place.is c.index-right-place.is c.places.invariant c.add_denial.ensures.keeps c.add_denial.ensures.placed ts us l r

pub returns-in_err-add_denial-clause-full : goal.returns-in_err-add_denial-clause-full
returns-in_err-add_denial-clause-full c =
    handed_on c.from_residual.result _ _ c.from_residual.ensures.1 (λ full ts us l r.
    denied_lacks c.args.at.now.symbols.now c.args.left.now c.args.right.now c.args.terms.now c.places.terms c.add_denial.new.terms
    c.args.clause.now.items c.places.clause.items c.places.place c.index-left-place.result c.index-right-place.result c.places-test.true
    c.requires.long c.index-left-place.is c.index-right-place.is c.places.invariant c.add_denial.ensures.keeps
    (c.in_err-add_denial.ensures.full full) ts us l r)

pub returns-in_err-add_denial-clause-keeps : goal.returns-in_err-add_denial-clause-keeps
returns-in_err-add_denial-clause-keeps c =
    keeps_both c.args.at.now.symbols.now c.args.left.now c.args.right.now c.args.terms.now c.places.terms c.add_denial.new.terms
    c.args.clause.now.items c.places.clause.items c.places.place c.index-left-place.result c.index-right-place.result c.places-test.true
    c.requires.long c.index-left-place.is c.index-right-place.is c.places.invariant c.add_denial.ensures.keeps

pub places-preserved : goal.places-preserved
places-preserved c =
    denied_more c.args.at.now.symbols.now c.args.left.now c.args.right.now c.args.terms.now c.places.terms c.add_denial.new.terms
    c.args.clause.now.items c.places.clause.items c.places.place c.index-left-place.result c.index-right-place.result c.places-test.true
    c.requires.long c.index-left-place.is c.index-right-place.is c.places.invariant c.add_denial.ensures.keeps c.add_denial.new.clause.items
    c.in_ok-add_denial.ensures.added c.add_denial.ensures.placed

pub returns-clause-added : goal.returns-clause-added
returns-clause-added c =
    denied_whole c.args.at.now.symbols.now c.args.left.now c.args.right.now c.args.terms.now c.places.terms c.args.clause.now.items
    c.places.clause.items c.places.place (let a = c.places-test.false in omega arith) c.requires.long c.places.invariant

pub returns-clause-placed : goal.returns-clause-placed
returns-clause-placed c = c.places.invariant.placed

pub returns-clause-keeps : goal.returns-clause-keeps
returns-clause-keeps c = c.places.invariant.keeps
