use Rattle.std.proofs.Common.{length, drop, subst}
use Rattle.term_pool.specs.Reading.{arguments_of}
use Rattle.term_pool.specs.Views.{ReferToAll}
use Rattle.term_pool.proofs.Keeping.{same_terms}
use Rattle.elab_denials.proofs.matching.arguments_of.Goals as goal

pub returns-in_err-arguments-clause-same : goal.returns-in_err-arguments-clause-same
returns-in_err-arguments-clause-same c =
    same_terms c.args.terms.now c.arguments.new.self c.in_err-arguments.ensures.keeps c.in_err-arguments.ensures.unchanged

pub returns-clause-arguments : goal.returns-clause-arguments
returns-clause-arguments c t refers no_let =
    let s = c.args.at.now.symbols.now in
    let same = same_terms c.args.terms.now c.arguments.new.self c.in_ok-arguments.ensures.keeps c.in_ok-arguments.ensures.unchanged in
    subst (λ v. ReferToAll s v c.arguments.new.into.items (arguments_of t)) same
    (subst (λ xs. ReferToAll s c.arguments.new.self (drop (length xs) c.arguments.new.into.items) (arguments_of t)) c.new-list.ensures.items
    (c.in_ok-arguments.ensures.arguments s t refers no_let))

pub returns-clause-same : goal.returns-clause-same
returns-clause-same c =
    same_terms c.args.terms.now c.arguments.new.self c.in_ok-arguments.ensures.keeps c.in_ok-arguments.ensures.unchanged
