use Rattle.std.proofs.Common.{◌∷◌}
use Rattle.std.proofs.lemmas.Bool.{OnTrue_at, OnFalse_at}
use Rattle.term_pool.proofs.References.{refer_are_terms}
use Rattle.rules_ite.proofs.StandingLemmas.{no_conjunction, conjunction_is, many_terms}
use Rattle.rules_ite.proofs.distinct.is_conjunction.Goals as goal

pub are_apart-requires : goal.are_apart-requires
are_apart-requires c =
    let loaded = OnTrue_at c.if-not-branch.false c.in_ok-load_arguments.ensures.loaded c.requires.whole.means c.requires.whole.refers in
    rw (c.deref.ensures, c.load_arguments.ensures.same)
    (refer_are_terms c.args.symbols.now c.args.terms.now _ (loaded.first ∷ loaded.others) loaded.refer)

pub returns-then-not-branch-clause-conjunction : goal.returns-then-not-branch-clause-conjunction
returns-then-not-branch-clause-conjunction c us t list whole =
    no_conjunction us t (many_terms c.args.symbols.now c.args.terms.now c.args.list.now us list c.requires.many)
    (OnFalse_at c.if-not-branch.true c.in_ok-load_arguments.ensures.other t whole)

pub returns-clause-conjunction : goal.returns-clause-conjunction
returns-clause-conjunction c us t list whole =
    let same = c.load_arguments.ensures.same in
    let loaded = OnTrue_at c.if-not-branch.false c.in_ok-load_arguments.ensures.loaded t whole in
    let test = rw (c.deref.ensures, same) at c.are_apart.ensures.apart in
    conjunction_is us (loaded.first ∷ loaded.others) t c.are_apart.result loaded.is (test us (loaded.first ∷ loaded.others) list loaded.refer)
