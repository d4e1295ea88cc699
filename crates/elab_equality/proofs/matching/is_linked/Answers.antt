use Rattle.term_pool.proofs.Keeping.{same_terms}
use Rattle.elab_equality.proofs.CrossLemmas.{flips_linked, flips_other, found_linked}
use Rattle.elab_equality.proofs.matching.is_linked.Goals as goal

pub find-requires : goal.find-requires
find-requires c = record { searchable = c.requires.given.table_is.searchable }

pub returns-in-Some-clause-linked : goal.returns-in-Some-clause-linked
returns-in-Some-clause-linked c =
    let g = c.requires.given in
    found_linked c.args.at.now c.args.terms.now c.args.given.now c.leaves_differ.ensures.table c.one_to_one.ensures g c.args.a c.args.b _
    (c.in-Some.ensures.found g.sides g.table_is)

pub returns-in-None-clause-linked : goal.returns-in-None-clause-linked
returns-in-None-clause-linked c =
    let g = c.requires.given in
    flips_linked c.args.at.now c.args.terms.now c.args.given.now c.leaves_differ.ensures.table c.one_to_one.ensures g c.args.a c.args.b c.same_up_to_flips.result
    c.same_up_to_flips.ensures.same

pub returns-in-None-clause-other : goal.returns-in-None-clause-other
returns-in-None-clause-other c =
    let g = c.requires.given in
    flips_other c.args.at.now c.args.terms.now c.args.given.now c.leaves_differ.ensures.table c.one_to_one.ensures g c.args.a c.args.b c.same_up_to_flips.result
    (c.in-None.ensures.none g.sides g.table_is) c.same_up_to_flips.ensures.same

pub returns-in-None-clause-same : goal.returns-in-None-clause-same
returns-in-None-clause-same c = same_terms c.args.terms.now c.same_up_to_flips.new.self c.same_up_to_flips.ensures.keeps c.same_up_to_flips.ensures.unchanged
