use Rattle.elab_equality.proofs.JoinLemmas.{join_done, pair_equal}
use Rattle.elab_equality.proofs.LinkLemmas.{pair_sides}
use Rattle.elab_equality.proofs.work.Work.join.Goals as goal

pub join-joined-requires-clause-sides : goal.join-joined-requires-clause-sides
join-joined-requires-clause-sides c = pair_sides c.args.at.now c.args.terms.now c.args.a c.args.b c.requires.pair

pub join-joined-requires-clause-equal : goal.join-joined-requires-clause-equal
join-joined-requires-clause-equal c t u left right =
    pair_equal c.args.at.now c.args.terms.now c.leaves_differ.ensures.table c.one_to_one.ensures c.args.a c.args.b c.requires.pair t u left right

pub returns-clause-done : goal.returns-clause-done
returns-clause-done c =
    join_done c.args.at.now c.args.terms.now c.join-joined.new.terms c.args.self.now (record { block = c.join-joined.new.block; forms = c.join-joined.new.self })
    c.args.a c.args.b c.requires.work c.requires.pair c.join-joined.ensures.keeps c.one_to_one-2.ensures c.leaves_differ.ensures.table c.join-joined.result
    c.join-joined.ensures.block c.join-joined.ensures.forms c.join-joined.ensures.units c.join-joined.ensures.few c.join-joined.ensures.met
    c.join-joined.ensures.placed c.join-joined.ensures.full
