use Rattle.elab_equality.proofs.EndingLemmas.{by_reflexive, by_trans, ends_other, may_equal_itself, sides_made}
use Rattle.elab_equality.proofs.WalkLemmas.{chained, ends_met, some_list}
use Rattle.elab_equality.proofs.work.Work.arrive.Goals as goal

pub reflexive-requires-clause-itself : goal.reflexive-requires-clause-itself
reflexive-requires-clause-itself c =
    may_equal_itself c.args.at.now c.args.terms.now c.requires.job c.args.from c.args.to c.requires.sides
    (ends_met c.args.at.now c.args.terms.now c.args.self.now.block c.args.from c.args.to c.args.links.now c.if-is_empty.ensures c.requires.linked)

pub returns-then-is_empty-clause-ends : goal.returns-then-is_empty-clause-ends
returns-then-is_empty-clause-ends c =
    ends_other c.args.at.now c.reflexive.new.terms c.reflexive.result c.reflexive.new.self.block c.args.from c.args.to
    (ends_met c.args.at.now c.args.terms.now c.args.self.now.block c.args.from c.args.to c.args.links.now c.if-is_empty.ensures c.requires.linked)
    c.reflexive.ensures.ends

pub returns-then-is_empty-clause-by : goal.returns-then-is_empty-clause-by
returns-then-is_empty-clause-by c = by_reflexive c.reflexive.result c.reflexive.new.self.block c.reflexive.ensures.by

pub trans-requires-clause-given : goal.trans-requires-clause-given
trans-requires-clause-given c =
    let e = c.requires.sides in
    chained c.args.at.now c.args.terms.now c.args.self.now.block c.leaves_differ.ensures.table c.one_to_one.ensures c.args.from c.args.to c.args.links.now e.left e.right
    e.left_refers e.right_refers (some_list c.args.links.now c.if-is_empty.ensures) c.requires.linked

pub trans-requires-clause-made : goal.trans-requires-clause-made
trans-requires-clause-made c = sides_made c.args.at.now c.args.terms.now c.requires.job c.args.from c.args.to c.requires.sides

pub returns-clause-by : goal.returns-clause-by
returns-clause-by c = by_trans c.trans.result c.trans.new.self.block c.trans.ensures.by
