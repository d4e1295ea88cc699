use Rattle.std.proofs.Common.{◌<◌, [], length, take, get_or, sym, subst, arith}
use Rattle.std.proofs.lemmas.List.{take_more, take_all}
use Rattle.chain_plan.specs.Contradicting.{AreMarks}
use Rattle.chain_plan.specs.Towers.{IsLiteral, item_of, plain_of}
use Rattle.chain_plan.proofs.Begins.{no_marks, marks_more}
use Rattle.chain_plan.proofs.Towers.{plain_most}
use Rattle.chain_plan.proofs.opposites.marks_of.Goals as goal

pub literals-init : goal.literals-init
literals-init c =
    subst (AreMarks c.args.spellings.now []) (sym (c.in_ok-marks.ensures.items_if_clones_equal (λ y same. same)))
    (no_marks c.args.spellings.now c.count.result c.count.ensures)

pub literals-preserved : goal.literals-preserved
literals-preserved c =
    let t = c.args.spellings.now in
    let goals = c.args.goal.now in
    let i = c.literals.literal-index in
    let below = c.literals-test.true in
    let lit = get_or goals i (item_of 0) in
    let literal : IsLiteral t lit = c.requires.literals i (item_of 0) below in
    let within : plain_of t lit.term < length t.nots = let w = literal.room.one.within in let most = plain_most t lit.term in omega arith in
    let more = marks_more t (take i goals) c.literals.marks.items lit c.literals.invariant within in
    rw (take_more goals i (item_of 0) below, c.plain-plain.ensures) more

pub returns : goal.returns
returns c =
    subst (λ gs. AreMarks c.args.spellings.now gs c.literals.marks.items)
    (take_all c.literals.literal-index c.args.goal.now c.literals-test.false) c.literals.invariant
