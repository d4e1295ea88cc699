use Rattle.std.proofs.Common.{take, get_or, Contains, sym, ◌∙◌, subst}
use Rattle.std.proofs.lemmas.List.{take_more}
use Rattle.proof_prune.specs.Marking.{MarksMore}
use Rattle.proof_prune.proofs.Marks.{one_contained}
use Rattle.proof_prune.proofs.marking.mark_all.Goals as goal

pub numbers-preserved : goal.numbers-preserved
numbers-preserved c =
    let all = c.args.numbers.now in
    let i = c.numbers.number-index in
    let more = take_more all i 0 c.numbers-test.true in (
      subst (λ ns. MarksMore c.args.marks.now.items c.mark.new.marks.items (Contains ns)) (sym more)
          (one_contained c.args.marks.now.items c.numbers.marks.items c.mark.new.marks.items (get_or all i 0) (take i all) c.numbers.invariant.0 c.mark.ensures.more),
      c.mark.ensures.count ∙ c.numbers.invariant.1,
    )
