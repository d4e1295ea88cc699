use Rattle.elab_equality.proofs.replacing.steps.Goals as goal

pub returns-clause-asserted : goal.returns-clause-asserted
returns-clause-asserted c =
    let asked = c.in_ok-block.ensures.asserted in
    record { are = asked.are; ready = c.keys_stay.ensures c.args.terms.now c.block_for.new.terms c.block_for.new.asserted c.block_for.ensures.keeps asked.ready }
