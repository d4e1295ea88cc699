use Rattle.elab_denials.proofs.ConnectLemmas.{transitive_closes_nothing, transitive_few}
use Rattle.elab_denials.proofs.OwnLemmas.{own_literals}
use Rattle.elab_denials.proofs.transitive.concluded.Goals as goal

pub finished-requires-clause-opens : goal.finished-requires-clause-opens
finished-requires-clause-opens c = transitive_closes_nothing c.args.at.now c.args.terms.now c.requires.job c.requires.rule

pub finished-requires-clause-literals : goal.finished-requires-clause-literals
finished-requires-clause-literals c = own_literals c.args.at.now c.args.terms.now c.requires.job

pub finished-requires-clause-few : goal.finished-requires-clause-few
finished-requires-clause-few c =
    let p = c.args.at.now in
    let v = c.args.terms.now in
    transitive_few p v c.requires.job c.requires.rule c.args.work c.requires.work
    (λ roots trees n. c.are_of_cells.ensures p.symbols.now v roots trees n c.leaves_differ.ensures.table c.one_to_one.ensures c.terms_at.ensures.parts)
    c.requires.few
