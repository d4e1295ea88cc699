use Rattle.named_proofs.proofs.laws.named_proofs_have_sorts.Goals as goal

pub returns : goal.returns
returns c = λ problem replaces before names s v refs of is_problem same stand over.
    let well = c.scripts_are_well_named.ensures.names problem replaces before is_problem in
    c.readable_sorts_are_declared.ensures before s v refs of same stand
    (λ n. c.anchors_have_readable_sorts.ensures before names of n well over)
