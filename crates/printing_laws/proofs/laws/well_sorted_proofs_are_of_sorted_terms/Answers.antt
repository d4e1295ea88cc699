use Rattle.rule_model.specs.Scopes.{outermost}
use Rattle.readable_proofs.specs.Names.{vocabulary_of}
use Rattle.printing_laws.proofs.SortedOver.{sorted_over}
use Rattle.printing_laws.proofs.SortedTerms.{are_sorted}
use Rattle.printing_laws.proofs.laws.well_sorted_proofs_are_of_sorted_terms.Goals as goal

pub returns-clause-whole : goal.returns-clause-whole
returns-clause-whole c = λ s v refs of stand sorted.
    let law = c.terms_correspond.ensures in
    are_sorted s v refs of (λ i. law.clause s v refs of i stand) (λ k. law.bindings s v refs of k stand) sorted

pub returns-clause-elaborated : goal.returns-clause-elaborated
returns-clause-elaborated c = λ s v refs check old of stand is sorted. returns-clause-whole c s v refs of stand (is.sorted sorted)

pub returns-clause-read : goal.returns-clause-read
returns-clause-read c = λ problem replaces before source settings proof after s v refs h k stand.
    returns-clause-whole c s v refs proof stand
    (sorted_over (vocabulary_of before after.let_names) outermost proof
    (c.proofs_are_over_their_names.ensures.proof problem replaces before source settings proof after h k))
