use Rattle.term_sharing.proofs.UsesLemmas.{head_none, head_some, no_let}
use Rattle.term_sharing.proofs.uses.is_let.Goals as goal

pub returns-clause-yes : goal.returns-clause-yes
returns-clause-yes c = λ is. head_none c.head.result c.is_none.result _ c.is_none.ensures is c.head.ensures.let_term

pub returns-clause-no : goal.returns-clause-no
returns-clause-no c = λ is_no s t table refers is.
    let k = head_some c.head.result c.is_none.result _ c.is_none.ensures is_no c.head.ensures.application in
    no_let s k.0 _ t (k.1 s t table refers) is
