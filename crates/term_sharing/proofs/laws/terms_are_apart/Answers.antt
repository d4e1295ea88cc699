use Rattle.term_sharing.proofs.ApartTerms.{term_apart}
use Rattle.term_sharing.proofs.laws.terms_are_apart.Goals as goal

pub returns : goal.returns
returns c = λ s v plan r t no_leaf refers n there. term_apart s n.name (no_leaf n there) refers.tree t refers.stands
