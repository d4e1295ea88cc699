use Rattle.term_sharing.proofs.ApartTerms.{place_apart}
use Rattle.term_sharing.proofs.laws.places_are_apart.Goals as goal

pub returns : goal.returns
returns c = λ s plan p no_leaf have n there. place_apart s n.name (no_leaf n there) p.scope have
