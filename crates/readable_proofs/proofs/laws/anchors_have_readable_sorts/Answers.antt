use Rattle.readable_proofs.proofs.AnchorSorts.{sorts_read}
use Rattle.readable_proofs.proofs.laws.anchors_have_readable_sorts.Goals as goal

pub returns : goal.returns
returns c = λ s names proof k well over. sorts_read s names well proof k over
