use Rattle.term_names.proofs.LetBinding.{itself-value}
use Rattle.term_names.proofs.lets.as_itself.Goals as goal

pub returns : goal.returns
returns c = λ s v x e same. itself-value s v c.args.leaf _ c.args.sort x (c.leaf.ensures.stands v.pass) e same
