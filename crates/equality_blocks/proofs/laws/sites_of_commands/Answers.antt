use Rattle.equality_blocks.proofs.LiteralLemmas.{site_there}
use Rattle.equality_blocks.proofs.laws.sites_of_commands.Goals as goal

pub returns : goal.returns
returns c p v h = site_there p v h
