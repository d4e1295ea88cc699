use Rattle.filling_cli.proofs.Spelled.{other_first}
use Rattle.filling_cli.proofs.words.as_elaborate.Goals as goal

pub returns : goal.returns
returns c =
    other_first c.args.words.now c.in_ok-spelled.spelled.items c.in_ok-spelled-2.field-0 c.requires c.in_ok-spelled.ensures.ok c.in_ok-spelled-2.ensures.ok
