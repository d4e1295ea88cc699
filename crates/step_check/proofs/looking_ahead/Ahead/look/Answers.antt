use Rattle.pair_pool.specs.Views.{IsKnown}
use Rattle.term_pool.specs.Views.{IsTerm}
use Rattle.step_check.proofs.AheadLemmas.{all_more, term_known}
use Rattle.step_check.proofs.looking_ahead.Ahead.look.Goals as goal

pub look_deeper-requires : goal.look_deeper-requires
look_deeper-requires c =
    let s = c.requires.stand.0 in
    let v = c.args.terms.now in
    all_more (IsTerm s v) (IsKnown v.pass) _ (term_known s v) (c.in_ok-take_literals.ensures s v c.requires.stand.1)
