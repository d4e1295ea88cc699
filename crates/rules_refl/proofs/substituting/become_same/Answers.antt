use Rattle.term_pool.proofs.PlacedCells.{places_more_then, places_none}
use Rattle.rules_refl.proofs.substituting.become_same.Goals as goal

pub returns-clause-same : goal.returns-clause-same
returns-clause-same c anchors t u sides =
    c.in_ok-same.ensures.same _ _ (c.in_ok-left.ensures.left anchors t u sides) (c.in_ok-left.ensures.right anchors t u sides)

pub returns-clause-placed : goal.returns-clause-placed
returns-clause-placed c anchors t u sides =
    let s = c.args.symbols.now in
    places_more_then s c.args.terms.now.pass c.substituted.new.terms.pass c.are_same.new.terms.pass _ c.are_same.ensures.keeps.pass
    (c.substituted.ensures.placed anchors t u sides)
    (places_none s c.substituted.new.terms.pass c.are_same.new.terms.pass _ c.are_same.ensures.unchanged.placed)
