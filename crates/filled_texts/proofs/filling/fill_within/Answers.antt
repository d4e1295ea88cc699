use Rattle.std.proofs.Common.{◌∙◌, refl, sym}
use Rattle.filled_texts.proofs.Ends.{ends, ends_at_last, goes_on}
use Rattle.filled_texts.proofs.filling.fill_within.Goals as goal

pub pools-init : goal.pools-init
pools-init g c = refl

pub pools-preserved : goal.pools-preserved
pools-preserved g c =
    goes_on c.args.to_fill.now _ c.args.to_fill.now.most_bits _ _ _ c.pools.invariant c.fill_into-end.result
    (sym c.is_full.ensures ∙ c.if-not-is_full.false) c.fill_into-end.ensures

pub returns-then-not-is_full : goal.returns-then-not-is_full
returns-then-not-is_full g c =
    ends c.args.to_fill.now _ c.args.to_fill.now.most_bits _ _ _ c.pools.invariant c.fill_into-end.result
    (sym c.is_full.ensures ∙ c.if-not-is_full.true) c.fill_into-end.ensures

pub returns : goal.returns
returns g c =
    ends_at_last c.args.to_fill.now _ c.args.to_fill.now.most_bits _ _ _ c.pools.invariant c.fill_into.result c.fill_into.ensures
