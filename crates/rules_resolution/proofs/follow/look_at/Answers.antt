use Rattle.std.proofs.Common.{refl, sym, ◌∙◌}
use Rattle.rules_resolution.proofs.Progresses.{standing_read, conflict_here}
use Rattle.rules_resolution.proofs.follow.look_at.Goals as goal

pub returns-then-left-eq0-clause-looks : goal.returns-then-left-eq0-clause-looks
returns-then-left-eq0-clause-looks c =
    let read = standing_read c.args.work.now.standings.items c.args.premise c.index.result.now c.index.ensures c.requires.place in
    (refl, λ conclusion progress. conflict_here _ conclusion _ _ _ _ _ c.args.premise progress c.requires.place (sym read.0 ∙ c.if-left-eq0.true))
