use Rattle.std.proofs.Common.{◌≤◌, ◌+◌, ◌-◌, map}
use Rattle.elaborator.specs.Pieces.{AreMadeBy, PlacesOnly}
use Rattle.elaborator.proofs.making.blocks_by.Given as goal

abbrev pub invariant-commands : goal.invariant-commands
invariant-commands g l = record {
  places : PlacesOnly (g.E.Elaborate.symbols l.job.elaborate.now) (g.E.Elaborate.places l.job.elaborate.now l.job.proof.now) l.initial.terms l.terms;
  fits : g.E.Elaborate.fits l.job.elaborate.now l.job.proof.now l.terms;
  kept : g.E.Elaborate.is_kept l.job.elaborate.now l.job.proof.now l.terms l.kept;
  from : l.first ≤ l.i;
  made : AreMadeBy (λ k block. g.E.Elaborate.says l.job.elaborate.now l.job.proof.now l.terms (l.first + k) block) (l.i - l.first)
      (map (λ block. block.items) l.blocks.items);
}
