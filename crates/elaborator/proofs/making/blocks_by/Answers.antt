use Rattle.std.proofs.Common.{arith}
use Rattle.elaborator.proofs.MadeBlocks.{made_pushed, more_of, places_both}
use Rattle.elaborator.proofs.making.blocks_by.Goals as goal

pub returns-in_err-block-clause-places : goal.returns-in_err-block-clause-places
returns-in_err-block-clause-places g c =
    let elaborate = c.args.job.now.elaborate.now in
    let proof = c.args.job.now.proof.now in
    places_both (g.E.Elaborate.symbols elaborate) (g.E.Elaborate.places elaborate proof) (c.more_may_be_known.ensures.places proof)
    c.args.terms.now c.commands.terms c.steps.new.terms c.commands.invariant.places c.steps.ensures.places

pub returns-in_err-append-clause-places : goal.returns-in_err-append-clause-places
returns-in_err-append-clause-places g c =
    let elaborate = c.args.job.now.elaborate.now in
    let proof = c.args.job.now.proof.now in
    places_both (g.E.Elaborate.symbols elaborate) (g.E.Elaborate.places elaborate proof) (c.more_may_be_known.ensures.places proof)
    c.args.terms.now c.commands.terms c.steps.new.terms c.commands.invariant.places c.steps.ensures.places

pub commands-preserved : goal.commands-preserved
commands-preserved g c =
    let elaborate = c.args.job.now.elaborate.now in
    let proof = c.args.job.now.proof.now in
    let old = c.commands.terms in
    let new = c.steps.new.terms in
    let more = more_of old new c.steps.ensures.places.keeps in
    let before = c.commands.invariant.from in
    record {
      places = places_both (g.E.Elaborate.symbols elaborate) (g.E.Elaborate.places elaborate proof) (c.more_may_be_known.ensures.places proof)
          c.args.terms.now old new c.commands.invariant.places c.steps.ensures.places;
      fits = c.more_may_be_known.ensures.fits proof old new more c.commands.invariant.fits;
      kept = c.in_ok-block.ensures.kept;
      from = omega (arith, before);
      made = made_pushed (g.E.Elaborate.says elaborate proof old) (g.E.Elaborate.says elaborate proof new) c.args.first c.commands.i
          c.commands.blocks.items c.append.new.list.items c.in_ok-block.block
          (λ i b x. c.more_may_be_known.ensures.says proof old new i b more x) before c.commands.invariant.made c.in_ok-block.ensures.says c.in_ok-append.ensures;
    }
