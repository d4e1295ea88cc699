use Rattle.std.proofs.Common.{◌≤◌, ◌+◌, arith, refl}
use Rattle.flip_steps.specs.Stages.{IsMadeAt}
use Rattle.flip_steps.proofs.EquateLemmas.{grows_then, placed_through, ready_later}
use Rattle.flip_steps.proofs.MemoryLemmas.{equates_later}
use Rattle.flip_steps.proofs.OrderLemmas.{made_at_later}
use Rattle.flip_steps.proofs.Results.{handed_on}
use Rattle.flip_steps.proofs.UnitLemmas.{units_extend}
use Rattle.flip_steps.proofs.equating.equate_through.Goals as goal

pub returns-in_err-turned-clause-full : goal.returns-in_err-turned-clause-full
returns-in_err-turned-clause-full c = handed_on c.from_residual.result _ _ c.from_residual.ensures.1 c.in_err-turned.ensures.full

pub equate_both-requires-clause-ready : goal.equate_both-requires-clause-ready
equate_both-requires-clause-ready c =
    let p = c.args.at.now in
    let v = c.args.terms.now in
    let w = c.equate_sides.new.terms in
    let e = c.in_ok-turned.ensures in
    let more = units_extend p w c.args.block.now c.equate_sides.new.block (IsMadeAt p.symbols.now w c.args.stages.now.whole) e.grown.units in
    record {
      links = c.requires.ready.links;
      ready = ready_later c.blocks_stay.ensures.link p v w c.args.block.now c.equate_sides.new.block c.requires.ready.links c.args.stages.now e.keeps more
          c.requires.ready.ready;
    }

pub equate_both-requires-clause-links : goal.equate_both-requires-clause-links
equate_both-requires-clause-links c =
    let p = c.args.at.now in
    let v = c.args.terms.now in
    let w = c.equate_sides.new.terms in
    let e = c.in_ok-turned.ensures in
    let more = units_extend p w c.args.block.now c.equate_sides.new.block (IsMadeAt p.symbols.now w c.args.stages.now.whole) e.grown.units in (
      c.args.inner,
      c.in_ok-turned.turned,
      refl,
      equates_later c.blocks_stay.ensures.link p v w c.args.block.now c.equate_sides.new.block e.keeps more c.args.inner c.args.stages.now.whole
          c.args.stages.now.refilled c.requires.inner,
      e.linked,
    )

pub returns-in_err-linked-clause-placed : goal.returns-in_err-linked-clause-placed
returns-in_err-linked-clause-placed c =
    placed_through c.args.at.now.symbols.now c.args.terms.now c.equate_sides.new.terms c.equate_both.new.terms c.args.stages.now.whole
    c.in_err-linked.ensures.keeps c.in_ok-turned.ensures.placed c.in_err-linked.ensures.placed

pub returns-in_err-linked-clause-full : goal.returns-in_err-linked-clause-full
returns-in_err-linked-clause-full c =
    handed_on c.from_residual-in_err-linked.result _ _ c.from_residual-in_err-linked.ensures.1 c.in_err-linked.ensures.full

pub returns-clause-grown : goal.returns-clause-grown
returns-clause-grown c =
    let p = c.args.at.now in
    let v = c.equate_sides.new.terms in
    let w = c.equate_both.new.terms in
    let low : 1 + 1 ≤ 2 = omega arith in
    grows_then p v w c.args.block.now c.equate_sides.new.block c.equate_both.new.block (IsMadeAt p.symbols.now v c.args.stages.now.whole)
    (IsMadeAt p.symbols.now w c.args.stages.now.whole) 1 1 2 c.in_ok-linked.ensures.keeps
    (made_at_later p.symbols.now v w c.in_ok-linked.ensures.keeps.pass.grows c.args.stages.now.whole) low c.in_ok-turned.ensures.grown
    c.in_ok-linked.ensures.grown

pub returns-clause-placed : goal.returns-clause-placed
returns-clause-placed c =
    placed_through c.args.at.now.symbols.now c.args.terms.now c.equate_sides.new.terms c.equate_both.new.terms c.args.stages.now.whole
    c.in_ok-linked.ensures.keeps c.in_ok-turned.ensures.placed c.in_ok-linked.ensures.placed
