use Rattle.std.proofs.Common.{◌≡◌, ◌≢◌, ◌≤◌, ◌+◌, sym, subst, arith}
use Rattle.equality_steps.specs.Links.{LinkEquates}
use Rattle.flip_steps.specs.Stages.{IsMadeAt}
use Rattle.flip_steps.proofs.EquateLemmas.{grows_more, grows_none, grows_then, placed_through, ready_later}
use Rattle.flip_steps.proofs.OrderLemmas.{made_at_later}
use Rattle.flip_steps.proofs.Results.{handed_on}
use Rattle.flip_steps.proofs.UnitLemmas.{units_extend}
use Rattle.flip_steps.proofs.equating.equate.Goals as goal

pub returns-then-number-clause-linked : goal.returns-then-number-clause-linked
returns-then-number-clause-linked c = let e : c.args.stages.now.whole ≡ c.args.stages.now.form = omega arith in e

pub returns-then-number-clause-grown : goal.returns-then-number-clause-grown
returns-then-number-clause-grown c =
    grows_none c.args.at.now c.args.terms.now c.args.block.now (IsMadeAt c.args.at.now.symbols.now c.args.terms.now c.args.stages.now.whole) 3 c.requires.block

pub equate_sides-requires-clause-ready : goal.equate_sides-requires-clause-ready
equate_sides-requires-clause-ready c = record { links = c.args.links.now; ready = c.requires.ready }

pub equate_sides-requires-clause-apart : goal.equate_sides-requires-clause-apart
equate_sides-requires-clause-apart c = let apart : c.args.stages.now.refilled ≢ c.args.stages.now.form = omega arith in apart

pub returns-in_err-turned-clause-full : goal.returns-in_err-turned-clause-full
returns-in_err-turned-clause-full c = handed_on c.from_residual.result _ _ c.from_residual.ensures.1 c.in_err-turned.ensures.full

pub returns-then-number-2-clause-linked : goal.returns-then-number-2-clause-linked
returns-then-number-2-clause-linked c =
    let apart : c.args.stages.now.whole ≢ c.args.stages.now.form = omega arith in
    let same : c.args.stages.now.whole ≡ c.args.stages.now.refilled = omega arith in (
      apart,
      subst (λ r. LinkEquates c.args.at.now c.equate_sides.new.terms c.equate_sides.new.block c.in_ok-turned.turned r c.args.stages.now.form) (sym same)
          c.in_ok-turned.ensures.linked,
    )

pub returns-then-number-2-clause-grown : goal.returns-then-number-2-clause-grown
returns-then-number-2-clause-grown c =
    let low : 1 ≤ 3 = omega arith in
    grows_more c.args.at.now c.equate_sides.new.terms c.args.block.now c.equate_sides.new.block
    (IsMadeAt c.args.at.now.symbols.now c.equate_sides.new.terms c.args.stages.now.whole) 1 3 low c.in_ok-turned.ensures.grown

pub equate_arguments-requires-clause-apart : goal.equate_arguments-requires-clause-apart
equate_arguments-requires-clause-apart c = let apart : c.args.stages.now.whole ≢ c.args.stages.now.refilled = omega arith in apart

pub returns-in_err-inner-clause-full : goal.returns-in_err-inner-clause-full
returns-in_err-inner-clause-full c = handed_on c.from_residual-in_err-inner.result _ _ c.from_residual-in_err-inner.ensures.1 c.in_err-inner.ensures.full

pub returns-then-number-3-clause-linked : goal.returns-then-number-3-clause-linked
returns-then-number-3-clause-linked c =
    let apart : c.args.stages.now.whole ≢ c.args.stages.now.form = omega arith in
    let same : c.args.stages.now.refilled ≡ c.args.stages.now.form = omega arith in (
      apart,
      subst (λ r. LinkEquates c.args.at.now c.equate_arguments.new.terms c.equate_arguments.new.block c.in_ok-inner.inner c.args.stages.now.whole r) same
          c.in_ok-inner.ensures.linked,
    )

pub returns-then-number-3-clause-grown : goal.returns-then-number-3-clause-grown
returns-then-number-3-clause-grown c =
    let low : 1 ≤ 3 = omega arith in
    grows_more c.args.at.now c.equate_arguments.new.terms c.args.block.now c.equate_arguments.new.block
    (IsMadeAt c.args.at.now.symbols.now c.equate_arguments.new.terms c.args.stages.now.whole) 1 3 low c.in_ok-inner.ensures.grown

pub equate_through-requires-clause-ready : goal.equate_through-requires-clause-ready
equate_through-requires-clause-ready c =
    let p = c.args.at.now in
    let w = c.equate_arguments.new.terms in
    let e = c.in_ok-inner.ensures in
    let more = units_extend p w c.args.block.now c.equate_arguments.new.block (IsMadeAt p.symbols.now w c.args.stages.now.whole) e.grown.units in
    record {
      links = c.args.links.now;
      ready = ready_later c.blocks_stay.ensures.link p c.args.terms.now w c.args.block.now c.equate_arguments.new.block c.args.links.now c.args.stages.now
          e.keeps more
          c.requires.ready;
    }

pub equate_through-requires-clause-apart : goal.equate_through-requires-clause-apart
equate_through-requires-clause-apart c = let apart : c.args.stages.now.refilled ≢ c.args.stages.now.form = omega arith in apart

pub returns-in_err-linked-clause-placed : goal.returns-in_err-linked-clause-placed
returns-in_err-linked-clause-placed c =
    placed_through c.args.at.now.symbols.now c.args.terms.now c.equate_arguments.new.terms c.equate_through.new.terms c.args.stages.now.whole
    c.in_err-linked.ensures.keeps c.in_ok-inner.ensures.placed c.in_err-linked.ensures.placed

pub returns-in_err-linked-clause-full : goal.returns-in_err-linked-clause-full
returns-in_err-linked-clause-full c =
    handed_on c.from_residual-in_err-linked.result _ _ c.from_residual-in_err-linked.ensures.1 c.in_err-linked.ensures.full

pub returns-clause-linked : goal.returns-clause-linked
returns-clause-linked c = let apart : c.args.stages.now.whole ≢ c.args.stages.now.form = omega arith in (apart, c.in_ok-linked.ensures.linked)

pub returns-clause-grown : goal.returns-clause-grown
returns-clause-grown c =
    let p = c.args.at.now in
    let v = c.equate_arguments.new.terms in
    let w = c.equate_through.new.terms in
    let low : 1 + 2 ≤ 3 = omega arith in
    grows_then p v w c.args.block.now c.equate_arguments.new.block c.equate_through.new.block (IsMadeAt p.symbols.now v c.args.stages.now.whole)
    (IsMadeAt p.symbols.now w c.args.stages.now.whole) 1 2 3 c.in_ok-linked.ensures.keeps
    (made_at_later p.symbols.now v w c.in_ok-linked.ensures.keeps.pass.grows c.args.stages.now.whole) low c.in_ok-inner.ensures.grown
    c.in_ok-linked.ensures.grown

pub returns-clause-placed : goal.returns-clause-placed
returns-clause-placed c =
    placed_through c.args.at.now.symbols.now c.args.terms.now c.equate_arguments.new.terms c.equate_through.new.terms c.args.stages.now.whole
    c.in_ok-linked.ensures.keeps c.in_ok-inner.ensures.placed c.in_ok-linked.ensures.placed
