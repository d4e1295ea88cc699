use Rattle.std.proofs.Common.{◌∷◌, ◌+◌, ◌≤◌, arith}
use Rattle.elab_denials.proofs.OwingLemmas.{opposed, owing_later, owing_step}
use Rattle.elab_denials.proofs.Results.{handed_on}
use Rattle.elab_denials.proofs.WorkLemmas.{done_then, place_later, went_then}
use Rattle.elab_denials.proofs.repairing.replaced.Goals as goal

pub resolved-requires-clause-work : goal.resolved-requires-clause-work
resolved-requires-clause-work c = c.in_ok-right.ensures.done.work

pub resolved-requires-clause-opposed : goal.resolved-requires-clause-opposed
resolved-requires-clause-opposed c =
    let p = c.args.at.now in
    let v = c.args.terms.now in
    let w = c.freed.new.terms in
    let q = c.args.pair in
    let e = c.in_ok-right.ensures in
    let one = c.equal_exactly_where_terms_are.ensures p.symbols.now c.leaves_differ.ensures.table in
    let rest = c.requires.owing.rest in
    opposed p w one c.freed.new.work.block c.args.link c.in_ok-right.right q rest (place_later p v w e.went.keeps q.0 q.1 c.requires.place)
    (owing_later p v w e.went.keeps c.blocks_stay.ensures.link c.args.work.now.block c.freed.new.work.block e.done.extends c.args.link (q ∷ rest) c.requires.owing.owing)
    e.frees

pub returns-in_err-new-clause-went : goal.returns-in_err-new-clause-went
returns-in_err-new-clause-went c =
    went_then c.args.at.now c.args.terms.now c.freed.new.terms c.resolved.new.terms c.in_ok-right.ensures.went c.in_err-new.ensures.went

pub returns-in_err-new-clause-full : goal.returns-in_err-new-clause-full
returns-in_err-new-clause-full c = handed_on c.from_residual-in_err-new.result _ _ c.from_residual-in_err-new.ensures.1 c.in_err-new.ensures.full

pub returns-clause-owing : goal.returns-clause-owing
returns-clause-owing c rest h last =
    let p = c.args.at.now in
    let v = c.args.terms.now in
    let w = c.freed.new.terms in
    let q = c.args.pair in
    let e = c.in_ok-right.ensures in
    let one = c.equal_exactly_where_terms_are.ensures p.symbols.now c.leaves_differ.ensures.table in
    let here = owing_later p v w e.went.keeps c.blocks_stay.ensures.link c.args.work.now.block c.freed.new.work.block e.done.extends c.args.link (q ∷ rest) h in
    owing_step p w one c.resolvents_have_other_literals.ensures c.resolved.new.terms c.in_ok-new.ensures.went.keeps c.freed.new.work.block
    c.resolved.new.work.block c.args.link c.in_ok-right.right c.in_ok-new.new q rest here e.frees last
    (c.in_ok-new.ensures.says here.clause e.frees.clause e.frees.left e.frees.right here.says e.frees.says e.frees.left_refers e.frees.right_refers)

pub returns-clause-done : goal.returns-clause-done
returns-clause-done c =
    let low : 3 + 1 ≤ 4 = omega arith in
    done_then c.args.at.now c.resolved.new.terms c.freed.new.terms c.args.work.now c.freed.new.work c.resolved.new.work 3 1 4 low
    c.in_ok-right.ensures.done c.in_ok-new.ensures.done

pub returns-clause-went : goal.returns-clause-went
returns-clause-went c =
    went_then c.args.at.now c.args.terms.now c.freed.new.terms c.resolved.new.terms c.in_ok-right.ensures.went c.in_ok-new.ensures.went
