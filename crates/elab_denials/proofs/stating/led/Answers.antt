use Rattle.std.proofs.Common.{◌+◌, ◌≤◌, arith, subst}
use Rattle.elab_denials.specs.Stating.{SaysLed}
use Rattle.elab_denials.proofs.Results.{handed_on}
use Rattle.elab_denials.proofs.StateLemmas.{led_opposed, led_says, way_same}
use Rattle.elab_denials.proofs.WorkLemmas.{done_then, went_then}
use Rattle.elab_denials.proofs.stating.led.Goals as goal

pub resolved-requires-clause-work : goal.resolved-requires-clause-work
resolved-requires-clause-work c = c.in_ok-link.ensures.done.work

pub resolved-requires-clause-opposed : goal.resolved-requires-clause-opposed
resolved-requires-clause-opposed c =
    let p = c.args.at.now in
    let v = c.args.terms.now in
    let w = c.chained.new.terms in
    let h = c.requires.way in
    let way = c.args.way in
    let one = c.equal_exactly_where_terms_are.ensures p.symbols.now c.leaves_differ.ensures.table in
    rw c.new.ensures (led_opposed p v w c.in_ok-link.ensures.went.keeps one c.args.work.now.block c.chained.new.work.block c.blocks_stay.ensures.link c.in_ok-link.ensures.done.extends
    way.0 way.1 way.2 h c.args.first c.in_ok-link.link c.requires.first (c.in_ok-link.ensures.says h.one h.two h.three h.one_refers h.two_refers h.three_refers))

pub returns-in_err-new-clause-went : goal.returns-in_err-new-clause-went
returns-in_err-new-clause-went c =
    went_then c.args.at.now c.args.terms.now c.chained.new.terms c.resolved.new.terms c.in_ok-link.ensures.went c.in_err-new.ensures.went

pub returns-in_err-new-clause-full : goal.returns-in_err-new-clause-full
returns-in_err-new-clause-full c = handed_on c.from_residual-in_err-new.result _ _ c.from_residual-in_err-new.ensures.1 c.in_err-new.ensures.full

pub returns-clause-says : goal.returns-clause-says
returns-clause-says c t u w l m r =
    let p = c.args.at.now in
    let v = c.args.terms.now in
    let z = c.resolved.new.terms in
    let h = c.requires.way in
    let way = c.args.way in
    let one = c.equal_exactly_where_terms_are.ensures p.symbols.now c.leaves_differ.ensures.table in
    let same = way_same p v way.0 way.1 way.2 h one t u w l m r in
    let led =
    led_says p v c.chained.new.terms c.in_ok-link.ensures.went.keeps one c.args.work.now.block c.chained.new.work.block c.blocks_stay.ensures.link
    c.in_ok-link.ensures.done.extends way.0 way.1 way.2 h c.args.first c.in_ok-link.link c.requires.first
    (c.in_ok-link.ensures.says h.one h.two h.three h.one_refers h.two_refers h.three_refers) c.resolvents_have_other_literals.ensures z c.resolved.new.work.block
    c.in_ok-new.new (rw c.new.ensures at c.in_ok-new.ensures.says) in
    subst (λ x. SaysLed p z c.resolved.new.work.block c.in_ok-new.new t u x) same.2
    (subst (λ x. SaysLed p z c.resolved.new.work.block c.in_ok-new.new t x h.three) same.1
    (subst (λ x. SaysLed p z c.resolved.new.work.block c.in_ok-new.new x h.two h.three) same.0 led))

pub returns-clause-done : goal.returns-clause-done
returns-clause-done c =
    let low : 1 + 1 ≤ 2 = omega arith in
    done_then c.args.at.now c.resolved.new.terms c.chained.new.terms c.args.work.now c.chained.new.work c.resolved.new.work 1 1 2 low
    c.in_ok-link.ensures.done c.in_ok-new.ensures.done

pub returns-clause-went : goal.returns-clause-went
returns-clause-went c =
    went_then c.args.at.now c.args.terms.now c.chained.new.terms c.resolved.new.terms c.in_ok-link.ensures.went c.in_ok-new.ensures.went
