use Rattle.std.proofs.Common.{◌≤◌, arith, sym, subst}
use Rattle.equality_steps.specs.Links.{LinkEquates}
use Rattle.elab_denials.specs.Owing.{Frees, IsFreedBy}
use Rattle.elab_denials.specs.Working.{AreFlipsAt, IsPlaceAt}
use Rattle.elab_denials.proofs.OwingLemmas.{denied_later, frees_equated, frees_turned, pair_eta, says_turned}
use Rattle.elab_denials.proofs.WorkLemmas.{done_more, later}
use Rattle.elab_denials.proofs.repairing.freed.Goals as goal

pub turned-requires-clause-place : goal.turned-requires-clause-place
turned-requires-clause-place c = subst (λ q. IsPlaceAt c.args.at.now c.args.terms.now q.0 q.1) (sym c.sides-a.ensures) c.requires.place

pub returns-in_ok-turning-clause-frees : goal.returns-in_ok-turning-clause-frees
returns-in_ok-turning-clause-frees c =
    let p = c.args.at.now in
    let s = p.symbols.now in
    let v = c.args.terms.now in
    let w = c.turned.new.terms in
    let q = c.args.pair in
    let keeps = c.in_ok-turning.ensures.went.keeps in
    let one = c.equal_exactly_where_terms_are.ensures s c.leaves_differ.ensures.table in
    let h = c.requires.place in
    let says =
    c.in_ok-turning.ensures.says h.left h.right
    (subst (λ x. Rattle.term_pool.specs.Views.RefersTo s v x.0 h.left) (sym c.sides-a.ensures) h.left_refers)
    (subst (λ x. Rattle.term_pool.specs.Views.RefersTo s v x.1 h.right) (sym c.sides-a.ensures) h.right_refers) in
    subst (Frees p w c.turned.new.work.block c.in_ok-turning.turning) (pair_eta q)
    (frees_turned p w one c.turned.new.work.block c.in_ok-turning.turning q.0 q.1
    (denied_later p v w keeps (q.1, q.0) (subst (IsFreedBy p v q) c.if-is_turned.true c.requires.freed))
    (says_turned p w c.turned.new.work.block c.in_ok-turning.turning q.0 q.1 h.left h.right (later p v w keeps q.0 h.left h.left_refers)
    (later p v w keeps q.1 h.right h.right_refers) says))

pub returns-in_ok-turning-clause-done : goal.returns-in_ok-turning-clause-done
returns-in_ok-turning-clause-done c =
    let low : 2 ≤ 3 = omega arith in
    done_more c.args.at.now c.turned.new.terms c.args.work.now c.turned.new.work 2 3 low c.in_ok-turning.ensures.done

pub paid-requires-clause-place : goal.paid-requires-clause-place
paid-requires-clause-place c = subst (λ q. IsPlaceAt c.args.at.now c.args.terms.now q.0 q.1) (sym c.sides-a.ensures) c.requires.place

pub paid-requires-clause-equal : goal.paid-requires-clause-equal
paid-requires-clause-equal c =
    subst (λ q. AreFlipsAt c.args.at.now c.args.terms.now q.0 q.1) (sym c.sides-a.ensures)
    (subst (IsFreedBy c.args.at.now c.args.terms.now c.args.pair) c.if-is_turned.false c.requires.freed)

pub returns-in_ok-paying-clause-frees : goal.returns-in_ok-paying-clause-frees
returns-in_ok-paying-clause-frees c =
    let p = c.args.at.now in
    let w = c.paid.new.terms in
    let q = c.args.pair in
    subst (Frees p w c.paid.new.work.block c.in_ok-paying.paying) (pair_eta q)
    (frees_equated p w c.paid.new.work.block c.in_ok-paying.paying q.0 q.1
    (subst (λ x. LinkEquates p w c.paid.new.work.block c.in_ok-paying.paying x.0 x.1) c.sides-a.ensures c.in_ok-paying.ensures.equates))
