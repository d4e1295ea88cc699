use Rattle.std.proofs.Common.{◌∷◌, ◌+◌, drop, get_or, false, true≢false, sym, ap, ◌∙◌, arith}
use Rattle.std.specs.Global.{Vec}
use Rattle.clause_chain.specs.declared.signed_term.SignedTerm.{SignedTerm}
use Rattle.clause_chain.proofs.Keys.{of}
use Rattle.clause_chain.proofs.Onwards.{drop_one, stuck_here, on_here}
use Rattle.clause_chain.proofs.following.goes_through.Goals as goal

pub returns-then-not-branch-clause-stuck : goal.returns-then-not-branch-clause-stuck
returns-then-not-branch-clause-stuck c told clause h =
    let premises = c.args.premises.now in
    let pivots = c.args.pivots.now in
    let k = c.place.place in
    let below = c.place-test.true in
    let as_many = c.requires in
    let pair = get_or pivots k (of 0 false, of 0 false) in
    let v = c.index-premises-place.result in
    stuck_here c.place.chain premises pivots k v pair
    (drop_one premises k v below ∙ ap (λ (w : Vec SignedTerm). w ∷ drop (k + 1) premises) (sym c.index-premises-place.is))
    (drop_one pivots k (of 0 false, of 0 false) (omega (arith, as_many, below))) clause
    (rw c.deref.ensures.value at (c.in_ok-goes_on.ensures.stuck (λ yes. true≢false (sym yes ∙ c.if-not-branch.true))))
    ((c.place.invariant clause).0 h)

pub place-preserved : goal.place-preserved
place-preserved c clause =
    let premises = c.args.premises.now in
    let pivots = c.args.pivots.now in
    let k = c.place.place in
    let below = c.place-test.true in
    let as_many = c.requires in
    let pair = get_or pivots k (of 0 false, of 0 false) in
    let v = c.index-premises-place.result in
    let before = c.place.invariant clause in
    let next =
    on_here c.place.chain premises pivots k v pair
    (drop_one premises k v below ∙ ap (λ (w : Vec SignedTerm). w ∷ drop (k + 1) premises) (sym c.index-premises-place.is))
    (drop_one pivots k (of 0 false, of 0 false) (omega (arith, as_many, below))) clause c.goes_on.new.chain
    (rw c.deref.ensures.value at (c.in_ok-goes_on.ensures.joined c.if-not-branch.false)) in
    (λ h. next.0 (before.0 h), λ h. before.1 (next.1 h))
