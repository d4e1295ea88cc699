use Rattle.term_model.specs.Flips.{equality}
use Rattle.term_pool.proofs.PlacedCells.{places_of_term, lacks_for_term}
use Rattle.flip_steps.specs.Stages.{IsEqualityOf}
use Rattle.flip_steps.proofs.EquateLemmas.{equates_of, grows_one}
use Rattle.flip_steps.proofs.JoinLemmas.{made_whole}
use Rattle.flip_steps.proofs.Results.{handed_on}
use Rattle.flip_steps.proofs.exchanging.exchange.Goals as goal

pub returns-in_err-linked-clause-placed : goal.returns-in_err-linked-clause-placed
returns-in_err-linked-clause-placed c =
    let p = c.args.at.now in
    let s = p.symbols.now in
    let v = c.args.terms.now in
    let w = c.eq_symmetric.new.terms in
    let h = c.requires.turned in
    let t = equality h.left h.right in
    let u = equality h.right h.left in
    places_of_term s v.pass w.pass (IsEqualityOf s w c.args.a c.args.b) (equality t u)
    (made_whole s v w c.args.a c.args.b t u c.in_err-linked.ensures.keeps h.whole_refers h.turned_refers)
    (c.in_err-linked.ensures.placed t u h.whole_refers h.turned_refers)

pub returns-in_err-linked-clause-full : goal.returns-in_err-linked-clause-full
returns-in_err-linked-clause-full c =
    let p = c.args.at.now in
    let s = p.symbols.now in
    let v = c.args.terms.now in
    let w = c.eq_symmetric.new.terms in
    let h = c.requires.turned in
    let t = equality h.left h.right in
    let u = equality h.right h.left in
    handed_on c.from_residual.result _ _ c.from_residual.ensures.1
    (λ full. lacks_for_term s w.pass (IsEqualityOf s w c.args.a c.args.b) (equality t u)
    (made_whole s v w c.args.a c.args.b t u c.in_err-linked.ensures.keeps h.whole_refers h.turned_refers)
    (c.in_err-linked.ensures.full full t u h.whole_refers h.turned_refers))

pub returns-clause-linked : goal.returns-clause-linked
returns-clause-linked c =
    let p = c.args.at.now in
    let v = c.args.terms.now in
    let w = c.eq_symmetric.new.terms in
    let h = c.requires.turned in
    let t = equality h.left h.right in
    let u = equality h.right h.left in
    equates_of p v w c.args.block.now c.eq_symmetric.new.block c.in_ok-linked.linked c.args.a c.args.b t u c.in_ok-linked.ensures.keeps h.whole_refers
    h.turned_refers (c.in_ok-linked.ensures.added t u h.whole_refers h.turned_refers)

pub returns-clause-grown : goal.returns-clause-grown
returns-clause-grown c =
    let p = c.args.at.now in
    let s = p.symbols.now in
    let v = c.args.terms.now in
    let w = c.eq_symmetric.new.terms in
    let h = c.requires.turned in
    let t = equality h.left h.right in
    let u = equality h.right h.left in
    grows_one p w c.args.block.now c.eq_symmetric.new.block c.in_ok-linked.linked (equality t u)
    (IsEqualityOf s w c.args.a c.args.b) c.in_ok-linked.ensures.block (c.in_ok-linked.ensures.added t u h.whole_refers h.turned_refers)
    (made_whole s v w c.args.a c.args.b t u c.in_ok-linked.ensures.keeps h.whole_refers h.turned_refers)

pub returns-clause-placed : goal.returns-clause-placed
returns-clause-placed c =
    let p = c.args.at.now in
    let s = p.symbols.now in
    let v = c.args.terms.now in
    let w = c.eq_symmetric.new.terms in
    let h = c.requires.turned in
    let t = equality h.left h.right in
    let u = equality h.right h.left in
    places_of_term s v.pass w.pass (IsEqualityOf s w c.args.a c.args.b) (equality t u)
    (made_whole s v w c.args.a c.args.b t u c.in_ok-linked.ensures.keeps h.whole_refers h.turned_refers)
    (c.in_ok-linked.ensures.placed t u h.whole_refers h.turned_refers)
