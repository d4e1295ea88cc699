use Rattle.term_model.specs.Flips.{equality}
use Rattle.term_pool.proofs.PlacedCells.{places_of_term, lacks_for_term}
use Rattle.flip_steps.specs.Stages.{IsMadeFrom}
use Rattle.flip_steps.proofs.EquateLemmas.{equates_of, grows_one}
use Rattle.flip_steps.proofs.JoinLemmas.{made_back}
use Rattle.flip_steps.proofs.Results.{handed_on}
use Rattle.flip_steps.proofs.joining.turn_back.Goals as goal

pub symm-requires-clause-given : goal.symm-requires-clause-given
symm-requires-clause-given c = c.requires.formed.link.1

pub returns-in_err-linked-clause-placed : goal.returns-in_err-linked-clause-placed
returns-in_err-linked-clause-placed c =
    let p = c.args.at.now in
    let s = p.symbols.now in
    let v = c.args.terms.now in
    let w = c.symm.new.terms in
    let h = c.requires.formed in
    places_of_term s v.pass w.pass (IsMadeFrom s w c.args.r) (equality h.form h.term)
    (made_back p v w c.args.block.now c.args.r _ c.in_err-linked.ensures.keeps h) (c.in_err-linked.ensures.placed h.term h.form h.refers h.form_refers)

pub returns-in_err-linked-clause-full : goal.returns-in_err-linked-clause-full
returns-in_err-linked-clause-full c =
    let p = c.args.at.now in
    let s = p.symbols.now in
    let v = c.args.terms.now in
    let w = c.symm.new.terms in
    let h = c.requires.formed in
    handed_on c.from_residual.result _ _ c.from_residual.ensures.1
    (λ full. lacks_for_term s w.pass (IsMadeFrom s w c.args.r) (equality h.form h.term)
    (made_back p v w c.args.block.now c.args.r _ c.in_err-linked.ensures.keeps h) (c.in_err-linked.ensures.full full h.term h.form h.refers h.form_refers))

pub returns-clause-linked : goal.returns-clause-linked
returns-clause-linked c =
    let p = c.args.at.now in
    let s = p.symbols.now in
    let v = c.args.terms.now in
    let w = c.symm.new.terms in
    let h = c.requires.formed in
    equates_of p v w c.args.block.now c.symm.new.block c.in_ok-linked.linked c.args.form c.args.r h.form h.term c.in_ok-linked.ensures.keeps h.form_refers
    h.refers (c.in_ok-linked.ensures.added h.term h.form h.refers h.form_refers)

pub returns-clause-grown : goal.returns-clause-grown
returns-clause-grown c =
    let p = c.args.at.now in
    let s = p.symbols.now in
    let v = c.args.terms.now in
    let w = c.symm.new.terms in
    let h = c.requires.formed in
    grows_one p w c.args.block.now c.symm.new.block c.in_ok-linked.linked (equality h.form h.term) (IsMadeFrom s w c.args.r) c.in_ok-linked.ensures.block
    (c.in_ok-linked.ensures.added h.term h.form h.refers h.form_refers) (made_back p v w c.args.block.now c.args.r _ c.in_ok-linked.ensures.keeps h)

pub returns-clause-placed : goal.returns-clause-placed
returns-clause-placed c =
    let p = c.args.at.now in
    let s = p.symbols.now in
    let v = c.args.terms.now in
    let w = c.symm.new.terms in
    let h = c.requires.formed in
    places_of_term s v.pass w.pass (IsMadeFrom s w c.args.r) (equality h.form h.term)
    (made_back p v w c.args.block.now c.args.r _ c.in_ok-linked.ensures.keeps h) (c.in_ok-linked.ensures.placed h.term h.form h.refers h.form_refers)
