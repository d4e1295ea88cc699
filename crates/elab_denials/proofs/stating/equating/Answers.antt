use Rattle.std.proofs.Common.{[], ◌∷◌, subst}
use Rattle.term_model.specs.Flips.{equality}
use Rattle.elab_denials.specs.Stating.{AreReadyBy, AreStated}
use Rattle.elab_denials.proofs.OwingLemmas.{given_later}
use Rattle.elab_denials.proofs.StateLemmas.{only_given, owing_with}
use Rattle.elab_denials.proofs.WorkLemmas.{place_later}
use Rattle.elab_denials.proofs.stating.equating.Goals as goal

pub crossed-requires-clause-turnable : goal.crossed-requires-clause-turnable
crossed-requires-clause-turnable c =
    let m = c.args.found.now in
    subst (AreReadyBy c.args.at.now c.args.terms.now m.left m.right m.pairs.items) c.if-found.true c.requires.equate.ready

pub returns-in_ok-link-2-clause-owing : goal.returns-in_ok-link-2-clause-owing
returns-in_ok-link-2-clause-owing c =
    let p = c.args.at.now in
    let v = c.args.terms.now in
    let w = c.stated.new.terms in
    let m = c.args.found.now in
    let pairs = m.pairs.items in
    let keeps = c.in_ok-link-2.ensures.went.keeps in
    let h : AreStated p v m.left m.right pairs = subst (AreReadyBy p v m.left m.right pairs) c.if-found.false c.requires.equate.ready in
    let g = c.requires.equate.given in
    let one = c.equal_exactly_where_terms_are-else-found.ensures p.symbols.now c.leaves_differ.ensures.table in
    owing_with p w one c.stated.new.work.block c.in_ok-link-2.link pairs (equality g.left g.right ∷ [])
    (c.in_ok-link-2.ensures.says pairs g.left g.right h g.left_refers g.right_refers) (λ q has. place_later p v w keeps q.0 q.1 (h.places q has))
    (only_given p w (equality g.left g.right) (given_later p v w keeps (equality g.left g.right) g.given))
