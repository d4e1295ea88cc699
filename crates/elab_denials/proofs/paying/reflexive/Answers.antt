use Rattle.std.proofs.Common.{[], ◌∷◌, subst}
use Rattle.term_model.specs.Flips.{equality}
use Rattle.equality_steps.specs.Links.{LinkSays}
use Rattle.equality_blocks.proofs.StayLemmas.{made_later}
use Rattle.elab_denials.proofs.Results.{handed_on}
use Rattle.elab_denials.proofs.WorkLemmas.{done_step, lacks_term, later, no_pivots, only_made, reflexive_made, same_sides, went_term}
use Rattle.elab_denials.proofs.paying.reflexive.Goals as goal

pub eq_reflexive-requires-clause-given : goal.eq_reflexive-requires-clause-given
eq_reflexive-requires-clause-given c =
    let h = c.requires.place in
    record { sort = h.sides.sort; term = h.left; refers = h.left_refers; fits = h.sides.left }

pub returns-in_err-link-clause-went : goal.returns-in_err-link-clause-went
returns-in_err-link-clause-went c =
    let h = c.requires.place in
    let p = c.args.at.now in
    let v = c.args.terms.now in
    let one = c.equal_exactly_where_terms_are.ensures p.symbols.now c.leaves_differ.ensures.table in
    went_term p v c.eq_reflexive.new.terms (equality h.left h.left) c.in_err-link.ensures.keeps (reflexive_made p v one c.args.a c.args.b h c.requires.one)
    (c.in_err-link.ensures.placed h.left h.left_refers)

pub returns-in_err-link-clause-full : goal.returns-in_err-link-clause-full
returns-in_err-link-clause-full c =
    let h = c.requires.place in
    let p = c.args.at.now in
    let v = c.args.terms.now in
    let one = c.equal_exactly_where_terms_are.ensures p.symbols.now c.leaves_differ.ensures.table in
    handed_on c.from_residual.result _ _ c.from_residual.ensures.1 (λ full.
    lacks_term p v c.eq_reflexive.new.terms (equality h.left h.left) c.in_err-link.ensures.keeps (reflexive_made p v one c.args.a c.args.b h c.requires.one)
    (c.in_err-link.ensures.full full h.left h.left_refers))

pub returns-clause-equates : goal.returns-clause-equates
returns-clause-equates c =
    let h = c.requires.place in
    let p = c.args.at.now in
    let v = c.args.terms.now in
    let w = c.eq_reflexive.new.terms in
    let keeps = c.in_ok-link.ensures.keeps in
    let one = c.equal_exactly_where_terms_are.ensures p.symbols.now c.leaves_differ.ensures.table in
    record {
      left = h.left;
      right = h.right;
      left_refers = later p v w keeps c.args.a h.left h.left_refers;
      right_refers = later p v w keeps c.args.b h.right h.right_refers;
      says = subst (λ t. LinkSays p w c.eq_reflexive.new.block c.in_ok-link.link (equality h.left t ∷ [])) (same_sides p v one c.args.a c.args.b h c.requires.one)
          (c.in_ok-link.ensures.added h.left h.left_refers).says;
    }

pub returns-clause-done : goal.returns-clause-done
returns-clause-done c =
    let h = c.requires.place in
    let p = c.args.at.now in
    let v = c.args.terms.now in
    let w = c.eq_reflexive.new.terms in
    let x = equality h.left h.left in
    let one = c.equal_exactly_where_terms_are.ensures p.symbols.now c.leaves_differ.ensures.table in
    done_step c.forms_stay.ensures p v w c.args.work.now c.eq_reflexive.new.block c.in_ok-link.link (x ∷ []) [] c.in_ok-link.ensures.keeps
    c.requires.work c.in_ok-link.ensures.block (c.in_ok-link.ensures.added h.left h.left_refers)
    (only_made p w x (made_later p v w c.in_ok-link.ensures.keeps x (reflexive_made p v one c.args.a c.args.b h c.requires.one))) (no_pivots p w)

pub returns-clause-went : goal.returns-clause-went
returns-clause-went c =
    let h = c.requires.place in
    let p = c.args.at.now in
    let v = c.args.terms.now in
    let one = c.equal_exactly_where_terms_are.ensures p.symbols.now c.leaves_differ.ensures.table in
    went_term p v c.eq_reflexive.new.terms (equality h.left h.left) c.in_ok-link.ensures.keeps (reflexive_made p v one c.args.a c.args.b h c.requires.one)
    (c.in_ok-link.ensures.placed h.left h.left_refers)
