use Rattle.std.proofs.Common.{ℕ, [], ◌∷◌, sym, subst}
use Rattle.term_model.specs.Flips.{equality}
use Rattle.equality_blocks.proofs.StayLemmas.{made_later}
use Rattle.elab_denials.proofs.OwingLemmas.{given_later, given_made}
use Rattle.elab_denials.proofs.Results.{handed_on}
use Rattle.elab_denials.proofs.WalkLemmas.{IsOneGiven, one_given, owing_one}
use Rattle.elab_denials.proofs.WorkLemmas.{done_step, lacks_term, no_pivots, only_made, went_term}
use Rattle.elab_denials.specs.Owing.{IsOwing}
use Rattle.elab_denials.proofs.transitive.stated_one.Goals as goal

pub eq_reflexive-requires-clause-given : goal.eq_reflexive-requires-clause-given
eq_reflexive-requires-clause-given c =
    let p = c.args.at.now in
    let v = c.args.terms.now in
    let one = c.equal_exactly_where_terms_are.ensures p.symbols.now c.leaves_differ.ensures.table in
    let h = subst (λ (x : ℕ × ℕ). IsOneGiven p v x.0) (sym c.sides-a.ensures)
    (one_given p v one c.requires.literals c.args.ends c.args.trail.now.refs.items c.args.trail.now.pairs.items c.requires.none c.requires.way) in
    h.side

pub returns-in_err-link-clause-went : goal.returns-in_err-link-clause-went
returns-in_err-link-clause-went c =
    let p = c.args.at.now in
    let v = c.args.terms.now in
    let one = c.equal_exactly_where_terms_are.ensures p.symbols.now c.leaves_differ.ensures.table in
    let h = subst (λ (x : ℕ × ℕ). IsOneGiven p v x.0) (sym c.sides-a.ensures)
    (one_given p v one c.requires.literals c.args.ends c.args.trail.now.refs.items c.args.trail.now.pairs.items c.requires.none c.requires.way) in
    went_term p v c.eq_reflexive.new.terms (equality h.term h.term) c.in_err-link.ensures.keeps (given_made p v (equality h.term h.term) h.given)
    (c.in_err-link.ensures.placed h.term h.refers)

pub returns-in_err-link-clause-full : goal.returns-in_err-link-clause-full
returns-in_err-link-clause-full c =
    let p = c.args.at.now in
    let v = c.args.terms.now in
    let one = c.equal_exactly_where_terms_are.ensures p.symbols.now c.leaves_differ.ensures.table in
    let h = subst (λ (x : ℕ × ℕ). IsOneGiven p v x.0) (sym c.sides-a.ensures)
    (one_given p v one c.requires.literals c.args.ends c.args.trail.now.refs.items c.args.trail.now.pairs.items c.requires.none c.requires.way) in
    handed_on c.from_residual.result _ _ c.from_residual.ensures.1 (λ full.
    lacks_term p v c.eq_reflexive.new.terms (equality h.term h.term) c.in_err-link.ensures.keeps (given_made p v (equality h.term h.term) h.given)
    (c.in_err-link.ensures.full full h.term h.refers))

pub returns-clause-owing : goal.returns-clause-owing
returns-clause-owing c =
    let p = c.args.at.now in
    let v = c.args.terms.now in
    let one = c.equal_exactly_where_terms_are.ensures p.symbols.now c.leaves_differ.ensures.table in
    let h = subst (λ (x : ℕ × ℕ). IsOneGiven p v x.0) (sym c.sides-a.ensures)
    (one_given p v one c.requires.literals c.args.ends c.args.trail.now.refs.items c.args.trail.now.pairs.items c.requires.none c.requires.way) in
    let w = c.eq_reflexive.new.terms in
    subst (IsOwing p w c.eq_reflexive.new.block c.in_ok-link.link) (sym c.requires.none)
    (owing_one p w c.eq_reflexive.new.block c.in_ok-link.link h.term (c.in_ok-link.ensures.added h.term h.refers).says
    (given_later p v w c.in_ok-link.ensures.keeps (equality h.term h.term) h.given))

pub returns-clause-done : goal.returns-clause-done
returns-clause-done c =
    let p = c.args.at.now in
    let v = c.args.terms.now in
    let one = c.equal_exactly_where_terms_are.ensures p.symbols.now c.leaves_differ.ensures.table in
    let h = subst (λ (x : ℕ × ℕ). IsOneGiven p v x.0) (sym c.sides-a.ensures)
    (one_given p v one c.requires.literals c.args.ends c.args.trail.now.refs.items c.args.trail.now.pairs.items c.requires.none c.requires.way) in
    let w = c.eq_reflexive.new.terms in
    let x = equality h.term h.term in
    done_step c.forms_stay.ensures p v w c.args.work.now c.eq_reflexive.new.block c.in_ok-link.link (x ∷ []) [] c.in_ok-link.ensures.keeps
    c.requires.work c.in_ok-link.ensures.block (c.in_ok-link.ensures.added h.term h.refers)
    (only_made p w x (made_later p v w c.in_ok-link.ensures.keeps x (given_made p v x h.given))) (no_pivots p w)

pub returns-clause-went : goal.returns-clause-went
returns-clause-went c =
    let p = c.args.at.now in
    let v = c.args.terms.now in
    let one = c.equal_exactly_where_terms_are.ensures p.symbols.now c.leaves_differ.ensures.table in
    let h = subst (λ (x : ℕ × ℕ). IsOneGiven p v x.0) (sym c.sides-a.ensures)
    (one_given p v one c.requires.literals c.args.ends c.args.trail.now.refs.items c.args.trail.now.pairs.items c.requires.none c.requires.way) in
    went_term p v c.eq_reflexive.new.terms (equality h.term h.term) c.in_ok-link.ensures.keeps (given_made p v (equality h.term h.term) h.given)
    (c.in_ok-link.ensures.placed h.term h.refers)
