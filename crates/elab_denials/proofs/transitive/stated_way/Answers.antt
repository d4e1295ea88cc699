use Rattle.std.proofs.Common.{[]}
use Rattle.equality_steps.specs.Denied.{way_clause}
use Rattle.equality_blocks.proofs.StayLemmas.{made_later}
use Rattle.elab_denials.proofs.Results.{handed_on}
use Rattle.elab_denials.proofs.WalkLemmas.{lacks_clause, owing_way, told_way, went_clause}
use Rattle.elab_denials.proofs.WorkLemmas.{done_step, no_pivots}
use Rattle.elab_denials.proofs.transitive.stated_way.Goals as goal

pub eq_transitive-requires-clause-given : goal.eq_transitive-requires-clause-given
eq_transitive-requires-clause-given c =
    let p = c.args.at.now in
    let v = c.args.terms.now in
    let one = c.equal_exactly_where_terms_are.ensures p.symbols.now c.leaves_differ.ensures.table in
    let told = told_way c.terms_have_one_sort.ensures.term p v one c.requires.literals c.args.ends c.args.trail.now.refs.items c.args.trail.now.pairs.items
    c.requires.some c.requires.way in
    rw c.deref.ensures.value told.way

pub returns-in_err-link-clause-went : goal.returns-in_err-link-clause-went
returns-in_err-link-clause-went c =
    let p = c.args.at.now in
    let v = c.args.terms.now in
    let one = c.equal_exactly_where_terms_are.ensures p.symbols.now c.leaves_differ.ensures.table in
    let told = told_way c.terms_have_one_sort.ensures.term p v one c.requires.literals c.args.ends c.args.trail.now.refs.items c.args.trail.now.pairs.items
    c.requires.some c.requires.way in
    went_clause p v c.eq_transitive.new.terms (way_clause told.first told.rest) c.in_err-link.ensures.keeps told.made
    ((rw c.deref.ensures.value at c.in_err-link.ensures.placed) told.first told.rest told.refer)

pub returns-in_err-link-clause-full : goal.returns-in_err-link-clause-full
returns-in_err-link-clause-full c =
    let p = c.args.at.now in
    let v = c.args.terms.now in
    let one = c.equal_exactly_where_terms_are.ensures p.symbols.now c.leaves_differ.ensures.table in
    let told = told_way c.terms_have_one_sort.ensures.term p v one c.requires.literals c.args.ends c.args.trail.now.refs.items c.args.trail.now.pairs.items
    c.requires.some c.requires.way in
    handed_on c.from_residual.result _ _ c.from_residual.ensures.1 (λ full.
    lacks_clause p v c.eq_transitive.new.terms (way_clause told.first told.rest) c.in_err-link.ensures.keeps told.made
    ((rw c.deref.ensures.value at c.in_err-link.ensures.full) full told.first told.rest told.refer))

pub returns-clause-owing : goal.returns-clause-owing
returns-clause-owing c =
    let p = c.args.at.now in
    let v = c.args.terms.now in
    let one = c.equal_exactly_where_terms_are.ensures p.symbols.now c.leaves_differ.ensures.table in
    let told = told_way c.terms_have_one_sort.ensures.term p v one c.requires.literals c.args.ends c.args.trail.now.refs.items c.args.trail.now.pairs.items
    c.requires.some c.requires.way in
    owing_way p v c.eq_transitive.new.terms c.args.ends c.args.trail.now.refs.items c.args.trail.now.pairs.items c.eq_transitive.new.block c.in_ok-link.link
    c.in_ok-link.ensures.keeps told ((rw c.deref.ensures.value at c.in_ok-link.ensures.added) told.first told.rest told.refer).says

pub returns-clause-done : goal.returns-clause-done
returns-clause-done c =
    let p = c.args.at.now in
    let v = c.args.terms.now in
    let w = c.eq_transitive.new.terms in
    let one = c.equal_exactly_where_terms_are.ensures p.symbols.now c.leaves_differ.ensures.table in
    let told = told_way c.terms_have_one_sort.ensures.term p v one c.requires.literals c.args.ends c.args.trail.now.refs.items c.args.trail.now.pairs.items
    c.requires.some c.requires.way in
    done_step c.forms_stay.ensures p v w c.args.work.now c.eq_transitive.new.block c.in_ok-link.link (way_clause told.first told.rest) []
    c.in_ok-link.ensures.keeps c.requires.work c.in_ok-link.ensures.block ((rw c.deref.ensures.value at c.in_ok-link.ensures.added) told.first told.rest told.refer)
    (λ x has. made_later p v w c.in_ok-link.ensures.keeps x (told.made x has)) (no_pivots p w)

pub returns-clause-went : goal.returns-clause-went
returns-clause-went c =
    let p = c.args.at.now in
    let v = c.args.terms.now in
    let one = c.equal_exactly_where_terms_are.ensures p.symbols.now c.leaves_differ.ensures.table in
    let told = told_way c.terms_have_one_sort.ensures.term p v one c.requires.literals c.args.ends c.args.trail.now.refs.items c.args.trail.now.pairs.items
    c.requires.some c.requires.way in
    went_clause p v c.eq_transitive.new.terms (way_clause told.first told.rest) c.in_ok-link.ensures.keeps told.made
    ((rw c.deref.ensures.value at c.in_ok-link.ensures.placed) told.first told.rest told.refer)
