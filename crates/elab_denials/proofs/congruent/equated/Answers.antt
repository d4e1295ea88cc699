use Rattle.std.proofs.Common.{◌∙◌, sym}
use Rattle.rule_model.specs.declared.rules.Mode.{Mode}
use Rattle.rule_model.specs.Congruence.{AreCongruent, Denies, Equates, HangTogetherDenied}
use Rattle.elab_denials.specs.Matching.{IsMatchOf}
use Rattle.elab_denials.specs.Stating.{IsBegun}
use Rattle.elab_denials.proofs.CongruentLemmas.{begun_here, last_term, no_last, no_sides, not_matched}
use Rattle.elab_denials.proofs.MatchLemmas.{none_matched, some_map}
use Rattle.elab_denials.proofs.OwnLemmas.{own_literals}
use Rattle.elab_denials.proofs.congruent.equated.Goals as goal

pub returns-in_default-clause-none : goal.returns-in_default-clause-none
returns-in_default-clause-none c premises ts refer =
    let p = c.args.at.now in
    let v = c.args.terms.now in
    let one = c.equal_exactly_where_terms_are.ensures p.symbols.now c.leaves_differ.ensures.table in
    no_last p v one (AreCongruent (HangTogetherDenied Mode.Check)) premises ts refer (rw c.clause.ensures at c.in_default.ensures.other)

pub sides_of-requires : goal.sides_of-requires
sides_of-requires c =
    last_term c.args.at.now c.args.terms.now c.requires.job c.in-Some.split.0.now c.in-Some.split.1 (sym c.clause.ensures ∙ c.in-Some.ensures.split)

pub returns-in_default-sides_of-clause-none : goal.returns-in_default-sides_of-clause-none
returns-in_default-sides_of-clause-none c premises ts refer =
    let p = c.args.at.now in
    let v = c.args.terms.now in
    let one = c.equal_exactly_where_terms_are.ensures p.symbols.now c.leaves_differ.ensures.table in
    let split = sym c.clause.ensures ∙ c.in-Some.ensures.split in
    let literal = last_term p v c.requires.job c.in-Some.split.0.now c.in-Some.split.1 split in
    no_sides p v one (AreCongruent (HangTogetherDenied Mode.Check)) premises ts c.in-Some.split.0.now c.in-Some.split.1 refer split
    (λ t x y refers. c.in_default-sides_of.ensures.other t x y refers)

pub matched-requires-clause-left : goal.matched-requires-clause-left
matched-requires-clause-left c =
    let p = c.args.at.now in
    let v = c.args.terms.now in
    let one = c.equal_exactly_where_terms_are.ensures p.symbols.now c.leaves_differ.ensures.table in
    let split = sym c.clause.ensures ∙ c.in-Some.ensures.split in
    let literal = last_term p v c.requires.job c.in-Some.split.0.now c.in-Some.split.1 split in
    let both = c.in-Some-sides_of.ensures.sides literal.means literal.refers in
    rw c.in-Some-sides_of.ensures.same (record { means = both.left; refers = both.left_refers })

pub matched-requires-clause-right : goal.matched-requires-clause-right
matched-requires-clause-right c =
    let p = c.args.at.now in
    let v = c.args.terms.now in
    let one = c.equal_exactly_where_terms_are.ensures p.symbols.now c.leaves_differ.ensures.table in
    let split = sym c.clause.ensures ∙ c.in-Some.ensures.split in
    let literal = last_term p v c.requires.job c.in-Some.split.0.now c.in-Some.split.1 split in
    let both = c.in-Some-sides_of.ensures.sides literal.means literal.refers in
    rw c.in-Some-sides_of.ensures.same (record { means = both.right; refers = both.right_refers })

pub returns-clause-begun : goal.returns-clause-begun
returns-clause-begun c =
    let p = c.args.at.now in
    let v = c.args.terms.now in
    let one = c.equal_exactly_where_terms_are.ensures p.symbols.now c.leaves_differ.ensures.table in
    let split = sym c.clause.ensures ∙ c.in-Some.ensures.split in
    let literal = last_term p v c.requires.job c.in-Some.split.0.now c.in-Some.split.1 split in
    let both = c.in-Some-sides_of.ensures.sides literal.means literal.refers in
    let given = c.requires.given in
    let q = c.in-Some-sides_of.sides in
    some_map (IsMatchOf p v given.sides q.0 q.1) (IsBegun p v c.args.table.now) c.in_ok-found.found
    (λ m found. begun_here p v one c.requires.rule c.args.table.now c.in-Some.split.0.now c.in-Some.split.1 literal.means q given m (own_literals p v c.requires.job) split
    literal.refers both found) ((rw c.in-Some-sides_of.ensures.same at c.in_ok-found.ensures.matched) given.sides given.given.is_table)

pub returns-clause-none : goal.returns-clause-none
returns-clause-none c premises ts refer =
    let p = c.args.at.now in
    let v = c.args.terms.now in
    let one = c.equal_exactly_where_terms_are.ensures p.symbols.now c.leaves_differ.ensures.table in
    let split = sym c.clause.ensures ∙ c.in-Some.ensures.split in
    let literal = last_term p v c.requires.job c.in-Some.split.0.now c.in-Some.split.1 split in
    let given = c.requires.given in
    let q = c.in-Some-sides_of.sides in
    none_matched p v given.sides q.0 q.1 c.in_ok-found.found (Denies (Equates (AreCongruent (HangTogetherDenied Mode.Check))) premises ts → ⊥)
    (λ units t u links left right. (rw c.in-Some-sides_of.ensures.same at c.in_ok-found.ensures.none) given.sides units t u given.given.is_table links left right)
    (not_matched p v one premises ts c.in-Some.split.0.now c.in-Some.split.1 q given.sides (given.given.are ts refer) refer split
    c.in-Some-sides_of.ensures.sides)
