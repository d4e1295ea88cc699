use Rattle.std.proofs.Common.{inl, inr, refl, subst}
use Rattle.term_model.proofs.Sorting.{one_sort}
use Rattle.term_model.specs.Terms.{not_of}
use Rattle.term_pool.specs.Views.{RefersTo}
use Rattle.rule_model.specs.Reading.{clause_at}
use Rattle.elab_denials.specs.Matching.{IsMatchOf}
use Rattle.elab_denials.proofs.CongruentLemmas.{own_clause}
use Rattle.elab_denials.proofs.MatchLemmas.{some_here}
use Rattle.elab_denials.proofs.OwnLemmas.{own_literals}
use Rattle.elab_denials.proofs.PredicateLemmas.{begun_crossed, begun_straight, crossed_two, ends_term, under_same}
use Rattle.elab_denials.proofs.predicates.implied.Goals as goal

pub under_not-requires : goal.under_not-requires
under_not-requires c = ends_term c.args.at.now c.args.terms.now c.requires.job c.args.literals.0 c.args.literals.1 c.requires.last c.args.literals.0 (inl refl)

pub returns-in_default-clause-none : goal.returns-in_default-clause-none
returns-in_default-clause-none c sides premises t u table links denied given h = c.in_default.ensures.other (not_of t) t denied refl

pub matched-requires-clause-left : goal.matched-requires-clause-left
matched-requires-clause-left c =
    let p = c.args.at.now in
    let s = p.symbols.now in
    let v = c.args.terms.now in
    let job = c.requires.job in
    let q = c.args.literals.0 in
    let r = c.args.literals.1 in
    let one = c.equal_exactly_where_terms_are.ensures s c.leaves_differ.ensures.table in
    let denied = ends_term p v job q r c.requires.last q (inl refl) in
    let other = ends_term p v job q r c.requires.last r (inr refl) in
    let under = c.in-Some.ensures.under denied.means denied.refers in
    rw c.in-Some.ensures.same (record { means = under.inner; refers = under.refers })

pub matched-requires-clause-right : goal.matched-requires-clause-right
matched-requires-clause-right c =
    rw c.in-Some.ensures.same (ends_term c.args.at.now c.args.terms.now c.requires.job c.args.literals.0 c.args.literals.1 c.requires.last c.args.literals.1
    (inr refl))

pub returns-in_default-found-clause-none : goal.returns-in_default-found-clause-none
returns-in_default-found-clause-none c sides premises t u table links denied given h =
    let s = c.args.at.now.symbols.now in
    let v = c.args.terms.now in
    let under = c.in-Some.ensures.under (not_of t) denied in
    (rw (c.in-Some.ensures.same, c.in_default-found.is) at c.in_ok-found.ensures.none) sides premises t u table links
    (subst (RefersTo s v c.in-Some.inner) (under_same t under.inner under.is) under.refers) given h

pub returns-then-not-found-clause-begun : goal.returns-then-not-found-clause-begun
returns-then-not-found-clause-begun c =
    let p = c.args.at.now in
    let s = p.symbols.now in
    let v = c.args.terms.now in
    let job = c.requires.job in
    let q = c.args.literals.0 in
    let r = c.args.literals.1 in
    let one = c.equal_exactly_where_terms_are.ensures s c.leaves_differ.ensures.table in
    let denied = ends_term p v job q r c.requires.last q (inl refl) in
    let other = ends_term p v job q r c.requires.last r (inr refl) in
    let under = c.in-Some.ensures.under denied.means denied.refers in
    let literals = own_literals p v job in
    let g = c.requires.given in
    let m = c.in-Some-found.found in
    let refers = subst (RefersTo s v q) under.is denied.refers in
    let found = some_here (IsMatchOf p v g.sides c.in-Some.inner r) c.in_ok-found.found m c.in-Some-found.is
    ((rw c.in-Some.ensures.same at c.in_ok-found.ensures.matched) g.sides g.given.is_table) in
    begun_straight p v literals one c.requires.rule q r c.requires.last under.inner other.means refers other.refers (λ x y z k l. one_sort x y z k l) g.sides
    g.given.denied c.args.table.now g.given.is_table c.in-Some.inner under.refers m found c.if-not-found.true

pub opened-requires : goal.opened-requires
opened-requires c =
    let p = c.args.at.now in
    let s = p.symbols.now in
    let v = c.args.terms.now in
    let job = c.requires.job in
    let q = c.args.literals.0 in
    let r = c.args.literals.1 in
    let one = c.equal_exactly_where_terms_are.ensures s c.leaves_differ.ensures.table in
    let denied = ends_term p v job q r c.requires.last q (inl refl) in
    let other = ends_term p v job q r c.requires.last r (inr refl) in
    let under = c.in-Some.ensures.under denied.means denied.refers in
    let literals = own_literals p v job in
    let g = c.requires.given in
    let m = c.in-Some-found.found in
    let refers = subst (RefersTo s v q) under.is denied.refers in
    let found = some_here (IsMatchOf p v g.sides c.in-Some.inner r) c.in_ok-found.found m c.in-Some-found.is
    ((rw c.in-Some.ensures.same at c.in_ok-found.ensures.matched) g.sides g.given.is_table) in
    record { two = rw c.deref.ensures.value (crossed_two p v g.sides c.in-Some.inner r m found c.if-not-found.false) }

pub returns-clause-begun : goal.returns-clause-begun
returns-clause-begun c =
    let p = c.args.at.now in
    let s = p.symbols.now in
    let v = c.args.terms.now in
    let job = c.requires.job in
    let q = c.args.literals.0 in
    let r = c.args.literals.1 in
    let one = c.equal_exactly_where_terms_are.ensures s c.leaves_differ.ensures.table in
    let denied = ends_term p v job q r c.requires.last q (inl refl) in
    let other = ends_term p v job q r c.requires.last r (inr refl) in
    let under = c.in-Some.ensures.under denied.means denied.refers in
    let literals = own_literals p v job in
    let g = c.requires.given in
    let m = c.in-Some-found.found in
    let refers = subst (RefersTo s v q) under.is denied.refers in
    let found = some_here (IsMatchOf p v g.sides c.in-Some.inner r) c.in_ok-found.found m c.in-Some-found.is
    ((rw c.in-Some.ensures.same at c.in_ok-found.ensures.matched) g.sides g.given.is_table) in
    begun_crossed p v literals one c.requires.rule q r c.requires.last under.inner other.means refers other.refers (λ x y z k l. one_sort x y z k l) g.sides
    g.given.denied c.args.table.now g.given.is_table c.in-Some.inner under.refers (clause_at job.proof p.command) (own_clause p v job)
    (g.given.are (clause_at job.proof p.command) (own_clause p v job)) m _ found c.if-not-found.false refl refl refl
    (λ x y e. (rw c.deref.ensures.value at c.in_ok-pairs.ensures) x y e)
