use Rattle.std.proofs.Common.{◌≡◌, ℕ, ◌<◌, length, vec_len, sym, ◌∙◌, ap, subst, arith}
use Rattle.std.specs.Global.{Vec}
use Rattle.rule_model.specs.Consequence.{literal_of}
use Rattle.rule_model.specs.Literals.{negation_of}
use Rattle.clause_chain.specs.Chaining.{clauses_of}
use Rattle.rules_resolution.specs.Falsity.{is_false_in}
use Rattle.rules_resolution.specs.Literal.{Lit}
use Rattle.rules_resolution.specs.Standing.{places_at}
use Rattle.rules_resolution.specs.Work.{IsMarked, Falsifies, falses_of}
use Rattle.rules_resolution.proofs.Premises.{length-clauses_of}
use Rattle.rules_resolution.proofs.Progresses.{standing_read, clause_read, opposite_read, unit_here, progress_settled, progress_by_unit}
use Rattle.rules_resolution.proofs.follow.make_true.Goals as goal

pub bounds-premises-premise : goal.bounds-premises-premise
bounds-premises-premise c =
    let unit = unit_here _ _ _ _ _ _ _ c.args.premise c.requires.progress.1 c.requires.place c.requires.one in
    let n = length-clauses_of c.args.premises.now in
    let at = unit.place in
    omega arith

pub overflow_cast-place : goal.overflow_cast-place
overflow_cast-place c =
    let unit = unit_here _ _ _ _ _ _ _ c.args.premise c.requires.progress.1 c.requires.place c.requires.one in
    let read = (standing_read c.args.work.now.standings.items c.args.premise c.index.result.now c.index.ensures c.requires.place).1 in
    let clause = ap length (clause_read c.args.premises.now c.args.premise c.index-premises-premise.result c.index-premises-premise.is unit.place) in
    let place = unit.only.place in
    let few : c.args.premise < length c.args.premises.now = (let n = length-clauses_of c.args.premises.now in let at = unit.place in omega arith) in
    let short = c.requires.literals c.args.premise c.index-premises-premise.result few in
    let same = ap (λ (v : Vec Lit). vec_len v) c.index-premises-premise.is in
    let value = ap length c.as_slice-clause.ensures.value in
    let size = c.as_slice-clause.ensures.len in
    omega arith

pub bounds-clause-place : goal.bounds-clause-place
bounds-clause-place c =
    let unit = unit_here _ _ _ _ _ _ _ c.args.premise c.requires.progress.1 c.requires.place c.requires.one in
    let read = (standing_read c.args.work.now.standings.items c.args.premise c.index.result.now c.index.ensures c.requires.place).1 in
    let clause = ap length (clause_read c.args.premises.now c.args.premise c.index-premises-premise.result c.index-premises-premise.is unit.place) in
    let place = unit.only.place in
    let value = ap length c.as_slice-clause.ensures.value in
    omega arith

pub returns-then-is_falsified-clause-goes_on : goal.returns-then-is_falsified-clause-goes_on
returns-then-is_falsified-clause-goes_on c conclusion progress =
    let unit = unit_here (clauses_of c.args.premises.now) conclusion _ _ _ _ _ c.args.premise progress c.requires.place c.requires.one in
    let read = (standing_read c.args.work.now.standings.items c.args.premise c.index.result.now c.index.ensures c.requires.place).1 in
    let clause = ap length (clause_read c.args.premises.now c.args.premise c.index-premises-premise.result c.index-premises-premise.is unit.place) in
    let place = unit.only.place in
    let value = ap length c.as_slice-clause.ensures.value in
    let within : c.index.result.now.places < length c.as_slice-clause.result.now = omega arith in
    let opposite : c.negate-opposite.result ≡ negation_of (literal_of (clauses_of c.args.premises.now) (c.args.premise, places_at c.args.work.now.standings.items c.args.premise)) =
    subst (λ (k : ℕ). c.negate-opposite.result ≡ negation_of (literal_of (clauses_of c.args.premises.now) (c.args.premise, k))) read
    (opposite_read c.args.premises.now c.args.premise c.index.result.now.places c.index-premises-premise.result c.as_slice-clause.result.now _ c.negate-opposite.result
    c.index-premises-premise.is unit.place c.as_slice-clause.ensures.value within c.negate-opposite.ensures) in
    let marked : IsMarked (falses_of (clauses_of c.args.premises.now) conclusion c.args.units.now.items) c.args.table.now c.deref.result.now = rw c.deref.ensures.value progress.state.marked in
    let gone = c.is_falsified.ensures.yes (falses_of (clauses_of c.args.premises.now) conclusion c.args.units.now.items) marked c.if-is_falsified.true in
    progress_settled (clauses_of c.args.premises.now) conclusion _ _ _ _ _ c.args.premise c.requires.place c.requires.one
    (sym (ap (is_false_in (falses_of (clauses_of c.args.premises.now) conclusion c.args.units.now.items)) opposite) ∙ gone) progress

pub returns-clause-goes_on : goal.returns-clause-goes_on
returns-clause-goes_on c conclusion progress =
    let unit = unit_here (clauses_of c.args.premises.now) conclusion _ _ _ _ _ c.args.premise progress c.requires.place c.requires.one in
    let read = (standing_read c.args.work.now.standings.items c.args.premise c.index.result.now c.index.ensures c.requires.place).1 in
    let clause = ap length (clause_read c.args.premises.now c.args.premise c.index-premises-premise.result c.index-premises-premise.is unit.place) in
    let place = unit.only.place in
    let value = ap length c.as_slice-clause.ensures.value in
    let within : c.index.result.now.places < length c.as_slice-clause.result.now = omega arith in
    let opposite : c.negate-opposite.result ≡ negation_of (literal_of (clauses_of c.args.premises.now) (c.args.premise, places_at c.args.work.now.standings.items c.args.premise)) =
    subst (λ (k : ℕ). c.negate-opposite.result ≡ negation_of (literal_of (clauses_of c.args.premises.now) (c.args.premise, k))) read
    (opposite_read c.args.premises.now c.args.premise c.index.result.now.places c.index-premises-premise.result c.as_slice-clause.result.now _ c.negate-opposite.result
    c.index-premises-premise.is unit.place c.as_slice-clause.ensures.value within c.negate-opposite.ensures) in
    let falsifies : Falsifies (negation_of (literal_of (clauses_of c.args.premises.now) (c.args.premise, places_at c.args.work.now.standings.items c.args.premise))) c.args.table.now c.args.work.now.marks.items c.args.work.now.standings.items c.falsify.new.work.marks.items c.falsify.new.work.standings.items =
    subst (λ (l : Lit). Falsifies l c.args.table.now c.args.work.now.marks.items c.args.work.now.standings.items c.falsify.new.work.marks.items c.falsify.new.work.standings.items) opposite c.in_ok-falsify.ensures.falsifies in
    rw (c.in_ok-push.ensures.items, read)
    (progress_by_unit (clauses_of c.args.premises.now) conclusion c.args.units.now.items c.args.table.now _ _ _ _ _ _ c.args.premise c.requires.place c.requires.one falsifies c.in_ok-falsify.ensures.advances progress)
