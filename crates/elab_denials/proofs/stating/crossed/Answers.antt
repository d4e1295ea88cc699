use Rattle.std.proofs.Common.{[], ◌∷◌, ◌++◌, ℕ, subst, sym}
use Rattle.term_model.specs.Flips.{equality}
use Rattle.term_pool.specs.Views.{RefersTo}
use Rattle.rule_model.specs.Congruence.{denials}
use Rattle.flip_steps.proofs.OrderLemmas.{keeps_then}
use Rattle.elab_denials.proofs.StateLemmas.{equality_there, equates_later, pair_is, turnable_exchangeable, turnable_opposed, turnable_owing}
use Rattle.elab_denials.proofs.StateLemmas.{turnable_stated, turnable_way, with_later}
use Rattle.elab_denials.proofs.WorkLemmas.{later, went_then}
use Rattle.elab_denials.proofs.stating.crossed.Goals as goal

pub exchanged-requires-clause-exchangeable : goal.exchanged-requires-clause-exchangeable
exchanged-requires-clause-exchangeable c =
    let p = c.args.at.now in
    let s = p.symbols.now in
    let v = c.args.terms.now in
    let m = c.args.found.now in
    let pairs = m.pairs.items in
    let h = c.requires.turnable in
    let l = equality h.one h.two in
    let t = equality h.two h.one in
    let r = equality h.three h.four in
    let is = pair_is c.deref.result.now pairs c.in-Some.both.0 c.in-Some.both.1 h.inner h.outer c.sides.result c.sides-2.result c.new.result
    (sym c.deref.ensures.value) c.in-Some.ensures.two h.pairs_are c.sides.ensures c.sides-2.ensures c.new.ensures in
    turnable_exchangeable p v m.left m.right pairs h c.new.result is

pub stated-requires-clause-stated : goal.stated-requires-clause-stated
stated-requires-clause-stated c =
    let p = c.args.at.now in
    let s = p.symbols.now in
    let v = c.args.terms.now in
    let m = c.args.found.now in
    let pairs = m.pairs.items in
    let h = c.requires.turnable in
    let l = equality h.one h.two in
    let t = equality h.two h.one in
    let r = equality h.three h.four in
    let is = pair_is c.deref.result.now pairs c.in-Some.both.0 c.in-Some.both.1 h.inner h.outer c.sides.result c.sides-2.result c.new.result
    (sym c.deref.ensures.value) c.in-Some.ensures.two h.pairs_are c.sides.ensures c.sides-2.ensures c.new.ensures in
    let one_there = subst (λ (x : ℕ × ℕ). RefersTo s v x.0 h.one) (sym is) h.one_refers in
    let two_there = subst (λ (x : ℕ × ℕ). RefersTo s v x.1 h.two) (sym is) h.two_refers in
    let first = c.in_ok-first.ensures in
    let turn = c.in_ok-first.first.0 in
    let v1 = c.exchanged.new.terms in
    let keeps1 = first.went.keeps in
    let refers1 = first.turned h.one h.two one_there two_there in
    let stated = turnable_stated p v m.left m.right pairs h v1 keeps1 turn refers1 in
    record { pairs = pairs; stated = stated }

pub returns-in_err-second-clause-went : goal.returns-in_err-second-clause-went
returns-in_err-second-clause-went c =
    went_then c.args.at.now c.args.terms.now c.exchanged.new.terms c.stated.new.terms c.in_ok-first.ensures.went c.in_err-second.ensures.went

pub led-requires-clause-first : goal.led-requires-clause-first
led-requires-clause-first c =
    equates_later c.args.at.now c.exchanged.new.terms c.stated.new.terms c.blocks_stay.ensures.link c.in_ok-second.ensures.went.keeps c.exchanged.new.work.block
    c.stated.new.work.block c.in_ok-second.ensures.done.extends c.in_ok-first.first.1 c.args.found.now.left c.in_ok-first.first.0 c.in_ok-first.ensures.equates

pub led-requires-clause-way : goal.led-requires-clause-way
led-requires-clause-way c =
    let p = c.args.at.now in
    let s = p.symbols.now in
    let v = c.args.terms.now in
    let m = c.args.found.now in
    let pairs = m.pairs.items in
    let h = c.requires.turnable in
    let l = equality h.one h.two in
    let t = equality h.two h.one in
    let r = equality h.three h.four in
    let is = pair_is c.deref.result.now pairs c.in-Some.both.0 c.in-Some.both.1 h.inner h.outer c.sides.result c.sides-2.result c.new.result
    (sym c.deref.ensures.value) c.in-Some.ensures.two h.pairs_are c.sides.ensures c.sides-2.ensures c.new.ensures in
    let one_there = subst (λ (x : ℕ × ℕ). RefersTo s v x.0 h.one) (sym is) h.one_refers in
    let two_there = subst (λ (x : ℕ × ℕ). RefersTo s v x.1 h.two) (sym is) h.two_refers in
    let first = c.in_ok-first.ensures in
    let turn = c.in_ok-first.first.0 in
    let v1 = c.exchanged.new.terms in
    let keeps1 = first.went.keeps in
    let refers1 = first.turned h.one h.two one_there two_there in
    let stated = turnable_stated p v m.left m.right pairs h v1 keeps1 turn refers1 in
    let v2 = c.stated.new.terms in
    let keeps2 = c.in_ok-second.ensures.went.keeps in
    let both = keeps_then v v1 v2 keeps1 keeps2 in
    let refers2 = later p v1 v2 keeps2 turn t refers1 in
    turnable_way p v m.left m.right pairs h v2 both turn refers2

pub returns-in_err-half-clause-went : goal.returns-in_err-half-clause-went
returns-in_err-half-clause-went c =
    went_then c.args.at.now c.args.terms.now c.stated.new.terms c.led.new.terms
    (went_then c.args.at.now c.args.terms.now c.exchanged.new.terms c.stated.new.terms c.in_ok-first.ensures.went c.in_ok-second.ensures.went)
    c.in_err-half.ensures.went

pub resolved-requires-clause-opposed : goal.resolved-requires-clause-opposed
resolved-requires-clause-opposed c =
    let p = c.args.at.now in
    let s = p.symbols.now in
    let v = c.args.terms.now in
    let m = c.args.found.now in
    let pairs = m.pairs.items in
    let h = c.requires.turnable in
    let l = equality h.one h.two in
    let t = equality h.two h.one in
    let r = equality h.three h.four in
    let is = pair_is c.deref.result.now pairs c.in-Some.both.0 c.in-Some.both.1 h.inner h.outer c.sides.result c.sides-2.result c.new.result
    (sym c.deref.ensures.value) c.in-Some.ensures.two h.pairs_are c.sides.ensures c.sides-2.ensures c.new.ensures in
    let one_there = subst (λ (x : ℕ × ℕ). RefersTo s v x.0 h.one) (sym is) h.one_refers in
    let two_there = subst (λ (x : ℕ × ℕ). RefersTo s v x.1 h.two) (sym is) h.two_refers in
    let first = c.in_ok-first.ensures in
    let turn = c.in_ok-first.first.0 in
    let v1 = c.exchanged.new.terms in
    let keeps1 = first.went.keeps in
    let refers1 = first.turned h.one h.two one_there two_there in
    let stated = turnable_stated p v m.left m.right pairs h v1 keeps1 turn refers1 in
    let v2 = c.stated.new.terms in
    let keeps2 = c.in_ok-second.ensures.went.keeps in
    let both = keeps_then v v1 v2 keeps1 keeps2 in
    let refers2 = later p v1 v2 keeps2 turn t refers1 in
    let v3 = c.led.new.terms in
    let keeps3 = c.in_ok-half.ensures.went.keeps in
    let all = keeps_then v v2 v3 both keeps3 in
    let one3 = c.equal_exactly_where_terms_are-3.ensures s c.leaves_differ.ensures.table in
    let led = c.in_ok-half.ensures.says l t r (later p v v2 both m.left l h.left_refers) refers2 (later p v v2 both m.right r h.right_refers) in
    let says =
    with_later p v2 v3 c.blocks_stay.ensures.link keeps3 c.stated.new.work.block c.led.new.work.block c.in_ok-half.ensures.done.extends c.in_ok-second.second pairs
    (equality t r ∷ []) (c.in_ok-second.ensures.says pairs t r stated refers1 (later p v v1 keeps1 m.right r h.right_refers)) in
    let refers3 = later p v2 v3 keeps3 turn t refers2 in
    rw c.new-2.ensures (turnable_opposed p v m.left m.right pairs h v3 all one3 turn refers3 c.led.new.work.block c.in_ok-half.half c.in_ok-second.second led says)

pub returns-in_err-link-clause-went : goal.returns-in_err-link-clause-went
returns-in_err-link-clause-went c =
    went_then c.args.at.now c.args.terms.now c.led.new.terms c.resolved.new.terms
    (went_then c.args.at.now c.args.terms.now c.stated.new.terms c.led.new.terms
    (went_then c.args.at.now c.args.terms.now c.exchanged.new.terms c.stated.new.terms c.in_ok-first.ensures.went c.in_ok-second.ensures.went)
    c.in_ok-half.ensures.went) c.in_err-link.ensures.went

pub returns-clause-owing : goal.returns-clause-owing
returns-clause-owing c =
    let p = c.args.at.now in
    let s = p.symbols.now in
    let v = c.args.terms.now in
    let m = c.args.found.now in
    let pairs = m.pairs.items in
    let h = c.requires.turnable in
    let l = equality h.one h.two in
    let t = equality h.two h.one in
    let r = equality h.three h.four in
    let is = pair_is c.deref.result.now pairs c.in-Some.both.0 c.in-Some.both.1 h.inner h.outer c.sides.result c.sides-2.result c.new.result
    (sym c.deref.ensures.value) c.in-Some.ensures.two h.pairs_are c.sides.ensures c.sides-2.ensures c.new.ensures in
    let one_there = subst (λ (x : ℕ × ℕ). RefersTo s v x.0 h.one) (sym is) h.one_refers in
    let two_there = subst (λ (x : ℕ × ℕ). RefersTo s v x.1 h.two) (sym is) h.two_refers in
    let first = c.in_ok-first.ensures in
    let turn = c.in_ok-first.first.0 in
    let v1 = c.exchanged.new.terms in
    let keeps1 = first.went.keeps in
    let refers1 = first.turned h.one h.two one_there two_there in
    let stated = turnable_stated p v m.left m.right pairs h v1 keeps1 turn refers1 in
    let v2 = c.stated.new.terms in
    let keeps2 = c.in_ok-second.ensures.went.keeps in
    let both = keeps_then v v1 v2 keeps1 keeps2 in
    let refers2 = later p v1 v2 keeps2 turn t refers1 in
    let v3 = c.led.new.terms in
    let keeps3 = c.in_ok-half.ensures.went.keeps in
    let all = keeps_then v v2 v3 both keeps3 in
    let one3 = c.equal_exactly_where_terms_are-3.ensures s c.leaves_differ.ensures.table in
    let led = c.in_ok-half.ensures.says l t r (later p v v2 both m.left l h.left_refers) refers2 (later p v v2 both m.right r h.right_refers) in
    let says =
    with_later p v2 v3 c.blocks_stay.ensures.link keeps3 c.stated.new.work.block c.led.new.work.block c.in_ok-half.ensures.done.extends c.in_ok-second.second pairs
    (equality t r ∷ []) (c.in_ok-second.ensures.says pairs t r stated refers1 (later p v v1 keeps1 m.right r h.right_refers)) in
    let refers3 = later p v2 v3 keeps3 turn t refers2 in
    let one = c.equal_exactly_where_terms_are.ensures s c.leaves_differ.ensures.table in
    let one4 = c.equal_exactly_where_terms_are-4.ensures s c.leaves_differ.ensures.table in
    turnable_owing p v m.left m.right pairs h v3 all one3 turn refers3 c.led.new.work.block c.in_ok-half.half c.in_ok-second.second led says
    c.resolvents_have_other_literals.ensures (equality_there p v one (m.left, m.right) l r c.requires.given h.left_refers h.right_refers)
    c.resolved.new.terms c.in_ok-link.ensures.went.keeps one4 c.resolved.new.work.block c.in_ok-link.link
    ((rw c.new-2.ensures at c.in_ok-link.ensures.says) led.clause (denials says.es ++ equality t r ∷ []) t r led.says says.says refers3
    (later p v v3 all m.right r h.right_refers))

pub returns-clause-went : goal.returns-clause-went
returns-clause-went c =
    went_then c.args.at.now c.args.terms.now c.led.new.terms c.resolved.new.terms
    (went_then c.args.at.now c.args.terms.now c.stated.new.terms c.led.new.terms
    (went_then c.args.at.now c.args.terms.now c.exchanged.new.terms c.stated.new.terms c.in_ok-first.ensures.went c.in_ok-second.ensures.went)
    c.in_ok-half.ensures.went) c.in_ok-link.ensures.went
