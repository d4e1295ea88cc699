use Rattle.std.proofs.Common.{[], ◌∷◌, ℕ, refl, subst, sym}
use Rattle.term_model.specs.Flips.{equality}
use Rattle.term_model.specs.Terms.{not_of}
use Rattle.term_pool.specs.Views.{RefersTo}
use Rattle.flip_steps.proofs.OrderLemmas.{keeps_then}
use Rattle.elab_denials.specs.Implying.{AreImplyingBy, AreStatedTruths}
use Rattle.elab_denials.specs.Owing.{IsGiven}
use Rattle.elab_denials.specs.Working.{IsMadeEquality}
use Rattle.elab_denials.proofs.OwingLemmas.{given_later}
use Rattle.elab_denials.proofs.PredicateLemmas.{both_given, opened_equality, opened_of, opened_owing, opened_stated}
use Rattle.elab_denials.proofs.StateLemmas.{owing_with, third_is}
use Rattle.elab_denials.proofs.WorkLemmas.{later, place_later, went_then, work_later}
use Rattle.elab_denials.proofs.predicates.implying.Goals as goal

pub unreachable-requires : goal.unreachable-requires
unreachable-requires c =
    let p = c.args.at.now in
    let s = p.symbols.now in
    let v = c.args.terms.now in
    let m = c.args.found.now in
    let pairs = m.pairs.items in
    let h = opened_of p v m.left m.right pairs m.crossed c.if-found.true c.requires.imply.ready in
    c.in_default.ensures.other h.turnable.inner h.turnable.outer (h.turnable.inner.0, h.turnable.outer.0) (rw c.deref.ensures.value h.pairs_are)

pub equality-requires : goal.equality-requires
equality-requires c =
    let p = c.args.at.now in
    let s = p.symbols.now in
    let v = c.args.terms.now in
    let m = c.args.found.now in
    let pairs = m.pairs.items in
    let h = opened_of p v m.left m.right pairs m.crossed c.if-found.true c.requires.imply.ready in
    let is = third_is c.deref.result.now pairs c.in-Some.all.0 c.in-Some.all.1 c.in-Some.all.2 h.turnable.inner h.turnable.outer
    (h.turnable.inner.0, h.turnable.outer.0) c.sides-b.result (sym c.deref.ensures.value) c.in-Some.ensures.three h.pairs_are c.sides-b.ensures in
    record { made = subst (λ (x : ℕ × ℕ). IsMadeEquality p v x.0 x.1) (sym is) (opened_equality p v m.left m.right pairs h) }

pub stated_implied-requires-clause-work : goal.stated_implied-requires-clause-work
stated_implied-requires-clause-work c =
    let p = c.args.at.now in
    let keeps = c.in_ok-turned.ensures.went.keeps in
    work_later c.forms_stay.ensures p c.args.terms.now c.equality.new.terms c.args.work.now keeps
    (c.blocks_stay.ensures.block p c.args.terms.now c.equality.new.terms c.args.work.now.block keeps c.requires.work.block) c.requires.work

pub stated_implied-requires-clause-stated : goal.stated_implied-requires-clause-stated
stated_implied-requires-clause-stated c =
    let p = c.args.at.now in
    let s = p.symbols.now in
    let v = c.args.terms.now in
    let m = c.args.found.now in
    let pairs = m.pairs.items in
    let h = opened_of p v m.left m.right pairs m.crossed c.if-found.true c.requires.imply.ready in
    let is = third_is c.deref.result.now pairs c.in-Some.all.0 c.in-Some.all.1 c.in-Some.all.2 h.turnable.inner h.turnable.outer
    (h.turnable.inner.0, h.turnable.outer.0) c.sides-b.result (sym c.deref.ensures.value) c.in-Some.ensures.three h.pairs_are c.sides-b.ensures in
    let w = c.equality.new.terms in
    let keeps = c.in_ok-turned.ensures.went.keeps in
    let two_there = subst (λ (x : ℕ × ℕ). RefersTo s v x.0 h.turnable.two) (sym is) h.turnable.two_refers in
    let one_there = subst (λ (x : ℕ × ℕ). RefersTo s v x.1 h.turnable.one) (sym is) h.turnable.one_refers in
    let refers = c.in_ok-turned.ensures.refers h.turnable.two h.turnable.one two_there one_there in
    record { pairs = h.crossed; stated = opened_stated p v m.left m.right pairs h w keeps c.in_ok-turned.turned refers }

pub returns-in_err-link-clause-went : goal.returns-in_err-link-clause-went
returns-in_err-link-clause-went c =
    went_then c.args.at.now c.args.terms.now c.equality.new.terms c.stated_implied.new.terms c.in_ok-turned.ensures.went c.in_err-link.ensures.went

pub returns-in_ok-link-clause-owing : goal.returns-in_ok-link-clause-owing
returns-in_ok-link-clause-owing c =
    let p = c.args.at.now in
    let s = p.symbols.now in
    let v = c.args.terms.now in
    let m = c.args.found.now in
    let pairs = m.pairs.items in
    let h = opened_of p v m.left m.right pairs m.crossed c.if-found.true c.requires.imply.ready in
    let is = third_is c.deref.result.now pairs c.in-Some.all.0 c.in-Some.all.1 c.in-Some.all.2 h.turnable.inner h.turnable.outer
    (h.turnable.inner.0, h.turnable.outer.0) c.sides-b.result (sym c.deref.ensures.value) c.in-Some.ensures.three h.pairs_are c.sides-b.ensures in
    let w = c.equality.new.terms in
    let keeps = c.in_ok-turned.ensures.went.keeps in
    let two_there = subst (λ (x : ℕ × ℕ). RefersTo s v x.0 h.turnable.two) (sym is) h.turnable.two_refers in
    let one_there = subst (λ (x : ℕ × ℕ). RefersTo s v x.1 h.turnable.one) (sym is) h.turnable.one_refers in
    let refers = c.in_ok-turned.ensures.refers h.turnable.two h.turnable.one two_there one_there in
    let z = c.stated_implied.new.terms in
    let then = c.in_ok-link.ensures.went.keeps in
    let all = keeps_then v w z keeps then in
    let r = equality h.turnable.three h.turnable.four in
    let one = c.equal_exactly_where_terms_are.ensures s c.leaves_differ.ensures.table in
    let one_then = c.equal_exactly_where_terms_are-then-found-2.ensures s c.leaves_differ.ensures.table in
    let i = c.requires.imply in
    let given = subst (IsGiven p v) ((one m.right m.right i.right r i.right_refers h.turnable.right_refers).0 refl) i.given in
    opened_owing p v m.left m.right pairs h z one_then all c.stated_implied.new.work.block c.in_ok-link.link
    (c.in_ok-link.ensures.says h.crossed (equality h.turnable.two h.turnable.one) r
    (opened_stated p v m.left m.right pairs h w keeps c.in_ok-turned.turned refers) refers (later p v w keeps m.right r h.turnable.right_refers))
    (given_later p v z all r given)

pub returns-in_ok-link-clause-went : goal.returns-in_ok-link-clause-went
returns-in_ok-link-clause-went c =
    went_then c.args.at.now c.args.terms.now c.equality.new.terms c.stated_implied.new.terms c.in_ok-turned.ensures.went c.in_ok-link.ensures.went

pub returns-in_ok-link-2-clause-owing : goal.returns-in_ok-link-2-clause-owing
returns-in_ok-link-2-clause-owing c =
    let p = c.args.at.now in
    let v = c.args.terms.now in
    let m = c.args.found.now in
    let pairs = m.pairs.items in
    let i = c.requires.imply in
    let h : AreStatedTruths p v m.left m.right pairs = subst (AreImplyingBy p v m.left m.right pairs) c.if-found.false i.ready in
    let w = c.stated_implied-else-found.new.terms in
    let keeps = c.in_ok-link-2.ensures.went.keeps in
    let one = c.equal_exactly_where_terms_are-else-found.ensures p.symbols.now c.leaves_differ.ensures.table in
    owing_with p w one c.stated_implied-else-found.new.work.block c.in_ok-link-2.link pairs (not_of i.left ∷ i.right ∷ [])
    (c.in_ok-link-2.ensures.says pairs i.left i.right h i.left_refers i.right_refers)
    (λ q has. place_later p v w keeps q.0 q.1 (h.stated.places q has))
    (both_given p w (not_of i.left) i.right (given_later p v w keeps (not_of i.left) i.denied) (given_later p v w keeps i.right i.given))
