use Rattle.std.proofs.Common.{◌≡◌, ℕ, suc, ◌+◌, take, refl, sym, ap, ◌∙◌, subst, arith}
use Rattle.std.proofs.lemmas.List.{length-take-le}
use Rattle.rule_model.specs.Proofs.{no_items}
use Rattle.rule_model.specs.Scopes.{outermost, at, commands_in}
use Rattle.accepted_replies.specs.Numbering.{IsNumbered}
use Rattle.accepted_replies.specs.Replies.{assumes_behind}
use Rattle.accepted_replies.proofs.ReplyBuilding.{one_more}
use Rattle.accepted_replies.proofs.ReplyForm.{assumed_numbered}
use Rattle.accepted_replies.proofs.ReplyLines.{count_assumed}
use Rattle.accepted_replies.proofs.building.assume_all.Goals as goal

pub assume_next-requires-clause-numbered : goal.assume_next-requires-clause-numbered
assume_next-requires-clause-numbered c =
    subst (λ b. IsNumbered b.items) (sym c.terms.invariant) (assumed_numbered no_items (take c.terms.k c.args.assumed.now) refl)

pub assume_next-requires-clause-count : goal.assume_next-requires-clause-count
assume_next-requires-clause-count c =
    let terms = take c.terms.k c.args.assumed.now in
    let within = c.terms-test.true in
    let count = count_assumed {V = ℕ} no_items terms in
    let most = length-take-le c.terms.k c.args.assumed.now (omega (arith, within)) in
    ap (λ b. commands_in b.items) c.terms.invariant ∙ omega (arith, count, most)

pub terms-preserved : goal.terms-preserved
terms-preserved c =
    let next : suc c.terms.k ≡ c.terms.k + 1 = omega arith in
    subst (λ k. c.assume_next.new.builder ≡ at outermost (assumes_behind no_items (take k c.args.assumed.now))) next
    (one_more c.args.assumed.now c.terms.k c.index-assumed-k.result c.terms.builder c.assume_next.new.builder c.terms-test.true
    c.index-assumed-k.is c.terms.invariant c.in_ok-assume_next.ensures)
