use Rattle.std.proofs.Common.{◌≡◌, ◌+◌, ◌-◌, arith, length, drop, get_or, take, false, sym, ◌∙◌, true≢false}
use Rattle.std.specs.Global.{Vec}
use Rattle.std.proofs.lemmas.List.{length-map}
use Rattle.clause_chain.specs.Chaining.{clauses_of}
use Rattle.clause_chain.specs.declared.signed_term.SignedTerm.{SignedTerm}
use Rattle.clause_chain.proofs.Keys.{of}
use Rattle.clause_chain.proofs.Onwards.{all_as_many, all_from, all_of_two, one_alone, some_there, two_alone, whole_of}
use Rattle.clause_chain.proofs.following.chain_ends_in.Goals as goal

pub returns-then-premises-pivots : goal.returns-then-premises-pivots
returns-then-premises-pivots c = (
  λ wrong. absurd (true≢false (sym wrong)),
  λ all.
      absurd (c.if-premises-pivots.true
      (sym (length-map c.args.premises.now (λ (v : Vec SignedTerm). v.items))
      ∙ all_as_many c.args.pivots.now (clauses_of c.args.premises.now) c.args.clause.now all)),
)

pub returns-then-not-branch : goal.returns-then-not-branch
returns-then-not-branch c =
    let premises = c.args.premises.now in
    let v = c.index-premises-0-2.result in
    let all =
    all_from premises (take (length premises - 1) (drop 1 premises)) c.args.pivots.now v c.start.new.self c.args.clause.now
    (whole_of premises v (length c.args.pivots.now) c.if-premises-pivots.false c.index-premises-0-2.is)
    (rw c.deref-2.ensures.value at c.in_ok-start.ensures)
    (some_there c.args.pivots.now (sym c.is_empty.ensures ∙ c.if-is_empty.false)) in (
      λ wrong. absurd (true≢false (sym wrong)),
      λ h. absurd (c.in_ok-goes_through.ensures.stuck (λ yes. true≢false (sym yes ∙ c.if-not-branch.true)) c.args.clause.now (all.0 h)),
    )

pub returns : goal.returns
returns c =
    let premises = c.args.premises.now in
    let v = c.index-premises-0-2.result in
    let all =
    all_from premises (take (length premises - 1) (drop 1 premises)) c.args.pivots.now v c.start.new.self c.args.clause.now
    (whole_of premises v (length c.args.pivots.now) c.if-premises-pivots.false c.index-premises-0-2.is)
    (rw c.deref-2.ensures.value at c.in_ok-start.ensures)
    (some_there c.args.pivots.now (sym c.is_empty.ensures ∙ c.if-is_empty.false)) in
    let through = c.in_ok-goes_through.ensures.through c.if-not-branch.false c.args.clause.now in
    let written : c.deref-3.result.now ≡ c.goes_through.new.chain = c.deref-3.ensures.value ∙ c.in_ok-write.ensures in (
      λ yes. all.1 (through.1 (sym written ∙ c.are_same-2.ensures.0 yes)),
      λ h. c.are_same-2.ensures.1 (written ∙ through.0 (all.0 h)),
    )

pub returns-then-len-le-SHORT-2 : goal.returns-then-len-le-SHORT-2
returns-then-len-le-SHORT-2 c =
    let premises = c.args.premises.now in
    let pivots = c.args.pivots.now in
    let nothing : SignedTerm × SignedTerm = (of 0 false, of 0 false) in
    let v = c.index-premises-0-then-len-le-SHORT-2.result in
    let w = c.index-premises-1-then-len-le-SHORT-2.result in
    let one : length pivots ≡ 1 = c.if-pivots-eq1.true in
    let as_many : length premises ≡ length pivots + 1 = c.if-premises-pivots.false in
    let all =
    all_of_two premises pivots v w (get_or pivots 0 nothing) c.args.clause.now
    (two_alone premises v w (omega (arith, one, as_many)) c.index-premises-0-then-len-le-SHORT-2.is c.index-premises-1-then-len-le-SHORT-2.is)
    (one_alone pivots nothing one) in
    let told = rw (c.deref-then-len-le-SHORT-2.ensures.value, c.deref-then-len-le-SHORT-2-2.ensures.value) at c.in_ok-joined.ensures in
    (λ yes. all.1 (told.0 yes), λ h. told.1 (all.0 h))
