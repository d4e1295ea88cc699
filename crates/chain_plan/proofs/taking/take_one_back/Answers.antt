use Rattle.std.proofs.Common.{◌<◌, inl, inr, not}
use Rattle.std.proofs.Common.{length, sym, ◌∙◌, subst, arith, Contains, true≢false}
use Rattle.rule_model.specs.Resolution.{IsJoined}
use Rattle.chain_plan.specs.Towers.{side, terms_of}
use Rattle.chain_plan.proofs.Going.{going_resolved}
use Rattle.chain_plan.proofs.Joining.{joined_was}
use Rattle.chain_plan.proofs.Literals.{back_constant, back_passed, back_resolved}
use Rattle.chain_plan.proofs.taking.take_one_back.Goals as goal

pub returns-then-is_constant-clause-back : goal.returns-then-is_constant-clause-back
returns-then-is_constant-clause-back c terms named falses other all only =
    let t = c.args.spellings.now in
    let p = c.pivot_against-base in
    let within : c.args.number < length t.nots = let w = c.requires.above.within in omega arith in
    back_constant t c.requires.towers terms named c.args.number p.result.0 p.result.1 within p.ensures falses
    (c.is_constant.ensures.0 c.if-is_constant.true) other (terms_of terms c.args.carry.now.list) all

pub returns-then-not-has-clause-back : goal.returns-then-not-has-clause-back
returns-then-not-has-clause-back c terms named falses other all only =
    let t = c.args.spellings.now in
    let p = c.pivot_against-base in
    let within : c.args.number < length t.nots = let w = c.requires.above.within in omega arith in
    back_passed t c.requires.towers terms named c.args.number p.result.0 p.result.1 within p.ensures falses
    (λ e. true≢false (sym (c.is_constant.ensures.1 (inl e)) ∙ c.if-is_constant.false))
    (λ e. true≢false (sym (c.is_constant.ensures.1 (inr e)) ∙ c.if-is_constant.false))
    c.args.carry.now.list c.requires.left
    (λ there. true≢false (sym (c.has.ensures.1 (rw c.taken_with.ensures there)) ∙ c.if-not-has.true)) all

pub returns-clause-going : goal.returns-clause-going
returns-clause-going c given steps standing going =
    let t = c.args.spellings.now in
    let p = c.pivot_against-base in
    let clause = c.args.premise.now.clause in
    going_resolved t given steps c.args.carry.now c.resolve.new.self c.args.premise.now.source clause p.result.0 p.result.1 going standing.source
    standing.same p.ensures.above (λ x there. (c.requires.right x there).item)
    (subst (λ xs. IsJoined c.args.carry.now.list xs (side p.result.0 p.result.1) (side p.result.0 (not p.result.1)) c.resolve.new.self.list)
    c.clause.ensures c.in_ok-resolve.ensures.joined)
    (rw c.source.ensures at c.in_ok-resolve.ensures.sources) c.in_ok-resolve.ensures.pivots

pub returns-clause-plain : goal.returns-clause-plain
returns-clause-plain c x there =
    let t = c.args.spellings.now in
    let p = c.pivot_against-base in
    elim (joined_was c.args.carry.now.list c.clause.result.now (side p.result.0 p.result.1) (side p.result.0 (not p.result.1)) c.resolve.new.self.list x
    c.in_ok-resolve.ensures.joined there) [
      | inl was ↦ c.requires.left x was.0
      | inr was ↦ c.requires.right x (subst (λ xs. Contains xs x) c.clause.ensures was.0)
    ]

pub returns-clause-back : goal.returns-clause-back
returns-clause-back c terms named falses other all only =
    let t = c.args.spellings.now in
    let p = c.pivot_against-base in
    let clause = c.args.premise.now.clause in
    let within : c.args.number < length t.nots = let w = c.requires.above.within in omega arith in
    back_resolved t c.requires.towers terms named c.args.number p.result.0 p.result.1 within p.ensures falses
    (λ e. true≢false (sym (c.is_constant.ensures.1 (inl e)) ∙ c.if-is_constant.false))
    (λ e. true≢false (sym (c.is_constant.ensures.1 (inr e)) ∙ c.if-is_constant.false))
    c.args.carry.now.list clause c.resolve.new.self.list c.requires.left c.requires.right all only
    (subst (λ xs. IsJoined c.args.carry.now.list xs (side p.result.0 p.result.1) (side p.result.0 (not p.result.1)) c.resolve.new.self.list)
    c.clause.ensures c.in_ok-resolve.ensures.joined)
