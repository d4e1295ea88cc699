use Rattle.std.proofs.Common.{◌≡◌, ◌≢◌, ◌<◌, ◌-◌, ◌%◌, true, false, length, sym, subst, arith}
use Rattle.chain_plan.specs.Lowering.{IsPivotAgainst}
use Rattle.chain_plan.specs.Towers.{nots_at}
use Rattle.chain_plan.proofs.Towers.{nots_most, pivot_is, odd_side, even_side}
use Rattle.chain_plan.proofs.spellings.Spellings.pivot_against.Goals as goal

pub overflow_sub-result : goal.overflow_sub-result
overflow_sub-result c =
    let within : c.args.number < length c.args.self.now.nots = let w = c.requires.above.within in omega arith in
    let most = nots_most c.args.self.now c.requires.towers c.args.number within in
    let is = c.nots_of-nots.ensures in
    omega arith

pub overflow_sub-result-2 : goal.overflow_sub-result-2
overflow_sub-result-2 c =
    let within : c.args.number < length c.args.self.now.nots = let w = c.requires.above.within in omega arith in
    let most = nots_most c.args.self.now c.requires.towers c.args.number within in
    let is = c.nots_of-nots.ensures in
    omega arith

pub returns-then-nots-eq1 : goal.returns-then-nots-eq1
returns-then-nots-eq1 c =
    let t = c.args.self.now in
    let k = c.args.number in
    let within : k < length t.nots = let w = c.requires.above.within in omega arith in
    let odd : nots_at t k % 2 ≡ 1 = subst (λ n. n % 2 ≡ 1) c.nots_of-nots.ensures c.if-nots-eq1.true in
    subst (λ n. IsPivotAgainst t k (k - n) true) (sym c.nots_of-nots.ensures)
    (pivot_is t c.requires.towers k c.requires.above true (odd_side t c.requires.towers k within odd))

pub returns : goal.returns
returns c =
    let t = c.args.self.now in
    let k = c.args.number in
    let even : nots_at t k % 2 ≢ 1 = subst (λ n. n % 2 ≢ 1) c.nots_of-nots.ensures c.if-nots-eq1.false in
    subst (λ n. IsPivotAgainst t k (k - n) false) (sym c.nots_of-nots.ensures)
    (pivot_is t c.requires.towers k c.requires.above false (even_side t k even))
