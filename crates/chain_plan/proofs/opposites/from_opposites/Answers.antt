use Rattle.std.proofs.Common.{[], length, ap, arith}
use Rattle.std.proofs.lemmas.List.Elements.{All-weaker}
use Rattle.chain_plan.specs.Carried.{IsItem}
use Rattle.chain_plan.specs.Towers.{IsLiteral}
use Rattle.chain_plan.proofs.Towers.{room_within}
use Rattle.chain_plan.proofs.opposites.from_opposites.Goals as goal

pub finish-requires : goal.finish-requires
finish-requires c x there = c.in_ok-raise_all.ensures.within c.in_ok-begin.ensures.plains x there

pub returns : goal.returns
returns c =
    let t = c.args.spellings.now in
    record {
      sound = λ given s.
          c.in_ok-finish.ensures.sound t given (c.in_ok-raise_all.ensures.sound given (c.in_ok-begin.ensures.sound given (rw c.new-steps.ensures.items s)))
          (c.in_ok-raise_all.ensures.going given (c.in_ok-begin.ensures.going given))
          (All-weaker (IsLiteral t) (IsItem t) (λ x l. room_within t x l) c.args.goal.now c.requires.literals);
      ends = c.in_ok-finish.ensures.ends t [] (c.in_ok-raise_all.ensures.going [] (c.in_ok-begin.ensures.going []));
      count =
          let none = ap length c.new-steps.ensures.items in
          let a = c.in_ok-begin.ensures.count in
          let b = c.in_ok-raise_all.ensures.count in
          let d = c.in_ok-finish.ensures.count in
          omega arith;
    }
