use Rattle.std.proofs.Common.{◌≡◌, ◌≢◌, ◌<◌, ◌+◌, ◌-◌, length}
use Rattle.std.proofs.Common.{sym, ◌∙◌, ap, subst, arith, inl, inr, Contains, true≢false}
use Rattle.chain_plan.specs.Towers.{item_of}
use Rattle.chain_plan.proofs.Joining.{are_same_or_not}
use Rattle.chain_plan.proofs.Towers.{plain_least, plain_stands, room_below}
use Rattle.chain_plan.proofs.raising.raise_to.Goals as goal

pub returns-then-not-has : goal.returns-then-not-has
returns-then-not-has c = record {
  sound = λ given s. s;
  going = λ given g. g;
  was = λ x there. inl (
    there,
    λ same. true≢false (sym (c.has.ensures.1 (subst (Contains c.args.carry.now.list)
        (same ∙ sym (c.item.ensures ∙ ap item_of c.plain-plain.ensures)) there)) ∙ c.if-not-has.true),
  );
  count = omega arith;
}

pub pairs-init : goal.pairs-init
pairs-init c =
    let t = c.args.spellings.now in
    let k = c.args.goal in
    let within : k < length t.nots = let w = c.requires.room.one.within in omega arith in
    let is = c.plain-plain.ensures in
    record {
      sound = λ given s. s;
      going = λ given g. g;
      there = rw c.item.ensures at (c.has.ensures.0 c.if-not-has.false);
      was = λ x there.
          elim (are_same_or_not x (item_of c.plain-plain.result)) [
            | inl same ↦ inr same
            | inr other ↦ inl (there, subst (λ n. x ≢ item_of n) is other)
          ];
      below = rw is (plain_stands t c.requires.towers k within);
      count = let least = plain_least t k in omega arith;
    }

pub raise-requires-clause-room : goal.raise-requires-clause-room
raise-requires-clause-room c =
    let b = c.pairs.invariant.below in
    room_below c.args.spellings.now c.requires.towers b.pairs c.pairs.current c.args.goal b.is b.nots c.requires.room

pub raise-requires-clause-above : goal.raise-requires-clause-above
raise-requires-clause-above c =
    let b = c.pairs.invariant.below in
    let is = b.is in
    let nots = b.nots in
    let less = c.pairs-test.true in
    room_below c.args.spellings.now c.requires.towers (b.pairs - 1) (c.pairs.current + 2) c.args.goal (omega arith) (omega arith) c.requires.room

pub overflow_add-current : goal.overflow_add-current
overflow_add-current c =
    let is = c.pairs.invariant.below.is in
    let less = c.pairs-test.true in
    let fits = c.ranges.goal.fits in
    omega arith

pub pairs-preserved : goal.pairs-preserved
pairs-preserved c =
    let inv = c.pairs.invariant in
    let l = c.in_ok-raise.ensures in
    let less = c.pairs-test.true in
    let is = inv.below.is in
    let nots = inv.below.nots in
    record {
      sound = λ given s. l.sound given (inv.sound given s);
      going = λ given g. l.going given (inv.going given g);
      there = l.there;
      was = λ x there.
          elim (l.was x there) [
            | inl before ↦ elim (inv.was x before.0) [ inl w ↦ inl w | inr same ↦ absurd (before.1 same) ]
            | inr same ↦ inr same
          ];
      below = record { pairs = inv.below.pairs - 1; is = omega arith; nots = omega arith };
      count = let n = l.count in let before = inv.count in omega arith;
    }

pub returns : goal.returns
returns c =
    let inv = c.pairs.invariant in
    let past = c.pairs-test.false in
    let is = inv.below.is in
    let same : c.pairs.current ≡ c.args.goal = omega arith in
    record {
      sound = inv.sound;
      going = inv.going;
      was = λ x there. elim (inv.was x there) [ inl before ↦ inl before | inr e ↦ inr (e ∙ ap item_of same) ];
      count = let n = inv.count in omega arith;
    }
