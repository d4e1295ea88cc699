use Rattle.std.proofs.Common.{◌<◌, ◌≤◌, ◌∙◌, length, refl, sym, subst, arith, inl, inr, true≢false}
use Rattle.chain_plan.specs.Towers.{nots_at}
use Rattle.chain_plan.proofs.Bridging.{alike_itself, comes_down_first, comes_down}
use Rattle.chain_plan.proofs.Going.{keeps_itself, keeps_through}
use Rattle.chain_plan.proofs.Towers.{pair_below, plain_is}
use Rattle.chain_plan.proofs.bridges.make_plain.Goals as goal

pub returns-then-not-has : goal.returns-then-not-has
returns-then-not-has c = record {
  sound = λ given s. s;
  going = λ given g. g;
  kept = keeps_itself c.args.steps.now.items;
  alike = alike_itself c.args.spellings.now c.args.carry.now.list;
  gone = λ pair there. true≢false (sym (c.has.ensures.1 (rw c.item.ensures there)) ∙ c.if-not-has.true);
  was = λ x there. inl there;
  first = λ none. refl;
  some = inl refl;
  count = omega arith;
}

pub pairs-init : goal.pairs-init
pairs-init c = record {
  sound = λ given s. s;
  going = λ given g. g;
  kept = keeps_itself c.args.steps.now.items;
  down = comes_down_first c.args.spellings.now c.args.number c.args.carry.now.list c.requires.above
      (rw c.item.ensures at (c.has.ensures.0 c.if-not-has.false));
  first = λ none. refl;
  some = inl (refl, refl);
  count = omega arith;
}

pub overflow_sub-current : goal.overflow_sub-current
overflow_sub-current c =
    let t = c.args.spellings.now in
    let k = c.pairs.current in
    let within : k < length t.nots = let w = c.pairs.invariant.down.above.within in omega arith in
    let many : 2 ≤ nots_at t k = rw c.nots_of.ensures at c.pairs-test.true in
    let is = (pair_below t c.requires.towers k within many).is in
    omega arith

pub pairs-preserved : goal.pairs-preserved
pairs-preserved c =
    let t = c.args.spellings.now in
    let k = c.pairs.current in
    let within : k < length t.nots = let w = c.pairs.invariant.down.above.within in omega arith in
    let many : 2 ≤ nots_at t k = rw c.nots_of.ensures at c.pairs-test.true in
    let pair = pair_below t c.requires.towers k within many in
    let l = c.in_ok-lower.ensures in
    record {
      sound = λ given s. l.sound given (c.pairs.invariant.sound given s);
      going = λ given g. l.going given (c.pairs.invariant.going given g);
      down = comes_down t c.requires.towers k c.pairs.carry.list c.lower.new.carry.list pair l.gone l.was l.stays l.there c.pairs.invariant.down.there
          c.args.number c.args.carry.now.list c.pairs.invariant.down;
      kept = keeps_through c.args.steps.now.items c.pairs.steps.items c.lower.new.steps.items c.pairs.invariant.kept l.kept;
      some = inr (
          elim c.pairs.invariant.some [
            | inl same ↦ subst (λ n. 2 ≤ nots_at t n) same.1 many
            | inr pair ↦ pair
          ]);
      first = λ none. absurd (l.first none);
      count = let before = c.pairs.invariant.count in let one = l.count in let two = pair.nots in omega arith;
    }

pub returns : goal.returns
returns c =
    let t = c.args.spellings.now in
    let k = c.pairs.current in
    let down = c.pairs.invariant.down in
    let few : nots_at t k < 2 = rw c.nots_of.ensures at c.pairs-test.false in
    let at = sym (plain_is t k few) ∙ down.plain in
    record {
      sound = c.pairs.invariant.sound;
      going = c.pairs.invariant.going;
      alike = down.alike;
      gone = λ pair there. down.gone (λ same. absurd (let e = same in let two : 2 ≤ nots_at t k = rw e pair in omega arith)) there;
      was = λ x there. elim (down.was x there) [ inl before ↦ inl before | inr is ↦ inr (rw (← at) is) ];
      kept = c.pairs.invariant.kept;
      some = elim c.pairs.invariant.some [ inl same ↦ inl same.0 | inr pair ↦ inr pair ];
      first = c.pairs.invariant.first;
      count = let before = c.pairs.invariant.count in omega arith;
    }
