use Rattle.std.proofs.Common.{◌≡◌, ◌+◌, ◌∷◌, [], length}
use Rattle.std.proofs.Common.{sym, ◌∙◌, ap, subst, arith, inl, inr, Contains, rules, true≢false}
use Rattle.std.proofs.lemmas.List.{length-append}
use Rattle.std.proofs.lemmas.List.Elements.{All-weaker}
use Rattle.chain_plan.specs.declared.plan.Source.TheVariants.{Given}
use Rattle.chain_plan.specs.Carried.{Carried, IsItem}
use Rattle.chain_plan.specs.Lowering.{AreAlike}
use Rattle.chain_plan.specs.Towers.{IsLiteral}
use Rattle.chain_plan.proofs.Bridging.{alike_itself, alike_through, firsts_alike}
use Rattle.chain_plan.proofs.Going.{going_started, new_source, new_is_source, keeps_through}
use Rattle.chain_plan.proofs.Joining.{firsts_had, firsts_have}
use Rattle.chain_plan.proofs.Resolving.{resolution_of}
use Rattle.chain_plan.proofs.Towers.{room_within}
use Rattle.chain_plan.proofs.normal.make_normal.Goals as goal

pub make_all_plain-requires-clause-within : goal.make_all_plain-requires-clause-within
make_all_plain-requires-clause-within c x there = firsts_had c.args.clause.now c.start.new.self.list x c.in_ok-start.ensures.list there

pub returns-then-is_first : goal.returns-then-is_first
returns-then-is_first c =
    let t = c.args.spellings.now in
    let none = c.is_first.ensures.0 c.if-is_first.true in
    let same = c.in_ok-make_all_plain.ensures.first none in
    let copied : c.extend_from_slice.new.self.items ≡ c.args.clause.now = search (rules, c.in_ok-extend_from_slice.ensures.items, c.new-copy.ensures.items) in
    record {
      sound = λ given s place is. c.in_ok-make_all_plain.ensures.sound given s;
      stands = λ given place is. record { source = place; same = is ∙ sym copied };
      form = record {
        alike = subst (AreAlike t c.args.clause.now) (sym copied) (alike_itself t c.args.clause.now);
        plain = λ x there.
            c.in_ok-make_all_plain.ensures.plain x
            (subst (λ (k : Carried). Contains k.list x) (sym same)
            (firsts_have c.args.clause.now c.start.new.self.list x c.in_ok-start.ensures.list (subst (λ xs. Contains xs x) copied there)));
      };
      kept = c.in_ok-make_all_plain.ensures.kept;
      count = let n = c.in_ok-make_all_plain.ensures.count in omega arith;
    }

pub returns : goal.returns
returns c =
    let t = c.args.spellings.now in
    let clause = c.args.clause.now in
    let carry = c.make_all_plain.new.carry in
    let before = c.make_all_plain.new.steps.items in
    let s = resolution_of carry in
    let added = c.in_ok-add_resolution.ensures.added in
    let written : c.write.new.list.items ≡ carry.list = c.in_ok-write.ensures in
    let place : c.len-number.result ≡ length before = search (rules, c.len-number.ensures) in
    let all = c.in_ok-make_all_plain.ensures in
    record {
      sound = λ given sound within is.
          c.in_ok-add_resolution.ensures.sound t given (all.sound given sound)
          (all.going given
          (going_started t given c.args.steps.now.items (Given c.args.place) c.start.new.self within
          (rw is (All-weaker (IsLiteral t) (IsItem t) (λ x l. room_within t x l) clause c.requires.literals))
          (rw is c.in_ok-start.ensures.list) c.in_ok-start.ensures.sources c.in_ok-start.ensures.pivots));
      stands = λ given within is. record {
        source = rw (added, place) (new_is_source given before s);
        same = rw (added, place, written) (new_source given before s);
      };
      form = record {
        alike = rw written (alike_through t clause c.start.new.self.list carry.list
            (firsts_alike t clause c.start.new.self.list c.in_ok-start.ensures.list) all.alike);
        plain = λ x there. all.plain x (rw written at there);
      };
      kept = keeps_through c.args.steps.now.items before c.add_resolution.new.steps.items all.kept c.in_ok-add_resolution.ensures.kept;
      count =
          let n = all.count in
          let more : length c.add_resolution.new.steps.items ≡ length before + 1 = ap length added ∙ length-append before (s ∷ []) in
          elim all.some [
            | inl same ↦
                absurd (true≢false (sym (c.is_first.ensures.1 (ap (λ (k : Carried). k.pivots) same ∙ c.in_ok-start.ensures.pivots)) ∙ c.if-is_first.false))
            | inr pair ↦ omega arith
          ];
    }
