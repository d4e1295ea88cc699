use Rattle.std.proofs.Common.{◌≡◌, ◌∷◌, ◌++◌, [], length, refl, ◌∙◌, ap, subst, arith, Contains, rules}
use Rattle.std.proofs.lemmas.List.{length-append}
use Rattle.chain_plan.specs.declared.plan.Source.TheVariants.{Added}
use Rattle.chain_plan.proofs.LastSteps.{weakening_of, weakening_sound}
use Rattle.chain_plan.proofs.Going.{new_source, new_is_source}
use Rattle.chain_plan.proofs.Resolving.{resolution_of}
use Rattle.chain_plan.proofs.ending.finish.Goals as goal

pub returns-then-branch-clause-sound : goal.returns-then-branch-clause-sound
returns-then-branch-clause-sound c t given sound going items = c.in_ok-add_resolution.ensures.sound t given sound going

pub returns : goal.returns
returns c =
    let before = c.args.steps.now.items in
    let s = resolution_of c.args.carry.now in
    let middle = before ++ s ∷ [] in
    let added = c.in_ok-add_resolution.ensures.added in
    let weakened = c.in_ok-add_weakening.ensures in
    let place : c.len-number.result ≡ length before = search (rules, c.len-number.ensures) in
    record {
      sound = λ t given sound going items.
          rw (weakened, place, added)
          (weakening_sound t given middle (Added (length before)) c.args.goal.now (rw added at (c.in_ok-add_resolution.ensures.sound t given sound going))
          (new_is_source given before s)
          (λ x there. c.requires x (subst (λ xs. Contains xs x) (new_source given before s) there)) items);
      ends = λ t given going.
          record { before = c.add_resolution.new.steps.items; last = weakening_of (Added c.len-number.result) c.args.goal.now; is = weakened; ends = refl };
      count =
          let one = ap length added ∙ length-append before (s ∷ []) in
          let two = ap length weakened ∙ length-append c.add_resolution.new.steps.items (weakening_of (Added c.len-number.result) c.args.goal.now ∷ []) in
          omega arith;
    }
