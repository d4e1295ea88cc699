use Rattle.std.proofs.Common.{ℕ, sym, ◌∙◌, subst, arith}
use Rattle.std.proofs.lemmas.List.{length-set}
use Rattle.rules_resolution.specs.declared.naming.Key.{Key}
use Rattle.rules_resolution.specs.Naming.{AreKeys}
use Rattle.rules_resolution.proofs.Keys.{run_names, named_more}
use Rattle.rules_resolution.proofs.naming.names_by.Goals as goal

abbrev none : Key
none = record { atom = 0; number = 0 }

pub loop-at-preserved : goal.loop-at-preserved
loop-at-preserved c = (
  (let within = c.run_start-first.ensures.within in omega arith),
  c.run_start-first.ensures.run,
  length-set c.loop-at.names.items _ _ ∙ c.loop-at.invariant.2,
  named_more c.args.keys.now c.loop-at.names.items c.loop-at.at _ none
      (subst (λ (n : ℕ). AreKeys n c.args.keys.now) (sym c.loop-at.invariant.2) c.requires.keys) c.loop-at-test.true
      (run_names c.args.keys.now c.run_start-first.result c.loop-at.at none c.run_start-first.ensures.run c.run_start-first.ensures.within c.loop-at-test.true)
      c.loop-at.invariant.3,
)
