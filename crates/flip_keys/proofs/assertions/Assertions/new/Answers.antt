use Rattle.std.proofs.Common.{sym, subst, All}
use Rattle.pair_pool.specs.Views.{IsKnown}
use Rattle.flip_keys.specs.KeyTables.{HasJust}
use Rattle.flip_keys.proofs.assertions.Assertions.new.Goals as goal

pub returns-clause-ready : goal.returns-clause-ready
returns-clause-ready c =
    let pass = c.args.terms.now.pass in
    let owned = c.in_ok-owned.ensures.items in
    record {
      known = subst (All (IsKnown pass)) (sym owned) c.requires;
      placed = subst (λ rs. HasJust rs c.in_ok-placed.placed.keys) (sym owned) c.in_ok-placed.ensures;
      keys = c.new.ensures pass;
      found = λ yes. absurd (cc);
      firsts = λ yes. absurd (cc);
    }
