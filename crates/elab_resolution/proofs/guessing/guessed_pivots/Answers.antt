use Rattle.std.proofs.Common.{◌∙◌, sym}
use Rattle.std.proofs.lemmas.List.Elements.{All-push}
use Rattle.elab_resolution.specs.Guessed.{IsPivotIn, IsPivotOfSome}
use Rattle.elab_resolution.proofs.DirectLemmas.{found_of}
use Rattle.elab_resolution.proofs.guessing.guessed_pivots.Goals as goal

pub premises-preserved : goal.premises-preserved
premises-preserved c =
    let s = c.args.symbols.now in
    let v = c.args.terms.now in
    record {
      same = c.join.ensures.same ∙ c.premises.invariant.same;
      pivots =
          rw c.in_ok-push.ensures.items
          (All-push (λ p. IsPivotOfSome s v c.args.others.now p.0) c.premises.pivots.items c.in-Some.pivot c.premises.invariant.pivots (record {
            clause = c.premise-item.result;
            is = (c.premises.premise-index, c.premises-test.true, sym c.premise-item.is);
            pivot =
                found_of c.in_ok-pivot.field-0 c.in-Some.pivot (λ p. IsPivotIn s v c.premise-item.result.now p.0) c.in-Some.is
                (rw c.premises.invariant.same at c.in_ok-pivot.ensures.pivot);
          }));
    }
