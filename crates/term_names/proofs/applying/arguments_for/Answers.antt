use Rattle.std.proofs.Common.{arith, ◌≡◌, ◌+◌, suc, take, drop, get_or, ◌∷◌, ◌++◌, [], refl, sym, ap, ◌∙◌}
use Rattle.term_names.specs.Applying.{bounds_of}
use Rattle.term_expansion.specs.declared.values.Value.{Value}
use Rattle.term_names.proofs.MacroArguments.{slice-drop, bounds-next}
use Rattle.term_names.proofs.applying.arguments_for.Goals as goal

pub parameters-preserved : goal.parameters-preserved
parameters-preserved c =
    let ks = c.args.parameters.now in
    let cs = drop c.args.from c.args.values.now in
    let i = c.parameters.i in
    let next : suc i ≡ i + 1 = omega arith in
    let here = slice-drop {X = Value} c.args.values.now c.args.from i (c.args.from + i) c.get.result refl c.get.ensures in
    c.in_ok-push.ensures.items ∙ ap (λ bs. bs ++ record { variable = get_or ks i 0; value = c.get.result } ∷ []) c.parameters.invariant
    ∙ sym (bounds-next ks cs i 0 c.get.result c.parameters-test.true here) ∙ ap (λ n. bounds_of (take n ks) cs) next
