-- Each pair adds a parameter or has the first fault.
use Rattle.std.proofs.Common.{◌≡◌, ◌∙◌, ◌+◌, ◌++◌, ◌∷◌, [], arith, length}
use Rattle.std.proofs.lemmas.List.Elements.{All-push}
use Rattle.text_items.proofs.ItemsAtLemmas.{first_and_others}
use Rattle.smtlib_reader.specs.Parameters.{IsParameterThere}
use Rattle.smtlib_reader.proofs.ParameterLists.{names_before, one_name_more, pairs_fit}
use Rattle.smtlib_reader.proofs.ReadLists.{one_read}
use Rattle.smtlib_reader.proofs.parameters.read_all.Goals as goal

pub pairs-preserved : goal.pairs-preserved
pairs-preserved c =
    let names = names_before c.args.items.now c.pairs.out.items in
    let split = first_and_others c.args.items.now c.pairs.k c.args.end c.node-k.result c.node-k.ensures c.pairs-test.true c.requires.inside in
    let read = c.in-Ok.ensures names c.pairs.invariant.keys in
    let len : length (c.pairs.out.items ++ c.in-Ok.parameter ∷ []) ≡ length c.pairs.out.items + 1 = search arith in
    rw c.in_ok-push-in-Ok.ensures.items
    (record {
      comes = c.pairs.invariant.comes ∙ one_read c.args.items.now c.args.symbols.now.sorts c.pairs.out.items _ _ _ split c.in-Ok.parameter read.0;
      keys = rw (one_name_more c.args.items.now c.pairs.out.items c.in-Ok.parameter) read.2;
      there = All-push (IsParameterThere c.args.items.now) c.pairs.out.items c.in-Ok.parameter c.pairs.invariant.there read.1;
      fit = (pairs_fit _ _ _ split c.pairs.invariant.fit).1;
      few = omega (arith, len, c.pairs.invariant.few, c.node-k.ensures.behind);
      inside = omega (arith, len, c.pairs.invariant.few, c.pairs-test.true);
    })
