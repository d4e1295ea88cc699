use Rattle.std.proofs.Common.{◌++◌, ◌∷◌, [], take, sym, ap, ◌∙◌, subst}
use Rattle.std.proofs.lemmas.List.{take_more}
use Rattle.flip_keys.specs.KeyTables.{HasJust}
use Rattle.flip_keys.proofs.Finding.{just_more}
use Rattle.flip_keys.proofs.assertions.place_all.Goals as goal

pub references-preserved : goal.references-preserved
references-preserved c =
    let all = c.args.references.now in
    let i = c.references.r-index in
    let r = c.r-item.result in
    let more = take_more all i r c.references-test.true ∙ ap (λ w. take i all ++ w ∷ []) (sym c.r-item.is) in
    subst (λ rs. HasJust rs c.place.new.placed.keys) (sym more)
    (just_more (take i all) c.references.placed.keys c.place.new.placed.keys r c.references.invariant c.in_ok-place.ensures)
