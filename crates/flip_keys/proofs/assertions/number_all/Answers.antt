use Rattle.std.proofs.Common.{◌≡◌, ◌<◌, ◌++◌, ◌∷◌, [], length, take, sym, ap, ◌∙◌, subst, arith, length-take}
use Rattle.std.proofs.lemmas.List.{take_more}
use Rattle.flip_keys.specs.FirstPlaces.{firsts_of, AddsFirst, AreFirstPlaces}
use Rattle.flip_keys.specs.KeyTables.{AreFound}
use Rattle.flip_keys.proofs.Finding.{found_later, one_found}
use Rattle.flip_keys.proofs.FirstPlaces.{adds_number, firsts_later, one_place}
use Rattle.flip_keys.proofs.Walking.{same_grows}
use Rattle.flip_keys.proofs.assertions.number_all.Goals as goal

pub references-preserved : goal.references-preserved
references-preserved c =
    let pass = c.args.terms.now.pass in
    let all = c.args.references.now in
    let i = c.references.place in
    let r = c.index-references-place.result in
    let keys = c.number.new.self in
    let k = c.in_ok-number.number in
    let old = c.references.found in
    let new = c.add.new.self in
    let below : i < length all = c.references-test.true in
    let found = found_later pass pass c.references.keys keys (same_grows pass) c.in_ok-number.ensures.more
    (take i all) old.numbers.keys c.references.invariant.2 in
    let firsts = firsts_later pass pass c.references.keys keys (same_grows pass) c.in_ok-number.ensures.more
    (take i all) old.numbers.keys (firsts_of old) c.references.invariant.3 in
    let numbered = rw c.references.invariant.0 at c.in_ok-number.ensures.number in
    let whole = length-take i all in
    let at : i ≡ length (take i all) = omega arith in
    let adds = subst (λ n. AddsFirst old.numbers.keys (firsts_of old) k n new.numbers.keys (firsts_of new)) at c.in_ok-add.ensures in
    let more = take_more all i r below ∙ ap (λ w. take i all ++ w ∷ []) (sym c.index-references-place.is) in (
      c.number.ensures.same ∙ c.references.invariant.0,
      rw c.references.invariant.0 at c.in_ok-number.ensures.keys,
      subst (λ rs. AreFound pass keys rs new.numbers.keys) (sym more)
          (one_found pass keys (take i all) old.numbers.keys new.numbers.keys r k found numbered
          (adds_number old.numbers.keys (firsts_of old) new.numbers.keys (firsts_of new) k i c.in_ok-add.ensures)),
      subst (λ rs. AreFirstPlaces pass keys rs new.numbers.keys (firsts_of new)) (sym more)
          (one_place pass keys (take i all) old.numbers.keys (firsts_of old) r k found firsts numbered new.numbers.keys (firsts_of new) adds),
    )
