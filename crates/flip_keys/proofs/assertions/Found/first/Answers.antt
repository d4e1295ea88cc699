use Rattle.std.proofs.Common.{length, refl, sym, arith}
use Rattle.std.proofs.lemmas.Option.{slice_get_read}
use Rattle.flip_keys.specs.FirstPlaces.{firsts_of}
use Rattle.flip_keys.proofs.FirstPlaces.{place_of}
use Rattle.flip_keys.proofs.assertions.Found.first.Goals as goal

pub returns : goal.returns
returns c =
    let firsts = firsts_of c.args.self.now in
    let below = c.in_ok-at.ensures.within in
    let count = c.requires in
    record {
      index = c.in_ok-at.at;
      number = place_of c.args.self.now.numbers.keys c.args.number c.in_ok-at.at (sym c.in_ok-at.ensures.index);
      first = slice_get_read firsts (length firsts) c.in_ok-at.at c.index.result.now refl (omega arith) c.index.ensures;
    }
