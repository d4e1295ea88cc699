use Rattle.std.proofs.Common.{refl}
use Rattle.flip_keys.specs.Assertions.{references_of}
use Rattle.flip_keys.specs.FirstPlaces.{firsts_of}
use Rattle.flip_keys.proofs.Finding.{found_later, asserted_is, stands_there}
use Rattle.flip_keys.proofs.FirstPlaces.{firsts_later}
use Rattle.flip_keys.proofs.Walking.{same_grows}
use Rattle.flip_keys.proofs.assertions.Assertions.is_asserted.Goals as goal

pub returns-then-is_placed-clause-asserted : goal.returns-then-is_placed-clause-asserted
returns-then-is_placed-clause-asserted c ts t refer right =
    let before = c.args.self.now in
    let there = c.is_placed.ensures.0 c.if-is_placed.true in (
      λ e. stands_there c.args.symbols.now c.args.terms.now c.leaves_differ.ensures.table c.one_to_one.ensures (references_of before) before.placed.keys c.requires.ready.placed c.args.r there ts t refer right,
      λ h. refl,
    )

pub returns-clause-asserted : goal.returns-clause-asserted
returns-clause-asserted c ts t refer right =
    let pass = c.args.terms.now.pass in
    let references = references_of c.args.self.now in
    let numbered = c.number_once.new.self in
    let now = c.number_once.ensures.same in
    let of_these = c.number_once.ensures.references in
    let earlier = rw of_these at c.in_ok-number_once.ensures.ready.found c.in_ok-number_once.ensures.numbered in
    let found = found_later pass pass numbered.keys c.number.new.self (same_grows pass) c.in_ok-number.ensures.more references numbered.found.numbers.keys earlier in
    let keys = rw now at c.in_ok-number.ensures.keys in
    let number = rw now at c.in_ok-number.ensures.number in
    asserted_is c.args.symbols.now c.args.terms.now c.leaves_differ.ensures.table c.one_to_one.ensures c.number.new.self keys references numbered.found.numbers.keys found c.args.r c.in_ok-number.number number c.has.result c.has.ensures ts t refer right

pub returns-clause-ready : goal.returns-clause-ready
returns-clause-ready c =
    let pass = c.args.terms.now.pass in
    let numbered = c.number_once.new.self in
    let ready = c.in_ok-number_once.ensures.ready in
    let found = ready.found c.in_ok-number_once.ensures.numbered in
    rw (c.number.ensures.same, c.number_once.ensures.same)
    (record {
      known = ready.known;
      placed = ready.placed;
      keys = rw c.number_once.ensures.same at c.in_ok-number.ensures.keys;
      found = λ yes. found_later pass pass numbered.keys c.number.new.self (same_grows pass) c.in_ok-number.ensures.more (references_of numbered) numbered.found.numbers.keys found;
      firsts = λ yes.
          firsts_later pass pass numbered.keys c.number.new.self (same_grows pass) c.in_ok-number.ensures.more (references_of numbered) numbered.found.numbers.keys
          (firsts_of numbered.found) (ready.firsts c.in_ok-number_once.ensures.numbered);
    })
