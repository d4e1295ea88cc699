use Rattle.flip_keys.specs.Assertions.{references_of}
use Rattle.flip_keys.specs.FirstPlaces.{firsts_of}
use Rattle.flip_keys.proofs.Finding.{found_later}
use Rattle.flip_keys.proofs.FirstPlaces.{firsts_later, first_like, none_like, place_within}
use Rattle.flip_keys.proofs.Walking.{same_grows}
use Rattle.flip_keys.proofs.assertions.Assertions.first_asserted.Goals as goal

pub returns-clause-first : goal.returns-clause-first
returns-clause-first c ts t refer right =
    let pass = c.args.terms.now.pass in
    let references = references_of c.args.self.now in
    let numbered = c.number_once.new.self in
    let now = c.number_once.ensures.same in
    let of_these = c.number_once.ensures.references in
    let found = rw of_these at c.in_ok-number_once.ensures.ready.found c.in_ok-number_once.ensures.numbered in
    let firsts = rw of_these at c.in_ok-number_once.ensures.ready.firsts c.in_ok-number_once.ensures.numbered in
    let later = found_later pass pass numbered.keys c.number.new.self (same_grows pass) c.in_ok-number.ensures.more
    references numbered.found.numbers.keys found in
    let firsts_then = firsts_later pass pass numbered.keys c.number.new.self (same_grows pass) c.in_ok-number.ensures.more
    references numbered.found.numbers.keys
    (firsts_of numbered.found) firsts in
    first_like c.args.symbols.now c.args.terms.now c.leaves_differ.ensures.table c.one_to_one.ensures c.number.new.self (rw now at c.in_ok-number.ensures.keys)
    references numbered.found.numbers.keys (firsts_of numbered.found) later firsts_then c.args.r c.in_ok-number.number (rw now at c.in_ok-number.ensures.number)
    ts t refer right c.first.result c.first.ensures

pub returns-clause-none : goal.returns-clause-none
returns-clause-none c ts t refer right =
    let pass = c.args.terms.now.pass in
    let references = references_of c.args.self.now in
    let numbered = c.number_once.new.self in
    let now = c.number_once.ensures.same in
    let of_these = c.number_once.ensures.references in
    let found = rw of_these at c.in_ok-number_once.ensures.ready.found c.in_ok-number_once.ensures.numbered in
    let firsts = rw of_these at c.in_ok-number_once.ensures.ready.firsts c.in_ok-number_once.ensures.numbered in
    let later = found_later pass pass numbered.keys c.number.new.self (same_grows pass) c.in_ok-number.ensures.more
    references numbered.found.numbers.keys found in
    let firsts_then = firsts_later pass pass numbered.keys c.number.new.self (same_grows pass) c.in_ok-number.ensures.more
    references numbered.found.numbers.keys
    (firsts_of numbered.found) firsts in
    none_like c.args.symbols.now c.args.terms.now c.leaves_differ.ensures.table c.one_to_one.ensures c.number.new.self (rw now at c.in_ok-number.ensures.keys)
    references numbered.found.numbers.keys (firsts_of numbered.found) later firsts_then c.args.r c.in_ok-number.number (rw now at c.in_ok-number.ensures.number)
    ts t refer right c.first.result c.first.ensures

pub returns-clause-ready : goal.returns-clause-ready
returns-clause-ready c =
    let pass = c.args.terms.now.pass in
    let numbered = c.number_once.new.self in
    let ready = c.in_ok-number_once.ensures.ready in
    let found = ready.found c.in_ok-number_once.ensures.numbered in
    let firsts = ready.firsts c.in_ok-number_once.ensures.numbered in
    rw (c.number.ensures.same, c.number_once.ensures.same)
    (record {
      known = ready.known;
      placed = ready.placed;
      keys = rw c.number_once.ensures.same at c.in_ok-number.ensures.keys;
      found = λ yes.
          found_later pass pass numbered.keys c.number.new.self (same_grows pass) c.in_ok-number.ensures.more
          (references_of numbered) numbered.found.numbers.keys found;
      firsts = λ yes.
          firsts_later pass pass numbered.keys c.number.new.self (same_grows pass) c.in_ok-number.ensures.more
          (references_of numbered) numbered.found.numbers.keys
          (firsts_of numbered.found) firsts;
    })

pub returns-clause-within : goal.returns-clause-within
returns-clause-within c =
    let references = references_of c.args.self.now in
    let numbered = c.number_once.new.self in
    let of_these = c.number_once.ensures.references in
    let firsts = rw of_these at c.in_ok-number_once.ensures.ready.firsts c.in_ok-number_once.ensures.numbered in
    place_within c.args.terms.now.pass numbered.keys
    references numbered.found.numbers.keys (firsts_of numbered.found) c.in_ok-number.number firsts c.first.result
    c.first.ensures
