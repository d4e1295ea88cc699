use Rattle.std.proofs.Common.{rules, ◌<◌, length, sym, arith}
use Rattle.std.proofs.lemmas.List.Sorted.{IsNonDecreasingBy-from_sort_by_key}
use Rattle.clause_chain.specs.Chaining.{clauses_of}
use Rattle.rules_resolution.specs.Renaming.{all_literals}
use Rattle.rules_resolution.specs.Naming.{key_rank}
use Rattle.rules_resolution.proofs.Keys.{atoms_rising, numbers_small, sorted_sound, names_found}
use Rattle.rules_resolution.proofs.naming.names_of.Goals as goal

pub names_by-requires-clause-rising : goal.names_by-requires-clause-rising
names_by-requires-clause-rising c =
    let up = IsNonDecreasingBy-from_sort_by_key key_rank _ c.sort_unstable_by_key.ensures.sorted (λ a r q k. search rules) in
    let sound = sorted_sound (all_literals (clauses_of c.args.premises.now) c.args.goal.now) c.in_ok-keys.keys.items c.sort_unstable_by_key.new.self.items c.in_ok-keys.ensures c.sort_unstable_by_key.ensures.permutation in
    let few : length (all_literals (clauses_of c.args.premises.now) c.args.goal.now) < 4294967296 = (let n = c.requires.count in let m = c.requires.few in omega arith) in
    rw c.deref.ensures.value (atoms_rising c.sort_unstable_by_key.new.self.items (numbers_small (all_literals (clauses_of c.args.premises.now) c.args.goal.now) c.sort_unstable_by_key.new.self.items few sound) up)

pub names_by-requires-clause-keys : goal.names_by-requires-clause-keys
names_by-requires-clause-keys c = (
  all_literals (clauses_of c.args.premises.now) c.args.goal.now,
  sym c.requires.count,
  rw c.deref.ensures.value
      (sorted_sound (all_literals (clauses_of c.args.premises.now) c.args.goal.now) c.in_ok-keys.keys.items c.sort_unstable_by_key.new.self.items c.in_ok-keys.ensures c.sort_unstable_by_key.ensures.permutation),
)

pub returns : goal.returns
returns c =
    names_found (all_literals (clauses_of c.args.premises.now) c.args.goal.now) c.in_ok-keys.keys.items c.sort_unstable_by_key.new.self.items c.args.count c.in_ok-keys.ensures c.sort_unstable_by_key.ensures.permutation c.requires.count
    c.names_by.result c.names_by.ensures.size (rw c.deref.ensures.value at c.names_by.ensures.names)
