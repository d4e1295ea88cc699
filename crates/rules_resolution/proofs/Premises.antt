-- The premises as vectors, and as clauses.
use Rattle.std.proofs.Common.{◌≡◌, ℕ, ◌<◌, List, [], length, get_or}
use Rattle.std.specs.Global.{Vec}
use Rattle.std.proofs.lemmas.List.{get_or-map, length-map}
use Rattle.rule_model.specs.Consequence.{premise_at}
use Rattle.clause_chain.specs.Chaining.{clauses_of}
use Rattle.rules_resolution.specs.Literal.{Lit}

pub premise_here : (vectors : List (Vec Lit)) (k : ℕ) (d : Vec Lit) → k < length vectors → premise_at (clauses_of vectors) k ≡ (get_or vectors k d).items
premise_here vectors k d h = get_or-map (λ (v : Vec Lit). v.items) vectors k d [] h

pub length-clauses_of : (vectors : List (Vec Lit)) → length (clauses_of vectors) ≡ length vectors
length-clauses_of vectors = length-map vectors (λ (v : Vec Lit). v.items)
