-- Public. Relations of lines.
use Rattle.std.specs.Prelude.{ℕ, ℤ, ◌≡◌, Bool, true, false}
use Rattle.rule_model.specs.Arith as spec
use Rattle.rule_model.specs.Arith.{IsRoundedUp}
use Rattle.scaled_sums.specs.declared.bounds.Relation.{Relation}

-- as the conditions of rules have them
abbrev pub relation_meant : Relation → spec.Relation
relation_meant Relation.Exceeds = spec.exceeds
relation_meant Relation.Reaches = spec.reaches
relation_meant Relation.Equals = spec.equals

-- the bound of a line, rounded up where it is to be
abbrev pub IsBoundOf : Bool → ℕ → ℤ → ℤ → Type 0
IsBoundOf true multiple z bound = IsRoundedUp multiple z bound
IsBoundOf false multiple z bound = bound ≡ z
