-- Private. Occurrences of literals, and their order.
use Rattle.std.specs.Prelude.{ℕ, ◌+◌, ◌*◌, Bool, ◌&&◌, nat_eq, if◌then◌else◌}
use Rattle.rule_model.specs.declared.literal.Literal.TheVariants.{Plain}
use Rattle.rules_resolution.specs.Falsity.{same_bool}
use Rattle.rules_resolution.specs.Literal.{Lit}
use Rattle.rules_resolution.specs.declared.occurrence.Occurrence.{Occurrence}

abbrev pub literal_in : Occurrence → Lit
literal_in o = Plain o.atom o.negative

-- the rank of an occurrence of this literal in premise 0
abbrev pub literal_rank : ℕ → Bool → ℕ
literal_rank atom negative = (2 * atom + (if negative then 1 else 0)) * 4294967296

-- by atom, then sign, then premise
abbrev pub rank_of : Occurrence → ℕ
rank_of o = literal_rank o.atom o.negative + o.premise

-- whether it is an occurrence of this literal
abbrev pub is_of : ℕ → Bool → Occurrence → Bool
is_of atom negative o = nat_eq o.atom atom && same_bool o.negative negative
