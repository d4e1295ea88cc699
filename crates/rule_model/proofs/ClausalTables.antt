-- The truth table of each clausal rule that has a schema.
use Rattle.std.proofs.Common.{◌≡◌, true, Option, Some, None, refl}
use Rattle.rule_model.specs.declared.rules.Rule.{Rule}
use Rattle.rule_model.specs.RuleSchemas.{schema_of}
use Rattle.rule_model.specs.Schemas.{Schema}
use Rattle.rule_model.proofs.TruthTables.{is_sound}

-- a rule's schema, where it has one, keeps truth
abbrev pub IsSound : Option Schema → Type 0
IsSound (Some schema) = is_sound schema ≡ true
IsSound None = Unit {0}

pub clausal_tables : (rule : Rule) → IsSound (schema_of rule)
clausal_tables Rule.True = refl  -- true
clausal_tables Rule.False = refl  -- false
clausal_tables Rule.NotNot = refl  -- not_not
clausal_tables Rule.XorPos1 = refl  -- xor_pos1
clausal_tables Rule.XorPos2 = refl  -- xor_pos2
clausal_tables Rule.XorNeg1 = refl  -- xor_neg1
clausal_tables Rule.XorNeg2 = refl  -- xor_neg2
clausal_tables Rule.ImpliesPos = refl  -- implies_pos
clausal_tables Rule.ImpliesNeg1 = refl  -- implies_neg1
clausal_tables Rule.ImpliesNeg2 = refl  -- implies_neg2
clausal_tables Rule.EquivPos1 = refl  -- equiv_pos1
clausal_tables Rule.EquivPos2 = refl  -- equiv_pos2
clausal_tables Rule.EquivNeg1 = refl  -- equiv_neg1
clausal_tables Rule.EquivNeg2 = refl  -- equiv_neg2
clausal_tables Rule.Xor1 = refl  -- xor1
clausal_tables Rule.Xor2 = refl  -- xor2
clausal_tables Rule.NotXor1 = refl  -- not_xor1
clausal_tables Rule.NotXor2 = refl  -- not_xor2
clausal_tables Rule.Implies = refl  -- implies
clausal_tables Rule.NotImplies1 = refl  -- not_implies1
clausal_tables Rule.NotImplies2 = refl  -- not_implies2
clausal_tables Rule.Equiv1 = refl  -- equiv1
clausal_tables Rule.Equiv2 = refl  -- equiv2
clausal_tables Rule.NotEquiv1 = refl  -- not_equiv1
clausal_tables Rule.NotEquiv2 = refl  -- not_equiv2
clausal_tables _ = tt
