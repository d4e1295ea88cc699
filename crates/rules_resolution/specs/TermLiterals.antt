-- Private. Literals over references.
use Rattle.std.specs.Prelude.{ℕ, Bool, true, false, List}
use Rattle.std.specs.Borrow.{Bor}
use Rattle.std.specs.Global.{Vec}
use Rattle.std.specs.List.{AllZip}
use Rattle.sym_table.specs.Table.{Table}
use Rattle.term_model.specs.Terms.{Term}
use Rattle.term_pool.specs.Views.{TermsView, RefersTo}
use Rattle.rule_model.specs.declared.literal.Literal.{Literal}
use Rattle.rule_model.specs.Literals.{negation_of}
use Rattle.rule_model.specs.Renaming.{IsLiteralImage}
use Rattle.rule_model.specs.Resolution.{as_literal}
use Rattle.rules_resolution.specs.Literal.{Lit}
use Rattle.rules_resolution.specs.Loading.{AreListsOf}

-- the literal is that of the term that the reference stands for, its atom's reference for the atom
abbrev pub IsLiteralOf : Table → TermsView → ℕ → Lit → Type 0
IsLiteralOf s v r l = (t : Term) → RefersTo s v r t → IsLiteralImage (RefersTo s v) l (as_literal t)

-- the literals are those of the references, in order
abbrev pub AreLiteralsOf : Table → TermsView → List ℕ → List Lit → Type 0
AreLiteralsOf s v = AllZip (IsLiteralOf s v)

abbrev pub AreClausesOf : Table → TermsView → List (Bor (List ℕ)) → List (Vec Lit) → Type 0
AreClausesOf s v = AreListsOf (IsLiteralOf s v)

-- a literal, or its opposite
abbrev pub turned : {A : Type 0} → Bool → Literal A → Literal A
turned true l = negation_of l
turned false l = l
