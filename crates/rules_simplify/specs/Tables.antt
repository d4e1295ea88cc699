-- Private. The tables of rewrites as parts of patterns.
use Rattle.std.specs.Prelude.{◌≡◌, List, [], ◌∷◌, Bool, true, false, not, ◌&&◌, ◌||◌, IsTrue, Option, Some, None, map, ⊤}
use Rattle.std.specs.List.{AllByRecursion, AllZip}
use Rattle.term_model.specs.declared.symbols.Op.{Op}
use Rattle.rule_model.specs.declared.letter.Letter.{Letter}
use Rattle.rule_model.specs.Patterns.{a, b, c, no, conj, implies, equal}
use Rattle.rule_model.specs.Rewriting.{RewriteRow, Guard, always, truths, one_number, two_numbers, below, at_most}
use Rattle.rule_model.specs.Schemas.{Pattern, letter, nullary, unary, binary, ternary}
use Rattle.rule_model.specs.Simplify.{not_simplify, implies_simplify, equiv_simplify, bool_simplify, ite_simplify, eq_simplify, comp_simplify}
use Rattle.rule_model.specs.TermTests.{op_eq}
use Rattle.schema_match.specs.Matching.{parts_of}
use Rattle.rules_simplify.specs.declared.asked.Asked.{Asked}
use Rattle.rules_simplify.specs.declared.asked.Asked.TheVariants.{Nothing, Truth, Numbers}
use Rattle.rules_simplify.specs.declared.asked.NumberTest.{NumberTest}
use Rattle.rules_simplify.specs.declared.tables.Next.{Next}
use Rattle.rules_simplify.specs.declared.tables.Next.TheVariants.{Ends, Part, Over, OverNegation, Conjoins}
use Rattle.rules_simplify.specs.declared.tables.RowParts.{RowParts}
use Rattle.rules_simplify.specs.declared.tables.Simplification.{Simplification}
use Rattle.rules_simplify.specs.Asking.{letters_asked}

-- the rows of each table
abbrev pub rows_of : Simplification → List RewriteRow
rows_of Simplification.Not = not_simplify
rows_of Simplification.Implies = implies_simplify
rows_of Simplification.Equiv = equiv_simplify
rows_of Simplification.Bool = bool_simplify
rows_of Simplification.Ite = ite_simplify
rows_of Simplification.Equality = eq_simplify
rows_of Simplification.Comparison = comp_simplify

-- the operator of a pattern that is an application to some arguments, and these
abbrev pub root_of : Pattern → Option Op
root_of (letter l) = None
root_of (nullary op) = None
root_of (unary op p) = Some op
root_of (binary op p q) = Some op
root_of (ternary op p q r) = Some op

abbrev pub patterns_in : Pattern → List Pattern
patterns_in (letter l) = []
patterns_in (nullary op) = []
patterns_in (unary op p) = p ∷ []
patterns_in (binary op p q) = p ∷ q ∷ []
patterns_in (ternary op p q r) = p ∷ q ∷ r ∷ []

-- whether a letter stands in a pattern, and whether each letter of one does
abbrev pub same_letter : Letter → Letter → Bool
same_letter Letter.A Letter.A = true
same_letter Letter.B Letter.B = true
same_letter Letter.C Letter.C = true
same_letter Letter.D Letter.D = true
same_letter _ _ = false

abbrev pub has_letter : Letter → Pattern → Bool
has_letter l (letter m) = same_letter l m
has_letter l (nullary op) = false
has_letter l (unary op p) = has_letter l p
has_letter l (binary op p q) = has_letter l p || has_letter l q
has_letter l (ternary op p q r) = has_letter l p || (has_letter l q || has_letter l r)

abbrev pub has_letters_of : Pattern → Pattern → Bool
has_letters_of whole (letter l) = has_letter l whole
has_letters_of whole (nullary op) = true
has_letters_of whole (unary op p) = has_letters_of whole p
has_letters_of whole (binary op p q) = has_letters_of whole p && has_letters_of whole q
has_letters_of whole (ternary op p q r) = has_letters_of whole p && (has_letters_of whole q && has_letters_of whole r)

-- whether two patterns may become one term, each with terms of its own for the letters, as far as their operators tell
abbrev pub may_be : Pattern → Pattern → Bool
may_be (letter l) q = true
may_be (nullary op) (letter m) = true
may_be (nullary op) (nullary o) = op_eq op o
may_be (unary op p) (letter m) = true
may_be (unary op p) (unary o p') = op_eq op o && may_be p p'
may_be (binary op p q) (letter m) = true
may_be (binary op p q) (binary o p' q') = op_eq op o && (may_be p p' && may_be q q')
may_be (ternary op p q r) (letter m) = true
may_be (ternary op p q r) (ternary o p' q' r') = op_eq op o && (may_be p p' && (may_be q q' && may_be r r'))
may_be _ _ = false

-- whether what a pattern becomes fits no row, as far as operators tell
abbrev pub is_last : List RewriteRow → Pattern → Bool
is_last [] p = true
is_last (row ∷ rows) p = not (may_be row.left p) && is_last rows p

-- what is said of a row's right side: it fits no row, or is a letter, or is an operator over letters; the last two are of
-- bool_simplify alone
abbrev pub SaysNext : List RewriteRow → Pattern → Next → Type 0
SaysNext rows right Ends = IsTrue (is_last rows right)
SaysNext rows right (Part l) = right ≡ letter l
SaysNext rows right (Over op ls) = (root_of right ≡ Some op) × (patterns_in right ≡ map letter ls.now)
SaysNext rows right OverNegation = (rows ≡ bool_simplify) × (right ≡ conj a (no b))
SaysNext rows right Conjoins = (rows ≡ bool_simplify) × (right ≡ implies (conj a b) c)

-- whether what a pattern becomes is of Bool by its form
abbrev pub is_of_bool : Pattern → Bool
is_of_bool (nullary Op.True) = true
is_of_bool (nullary Op.False) = true
is_of_bool (unary Op.Not p) = true
is_of_bool p = false

-- What is asked of the letters is what the guard asks of a left side that is well sorted: the sides of an equality are of
-- one sort, so both are of Bool where one is.
abbrev pub IsAskedBy : Pattern → Guard → Asked → Type 0
IsAskedBy left always Nothing = ⊤
IsAskedBy left (truths p q) Nothing = (left ≡ equal p q) × IsTrue (is_of_bool p || is_of_bool q)
IsAskedBy left (truths p q) (Truth l) = (left ≡ equal p q) × (p ≡ letter l)
IsAskedBy left (one_number p q) (Numbers NumberTest.Equal l m) = (p ≡ letter l) × (q ≡ letter m)
IsAskedBy left (two_numbers p q) (Numbers NumberTest.Different l m) = (p ≡ letter l) × (q ≡ letter m)
IsAskedBy left (below p q) (Numbers NumberTest.Below l m) = (p ≡ letter l) × (q ≡ letter m)
IsAskedBy left (at_most p q) (Numbers NumberTest.AtMost l m) = (p ≡ letter l) × (q ≡ letter m)
IsAskedBy left guard asked = ⊥

-- the same of letters that the left side has
abbrev pub IsAsked : Pattern → Guard → Asked → Type 0
IsAsked left guard asked = IsAskedBy left guard asked × AllByRecursion (λ l. IsTrue (has_letter l left)) (letters_asked asked)

-- the parts of a row of a table: its left side is an application that has the right side's letters
abbrev pub IsRow : List RewriteRow → RewriteRow → RowParts → Type 0
IsRow rows row parts =
    (root_of row.left ≡ Some parts.op)
    × (parts.left.now ≡ parts_of (patterns_in row.left))
    × (parts.both.now ≡ parts_of (row.right ∷ patterns_in row.left))
    × IsAsked row.left row.guard parts.asked
    × IsTrue (has_letters_of row.left row.right)
    × SaysNext rows row.right parts.next

abbrev pub AreRows : List RewriteRow → List RowParts → Type 0
AreRows rows parts = AllZip (IsRow rows) rows parts

-- the parts of some row of some table
pub record IsSomeRow (parts : RowParts) : Type 0 where
  pub rows : List RewriteRow
  pub row : RewriteRow
  pub is : IsRow rows row parts
