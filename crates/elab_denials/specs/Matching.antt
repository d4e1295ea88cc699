-- Private. Two applications of one head whose arguments are linked by equalities that a clause denies, by their references.
use Rattle.std.specs.Prelude.{◌≡◌, ◌≢◌, ◌⊎◌, ℕ, Bool, true, false, List, [], ◌∷◌, map, Contains, Option}
use Rattle.std.specs.List.{AllZip}
use Rattle.sym_table.specs.Leaf.{Leaf}
use Rattle.sym_table.specs.Table.{Table}
use Rattle.term_model.specs.Flips.{equality}
use Rattle.term_model.specs.Terms.{Term}
use Rattle.term_pool.specs.Building.{IsAppliedLeaf}
use Rattle.term_pool.specs.Reading.{arguments_of}
use Rattle.term_pool.specs.StandsFor.{function_leaf}
use Rattle.term_pool.specs.Views.{TermsView, RefersTo, ReferToAll}
use Rattle.rule_model.specs.Congruence.{Head, applied, function, operator, IsLinked}
use Rattle.equality_steps.specs.declared.site.Site.{Site}
use Rattle.equality_ways.specs.Sides.{AreSidesOfDenials, ReferToBoth}
use Rattle.equality_ways.specs.declared.table.Table.{Table as WayTable}
use Rattle.equality_ways.specs.Tables.{IsTableOf}
use Rattle.equality_ways.specs.Ways.{AreEnds}
use Rattle.equality_blocks.specs.Commands.{clause_of_command}
use Rattle.elab_denials.specs.declared.matching.Match.{Match}
use Rattle.elab_denials.specs.Walking.{AreGivenDenials}
use Rattle.elab_denials.specs.Working.{AreFlipsAt}

-- the symbol of a head
abbrev pub leaf_of : Head → Leaf
leaf_of (operator op) = Leaf.operator op
leaf_of (function f) = function_leaf f

-- the term is the leaf's symbol, applied to its arguments
abbrev pub HasHead : Table → ℕ → Term → Type 0
HasHead s k t = IsAppliedLeaf s k (arguments_of t) t

-- the table is of the equalities that the command's clause denies
pub record IsGivenTable (p : Site) (v : TermsView) (sides : List (Option (ℕ × ℕ))) (table : WayTable) : Type 0 where
  pub is_table : IsTableOf sides table
  pub denied : AreGivenDenials p v sides
  pub are : (ts : List Term) → ReferToAll p.symbols.now v (clause_of_command p) ts → AreSidesOfDenials p.symbols.now v sides ts

pub record HasGivenTable (p : Site) (v : TermsView) (table : WayTable) : Type 0 where
  pub sides : List (Option (ℕ × ℕ))
  pub given : IsGivenTable p v sides table

-- Two references are the sides of an equality, or stand for terms that are equal up to flips; and each two references of two terms are.
abbrev pub AreLinkedAt : Site → TermsView → List (Option (ℕ × ℕ)) → ℕ → ℕ → Type 0
AreLinkedAt p v sides a b = AreEnds sides a b ⊎ AreFlipsAt p v a b

abbrev pub AreLinkedTerms : Site → TermsView → List (Option (ℕ × ℕ)) → Term → Term → Type 0
AreLinkedTerms p v sides t u = (a b : ℕ) → RefersTo p.symbols.now v a t → RefersTo p.symbols.now v b u → AreLinkedAt p v sides a b

-- what premises link is linked
abbrev pub Links : Site → TermsView → List (Option (ℕ × ℕ)) → List (List Term) → Type 0
Links p v sides premises = (t u : Term) → IsLinked premises t u → AreLinkedTerms p v sides t u

abbrev pub AreLinkedPairs : Site → TermsView → List (Option (ℕ × ℕ)) → List (ℕ × ℕ) → Type 0
AreLinkedPairs p v sides pairs = (q : ℕ × ℕ) → Contains pairs q → AreLinkedAt p v sides q.0 q.1

-- an application to the first ones of some pairs, and to the second ones
abbrev pub left_of : Head → List (Term × Term) → Term
left_of head es = applied head (map (λ (e : Term × Term). e.0) es)

abbrev pub right_of : Head → List (Term × Term) → Term
right_of head es = applied head (map (λ (e : Term × Term). e.1) es)

-- The references stand for applications of one head, and the pairs for their arguments at each place.
pub record AreAppliedTo (p : Site) (v : TermsView) (a b : ℕ) (pairs : List (ℕ × ℕ)) : Type 0 where
  pub head : Head
  pub es : List (Term × Term)
  pub some : es ≢ []
  pub left_refers : RefersTo p.symbols.now v a (left_of head es)
  pub right_refers : RefersTo p.symbols.now v b (right_of head es)
  pub refer : AllZip (ReferToBoth p.symbols.now v) pairs es

-- these are linked
pub record AreStraight (p : Site) (v : TermsView) (sides : List (Option (ℕ × ℕ))) (a b : ℕ) (pairs : List (ℕ × ℕ)) : Type 0 where
  pub are_applied : AreAppliedTo p v a b pairs
  pub linked : AreLinkedPairs p v sides pairs

-- The references stand for `(= one two)` and `(= three four)`; the pairs are of two and three, and of one and four, and are linked.
pub record AreCrosswise (p : Site) (v : TermsView) (sides : List (Option (ℕ × ℕ))) (a b : ℕ) (pairs : List (ℕ × ℕ)) : Type 0 where
  pub one : Term
  pub two : Term
  pub three : Term
  pub four : Term
  pub left_refers : RefersTo p.symbols.now v a (equality one two)
  pub right_refers : RefersTo p.symbols.now v b (equality three four)
  pub inner : ℕ × ℕ
  pub outer : ℕ × ℕ
  pub two_refers : RefersTo p.symbols.now v inner.0 two
  pub three_refers : RefersTo p.symbols.now v inner.1 three
  pub one_refers : RefersTo p.symbols.now v outer.0 one
  pub four_refers : RefersTo p.symbols.now v outer.1 four
  pub pairs_are : pairs ≡ inner ∷ outer ∷ []
  pub linked : AreLinkedPairs p v sides pairs

-- they are so, and one and two are two terms
pub record AreCrossedApart (p : Site) (v : TermsView) (sides : List (Option (ℕ × ℕ))) (a b : ℕ) (pairs : List (ℕ × ℕ)) : Type 0 where
  pub crosswise : AreCrosswise p v sides a b pairs
  pub apart : crosswise.one ≢ crosswise.two

-- linked crosswise, or place by place
abbrev pub AreMatchedBy : Site → TermsView → List (Option (ℕ × ℕ)) → ℕ → ℕ → List (ℕ × ℕ) → Bool → Type 0
AreMatchedBy p v sides a b pairs true = AreCrossedApart p v sides a b pairs
AreMatchedBy p v sides a b pairs false = AreStraight p v sides a b pairs

pub record IsMatchOf (p : Site) (v : TermsView) (sides : List (Option (ℕ × ℕ))) (a b : ℕ) (m : Match) : Type 0 where
  pub left_is : m.left ≡ a
  pub right_is : m.right ≡ b
  pub matched : AreMatchedBy p v sides a b m.pairs.items m.crossed
