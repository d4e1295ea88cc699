-- Private. Clauses that applications of one head give, and what they owe.
use Rattle.std.specs.Prelude.{◌≡◌, ◌≢◌, ◌⊎◌, ◌≤◌, ◌+◌, ◌*◌, ◌++◌, ℕ, Bool, true, false, List, [], ◌∷◌, length, Contains}
use Rattle.std.specs.List.{AllZip}
use Rattle.term_model.specs.declared.symbols.Sort.{Sort}
use Rattle.term_model.specs.Flips.{equality}
use Rattle.term_model.specs.Terms.{Term, not_of}
use Rattle.term_pool.specs.Reading.{arguments_of}
use Rattle.term_pool.specs.Views.{TermsView, RefersTo}
use Rattle.proof_store.specs.AddedSteps.{AddedStep}
use Rattle.proof_store.specs.declared.added.Link.{Link}
use Rattle.rule_model.specs.Congruence.{denials}
use Rattle.rule_model.specs.declared.rules.Rule.{Rule}
use Rattle.equality_steps.specs.declared.site.Site.{Site}
use Rattle.equality_steps.specs.Links.{LinkSays}
use Rattle.equality_steps.specs.Sites.{AreSides, IsSideAt}
use Rattle.equality_ways.specs.Sides.{ReferToBoth}
use Rattle.flip_steps.specs.Memory.{count_of}
use Rattle.flip_steps.specs.Subterms.{IsWithin}
use Rattle.equality_blocks.specs.Commands.{clause_of_command, rule_of_command}
use Rattle.equality_blocks.specs.Pairs.{AreMatched, ArePaired}
use Rattle.equality_ways.specs.declared.table.Table.{Table}
use Rattle.elab_denials.specs.declared.matching.Match.{Match}
use Rattle.elab_denials.specs.declared.work.Work.{Work}
use Rattle.elab_denials.specs.Matching.{AreAppliedTo, left_of, right_of}
use Rattle.elab_denials.specs.Owing.{AreRepairable}
use Rattle.elab_denials.specs.Walking.{IsEqualityGiven}
use Rattle.elab_denials.specs.Working.{IsPlaceAt}

-- Applications of one head, which the command pairs, and so it does their arguments at each place, the pairs.
pub record AreStated (p : Site) (v : TermsView) (a b : ℕ) (pairs : List (ℕ × ℕ)) : Type 0 where
  pub are_applied : AreAppliedTo p v a b pairs
  pub places : (q : ℕ × ℕ) → Contains pairs q → IsPlaceAt p v q.0 q.1
  pub sides : AreSides p (left_of are_applied.head are_applied.es) (right_of are_applied.head are_applied.es)
  pub paired : ArePaired p v (left_of are_applied.head are_applied.es) (right_of are_applied.head are_applied.es)

pub record HaveStated (p : Site) (v : TermsView) (a b : ℕ) : Type 0 where
  pub pairs : List (ℕ × ℕ)
  pub stated : AreStated p v a b pairs

-- `(= one two)` and `(= three four)`, which the command matches; it pairs two with three and one with four, the pairs.
pub record AreTurnable (p : Site) (v : TermsView) (a b : ℕ) (pairs : List (ℕ × ℕ)) : Type 0 where
  pub one : Term
  pub two : Term
  pub three : Term
  pub four : Term
  pub left_refers : RefersTo p.symbols.now v a (equality one two)
  pub right_refers : RefersTo p.symbols.now v b (equality three four)
  pub inner : ℕ × ℕ
  pub outer : ℕ × ℕ
  pub two_refers : RefersTo p.symbols.now v inner.0 two
  pub three_refers : RefersTo p.symbols.now v inner.1 three
  pub one_refers : RefersTo p.symbols.now v outer.0 one
  pub four_refers : RefersTo p.symbols.now v outer.1 four
  pub pairs_are : pairs ≡ inner ∷ outer ∷ []
  pub places : (q : ℕ × ℕ) → Contains pairs q → IsPlaceAt p v q.0 q.1
  pub left_sides : AreSides p one two
  pub right_sides : AreSides p three four
  pub paired : ArePaired p v (equality one two) (equality three four)
  pub matched : AreMatched p v (equality one two) (equality three four)
  pub apart : one ≢ two

-- The link says `(not (= t u))` for each of the pairs, and then these literals.
pub record SaysWith (p : Site) (v : TermsView) (steps : List AddedStep) (link : Link) (pairs : List (ℕ × ℕ)) (rest : List Term) : Type 0 where
  pub es : List (Term × Term)
  pub refer : AllZip (ReferToBoth p.symbols.now v) pairs es
  pub says : LinkSays p v steps link (denials es ++ rest)

-- the references stand for the two sides of an equality, and for the equality, which the command pairs with the same turned round
pub record IsExchangeable (p : Site) (v : TermsView) (whole : ℕ) (q : ℕ × ℕ) : Type 0 where
  pub one : Term
  pub two : Term
  pub one_refers : RefersTo p.symbols.now v q.0 one
  pub two_refers : RefersTo p.symbols.now v q.1 two
  pub whole_refers : RefersTo p.symbols.now v whole (equality one two)
  pub sides : AreSides p one two
  pub paired : ArePaired p v (equality one two) (equality two one)

-- The references stand for three terms of one sort, of which the first two differ; the command pairs each two of them.
pub record IsMadeWay (p : Site) (v : TermsView) (a b c : ℕ) : Type 0 where
  pub sort : Sort
  pub one : Term
  pub two : Term
  pub three : Term
  pub one_refers : RefersTo p.symbols.now v a one
  pub two_refers : RefersTo p.symbols.now v b two
  pub three_refers : RefersTo p.symbols.now v c three
  pub one_fits : IsSideAt p sort one
  pub two_fits : IsSideAt p sort two
  pub three_fits : IsSideAt p sort three
  pub first : ArePaired p v one two
  pub second : ArePaired p v two three
  pub whole : ArePaired p v one three
  pub apart : one ≢ two

-- the link says a clause in which `(not (= t u))` is, and beside it `(= s u)` alone
pub record SaysLed (p : Site) (v : TermsView) (steps : List AddedStep) (link : Link) (s t u : Term) : Type 0 where
  pub clause : List Term
  pub says : LinkSays p v steps link clause
  pub has : Contains clause (not_of (equality t u))
  pub each : (x : Term) → Contains clause x → (x ≡ not_of (equality t u)) ⊎ (x ≡ equality s u)

-- place by place, or crosswise
abbrev pub AreReadyBy : Site → TermsView → ℕ → ℕ → List (ℕ × ℕ) → Bool → Type 0
AreReadyBy p v a b pairs true = AreTurnable p v a b pairs
AreReadyBy p v a b pairs false = AreStated p v a b pairs

-- The command's clause has `(= a b)` of two applications that are matched.
pub record IsToEquate (p : Site) (v : TermsView) (m : Match) : Type 0 where
  pub given : IsEqualityGiven p v (m.left, m.right)
  pub ready : AreReadyBy p v m.left m.right m.pairs.items m.crossed

-- so many are at most three more than the arguments of a term that stands in the command's clause, outside lets
pub record IsNarrow (p : Site) (v : TermsView) (n : ℕ) : Type 0 where
  pub root : ℕ
  pub among : Contains (clause_of_command p) root
  pub whole : Term
  pub refers : RefersTo p.symbols.now v root whole
  pub term : Term
  pub within : IsWithin whole term
  pub few : n ≤ length (arguments_of term) + 3

-- what steps begin with, and what they owe
pub record IsBegun (p : Site) (v : TermsView) (table : Table) (m : Match) : Type 0 where
  pub repairable : AreRepairable p v table m.pairs.items
  pub equate : IsToEquate p v m
  pub narrow : IsNarrow p v (length m.pairs.items)

-- the rules whose clauses say that applications are equal, or one predicate gives another, where arguments are equal
abbrev pub IsByCongruence : Site → Type 0
IsByCongruence p = (rule_of_command p ≡ Rule.EqCongruent) ⊎ (rule_of_command p ≡ Rule.EqCongruentPred)

-- there are so many steps at most: three for each form, four for each of some places, and five
pub record AreFewSteps (p : Site) (v : TermsView) (w : Work) : Type 0 where
  pub places : ℕ
  pub narrow : IsNarrow p v places
  pub bound : length w.block ≤ 3 * count_of w.forms + 4 * places + 5
