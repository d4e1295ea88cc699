-- Cited by crates above. What terms and negated literals say as comparisons.
use Rattle.std.proofs.Common.{◌≡◌, ◌≢◌, ◌↔◌, ℕ, zero, suc, ◌%◌, ◌<◌, List, [], ◌∷◌, length, Bool, true, false, not, IsTrue, Option, Some, None, refl, sym, ap, ◌∙◌, subst, arith}
use Rattle.std.specs.List.{slice_get}
use Rattle.std.proofs.lemmas.List.Elements.{All-head, All-tail}
use Rattle.sort_check.proofs.Leaves.{there, at_leaf, operator_leaf}
use Rattle.std.proofs.lemmas.Option.{slice_get_within}
use Rattle.sym_table.specs.Leaf.{operator, numeral, kind_of}
use Rattle.sym_table.specs.Table.{Table, IsLeaf, LeafMeets}
use Rattle.sym_table.specs.declared.kind.Kind.{Kind}
use Rattle.sort_check.specs.WellSorted.{IsWellSortedTerm}
use Rattle.term_model.specs.declared.symbols.Op.{Op}
use Rattle.term_model.specs.declared.symbols.Sort.{Sort}
use Rattle.term_model.specs.Sorts.{IsOf, AreOf, IsWellSorted, application_sort, at_least, when}
use Rattle.term_model.specs.Terms as term
use Rattle.term_model.specs.Terms.{Term, Terms, operation, no_terms, not_of}
use Rattle.term_model.proofs.Sorting.{operation_parts, operation_application, one_sort}
use Rattle.term_pool.specs.Building.{IsAppliedLeaf}
use Rattle.term_pool.specs.Nots.{negated}
use Rattle.term_pool.specs.Reading.{arguments_of, IsLet}
use Rattle.term_pool.specs.Views.{TermsView, RefersTo}
use Rattle.term_parts.specs.Parts.{IsOver}
use Rattle.term_parts.proofs.PartLemmas.{over_two}
use Rattle.rule_model.specs.Arith.{Relation, exceeds, reaches, equals, Comparison, if_true, if_false, denial}
use Rattle.linear_lines.specs.declared.comparisons as code
use Rattle.linear_lines.specs.Comparisons.{IsOfNumbers}
use Rattle.linear_lines.specs.ComparisonReads.{said_by, IsComparisonRead, IsFound}
use Rattle.linear_lines.specs.Operands.{AreOperands, orders}

-- what a literal's negation says is what the term behind its `not`s says
bare_denial : (u : Term) → ((w : Term) → u ≡ not_of w → ⊥) → denial u ≡ if_false u
bare_denial (operation Op.Not (term.term w no_terms)) bare = absurd (bare w refl)
bare_denial (operation Op.Not no_terms) bare = refl
bare_denial (operation Op.Not (term.term (operation Op.Not no_terms) (term.term x ts))) bare = refl
bare_denial (operation Op.Not (term.term (operation Op.Not (term.term y no_terms)) (term.term x ts))) bare = refl
bare_denial (operation Op.Not (term.term (operation Op.Not (term.term y (term.term z us))) (term.term x ts))) bare = refl
bare_denial _ bare = refl

odd_denial : (u : Term) → ((w : Term) → u ≡ not_of w → ⊥) → denial (not_of u) ≡ if_true u
odd_denial (operation Op.Not (term.term w no_terms)) bare = absurd (bare w refl)
odd_denial (operation Op.Not no_terms) bare = refl
odd_denial (operation Op.Not (term.term w (term.term x ts))) bare = refl
odd_denial _ bare = refl

pub denied_is : (n : ℕ) (u : Term) (odd : Bool) → ((w : Term) → u ≡ not_of w → ⊥) → IsTrue odd ↔ (n % 2 ≡ 1) → denial (negated n u) ≡ said_by odd u
denied_is zero u true bare parity = absurd (let e = parity.0 refl in omega (arith, e))
denied_is zero u false bare parity = bare_denial u bare
denied_is (suc zero) u true bare parity = odd_denial u bare
denied_is (suc zero) u false bare parity = absurd (let e = parity.1 refl in cc)
denied_is (suc (suc n)) u odd bare parity =
    denied_is n u odd bare (λ t. (let e = parity.0 t in omega (arith, e)), λ e. parity.1 (omega (arith, e)))

-- one `not` more
pub other_parity : (n : ℕ) (odd : Bool) → IsTrue odd ↔ (n % 2 ≡ 1) → IsTrue (not odd) ↔ (suc n % 2 ≡ 1)
other_parity n true parity = let e = parity.0 refl in (λ h. absurd cc, λ h. absurd (omega (arith, e, h)))
other_parity n false parity = (λ h. even n (λ e. absurd (let f = parity.1 e in cc)), λ h. refl)
  where
    even : (k : ℕ) → (k % 2 ≡ 1 → ⊥) → suc k % 2 ≡ 1
    even k other = omega (arith, other)

-- what stands in a well-sorted term is well sorted
under_not : (u : Term) → IsWellSorted (not_of u) → IsWellSorted u
under_not u h = All-head IsWellSorted u [] (operation_parts Op.Not (term.term u no_terms) h.sort h.of)

pub under_nots : (n : ℕ) (u : Term) → IsWellSorted (negated n u) → IsWellSorted u
under_nots zero u h = h
under_nots (suc n) u h = under_nots n u (under_not (negated n u) h)

-- a reference that is known to stand for a well-sorted term stands for no other
pub same_sorted : (s : Table) (v : TermsView) (r : ℕ) (t : Term) → ((p q : ℕ) (x y : Term) → RefersTo s v p x → RefersTo s v q y → (p ≡ q) ↔ (x ≡ y)) → IsWellSortedTerm s v r → RefersTo s v r t → IsWellSorted t
same_sorted s v r t law h refers = subst IsWellSorted ((law r r h.means t h.refers refers).0 refl) h.sorted

pub both_sorted : (op : Op) (t u : Term) → IsWellSorted (operation op (term.term t (term.term u no_terms))) → IsWellSorted t × IsWellSorted u
both_sorted op t u h =
    let all = operation_parts op (term.term t (term.term u no_terms)) h.sort h.of in
    (All-head IsWellSorted t (u ∷ []) all, All-head IsWellSorted u [] (All-tail IsWellSorted t (u ∷ []) all))

-- the head of an application to two terms, and of a term that is none
pub head_below : (s : Table) (k : ℕ) (t : Term) → IsAppliedLeaf s k (arguments_of t) t → k < length s.leaves
head_below s k (term.numeral n) app = slice_get_within s.leaves k (numeral _) app.0
head_below s k (term.variable x) app = slice_get_within s.leaves k _ app.0
head_below s k (operation op ts) app = slice_get_within s.leaves k _ app.0
head_below s k (term.call f ts) app = slice_get_within s.leaves k _ app.0
head_below s k (term.let_in bs u) app = absurd app

pub no_operator : (s : Table) (k m n : ℕ) (kind : Kind) (t : Term) → LeafMeets s k (λ l. kind ≡ kind_of m l) → ((op : Op) → kind ≡ Kind.Op op → ⊥) → IsAppliedLeaf s k (arguments_of t) t → (op : Op) → ¬ IsOver op n t
no_operator s k m n kind (operation o ts) meets other app op h = other o (at_leaf s k (operator o) (λ l. kind ≡ kind_of m l) app.0 meets)
no_operator s k m n kind (term.numeral z) meets other app op h = h
no_operator s k m n kind (term.variable x) meets other app op h = h
no_operator s k m n kind (term.call f ts) meets other app op h = h
no_operator s k m n kind (term.let_in bs u) meets other app op h = h

pub operator_is : (s : Table) (k m : ℕ) (op : Op) → LeafMeets s k (λ l. Kind.Op op ≡ kind_of m l) → IsLeaf s k (operator op)
operator_is s k m op meets =
    let x = there s k (λ l. Kind.Op op ≡ kind_of m l) meets in subst (IsLeaf s k) (operator_leaf m op x.0 x.2) x.1

pub other_count : (k n : ℕ) (t : Term) → k ≢ n → ((IsLet t → ⊥) → k ≡ length (arguments_of t)) → (op : Op) → ¬ IsOver op n t
other_count k n (operation o ts) other count op h = other (count (λ i. i) ∙ h.1)
other_count k n (term.numeral z) other count op h = h
other_count k n (term.variable x) other count op h = h
other_count k n (term.call f ts) other count op h = h
other_count k n (term.let_in bs u) other count op h = h

no_two : (t : Term) (truth : Bool) (c : Comparison) → said_by truth t ≡ Some c → (op : Op) × IsOver op 2 t
no_two (operation Op.LessEq (term.term x (term.term y no_terms))) truth c e = (Op.LessEq, (refl, refl))
no_two (operation Op.Less (term.term x (term.term y no_terms))) truth c e = (Op.Less, (refl, refl))
no_two (operation Op.GreaterEq (term.term x (term.term y no_terms))) truth c e = (Op.GreaterEq, (refl, refl))
no_two (operation Op.Greater (term.term x (term.term y no_terms))) truth c e = (Op.Greater, (refl, refl))
no_two (operation Op.Equal (term.term x (term.term y no_terms))) truth c e = (Op.Equal, (refl, refl))
no_two _ true c e = absurd cc
no_two _ false c e = absurd cc

-- a term that is no such application says nothing
pub says_nothing : (s : Table) (v : TermsView) (t : Term) (truth : Bool) → ((op : Op) → ¬ IsOver op 2 t) → IsComparisonRead s v truth t None
says_nothing s v t truth none c e numbers = let two = no_two t truth c e in none two.0 two.1

-- the terms of a comparison are the operands, in this or the other order
numbers_in : (X : Type 0) (d c : Comparison) → Some d ≡ Some c → IsOfNumbers d ↔ X → IsOfNumbers c ↔ X
numbers_in X d c e h = let f : d ≡ c = cc in subst (λ x. IsOfNumbers x ↔ X) f h

in_order : (relation : Relation) (t u : Term) → IsOfNumbers (record { relation = relation; first = t; second = u }) ↔ (IsOf t Sort.Int × IsOf u Sort.Int)
in_order relation t u = (λ h. (h.first, h.second), λ p. record { first = p.0; second = p.1 })

turned : (relation : Relation) (t u : Term) → IsOfNumbers (record { relation = relation; first = u; second = t }) ↔ (IsOf t Sort.Int × IsOf u Sort.Int)
turned relation t u = (λ h. (h.second, h.first), λ p. record { first = p.1; second = p.0 })

numbers_are : (truth : Bool) (op : Op) (t u : Term) (c : Comparison) → said_by truth (operation op (term.term t (term.term u no_terms))) ≡ Some c → IsOfNumbers c ↔ (IsOf t Sort.Int × IsOf u Sort.Int)
numbers_are true Op.LessEq t u c e = numbers_in _ _ c e (turned reaches t u)
numbers_are true Op.Less t u c e = numbers_in _ _ c e (turned exceeds t u)
numbers_are true Op.GreaterEq t u c e = numbers_in _ _ c e (in_order reaches t u)
numbers_are true Op.Greater t u c e = numbers_in _ _ c e (in_order exceeds t u)
numbers_are true Op.Equal t u c e = numbers_in _ _ c e (in_order equals t u)
numbers_are false Op.LessEq t u c e = numbers_in _ _ c e (in_order exceeds t u)
numbers_are false Op.Less t u c e = numbers_in _ _ c e (in_order reaches t u)
numbers_are false Op.GreaterEq t u c e = numbers_in _ _ c e (turned exceeds t u)
numbers_are false Op.Greater t u c e = numbers_in _ _ c e (turned reaches t u)
numbers_are _ _ t u c e = absurd cc

-- the sorts of two terms to which an operator is applied
both_int : (a b s : Sort) → when (at_least 2 Sort.Int (a ∷ b ∷ [])) Sort.Bool ≡ Some s → (a ≡ Sort.Int) × (b ≡ Sort.Int)
both_int Sort.Int Sort.Int s e = (refl, refl)
both_int Sort.Int Sort.Bool s e = absurd cc
both_int Sort.Int (Sort.Declared n) s e = absurd cc
both_int Sort.Bool b s e = absurd cc
both_int (Sort.Declared n) b s e = absurd cc

equal_int : (b s : Sort) → application_sort Op.Equal (Sort.Int ∷ b ∷ []) ≡ Some s → b ≡ Sort.Int
equal_int Sort.Int s e = refl
equal_int Sort.Bool s e = absurd cc
equal_int (Sort.Declared n) s e = absurd cc

record HaveSorts (op : Op) (t u : Term) : Type 0 where
  one : Sort
  other : Sort
  whole : Sort
  one_of : IsOf t one
  other_of : IsOf u other
  is : application_sort op (one ∷ other ∷ []) ≡ Some whole

have_sorts : (op : Op) (t u : Term) → IsWellSorted (operation op (term.term t (term.term u no_terms))) → HaveSorts op t u
have_sorts op t u h =
    go h.of.sorts h.of.arguments (operation_application op (term.term t (term.term u no_terms)) h.of.sorts h.sort h.of.is)
  where
    go : (ss : List Sort) → AreOf (term.term t (term.term u no_terms)) ss → application_sort op ss ≡ Some h.sort → HaveSorts op t u
    go [] are is = absurd are
    go (a ∷ []) are is = absurd are.1
    go (a ∷ b ∷ []) are is = record { one = a; other = b; whole = h.sort; one_of = are.0; other_of = are.1.0; is = is }
    go (a ∷ b ∷ c ∷ ss) are is = absurd are.1.1

-- the operators of an order have terms of Int
pub first_number : (op : Op) (t u : Term) → orders op ≡ true → IsWellSorted (operation op (term.term t (term.term u no_terms))) → IsOf t Sort.Int
first_number op t u order h =
    let x = have_sorts op t u h in subst (IsOf t) (go op order x.one x.other x.whole x.is) x.one_of
  where
    go : (o : Op) → orders o ≡ true → (a b s : Sort) → application_sort o (a ∷ b ∷ []) ≡ Some s → a ≡ Sort.Int
    go Op.LessEq order a b s is = (both_int a b s is).0
    go Op.Less order a b s is = (both_int a b s is).0
    go Op.GreaterEq order a b s is = (both_int a b s is).0
    go Op.Greater order a b s is = (both_int a b s is).0
    go _ order a b s is = absurd cc

-- the second term of a comparison is of Int where the first is
second_int : (truth : Bool) (op : Op) (t u : Term) (c : Comparison) → said_by truth (operation op (term.term t (term.term u no_terms))) ≡ Some c → (a b s : Sort) → application_sort op (a ∷ b ∷ []) ≡ Some s → a ≡ Sort.Int → b ≡ Sort.Int
second_int truth Op.LessEq t u c e a b s is first = (both_int a b s is).1
second_int truth Op.Less t u c e a b s is first = (both_int a b s is).1
second_int truth Op.GreaterEq t u c e a b s is first = (both_int a b s is).1
second_int truth Op.Greater t u c e a b s is first = (both_int a b s is).1
second_int true Op.Equal t u c e a b s is first = equal_int b s (subst (λ x. application_sort Op.Equal (x ∷ b ∷ []) ≡ Some s) first is)
second_int true _ t u c e a b s is first = absurd cc
second_int false _ t u c e a b s is first = absurd cc

second_number : (truth : Bool) (op : Op) (t u : Term) (c : Comparison) → said_by truth (operation op (term.term t (term.term u no_terms))) ≡ Some c → IsWellSorted (operation op (term.term t (term.term u no_terms))) → IsOf t Sort.Int → IsOf u Sort.Int
second_number truth op t u c e h first =
    let x = have_sorts op t u h in
    subst (IsOf u) (second_int truth op t u c e x.one x.other x.whole x.is (one_sort t x.one Sort.Int x.one_of first)) x.other_of

-- the operands of an application to two terms, and what it says
module _ (s : Table) (v : TermsView) (op : Op) (p : ℕ × ℕ) (t : Term) (are : AreOperands s v op p t) where
  sorted_operands : IsWellSorted t → IsWellSorted are.first × IsWellSorted are.second
  sorted_operands h = both_sorted op are.first are.second (subst IsWellSorted are.is h)

  pub first_sorted : IsWellSorted t → IsWellSortedTerm s v p.0
  first_sorted h = record { means = are.first; refers = are.first_refers; sorted = (sorted_operands h).0 }

  pub second_sorted : IsWellSorted t → IsWellSortedTerm s v p.1
  second_sorted h = record { means = are.second; refers = are.second_refers; sorted = (sorted_operands h).1 }

  module _ (truth : Bool) where
    pub not_found : IsFound s v None (said_by truth (operation op (term.term are.first (term.term are.second no_terms)))) → IsComparisonRead s v truth t None
    not_found found c e numbers = go (said_by truth (operation op (term.term are.first (term.term are.second no_terms)))) found (ap (said_by truth) (sym are.is) ∙ e)
      where
        go : (o : Option Comparison) → IsFound s v None o → o ≡ Some c → ⊥
        go None found f = absurd cc
        go (Some d) found f = found

    pub found_numbers : (found : code.Comparison.Comparison) → IsFound s v (Some found) (said_by truth (operation op (term.term are.first (term.term are.second no_terms)))) → IsWellSorted t → IsOf are.first Sort.Int → IsComparisonRead s v truth t (Some found)
    found_numbers found is sorted first = go (said_by truth (operation op (term.term are.first (term.term are.second no_terms)))) refl is
      where
        go : (o : Option Comparison) → said_by truth (operation op (term.term are.first (term.term are.second no_terms))) ≡ o → IsFound s v (Some found) o → IsComparisonRead s v truth t (Some found)
        go None e is = absurd is
        go (Some c) e is = (c, ap (said_by truth) are.is ∙ e, is, (numbers_are truth op are.first are.second c e).1 (first, second_number truth op are.first are.second c e (subst IsWellSorted are.is sorted) first))

    pub found_others : (IsOf are.first Sort.Int → ⊥) → IsComparisonRead s v truth t None
    found_others other c e numbers =
        other ((numbers_are truth op are.first are.second c (ap (said_by truth) (sym are.is) ∙ e)).0 numbers).0

-- the operands by the arguments
pub operands_are : (s : Table) (v : TermsView) (a b : ℕ) (op : Op) (t : Term) → IsOver op 2 t → ((x : Term) → slice_get (arguments_of t) 0 ≡ Some x → RefersTo s v a x) → ((x : Term) → slice_get (arguments_of t) 1 ≡ Some x → RefersTo s v b x) → AreOperands s v op (a, b) t
operands_are s v a b op t is first second =
    let two = over_two op t is in
    record {
      first = two.0;
      second = two.1;
      first_refers = first two.0 (ap (λ x. slice_get (arguments_of x) 0) two.2);
      second_refers = second two.1 (ap (λ x. slice_get (arguments_of x) 1) two.2);
      is = two.2;
    }
