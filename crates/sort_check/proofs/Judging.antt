-- An application is well sorted exactly where its arguments are and its symbol may be applied to them.
use Rattle.std.proofs.Common.{◌≡◌, ℕ, List, Option, Some, None, IsTrue, IfSome, IfNone, true, refl, sym, ◌∙◌, ap, pos}
use Rattle.term_model.specs.declared.symbols.Sort.{Sort}
use Rattle.term_model.specs.declared.symbols.Op.{Op}
use Rattle.term_model.specs.Terms.{Term, Terms, numeral, variable, operation, call, let_in, list_of, terms_of}
use Rattle.term_model.specs.Sorts.{IsOf, AreOf, IsWellSorted, divides_rightly, application_sort}
use Rattle.term_model.proofs.Sorting.{one_list, operation_divides, operation_application, application_operation}
use Rattle.term_model.proofs.Lists.{terms_of-list_of}
use Rattle.sym_table.specs.Leaf.{Leaf, operator, kind_of}
use Rattle.sym_table.specs.Table.{Table, LeafMeets}
use Rattle.term_pool.specs.StandsFor.{variable_leaf, function_leaf}
use Rattle.term_pool.specs.Building.{IsAppliedLeaf}
use Rattle.sort_check.specs.Applications.{is_head, IsHead, applied_sort}
use Rattle.sym_table.specs.declared.kind.Kind.TheVariants as Kind
use Rattle.sort_check.proofs.Leaves.{meets, there, at_leaf, operator_leaf}

arguments_are : (us : Terms) (ts : List Term) (ss : List Sort) → list_of us ≡ ts → AreOf (terms_of ts) ss → AreOf us ss
arguments_are us ts ss e h =
    let same : terms_of ts ≡ us = ap terms_of (sym e) ∙ terms_of-list_of us in
    let P : Terms → Type 0 = λ x. AreOf x ss in
    go same
  where
    go : terms_of ts ≡ us → AreOf us ss
    go f = let k : AreOf us ss = rw f at h in k

arguments_were : (us : Terms) (ts : List Term) (ss : List Sort) → list_of us ≡ ts → AreOf us ss → AreOf (terms_of ts) ss
arguments_were us ts ss e h =
    let same : us ≡ terms_of ts = sym (terms_of-list_of us) ∙ ap terms_of e in
    let k : AreOf (terms_of ts) ss = rw same at h in k

pub judged : (s : Table) (k : ℕ) (ts : List Term) (t : Term) (ss : List Sort) (sort : Sort) → IsHead s k → AreOf (terms_of ts) ss → IsAppliedLeaf s k ts t → divides_rightly t ≡ true → LeafMeets s k (λ l. applied_sort l ss ≡ Some sort) → IsOf t sort
judged s k ts (numeral n) ss sort h are p d m =
    let no = at_leaf s k (Leaf.numeral (pos n)) (λ l. IsTrue (is_head l)) p.0 h in absurd cc
judged s k ts (variable x) ss sort h are p d m =
    let no = at_leaf s k (variable_leaf x) (λ l. IsTrue (is_head l)) p.0 h in absurd cc
judged s k ts (operation op us) ss sort h are p d m = record {
  sorts = ss;
  arguments = arguments_are us ts ss p.1 are;
  is = application_operation op us ss sort d (at_leaf s k (operator op) (λ l. applied_sort l ss ≡ Some sort) p.0 m);
}
judged s k ts (call f us) ss sort h are p d m = record {
  sorts = ss;
  arguments = arguments_are us ts ss p.1 are;
  is = at_leaf s k (function_leaf f) (λ l. applied_sort l ss ≡ Some sort) p.0 m;
}
judged s k ts (let_in bs u) ss sort h are p d m = absurd p

pub judged_back : (s : Table) (k : ℕ) (ts : List Term) (t : Term) (sort : Sort) → IsHead s k → IsAppliedLeaf s k ts t → IsOf t sort → (ss : List Sort) × AreOf (terms_of ts) ss × LeafMeets s k (λ l. applied_sort l ss ≡ Some sort) × (divides_rightly t ≡ true)
judged_back s k ts (numeral n) sort h p i =
    let no = at_leaf s k (Leaf.numeral (pos n)) (λ l. IsTrue (is_head l)) p.0 h in absurd cc
judged_back s k ts (variable x) sort h p i =
    let no = at_leaf s k (variable_leaf x) (λ l. IsTrue (is_head l)) p.0 h in absurd cc
judged_back s k ts (operation op us) sort h p i = (
  i.sorts,
  arguments_were us ts i.sorts p.1 i.arguments,
  meets s k (operator op) (λ l. applied_sort l i.sorts ≡ Some sort) p.0 (operation_application op us i.sorts sort i.is),
  operation_divides op us i.sorts sort i.is,
)
judged_back s k ts (call f us) sort h p i = (
  i.sorts,
  arguments_were us ts i.sorts p.1 i.arguments,
  meets s k (function_leaf f) (λ l. applied_sort l i.sorts ≡ Some sort) p.0 i.is,
  refl,
)
judged_back s k ts (let_in bs u) sort h p i = absurd p

pub accepted : (s : Table) (k : ℕ) (ss : List Sort) (r : Option Sort) → IsHead s k → LeafMeets s k (λ l. r ≡ applied_sort l ss) → IfSome r (λ sort. (ts : List Term) (t : Term) → AreOf (terms_of ts) ss → IsAppliedLeaf s k ts t → divides_rightly t ≡ true → IsOf t sort)
accepted s k ss None h m = tt
accepted s k ss (Some sort) h m =
    let x = there s k (λ l. Some sort ≡ applied_sort l ss) m in
    λ ts t are p d.
    judged s k ts t ss sort h are p d (meets s k x.0 (λ l. applied_sort l ss ≡ Some sort) x.1 (sym x.2))

no_sort : (s : Table) (k : ℕ) (ss us : List Sort) (sort : Sort) → us ≡ ss → LeafMeets s k (λ l. None ≡ applied_sort l ss) → LeafMeets s k (λ l. applied_sort l us ≡ Some sort) → ⊥
no_sort s k ss us sort e m n =
    let x = there s k (λ l. applied_sort l us ≡ Some sort) n in
    let f = at_leaf s k x.0 (λ l. None ≡ applied_sort l ss) x.1 m in
    let g : applied_sort x.0 us ≡ Some sort = x.2 in
    let d : applied_sort x.0 us ≡ applied_sort x.0 ss = ap (applied_sort x.0) e in
    differ (f ∙ sym d ∙ g)
  where
    differ : None ≡ Some sort → ⊥
    differ e = cc

pub refused : (s : Table) (k : ℕ) (ss : List Sort) (r : Option Sort) → IsHead s k → LeafMeets s k (λ l. r ≡ applied_sort l ss) → IfNone r ((ts : List Term) (t : Term) → AreOf (terms_of ts) ss → IsAppliedLeaf s k ts t → IsWellSorted t → ⊥)
refused s k ss (Some sort) h m = tt
refused s k ss None h m =
    λ ts t are p w.
    let x = judged_back s k ts t w.sort h p w.of in
    no_sort s k ss x.0 w.sort (one_list (terms_of ts) x.0 ss x.1 are) m x.2

-- what the operator's answer says of the leaf
pub operator_sort : (s : Table) (k n : ℕ) (op : Op) (ss : List Sort) (r : Option Sort) → LeafMeets s k (λ l. Kind.Op op ≡ kind_of n l) → r ≡ application_sort op ss → LeafMeets s k (λ l. r ≡ applied_sort l ss)
operator_sort s k n op ss r h e =
    let x = there s k (λ l. Kind.Op op ≡ kind_of n l) h in
    let same : x.0 ≡ operator op = operator_leaf n op x.0 x.2 in
    meets s k x.0 (λ l. r ≡ applied_sort l ss) x.1 (e ∙ sym (ap (λ l. applied_sort l ss) same))
