-- Private. The sides of the clause of a cong, as they are read.
use Rattle.std.proofs.Common.{◌≡◌, ◌≢◌, ◌<◌, ℕ, List, [], ◌∷◌, length, get_or, Option, Some, IsSome, IfSome, IfNone, refl, sym, ◌∙◌, ap, subst, arith}
use Rattle.pair_pool.specs.Views.{IsKnown}
use Rattle.term_model.specs.Flips.{equality}
use Rattle.term_model.specs.Terms.{Term}
use Rattle.term_parts.specs.Parts.{AreSidesOf}
use Rattle.term_pool.specs.Reading.{IsLet, arguments_of}
use Rattle.term_pool.specs.Views.{TermsView, RefersTo, ReferToAll}
use Rattle.rule_model.specs.Clausal.{as_it_stands}
use Rattle.rule_model.specs.Congruence.{Head, applied, function, operator}
use Rattle.equality_steps.specs.declared.site.Site.{Site}
use Rattle.equality_blocks.specs.Commands.{clause_of_command}
use Rattle.flip_steps.proofs.Results.{some_where, was_some}
use Rattle.elab_equality.specs.declared.matching.Applications.{Applications}
use Rattle.elab_equality.specs.Matching.{AreApplications}
use Rattle.elab_equality.proofs.ApplicationLemmas.{arguments_are}
use Rattle.elab_equality.proofs.CongruenceLemmas.{IsCongruence}

applied_no_let : (head : Head) (ts : List Term) → IsLet (applied head ts) → ⊥
applied_no_let (operator op) ts h = h
applied_no_let (function f) ts h = h

same_left : (t u x y : Term) → equality t u ≡ equality x y → t ≡ x
same_left t u x y e = cc

same_right : (t u x y : Term) → equality t u ≡ equality x y → u ≡ y
same_right t u x y e = cc

-- the clause is the equality of two terms
pub record IsEquation (p : Site) (v : TermsView) (l u : Term) : Type 0 where
  pub root : ℕ
  pub clause : clause_of_command p ≡ root ∷ []
  pub refers : RefersTo p.symbols.now v root (equality l u)

pub equation_of : (p : Site) (v : TermsView) (k : IsCongruence p v) → IsEquation p v (applied k.head k.ts) (applied k.head k.us)
equation_of p v k = record { root = k.root; clause = k.clause; refers = k.refers }

-- its literal
module _ (p : Site) (v : TermsView) (l u : Term) (e : IsEquation p v l u) (rs : List ℕ) (is : rs ≡ clause_of_command p) where
  pub literal_below : 0 < length rs
  literal_below = let long = ap length (is ∙ e.clause) in omega (arith, long)

  module _ (r : ℕ) (first : r ≡ get_or rs 0 r) where
    pub literal_refers : RefersTo p.symbols.now v r (equality l u)
    literal_refers = subst (λ q. RefersTo p.symbols.now v q (equality l u)) (sym (first ∙ ap (λ xs. get_or xs 0 r) (is ∙ e.clause))) e.refers

    pub literal_sides : (o : Option (ℕ × ℕ)) → IfNone o ((t x y : Term) → RefersTo p.symbols.now v r t → t ≢ equality x y) → IsSome o
    literal_sides o none = some_where o _ none (λ f. f (equality l u) l u literal_refers refl)

    pub sides_found : (o : Option (ℕ × ℕ)) (q : ℕ × ℕ) → o ≡ Some q
        → IfSome o (λ x. (t : Term) → RefersTo p.symbols.now v r t → AreSidesOf p.symbols.now v as_it_stands x t) → AreSidesOf p.symbols.now v as_it_stands q (equality l u)
    sides_found o q there h =
        was_some o q (λ x. (t : Term) → RefersTo p.symbols.now v r t → AreSidesOf p.symbols.now v as_it_stands x t) there h (equality l u) literal_refers

-- what the sides stand for
pub left_refers : (p : Site) (v : TermsView) (l u : Term) (q : ℕ × ℕ) → AreSidesOf p.symbols.now v as_it_stands q (equality l u) → RefersTo p.symbols.now v q.0 l
left_refers p v l u q h = subst (RefersTo p.symbols.now v q.0) (sym (same_left l u h.left h.right h.is)) h.left_refers

pub right_refers : (p : Site) (v : TermsView) (l u : Term) (q : ℕ × ℕ) → AreSidesOf p.symbols.now v as_it_stands q (equality l u) → RefersTo p.symbols.now v q.1 u
right_refers p v l u q h = subst (RefersTo p.symbols.now v q.1) (sym (same_right l u h.left h.right h.is)) h.right_refers

-- what stands for a term is known
pub known_where : (p : Site) (v : TermsView) (r : ℕ) (t : Term) → RefersTo p.symbols.now v r t → IsKnown v.pass r
known_where p v r t h = record { tree = h.tree; stands = h.known }

-- the sides of the clause of a cong
module _ (p : Site) (v : TermsView) (k : IsCongruence p v) (q : ℕ × ℕ) (left_is : RefersTo p.symbols.now v q.0 (applied k.head k.ts))
    (right_is : RefersTo p.symbols.now v q.1 (applied k.head k.us)) where
  pub read_of : (x : Applications) → x.left ≡ q.0 → x.right ≡ q.1
      → ((t : Term) → RefersTo p.symbols.now v q.0 t → (IsLet t → ⊥) → ReferToAll p.symbols.now v x.lefts.items (arguments_of t))
      → ((t : Term) → RefersTo p.symbols.now v q.1 t → (IsLet t → ⊥) → ReferToAll p.symbols.now v x.rights.items (arguments_of t)) → AreApplications p v x
  read_of x left right lefts rights = record {
    literal = k.root;
    clause = k.clause;
    linked = record {
      premises = k.premises;
      are = k.are;
      head = k.head;
      ts = k.ts;
      us = k.us;
      lefts_refer = subst (ReferToAll p.symbols.now v x.lefts.items) (arguments_are k.head k.ts)
          (lefts (applied k.head k.ts) left_is (applied_no_let k.head k.ts));
      rights_refer = subst (ReferToAll p.symbols.now v x.rights.items) (arguments_are k.head k.us)
          (rights (applied k.head k.us) right_is (applied_no_let k.head k.us));
      linked = k.linked;
    };
    some = k.some;
    literal_refers = k.refers;
    left_refers = subst (λ r. RefersTo p.symbols.now v r (applied k.head k.ts)) (sym left) left_is;
    right_refers = subst (λ r. RefersTo p.symbols.now v r (applied k.head k.us)) (sym right) right_is;
  }
