-- The let and the term that a closing step equates.
use Rattle.std.proofs.Common.{◌≡◌, ◌↔◌, ℕ, List, [], ◌∷◌, Option, Some, None, IfSome, IfNone, true, false, sym, ◌∙◌, ap, subst}
use Rattle.std.specs.Option.{is_some}
use Rattle.sym_table.specs.Table.{Table, IsTable}
use Rattle.term_model.specs.Flips.{equality}
use Rattle.term_model.specs.Terms.{Var, Term, let_in, Bindings}
use Rattle.term_model.proofs.Basics.{same_some}
use Rattle.term_pool.specs.Building.{IsAppliedLeaf}
use Rattle.term_pool.specs.Reading.{arguments_of, IsLet, IsLetTerm}
use Rattle.term_pool.specs.Views.{TermsView, RefersTo}
use Rattle.term_pool.proofs.Leaves.{let_is}
use Rattle.rule_model.specs.Proofs.{ProofItems}
use Rattle.rule_model.specs.Reading.{clause_at, last_inside_at}
use Rattle.rule_model.proofs.ArgumentLists.{same_sides}
use Rattle.rules_subproof.specs.Lets.{IsUnitOf, EquatesLet, IsLetEquated}

pub none_holds : {P : Type 0} (o : Option ℕ) → is_some o ≡ false → IfNone o P → P
none_holds None e h = h
none_holds (Some k) e h = absurd cc

module _ (s : Table) (v : TermsView) (p : ℕ × ℕ) where
  pub is_let_term : (ts : List Term) → IsUnitOf s v p ts → ((t : Term) → RefersTo s v p.0 t → IsLet t) → IsLetTerm v p.0
  is_let_term ts unit lets =
      let is = let_is unit.left (lets unit.left unit.left_refers) in
      record { symbols = s; bindings = is.0; body = is.1; refers = subst (RefersTo s v p.0) is.2 unit.left_refers }

  -- an application is no let
  pub no_application : (o : Option ℕ) → is_some o ≡ true → IfSome o (λ k. (s : Table) (t : Term) → IsTable s → RefersTo s v p.0 t → IsAppliedLeaf s k (arguments_of t) t) → IsTable s → (bs : Bindings) (u : Term) → ¬ RefersTo s v p.0 (let_in bs u)
  no_application None some is table bs u refers = absurd cc
  no_application (Some k) some is table bs u refers = is s (let_in bs u) table refers

module _ (of : ProofItems Var Term) (i k : ℕ) where
  module _ (last : ℕ) (is_last : last_inside_at of k ≡ Some last) where
    pub inner_clause : (bs : Bindings) (t u : Term) → EquatesLet of i k bs t u → clause_at of last ≡ equality t u ∷ []
    inner_clause bs t u h =
        ap (clause_at of) (same_some (sym is_last ∙ h.ends.is_last)) ∙ h.ends.clause_is

    module _ (s : Table) (v : TermsView) (equal : (p q : ℕ) (t u : Term) → RefersTo s v p t → RefersTo s v q u → (p ≡ q) ↔ (t ≡ u)) (p q : ℕ × ℕ) (unit : IsUnitOf s v p (clause_at of i)) (inner : IsUnitOf s v q (clause_at of last)) where
      pub let_refers : (bs : Bindings) (t u : Term) → EquatesLet of i k bs t u → RefersTo s v p.0 (let_in bs t)
      let_refers bs t u h =
          subst (RefersTo s v p.0) (same_sides _ _ _ _ (sym unit.is ∙ h.clause)).0 unit.left_refers

      pub right_same : (bs : Bindings) (t u : Term) → EquatesLet of i k bs t u → p.1 ≡ q.1
      right_same bs t u h =
          let own = (same_sides _ _ _ _ (sym unit.is ∙ h.clause)).1 in
          let its = (same_sides _ _ _ _ (sym inner.is ∙ inner_clause bs t u h)).1 in
          (equal p.1 q.1 unit.right inner.right unit.right_refers inner.right_refers).1 (own ∙ sym its)

      module _ (body : ℕ) (body_refers : (bs : Bindings) (u : Term) → RefersTo s v p.0 (let_in bs u) → RefersTo s v body u) where
        pub body_same : (bs : Bindings) (t u : Term) → EquatesLet of i k bs t u → body ≡ q.0
        body_same bs t u h =
            let its = (same_sides _ _ _ _ (sym inner.is ∙ inner_clause bs t u h)).0 in
            (equal body q.0 t inner.left (body_refers bs t (let_refers bs t u h)) inner.left_refers).1 (sym its)

        pub let_found : ((t : Term) → RefersTo s v p.0 t → IsLet t) → body ≡ q.0 → p.1 ≡ q.1 → IsLetEquated s v of i k p
        let_found lets e f =
            let is = let_is unit.left (lets unit.left unit.left_refers) in
            let refers : RefersTo s v p.0 (let_in is.0 is.1) = subst (RefersTo s v p.0) is.2 unit.left_refers in
            let left : is.1 ≡ inner.left = (equal body q.0 is.1 inner.left (body_refers is.0 is.1 refers) inner.left_refers).0 e in
            let right : unit.right ≡ inner.right = (equal p.1 q.1 unit.right inner.right unit.right_refers inner.right_refers).0 f in
            record {
              bindings = is.0;
              body = is.1;
              result = unit.right;
              equates = record {
                clause = unit.is ∙ ap (λ t. equality t unit.right ∷ []) is.2;
                ends = record {
                  last = last;
                  is_last = is_last;
                  clause_is = inner.is ∙ (ap (λ t. equality t inner.right ∷ []) (sym left) ∙ ap (λ u. equality is.1 u ∷ []) (sym right));
                };
              };
              let_refers = refers;
              result_refers = unit.right_refers;
            }
