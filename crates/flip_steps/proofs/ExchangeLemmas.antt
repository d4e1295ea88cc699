-- Private. Equalities with exchanged sides may stand as the sides of an eq_symmetric.
use Rattle.std.proofs.Common.{◌≡◌, inl, inr, ℕ, sym, subst}
use Rattle.pair_pool.specs.Views.{IsOneToOne}
use Rattle.rule_model.specs.Clausal.{as_it_stands}
use Rattle.sym_table.specs.Table.{IsTable}
use Rattle.term_model.specs.Flips.{equality}
use Rattle.term_model.specs.Terms.{Term}
use Rattle.term_parts.specs.Parts.{AreSidesOf}
use Rattle.term_pool.specs.Views.{TermsView, RefersTo}
use Rattle.term_pool.proofs.TermLemmas.{equal_where}
use Rattle.equality_steps.specs.Given.{AreTurned}
use Rattle.equality_steps.specs.Sites.{AreSidesAt, IsSideAt}
use Rattle.equality_steps.specs.declared.site.Site.{Site}
use Rattle.flip_steps.proofs.EquateLemmas.{sides_sorted}

module _ (p : Site) (v : TermsView) (table : IsTable p.symbols.now) (one : IsOneToOne v.pass) (a b : ℕ) (h : AreSidesAt p v a b)
    (first second : ℕ × ℕ) (k : AreSidesOf p.symbols.now v as_it_stands first h.left) (l : AreSidesOf p.symbols.now v as_it_stands second h.right)
    (outer : first.0 ≡ second.1) (inner : first.1 ≡ second.0) where
  left_same : k.left ≡ l.right
  left_same = (equal_where p.symbols.now v table one first.0 second.1 k.left l.right k.left_refers l.right_refers).0 outer

  right_same : k.right ≡ l.left
  right_same = (equal_where p.symbols.now v table one first.1 second.0 k.right l.left k.right_refers l.left_refers).0 inner

  side : IsSideAt p h.sides.sort (equality k.left k.right)
  side = subst (IsSideAt p h.sides.sort) k.is h.sides.left

  turned_is : h.right ≡ equality k.right k.left
  turned_is = subst (λ t. h.right ≡ equality k.right t) (sym left_same) (subst (λ t. h.right ≡ equality t l.right) (sym right_same) l.is)

  pub turned_of : AreTurned p v a b
  turned_of =
      let sorts = sides_sorted k.left k.right h.sides.sort side.0 in
      record {
        left = k.left;
        right = k.right;
        whole_refers = subst (RefersTo p.symbols.now v a) k.is h.left_refers;
        turned_refers = subst (RefersTo p.symbols.now v b) turned_is h.right_refers;
        sides = record {
          sort = sorts.sort;
          left = (sorts.left, λ y free. side.1 y (inl free));
          right = (sorts.right, λ y free. side.1 y (inr (inl free)));
        };
      }
