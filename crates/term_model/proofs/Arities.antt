-- The arguments that each operator may be applied to.
use Rattle.std.proofs.Common.{◌≡◌, ℕ, ◌≤◌, nat_le, length, List, [], ◌∷◌, Bool, true, false, ◌&&◌, ◌⊎◌, ◌↔◌, Some, All, Decides, inl, inr, refl, sym, ap, ◌∙◌, arith}
use Rattle.std.specs.List.{list_all}
use Rattle.std.proofs.lemmas.Bool.Decides.{Decides-and, Decides-by_and, Decides-like, nat_tests}
use Rattle.std.proofs.lemmas.List.Elements.{All-cons, All-head, All-tail}
use Rattle.term_model.specs.declared.symbols.Sort.{Sort}
use Rattle.term_model.specs.declared.symbols.Op.{Op}
use Rattle.term_model.specs.Terms.{Fun, sort_eq}
use Rattle.term_model.specs.Sorts.{when, sorts_eq, at_least, of_one_sort, choice_sort, application_sort, call_sort}
use Rattle.term_model.specs.Arities.{AtLeast, AreAlike}
use Rattle.term_model.proofs.Tests.{sort_eq_decides, sorts_eq_decides}

-- a test that returns a sort returns it exactly where the fact holds that the test decides
pub when_decides : {P : Type 0} (b : Bool) (s u : Sort) → Decides b P → (when b s ≡ Some u) ↔ (P × (u ≡ s))
when_decides true s u d = (λ e. (d.0 refl, cc), λ h. ap Some (sym h.1))
when_decides false s u d = (λ e. absurd cc, λ h. absurd (let e = d.1 h.0 in cc))

pub nat_le_decides : (m n : ℕ) → Decides (nat_le m n) (m ≤ n)
nat_le_decides m n = (λ e. grind (arith, nat_tests), λ h. grind (arith, nat_tests))

pub list_all_decides : (s : Sort) (ss : List Sort) → Decides (list_all (sort_eq s) ss) (All (λ a. a ≡ s) ss)
list_all_decides s ss =
    Decides-by_and (sort_eq s) (λ a. a ≡ s) (list_all (sort_eq s))
    (λ a. Decides-like (sort_eq s a) sym sym (sort_eq_decides s a)) refl (λ _ _. refl) ss

pub at_least_decides : (n : ℕ) (s : Sort) (ss : List Sort) → Decides (at_least n s ss) (AtLeast n s ss)
at_least_decides n s ss =
    Decides-and (nat_le n (length ss)) (list_all (sort_eq s) ss) (nat_le_decides n (length ss)) (list_all_decides s ss)

pub one_sort_decides : (ss : List Sort) → Decides (nat_le 2 (length ss) && of_one_sort ss) (AreAlike ss)
one_sort_decides [] = (λ e. absurd cc, λ h. absurd (omega arith))
one_sort_decides (s ∷ ss) =
    Decides-like (nat_le 2 (length (s ∷ ss)) && of_one_sort (s ∷ ss))
    (λ h. (h.0, (s, All-cons (λ a. a ≡ s) s ss refl h.1)))
    (λ h. (h.0, tail_like h.1))
    (Decides-and (nat_le 2 (length (s ∷ ss))) (list_all (sort_eq s) ss) (nat_le_decides 2 (length (s ∷ ss))) (list_all_decides s ss))
  where
    tail_like : ((u : Sort) × All (λ a. a ≡ u) (s ∷ ss)) → All (λ a. a ≡ s) ss
    tail_like (u, all) k d below =
        All-tail (λ a. a ≡ u) s ss all k d below ∙ sym (All-head (λ a. a ≡ u) s ss all)

pub constants_sort : (op : Op) (ss : List Sort) (s : Sort) → (op ≡ Op.True) ⊎ (op ≡ Op.False) → (application_sort op ss ≡ Some s) ↔ ((ss ≡ []) × (s ≡ Sort.Bool))
constants_sort op ss s = elim [ inl e ↦ rw e here | inr e ↦ rw e here ]
  where
    here : (when (sorts_eq [] ss) Sort.Bool ≡ Some s) ↔ ((ss ≡ []) × (s ≡ Sort.Bool))
    here = when_decides (sorts_eq [] ss) Sort.Bool s (Decides-like (sorts_eq [] ss) sym sym (sorts_eq_decides [] ss))

pub negation_sort : (ss : List Sort) (s : Sort) → (application_sort Op.Not ss ≡ Some s) ↔ ((ss ≡ Sort.Bool ∷ []) × (s ≡ Sort.Bool))
negation_sort ss s =
    when_decides (sorts_eq (Sort.Bool ∷ []) ss) Sort.Bool s
    (Decides-like (sorts_eq (Sort.Bool ∷ []) ss) sym sym (sorts_eq_decides (Sort.Bool ∷ []) ss))

pub one_or_more_sort : (op : Op) (ss : List Sort) (s : Sort) → (op ≡ Op.And) ⊎ (op ≡ Op.Or) → (application_sort op ss ≡ Some s) ↔ (AtLeast 1 Sort.Bool ss × (s ≡ Sort.Bool))
one_or_more_sort op ss s = elim [ inl e ↦ rw e here | inr e ↦ rw e here ]
  where
    here : (when (at_least 1 Sort.Bool ss) Sort.Bool ≡ Some s) ↔ (AtLeast 1 Sort.Bool ss × (s ≡ Sort.Bool))
    here = when_decides (at_least 1 Sort.Bool ss) Sort.Bool s (at_least_decides 1 Sort.Bool ss)

pub two_or_more_sort : (op : Op) (ss : List Sort) (s : Sort) → (op ≡ Op.Implies) ⊎ (op ≡ Op.Xor) → (application_sort op ss ≡ Some s) ↔ (AtLeast 2 Sort.Bool ss × (s ≡ Sort.Bool))
two_or_more_sort op ss s = elim [ inl e ↦ rw e here | inr e ↦ rw e here ]
  where
    here : (when (at_least 2 Sort.Bool ss) Sort.Bool ≡ Some s) ↔ (AtLeast 2 Sort.Bool ss × (s ≡ Sort.Bool))
    here = when_decides (at_least 2 Sort.Bool ss) Sort.Bool s (at_least_decides 2 Sort.Bool ss)

pub equality_sort : (op : Op) (ss : List Sort) (s : Sort) → (op ≡ Op.Equal) ⊎ (op ≡ Op.Distinct) → (application_sort op ss ≡ Some s) ↔ (AreAlike ss × (s ≡ Sort.Bool))
equality_sort op ss s = elim [ inl e ↦ rw e here | inr e ↦ rw e here ]
  where
    here : (when (nat_le 2 (length ss) && of_one_sort ss) Sort.Bool ≡ Some s) ↔ (AreAlike ss × (s ≡ Sort.Bool))
    here = when_decides (nat_le 2 (length ss) && of_one_sort ss) Sort.Bool s (one_sort_decides ss)

pub choice_sort_of : (ss : List Sort) (s : Sort) → (application_sort Op.Ite ss ≡ Some s) ↔ (ss ≡ Sort.Bool ∷ s ∷ s ∷ [])
choice_sort_of [] s = (λ e. cc, λ e. cc)
choice_sort_of (c ∷ []) s = (λ e. cc, λ e. cc)
choice_sort_of (c ∷ t ∷ []) s = (λ e. cc, λ e. cc)
choice_sort_of (c ∷ t ∷ u ∷ []) s = (λ e. forth (d.0 e), λ e. d.1 (back e))
  where
    d : (choice_sort (c ∷ t ∷ u ∷ []) ≡ Some s) ↔ ((Sort.Bool ≡ c) × (t ≡ u)) × (s ≡ t)
    d = when_decides (sort_eq Sort.Bool c && sort_eq t u) t s
        (Decides-and (sort_eq Sort.Bool c) (sort_eq t u) (sort_eq_decides Sort.Bool c) (sort_eq_decides t u))

    forth : ((Sort.Bool ≡ c) × (t ≡ u)) × (s ≡ t) → (c ∷ t ∷ u ∷ []) ≡ (Sort.Bool ∷ s ∷ s ∷ [])
    forth h = let e = h.0.0 in let f = h.0.1 in let g = h.1 in cc

    back : (c ∷ t ∷ u ∷ []) ≡ (Sort.Bool ∷ s ∷ s ∷ []) → ((Sort.Bool ≡ c) × (t ≡ u)) × (s ≡ t)
    back e = ((cc, cc), cc)
choice_sort_of (c ∷ t ∷ u ∷ v ∷ rest) s = (λ e. cc, λ e. cc)

pub arithmetic_sort : (op : Op) (ss : List Sort) (s : Sort) → (op ≡ Op.Minus) ⊎ ((op ≡ Op.Plus) ⊎ (op ≡ Op.Times)) → (application_sort op ss ≡ Some s) ↔ (AtLeast 1 Sort.Int ss × (s ≡ Sort.Int))
arithmetic_sort op ss s = elim [ inl e ↦ rw e here | inr (inl e) ↦ rw e here | inr (inr e) ↦ rw e here ]
  where
    here : (when (at_least 1 Sort.Int ss) Sort.Int ≡ Some s) ↔ (AtLeast 1 Sort.Int ss × (s ≡ Sort.Int))
    here = when_decides (at_least 1 Sort.Int ss) Sort.Int s (at_least_decides 1 Sort.Int ss)

pub division_sort : (op : Op) (ss : List Sort) (s : Sort) → (op ≡ Op.Div) ⊎ (op ≡ Op.Mod)
    → (application_sort op ss ≡ Some s) ↔ ((ss ≡ Sort.Int ∷ Sort.Int ∷ []) × (s ≡ Sort.Int))
division_sort op ss s = elim [ inl e ↦ rw e here | inr e ↦ rw e here ]
  where
    here : (when (sorts_eq (Sort.Int ∷ Sort.Int ∷ []) ss) Sort.Int ≡ Some s) ↔ ((ss ≡ Sort.Int ∷ Sort.Int ∷ []) × (s ≡ Sort.Int))
    here =
        when_decides (sorts_eq (Sort.Int ∷ Sort.Int ∷ []) ss) Sort.Int s
        (Decides-like (sorts_eq (Sort.Int ∷ Sort.Int ∷ []) ss) sym sym (sorts_eq_decides (Sort.Int ∷ Sort.Int ∷ []) ss))

pub comparison_sort : (op : Op) (ss : List Sort) (s : Sort) → ((op ≡ Op.LessEq) ⊎ (op ≡ Op.Less)) ⊎ ((op ≡ Op.GreaterEq) ⊎ (op ≡ Op.Greater)) → (application_sort op ss ≡ Some s) ↔ (AtLeast 2 Sort.Int ss × (s ≡ Sort.Bool))
comparison_sort op ss s = elim [ inl (inl e) ↦ rw e here | inl (inr e) ↦ rw e here | inr (inl e) ↦ rw e here | inr (inr e) ↦ rw e here ]
  where
    here : (when (at_least 2 Sort.Int ss) Sort.Bool ≡ Some s) ↔ (AtLeast 2 Sort.Int ss × (s ≡ Sort.Bool))
    here = when_decides (at_least 2 Sort.Int ss) Sort.Bool s (at_least_decides 2 Sort.Int ss)

pub call_sort_of : (f : Fun) (ss : List Sort) (s : Sort) → (call_sort f ss ≡ Some s) ↔ ((ss ≡ f.arguments) × (s ≡ f.target))
call_sort_of f ss s =
    when_decides (sorts_eq f.arguments ss) f.target s (Decides-like (sorts_eq f.arguments ss) sym sym (sorts_eq_decides f.arguments ss))
