-- The step to `(and a (not b))`.
use Rattle.std.proofs.Common.{◌≡◌, ◌≢◌, ◌↔◌, ℕ, List, [], ◌∷◌, ◌++◌, Bool, true, false, IsTrue, refl, sym, ◌∙◌, subst}
use Rattle.sym_table.specs.Table.{Table}
use Rattle.term_model.specs.declared.symbols.Op.{Op}
use Rattle.term_model.specs.Terms.{Term, not_of}
use Rattle.term_pool.specs.Views.{TermsView, RefersTo, ReferToAll}
use Rattle.rule_model.specs.declared.letter.Letter.{Letter}
use Rattle.rule_model.specs.Patterns.{a, b, no, conj}
use Rattle.rule_model.specs.Rewriting.{IsFirstFit}
use Rattle.rule_model.specs.Schemas.{fill}
use Rattle.rule_model.specs.Simplify.{bool_simplify}
use Rattle.rules_simplify.specs.Conjoined.{AreOperands, implication_of}
use Rattle.rules_simplify.proofs.ConjoinedLemmas.{negation_fits_none}
use Rattle.rules_simplify.proofs.JoinLemmas.{told_apart}

first_inside : (x y z w : Term) → implication_of x y ≡ implication_of z w → x ≡ z
first_inside x y z w e = cc

module _ (s : Table) (v : TermsView) (f : Letter → Term) (u : Term) (first : ℕ) (refers : RefersTo s v first (f Letter.A)) where
  pub no_implication : ((t x y : Term) → RefersTo s v first t → t ≢ implication_of x y) → ¬ IsFirstFit bool_simplify (fill f (conj a (no b))) u
  no_implication other = negation_fits_none (f Letter.A) (f Letter.B) u (λ z e. other (f Letter.A) (not_of (f Letter.B)) z refers e)

  pub other_premise : (p : ℕ × ℕ) (second : ℕ) (told : Bool) → ((t : Term) → RefersTo s v first t → AreOperands s v Op.Implies p t) → RefersTo s v second (f Letter.B) → ((t w : Term) → RefersTo s v p.0 t → RefersTo s v second w → IsTrue told ↔ (t ≡ not_of w)) → told ≡ false → ¬ IsFirstFit bool_simplify (fill f (conj a (no b))) u
  other_premise p second told are second_refers test fails =
      negation_fits_none (f Letter.A) (f Letter.B) u
      (λ z e.
      let both = are (f Letter.A) refers in
      told_apart told ((test both.first (f Letter.B) both.first_refers second_refers).1 (first_inside both.first both.second (not_of (f Letter.B)) z (sym both.is ∙ e))) fails)

two_items : (items one none : List ℕ) (p q : ℕ) → none ≡ [] → one ≡ none ++ p ∷ [] → items ≡ one ++ q ∷ [] → items ≡ p ∷ q ∷ []
two_items items one none p q e f g = rw (g, f, e) refl

pub both_refer : (s : Table) (v : TermsView) (f : Letter → Term) (first second : ℕ) (p : ℕ × ℕ) (told : Bool) (items one none : List ℕ) → RefersTo s v first (f Letter.A) → RefersTo s v second (f Letter.B) → ((t : Term) → RefersTo s v first t → AreOperands s v Op.Implies p t) → ((t w : Term) → RefersTo s v p.0 t → RefersTo s v second w → IsTrue told ↔ (t ≡ not_of w)) → told ≡ true → none ≡ [] → one ≡ none ++ first ∷ [] → items ≡ one ++ p.0 ∷ [] → ReferToAll s v items (f Letter.A ∷ not_of (f Letter.B) ∷ [])
both_refer s v f first second p told items one none first_refers second_refers are test holds e g h =
    let both = are (f Letter.A) first_refers in
    let negation = (test both.first (f Letter.B) both.first_refers second_refers).0 holds in
    subst (λ (rs : List ℕ). ReferToAll s v rs (f Letter.A ∷ not_of (f Letter.B) ∷ [])) (sym (two_items items one none first p.0 e g h))
    (first_refers, (subst (RefersTo s v p.0) negation both.first_refers, tt))
