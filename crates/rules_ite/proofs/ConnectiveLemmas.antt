-- Definitions of connectives as instances of schemas. That the sides of an equality are of Bool is told by the implications
-- that stand beside it in a well-sorted clause.
use Rattle.std.proofs.Common.{◌≡◌, ◌↔◌, zero, suc, inl, inr, List, [], ◌∷◌, Bool, IsTrue, All, Any, refl, sym, ◌∙◌, ap, subst, arith}
use Rattle.std.proofs.lemmas.List.Elements.{All-head, All-tail}
use Rattle.term_model.specs.declared.symbols.Op.{Op}
use Rattle.term_model.specs.declared.symbols.Sort.{Sort}
use Rattle.term_model.specs.Flips.{equality}
use Rattle.term_model.specs.Sorts.{IsOf, AreOf}
use Rattle.term_model.specs.Terms.{Term, operation, term, no_terms}
use Rattle.term_model.proofs.Arities.{two_or_more_sort}
use Rattle.rule_model.specs.declared.letter.Letter.{Letter}
use Rattle.rule_model.specs.Conditions.{IsClauseOfTruths}
use Rattle.rule_model.specs.Ite.{connective_definitions, MeetsConnectiveDef}
use Rattle.rule_model.specs.Patterns.{a, b, equal, conj, implies}
use Rattle.rule_model.specs.Rewriting.{RewriteRow, Rewrites, over_truths, ◌⇝◌}
use Rattle.rule_model.specs.Schemas.{Pattern, fill, IsInstance}
use Rattle.schema_match.specs.Schemas.{IsInstanceOfOne}
use Rattle.rules_ite.specs.Connectives.{schemas_of}

-- sorts of the arguments of well-sorted terms
pub two_of : (t u : Term) (ss : List Sort) → AreOf (term t (term u no_terms)) ss → (x : Sort) × (y : Sort) × (ss ≡ x ∷ y ∷ []) × IsOf t x × IsOf u y
two_of t u [] h = absurd h
two_of t u (x ∷ []) h = absurd h.1
two_of t u (x ∷ y ∷ []) h = (x, y, refl, h.0, h.1.0)
two_of t u (x ∷ y ∷ z ∷ ss) h = absurd h.1.1

-- the sides of an implication and of a conjunction are of Bool
implied : (t u : Term) (s : Sort) → IsOf (operation Op.Implies (term t (term u no_terms))) s → IsOf t Sort.Bool × IsOf u Sort.Bool
implied t u s h =
    let two = two_of t u h.sorts h.arguments in
    let all : All (λ a. a ≡ Sort.Bool) (two.0 ∷ two.1 ∷ []) = rw two.2 at (((two_or_more_sort Op.Implies h.sorts s (inl refl)).0 h.is).0.1) in (
      subst (IsOf t) (All-head (λ a. a ≡ Sort.Bool) two.0 (two.1 ∷ []) all) two.3,
      subst (IsOf u) (All-head (λ a. a ≡ Sort.Bool) two.1 [] (All-tail (λ a. a ≡ Sort.Bool) two.0 (two.1 ∷ []) all)) two.4,
    )

first_joined : (t u : Term) (s : Sort) → IsOf (operation Op.And (term t (term u no_terms))) s → (x : Sort) × IsOf t x
first_joined t u s h = let two = two_of t u h.sorts h.arguments in (two.0, two.3)

right_side : (t u : Term) (s : Sort) → IsOf (equality t u) s → (x : Sort) × IsOf u x
right_side t u s h = let two = two_of t u h.sorts h.arguments in (two.1, two.4)

-- where the clause is of Bool, what the row for `=` asks besides holds
over_truths_holds : (f : Letter → Term) → IsOf (fill f (equal (equal a b) (conj (implies a b) (implies b a)))) Sort.Bool → IsOf (f Letter.A) Sort.Bool × IsOf (f Letter.B) Sort.Bool
over_truths_holds f h =
    let right = right_side (fill f (equal a b)) (fill f (conj (implies a b) (implies b a))) Sort.Bool h in
    let first = first_joined (fill f (implies a b)) (fill f (implies b a)) right.0 right.1 in
    implied (f Letter.A) (f Letter.B) first.0 first.1

module _ (ps : List (List Term)) (ts : List Term) where
  abbrev row_of : RewriteRow → Type 0
  row_of row = (t : Term) × (u : Term) × (ps ≡ []) × (ts ≡ equality t u ∷ []) × Rewrites row t u

  abbrev instance_of : RewriteRow → Type 0
  instance_of row = IsInstance (record { premises = []; clause = equal row.left row.right ∷ [] }) ps ts

  instance_of_row : (row : RewriteRow) (t u : Term) → ps ≡ [] → ts ≡ equality t u ∷ [] → Rewrites row t u → instance_of row
  instance_of_row row t u none is h = record {
    terms = h.terms;
    units = none;
    literals = is ∙ (ap (λ x. equality x u ∷ []) h.from ∙ ap (λ x. equality (fill h.terms row.left) x ∷ []) h.to);
  }

  row_of_plain : (p q : Pattern) → instance_of (p ⇝ q) → row_of (p ⇝ q)
  row_of_plain p q i = (
    fill i.terms p,
    fill i.terms q,
    i.units,
    i.literals,
    record { terms = i.terms; from = refl; to = refl; passes = tt },
  )

  equality_row : IsClauseOfTruths ts → instance_of (over_truths a b (conj (implies a b) (implies b a))) → row_of (over_truths a b (conj (implies a b) (implies b a)))
  equality_row truths i =
      let truth = All-head (λ t. IsOf t Sort.Bool) _ [] (rw i.literals at truths) in (
        fill i.terms (equal a b),
        fill i.terms (conj (implies a b) (implies b a)),
        i.units,
        i.literals,
        record { terms = i.terms; from = refl; to = refl; passes = over_truths_holds i.terms truth },
      )

  -- in the order of the table
  one_of : IsClauseOfTruths ts → IsInstanceOfOne (schemas_of connective_definitions) ps ts → MeetsConnectiveDef ps ts
  one_of truths (inl i) = let r = row_of_plain _ _ i in record { left = r.0; right = r.1; none = r.2; literal = r.3; defined = (0, _, omega arith, refl, r.4) }
  one_of truths (inr (inl i)) = let r = equality_row truths i in record { left = r.0; right = r.1; none = r.2; literal = r.3; defined = (1, _, omega arith, refl, r.4) }
  one_of truths (inr (inr (inl i))) = let r = row_of_plain _ _ i in record { left = r.0; right = r.1; none = r.2; literal = r.3; defined = (2, _, omega arith, refl, r.4) }
  one_of truths (inr (inr (inr h))) = absurd h

  in_order : (rows : List RewriteRow) (t u : Term) → ps ≡ [] → ts ≡ equality t u ∷ [] → Any (λ row. Rewrites row t u) rows → IsInstanceOfOne (schemas_of rows) ps ts
  in_order [] t u none is (k, x, below, same, h) = absurd (omega (arith, below))
  in_order (row ∷ rows) t u none is (zero, x, below, same, h) = inl (instance_of_row row t u none is (subst (λ r. Rewrites r t u) (sym same) h))
  in_order (row ∷ rows) t u none is (suc k, x, below, same, h) = inr (in_order rows t u none is (k, x, omega (arith, below), same, h))

  pub connective_is : (told : Bool) → IsClauseOfTruths ts → IsTrue told ↔ IsInstanceOfOne (schemas_of connective_definitions) ps ts → IsTrue told ↔ MeetsConnectiveDef ps ts
  connective_is told truths test = (
    λ e. one_of truths (test.0 e),
    λ m. test.1 (in_order connective_definitions m.left m.right m.none m.literal m.defined),
  )
