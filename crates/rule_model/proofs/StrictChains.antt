-- A chain of resolutions, gone back by unit propagation.
use Rattle.std.proofs.Common.{◌≡◌, ◌≢◌, ◌⊎◌, ◌<◌, inl, inr, ℕ, Bool, true, false, not, Decides, List, [], ◌∷◌, ◌++◌, length, map, get_or, refl, sym}
use Rattle.std.proofs.Common.{◌∙◌, ap, subst, All, Contains}
use Rattle.std.proofs.lemmas.List.{get_or-map, length-map}
use Rattle.std.proofs.lemmas.List.Elements.{All-nil, All-cons, Contains-append_left, Contains-append_right, Contains-push}
use Rattle.term_model.specs.Terms.{Term}
use Rattle.term_model.proofs.Lists.{contains_none, contains_cases, contains_head, contains_later}
use Rattle.rule_model.specs.declared.literal.Literal.{Literal}
use Rattle.rule_model.specs.declared.literal.Literal.TheVariants.{Plain, Always, Never}
use Rattle.rule_model.specs.Consequence.{IsFalse, premise_at, literal_of, Leads}
use Rattle.rule_model.specs.Literals.{negation_of}
use Rattle.rule_model.specs.Resolution.{as_literal, as_clause, with_sign, IsResolvent, Chains, ResolvesInCheck, ResolvesStrictly}
use Rattle.rule_model.specs.TermTests.{term_eq}
use Rattle.rule_model.proofs.Consequence.{negation_of-negation_of}
use Rattle.rule_model.proofs.StrictResolution.{kept_without, kept_firsts}
use Rattle.rule_model.proofs.TermTests.{term_eq_decides}

-- literals of terms are equal or not
same_term : (t u : Term) → (t ≡ u) ⊎ (t ≢ u)
same_term t u = go (term_eq t u) (term_eq_decides t u)
  where
    go : (b : Bool) → Decides b (t ≡ u) → (t ≡ u) ⊎ (t ≢ u)
    go true d = inl (d.0 refl)
    go false d = inr (λ e. absurd (let f = d.1 e in cc))

same_sign : (a b : Bool) → (a ≡ b) ⊎ (a ≢ b)
same_sign true true = inl refl
same_sign true false = inr (λ e. cc)
same_sign false true = inr (λ e. cc)
same_sign false false = inl refl

same_literal : (l m : Literal Term) → (l ≡ m) ⊎ (l ≢ m)
same_literal (Plain t a) (Plain u b) =
    elim (same_term t u) [
      | inl e ↦ elim (same_sign a b) [ inl f ↦ inl (rw (e, f) refl) | inr other ↦ inr (λ g. other (cc)) ]
      | inr other ↦ inr (λ g. other (cc))
    ]
same_literal (Plain t a) Always = inr (λ e. cc)
same_literal (Plain t a) Never = inr (λ e. cc)
same_literal Always (Plain t a) = inr (λ e. cc)
same_literal Always Always = inl refl
same_literal Always Never = inr (λ e. cc)
same_literal Never (Plain t a) = inr (λ e. cc)
same_literal Never Always = inr (λ e. cc)
same_literal Never Never = inl refl

among : (falses : List (Literal Term)) (l : Literal Term) → Contains falses l ⊎ (Contains falses l → ⊥)
among [] l = inr (λ c. contains_none l c)
among (m ∷ ms) l =
    elim (same_literal m l) [
      | inl here ↦ inl (rw (← here) (contains_head m ms))
      | inr other ↦
          elim (among ms l) [
            | inl later ↦ inl (contains_later m l ms later)
            | inr none ↦ inr (λ c. elim (contains_cases m l ms c) [ inl here ↦ other here | inr later ↦ none later ])
          ]
    ]

false_or_not : (falses : List (Literal Term)) (l : Literal Term) → IsFalse falses l ⊎ (IsFalse falses l → ⊥)
false_or_not falses l =
    elim (same_literal l Never) [
      | inl never ↦ inl (inl never)
      | inr other ↦
          elim (among falses l) [
            | inl has ↦ inl (inr has)
            | inr lacks ↦ inr (λ f. elim f [ inl never ↦ other never | inr has ↦ lacks has ])
          ]
    ]

-- the literals of a pivot on both sides are opposite
opposite : (p : Term) (b : Bool) → as_literal (with_sign p b) ≡ negation_of (as_literal (with_sign p (not b)))
opposite p true = sym (negation_of-negation_of (as_literal p))
opposite p false = refl

-- all literals of the clause of terms are false
abbrev AllFalse : List (Literal Term) → List Term → Type 0
AllFalse falses clause = (t : Term) → Contains clause t → IsFalse falses (as_literal t)

-- what holds of each term's literal holds of the clause's
literals_all : (P : Literal Term → Type 0) (clause : List Term) → ((t : Term) → Contains clause t → P (as_literal t)) → All P (as_clause clause)
literals_all P [] each = All-nil P
literals_all P (t ∷ ts) each =
    All-cons P (as_literal t) (as_clause ts) (each t (contains_head t ts)) (literals_all P ts (λ u c. each u (contains_later t u ts c)))

still_false : (falses : List (Literal Term)) (more l : Literal Term) → IsFalse falses l → IsFalse (falses ++ more ∷ []) l
still_false falses more l (inl never) = inl never
still_false falses more l (inr has) = inr (Contains-append_left falses (more ∷ []) l has)

-- where the premises stand
abbrev Stand : List (List (Literal Term)) → List (List Term) → Type 0
Stand premises clauses = (c : List Term) → Contains clauses c → (i : ℕ) × (i < length premises) × (premise_at premises i ≡ as_clause c)

abbrev Ends : List (List (Literal Term)) → List (Literal Term) → Type 0
Ends premises falses = (units : List (ℕ × ℕ)) × (last : ℕ) × Leads premises falses units last

conflict : (premises : List (List (Literal Term))) (falses : List (Literal Term)) (c : List Term)
    → (i : ℕ) × (i < length premises) × (premise_at premises i ≡ as_clause c) → AllFalse falses c → Ends premises falses
conflict premises falses c at all =
    ([], at.0, record { place = at.1; all_false = rw at.2 (literals_all (IsFalse falses) c all) })

-- one resolution, gone back
module _ (premises : List (List (Literal Term))) (left right : List Term) (p : Term) (b : Bool) (next : List Term)
    (step : IsResolvent left right p b next) (falses : List (Literal Term)) (all : AllFalse falses next) where
  joined_false : (t : Term) → Contains (step.left_rest ++ step.right_rest) t → IsFalse falses (as_literal t)
  joined_false t c =
      elim (kept_firsts [] (step.left_rest ++ step.right_rest) next t step.firsts c) [ inl none ↦ absurd (contains_none t none) | inr there ↦ all t there ]

  left_false : (t : Term) → Contains left t → (t ≡ with_sign p b) ⊎ IsFalse falses (as_literal t)
  left_false t c =
      elim (kept_without (with_sign p b) left step.left_rest t step.left_is c) [
        | inl pivot ↦ inl pivot
        | inr stays ↦ inr (joined_false t (Contains-append_left step.left_rest step.right_rest t stays))
      ]

  right_false : (t : Term) → Contains right t → (t ≡ with_sign p (not b)) ⊎ IsFalse falses (as_literal t)
  right_false t c =
      elim (kept_without (with_sign p (not b)) right step.right_rest t step.right_is c) [
        | inl pivot ↦ inl pivot
        | inr stays ↦ inr (joined_false t (Contains-append_right step.left_rest step.right_rest t stays))
      ]

  right_all_false : IsFalse falses (as_literal (with_sign p (not b))) → AllFalse falses right
  right_all_false pivot t c = elim (right_false t c) [ inl same ↦ rw same pivot | inr other ↦ other ]

  left_all_false : AllFalse (falses ++ negation_of (as_literal (with_sign p (not b))) ∷ []) left
  left_all_false t c =
      elim (left_false t c) [
        | inl same ↦ rw (same, opposite p b) (inr (Contains-push falses (negation_of (as_literal (with_sign p (not b))))))
        | inr other ↦ still_false falses (negation_of (as_literal (with_sign p (not b)))) (as_literal t) other
      ]

  literal_here : (i j : ℕ) → premise_at premises i ≡ as_clause right → j < length right → get_or right j (with_sign p (not b)) ≡ with_sign p (not b)
      → literal_of premises (i, j) ≡ as_literal (with_sign p (not b))
  literal_here i j at below here = rw at (get_or-map as_literal right j (with_sign p (not b)) Never below ∙ ap as_literal here)

  pub gone_back : (i : ℕ) × (i < length premises) × (premise_at premises i ≡ as_clause right)
      → ((more : List (Literal Term)) → AllFalse more left → Ends premises more) → Ends premises falses
  gone_back at on =
      elim (false_or_not falses (as_literal (with_sign p (not b)))) [
        | inl pivot ↦ conflict premises falses right at (right_all_false pivot)
        | inr not_false ↦ unit not_false (on (falses ++ negation_of (as_literal (with_sign p (not b))) ∷ []) left_all_false)
      ]
    where
      unit : (IsFalse falses (as_literal (with_sign p (not b))) → ⊥) → Ends premises (falses ++ negation_of (as_literal (with_sign p (not b))) ∷ [])
          → Ends premises falses
      unit fresh rest =
          let j = step.on_right.0 in
          let lit = literal_here at.0 j at.2 step.on_right.1 step.on_right.2 in (
            (at.0, j) ∷ rest.0,
            rest.1,
            (
              record {
                place = at.1;
                only = record {
                  place = rw (at.2, length-map right as_literal) step.on_right.1;
                  not_false = λ f. fresh (rw lit at f);
                  others = rw lit (rw at.2 (literals_all (λ l. IsFalse falses l ⊎ (l ≡ as_literal (with_sign p (not b)))) right
                      (λ t c. elim (right_false t c) [ inl same ↦ inr (ap as_literal same) | inr other ↦ inl other ])));
                };
              },
              rw lit rest.2,
            ),
          )

chain_back : (premises : List (List (Literal Term))) (left : List Term) (clauses : List (List Term)) (pivots : List (Term × Bool)) (result : List Term)
    → Chains left clauses pivots result → Stand premises clauses
    → (falses : List (Literal Term)) → AllFalse falses result → ((more : List (Literal Term)) → AllFalse more left → Ends premises more) → Ends premises falses
chain_back premises left [] [] result same stand falses all on = on falses (subst (AllFalse falses) (sym same) all)
chain_back premises left [] (pivot ∷ pivots) result none stand falses all on = absurd none
chain_back premises left (right ∷ clauses) [] result none stand falses all on = absurd none
chain_back premises left (right ∷ clauses) (pivot ∷ pivots) result (next, step, rest) stand falses all on =
    chain_back premises next clauses pivots result rest (λ c has. stand c (contains_later right c clauses has)) falses all
    (λ more more_false. gone_back premises left right pivot.0 pivot.1 next step more more_false (stand right (contains_head right clauses)) on)

clause_all_false : (clause : List Term) → AllFalse (as_clause clause) clause
clause_all_false [] t c = absurd (contains_none t c)
clause_all_false (u ∷ us) t c =
    elim (contains_cases u t us c) [
      | inl here ↦ inr (rw (← here) (contains_head (as_literal u) (as_clause us)))
      | inr later ↦ deeper (clause_all_false us t later)
    ]
  where
    deeper : IsFalse (as_clause us) (as_literal t) → IsFalse (as_clause (u ∷ us)) (as_literal t)
    deeper (inl never) = inl never
    deeper (inr has) = inr (contains_later (as_literal u) (as_literal t) (as_clause us) has)

-- each premise stands at its place
all_stand : (clauses : List (List Term)) → Stand (map as_clause clauses) clauses
all_stand clauses c has =
    (has.0, rw (length-map clauses as_clause) has.1, get_or-map as_clause clauses has.0 c [] has.1 ∙ ap as_clause has.2)

pub chains_follow : (pivots : List (Term × Bool)) (premises : List (List Term)) (clause : List Term) → ResolvesStrictly pivots premises clause
    → ResolvesInCheck premises clause
chains_follow pivots [] clause none = absurd none
chains_follow pivots (first ∷ premises) clause chain =
    let stand = all_stand (first ∷ premises) in
    inr (chain_back (map as_clause (first ∷ premises)) first premises pivots clause chain (λ c has. stand c (contains_later first c premises has))
    (as_clause clause) (clause_all_false clause)
    (λ more more_false. conflict (map as_clause (first ∷ premises)) more first (stand first (contains_head first premises)) more_false))
