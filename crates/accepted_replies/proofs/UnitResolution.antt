-- Private. The empty clause follows by unit propagation from a clause and from units that deny each of its literals.
use Rattle.std.proofs.Common.{◌≡◌, ◌⊎◌, inl, inr, ℕ, zero, suc, ◌+◌, ◌<◌, ◌≤◌, Bool, true, false, List, [], ◌∷◌, ◌++◌, map, length, All, Contains}
use Rattle.std.proofs.Common.{refl, sym, ap, ◌∙◌, subst, arith, Decides}
use Rattle.std.specs.Prelude.{Any, ⊤}
use Rattle.std.specs.List.{AllByRecursion}
use Rattle.std.proofs.lemmas.List.Elements.{All-from_recursion, Contains-append_left}
use Rattle.term_model.specs.Terms.{Term, not_of}
use Rattle.term_model.proofs.Lists.{contains_none, contains_cases, contains_head, contains_later}
use Rattle.rule_model.specs.declared.literal.Literal.{Literal}
use Rattle.rule_model.specs.declared.literal.Literal.TheVariants.{Plain, Always, Never}
use Rattle.rule_model.specs.Consequence.{IsFalse, literal_at, premise_at, IsOnly, literal_of, Leads}
use Rattle.rule_model.specs.Literals.{negation_of}
use Rattle.rule_model.specs.Resolution.{as_literal, as_clause, ResolvesInCheck}
use Rattle.rule_model.specs.TermTests.{term_eq}
use Rattle.rule_model.proofs.Consequence.{negation_of-negation_of}
use Rattle.rule_model.proofs.TermTests.{term_eq_decides}

-- it is so, or it is not
abbrev IsDecided : Type 0 → Type 0
IsDecided P = P ⊎ ¬ P

by_test : (b : Bool) (P : Type 0) → Decides b P → IsDecided P
by_test true P d = inl (d.0 refl)
by_test false P d = inr (λ p. let e : false ≡ true = d.1 p in cc)

same_sign : (a b : Bool) → IsDecided (a ≡ b)
same_sign true true = inl refl
same_sign true false = inr (λ e. cc)
same_sign false true = inr (λ e. cc)
same_sign false false = inl refl

same_literal : (l m : Literal Term) → IsDecided (l ≡ m)
same_literal (Plain t a) (Plain u b) = go (by_test (term_eq t u) (t ≡ u) (term_eq_decides t u)) (same_sign a b)
  where
    go : IsDecided (t ≡ u) → IsDecided (a ≡ b) → IsDecided (Plain t a ≡ Plain u b)
    go (inl e) (inl f) = inl (ap (λ x. Plain x a) e ∙ ap (λ x. Plain u x) f)
    go (inl e) (inr f) = inr (λ g. f (let h : Plain t a ≡ Plain u b = g in cc))
    go (inr e) sign = inr (λ g. e (let h : Plain t a ≡ Plain u b = g in cc))
same_literal (Plain t a) Always = inr (λ e. cc)
same_literal (Plain t a) Never = inr (λ e. cc)
same_literal Always (Plain u b) = inr (λ e. cc)
same_literal Always Always = inl refl
same_literal Always Never = inr (λ e. cc)
same_literal Never (Plain u b) = inr (λ e. cc)
same_literal Never Always = inr (λ e. cc)
same_literal Never Never = inl refl

is_among : (falses : List (Literal Term)) (l : Literal Term) → IsDecided (Contains falses l)
is_among [] l = inr (contains_none l)
is_among (m ∷ falses) l = go (same_literal m l) (is_among falses l)
  where
    go : IsDecided (m ≡ l) → IsDecided (Contains falses l) → IsDecided (Contains (m ∷ falses) l)
    go (inl e) rest = inl (subst (Contains (m ∷ falses)) e (contains_head m falses))
    go (inr e) (inl has) = inl (contains_later m l falses has)
    go (inr e) (inr none) = inr (λ has. elim (contains_cases m l falses has) [ inl f ↦ e f | inr g ↦ none g ])

is_false : (falses : List (Literal Term)) (l : Literal Term) → IsDecided (IsFalse falses l)
is_false falses l = go (same_literal l Never) (is_among falses l)
  where
    go : IsDecided (l ≡ Never) → IsDecided (Contains falses l) → IsDecided (IsFalse falses l)
    go (inl e) rest = inl (inl e)
    go (inr e) (inl has) = inl (inr has)
    go (inr e) (inr none) = inr (λ h. elim h [ inl f ↦ e f | inr g ↦ none g ])

-- a clause of one literal
alone_unit : (falses : List (Literal Term)) (m : Literal Term) → ¬ IsFalse falses m → IsOnly falses (m ∷ []) 0
alone_unit falses m not_false = record {
  place = omega arith;
  not_false = not_false;
  others = All-from_recursion (λ l. IsFalse falses l ⊎ (l ≡ m)) (m ∷ []) (inr refl, tt);
}

-- The first premise is a clause. What is said of its literals: each is false, or a unit that is still to come denies it.
abbrev IsDeniedBy : List (Literal Term) → List (Literal Term) → Literal Term → Type 0
IsDeniedBy falses units l = Contains falses l ⊎ Any (λ m. l ≡ negation_of m) units

abbrev Follow : List (List (Literal Term)) → List (Literal Term) → Type 0
Follow premises falses = (units : List (ℕ × ℕ)) × (last : ℕ) × Leads premises falses units last

-- the units stand among the premises, from this one on
abbrev Stand : List (List (Literal Term)) → ℕ → List (Literal Term) → Type 0
Stand premises k [] = ⊤
Stand premises k (m ∷ units) = (k < length premises) × (premise_at premises k ≡ m ∷ []) × Stand premises (suc k) units

module _ (clause : List (Literal Term)) (premises : List (List (Literal Term))) (some : 0 < length premises) (first : premise_at premises 0 ≡ clause) where
  -- where all literals are false
  all_false : (falses ls : List (Literal Term)) → AllByRecursion (IsDeniedBy falses []) ls → AllByRecursion (IsFalse falses) ls
  all_false falses [] h = tt
  all_false falses (l ∷ ls) h = (
    elim h.0 [ inl has ↦ inr has | inr (k, m, within, there, e) ↦ absurd (let f = within in omega (arith, f)) ],
    all_false falses ls h.1,
  )

  -- behind a unit
  behind : (falses units ls : List (Literal Term)) (m : Literal Term) → AllByRecursion (IsDeniedBy falses (m ∷ units)) ls
      → AllByRecursion (IsDeniedBy (falses ++ negation_of m ∷ []) units) ls
  behind falses units [] m h = tt
  behind falses units (l ∷ ls) m h = (go h.0, behind falses units ls m h.1)
    where
      here : l ≡ negation_of m → Contains (falses ++ negation_of m ∷ []) l
      here e = subst (Contains (falses ++ negation_of m ∷ [])) (sym e) (last falses)
        where
          last : (xs : List (Literal Term)) → Contains (xs ++ negation_of m ∷ []) (negation_of m)
          last [] = contains_head (negation_of m) []
          last (x ∷ xs) = contains_later x (negation_of m) (xs ++ negation_of m ∷ []) (last xs)

      go : IsDeniedBy falses (m ∷ units) l → IsDeniedBy (falses ++ negation_of m ∷ []) units l
      go (inl has) = inl (Contains-append_left falses (negation_of m ∷ []) l has)
      go (inr (zero, n, within, there, e)) = inl (here (e ∙ ap negation_of (sym there)))
      go (inr (suc k, n, within, there, e)) = inr (k, n, omega (arith, within), there, e)

  leads_on : (units : List (Literal Term)) (k : ℕ) (falses : List (Literal Term)) → Stand premises k units → AllByRecursion (IsDeniedBy falses units) clause
      → Follow premises falses
  leads_on [] k falses stand denied = (
    [],
    0,
    record {
      place = some;
      all_false = subst (All (IsFalse falses)) (sym first) (All-from_recursion (IsFalse falses) clause (all_false falses clause denied));
    },
  )
  leads_on (m ∷ units) k falses stand denied =
      go (is_false falses m) (leads_on units (suc k) (falses ++ negation_of m ∷ []) stand.2 (behind falses units clause m denied))
    where
      go : IsDecided (IsFalse falses m) → Follow premises (falses ++ negation_of m ∷ []) → Follow premises falses
      go (inl false_now) rest = (
        [],
        k,
        record {
          place = stand.0;
          all_false = subst (All (IsFalse falses)) (sym stand.1) (All-from_recursion (IsFalse falses) (m ∷ []) (false_now, tt));
        },
      )
      go (inr not_false) rest =
          let here : literal_of premises (k, 0) ≡ m = ap (λ c. literal_at c 0) stand.1 in (
            (k, 0) ∷ rest.0,
            rest.1,
            (
              record { place = stand.0; only = subst (λ c. IsOnly falses c 0) (sym stand.1) (alone_unit falses m not_false) },
              subst (λ l. Leads premises (falses ++ negation_of l ∷ []) rest.0 rest.1) (sym here) rest.2,
            ),
          )

-- a term and its negation
pub opposite : (t l : Term) → (l ≡ not_of t) ⊎ (t ≡ not_of l) → as_literal l ≡ negation_of (as_literal t)
opposite t l (inl e) = ap as_literal e
opposite t l (inr e) = sym (negation_of-negation_of (as_literal l)) ∙ ap (λ u. negation_of (as_literal u)) (sym e)

abbrev pub units_of : List Term → List (List Term)
units_of ts = map (λ t. t ∷ []) ts

stand : (premises : List (List (Literal Term))) (k : ℕ) (ts : List Term) → k + length ts ≤ length premises
    → ((j : ℕ) → j < length ts → premise_at premises (k + j) ≡ premise_at (map as_clause (units_of ts)) j) → Stand premises k (map as_literal ts)
stand premises k [] within same = tt
stand premises k (t ∷ ts) within same =
    let here : k + 0 ≡ k = omega arith in (
      omega (arith, within),
      subst (λ n. premise_at premises n ≡ as_literal t ∷ []) here (same 0 (omega arith)),
      stand premises (suc k) ts (omega (arith, within))
          (λ j less. let next : k + suc j ≡ suc k + j = omega arith in
          subst (λ n. premise_at premises n ≡ premise_at (map as_clause (units_of ts)) j) next (same (suc j) (omega (arith, less)))),
    )

-- what some of the terms deny, their literals deny
any_literal : (l : Term) (ts : List Term) → Any (λ t. (l ≡ not_of t) ⊎ (t ≡ not_of l)) ts
    → Any (λ m. as_literal l ≡ negation_of m) (map as_literal ts)
any_literal l [] (k, t, within, there, e) = absurd (let f = within in omega (arith, f))
any_literal l (u ∷ ts) (zero, t, within, there, e) = (0, as_literal t, omega arith, ap as_literal there, opposite t l e)
any_literal l (u ∷ ts) (suc k, t, within, there, e) =
    let rest = any_literal l ts (k, t, omega (arith, within), there, e) in
    (suc rest.0, rest.1, let f = rest.2 in omega (arith, f), rest.3, rest.4)

each_denied : (ls ts : List Term) → AllByRecursion (λ l. Any (λ t. (l ≡ not_of t) ⊎ (t ≡ not_of l)) ts) ls
    → AllByRecursion (IsDeniedBy [] (map as_literal ts)) (map as_literal ls)
each_denied [] ts h = tt
each_denied (l ∷ ls) ts h = (inr (any_literal l ts h.0), each_denied ls ts h.1)

as_many : (ts : List Term) → length (map as_clause (units_of ts)) ≡ length ts
as_many [] = refl
as_many (t ∷ ts) = ap suc (as_many ts)

pub empty_follows : (clause assumed : List Term) → AllByRecursion (λ l. Any (λ t. (l ≡ not_of t) ⊎ (t ≡ not_of l)) assumed) clause
    → ResolvesInCheck (clause ∷ units_of assumed) []
empty_follows clause assumed denied =
    let premises : List (List (Literal Term)) = as_clause clause ∷ map as_clause (units_of assumed) in
    let count = as_many assumed in
    inr (leads_on (as_clause clause) premises (omega arith) refl (map as_literal assumed) 1 []
    (stand premises 1 assumed (omega (arith, count))
    (λ j less. let next : 1 + j ≡ suc j = omega arith in ap (premise_at premises) next)) (each_denied clause assumed denied))
