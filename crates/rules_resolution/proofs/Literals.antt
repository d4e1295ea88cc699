-- Literals that are the same, opposite or false.
use Rattle.std.proofs.Common.{◌≡◌, ◌⊎◌, inl, inr, ℕ, suc, ◌<◌, Bool, true, false, ◌||◌, List, [], ◌∷◌, ◌++◌, nat_eq, length, refl, sym, ◌∙◌, ap, arith, eq-eqb}
use Rattle.std.specs.List.{list_any}
use Rattle.std.proofs.lemmas.List.{get_or_default}
use Rattle.std.proofs.lemmas.List.Elements.{All-from_get_or}
use Rattle.std.proofs.lemmas.List.Folds.{list_any-append, list_any_at}
use Rattle.std.proofs.lemmas.Bool.{eqb-true, and_parts, or_cases, or_left, or_right, cases_Bool}
use Rattle.rule_model.specs.Consequence.{IsFalse, IsOnly, literal_at}
use Rattle.rule_model.specs.declared.literal.Literal.TheVariants.{Plain, Always, Never}
use Rattle.rules_resolution.specs.Falsity.{same_bool, same_literal, is_false_in}
use Rattle.rules_resolution.specs.Literal.{Lit}

pub same_bool-true : (a b : Bool) → same_bool a b ≡ true → a ≡ b
same_bool-true true b e = sym e
same_bool-true false true e = cc
same_bool-true false false e = refl

pub same_bool-refl : (a : Bool) → same_bool a a ≡ true
same_bool-refl true = refl
same_bool-refl false = refl

pub same_literal-true : (a b : Lit) → same_literal a b ≡ true → a ≡ b
same_literal-true (Plain a m) (Plain b n) e =
    let p = and_parts (nat_eq a b) (same_bool m n) e in
    let same : a ≡ b = eqb-true a b p.0 in
    let sign : m ≡ n = same_bool-true m n p.1 in
    cc
same_literal-true (Plain a m) Always e = cc
same_literal-true (Plain a m) Never e = cc
same_literal-true Always (Plain b n) e = cc
same_literal-true Always Always e = refl
same_literal-true Always Never e = cc
same_literal-true Never (Plain b n) e = cc
same_literal-true Never Always e = cc
same_literal-true Never Never e = refl

pub same_literal-refl : (a : Lit) → same_literal a a ≡ true
same_literal-refl (Plain a m) = rw (eq-eqb a a refl) (same_bool-refl m)
same_literal-refl Always = refl
same_literal-refl Never = refl

-- a literal is false that was made false last, that was false before, and no other
pub push_new : (falses : List Lit) (m : Lit) → is_false_in (falses ++ m ∷ []) m ≡ true
push_new falses m =
    or_right (same_literal m Never) (list_any (same_literal m) (falses ++ m ∷ []))
    (list_any-append (same_literal m) falses (m ∷ [])
    ∙ or_right (list_any (same_literal m) falses) (same_literal m m || false)
    (or_left (same_literal m m) false (same_literal-refl m)))

pub push_kept : (falses : List Lit) (m l : Lit) → is_false_in falses l ≡ true → is_false_in (falses ++ m ∷ []) l ≡ true
push_kept falses m l e =
    elim (or_cases (same_literal l Never) (list_any (same_literal l) falses) e) [
      | inl never ↦ or_left (same_literal l Never) (list_any (same_literal l) (falses ++ m ∷ [])) never
      | inr among ↦
          or_right (same_literal l Never) (list_any (same_literal l) (falses ++ m ∷ []))
          (list_any-append (same_literal l) falses (m ∷ [])
          ∙ or_left (list_any (same_literal l) falses) (same_literal l m || false) among)
    ]

pub push_cases : (falses : List Lit) (m l : Lit) → is_false_in (falses ++ m ∷ []) l ≡ true → (is_false_in falses l ≡ true) ⊎ (l ≡ m)
push_cases falses m l e =
    elim (or_cases (same_literal l Never) (list_any (same_literal l) (falses ++ m ∷ [])) e) [
      | inl never ↦ inl (or_left (same_literal l Never) (list_any (same_literal l) falses) never)
      | inr among ↦
          elim (or_cases (list_any (same_literal l) falses) (same_literal l m || false)
          (sym (list_any-append (same_literal l) falses (m ∷ [])) ∙ among)) [
            | inl before ↦ inl (or_right (same_literal l Never) (list_any (same_literal l) falses) before)
            | inr last ↦
                elim (or_cases (same_literal l m) false last) [
                  | inl same ↦ inr (same_literal-true l m same)
                  | inr wrong ↦ cc
                ]
          ]
    ]

-- a literal of the list stands at some place of it
pub among_place : (l : Lit) (ls : List Lit) → list_any (same_literal l) ls ≡ true → (k : ℕ) × (k < length ls) × (literal_at ls k ≡ l)
among_place l [] e = cc
among_place l (m ∷ ms) e =
    elim (or_cases (same_literal l m) (list_any (same_literal l) ms) e) [
      | inl here ↦ (0, omega arith, sym (same_literal-true l m here))
      | inr later ↦ (let p = among_place l ms later in (suc p.0, omega (arith, p.1), p.2))
    ]

-- the test and what it decides
pub false_from_test : (falses : List Lit) (l : Lit) → is_false_in falses l ≡ true → IsFalse falses l
false_from_test falses l e =
    elim (or_cases (same_literal l Never) (list_any (same_literal l) falses) e) [
      | inl never ↦ inl (same_literal-true l Never never)
      | inr among ↦ inr (let p = among_place l falses among in (p.0, p.1, get_or_default falses p.0 l Never p.1 ∙ p.2))
    ]

pub test_of_false : (falses : List Lit) (l : Lit) → IsFalse falses l → is_false_in falses l ≡ true
test_of_false falses l (inl never) =
    or_left (same_literal l Never) (list_any (same_literal l) falses) (ap (λ (m : Lit). same_literal m Never) never)
test_of_false falses l (inr (k, h, here)) =
    or_right (same_literal l Never) (list_any (same_literal l) falses)
    (list_any_at (same_literal l) falses k l h (ap (same_literal l) here ∙ same_literal-refl l))

-- the only literal that is not false, by the test
pub only_from_tests : (falses clause : List Lit) (j : ℕ) → j < length clause → is_false_in falses (literal_at clause j) ≡ false
    → ((k : ℕ) → k < length clause → (is_false_in falses (literal_at clause k) ≡ true) ⊎ (literal_at clause k ≡ literal_at clause j)) → IsOnly falses clause j
only_from_tests falses clause j place stays others =
    record {
      place = place;
      not_false = λ gone. (let e = test_of_false falses (literal_at clause j) gone in cc (e, stays));
      others = All-from_get_or (λ l. IsFalse falses l ⊎ (l ≡ literal_at clause j)) clause Never
          (λ k h. elim (others k h) [ inl gone ↦ inl (false_from_test falses (literal_at clause k) gone) | inr same ↦ inr same ]);
    }

pub only-others : (falses clause : List Lit) (j : ℕ) → IsOnly falses clause j → (k : ℕ) → k < length clause → (is_false_in falses (literal_at clause k) ≡ true) ⊎ (literal_at clause k ≡ literal_at clause j)
only-others falses clause j only k h =
    elim (only.others k Never h) [ inl gone ↦ inl (test_of_false falses (literal_at clause k) gone) | inr same ↦ inr same ]

pub only-stays : (falses clause : List Lit) (j : ℕ) → IsOnly falses clause j → is_false_in falses (literal_at clause j) ≡ false
only-stays falses clause j only =
    elim (cases_Bool (is_false_in falses (literal_at clause j))) [
      | inl gone ↦ absurd (only.not_false (false_from_test falses (literal_at clause j) gone))
      | inr stays ↦ stays
    ]
