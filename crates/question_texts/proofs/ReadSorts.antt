-- Private. The sorts of a question are read from their names.
use Rattle.std.proofs.Common.{◌≡◌, refl, sym, ap, ◌∙◌, arith, ℕ, zero, suc, ◌+◌, ◌<◌, ◌^◌, nat_eq, List, [], ◌∷◌, ◌++◌, codes, decimal}
use Rattle.std.proofs.Common.{bytes_eq, position, slice_index_or, length, map, drop, Option, Some, None}
use Rattle.std.specs.Prelude.{Result, Ok, Err, ⊤}
use Rattle.std.specs.List.{AllByRecursion}
use Rattle.std.proofs.lemmas.List.Quantifiers.{position-Some}
use Rattle.sexpr.specs.declared.causes.Refusal.{Refusal}
use Rattle.sexpr.specs.Printed.{placed, placed_all, printed}
use Rattle.sexpr.specs.Words.{numeral_value}
use Rattle.sexpr.proofs.PrintedNumerals.{decimal_is}
use Rattle.term_model.specs.declared.symbols.Sort.{Sort}
use Rattle.problem_text.specs.Sorts.{result_then, declared_sort, sort_from, sorts_from}
use Rattle.hole_fillers.specs.Questions.{Naming, sort_named, asked_sort, sort_item, items_of}
use Rattle.hole_fillers.proofs.Lookup.{place_within}
use Rattle.question_texts.proofs.AskedNames.{same_name, is_digits, digits_differ}

-- the names of so many sorts, from this one on
abbrev pub names_from : ℕ → ℕ → List (List ℕ)
names_from k zero = []
names_from k (suc m) = sort_named k ∷ names_from (suc k) m

pub one_name_more : (k m : ℕ) → names_from k m ++ sort_named (k + m) ∷ [] ≡ names_from k (suc m)
one_name_more k zero = let e : k + 0 ≡ k = omega arith in ap (λ j. sort_named j ∷ []) e
one_name_more k (suc m) =
    let e : k + suc m ≡ suc k + m = omega arith in
    ap (λ ns. sort_named k ∷ ns) (ap (λ j. names_from (suc k) m ++ sort_named j ∷ []) e ∙ one_name_more (suc k) m)

as_many : (k m : ℕ) → length (names_from k m) ≡ m
as_many k zero = refl
as_many k (suc m) = ap suc (as_many (suc k) m)

name_at_place : (k m j : ℕ) → j < m → slice_index_or (names_from k m) j [] ≡ sort_named (k + j)
name_at_place k zero j l = absurd (omega (arith, l))
name_at_place k (suc m) zero l = let e : k ≡ k + 0 = omega arith in ap sort_named e
name_at_place k (suc m) (suc j) l =
    let e : suc k + j ≡ k + suc j = omega arith in
    name_at_place (suc k) m j (omega (arith, l)) ∙ ap sort_named e

one_number : (j k : ℕ) → j < 2 ^ 64 → k < 2 ^ 64 → sort_named j ≡ sort_named k → j ≡ k
one_number j k few many e =
    let tails : decimal (j + 1) ≡ decimal (k + 1) = ap (drop 1) e in
    let first = decimal_is (j + 1) (omega (arith, few)) in
    let second = decimal_is (k + 1) (omega (arith, many)) in
    let same : j + 1 ≡ k + 1 = sym first.value ∙ ap numeral_value tails ∙ second.value in
    omega (arith, same)

-- a declared sort has a number that isn't too large
abbrev pub IsSmall : Sort → Type 0
IsSmall Sort.Bool = ⊤
IsSmall Sort.Int = ⊤
IsSmall (Sort.Declared k) = k < 2 ^ 64

pub asked_small : (n : Naming) → length n.sorts < 2 ^ 32 → (s : Sort) → IsSmall (asked_sort n s)
asked_small n few Sort.Bool = tt
asked_small n few Sort.Int = tt
asked_small n few (Sort.Declared k) = omega (arith, few, place_within nat_eq k n.sorts)

pub all_small : (n : Naming) → length n.sorts < 2 ^ 32 → (ss : List Sort) → AllByRecursion IsSmall (map (asked_sort n) ss)
all_small n few [] = tt
all_small n few (s ∷ ss) = (asked_small n few s, all_small n few ss)

abbrev pub ok : {A : Type 0} → A → Result A Refusal
ok a = Ok a

pub ok_is : {A : Type 0} (a b : A) → ok a ≡ ok b → a ≡ b
ok_is a b e = cc

module _ (m : ℕ) (few : m < 2 ^ 64) where
  found_place : (k place : ℕ) (x : Sort) → k < 2 ^ 64 → (o : Option ℕ) → position (bytes_eq (sort_named k)) (names_from 0 m) ≡ o →
      declared_sort place o ≡ Ok x → x ≡ Sort.Declared k
  found_place k place x small None e h = absurd cc
  found_place k place x small (Some j) e h =
      let there = position-Some (bytes_eq (sort_named k)) (names_from 0 m) j [] e in
      let within : j < m = omega (arith, there.0, as_many 0 m) in
      let named : sort_named k ≡ sort_named j =
      same_name (sort_named k) (slice_index_or (names_from 0 m) j []) there.1
      ∙ (name_at_place 0 m j within ∙ (let e : 0 + j ≡ j = omega arith in ap sort_named e)) in
      let same : k ≡ j = one_number k j small (omega (arith, few, within)) named in
      let is : Sort.Declared j ≡ x = ok_is (Sort.Declared j) x h in
      sym is ∙ ap Sort.Declared (sym same)

  pub sort_read : (at : ℕ) (s x : Sort) → IsSmall s → sort_from (names_from 0 m) (placed at (sort_item s)) ≡ Ok x → x ≡ s
  unfolding sort_from
  sort_read at Sort.Bool x small h = sym (ok_is Sort.Bool x h)
  sort_read at Sort.Int x small h = sym (ok_is Sort.Int x h)
  sort_read at (Sort.Declared k) x small h =
      let other = digits_differ (decimal (k + 1)) 116 (codes "ring") (is_digits k small) refl in
      found_place k at x small (position (bytes_eq (sort_named k)) (names_from 0 m)) refl (rw other at h)

  pub sorts_read : (at : ℕ) (before : List ℕ) (ss xs : List Sort) → AllByRecursion IsSmall ss →
      sorts_from (names_from 0 m) (placed_all at before (items_of (map sort_item ss))) ≡ Ok xs → xs ≡ ss
  sorts_read at before [] xs small h = sym (ok_is [] xs h)
  sorts_read at before (s ∷ ss) xs small h =
      go (sort_from (names_from 0 m) (placed (at + length before) (sort_item s)))
      (sorts_from (names_from 0 m) (placed_all (at + length before + length (printed (sort_item s))) (32 ∷ []) (items_of (map sort_item ss))))
      (λ x e. sort_read (at + length before) s x small.0 e)
      (λ ys e. sorts_read (at + length before + length (printed (sort_item s))) (32 ∷ []) ss ys small.1 e) h
    where
      go : (r : Result Sort Refusal) (q : Result (List Sort) Refusal) → ((x : Sort) → r ≡ Ok x → x ≡ s) → ((ys : List Sort) → q ≡ Ok ys → ys ≡ ss) →
          result_then r (λ y. result_then q (λ ys. Ok (y ∷ ys))) ≡ Ok xs → xs ≡ s ∷ ss
      go (Err refusal) q first rest e = absurd cc
      go (Ok y) (Err refusal) first rest e = absurd cc
      go (Ok y) (Ok ys) first rest e =
          let is : y ∷ ys ≡ xs = ok_is (y ∷ ys) xs e in
          sym is ∙ (ap (λ z. z ∷ ys) (first y refl) ∙ ap (λ zs. s ∷ zs) (rest ys refl))
