-- Truth values by number.
use Rattle.std.proofs.Common.{◌≡◌, ◌<◌, ◌⊎◌, inl, inr, ℕ, zero, suc, Bool, true, false, List, [], ◌∷◌, ◌++◌, set, length, Contains, Result, Ok, Err, OnOk, IfOk, refl, sym, ◌∙◌, ap, subst, arith}
use Rattle.term_model.proofs.Lists.{contains_none, contains_cases, contains_head}
use Rattle.rule_model.specs.Proofs.{ProofItems}
use Rattle.rule_model.specs.Reading.{premises_at}
use Rattle.pruned_proofs.specs.Reached.{is_kept}
use Rattle.proof_prune.specs.Marking.{MarksMore, IsLastUnder, IsDirectlyUnder}

pub marked_count : (marks : List Bool) (number : ℕ) → length (set marks number true) ≡ length marks
marked_count [] number = refl
marked_count (m ∷ marks) zero = refl
marked_count (m ∷ marks) (suc number) = ap suc (marked_count marks number)

set_other : (marks : List Bool) (number j : ℕ) → is_kept (set marks number true) j ≡ true → (is_kept marks j ≡ true) ⊎ (j ≡ number)
set_other [] number j e = inl e
set_other (m ∷ marks) zero zero e = inr refl
set_other (m ∷ marks) zero (suc j) e = inl e
set_other (m ∷ marks) (suc number) zero e = inl e
set_other (m ∷ marks) (suc number) (suc j) e =
    elim (set_other marks number j e) [ inl k ↦ inl k | inr same ↦ inr (ap suc same) ]

set_stays : (marks : List Bool) (number j : ℕ) → is_kept marks j ≡ true → is_kept (set marks number true) j ≡ true
set_stays [] number j e = e
set_stays (m ∷ marks) zero zero e = refl
set_stays (m ∷ marks) zero (suc j) e = e
set_stays (m ∷ marks) (suc number) zero e = e
set_stays (m ∷ marks) (suc number) (suc j) e = set_stays marks number j e

set_here : (marks : List Bool) (number : ℕ) → number < length marks → is_kept (set marks number true) number ≡ true
set_here [] number h = absurd (omega arith)
set_here (m ∷ marks) zero h = refl
set_here (m ∷ marks) (suc number) h = set_here marks number (omega arith)

pub one_marked : (marks : List Bool) (number : ℕ) → number < length marks → MarksMore marks (set marks number true) (λ j. j ≡ number)
one_marked marks number h = record {
  stays = set_stays marks number;
  added = λ j same. subst (λ k. is_kept (set marks number true) k ≡ true) (sym same) (set_here marks number h);
  only = set_other marks number;
}

-- one after the other
pub more_then : (a b c : List Bool) (P Q R : ℕ → Type 0) → ((j : ℕ) → R j → P j ⊎ Q j) → ((j : ℕ) → P j → R j) → ((j : ℕ) → Q j → R j)
    → MarksMore a b P → MarksMore b c Q → MarksMore a c R
more_then a b c P Q R split left right first second = record {
  stays = λ j e. second.stays j (first.stays j e);
  added = λ j r. elim (split j r) [ inl p ↦ second.stays j (first.added j p) | inr q ↦ second.added j q ];
  only = λ j e. elim (second.only j e) [
    | inl k ↦ elim (first.only j k) [ inl m ↦ inl m | inr p ↦ inr (left j p) ]
    | inr q ↦ inr (right j q)
  ];
}

pub no_more : (a : List Bool) (P : ℕ → Type 0) → ((j : ℕ) → P j → ⊥) → MarksMore a a P
no_more a P none = record { stays = λ j e. e; added = λ j p. absurd (none j p); only = λ j e. inl e }

-- one number more
pub one_contained : (a b c : List Bool) (number : ℕ) (numbers : List ℕ) → MarksMore a b (Contains numbers) → MarksMore b c (λ j. j ≡ number) → MarksMore a c (Contains (numbers ++ number ∷ []))
one_contained a b c number numbers first second =
    more_then a b c (Contains numbers) (λ j. j ≡ number) (Contains (numbers ++ number ∷ []))
    (λ j has. elim (Rattle.std.proofs.lemmas.List.Elements.Contains-append_cases numbers (number ∷ []) j has) [
      | inl p ↦ inl p
      | inr q ↦ elim (contains_cases number j [] q) [ inl same ↦ inr (sym same) | inr none ↦ absurd (contains_none j none) ]
    ])
    (λ j has. Rattle.std.proofs.lemmas.List.Elements.Contains-append_left numbers (number ∷ []) j has)
    (λ j same. Rattle.std.proofs.lemmas.List.Elements.Contains-append_right numbers (number ∷ []) j (subst (λ k. Contains (number ∷ []) k) (sym same) (contains_head number [])))
    first second

-- one more at the end that is not marked
false_last : (a : List Bool) (j : ℕ) → is_kept (a ++ false ∷ []) j ≡ is_kept a j
false_last [] zero = refl
false_last [] (suc j) = refl
false_last (m ∷ a) zero = refl
false_last (m ∷ a) (suc j) = false_last a j

pub grown : (a : List Bool) → MarksMore a (a ++ false ∷ []) (λ j. ⊥)
grown a = record { stays = λ j e. false_last a j ∙ e; added = λ j none. absurd none; only = λ j e. inl (sym (false_last a j) ∙ e) }

pub same_marks : (a : List Bool) → MarksMore a a (λ j. ⊥)
same_marks a = no_more a (λ j. ⊥) (λ j none. none)

pub grown_more : (a b : List Bool) → MarksMore a b (λ j. ⊥) → MarksMore a (b ++ false ∷ []) (λ j. ⊥)
grown_more a b h =
    more_then a b (b ++ false ∷ []) (λ j. ⊥) (λ j. ⊥) (λ j. ⊥) (λ j none. absurd none) (λ j none. none) (λ j none. none) h (grown b)

pub none_grown : (b : List Bool) → MarksMore [] b (λ j. ⊥) → (j : ℕ) → is_kept b j ≡ true → ⊥
none_grown b h j e = elim (h.only j e) [ inl old ↦ nothing j old | inr none ↦ none ]
  where
    nothing : (j : ℕ) → is_kept [] j ≡ true → ⊥
    nothing j e = cc

pub one_behind : (a b c : List Bool) (number : ℕ) → MarksMore a b (λ j. ⊥) → MarksMore b c (λ j. j ≡ number) → MarksMore a c (λ j. j ≡ number)
one_behind a b c number first second =
    more_then a b c (λ j. ⊥) (λ j. j ≡ number) (λ j. j ≡ number) (λ j r. inr r) (λ j none. absurd none) (λ j q. q) first second

-- a command, its premises, and the last command of its scope
pub three_more : (proof : ProofItems ℕ ℕ) (i : ℕ) (a b c d : List Bool) (premises : List ℕ) → premises ≡ premises_at proof i → MarksMore a b (λ j. j ≡ i) → MarksMore b c (Contains premises)
    → MarksMore c d (IsLastUnder proof i) → MarksMore a d (λ j. (j ≡ i) ⊎ IsDirectlyUnder proof i j)
three_more proof i a b c d premises same first second third =
    more_then a b d (λ j. j ≡ i) (IsDirectlyUnder proof i) (λ j. (j ≡ i) ⊎ IsDirectlyUnder proof i j) (λ j r. r) (λ j e. inl e) (λ j u. inr u) first
    (more_then b c d (Contains premises) (IsLastUnder proof i) (IsDirectlyUnder proof i)
    (λ j u. elim u [ inl has ↦ inl (subst (λ ps. Contains ps j) (sym same) has) | inr last ↦ inr last ])
    (λ j has. inl (subst (λ ps. Contains ps j) same has)) (λ j last. inr last) second third)

-- what follows where a call succeeds
pub ok_then : {T E : Type 0} {A B : Type 0} (r : Result T E) → OnOk r A → (A → B) → OnOk r B
ok_then (Ok x) a f = f a
ok_then (Err e) a f = tt

pub ok_then_3 : {T E : Type 0} {A B C D : Type 0} (r : Result T E) → OnOk r A → OnOk r B → OnOk r C → (A → B → C → D) → OnOk r D
ok_then_3 (Ok x) a b c f = f a b c
ok_then_3 (Err e) a b c f = tt

pub if_ok_then : {T E : Type 0} {P Q : T → Type 0} (r : Result T E) → IfOk r P → ((x : T) → P x → Q x) → IfOk r Q
if_ok_then (Ok x) h f = f x h
if_ok_then (Err e) h f = tt
