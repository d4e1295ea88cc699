-- Cited by crates above. Numbering cells: no cell has two numbers, so there are no more numbers than references.
use Rattle.std.proofs.Common.{◌≡◌, ◌≢◌, ℕ, suc, zero, ◌+◌, ◌-◌, ◌<◌, ◌≤◌, ◌^◌, ◌⊎◌, inl, inr, sym, ◌∙◌, ap, arith, List, [], ◌∷◌, ◌++◌, length, get_or, set, replicate, get_or-set_same, get_or-set_other, length-set, true, nat_eq, eqb, Option, Some, None, MatchOption}
use Rattle.std.specs.List.{list_any}
use Rattle.std.specs.Map.{update}
use Rattle.std.proofs.lemmas.Bool.{cases_eq, cases_lt}
use Rattle.std.proofs.lemmas.List.{length-replicate, get_or-replicate, get_or_past, get_or_append_left, get_or_push, length_push}
use Rattle.std.proofs.lemmas.Map.{update_here, update_apart}
use Rattle.std.proofs.lemmas.Map.Steps.{length-le_from_distinct_below}
use Rattle.term_model.proofs.Basics.{same_some}
use Rattle.term_pool.specs.declared.numbering.Numbering.{Numbering}
use Rattle.term_pool.specs.CellCounts.{Has, AreApart}
use Rattle.term_pool.specs.Numbering.{number_or_zero, number_in, HasNumber, HasNumberRoom, IsPlace, IsNumbering, IsFilled}
use Rattle.term_pool.proofs.Members.{AreDistinct, has_number, number_has, apart_from_distinct, any_has, distinct_from_apart}

pub cells_distinct : (n : Numbering) → IsNumbering n → AreDistinct 0 n.cells.items
cells_distinct n h i j l m e =
    let one = h.told i l in
    let two = h.told j m in
    same_some (sym one ∙ ap (number_in n.index) e ∙ two)

pub cells_apart : (n : Numbering) → IsNumbering n → AreApart n.cells.items
cells_apart n h = apart_from_distinct 0 n.cells.items (cells_distinct n h)

pub cell_inside : (n : Numbering) → IsNumbering n → (r : ℕ) → Has n.cells.items r → IsPlace n.places r
cell_inside n h r k =
    let found = has_number n.cells.items r k in rw (← found.1.1) (h.inside found.0 found.1.0)

pub few_cells : (n : Numbering) → IsNumbering n → length n.cells.items ≤ 2 ^ 30 + 2 ^ 26
few_cells n h =
    let below : (q : ℕ) → list_any (eqb q) n.cells.items ≡ true → q < 2 ^ 30 + n.places =
    λ q e. (cell_inside n h q (any_has n.cells.items q e)).inside in
    let le =
    length-le_from_distinct_below n.cells.items (2 ^ 30 + n.places)
    (distinct_from_apart n.cells.items (cells_apart n h)) below in
    let size = h.size in
    omega arith

pub no_cells : (n : Numbering) → n.places ≤ 2 ^ 26 → n.cells.items ≡ [] → ((r : ℕ) → number_in n.index r ≡ None) → ((r : ℕ) → HasNumberRoom n.index r) → IsNumbering n
no_cells n size empty none room = record {
  size = size;
  inside = λ k less. absurd (nothing k less);
  room = λ r place. room r;
  told = λ k less. absurd (nothing k less);
  only = λ r k high e. absurd (other (none r) e);
}
  where
    nothing : (k : ℕ) → k < length n.cells.items → ⊥
    nothing k less = absurd (omega (arith, ap length empty))

    other : {k : ℕ} {found : Option ℕ} → found ≡ None → found ≡ Some k → ⊥
    other e f = cc

pub number_told : (n : Numbering) → IsNumbering n → (r : ℕ) → IsPlace n.places r → (found : Option ℕ) → found ≡ number_in n.index r → MatchOption found (Has n.cells.items r → ⊥) (λ k. HasNumber n.cells.items k r)
number_told n h r place None e = absent
  where
    absent : Has n.cells.items r → ⊥
    absent k =
        let number = has_number n.cells.items r k in
        let told = h.told number.0 number.1.0 in
        let here = ap (number_in n.index) number.1.1 in
        absurd (cc)
number_told n h r place (Some k) e = h.only r k place.cell (sym e)

-- a vector of no numbers
pub zero_at : (n i : ℕ) → get_or {A = ℕ} (replicate {A = ℕ} n 0) i 0 ≡ 0
zero_at n i = go (cases_lt i n)
  where
    go : (i < n) ⊎ (n ≤ i) → get_or {A = ℕ} (replicate {A = ℕ} n 0) i 0 ≡ 0
    go (inl less) = get_or-replicate n i 0 0 less
    go (inr past) = get_or_past _ i 0 (omega (arith, length-replicate {A = ℕ} n 0))

pub fill_start : (n : ℕ) (cells : List ℕ) → IsFilled n cells 0 (replicate {A = ℕ} n 0)
fill_start n cells = record {
  long = length-replicate {A = ℕ} n 0;
  told = λ k less. absurd (omega arith);
  only = λ r k high e. absurd (never r k e);
}
  where
    never : (r k : ℕ) → get_or {A = ℕ} (replicate {A = ℕ} n 0) (r - 2 ^ 30) 0 ≡ suc k → ⊥
    never r k e = let none = zero_at n (r - 2 ^ 30) in omega arith

pub fill_step : (places : ℕ) (cells : List ℕ) → ((k : ℕ) → k < length cells → IsPlace places (get_or cells k 0)) → AreDistinct 0 cells → (k : ℕ) → k < length cells → (numbers : List ℕ) → IsFilled places cells k numbers → IsFilled places cells (k + 1) (set numbers (get_or cells k 0 - 2 ^ 30) (k + 1))
fill_step places cells inside distinct k less numbers h = record {
  long = length-set numbers (get_or cells k 0 - 2 ^ 30) (k + 1) ∙ h.long;
  told = λ j below. told j below (cases_eq j k);
  only = λ r j high e. only r j high e (cases_eq (r - 2 ^ 30) (get_or cells k 0 - 2 ^ 30));
}
  where
    here : IsPlace places (get_or cells k 0)
    here = inside k less

    room : get_or cells k 0 - 2 ^ 30 < length numbers
    room = let low = here.cell in let top = here.inside in let long = h.long in omega arith

    told :
        (j : ℕ) → j < k + 1 → (j ≡ k) ⊎ (j ≡ k → ⊥) →
        get_or (set numbers (get_or cells k 0 - 2 ^ 30) (k + 1)) (get_or cells j 0 - 2 ^ 30) 0 ≡ suc j
    told j below (inl same) =
        let last = get_or-set_same numbers (get_or cells k 0 - 2 ^ 30) (k + 1) 0 room in
        let one : k + 1 ≡ suc k = omega arith in
        rw same (last ∙ one)
    told j below (inr other) =
        let there = inside j (omega (arith, below, less, other)) in
        let low = here.cell in
        let high = there.cell in
        let apart : get_or cells j 0 - 2 ^ 30 ≢ get_or cells k 0 - 2 ^ 30 =
        λ e. other (distinct j k (omega (arith, below, less, other)) less (omega (arith, low, high, e))) in
        get_or-set_other numbers _ _ (k + 1) 0 apart ∙ h.told j (omega (arith, below, other))

    only :
        (r j : ℕ) → 2 ^ 30 ≤ r →
        get_or (set numbers (get_or cells k 0 - 2 ^ 30) (k + 1)) (r - 2 ^ 30) 0 ≡ suc j →
        (r - 2 ^ 30 ≡ get_or cells k 0 - 2 ^ 30) ⊎ (r - 2 ^ 30 ≡ get_or cells k 0 - 2 ^ 30 → ⊥) →
        (j < k + 1) × (get_or cells j 0 ≡ r)
    only r j high e (inl same) =
        let low = here.cell in
        let last = get_or-set_same numbers (get_or cells k 0 - 2 ^ 30) (k + 1) 0 room in
        let number : j ≡ k = omega (arith, rw same at e, last) in
        let there : get_or cells k 0 ≡ r = omega (arith, same, low, high) in
        (omega (arith, number), rw number there)
    only r j high e (inr other) =
        let before = h.only r j high (sym (get_or-set_other numbers _ _ (k + 1) 0 other) ∙ e) in
        (omega (arith, before.0), before.1)

-- numbers by place number the cells as the index did
pub numbers_by_place : (n m : Numbering) → IsNumbering n → m.places ≡ n.places → m.cells.items ≡ n.cells.items → (numbers : List ℕ) → ((r : ℕ) → number_in m.index r ≡ number_or_zero (get_or numbers (r - 2 ^ 30) 0)) → ((r : ℕ) → r < 2 ^ 30 + length numbers → HasNumberRoom m.index r) → IsFilled n.places n.cells.items (length n.cells.items) numbers → IsNumbering m
numbers_by_place n m h places cells numbers by room f = record {
  size = rw places h.size;
  inside = rw (places, cells) h.inside;
  room = λ r place. room r (let top = place.inside in let long = f.long in omega arith);
  told = rw cells (λ k less. by (get_or n.cells.items k 0) ∙ ap number_or_zero (f.told k less));
  only = rw cells (λ r k high e. f.only r k high (next _ k (sym (by r) ∙ e)));
}
  where
    next : (x k : ℕ) → number_or_zero x ≡ Some k → x ≡ suc k
    next zero k e = absurd (cc)
    next (suc x) k e = ap suc (same_some e)

-- one cell more, with the next number
pub next_cell : (n m : Numbering) → IsNumbering n → (r : ℕ) → IsPlace n.places r → (Has n.cells.items r → ⊥) → m.places ≡ n.places → m.cells.items ≡ n.cells.items ++ r ∷ [] → ((q : ℕ) → 2 ^ 30 ≤ q → number_in m.index q ≡ update nat_eq (number_in n.index) r (Some (length n.cells.items)) q) → ((q : ℕ) → HasNumberRoom n.index q → HasNumberRoom m.index q) → IsNumbering m
next_cell n m h r place new places cells found room = record {
  size = rw places h.size;
  inside = rw (places, cells) (λ k less. inside k less (old_or_last k less));
  room = rw places (λ q there. room q (h.room q there));
  told = rw cells (λ k less. told k less (old_or_last k less));
  only = rw cells (λ q k high e. only q k high e (cases_eq q r));
}
  where
    old : List ℕ
    old = n.cells.items

    old_or_last : (k : ℕ) → k < length (old ++ r ∷ []) → (k < length old) ⊎ (k ≡ length old)
    old_or_last k less = go (cases_lt k (length old))
      where
        go : (k < length old) ⊎ (length old ≤ k) → (k < length old) ⊎ (k ≡ length old)
        go (inl l) = inl l
        go (inr l) = inr (omega (arith, length_push old r))

    at_old : (k : ℕ) → k < length old → get_or (old ++ r ∷ []) k 0 ≡ get_or old k 0
    at_old k l = get_or_append_left old (r ∷ []) 0 k l

    at_last : (k : ℕ) → k ≡ length old → get_or (old ++ r ∷ []) k 0 ≡ r
    at_last k e = get_or_push old r 0 k (sym e)

    inside : (k : ℕ) → k < length (old ++ r ∷ []) → (k < length old) ⊎ (k ≡ length old) → IsPlace n.places (get_or (old ++ r ∷ []) k 0)
    inside k less (inl l) = rw (at_old k l) (h.inside k l)
    inside k less (inr e) = rw (at_last k e) place

    told : (k : ℕ) → k < length (old ++ r ∷ []) → (k < length old) ⊎ (k ≡ length old) → number_in m.index (get_or (old ++ r ∷ []) k 0) ≡ Some k
    told k less (inl l) =
        let other : get_or old k 0 ≢ r = λ e. new (number_has old k r (l, e)) in
        rw (at_old k l)
        (found (get_or old k 0) (h.inside k l).cell ∙ update_apart (number_in n.index) r (Some (length old)) (get_or old k 0) other ∙ h.told k l)
    told k less (inr e) =
        rw (at_last k e)
        (found r place.cell ∙ update_here (number_in n.index) r (Some (length old)) ∙ ap Some (sym e))

    only : (q k : ℕ) → 2 ^ 30 ≤ q → number_in m.index q ≡ Some k → (q ≡ r) ⊎ (q ≡ r → ⊥) → HasNumber (old ++ r ∷ []) k q
    only q k high e (inl same) =
        let here : Some (length old) ≡ Some k =
        sym (update_here (number_in n.index) r (Some (length old))) ∙ sym (found r place.cell) ∙ (rw same at e) in
        let last : k ≡ length old = sym (same_some here) in
        (omega (arith, length_push old r, last), at_last k last ∙ sym same)
    only q k high e (inr other) =
        let before =
        h.only q k high (sym (update_apart (number_in n.index) r (Some (length old)) q other) ∙ sym (found q high) ∙ e) in
        (omega (arith, length_push old r, before.0), at_old k before.0 ∙ before.1)
