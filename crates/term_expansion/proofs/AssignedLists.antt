-- Variables that are put in and taken away again, one by one.
use Rattle.std.proofs.Common.{◌≡◌, ℕ, ◌+◌, ◌-◌, ◌<◌, ◌≤◌, zero, suc, refl, sym, ◌∙◌, ap, arith, List, [], ◌∷◌, length, drop, get_or, Some, None, Bool, true, false, cond, eqb}
use Rattle.std.proofs.lemmas.List.{get_or_default}
use Rattle.term_model.proofs.Lists.{drop-whole}
use Rattle.term_pool.proofs.BuildingLemmas.{drop-at_number}
use Rattle.term_expansion.specs.Assigned.{assigned_for, term_of, assigned_all}
use Rattle.term_expansion.specs.declared.assignments.Assigned.{Assigned}

pub assign-start : (ks is : List ℕ) (outer : List Assigned) → outer ≡ assigned_all (drop (length ks) ks) (drop (length ks) is) outer
assign-start ks is outer = sym (ap (λ js. assigned_all js (drop (length ks) is) outer) (drop-whole ks))

pub assign-next : (ks is : List ℕ) (outer now new : List Assigned) (at i : ℕ) → length ks ≡ length is → 0 < at → at ≤ length ks → i ≡ get_or is (at - 1) i → now ≡ assigned_all (drop at ks) (drop at is) outer → new ≡ record { variable = get_or ks (at - 1) 0; term = i; outer = assigned_for (get_or ks (at - 1) 0) now } ∷ now → new ≡ assigned_all (drop (at - 1) ks) (drop (at - 1) is) outer
assign-next ks is outer now new at i same above within read so_far e =
    let inside : at - 1 < length is = omega arith in
    e
    ∙ ap (λ (j : ℕ). record { variable = get_or ks (at - 1) 0; term = j; outer = assigned_for (get_or ks (at - 1) 0) now } ∷ now) (read ∙ get_or_default is (at - 1) i 0 inside)
    ∙ ap (λ (o : List Assigned). record { variable = get_or ks (at - 1) 0; term = get_or is (at - 1) 0; outer = assigned_for (get_or ks (at - 1) 0) o } ∷ o) so_far
    ∙ sym (ap (λ js. assigned_all js (drop (at - 1) is) outer) (drop-at_number ks at above within)
    ∙ ap (λ js. assigned_all (get_or ks (at - 1) 0 ∷ drop at ks) js outer) (drop-at_number is at above (omega arith)))

pub assign-end : (ks is : List ℕ) (outer now : List Assigned) (at : ℕ) → at ≤ 0 → now ≡ assigned_all (drop at ks) (drop at is) outer → now ≡ assigned_all ks is outer
assign-end ks is outer now at none e =
    let zero_is : at ≡ 0 = omega arith in e ∙ ap (λ n. assigned_all (drop n ks) (drop n is) outer) zero_is

drop-tail : {X : Type 0} (n : ℕ) (xs zs : List X) (a : X) → drop n xs ≡ a ∷ zs → (drop (suc n) xs ≡ zs) × (length zs + suc n ≡ length xs)
drop-tail zero [] zs a e = absurd (cc)
drop-tail zero (x ∷ xs) zs a e = let f : xs ≡ zs = cc in (f, omega (arith, ap length f))
drop-tail (suc n) [] zs a e = absurd (cc)
drop-tail (suc n) (x ∷ xs) zs a e = let t = drop-tail n xs zs a e in (t.0, let f = t.1 in omega arith)

pub take_back-start : (xs : List Assigned) → xs ≡ drop (length xs - length xs) xs
take_back-start xs = let none : length xs - length xs ≡ 0 = omega arith in sym (ap (λ n. drop n xs) none)

pub take_back-next : (xs ys zs : List Assigned) (a : Assigned) → ys ≡ drop (length xs - length ys) xs → ys ≡ a ∷ zs → zs ≡ drop (length xs - length zs) xs
take_back-next xs ys zs a e f =
    let t = drop-tail (length xs - length ys) xs zs a (sym e ∙ f) in
    let counted = t.1 in
    let one : suc (length xs - length ys) ≡ length xs - length zs = omega arith in
    sym t.0 ∙ ap (λ n. drop n xs) one

pub take_back-end : (xs ys : List Assigned) (n : ℕ) → length ys ≡ n → ys ≡ drop (length xs - length ys) xs → ys ≡ drop (length xs - n) xs
take_back-end xs ys n e f = f ∙ ap (λ m. drop (length xs - m) xs) e

assigned_all-longer : (ks is : List ℕ) (outer : List Assigned) → length outer ≤ length (assigned_all ks is outer)
assigned_all-longer [] is outer = omega arith
assigned_all-longer (k ∷ ks) [] outer = omega arith
assigned_all-longer (k ∷ ks) (i ∷ is) outer = let h = assigned_all-longer ks is outer in omega arith

-- what was put in comes off
assigned_all-drop : (ks is : List ℕ) (outer : List Assigned) (n : ℕ) → n ≡ length (assigned_all ks is outer) - length outer → drop n (assigned_all ks is outer) ≡ outer
assigned_all-drop [] is outer n e = let none : n ≡ 0 = omega arith in ap (λ m. drop m outer) none
assigned_all-drop (k ∷ ks) [] outer n e = let none : n ≡ 0 = omega arith in ap (λ m. drop m outer) none
assigned_all-drop (k ∷ ks) (i ∷ is) outer n e = go n e (assigned_all-drop ks is outer) (assigned_all-longer ks is outer)
  where
    go : (n : ℕ) → n ≡ suc (length (assigned_all ks is outer)) - length outer → ((n : ℕ) → n ≡ length (assigned_all ks is outer) - length outer → drop n (assigned_all ks is outer) ≡ outer) → length outer ≤ length (assigned_all ks is outer) → drop n (assigned_all (k ∷ ks) (i ∷ is) outer) ≡ outer
    go zero f rest longer = absurd (omega arith)
    go (suc m) f rest longer = rest m (omega arith)

pub outside_is_left : (ks is : List ℕ) (outer now new : List Assigned) (n : ℕ) → now ≡ assigned_all ks is outer → n ≡ length outer → new ≡ drop (length now - n) now → new ≡ outer
outside_is_left ks is outer now new n e f g =
    g ∙ ap (λ xs. drop (length xs - n) xs) e ∙ ap (λ m. drop (length (assigned_all ks is outer) - m) (assigned_all ks is outer)) f
    ∙ assigned_all-drop ks is outer (length (assigned_all ks is outer) - length outer) refl

pub outside_within : (ks is : List ℕ) (outer now : List Assigned) (n : ℕ) → now ≡ assigned_all ks is outer → n ≡ length outer → n ≤ length now
outside_within ks is outer now n e f = let l = assigned_all-longer ks is outer in let m = ap length e in omega arith

pub assigned_same : (ks js is hs : List ℕ) (outer other : List Assigned) → ks ≡ js → is ≡ hs → outer ≡ other → assigned_all ks is outer ≡ assigned_all js hs other
assigned_same ks js is hs outer other e f g = ap (λ xs. assigned_all xs is outer) e ∙ ap (λ xs. assigned_all js xs outer) f ∙ ap (assigned_all js hs) g

-- what stands for a leaf, by what was found for it
pub term_found : (k i : ℕ) (assigned : List Assigned) → assigned_for k assigned ≡ Some i → term_of k assigned ≡ i
term_found k i [] e = absurd cc
term_found k i (a ∷ assigned) e = go (eqb a.variable k) e (term_found k i assigned)
  where
    go : (b : Bool) → cond b (Some a.term) (assigned_for k assigned) ≡ Some i → (assigned_for k assigned ≡ Some i → term_of k assigned ≡ i) → cond b a.term (term_of k assigned) ≡ i
    go true f rest = cc
    go false f rest = rest f

pub term_missed : (k : ℕ) (assigned : List Assigned) → assigned_for k assigned ≡ None → term_of k assigned ≡ k
term_missed k [] e = refl
term_missed k (a ∷ assigned) e = go (eqb a.variable k) e (term_missed k assigned)
  where
    go : (b : Bool) → cond b (Some a.term) (assigned_for k assigned) ≡ None → (assigned_for k assigned ≡ None → term_of k assigned ≡ k) → cond b a.term (term_of k assigned) ≡ k
    go true f rest = absurd cc
    go false f rest = rest f
