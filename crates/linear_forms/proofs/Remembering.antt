-- What is remembered of items where one more stands in the list.
use Rattle.std.proofs.Common.{◌≡◌, ◌≢◌, ℕ, zero, suc, ◌≤◌, Bool, true, false, if◌then◌else◌, List, [], ◌∷◌, ◌++◌, length, slice_index_or, Option, Some, refl, sym, ap, ◌∙◌, Decides, arith}
use Rattle.std.specs.HashMap.{get}
use Rattle.linear_forms.specs.contracts.memory.ItemPartialEq.TheImpl as items
use Rattle.linear_forms.specs.declared.memory.Item.{Item}
use Rattle.linear_forms.specs.declared.memory.Memo.{Memo}
use Rattle.linear_forms.specs.declared.memory.Numbered.{Numbered}
use Rattle.linear_forms.specs.Memos.{no_numbered, number_among, number_remembered, first_number, RemembersItem}
use Rattle.linear_forms.proofs.Graphing.{before, last, longer}
use Rattle.linear_forms.proofs.Walking.{decides_item}

-- whether items are equal
equal_same : (x : Item) → (items.ghosts).eq x x ≡ true
equal_same x = (decides_item x x).1 refl

equal_other : (x y : Item) → y ≢ x → (items.ghosts).eq x y ≡ false
equal_other x y h = go ((items.ghosts).eq x y) (decides_item x y)
  where
    go : (b : Bool) → Decides b (x ≡ y) → b ≡ false
    go true d = absurd (h (sym (d.0 refl)))
    go false d = refl

-- the numbers of the first items in a list that has one more
among_before : (ns : List Numbered) (p : Numbered) (k : ℕ) (y : Item) → k ≤ length ns → number_among (ns ++ p ∷ []) k y ≡ number_among ns k y
among_before ns p zero y h = refl
among_before ns p (suc k) y h =
    let same = before ns p no_numbered k (omega (arith, h)) in
    let rest = among_before ns p k y (omega (arith, h)) in
    ap (λ (n : Numbered). if (items.ghosts).eq n.item y then Some n.number else number_among (ns ++ p ∷ []) k y) same
    ∙ ap (λ (o : Option ℕ). if (items.ghosts).eq (slice_index_or ns k no_numbered).item y then Some (slice_index_or ns k no_numbered).number else o) rest

among_more : (ns : List Numbered) (p : Numbered) (y : Item) → number_among (ns ++ p ∷ []) (length (ns ++ p ∷ [])) y ≡ (if (items.ghosts).eq p.item y then Some p.number else number_among ns (length ns) y)
among_more ns p y =
    ap (λ n. number_among (ns ++ p ∷ []) n y) (longer ns p)
    ∙ (ap (λ (n : Numbered). if (items.ghosts).eq n.item y then Some n.number else number_among (ns ++ p ∷ []) (length ns) y) (last ns p no_numbered)
    ∙ ap (λ (o : Option ℕ). if (items.ghosts).eq p.item y then Some p.number else o) (among_before ns p (length ns) y (omega arith)))

-- one more in the list
pub noted_in_list : (old new : Memo) (x : Item) (k : ℕ) → new.few.items ≡ old.few.items ++ record { item = x; number = k } ∷ [] → new.others ≡ old.others → RemembersItem old new x k
noted_in_list old new x k few others = record {
  here = whole x ∙ ap (λ b. first_number (if b then Some k else number_among old.few.items (length old.few.items) x) (get (items.ghosts).eq old.others x)) (equal_same x);
  others = λ y other. whole y ∙ ap (λ b. first_number (if b then Some k else number_among old.few.items (length old.few.items) y) (get (items.ghosts).eq old.others y)) (equal_other x y other);
}
  where
    whole : (y : Item) → number_remembered new y ≡ first_number (if (items.ghosts).eq x y then Some k else number_among old.few.items (length old.few.items) y) (get (items.ghosts).eq old.others y)
    whole y =
        ap (λ (ns : List Numbered). first_number (number_among ns (length ns) y) (get (items.ghosts).eq new.others y)) few
        ∙ (ap (λ (o : Option ℕ). first_number o (get (items.ghosts).eq new.others y)) (among_more old.few.items (record { item = x; number = k }) y)
        ∙ ap (λ m. first_number (if (items.ghosts).eq x y then Some k else number_among old.few.items (length old.few.items) y) (get (items.ghosts).eq m y)) others)
