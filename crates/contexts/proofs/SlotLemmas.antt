-- What slots say.
use Rattle.std.proofs.Common.{◌≡◌, ◌≢◌, ◌^◌, ◌+◌, ◌-◌, ℕ, replicate, Some, Result, Ok, Err, OnOk, OnErr, Bool, true, false, length, if◌then◌else◌, refl, sym, ◌∙◌, ap, arith}
use Rattle.std.specs.HashMap.{get, hash_map_len}
use Rattle.term_pool.proofs.NumberingLemmas.{zero_at}
use Rattle.contexts.specs.contracts.places.PlacePartialEq.TheImpl as places
use Rattle.contexts.specs.declared.memo.Memo.{Memo}
use Rattle.contexts.specs.declared.places.Place.{Place}
use Rattle.contexts.specs.declared.places.Place.TheVariants.{Term, Bindings}
use Rattle.contexts.specs.Remembering.{IsCopy, if_cell, found_at_slot, is_bare, reference_of, remembered, FindsNoMore, Remembers, RemembersNoMore}

pub copy_start : (memo : Memo) (n : ℕ) → IsCopy memo (replicate {A = ℕ} n 0)
copy_start memo n i x e = absurd (let none = ap if_cell (zero_at n i) in cc)

-- two that are bare and have one slot are one
pub bare_one : (p q : Place) → is_bare p ≡ true → is_bare q ≡ true → reference_of p - 2 ^ 30 ≡ reference_of q - 2 ^ 30 → p ≡ q
bare_one (Term r layer) (Term s inner) e f same = grind arith
bare_one (Term r layer) (Bindings s inner) e f same = absurd cc
bare_one (Bindings r layer) q e f same = absurd cc

-- what is remembered of a place, by whether it is bare
as_bare : (memo : Memo) (q : Place) → is_bare q ≡ true → remembered memo q ≡ found_at_slot memo (reference_of q - 2 ^ 30)
as_bare memo q e = ap (λ b. if b then found_at_slot memo (reference_of q - 2 ^ 30) else get (places.ghosts).eq memo.others q) e

as_other : (memo : Memo) (q : Place) → is_bare q ≡ false → remembered memo q ≡ get (places.ghosts).eq memo.others q
as_other memo q e = ap (λ b. if b then found_at_slot memo (reference_of q - 2 ^ 30) else get (places.ghosts).eq memo.others q) e

-- the cell of one slot more is remembered
module _ (old new : Memo) (same : new.others ≡ old.others) where
  kept_bare : FindsNoMore old new → RemembersNoMore old new
  kept_bare less q x e = go (is_bare q) refl
    where
      go : (b : Bool) → is_bare q ≡ b → remembered old q ≡ Some x
      go true is = as_bare old q is ∙ less (reference_of q - 2 ^ 30) x (sym (as_bare new q is) ∙ e)
      go false is = as_other old q is ∙ ap (λ m. get (places.ghosts).eq m q) (sym same) ∙ sym (as_other new q is) ∙ e

  noted_bare : (place : Place) (r : ℕ) → is_bare place ≡ true → found_at_slot new (reference_of place - 2 ^ 30) ≡ Some r → ((n x : ℕ) → n ≢ reference_of place - 2 ^ 30 → found_at_slot new n ≡ Some x → found_at_slot old n ≡ Some x) → length new.met.items ≡ length old.met.items + 1 → Remembers old new place r
  noted_bare place r bare here others more = record {
    here = as_bare new place bare ∙ here;
    others = λ q apart x e. go q apart x e (is_bare q) refl;
    size = let map = ap hash_map_len same in omega arith;
  }
    where
      go : (q : Place) → q ≢ place → (x : ℕ) → remembered new q ≡ Some x → (b : Bool) → is_bare q ≡ b → remembered old q ≡ Some x
      go q apart x e true is =
          as_bare old q is ∙ others (reference_of q - 2 ^ 30) x (λ slot. apart (bare_one q place is bare slot)) (sym (as_bare new q is) ∙ e)
      go q apart x e false is = as_other old q is ∙ ap (λ m. get (places.ghosts).eq m q) (sym same) ∙ sym (as_other new q is) ∙ e

  pub kept_where : {T E : Type 0} (r : Result T E) → OnErr r (FindsNoMore old new) → OnErr r (RemembersNoMore old new)
  kept_where (Ok v) h = tt
  kept_where (Err e) h = kept_bare h

  pub noted_where : {T E : Type 0} (result : Result T E) (place : Place) (r : ℕ) → is_bare place ≡ true → (slot : ℕ) → slot ≡ reference_of place - 2 ^ 30 → OnOk result (found_at_slot new slot ≡ Some r) → ((n x : ℕ) → n ≢ slot → found_at_slot new n ≡ Some x → found_at_slot old n ≡ Some x) → OnOk result (length new.met.items ≡ length old.met.items + 1) → OnOk result (Remembers old new place r)
  noted_where (Err e) place r bare slot is here others more = tt
  noted_where (Ok v) place r bare slot is here others more =
      noted_bare place r bare (ap (found_at_slot new) (sym is) ∙ here) (λ n x apart e. others n x (λ f. apart (f ∙ is)) e) more
