-- Keys that come, and where those that are looked for stand.
use Rattle.std.proofs.Common.{◌≡◌, ◌⊎◌, inl, inr, ℕ, ◌+◌, List, [], ◌∷◌, ◌++◌, length, get_or, slice_get, Bool, true, false, if◌then◌else◌, Some, sym, ◌∙◌, ap, arith}
use Rattle.std.proofs.lemmas.List.{get_or_at, get_or_append_left}
use Rattle.std.proofs.lemmas.Option.{slice_get_within}
use Rattle.name_set.proofs.Positions.{slice_get-push_cases}
use Rattle.sym_table.specs.declared.cells.Symbol.{Symbol}
use Rattle.sym_table.specs.Cells.{is_function_key}
use Rattle.sym_table.specs.KeyPlaces.{ArePlaced}
use Rattle.sym_table.specs.Names.{Lacks, PlacesItem}
use Rattle.sym_table.proofs.Links.{length-push}
use Rattle.term_model.proofs.Lists.{slice_get-left, slice_get-last}

-- a function comes
pub ArePlaced-function : (all found : List Symbol) (places : List ℕ) (n : ℕ) → ArePlaced all found places → ArePlaced (all ++ Symbol.Function n ∷ []) found places
ArePlaced-function all found places n h = record {
  one_each = h.one_each;
  placed = λ i key e. slice_get-left all (Symbol.Function n ∷ []) _ key (h.placed i key e);
  complete = λ k key e other. go k key other (slice_get-push_cases all (Symbol.Function n) k key e);
}
  where
    go : (k : ℕ) (key : Symbol) → is_function_key key ≡ false → (slice_get all k ≡ Some key) ⊎ ((k ≡ length all) × (Symbol.Function n ≡ key)) → (i : ℕ) × (slice_get found i ≡ Some key)
    go k key other (inl e) = h.complete k key e other
    go k key other (inr e) =
        let clash : true ≡ false = ap is_function_key e.1 ∙ other in
        absurd cc

-- a key that is looked for comes
module _ (all found : List Symbol) (places : List ℕ) (key : Symbol) (h : ArePlaced all found places) where
  pub ArePlaced-key : ArePlaced (all ++ key ∷ []) (found ++ key ∷ []) (places ++ length all ∷ [])
  ArePlaced-key = record {
    one_each = length-push places (length all) ∙ ap (λ n. n + 1) h.one_each ∙ sym (length-push found key);
    placed = λ i x e. placed i x (slice_get-push_cases found key i x e);
    complete = λ k x e other. complete k x other (slice_get-push_cases all key k x e);
  }
    where
      placed : (i : ℕ) (x : Symbol) → (slice_get found i ≡ Some x) ⊎ ((i ≡ length found) × (key ≡ x)) → slice_get (all ++ key ∷ []) (get_or (places ++ length all ∷ []) i 0) ≡ Some x
      placed i x (inl e) =
          let within = slice_get_within found i x e in
          ap (slice_get (all ++ key ∷ [])) (get_or_append_left places (length all ∷ []) 0 i (let l = h.one_each in omega arith))
          ∙ slice_get-left all (key ∷ []) _ x (h.placed i x e)
      placed i x (inr e) =
          ap (slice_get (all ++ key ∷ [])) (get_or_at places (length all) [] 0 i (h.one_each ∙ sym e.0))
          ∙ slice_get-last all key ∙ ap Some e.1

      complete : (k : ℕ) (x : Symbol) → is_function_key x ≡ false → (slice_get all k ≡ Some x) ⊎ ((k ≡ length all) × (key ≡ x)) → (i : ℕ) × (slice_get (found ++ key ∷ []) i ≡ Some x)
      complete k x other (inl e) = let at = h.complete k x e other in (at.0, slice_get-left found (key ∷ []) at.0 x at.1)
      complete k x other (inr e) = (length found, slice_get-last found key ∙ ap Some e.1)

  -- one that is found nowhere is nowhere
  pub lacks_key : is_function_key key ≡ false → Lacks found key → Lacks all key
  lacks_key other lacks k e = let at = h.complete k key e other in lacks at.0 at.1

-- an item that made a list longer was nowhere, and stands last
pub new_item : {X : Type 0} (old new : List X) (k : ℕ) (x : X) (b : Bool) → PlacesItem old new k x → b ≡ true → length new ≡ length old + (if b then 1 else 0) → Lacks old x × (new ≡ old ++ x ∷ [])
new_item old new k x true (inl h) e l = absurd (let same = ap length h.1 in omega arith)
new_item old new k x true (inr h) e l = (h.0, h.2)
new_item old new k x false p e l = absurd cc
