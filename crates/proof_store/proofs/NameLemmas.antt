-- The set of names.
use Rattle.std.proofs.Common.{◌≡◌, ℕ, Bool, true, false, List, [], ◌∷◌, ◌++◌, map, slice_get, Some, sym, ◌∙◌, ap, Vec, if◌then◌else◌}
use Rattle.std.specs.declared.alloc.Global.{Global}
use Rattle.std.specs.Option.{option_map}
use Rattle.std.specs.List.{list_any}
use Rattle.std.specs.Str.{bytes_eq}
use Rattle.std.proofs.lemmas.Slice.Eq.{bytes_eq-Decides}
use Rattle.std.proofs.lemmas.List.{map-append}
use Rattle.std.proofs.lemmas.Option.{slice_get-map, slice_get_within}
use Rattle.indexmap.specs.IndexSet.{insert_key}
use Rattle.sym_table.proofs.Lists.{slice_get-kept}

abbrev pub texts : List (Vec ℕ Global) → List (List ℕ)
texts keys = map (λ name. name.items) keys

-- the key at a place is the name, where the test says that they are equal
pub stored_name : (keys : List (Vec ℕ Global)) (k : ℕ) (value : Vec ℕ Global) (stored : (key : Vec ℕ Global) × (slice_get keys k ≡ Some key) × (bytes_eq value.items key.items ≡ true)) → slice_get (texts keys) k ≡ Some value.items
stored_name keys k value (key, at, same) =
    slice_get-map (λ name. name.items) keys k ∙ (ap (option_map (λ (name : Vec ℕ Global). name.items)) at ∙ ap Some (sym ((bytes_eq-Decides value.items key.items).0 same)))

-- a name that is there stays
pub kept_name : (eq : Vec ℕ Global → Vec ℕ Global → Bool) (keys : List (Vec ℕ Global)) (value : Vec ℕ Global) (k : ℕ) (x : List ℕ) → slice_get (texts keys) k ≡ Some x → slice_get (texts (insert_key eq keys value)) k ≡ Some x
kept_name eq keys value k x h = go (list_any (eq value) keys)
  where
    go : (b : Bool) → slice_get (texts (if b then keys else keys ++ value ∷ [])) k ≡ Some x
    go true = h
    go false = rw (map-append (λ name. name.items) keys (value ∷ [])) (slice_get-kept (texts keys) _ k (slice_get_within (texts keys) k x h) ∙ h)
