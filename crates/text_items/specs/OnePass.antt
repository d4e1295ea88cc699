-- Private. What one pass over attributes keeps: of each keyword that is known whether it stood.
use Rattle.std.specs.Prelude.{◌≡◌, ℕ, Bool, true, false, not, ◌&&◌, ◌||◌, if◌then◌else◌, List, [], ◌∷◌, bytes_eq, Option, Some, None, is_some}
use Rattle.sexpr.specs.Items.{Items}
use Rattle.text_items.specs.declared.keywords.Next.{Next}
use Rattle.text_items.specs.Keywords.{Known, is_value, at_end, misplaced, first_of, second_of, earlier, after_keyword}

-- a keyword that stood, among those that stood before
abbrev pub marked : List Known → List ℕ → List Bool → List Bool
marked [] name stood = stood
marked (k ∷ ks) name [] = []
marked (k ∷ ks) name (b ∷ bs) = (b || bytes_eq k.spelling name) ∷ marked ks name bs

-- it stood before, though it stands once at most; or a keyword is known of which nothing is kept
abbrev pub is_again : List Known → List ℕ → List Bool → Bool
is_again [] name stood = false
is_again (k ∷ ks) name [] = true
is_again (k ∷ ks) name (b ∷ bs) = (k.once && b && bytes_eq k.spelling name) || is_again ks name bs

-- a keyword that is needed did not stand and does not stand among these items
abbrev pub lacks_still : List Known → List Bool → Items → Bool
lacks_still [] stood items = false
lacks_still (k ∷ ks) [] items = k.needed && not (is_some (first_of k.spelling items)) || lacks_still ks [] items
lacks_still (k ∷ ks) (b ∷ bs) items = k.needed && not (b || is_some (first_of k.spelling items)) || lacks_still ks bs items

-- the first keyword that stands again among these items though it stands once at most
abbrev pub repeated_still : List Known → List Bool → Items → Option ℕ
repeated_still [] stood items = None
repeated_still (k ∷ ks) [] items = earlier (if k.once then second_of k.spelling items else None) (repeated_still ks [] items)
repeated_still (k ∷ ks) (b ∷ bs) items =
    earlier (if k.once then (if b then first_of k.spelling items else second_of k.spelling items) else None) (repeated_still ks bs items)

-- the fault that is still to come, where these items are left and those before them have none
abbrev pub fault_still : List Known → ℕ → List Bool → Next → Items → Option ℕ
fault_still known place stood next items =
    if is_value (at_end known next items) || lacks_still known stood items then Some place
    else earlier (misplaced known next items) (repeated_still known stood items)

-- a keyword that may stand, and what may stand behind it
pub record IsKeywordMarked (known : List Known) (name : List ℕ) (stood after : List Bool) : Type 0 where
  pub kept : after ≡ marked known name stood
  pub once : is_again known name stood ≡ false

abbrev pub AreMarked : List Known → Option (List ℕ) → List Bool → List Bool → Type 0
AreMarked known None stood after = after ≡ stood
AreMarked known (Some name) stood after = IsKeywordMarked known name stood after

-- an item of which this is the keyword is passed
pub record IsPassed (known : List Known) (word : Option (List ℕ)) (stood : List Bool) (next : Next) (after : List Bool) : Type 0 where
  pub goes : next ≡ after_keyword known word
  pub marks : AreMarked known word stood after
