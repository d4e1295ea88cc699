-- Private. What is found in lists of attributes and of bindings, and the parts of applications.
use Rattle.std.specs.Prelude.{◌≡◌, ℕ, ◌+◌, ◌<◌, ◌||◌, true, false, List, ◌∷◌, length}
use Rattle.sexpr.specs.Items.{Items, item, place_of}
use Rattle.text_items.specs.ItemShapes.{name_at}
use Rattle.text_items.specs.ItemsAt.{ItemsView, end_at, item_at, items_at}
use Rattle.text_items.specs.Spelling.{is_list_item}
use Rattle.text_items.specs.Stepping.{HasSecond, name_in, IsSymbolAt}
use Rattle.problem_text.specs.Forms.{Form, LetBinds, no_binds, bind, form_of, forms_of, binds_of, symbol_list_form}
use Rattle.problem_text.specs.Words.{is_among, is_built_in}
use Rattle.term_reader.specs.Layers.{names_at, AreTermAttributes}

-- The first of the names that attributes give stands at node `place`, and what stands from there to before node m gives the
-- others.
pub record IsFirstName (items : ItemsView) (k place m : ℕ) : Type 0 where
  pub split : names_at items k m ≡ name_in items place ∷ names_at items place m
  pub here : IsSymbolAt items place
  pub there : AreTermAttributes items place m

-- The item at node k is a list. It has a head and one argument or more, of which the first is at node `first`.
pub record IsApplied (items : ItemsView) (k first : ℕ) : Type 0 where
  pub inside : k < length items.nodes
  pub is : is_list_item (item_at items k) ≡ true
  pub second : HasSecond items (k + 1) first (end_at items k)

-- its arguments but the first, and all
abbrev pub others_of : ItemsView → ℕ → ℕ → Items
others_of items k first = items_at items (end_at items first) (end_at items k)

abbrev pub arguments_of : ItemsView → ℕ → ℕ → Items
arguments_of items k first = item (item_at items first) (others_of items k first)

-- what it spells, where its head is a symbol
abbrev pub applied_form : ItemsView → ℕ → ℕ → Form
applied_form items k first =
    symbol_list_form (place_of (item_at items k)) (name_at (item_at items (k + 1))) (arguments_of items k first)
    (form_of (item_at items first)) (forms_of (others_of items k first)) (binds_of (item_at items first))

-- The nodes from k on, up to m, are those of these bindings, and others before them have the names `earlier`. The first
-- pair whose variable is a built-in word or has a name that stands earlier is at node `place`; where there is none,
-- that is m.
abbrev pub IsFirstRepeat : ItemsView → ℕ → List (List ℕ) → LetBinds → ℕ → ℕ → Type 0
IsFirstRepeat items k earlier no_binds place m = place ≡ m
IsFirstRepeat items k earlier (bind x f bs) place m =
    ((is_built_in x.name || is_among earlier x.name) ≡ true → place ≡ k)
    × ((is_built_in x.name || is_among earlier x.name) ≡ false → IsFirstRepeat items (end_at items (k + 2)) (x.name ∷ earlier) bs place m)
