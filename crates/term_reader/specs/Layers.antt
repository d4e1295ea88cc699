-- Private. Forms as nodes spell them, and the tops of forms.
use Rattle.std.specs.Prelude.{◌≡◌, ℕ, ◌+◌, ◌<◌, ◌≤◌, List, length, true, is_some, IsTrue}
use Rattle.sexpr.specs.Items.{Item, Items, no_items, item, symbol_name}
use Rattle.text_items.specs.ItemShapes.{Name}
use Rattle.text_items.specs.ItemsAt.{ItemsView, end_at, item_at, items_at}
use Rattle.text_items.specs.Stepping.{EndBy, IsSymbolAt, name_in}
use Rattle.problem_text.specs.Forms.{Form, Forms, LetBinds, no_binds, bind, form_of, forms_of, names_after}
use Rattle.problem_text.specs.NamedItems.{is_named_item}

-- The nodes from k on, to before m, are some of the list's, and what begins there ends there.
pub record IsRange (items : ItemsView) (k m : ℕ) : Type 0 where
  pub before : k ≤ m
  pub inside : m ≤ length items.nodes
  pub nested : EndBy items k m

-- the form that the item at a node spells, and those of the items of a range
abbrev pub form_at : ItemsView → ℕ → Form
form_at items k = form_of (item_at items k)

abbrev pub forms_at : ItemsView → ℕ → ℕ → Forms
forms_at items k m = forms_of (items_at items k m)

-- The nodes from k on, up to m, are those of pairs that spell the bindings: the bracket, the variable, and the term.
abbrev pub AreBinds : ItemsView → ℕ → LetBinds → ℕ → Type 0
AreBinds items k no_binds m = k ≡ m
AreBinds items k (bind x f bs) m =
    IsSymbolAt items (k + 1) × (x ≡ name_in items (k + 1)) × (k + 2 < length items.nodes) × (f ≡ form_at items (k + 2)) ×
    AreBinds items (end_at items (k + 2)) bs m

-- after `:named` stands a symbol, all along a list of attributes
abbrev pub NamesAreSymbols : Item → Items → Type 0
NamesAreSymbols before no_items = Unit {0}
NamesAreSymbols before (item i rest) = (is_named_item before ≡ true → IsTrue (is_some (symbol_name i))) × NamesAreSymbols i rest

-- the names that the attributes give that stand from node k on, to before node m
abbrev pub names_at : ItemsView → ℕ → ℕ → List Name
names_at items k m = names_after (item_at items k) (items_at items (end_at items k) m)

-- they are one or more, in a shape without fault
pub record AreTermAttributes (items : ItemsView) (k m : ℕ) : Type 0 where
  pub some : k < m
  pub range : IsRange items k m
  pub named : NamesAreSymbols (item_at items k) (items_at items (end_at items k) m)
