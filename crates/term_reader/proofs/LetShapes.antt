-- The shapes of lets by the nodes of their items.
use Rattle.std.proofs.Common.{◌≡◌, ℕ, Some, refl, sym, ap, ◌∙◌, false}
use Rattle.sexpr.specs.Items.{Item, word, quoted, string, list, Items, no_items, item, place_of}
use Rattle.text_items.specs.ItemShapes.{pairs_fault}
use Rattle.problem_text.specs.Forms.{bindings_fault, let_fault}
use Rattle.text_items.specs.Spelling.{is_list_item}
use Rattle.text_items.specs.Stepping.{has_two}

-- an item that is no list
pub no_bindings_list : (i : Item) → is_list_item i ≡ false → bindings_fault i ≡ Some (place_of i)
no_bindings_list (word place spelling) e = refl
no_bindings_list (quoted place spelling) e = refl
no_bindings_list (string place spelling) e = refl
no_bindings_list (list place items) e = cc

pub no_bindings : (i : Item) (place : ℕ) → i ≡ list place no_items → bindings_fault i ≡ Some (place_of i)
no_bindings i place e = ap bindings_fault e ∙ ap (λ j. Some (place_of j)) (sym e)

pub some_bindings : (i : Item) (place : ℕ) (items : Items) → i ≡ list place items → (items ≡ no_items → ⊥) → bindings_fault i ≡ pairs_fault items
some_bindings i place no_items e some = absurd (some refl)
some_bindings i place (item first rest) e some = ap bindings_fault e

pub short_let : (place : ℕ) (items : Items) → has_two items ≡ false → let_fault place items ≡ Some place
short_let place no_items short = refl
short_let place (item x no_items) short = refl
short_let place (item x (item t rest)) short = cc
