-- Private. Three items in a list.
use Rattle.std.specs.Prelude.{ℕ, Option, Some, None}
use Rattle.sexpr.specs.Items.{Item, Items, no_items, item}
use Rattle.text_items.specs.ItemsAt.{ItemsView, item_at}
use Rattle.coefficients.specs.declared.shapes.Places.{Places}

pub record Three : Type 0 where
  pub head : Item
  pub num : Item
  pub den : Item

abbrev pub three_of : Items → Option Three
three_of (item head (item n (item d no_items))) = Some (record { head = head; num = n; den = d })
three_of other = None

-- the items at a node and at these places
abbrev pub three_at : ItemsView → ℕ → Places → Three
three_at items first p = record { head = item_at items first; num = item_at items p.second; den = item_at items p.third }
