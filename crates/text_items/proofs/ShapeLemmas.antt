-- Cited by crates above. The shapes of lists: the first fault among those of their items.
use Rattle.std.proofs.Common.{◌≡◌, ℕ, Option, Some, None, is_some, refl, sym, ap, ◌∙◌, true, false}
use Rattle.std.specs.Option.{option_or}
use Rattle.sexpr.specs.Items.{Item, word, quoted, string, list, place_of}
use Rattle.text_items.specs.ItemShapes.{items_of}
use Rattle.text_items.specs.Spelling.{is_list_item}

pub passed : (o : Option ℕ) → is_some o ≡ false → (others : Option ℕ) → option_or o others ≡ others
passed None h others = refl
passed (Some n) h others = cc

pub stays : (o : Option ℕ) → is_some o ≡ true → (others : Option ℕ) → o ≡ option_or o others
stays None h others = cc
stays (Some n) h others = refl

-- a fault that was found is the first of all
pub fault_stops : (whole first fault others : Option ℕ) → whole ≡ option_or first others → fault ≡ first → is_some fault ≡ true → fault ≡ whole
fault_stops whole first fault others h same there = stays fault there others ∙ ap (λ f. option_or f others) same ∙ sym h

-- where there is none, the first of all is among the others
pub fault_passes : (whole first fault others : Option ℕ) → whole ≡ option_or first others → fault ≡ first → is_some fault ≡ false → whole ≡ others
fault_passes whole first fault others h same none = h ∙ ap (λ f. option_or f others) (sym same) ∙ passed fault none others

-- an item that is a list is its place and what stands in it
pub list_is : (i : Item) → is_list_item i ≡ true → i ≡ list (place_of i) (items_of i)
list_is (word place spelling) e = cc
list_is (quoted place spelling) e = cc
list_is (string place spelling) e = cc
list_is (list place items) e = refl
