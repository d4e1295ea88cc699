-- Attributes by the nodes of their items.
use Rattle.std.proofs.Common.{◌≡◌, ℕ, ◌<◌, ◌≤◌, arith, [], ◌∷◌, cond, ap, ◌∙◌, subst, Bool, true, false}
use Rattle.std.specs.Prelude.{is_some, Some, None, if◌then◌else◌}
use Rattle.sexpr.specs.Items.{Item, item, place_of, symbol_name}
use Rattle.text_items.specs.ItemShapes.{symbol_fault}
use Rattle.text_items.specs.ItemsAt.{ItemsView, end_at, item_at, items_at}
use Rattle.problem_text.specs.Forms.{names_after}
use Rattle.problem_text.specs.NamedItems.{is_named_item}
use Rattle.text_items.specs.Stepping.{name_in}
use Rattle.term_reader.specs.Layers.{NamesAreSymbols, names_at, AreTermAttributes}
use Rattle.term_reader.specs.Shapes.{IsFirstName}
use Rattle.text_items.proofs.ItemsAtLemmas.{items_are, no_items_are}
use Rattle.term_reader.proofs.FormSteps.{range_on}

module _ (items : ItemsView) (k m : ℕ) (a : AreTermAttributes items k m) where
  pub names_end : m ≤ end_at items k → names_at items k m ≡ []
  names_end last = ap (names_after (item_at items k)) (no_items_are items (end_at items k) m last)

  -- the next of them
  abbrev next : ℕ
  next = end_at items k

  split : next < m → items_at items next m ≡ item (item_at items next) (items_at items (end_at items next) m)
  split less = items_are items next m less a.range.inside

  symbols : next < m → NamesAreSymbols (item_at items k) (item (item_at items next) (items_at items (end_at items next) m))
  symbols less = subst (NamesAreSymbols (item_at items k)) (split less) a.named

  pub others : next < m → AreTermAttributes items next m
  others less = record { some = less; range = range_on items k m a.range a.some; named = (symbols less).1 }

  names_by : next < m → (b : Bool) → is_named_item (item_at items k) ≡ b → names_at items k m ≡ cond b (name_in items next ∷ names_at items next m) (names_at items next m)
  names_by less b is = ap (names_after (item_at items k)) (split less) ∙ ap (λ t. cond t (name_in items next ∷ names_at items next m) (names_at items next m)) is

  pub names_on : next < m → is_named_item (item_at items k) ≡ false → names_at items k m ≡ names_at items next m
  names_on less is = names_by less false is

  pub names_stop : (first : ℕ) → names_at items first m ≡ names_at items k m → next < m → is_named_item (item_at items k) ≡ true → IsFirstName items first next m
  names_stop first same less is =
      let inside = a.range.inside in
      record {
        split = same ∙ names_by less true is;
        here = record { inside = omega arith; symbol = is_symbol (item_at items next) ((symbols less).0 is) };
        there = others less;
      }
    where
      is_symbol : (i : Item) → is_some (symbol_name i) ≡ true → symbol_fault i ≡ None
      is_symbol i e = ap (λ (b : Bool). if b then None else Some (place_of i)) e
