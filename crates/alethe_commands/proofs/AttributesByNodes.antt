-- The attributes of a step by the nodes of their items.
use Rattle.std.proofs.Common.{◌≡◌, ◌<◌, ◌≤◌, ℕ, ◌+◌, ◌∙◌, Bool, true, false, cond, List, [], ◌∷◌, ◌++◌, length, Option, Some, None, is_some, refl, sym, ap, arith}
use Rattle.std.specs.Prelude.{codes, bytes_eq, if◌then◌else◌, not, ◌&&◌, ◌==◌}
use Rattle.std.specs.Char.{is_ascii_digit}
use Rattle.sexpr.specs.Words.{is_keyword, is_symbol}
use Rattle.sexpr.specs.Items.{Item, word, quoted, string, list, Items, no_items, item, symbol_name}
use Rattle.text_items.specs.declared.keywords.Next.{Next}
use Rattle.text_items.specs.declared.keywords.Wanted.{Wanted}
use Rattle.text_items.specs.ItemShapes.{name_at, symbol_fault, items_of}
use Rattle.text_items.specs.ItemsAt.{ItemsView, end_at, item_at, items_at}
use Rattle.text_items.specs.Keywords.{is_spelled, keyword_of, after_known, after_keyword, after_item, next_fault, wanted_fault, misplaced, at_end, is_value, symbols_fault}
use Rattle.text_items.specs.Stepping.{EndBy}
use Rattle.text_items.proofs.ItemsAtLemmas.{items_are, no_items_are, ends_behind, ends_inside, end_by_rest}
use Rattle.term_model.proofs.Basics.{choice, or_none, unless_so}
use Rattle.alethe_text.specs.Commands.{Attribute, rule, premises, arguments, discharge, names_in, step_keywords, attribute_of, attribute_with, attributes_of}
use Rattle.alethe_commands.specs.declared.attributes.AttributeWord.{AttributeWord}
use Rattle.alethe_commands.specs.CommandNodes.{AreAttributesAt, attribute_said, IsAttributeThere, HasFirstAttribute, LiesWithin}
use Rattle.alethe_commands.specs.CommandShapes.{attribute_word, attribute_nodes, IsPassed}
use Rattle.alethe_commands.specs.UsualAttributes.{wants}

-- the attribute of a word and its value
abbrev attribute_with_word : AttributeWord → Item → Attribute
attribute_with_word AttributeWord.Rule v = rule (name_at v)
attribute_with_word AttributeWord.Premises v = premises (names_in (items_of v))
attribute_with_word AttributeWord.Arguments v = arguments (items_of v)
attribute_with_word AttributeWord.Discharge v = discharge (names_in (items_of v))

abbrev attributes_with : Item → Option AttributeWord → List Attribute
attributes_with v None = []
attributes_with v (Some w) = attribute_with_word w v ∷ []

by_word : (i v : Item) → attribute_of i v ≡ attributes_with v (attribute_word (keyword_of i))
by_word i v =
    choice (attributes_with v) (is_spelled (codes ":rule") i) _ _ _ _ refl
    (choice (attributes_with v) (is_spelled (codes ":premises") i) _ _ _ _ refl
    (choice (attributes_with v) (is_spelled (codes ":args") i) _ _ _ _ refl
    (choice (attributes_with v) (is_spelled (codes ":discharge") i) _ _ _ _ refl refl)))

abbrev after_word : Option AttributeWord → Next
after_word None = Next.Anything
after_word (Some w) = Next.Value (wants w)

value_after : (keyword : Option (List ℕ)) (w : AttributeWord) → attribute_word keyword ≡ Some w → after_keyword step_keywords keyword ≡ Next.Value (wants w)
value_after None w e = cc
value_after (Some name) w e = go (bytes_eq (codes ":rule") name) (bytes_eq (codes ":premises") name) (bytes_eq (codes ":args") name) (bytes_eq (codes ":discharge") name) ∙ ap after_word e
  where
    go : (a b c d : Bool)
        → after_known (cond a (Some (record { spelling = codes ":rule"; wants = Wanted.Name; once = true; needed = true }))
        (cond b (Some (record { spelling = codes ":premises"; wants = Wanted.Names; once = true; needed = false }))
        (cond c (Some (record { spelling = codes ":args"; wants = Wanted.AnyList; once = true; needed = false }))
        (cond d (Some (record { spelling = codes ":discharge"; wants = Wanted.Names; once = true; needed = false })) None))))
        ≡ after_word (cond a (Some AttributeWord.Rule) (cond b (Some AttributeWord.Premises) (cond c (Some AttributeWord.Arguments) (cond d (Some AttributeWord.Discharge) None))))
    go true b c d = refl
    go false true c d = refl
    go false false true d = refl
    go false false false true = refl
    go false false false false = refl

-- no keyword is a value that a word wants
plain_word : (w : List ℕ) → is_some (if is_symbol w then Some w else None) ≡ true → (if is_keyword w then Some w else None) ≡ None
plain_word [] e = refl
plain_word (b ∷ w) e = go (is_ascii_digit b) (b == 58) (b == 35) e
  where
    go : (d k h : Bool) → is_some (if not d && not k && not h then Some (b ∷ w) else None) ≡ true → (if k then Some (b ∷ w) else None) ≡ None
    go true true h e = cc
    go false true h e = cc
    go d false h e = refl

symbol_plain : (v : Item) → symbol_fault v ≡ None → keyword_of v ≡ None
symbol_plain (word p w) e = plain_word w (unless_so (is_some (symbol_name (word p w))) _ e)
symbol_plain (quoted p w) e = refl
symbol_plain (string p w) e = refl
symbol_plain (list p items) e = refl

names_plain : (v : Item) → wanted_fault Wanted.Names v ≡ None → keyword_of v ≡ None
names_plain (word p w) e = cc
names_plain (quoted p w) e = refl
names_plain (string p w) e = refl
names_plain (list p items) e = refl

list_plain : (v : Item) → wanted_fault Wanted.AnyList v ≡ None → keyword_of v ≡ None
list_plain (word p w) e = cc
list_plain (quoted p w) e = refl
list_plain (string p w) e = refl
list_plain (list p items) e = refl

pub value_plain : (w : AttributeWord) (v : Item) → wanted_fault (wants w) v ≡ None → keyword_of v ≡ None
value_plain AttributeWord.Rule v e = symbol_plain v e
value_plain AttributeWord.Premises v e = names_plain v e
value_plain AttributeWord.Arguments v e = list_plain v e
value_plain AttributeWord.Discharge v e = names_plain v e

no_attribute : (i : Item) (rest : Items) → keyword_of i ≡ None → attribute_with i rest ≡ []
no_attribute i no_items e = refl
no_attribute i (item v rest) e = by_word i v ∙ ap (λ o. attributes_with v (attribute_word o)) e

nodes_within : (w : AttributeWord) (k v m : ℕ) → k ≤ v → LiesWithin k (attribute_nodes w v m) m
nodes_within AttributeWord.Rule k v m h = tt
nodes_within AttributeWord.Premises k v m h = (omega (arith, h), omega arith)
nodes_within AttributeWord.Arguments k v m h = (omega (arith, h), omega arith)
nodes_within AttributeWord.Discharge k v m h = (omega (arith, h), omega arith)

listed_names : (v : Item) → wanted_fault Wanted.Names v ≡ None → symbols_fault (items_of v) ≡ None
listed_names (word p w) e = cc
listed_names (quoted p w) e = cc
listed_names (string p w) e = cc
listed_names (list p items) e = e

-- the value at node v is told by its nodes
module _ (items : ItemsView) (v m : ℕ) (inside : v < length items.nodes) (ends : m ≤ length items.nodes) (children : items_of (item_at items v) ≡ items_at items (v + 1) m) (nested : EndBy items (v + 1) m) where
  said : (w : AttributeWord) → attribute_with_word w (item_at items v) ≡ attribute_said items (attribute_nodes w v m)
  said AttributeWord.Rule = refl
  said AttributeWord.Premises = ap (λ xs. premises (names_in xs)) children
  said AttributeWord.Arguments = ap arguments children
  said AttributeWord.Discharge = ap (λ xs. discharge (names_in xs)) children

  nodes_there : (w : AttributeWord) → wanted_fault (wants w) (item_at items v) ≡ None → IsAttributeThere items (attribute_nodes w v m)
  nodes_there AttributeWord.Rule e = record { inside = inside; symbol = e }
  nodes_there AttributeWord.Premises e = record { inside = ends; symbols = sym (ap symbols_fault children) ∙ listed_names (item_at items v) e }
  nodes_there AttributeWord.Arguments e = record { inside = ends; nested = nested }
  nodes_there AttributeWord.Discharge e = record { inside = ends; symbols = sym (ap symbols_fault children) ∙ listed_names (item_at items v) e }

-- the first of the items, and the others, which have no fault
module _ (items : ItemsView) (k m : ℕ) (h : AreAttributesAt items k m) (less : k < m) where
  split : items_at items k m ≡ item (item_at items k) (items_at items (end_at items k) m)
  split = items_are items k m less h.inside

  fits : (next_fault h.next (item_at items k) ≡ None) × (misplaced step_keywords (after_item step_keywords (item_at items k)) (items_at items (end_at items k) m) ≡ None)
  fits = or_none (next_fault h.next (item_at items k)) _ (sym (ap (misplaced step_keywords h.next) split) ∙ h.fit)

  others_there : AreAttributesAt items (end_at items k) m
  others_there = record { inside = h.inside; nested = end_by_rest items k (end_at items k) m h.nested (let later = ends_behind items k in omega arith); next = after_item step_keywords (item_at items k); fit = fits.1; ended = sym (ap (λ xs. is_value (at_end step_keywords h.next xs)) split) ∙ h.ended }

module _ (items : ItemsView) (k m : ℕ) (h : AreAttributesAt items k m) (less : k < m) where
  others : AreAttributesAt items (end_at items k) m
  others = others_there items k m h less

  -- an item that is no attribute
  passed : attribute_with (item_at items k) (items_at items (end_at items k) m) ≡ [] → IsPassed items k (end_at items k) m
  passed none = record { same = ap attributes_of (split items k m h less) ∙ ap (λ xs. xs ++ attributes_of (items_at items (end_at items k) m)) none; others = others }

  pub last_passed : m ≤ end_at items k → IsPassed items k (end_at items k) m
  last_passed e = passed (ap (attribute_with (item_at items k)) (no_items_are items (end_at items k) m e))

  pub other_passed : None ≡ attribute_word (keyword_of (item_at items k)) → IsPassed items k (end_at items k) m
  other_passed none = passed (go (items_at items (end_at items k) m))
    where
      go : (xs : Items) → attribute_with (item_at items k) xs ≡ []
      go no_items = refl
      go (item v rest) = by_word (item_at items k) v ∙ ap (attributes_with v) (sym none)

  -- an attribute, whose value ends before node `next`
  pub attribute_found : (w : AttributeWord) → Some w ≡ attribute_word (keyword_of (item_at items k)) → (next : ℕ) → next ≡ end_at items (end_at items k) → end_at items k < m
      → items_of (item_at items (end_at items k)) ≡ items_at items (end_at items k + 1) next → EndBy items (end_at items k + 1) next
      → HasFirstAttribute items k (attribute_nodes w (end_at items k) next) (end_at items (end_at items k)) m
  unfolding others others_there
  attribute_found w judged next ends more children nested =
      let v = end_at items k in
      let value = item_at items v in
      let rest = items_at items (end_at items v) m in
      let value_split = split items v m others more in
      let behind = ends_behind items k in
      let later = ends_behind items v in
      let there : v < length items.nodes = omega (arith, more, h.inside) in
      let inside = ends_inside items v there in
      let value_fits : wanted_fault (wants w) value ≡ None = ap (λ (x : Next). next_fault x value) (sym (value_after (keyword_of (item_at items k)) w (sym judged))) ∙ (fits items v m others more).0 in
      record {
        split =
            ap attributes_of (split items k m h less)
            ∙ ap (λ xs. xs ++ attributes_of (items_at items v m)) (ap (attribute_with (item_at items k)) value_split ∙ by_word (item_at items k) value ∙ ap (attributes_with value) (sym judged))
            ∙ ap (λ xs. attribute_with_word w value ∷ attributes_of xs) value_split
            ∙ ap (λ xs. attribute_with_word w value ∷ (xs ++ attributes_of rest)) (no_attribute value rest (value_plain w value value_fits))
            ∙ ap (λ (a : Attribute). a ∷ attributes_of rest) (said items v next there (omega (arith, ends, inside)) children nested w);
        there = nodes_there items v next there (omega (arith, ends, inside)) children nested w value_fits;
        within = rw (sym ends) (nodes_within w k v next (omega (arith, behind)));
        later = omega (arith, behind, later);
        inside = h.nested v (omega (arith, behind)) more;
        others = others_there items v m others more;
      }
