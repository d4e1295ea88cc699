-- The nodes of an argument that gives a variable its term.
use Rattle.std.proofs.Common.{◌≡◌, ◌≤◌, ◌<◌, ◌+◌, ℕ, false, Option, sym, ap, ◌∙◌, arith}
use Rattle.sexpr.specs.Items.{Item, word, quoted, string, list, Items, no_items, item}
use Rattle.text_items.specs.declared.nodes.Node.{Node}
use Rattle.text_items.specs.ItemShapes.{Name, items_of}
use Rattle.text_items.specs.ItemsAt.{ItemsView, item_at, items_at}
use Rattle.text_items.specs.Stepping.{IsItemNode, HasSecond, has_two}
use Rattle.text_items.proofs.ItemsAtLemmas.{first_and_others, no_items_are}
use Rattle.alethe_text.specs.Commands.{assigned, assigned_to, argument_of}
use Rattle.text_items.specs.Keywords.{behind_first}

-- Behind its head stand a variable and this term.
record HasTerm (items : Items) (value : Item) : Type 0 where
  head : Item
  variable : Item
  rest : Items
  split : items ≡ item head (item variable (item value rest))

value_same : (place p : ℕ) (x t value : Item) (n : Name) (sort : Option Item) → assigned_to p x t ≡ assigned place n sort value → t ≡ value
value_same place p (word q w) t value n sort e = cc
value_same place p (quoted q w) t value n sort e = cc
value_same place p (string q w) t value n sort e = cc
value_same place p (list q no_items) t value n sort e = cc
value_same place p (list q (item y no_items)) t value n sort e = cc
value_same place p (list q (item y (item z rest))) t value n sort e = cc

has_term : (i : Item) (place : ℕ) (n : Name) (sort : Option Item) (value : Item) → argument_of i ≡ assigned place n sort value → HasTerm (items_of i) value
has_term (word p w) place n sort value e = absurd (cc)
has_term (quoted p w) place n sort value e = absurd (cc)
has_term (string p w) place n sort value e = absurd (cc)
has_term (list p no_items) place n sort value e = absurd (cc)
has_term (list p (item head no_items)) place n sort value e = absurd (cc)
has_term (list p (item head (item x no_items))) place n sort value e = absurd (cc)
has_term (list p (item head (item x (item t rest)))) place n sort value e =
    record { head = head; variable = x; rest = rest; split = ap (λ (u : Item). item head (item x (item u rest))) (value_same place p x t value n sort e) }

some_left : (items : ItemsView) (k m : ℕ) (i : Item) (rest : Items) → items_at items k m ≡ item i rest → k < m
some_left items k m i rest e = let some : ¬ (m ≤ k) = λ none. (let f = sym e ∙ no_items_are items k m none in absurd (cc)) in omega (arith, some)

module _ {items : ItemsView} {k : ℕ} {node : Node} (here : IsItemNode items k node) {place : ℕ} {n : Name} {sort : Option Item} {value : Item} (e : argument_of (item_at items k) ≡ assigned place n sort value) where
  found : HasTerm (items_of (item_at items k)) value
  found = has_term (item_at items k) place n sort value e

  pub head_left : k + 1 < node.next
  head_left = some_left items (k + 1) node.next found.head (item found.variable (item value found.rest)) (sym here.children ∙ found.split)

  module _ {head : Node} (at_head : IsItemNode items (k + 1) head) where
    behind_head : items_at items head.next node.next ≡ item found.variable (item value found.rest)
    behind_head = ap behind_first (sym (first_and_others items (k + 1) node.next head at_head head_left here.inside) ∙ (sym here.children ∙ found.split))

    pub no_term : has_two (items_at items head.next node.next) ≡ false → ⊥
    no_term none = let f = sym (ap has_two behind_head) ∙ none in cc

    pub term_is : (term : ℕ) → HasSecond items head.next term node.next → value ≡ item_at items term
    term_is term second = let f = sym behind_head ∙ second.split in cc

-- the term is there
pub ruleset term_found = (head_left, no_term)
