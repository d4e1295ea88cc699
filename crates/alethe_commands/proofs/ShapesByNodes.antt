-- The shapes of commands by the nodes of their items.
use Rattle.std.proofs.Common.{◌≡◌, ℕ, ◌+◌, ◌<◌, ◌≤◌, ◌≢◌, length, Bool, true, false, Option, Some, None, is_some, if◌then◌else◌, refl, sym, ap, ◌∙◌, arith}
use Rattle.std.specs.Prelude.{codes}
use Rattle.sexpr.specs.Items.{Item, word, quoted, string, list, Items, no_items, item, place_of, symbol_name}
use Rattle.text_items.specs.declared.nodes.Node.{Node}
use Rattle.text_items.specs.ItemShapes.{excess, items_of}
use Rattle.text_items.specs.ItemsAt.{ItemsView, end_at, item_at, items_at}
use Rattle.text_items.specs.Keywords.{is_spelled}
use Rattle.text_items.specs.Spelling.{is_list_item}
use Rattle.text_items.specs.Stepping.{HasSecond, IsItemNode}
use Rattle.text_items.proofs.ItemsAtLemmas.{items_are, no_items_are, first_and_others, end_by_rest}
use Rattle.alethe_text.specs.Commands.{is_symbol_of, clause_fault, assigned_fault, argument_fault, list_lacking}
use Rattle.text_items.specs.Keywords.{behind_first}
use Rattle.alethe_commands.specs.CommandShapes.{HasLiterals}

-- the clause and the argument by what stands in them
abbrev clause_inside : ℕ → Items → Option ℕ
clause_inside place no_items = Some place
clause_inside place (item head rest) = if is_symbol_of (codes "cl") head then None else Some (place_of head)

clause_by : (i : Item) → clause_fault i ≡ clause_inside (place_of i) (items_of i)
clause_by (word p s) = refl
clause_by (quoted p s) = refl
clause_by (string p s) = refl
clause_by (list p no_items) = refl
clause_by (list p (item head rest)) = refl

abbrev pub argument_inside : ℕ → Items → Option ℕ
argument_inside place (item head (item i rest)) =
    if is_spelled (codes ":=") head then assigned_fault place (item i rest)
    else if is_some (symbol_name head) then excess rest
    else Some (place_of head)
argument_inside place _ = Some place

pub argument_by : (i : Item) → argument_fault i ≡ argument_inside (place_of i) (items_of i)
argument_by (word p s) = refl
argument_by (quoted p s) = refl
argument_by (string p s) = refl
argument_by (list p no_items) = refl
argument_by (list p (item head no_items)) = refl
argument_by (list p (item head (item i rest))) = refl

symbol_no_list : (i : Item) → is_symbol_of (codes "cl") i ≡ true → is_list_item i ≡ false
symbol_no_list (word p s) e = refl
symbol_no_list (quoted p s) e = refl
symbol_no_list (string p s) e = refl
symbol_no_list (list p items) e = cc

module _ (items : ItemsView) (k : ℕ) (node : Node) (read : IsItemNode items k node) where
  nothing_in : k + 1 ≡ node.next → items_of (item_at items k) ≡ no_items
  nothing_in e = read.children ∙ no_items_are items (k + 1) node.next (omega (arith, e))

  pub no_clause : k + 1 ≡ node.next → Some node.token.start ≡ clause_fault (item_at items k)
  no_clause e = ap Some read.start ∙ sym (clause_by (item_at items k) ∙ ap (clause_inside (place_of (item_at items k))) (nothing_in e))

  by_inside : argument_fault (item_at items k) ≡ argument_inside node.token.start (items_at items (k + 1) node.next)
  by_inside = argument_by (item_at items k) ∙ ap (λ p. argument_inside p (items_of (item_at items k))) (sym read.start) ∙ ap (argument_inside node.token.start) read.children

  module _ (next : ℕ) (h : HasSecond items (k + 1) next node.next) where
    abbrev pub behind_head : Items
    behind_head = items_at items (end_at items next) node.next

    from_second : items_at items next node.next ≡ item (item_at items next) behind_head
    from_second = items_are items next node.next h.less read.inside

    two_in : argument_fault (item_at items k) ≡ argument_inside node.token.start (item (item_at items (k + 1)) (item (item_at items next) behind_head))
    two_in = by_inside ∙ ap (argument_inside node.token.start) h.split

    pub assigned_in : is_spelled (codes ":=") (item_at items (k + 1)) ≡ true
        → assigned_fault node.token.start (items_at items next node.next) ≡ argument_fault (item_at items k)
    assigned_in is = sym (rw is at two_in ∙ ap (assigned_fault node.token.start) (sym from_second))

  module _ (head : Node) (head_read : IsItemNode items (k + 1) head) (differs : k + 1 ≢ node.next) where
    pub head_in : items_of (item_at items k) ≡ item (item_at items (k + 1)) (items_at items head.next node.next)
    head_in = read.children ∙ first_and_others items (k + 1) node.next head head_read (omega (arith, differs, read.behind)) read.inside

    pub clause_head : (b : Bool) → b ≡ is_symbol_of (codes "cl") (item_at items (k + 1)) → (if b then None else Some head.token.start) ≡ clause_fault (item_at items k)
    clause_head b judged =
        ap (λ p. if b then None else Some p) head_read.start ∙ ap (λ b. if b then None else Some (place_of (item_at items (k + 1)))) judged
        ∙ sym (clause_by (item_at items k) ∙ ap (clause_inside (place_of (item_at items k))) head_in)

    pub literals : is_symbol_of (codes "cl") (item_at items (k + 1)) ≡ true → HasLiterals items k
    literals is =
        let alone = head_read.alone (symbol_no_list (item_at items (k + 1)) is) in
        let next : head.next ≡ k + 2 = omega (arith, alone) in
        record {
          inside = omega (arith, read.next, read.behind, differs);
          same = ap behind_first head_in ∙ ap (λ n. items_at items n node.next) next ∙ ap (items_at items (k + 2)) read.next;
          nested = rw (sym read.next) (end_by_rest items (k + 1) (k + 2) node.next read.nested (omega arith));
        }

-- one item alone, or more of them
module _ (items : ItemsView) (place k m : ℕ) (head : Node) (read : IsItemNode items k head) (less : k < m) (within : m ≤ length items.nodes) where
  split : items_at items k m ≡ item (item_at items k) (items_at items head.next m)
  split = first_and_others items k m head read less within

  pub more_behind : head.next < m → None ≡ list_lacking place (items_at items k m)
  more_behind more = sym (ap (list_lacking place) (split ∙ ap (item (item_at items k)) (items_are items head.next m more within)))

  pub alone_lacks : m ≤ head.next → (b : Bool) → b ≡ is_spelled (codes ":args") (item_at items k)
      → (if b then Some place else None) ≡ list_lacking place (items_at items k m)
  alone_lacks last b judged =
      ap (λ b. if b then Some place else None) judged
      ∙ sym (ap (list_lacking place) (split ∙ ap (item (item_at items k)) (no_items_are items head.next m last)))
