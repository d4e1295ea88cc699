-- The arguments of anchors by the nodes of their items.
use Rattle.std.proofs.Common.{◌≡◌, ℕ, ◌+◌, ◌<◌, ◌≤◌, ◌∙◌, Bool, true, false, [], ◌∷◌, length, Option, Some, None, is_some, if◌then◌else◌, refl, sym, ap, arith}
use Rattle.std.specs.Prelude.{codes, nat_lt}
use Rattle.std.proofs.lemmas.Bool.Decides.{nat_tests}
use Rattle.sexpr.specs.Items.{Item, word, quoted, string, list, Items, no_items, item, place_of, symbol_name}
use Rattle.text_items.specs.declared.nodes.Node.{Node}
use Rattle.text_items.specs.ItemShapes.{name_at, symbol_fault, items_of}
use Rattle.text_items.specs.ItemsAt.{ItemsView, end_at, item_at, items_at}
use Rattle.text_items.specs.Keywords.{is_spelled}
use Rattle.text_items.specs.Spelling.{is_list_item}
use Rattle.text_items.specs.Stepping.{IsItemNode}
use Rattle.text_items.proofs.ItemsAtLemmas.{items_are, first_and_others, no_items_are}
use Rattle.text_items.proofs.ShapeLemmas.{list_is}
use Rattle.term_model.proofs.Basics.{or_none}
use Rattle.alethe_text.specs.Commands.{Argument, variable_alone, assigned, variable_fault, assigned_fault, argument_fault, each_argument_fault, assigned_to, argument_of, arguments_in}
use Rattle.alethe_commands.specs.declared.arguments.AnchorArgument.{AnchorArgument}
use Rattle.alethe_commands.specs.CommandNodes.{AreArgumentsAt, IsArgumentAt, HasFirstArgument}
use Rattle.alethe_commands.proofs.ShapesByNodes.{argument_inside, argument_by}

-- the argument by what stands in it
abbrev argument_in : ℕ → Items → Argument
argument_in place no_items = variable_alone place
argument_in place (item head no_items) = variable_alone place
argument_in place (item head (item x no_items)) = variable_alone place
argument_in place (item head (item x (item t rest))) = assigned_to place x t

said_by : (i : Item) → argument_of i ≡ argument_in (place_of i) (items_of i)
said_by (word p s) = refl
said_by (quoted p s) = refl
said_by (string p s) = refl
said_by (list p no_items) = refl
said_by (list p (item head no_items)) = refl
said_by (list p (item head (item x no_items))) = refl
said_by (list p (item head (item x (item t rest)))) = refl

alone_in : (place : ℕ) (head : Item) (rest : Items) → is_spelled (codes ":=") head ≡ false → argument_inside place (item head rest) ≡ None → argument_in place (item head rest) ≡ variable_alone place
alone_in place head no_items other e = refl
alone_in place head (item x no_items) other e = refl
alone_in place head (item x (item t rest)) other e = go (is_spelled (codes ":=") head) (is_some (symbol_name head)) other e
  where
    go : (a b : Bool) → a ≡ false → (if a then assigned_fault place (item x (item t rest)) else if b then Some (place_of t) else Some (place_of head)) ≡ None → assigned_to place x t ≡ variable_alone place
    go true b o e = cc
    go false true o e = cc
    go false false o e = cc

assigned_within : (place : ℕ) (head : Item) (rest : Items) → is_spelled (codes ":=") head ≡ true → argument_inside place (item head rest) ≡ None
    → assigned_fault place rest ≡ None
assigned_within place head no_items is e = e
assigned_within place head (item x rest) is e = rw is at e

plain_variable : (x : Item) → is_list_item x ≡ false → variable_fault x ≡ None → symbol_fault x ≡ None
plain_variable (word p s) plain e = e
plain_variable (quoted p s) plain e = e
plain_variable (string p s) plain e = e
plain_variable (list p items) plain e = cc

bare : (place : ℕ) (x t : Item) → is_list_item x ≡ false → assigned_to place x t ≡ assigned place (name_at x) None t
bare place (word p w) t e = refl
bare place (quoted p w) t e = refl
bare place (string p w) t e = refl
bare place (list p items) t e = cc

-- There are items where none would be a fault.
some_there : (items : ItemsView) (k m : ℕ) (fault : Items → Option ℕ) → (fault no_items ≡ None → ⊥) → fault (items_at items k m) ≡ None → k < m
some_there items k m fault faulty none = go (nat_lt k m) refl
  where
    go : (b : Bool) → nat_lt k m ≡ b → k < m
    go true is = grind (arith, nat_tests)
    go false is = absurd (faulty (sym (ap fault (no_items_are items k m (grind (arith, nat_tests)))) ∙ none))

module _ (items : ItemsView) (k : ℕ) (node : Node) (read : IsItemNode items k node) (fits : argument_fault (item_at items k) ≡ None) where
  inside_fits : argument_inside node.token.start (items_at items (k + 1) node.next) ≡ None
  inside_fits = rw (read.start, sym read.children) (sym (argument_by (item_at items k)) ∙ fits)

  inside_said : argument_of (item_at items k) ≡ argument_in node.token.start (items_at items (k + 1) node.next)
  inside_said = rw (read.start, sym read.children) (said_by (item_at items k))

  head_less : k + 1 < node.next
  head_less = some_there items (k + 1) node.next (argument_inside node.token.start) (λ e. cc) inside_fits

  pub head_inside : k + 1 < length items.nodes
  head_inside = omega (arith, head_less, read.inside)

  pub alone_at : is_spelled (codes ":=") (item_at items (k + 1)) ≡ false → IsArgumentAt items k (AnchorArgument.Alone node.token.start)
  alone_at other =
      let split = items_are items (k + 1) node.next head_less read.inside in
      record {
        same = inside_said ∙ ap (argument_in node.token.start) split ∙ alone_in node.token.start (item_at items (k + 1)) (items_at items (end_at items (k + 1)) node.next) other (sym (ap (argument_inside node.token.start) split) ∙ inside_fits);
        there = tt;
      }

  module _ (head : Node) (head_read : IsItemNode items (k + 1) head) (spelled : is_spelled (codes ":=") (item_at items (k + 1)) ≡ true) where
    split : items_at items (k + 1) node.next ≡ item (item_at items (k + 1)) (items_at items head.next node.next)
    split = first_and_others items (k + 1) node.next head head_read head_less read.inside

    rest_fits : assigned_fault node.token.start (items_at items head.next node.next) ≡ None
    rest_fits =
        assigned_within node.token.start (item_at items (k + 1)) (items_at items head.next node.next) spelled
        (sym (ap (argument_inside node.token.start) split) ∙ inside_fits)

    pair_less : head.next < node.next
    pair_less = some_there items head.next node.next (assigned_fault node.token.start) (λ e. cc) rest_fits

    pub pair_inside : head.next < length items.nodes
    pair_inside = omega (arith, pair_less, read.inside)

    module _ (pair : Node) (pair_read : IsItemNode items head.next pair) where
      split_pair : items_at items head.next node.next ≡ item (item_at items head.next) (items_at items pair.next node.next)
      split_pair = first_and_others items head.next node.next pair pair_read pair_less read.inside

      term_less : pair.next < node.next
      term_less = some_there items pair.next node.next (λ xs. assigned_fault node.token.start (item (item_at items head.next) xs)) (λ e. cc) (sym (ap (assigned_fault node.token.start) split_pair) ∙ rest_fits)

      rest_is : items_at items head.next node.next ≡ item (item_at items head.next) (item (item_at items pair.next) (items_at items (end_at items pair.next) node.next))
      rest_is = split_pair ∙ ap (item (item_at items head.next)) (items_are items pair.next node.next term_less read.inside)

      variable_fits : variable_fault (item_at items head.next) ≡ None
      variable_fits = (or_none (variable_fault (item_at items head.next)) _ (sym (ap (assigned_fault node.token.start) rest_is) ∙ rest_fits)).0

      assigned_at : argument_of (item_at items k) ≡ assigned_to node.token.start (item_at items head.next) (item_at items pair.next)
      assigned_at = inside_said ∙ ap (argument_in node.token.start) (split ∙ ap (item (item_at items (k + 1))) rest_is)

      pub plain_at : is_list_item (item_at items head.next) ≡ false → IsArgumentAt items k (AnchorArgument.Assigned node.token.start head.next None pair.next)
      plain_at plain = record {
        same = assigned_at ∙ bare node.token.start (item_at items head.next) (item_at items pair.next) plain;
        there = record {
          name_there = record { inside = pair_inside; symbol = plain_variable (item_at items head.next) plain variable_fits };
          sort_there = tt;
          term_there = omega (arith, term_less, read.inside);
        };
      }

      module _ (listed : is_list_item (item_at items head.next) ≡ true) where
        pair_is : item_at items head.next ≡ list (place_of (item_at items head.next)) (items_at items (head.next + 1) pair.next)
        pair_is = list_is (item_at items head.next) listed ∙ ap (list (place_of (item_at items head.next))) pair_read.children

        pair_fits : variable_fault (list (place_of (item_at items head.next)) (items_at items (head.next + 1) pair.next)) ≡ None
        pair_fits = sym (ap variable_fault pair_is) ∙ variable_fits

        name_less : head.next + 1 < pair.next
        name_less = some_there items (head.next + 1) pair.next (λ xs. variable_fault (list (place_of (item_at items head.next)) xs)) (λ e. cc) pair_fits

        pub name_inside : head.next + 1 < length items.nodes
        name_inside = omega (arith, name_less, pair_read.inside)

        pub sorted_at : (name : Node) → IsItemNode items (head.next + 1) name → IsArgumentAt items k (AnchorArgument.Assigned node.token.start (head.next + 1) (Some name.next) pair.next)
        sorted_at name name_read =
            let place = place_of (item_at items head.next) in
            let first = first_and_others items (head.next + 1) pair.next name name_read name_less pair_read.inside in
            let sort_less : name.next < pair.next =
            some_there items name.next pair.next (λ xs. variable_fault (list place (item (item_at items (head.next + 1)) xs))) (λ e. cc) (sym (ap (λ xs. variable_fault (list place xs)) first) ∙ pair_fits) in
            let both = first ∙ ap (item (item_at items (head.next + 1))) (items_are items name.next pair.next sort_less pair_read.inside) in
            record {
              same = assigned_at ∙ ap (λ x. assigned_to node.token.start x (item_at items pair.next)) (pair_is ∙ ap (list place) both);
              there = record {
                name_there = record { inside = name_inside; symbol = (or_none (symbol_fault (item_at items (head.next + 1))) _ (sym (ap (λ xs. variable_fault (list place xs)) both) ∙ pair_fits)).0 };
                sort_there = omega (arith, sort_less, pair_read.inside);
                term_there = omega (arith, term_less, read.inside);
              };
            }

module _ (items : ItemsView) (k m : ℕ) (h : AreArgumentsAt items k m) where
  pub no_arguments : m ≤ k → arguments_in (items_at items k m) ≡ []
  no_arguments e = ap arguments_in (no_items_are items k m e)

  module _ (less : k < m) (node : Node) (read : IsItemNode items k node) where
    first_split : items_at items k m ≡ item (item_at items k) (items_at items node.next m)
    first_split = first_and_others items k m node read less h.inside

    fits : (argument_fault (item_at items k) ≡ None) × (each_argument_fault (items_at items node.next m) ≡ None)
    fits = or_none (argument_fault (item_at items k)) (each_argument_fault (items_at items node.next m)) (sym (ap each_argument_fault first_split) ∙ h.fit)

    pub argument_fits : argument_fault (item_at items k) ≡ None
    argument_fits = fits.0

    pub first_argument : (said : AnchorArgument) → IsArgumentAt items k said → HasFirstArgument items k said node.next m
    first_argument said at = record {
      split = ap arguments_in first_split ∙ ap (λ a. a ∷ arguments_in (items_at items node.next m)) at.same;
      there = at.there;
      later = read.behind;
      inside = read.inside;
      others = record { inside = h.inside; fit = fits.1 };
    }
