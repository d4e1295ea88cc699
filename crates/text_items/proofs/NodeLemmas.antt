-- What the nodes of an item say: each of the item that begins with it, and all of the whole.
use Rattle.std.proofs.Common.{◌≡◌, ℕ, ◌+◌, ◌<◌, ◌≤◌, ◌∙◌, arith, Bool, true, false, List, length, slice_get, Some, refl, sym, ap, subst, None, Option}
use Rattle.std.specs.Prelude.{nat_eq, nat_lt}
use Rattle.std.proofs.lemmas.Bool.Decides.{nat_tests}
use Rattle.std.proofs.lemmas.Option.{slice_get_within}
use Rattle.sexpr.specs.declared.lexing.TokenKind.{TokenKind}
use Rattle.sexpr.specs.declared.lexing.TokenKind.TheVariants.{Open, Close, Text, Quoted, Word}
use Rattle.sexpr.specs.Tokens.{token_text}
use Rattle.sexpr.specs.Items.{Item, word, quoted, string, list, Items, no_items, item, place_of}
use Rattle.sexpr.specs.Spans.{IsListAt}
use Rattle.text_items.specs.declared.nodes.Node.{Node}
use Rattle.text_items.specs.ItemShapes.{items_of}
use Rattle.text_items.specs.ItemsAt.{ItemsView, end_by, end_in, item_of_token, item_of_node, item_at, items_at}
use Rattle.text_items.specs.Nesting.{IsNested, AreNested, AreItsNodes}
use Rattle.text_items.specs.Nodes.{HasNode, IsTokenNode, IsNode, AreNodes}
use Rattle.text_items.specs.Spelling.{is_list_item}
use Rattle.text_items.specs.Stepping.{BeginsItem, AreInside, IsItemNode, IsListThere}
use Rattle.text_items.proofs.ItemsAtLemmas.{item_is, items_are, no_items_are}
use Rattle.text_items.proofs.NodeRanges.{node_after, nodes_order}

module _ (source : List ℕ) (nodes : List Node) where
  abbrev view : ItemsView
  view = record { source = source; nodes = nodes }

  -- an item ends where its node says, where that is behind the node and within the nodes
  ends_there : (k : ℕ) (node : Node) → slice_get nodes k ≡ Some node → k < node.next → node.next ≤ length nodes → end_in nodes k ≡ node.next
  ends_there k node here behind inside = ap (end_by (length nodes) k) here ∙ clamped
    where
      clamped : end_by (length nodes) k (Some node) ≡ node.next
      clamped = omega arith

  begins_so : (kind : TokenKind) (place : ℕ) (spelling : List ℕ) (inside : Items) → (kind ≡ Close → ⊥) → BeginsItem kind spelling (item_of_token kind place spelling inside)
  begins_so Word place spelling inside opens = (refl, refl)
  begins_so Quoted place spelling inside opens = (refl, refl)
  begins_so Text place spelling inside opens = (refl, refl)
  begins_so Open place spelling inside opens = refl
  begins_so Close place spelling inside opens = absurd (opens refl)

  place_so : (kind : TokenKind) (place : ℕ) (spelling : List ℕ) (inside : Items) → place ≡ place_of (item_of_token kind place spelling inside)
  place_so Word place spelling inside = refl
  place_so Quoted place spelling inside = refl
  place_so Text place spelling inside = refl
  place_so Open place spelling inside = refl
  place_so Close place spelling inside = refl

  -- a list has in it what follows, and any other item ends behind its node
  inside_so : (kind : TokenKind) (place : ℕ) (spelling : List ℕ) (k next : ℕ) → ((kind ≡ Open → ⊥) → next ≡ k + 1) → (kind ≡ Close → ⊥) → items_of (item_of_token kind place spelling (items_at view (k + 1) next)) ≡ items_at view (k + 1) next
  inside_so Word place spelling k next alone opens = let e = alone (λ h. cc) in sym (no_items_are view (k + 1) next (omega arith))
  inside_so Quoted place spelling k next alone opens = let e = alone (λ h. cc) in sym (no_items_are view (k + 1) next (omega arith))
  inside_so Text place spelling k next alone opens = let e = alone (λ h. cc) in sym (no_items_are view (k + 1) next (omega arith))
  inside_so Open place spelling k next alone opens = refl
  inside_so Close place spelling k next alone opens = absurd (opens refl)

  alone_so : (kind : TokenKind) (place : ℕ) (spelling : List ℕ) (inside : Items) (k next : ℕ) → ((kind ≡ Open → ⊥) → next ≡ k + 1) → is_list_item (item_of_token kind place spelling inside) ≡ false → next ≡ k + 1
  alone_so Word place spelling inside k next alone h = alone (λ h. cc)
  alone_so Quoted place spelling inside k next alone h = alone (λ h. cc)
  alone_so Text place spelling inside k next alone h = alone (λ h. cc)
  alone_so Open place spelling inside k next alone h = cc
  alone_so Close place spelling inside k next alone h = cc

  -- the node of an item says what the item is
  pub node_read : (k : ℕ) (node : Node) → AreNested source nodes → slice_get nodes k ≡ Some node → IsItemNode view k node
  node_read k node nested here =
      let n = nested k node here in
      let ends = ends_there k node here n.behind n.inside in
      let made : item_at view k ≡ item_of_token node.token.kind node.token.start (token_text source node.token) (items_at view (k + 1) node.next) =
      item_is view k (slice_get_within nodes k node here) ∙ ap (λ o. item_of_node source o (items_at view (k + 1) (end_in nodes k))) here
      ∙ ap (λ m. item_of_token node.token.kind node.token.start (token_text source node.token) (items_at view (k + 1) m)) ends in
      record {
        next = sym ends;
        behind = n.behind;
        inside = n.inside;
        start = place_so node.token.kind node.token.start _ _ ∙ ap place_of (sym made);
        some = n.some;
        within = n.within;
        begins = subst (λ i. BeginsItem node.token.kind (token_text source node.token) i) (sym made) (begins_so node.token.kind node.token.start _ _ n.begins);
        children = ap items_of made ∙ inside_so node.token.kind node.token.start _ k node.next n.alone n.begins;
        alone = λ h. alone_so node.token.kind node.token.start _ _ k node.next n.alone (sym (ap is_list_item made) ∙ h);
        nested = λ j low high. n.nested j (omega arith) high;
      }

  -- the bytes of a list in another one
  pub list_there : (k : ℕ) (node : Node) → AreNested source nodes → slice_get nodes k ≡ Some node → 0 < k → node.token.kind ≡ Open → IsListThere view k (token_text source node.token)
  list_there k node nested here later opens =
      let n = nested k node here in
      record {
        at = node.token.start;
        end = node.token.end;
        inside = items_at view (k + 1) node.next;
        there = n.list_here later opens;
        same = refl;
        is = item_is view k (slice_get_within nodes k node here) ∙ ap (λ o. item_of_node source o (items_at view (k + 1) (end_in nodes k))) here
            ∙ ap (λ m. item_of_token node.token.kind node.token.start (token_text source node.token) (items_at view (k + 1) m)) (ends_there k node here n.behind n.inside)
            ∙ ap (λ q. item_of_token q node.token.start (token_text source node.token) (items_at view (k + 1) node.next)) opens;
      }

  -- nested nodes are those of items in items
  pub are_inside : AreNested source nodes → AreInside view
  are_inside nested = record { ends = λ k j later before. ends k j (slice_get nodes k) refl later before; alone = λ k inside h. alone k (slice_get nodes k) refl h }
    where
      ends : (k j : ℕ) (o : Option Node) → slice_get nodes k ≡ o → k < j → j < end_in nodes k → end_in nodes j ≤ end_in nodes k
      ends k j None e later before = let same : end_in nodes k ≡ k + 1 = ap (end_by (length nodes) k) e in absurd (omega arith)
      ends k j (Some node) e later before =
          let r = node_read k node nested e in
          let same = r.next in
          let within = r.nested j (omega arith) (omega arith) in
          omega arith

      alone : (k : ℕ) (o : Option Node) → slice_get nodes k ≡ o → is_list_item (item_at view k) ≡ false → end_in nodes k ≡ k + 1
      alone k None e h = ap (end_by (length nodes) k) e
      alone k (Some node) e h = let r = node_read k node nested e in sym r.next ∙ r.alone h

  -- an item whose nodes these are is the one at its node
  record IsThere (k : ℕ) (i : Item) (m : ℕ) : Type 0 where
    is : item_at view k ≡ i
    ends : end_in nodes k ≡ m

  token_there : (k m : ℕ) (kind : TokenKind) (place : ℕ) (spelling : List ℕ) → IsTokenNode source nodes k kind place spelling m → (i : Item) → ((inside : Items) → item_of_token kind place spelling inside ≡ i) → IsThere k i m
  token_there k m kind place spelling t i made =
      let ends = ends_there k t.node t.has.here (rw t.has.next t.has.behind) (rw t.has.next t.has.inside) in
      record {
        is = item_is view k (slice_get_within nodes k t.node t.has.here) ∙ ap (λ o. item_of_node source o (items_at view (k + 1) (end_in nodes k))) t.has.here
            ∙ ap (λ q. item_of_token q t.node.token.start (token_text source t.node.token) (items_at view (k + 1) (end_in nodes k))) t.has.same_kind
            ∙ ap (λ q. item_of_token kind q (token_text source t.node.token) (items_at view (k + 1) (end_in nodes k))) t.has.same_place
            ∙ ap (λ q. item_of_token kind place q (items_at view (k + 1) (end_in nodes k))) t.spelled ∙ made _;
        ends = ends ∙ t.has.next;
      }

  mutual
    item_there : (k : ℕ) (i : Item) (m : ℕ) → IsNode source nodes k i m → IsThere k i m
    item_there k (word place spelling) m h = token_there k m Word place spelling h _ (λ inside. refl)
    item_there k (quoted place spelling) m h = token_there k m Quoted place spelling h _ (λ inside. refl)
    item_there k (string place spelling) m h = token_there k m Text place spelling h _ (λ inside. refl)
    item_there k (list place items) m (node, has, are, at) =
        let ends = ends_there k node has.here (rw has.next has.behind) (rw has.next has.inside) ∙ has.next in
        record {
          is = item_is view k (slice_get_within nodes k node has.here) ∙ ap (λ o. item_of_node source o (items_at view (k + 1) (end_in nodes k))) has.here
              ∙ ap (λ q. item_of_token q node.token.start (token_text source node.token) (items_at view (k + 1) (end_in nodes k))) has.same_kind
              ∙ ap (λ q. list q (items_at view (k + 1) (end_in nodes k))) has.same_place
              ∙ ap (λ n. list place (items_at view (k + 1) n)) ends
              ∙ ap (list place) (items_there (k + 1) items m are has.inside);
          ends = ends;
        }

    items_there : (k : ℕ) (items : Items) (m : ℕ) → AreNodes source nodes k items m → m ≤ length nodes → items_at view k m ≡ items
    items_there k no_items m e inside = no_items_are view k m (omega arith)
    items_there k (item i others) m (n, is, are) inside =
        let first = item_there k i n is in
        let later = node_after source nodes k i n is in
        let ordered = nodes_order source nodes n others m are in
        items_are view k m (omega arith) inside ∙ ap (λ n. item (item_at view k) (items_at view n m)) first.ends
        ∙ ap (λ i. item i (items_at view n m)) first.is ∙ ap (item i) (items_there n others m are inside)

  ends_first : (k : ℕ) (i : Item) (m : ℕ) → IsNode source nodes k i m → (j : ℕ) → j ≡ k → end_in nodes j ≤ m
  ends_first k i m h j e = let ends : end_in nodes j ≡ m = ap (end_in nodes) e ∙ (item_there k i m h).ends in omega arith

  -- what begins in an item ends in it
  mutual
    ends_in_item : (k : ℕ) (i : Item) (m : ℕ) → IsNode source nodes k i m → (j : ℕ) → k ≤ j → j < m → end_in nodes j ≤ m
    ends_in_item k (word p s) m h j low high = let a = h.alone in ends_first k (word p s) m h j (omega arith)
    ends_in_item k (quoted p s) m h j low high = let a = h.alone in ends_first k (quoted p s) m h j (omega arith)
    ends_in_item k (string p s) m h j low high = let a = h.alone in ends_first k (string p s) m h j (omega arith)
    ends_in_item k (list p items) m h j low high = go (nat_eq j k) refl (λ later. ends_in_items (k + 1) items m h.2 j later high)
      where
        go : (b : Bool) → nat_eq j k ≡ b → (k + 1 ≤ j → end_in nodes j ≤ m) → end_in nodes j ≤ m
        go true e behind = ends_first k (list p items) m h j (grind (arith, nat_tests))
        go false e behind = behind (grind (arith, nat_tests))

    ends_in_items : (k : ℕ) (items : Items) (m : ℕ) → AreNodes source nodes k items m → (j : ℕ) → k ≤ j → j < m → end_in nodes j ≤ m
    ends_in_items k no_items m e j low high = absurd (omega arith)
    ends_in_items k (item i rest) m (n, is, are) j low high =
        let ordered = nodes_order source nodes n rest m are in
        go ordered (nat_lt j n) refl (λ less. ends_in_item k i n is j low less) (λ more. ends_in_items n rest m are j more high)
      where
        go : n ≤ m → (b : Bool) → nat_lt j n ≡ b → (j < n → end_in nodes j ≤ n) → (n ≤ j → end_in nodes j ≤ m) → end_in nodes j ≤ m
        go ordered true e first others = let less : j < n = grind (arith, nat_tests) in let h = first less in omega arith
        go ordered false e first others = others (grind (arith, nat_tests))

  -- each node of an item is nested
  nested_by : (k place m : ℕ) (kind : TokenKind) (first : Node) → HasNode source nodes k kind place m first → (kind ≡ Close → ⊥) → ((kind ≡ Open → ⊥) → m ≡ k + 1) → ((j : ℕ) → k < j → j < m → end_in nodes j ≤ m)
      → (0 < k → kind ≡ Open → IsListAt source first.token.start first.token.end (items_at view (k + 1) first.next)) → (j : ℕ) → j ≡ k → (node : Node) → slice_get nodes j ≡ Some node → IsNested source nodes j node
  nested_by k place m kind first has opens alone within at j e node here =
      let there : slice_get nodes j ≡ Some first = ap (λ q. slice_get nodes q) e ∙ has.here in
      let same : first ≡ node = cc (there, here) in
      subst (λ (n : Node). IsNested source nodes j n) same (record {
        some = has.some;
        within = has.within;
        begins = λ h. opens (sym has.same_kind ∙ h);
        behind = omega (arith, has.next, has.behind);
        inside = omega (arith, has.next, has.inside);
        alone = λ h. has.next ∙ alone (λ k. h (has.same_kind ∙ k)) ∙ ap (λ q. q + 1) (sym e);
        nested = λ i low high. let n = has.next in let w = within i (omega arith) (omega arith) in omega arith;
        list_here = λ some is_open. subst (λ q. IsListAt source first.token.start first.token.end (items_at view (q + 1) first.next)) (sym e) (at (subst (λ q. 0 < q) e some) (sym has.same_kind ∙ is_open));
      })

  nested_alone : (k place m : ℕ) (kind : TokenKind) (spelling : List ℕ) → IsTokenNode source nodes k kind place spelling m → (kind ≡ Close → ⊥) → (kind ≡ Open → ⊥) → (j : ℕ) → k ≤ j → j < m → (node : Node) → slice_get nodes j ≡ Some node → IsNested source nodes j node
  nested_alone k place m kind spelling h opens never j low high node here =
      let a = h.alone in nested_by k place m kind h.node h.has opens (λ no. a) (λ i low high. absurd (omega arith)) (λ some is_open. absurd (never is_open)) j (omega arith) node here

  mutual
    in_item : (k : ℕ) (i : Item) (m : ℕ) → IsNode source nodes k i m → (j : ℕ) → k ≤ j → j < m → (node : Node) → slice_get nodes j ≡ Some node → IsNested source nodes j node
    in_item k (word p s) m h j low high node here = nested_alone k p m Word s h (λ e. cc) (λ e. cc) j low high node here
    in_item k (quoted p s) m h j low high node here = nested_alone k p m Quoted s h (λ e. cc) (λ e. cc) j low high node here
    in_item k (string p s) m h j low high node here = nested_alone k p m Text s h (λ e. cc) (λ e. cc) j low high node here
    in_item k (list p items) m (first, has, are, at) j low high node here = go (nat_eq j k) refl (λ later. in_items (k + 1) items m are j later high node here)
      where
        list_here_of : 0 < k → IsListAt source first.token.start first.token.end (items_at view (k + 1) first.next)
        list_here_of some =
            subst (λ is. IsListAt source first.token.start first.token.end is) (sym (ap (λ n. items_at view (k + 1) n) has.next ∙ items_there (k + 1) items m are has.inside))
            (subst (λ n. IsListAt source n first.token.end items) (sym has.same_place) (at some))

        go : (b : Bool) → nat_eq j k ≡ b → (k + 1 ≤ j → IsNested source nodes j node) → IsNested source nodes j node
        go true e behind = nested_by k p m Open first has (λ h. cc) (λ no. absurd (no refl)) (λ i low high. ends_in_item k (list p items) m (first, has, are, at) i (omega arith) high)
            (λ some is_open. list_here_of some) j (grind (arith, nat_tests)) node here
        go false e behind = behind (grind (arith, nat_tests))

    in_items : (k : ℕ) (items : Items) (m : ℕ) → AreNodes source nodes k items m → (j : ℕ) → k ≤ j → j < m → (node : Node) → slice_get nodes j ≡ Some node → IsNested source nodes j node
    in_items k no_items m e j low high node here = absurd (omega arith)
    in_items k (item i rest) m (n, is, are) j low high node here =
        go (nat_lt j n) refl (λ less. in_item k i n is j low less node here) (λ more. in_items n rest m are j more high node here)
      where
        go : (b : Bool) → nat_lt j n ≡ b → (j < n → IsNested source nodes j node) → (n ≤ j → IsNested source nodes j node) → IsNested source nodes j node
        go true e first others = first (grind (arith, nat_tests))
        go false e first others = others (grind (arith, nat_tests))

  pub its_nodes : (i : Item) → IsNode source nodes 0 i (length nodes) → AreItsNodes source nodes i
  its_nodes i h =
      let there = item_there 0 i (length nodes) h in
      let later = node_after source nodes 0 i (length nodes) h in
      record {
        nested = λ k node here. in_item 0 i (length nodes) h k (omega arith) (slice_get_within nodes k node here) node here;
        some = later;
        item = there.is;
        whole = there.ends;
      }
