-- Items as ranges of nodes: what is pushed behind them, or set outside of them, changes nothing.
use Rattle.std.proofs.Common.{◌≡◌, ℕ, zero, suc, ◌+◌, ◌<◌, ◌≤◌, arith, List, [], ◌∷◌, ◌++◌, length, length-append, Some, refl, sym, ap, ◌∙◌, subst, slice_get, slice_set}
use Rattle.std.proofs.Math.ListN.{length-set}
use Rattle.sexpr.specs.declared.lexing.Token.{Token}
use Rattle.sexpr.specs.declared.lexing.TokenKind.{TokenKind}
use Rattle.sexpr.specs.Items.{Item, word, quoted, string, list, Items, no_items, item}
use Rattle.text_items.specs.declared.nodes.Node.{Node}
use Rattle.text_items.specs.Nodes.{HasNode, IsTokenNode, IsNode, AreNodes}
use Rattle.text_items.specs.Adding.{pushed}

-- these items and then those
abbrev pub joined : Items → Items → Items
joined no_items back = back
joined (item x front) back = item x (joined front back)

pub joined_assoc : (front : Items) (x : Item) (back : Items) → joined front (item x back) ≡ joined (joined front (item x no_items)) back
joined_assoc no_items x back = refl
joined_assoc (item y front) x back = ap (item y) (joined_assoc front x back)

pub joined_none : (front : Items) → joined front no_items ≡ front
joined_none no_items = refl
joined_none (item x front) = ap (item x) (joined_none front)

-- the nodes from a on, to before b, are the same in both lists
abbrev pub Kept : List Node → List Node → ℕ → ℕ → Type 0
Kept old new a b = (k : ℕ) → a ≤ k → k < b → slice_get new k ≡ slice_get old k

module _ (source : List ℕ) where
  -- an item has a node or more
  pub node_after : (nodes : List Node) (k : ℕ) (i : Item) (m : ℕ) → IsNode source nodes k i m → k < m
  node_after nodes k (word place spelling) m is = is.has.behind
  node_after nodes k (quoted place spelling) m is = is.has.behind
  node_after nodes k (string place spelling) m is = is.has.behind
  node_after nodes k (list place items) m is = is.1.behind

  pub nodes_order : (nodes : List Node) (k : ℕ) (items : Items) (m : ℕ) → AreNodes source nodes k items m → k ≤ m
  nodes_order nodes k no_items m same = omega arith
  nodes_order nodes k (item i others) m (n, is, are) =
      let first = node_after nodes k i n is in
      let later = nodes_order nodes n others m are in
      omega arith

  -- one item more
  pub nodes_more : (nodes : List Node) (k : ℕ) (items : Items) (m : ℕ) (x : Item) (n : ℕ) → AreNodes source nodes k items m → IsNode source nodes m x n → AreNodes source nodes k (joined items (item x no_items)) n
  nodes_more nodes k no_items m x n same is = (n, subst (λ j. IsNode source nodes j x n) (sym same) is, refl)
  nodes_more nodes k (item y others) m x n (j, first, are) is = (j, first, nodes_more nodes j others m x n are is)

module _ (source : List ℕ) (old new : List Node) (a b : ℕ) (same : Kept old new a b) (longer : length old ≤ length new) where
  has_kept : (k : ℕ) (kind : TokenKind) (place m : ℕ) (node : Node) → a ≤ k → m ≤ b → HasNode source old k kind place m node → HasNode source new k kind place m node
  has_kept k kind place m node low high has =
      let behind = has.behind in
      record {
        here = same k low (omega arith) ∙ has.here;
        same_kind = has.same_kind;
        same_place = has.same_place;
        some = has.some;
        within = has.within;
        next = has.next;
        behind = has.behind;
        inside = omega (arith, has.inside);
      }

  token_kept : (k : ℕ) (kind : TokenKind) (place : ℕ) (spelling : List ℕ) (m : ℕ) → a ≤ k → m ≤ b → IsTokenNode source old k kind place spelling m → IsTokenNode source new k kind place spelling m
  token_kept k kind place spelling m low high is =
      record { node = is.node; has = has_kept k kind place m is.node low high is.has; alone = is.alone; spelled = is.spelled }

  mutual
    pub node_kept : (k : ℕ) (i : Item) (m : ℕ) → a ≤ k → m ≤ b → IsNode source old k i m → IsNode source new k i m
    node_kept k (word place spelling) m low high is = token_kept k _ place spelling m low high is
    node_kept k (quoted place spelling) m low high is = token_kept k _ place spelling m low high is
    node_kept k (string place spelling) m low high is = token_kept k _ place spelling m low high is
    node_kept k (list place items) m low high (node, has, are, at) =
        (node, has_kept k _ place m node low high has, nodes_kept (k + 1) items m (omega arith) high are, at)

    pub nodes_kept : (k : ℕ) (items : Items) (m : ℕ) → a ≤ k → m ≤ b → AreNodes source old k items m → AreNodes source new k items m
    nodes_kept k no_items m low high are = are
    nodes_kept k (item i others) m low high (n, is, are) =
        let first = node_after source old k i n is in
        let later = nodes_order source old n others m are in
        (n, node_kept k i n low (omega arith) is, nodes_kept n others m (omega arith) high are)

-- what a push does
pub record PushKeeps (old new : List Node) (x : Node) : Type 0 where
  pub same : Kept old new 0 (length old)
  pub count : length new ≡ length old + 1
  pub longer : length old ≤ length new
  pub last : slice_get new (length old) ≡ Some x

get_last : (xs : List Node) (x : Node) → slice_get (xs ++ x ∷ []) (length xs) ≡ Some x
get_last [] x = refl
get_last (y ∷ xs) x = get_last xs x

get_before : (xs ys : List Node) (k : ℕ) → k < length xs → slice_get (xs ++ ys) k ≡ slice_get xs k
get_before [] ys k h = absurd (omega arith)
get_before (x ∷ xs) ys zero h = refl
get_before (x ∷ xs) ys (suc k) h = get_before xs ys k (omega arith)

pub pushed_kept : (old new : List Node) (t : Token) (next : ℕ) → new ≡ pushed old t next → PushKeeps old new (record { token = t; next = next })
pushed_kept old new t next e =
    let x : Node = record { token = t; next = next } in
    let count : length new ≡ length old + 1 = ap length e ∙ length-append old (x ∷ []) in
    record {
      same = λ k low high. ap (λ xs. slice_get xs k) e ∙ get_before old (x ∷ []) k high;
      count = count;
      longer = omega arith;
      last = ap (λ xs. slice_get xs (length old)) e ∙ get_last old x;
    }

-- what a write at node k does
pub record SetKeeps (old new : List Node) (k : ℕ) (x : Node) : Type 0 where
  pub before : Kept old new 0 k
  pub behind : Kept old new (k + 1) (length old)
  pub count : length new ≡ length old
  pub longer : length old ≤ length new
  pub here : slice_get new k ≡ Some x

get_set : (xs : List Node) (k : ℕ) (x y : Node) → slice_get xs k ≡ Some y → slice_get (slice_set xs k x) k ≡ Some x
get_set [] k x y e = absurd cc
get_set (z ∷ xs) zero x y e = refl
get_set (z ∷ xs) (suc k) x y e = get_set xs k x y e

get_other : (xs : List Node) (k j : ℕ) (x : Node) → (j ≡ k → ⊥) → slice_get (slice_set xs k x) j ≡ slice_get xs j
get_other [] k j x differs = refl
get_other (z ∷ xs) zero zero x differs = absurd (differs refl)
get_other (z ∷ xs) zero (suc j) x differs = refl
get_other (z ∷ xs) (suc k) zero x differs = refl
get_other (z ∷ xs) (suc k) (suc j) x differs = get_other xs k j x (λ e. differs (ap suc e))

pub set_kept : (old new : List Node) (k : ℕ) (x y : Node) → slice_get old k ≡ Some y → new ≡ slice_set old k x → SetKeeps old new k x
set_kept old new k x y there e =
    let count : length new ≡ length old = ap length e ∙ length-set old k x in
    record {
      before = λ j low high. ap (λ xs. slice_get xs j) e ∙ get_other old k j x (λ same. absurd (omega arith));
      behind = λ j low high. ap (λ xs. slice_get xs j) e ∙ get_other old k j x (λ same. absurd (omega arith));
      count = count;
      longer = omega arith;
      here = ap (λ xs. slice_get xs k) e ∙ get_set old k x y there;
    }
