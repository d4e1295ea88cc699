-- What the nodes that are read so far, and the tokens to come, make together.
use Rattle.std.proofs.Common.{◌≡◌, ℕ, ◌+◌, ◌-◌, ◌<◌, ◌≤◌, arith, List, [], ◌∷◌, ◌++◌, map, append_assoc, length, Some, Ok, Option, refl, sym, ap, ◌∙◌, subst, slice_get}
use Rattle.std.proofs.lemmas.Option.{slice_get_within}
use Rattle.sexpr.specs.declared.lexing.Token.{Token}
use Rattle.sexpr.specs.declared.lexing.TokenKind.{TokenKind}
use Rattle.sexpr.specs.declared.lexing.TokenKind.TheVariants.{Open, Close, Text, Quoted, Word}
use Rattle.sexpr.specs.Items.{Item, word, quoted, string, list, Items, no_items, item, IsBracket, IsItem, AreItems}
use Rattle.sexpr.specs.Tokens.{next_token, IsSpanFrom}
use Rattle.sexpr.specs.Spans.{ReadsTo, IsListAt}
use Rattle.sexpr.proofs.MovedItems.{reads_to_more, reads_itself, item_alone}
use Rattle.text_items.specs.declared.nodes.Node.{Node}
use Rattle.text_items.specs.Nodes.{HasNode, IsTokenNode, IsNode, AreNodes}
use Rattle.text_items.specs.Adding.{pushed, IsAdded, IsListClosed}
use Rattle.text_items.proofs.FirstTokens.{IsThis, is_this, same_front}
use Rattle.text_items.proofs.NodeRanges.{joined, joined_assoc, joined_none, nodes_order, nodes_more, Kept, nodes_kept, pushed_kept, set_kept}

-- An open list: the place of its node, the place in the text where it begins, the items in it that are read and
-- those to come, how many nodes there are up to the list around it, the tokens behind it, and all its items.
pub record OpenList : Type 0 where
  pub node : ℕ
  pub place : ℕ
  pub done : Items
  pub todo : Items
  pub around : ℕ
  pub behind : List Token
  pub items : Items

-- node k is an opening bracket at this place
pub record IsOpenNode (source : List ℕ) (nodes : List Node) (k place around : ℕ) : Type 0 where
  pub node : Node
  pub here : slice_get nodes k ≡ Some node
  pub is_open : node.token.kind ≡ Open
  pub start : node.token.start ≡ place
  pub some : node.token.start < node.token.end
  pub within : node.token.end ≤ length source
  pub next : node.next ≡ around

-- the tokens are those of the items, then a closing bracket, and those behind it
pub record Closes (source : List ℕ) (tokens : List Token) (items : Items) (behind : List Token) : Type 0 where
  pub after : List Token
  pub bracket : Token
  pub nested : AreItems source tokens items after
  pub closes : IsBracket after Close bracket behind

-- any other kind of token
abbrev Differs : TokenKind → Type 0
Differs Close = ⊥
Differs Open = Unit {0}
Differs Text = Unit {0}
Differs Quoted = Unit {0}
Differs Word = Unit {0}

close_differs : (kind : TokenKind) → Close ≡ kind → Differs kind → ⊥
close_differs kind e d = subst Differs (sym e) d

some_same : (a b : Node) → ◌≡◌ {A = Option Node} (Some a) (Some b) → a ≡ b
some_same a b e = cc

module _ (source : List ℕ) (whole : Item) (rest : List Token) where
  -- With an item x at node k, then these tokens, and the closing brackets of the open lists, the whole item is there.
  abbrev pub Awaits : List Node → List OpenList → Item → ℕ → ℕ → List Token → Type 0
  Awaits nodes [] x k inner tokens = (x ≡ whole) × (k ≡ 0) × (inner ≡ 0) × (tokens ≡ rest)
  Awaits nodes (l ∷ ls) x k inner tokens =
      IsOpenNode source nodes l.node l.place l.around × (inner ≡ l.node + 1) × AreNodes source nodes (l.node + 1) l.done k
      × Closes source tokens l.todo l.behind × Awaits nodes ls (list l.place (joined l.done (item x l.todo))) l.node l.around l.behind
      × (l.items ≡ joined l.done (item x l.todo))

  -- With these tokens, and the closing brackets of the open lists, the whole item is there.
  abbrev pub IsUpTo : List Node → List OpenList → ℕ → List Token → Type 0
  IsUpTo nodes [] inner tokens = (inner ≡ 0) × IsNode source nodes 0 whole (length nodes) × (tokens ≡ rest)
  IsUpTo nodes (l ∷ ls) inner tokens =
      IsOpenNode source nodes l.node l.place l.around × (inner ≡ l.node + 1) × AreNodes source nodes (l.node + 1) l.done (length nodes)
      × Closes source tokens l.todo l.behind × Awaits nodes ls (list l.place (joined l.done l.todo)) l.node l.around l.behind
      × (l.items ≡ joined l.done l.todo)

  -- The open lists begin with these tokens, which are read up to a place, and go on with those to come.
  abbrev pub AreBegun : List OpenList → List (List Token) → ℕ → List Token → Type 0
  AreBegun [] [] here tokens = Unit {0}
  AreBegun [] (f ∷ fs) here tokens = ⊥
  AreBegun (l ∷ ls) [] here tokens = ⊥
  AreBegun (l ∷ ls) (f ∷ fs) here tokens =
      (0 < l.node → ReadsTo source l.place f here) × IsItem source (f ++ tokens) (list l.place l.items) l.behind × (l.place < here) × AreBegun ls fs here tokens

  begun_more : (ls : List OpenList) (fs : List (List Token)) (here : ℕ) (t : Token) (tokens : List Token) → next_token source here ≡ Ok (Some t) → IsSpanFrom here (length source) t
      → AreBegun ls fs here (t ∷ tokens) → AreBegun ls (map (λ f. f ++ t ∷ []) fs) t.end tokens
  begun_more [] [] here t tokens next span h = tt
  begun_more [] (f ∷ fs) here t tokens next span h = absurd h
  begun_more (l ∷ ls) [] here t tokens next span h = absurd h
  begun_more (l ∷ ls) (f ∷ fs) here t tokens next span h = (
    (λ some. reads_to_more source l.place here f t (h.0 some) next span),
    subst (λ ts. IsItem source ts (list l.place l.items) l.behind) (sym (append_assoc f (t ∷ []) tokens)) h.1,
    (let before = h.2 in let a = span.after in let b = span.some in omega (arith, before, a, b)),
    begun_more ls fs here t tokens next span h.3,
  )

  pub record GoesOn (nodes : List Node) (inner : ℕ) (tokens : List Token) (here : ℕ) : Type 0 where
    pub lists : List OpenList
    pub up_to : IsUpTo nodes lists inner tokens
    pub fronts : List (List Token)
    pub begun : AreBegun lists fronts here tokens

  -- the token lies in the text
  pub record IsInText (t : Token) : Type 0 where
    pub some : t.start < t.end
    pub within : t.end ≤ length source

  open_kept : (old new : List Node) (k place around : ℕ) → slice_get new k ≡ slice_get old k → IsOpenNode source old k place around → IsOpenNode source new k place around
  open_kept old new k place around same is =
      record { node = is.node; here = same ∙ is.here; is_open = is.is_open; start = is.start; some = is.some; within = is.within; next = is.next }

  -- the nodes from k on do not matter
  awaits_kept : (old new : List Node) (ls : List OpenList) (x : Item) (k inner : ℕ) (tokens : List Token) → Kept old new 0 k → length old ≤ length new
      → Awaits old ls x k inner tokens → Awaits new ls x k inner tokens
  awaits_kept old new [] x k inner tokens same longer h = h
  awaits_kept old new (l ∷ ls) x k inner tokens same longer h =
      let before : l.node + 1 ≤ k = nodes_order source old (l.node + 1) l.done k h.2 in
      let here : l.node < k = omega arith in (
        open_kept old new l.node l.place l.around (same l.node (omega arith) here) h.0,
        h.1,
        nodes_kept source old new 0 k same longer (l.node + 1) l.done k (omega arith) (omega arith) h.2,
        h.3,
        awaits_kept old new ls (list l.place (joined l.done (item x l.todo))) l.node l.around l.behind (λ j low high. same j low (omega arith)) longer h.4,
        h.5,
      )

  -- an item that was awaited is read
  item_read : (nodes : List Node) (ls : List OpenList) (x : Item) (k inner : ℕ) (tokens : List Token) (here : ℕ) (fs : List (List Token)) → AreBegun ls fs here tokens → Awaits nodes ls x k inner tokens → IsNode source nodes k x (length nodes) → GoesOn nodes inner tokens here
  item_read nodes [] x k inner tokens here fs begun h is =
      record { lists = []; up_to = (h.2, subst (λ n. IsNode source nodes n whole (length nodes)) h.1 (subst (λ y. IsNode source nodes k y (length nodes)) h.0 is), h.3); fronts = fs; begun = begun }
  item_read nodes (l ∷ ls) x k inner tokens here fs begun h is =
      let more : OpenList = record { node = l.node; place = l.place; done = joined l.done (item x no_items); todo = l.todo; around = l.around; behind = l.behind; items = l.items } in
      record {
        lists = more ∷ ls;
        fronts = fs;
        begun = begun_same fs begun;
        up_to = (
          h.0,
          h.1,
          nodes_more source nodes (l.node + 1) l.done k x (length nodes) h.2 is,
          h.3,
          subst (λ y. Awaits nodes ls (list l.place y) l.node l.around l.behind) (joined_assoc l.done x l.todo) h.4,
          h.5 ∙ joined_assoc l.done x l.todo,
        );
      }
    where
      begun_same : (fs : List (List Token)) → AreBegun (l ∷ ls) fs here tokens
          → AreBegun (record { node = l.node; place = l.place; done = joined l.done (item x no_items); todo = l.todo; around = l.around; behind = l.behind; items = l.items } ∷ ls) fs here tokens
      begun_same [] b = absurd b
      begun_same (f ∷ fs) b = b

  -- a token that is an item by itself
  token_read : (nodes after : List Node) (ls : List OpenList) (x : Item) (inner now : ℕ) (t : Token) (tokens : List Token) (here : ℕ) (fs : List (List Token)) → AreBegun ls fs here tokens → Awaits nodes ls x (length nodes) inner tokens
      → after ≡ pushed nodes t (length nodes + 1) → now ≡ inner → IsNode source after (length nodes) x (length after) → GoesOn after now tokens here
  token_read nodes after ls x inner now t tokens here fs begun h added same is =
      let k = pushed_kept nodes after t (length nodes + 1) added in
      subst (λ n. GoesOn after n tokens here) (sym same)
      (item_read after ls x (length nodes) inner tokens here fs begun (awaits_kept nodes after ls x (length nodes) inner tokens k.same k.longer h) is)

  -- its node
  token_there : (nodes after : List Node) (t : Token) (others : List Token) (kind : TokenKind) (place : ℕ) (spelling : List ℕ) (behind : List Token) → IsInText t
      → after ≡ pushed nodes t (length nodes + 1) → IsThis source t others kind place spelling behind → IsTokenNode source after (length nodes) kind place spelling (length after)
  token_there nodes after t others kind place spelling behind inside added is =
      let k = pushed_kept nodes after t (length nodes + 1) added in
      let count : length after ≡ length nodes + 1 = k.count in
      record {
        node = record { token = t; next = length nodes + 1 };
        has = record {
          here = k.last;
          same_kind = is.kinds;
          same_place = is.places;
          some = inside.some;
          within = inside.within;
          next = sym count;
          behind = omega arith;
          inside = omega arith;
        };
        alone = count;
        spelled = is.spellings;
      }

  -- a list begins
  list_opened : (nodes after : List Node) (ls : List OpenList) (place : ℕ) (items : Items) (inner now : ℕ) (t : Token) (tokens behind : List Token) → IsInText t → t.kind ≡ Open → t.start ≡ place
      → Awaits nodes ls (list place items) (length nodes) inner behind → Closes source tokens items behind
      → (0 < length nodes → next_token source t.start ≡ Ok (Some t)) → (fs : List (List Token)) → AreBegun ls fs t.end tokens → IsItem source (t ∷ tokens) (list place items) behind
      → after ≡ pushed nodes t inner → now ≡ length nodes + 1 → GoesOn after now tokens t.end
  list_opened nodes after ls place items inner now t tokens behind inside is_open start h closes itself fs begun is_list added same =
      let k = pushed_kept nodes after t inner added in
      record {
        lists = record { node = length nodes; place = place; done = no_items; todo = items; around = inner; behind = behind; items = items } ∷ ls;
        fronts = (t ∷ []) ∷ fs;
        begun = ((λ some. subst (λ n. ReadsTo source n (t ∷ []) t.end) start (itself some, record { after = omega arith; some = inside.some; within = inside.within }, refl)), is_list, subst (λ n. n < t.end) start inside.some, begun);
        up_to = (
          record { node = record { token = t; next = inner }; here = k.last; is_open = is_open; start = start; some = inside.some; within = inside.within; next = refl },
          same,
          sym k.count,
          closes,
          awaits_kept nodes after ls (list place items) (length nodes) inner behind k.same k.longer h,
          refl,
        );
      }

  -- what a token does, where its kind is known
  added_as : (kind : TokenKind) (nodes : List Node) (inner : ℕ) (t : Token) (after : List Node) (now : ℕ) → t.kind ≡ kind → IsAdded nodes inner t t.kind after now → IsAdded nodes inner t kind after now
  added_as kind nodes inner t after now e added = subst (λ k. IsAdded nodes inner t k after now) e added

  -- a token that begins the item that is awaited
  pub item_begins : (nodes after : List Node) (ls : List OpenList) (x : Item) (inner now : ℕ) (t : Token) (tokens behind : List Token) → IsInText t
      → (0 < length nodes → next_token source t.start ≡ Ok (Some t)) → (fs : List (List Token)) → AreBegun ls fs t.end tokens
      → Awaits nodes ls x (length nodes) inner behind → IsItem source (t ∷ tokens) x behind → IsAdded nodes inner t t.kind after now → GoesOn after now tokens t.end
  item_begins nodes after ls (word place spelling) inner now t tokens behind inside itself fs begun h is added =
      let this = is_this source t tokens Word place spelling behind is in
      let a = added_as Word nodes inner t after now this.kinds added in
      subst (λ ts. GoesOn after now ts t.end) (sym this.rests)
      (token_read nodes after ls (word place spelling) inner now t behind t.end fs (subst (λ ts. AreBegun ls fs t.end ts) this.rests begun) h a.0 a.1 (token_there nodes after t tokens Word place spelling behind inside a.0 this))
  item_begins nodes after ls (quoted place spelling) inner now t tokens behind inside itself fs begun h is added =
      let this = is_this source t tokens Quoted place spelling behind is in
      let a = added_as Quoted nodes inner t after now this.kinds added in
      subst (λ ts. GoesOn after now ts t.end) (sym this.rests)
      (token_read nodes after ls (quoted place spelling) inner now t behind t.end fs (subst (λ ts. AreBegun ls fs t.end ts) this.rests begun) h a.0 a.1 (token_there nodes after t tokens Quoted place spelling behind inside a.0 this))
  item_begins nodes after ls (string place spelling) inner now t tokens behind inside itself fs begun h is added =
      let this = is_this source t tokens Text place spelling behind is in
      let a = added_as Text nodes inner t after now this.kinds added in
      subst (λ ts. GoesOn after now ts t.end) (sym this.rests)
      (token_read nodes after ls (string place spelling) inner now t behind t.end fs (subst (λ ts. AreBegun ls fs t.end ts) this.rests begun) h a.0 a.1 (token_there nodes after t tokens Text place spelling behind inside a.0 this))
  item_begins nodes after ls (list place items) inner now t tokens behind inside itself fs begun h (bracket, first, last, closing, opens, start, nested, closes) added =
      let front = same_front t bracket tokens first opens.first in
      let kind : t.kind ≡ Open = ap (λ u. u.kind) front.first ∙ opens.same_kind in
      let place_is : t.start ≡ place = ap (λ u. u.start) front.first ∙ start in
      let a = added_as Open nodes inner t after now kind added in
      list_opened nodes after ls place items inner now t tokens behind inside kind place_is h
      (record { after = last; bracket = closing; nested = subst (λ ts. AreItems source ts items last) (sym front.rests) nested; closes = closes })
      itself fs begun (bracket, first, last, closing, opens, start, nested, closes) a.0 a.1

  -- the innermost open list ends
  list_closed : (nodes after : List Node) (l : OpenList) (ls : List OpenList) (now : ℕ) → IsOpenNode source nodes l.node l.place l.around
      → AreNodes source nodes (l.node + 1) l.done (length nodes) → Awaits nodes ls (list l.place l.done) l.node l.around l.behind
      → (stop : ℕ) → l.place < stop → stop ≤ length source → (0 < l.node → IsListAt source l.place stop l.done) → (fs : List (List Token)) → AreBegun ls fs stop l.behind
      → IsListClosed nodes l.node (length nodes) stop after now → GoesOn after now l.behind stop
  list_closed nodes after l ls now is are h stop some within at fs begun closed =
      let k = set_kept nodes after l.node (record { token = record { kind = closed.node.token.kind; start = closed.node.token.start; end = stop }; next = length nodes }) closed.node closed.here closed.set in
      let same : closed.node ≡ is.node = some_same closed.node is.node (sym closed.here ∙ is.here) in
      let count : length after ≡ length nodes = k.count in
      let inside : l.node < length nodes = slice_get_within nodes l.node closed.node closed.here in
      let nodes_there = nodes_kept source nodes after (l.node + 1) (length nodes) k.behind k.longer (l.node + 1) l.done (length nodes) (omega arith) (omega arith) are in
      let has : HasNode source after l.node Open l.place (length nodes) (record { token = record { kind = closed.node.token.kind; start = closed.node.token.start; end = stop }; next = length nodes }) =
      record {
        here = k.here;
        same_kind = ap (λ (n : Node). n.token.kind) same ∙ is.is_open;
        same_place = ap (λ (n : Node). n.token.start) same ∙ is.start;
        some = subst (λ n. n < stop) (sym (ap (λ (n : Node). n.token.start) same ∙ is.start)) some;
        within = within;
        next = refl;
        behind = inside;
        inside = omega arith;
      } in
      let there : IsNode source after l.node (list l.place l.done) (length nodes) = (record { token = record { kind = closed.node.token.kind; start = closed.node.token.start; end = stop }; next = length nodes }, has, nodes_there, at) in
      subst (λ n. GoesOn after n l.behind stop) (sym (ap (λ (n : Node). n.next) same ∙ is.next) ∙ closed.was)
      (item_read after ls (list l.place l.done) l.node l.around l.behind stop fs begun
      (awaits_kept nodes after ls (list l.place l.done) l.node l.around l.behind k.before k.longer h)
      (subst (λ n. IsNode source after l.node (list l.place l.done) n) (sym count) there))

  -- one token more
  pub goes_on : (nodes after : List Node) (inner now : ℕ) (t : Token) (tokens : List Token) (here : ℕ) → 0 < inner → next_token source here ≡ Ok (Some t) → IsSpanFrom here (length source) t → GoesOn nodes inner (t ∷ tokens) here → IsAdded nodes inner t t.kind after now → GoesOn after now tokens t.end
  goes_on nodes after inner now t tokens here some next span on added = go on.lists on.up_to on.fronts on.begun
    where
      inside : IsInText t
      inside = record { some = span.some; within = span.within }

      in_list : (l : OpenList) (ls : List OpenList) (todo : Items) (behind : List Token) (f : List Token) (fs : List (List Token))
          → (0 < l.node → ReadsTo source l.place f t.end) → IsItem source (f ++ tokens) (list l.place l.items) behind → l.place < t.end → AreBegun ls fs t.end tokens
          → l.items ≡ joined l.done todo → IsOpenNode source nodes l.node l.place l.around → inner ≡ l.node + 1 → AreNodes source nodes (l.node + 1) l.done (length nodes)
          → Closes source (t ∷ tokens) todo behind → Awaits nodes ls (list l.place (joined l.done todo)) l.node l.around behind → GoesOn after now tokens t.end
      in_list l ls no_items behind f fs reads is_list before begun all is same are closes h =
          let front = same_front t closes.bracket tokens behind (closes.nested ∙ closes.closes.first) in
          let kind : t.kind ≡ Close = ap (λ u. u.kind) front.first ∙ closes.closes.same_kind in
          let closed = added_as Close nodes inner t after now kind added in
          let place : inner - 1 ≡ l.node = omega arith in
          let done : l.items ≡ l.done = all ∙ joined_none l.done in
          let whole_list : IsItem source f (list l.place l.done) [] =
          subst (λ is. IsItem source f (list l.place is) []) done (item_alone source f behind (list l.place l.items) (subst (λ ts. IsItem source (f ++ ts) (list l.place l.items) behind) front.rests is_list)) in
          subst (λ ts. GoesOn after now ts t.end) (sym front.rests)
          (list_closed nodes after (record { node = l.node; place = l.place; done = l.done; todo = no_items; around = l.around; behind = behind; items = l.items }) ls now is are
          (subst (λ items. Awaits nodes ls (list l.place items) l.node l.around behind) (joined_none l.done) h)
          t.end before span.within (λ some. record { tokens = f; read = reads some; is = whole_list; within = span.within })
          fs (subst (λ ts. AreBegun ls fs t.end ts) front.rests begun)
          (subst (λ n. IsListClosed nodes n (length nodes) t.end after now) place closed))
      in_list l ls (item x others) behind f fs reads is_list before begun all is same are closes h =
          let nested = closes.nested in
          item_begins nodes after (record { node = l.node; place = l.place; done = l.done; todo = others; around = l.around; behind = behind; items = l.items } ∷ ls) x inner now t tokens nested.0 inside
          (λ some. reads_itself source here t next span.some span.within) (f ∷ fs) (reads, is_list, before, begun)
          (is, same, are, record { after = closes.after; bracket = closes.bracket; nested = nested.2; closes = closes.closes }, h, all)
          nested.1 added

      go : (ls : List OpenList) → IsUpTo nodes ls inner (t ∷ tokens) → (fs : List (List Token)) → AreBegun ls fs here (t ∷ tokens) → GoesOn after now tokens t.end
      go [] h fs begun = absurd (omega arith)
      go (l ∷ ls) h [] begun = absurd begun
      go (l ∷ ls) h (f ∷ fs) begun =
          let more = begun_more (l ∷ ls) (f ∷ fs) here t tokens next span begun in
          in_list l ls l.todo l.behind (f ++ t ∷ []) (map (λ f. f ++ t ∷ []) fs) more.0 more.1 more.2 more.3 h.5 h.0 h.1 h.2 h.3 h.4

  -- where no list is open the whole item is read
  pub record IsWhole (nodes : List Node) (tokens : List Token) : Type 0 where
    pub there : IsNode source nodes 0 whole (length nodes)
    pub rests : tokens ≡ rest

  pub whole_read : (nodes : List Node) (inner : ℕ) (tokens : List Token) → (here : ℕ) → inner ≡ 0 → GoesOn nodes inner tokens here → IsWhole nodes tokens
  whole_read nodes inner tokens here none on = go on.lists on.up_to
    where
      go : (ls : List OpenList) → IsUpTo nodes ls inner tokens → IsWhole nodes tokens
      go [] h = record { there = h.1; rests = h.2 }
      go (l ∷ ls) h = absurd (omega arith)

  -- where a list is open a token comes
  pub record HasNext (tokens : List Token) : Type 0 where
    pub token : Token
    pub others : List Token
    pub first : tokens ≡ token ∷ others

  pub goes_further : (nodes : List Node) (inner : ℕ) (tokens : List Token) (here : ℕ) → 0 < inner → GoesOn nodes inner tokens here → HasNext tokens
  goes_further nodes inner tokens here some on = go on.lists on.up_to
    where
      first_of_item : (x : Item) (behind : List Token) → IsItem source tokens x behind → HasNext tokens
      first_of_item (word place spelling) behind is = record { token = is.token; others = behind; first = is.first }
      first_of_item (quoted place spelling) behind is = record { token = is.token; others = behind; first = is.first }
      first_of_item (string place spelling) behind is = record { token = is.token; others = behind; first = is.first }
      first_of_item (list place items) behind is = record { token = is.0; others = is.1; first = is.4.first }

      in_list : (todo : Items) (behind : List Token) → Closes source tokens todo behind → HasNext tokens
      in_list no_items behind closes = record { token = closes.bracket; others = behind; first = closes.nested ∙ closes.closes.first }
      in_list (item x others) behind closes = first_of_item x closes.nested.0 closes.nested.1

      go : (ls : List OpenList) → IsUpTo nodes ls inner tokens → HasNext tokens
      go [] h = absurd (omega arith)
      go (l ∷ ls) h = in_list l.todo l.behind h.3

  -- the innermost open list has its node
  pub inner_there : (nodes : List Node) (inner : ℕ) (tokens : List Token) (here : ℕ) → GoesOn nodes inner tokens here → inner ≤ length nodes
  inner_there nodes inner tokens here on = go on.lists on.up_to
    where
      go : (ls : List OpenList) → IsUpTo nodes ls inner tokens → inner ≤ length nodes
      go [] h = omega arith
      go (l ∷ ls) h = let is = h.0 in let inside : l.node < length nodes = slice_get_within nodes l.node is.node is.here in omega arith

  -- no item begins with a closing bracket
  pub never_closes : (t : Token) (tokens : List Token) (x : Item) (behind : List Token) → IsItem source (t ∷ tokens) x behind → t.kind ≡ Close → ⊥
  never_closes t tokens (word place spelling) behind is e = let this = is_this source t tokens Word place spelling behind is in absurd (close_differs Word (sym e ∙ this.kinds) tt)
  never_closes t tokens (quoted place spelling) behind is e = let this = is_this source t tokens Quoted place spelling behind is in absurd (close_differs Quoted (sym e ∙ this.kinds) tt)
  never_closes t tokens (string place spelling) behind is e = let this = is_this source t tokens Text place spelling behind is in absurd (close_differs Text (sym e ∙ this.kinds) tt)
  never_closes t tokens (list place items) behind is e =
      let front = same_front t is.0 tokens is.1 is.4.first in absurd (close_differs Open (sym e ∙ ap (λ u. u.kind) front.first ∙ is.4.same_kind) tt)

-- a token brings one node at most
pub added_few : (kind : TokenKind) (nodes : List Node) (inner : ℕ) (t : Token) (after : List Node) (now : ℕ) → IsAdded nodes inner t kind after now → length after ≤ length nodes + 1
added_few Open nodes inner t after now added = let k = pushed_kept nodes after t inner added.0 in omega (arith, k.count)
added_few Close nodes inner t after now added =
    let k = set_kept nodes after (inner - 1) (record { token = record { kind = added.node.token.kind; start = added.node.token.start; end = t.end }; next = length nodes }) added.node added.here added.set in omega (arith, k.count)
added_few Text nodes inner t after now added = let k = pushed_kept nodes after t (length nodes + 1) added.0 in omega (arith, k.count)
added_few Quoted nodes inner t after now added = let k = pushed_kept nodes after t (length nodes + 1) added.0 in omega (arith, k.count)
added_few Word nodes inner t after now added = let k = pushed_kept nodes after t (length nodes + 1) added.0 in omega (arith, k.count)
