-- The loop over the tokens of an item.
use Rattle.std.proofs.Common.{◌≡◌, ℕ, ◌+◌, ◌<◌, ◌≤◌, arith, List, [], ◌∷◌, length, Some, Ok, refl, sym, ap, ◌∙◌, subst}
use Rattle.sexpr.specs.declared.lexing.Lexer.{Lexer}
use Rattle.sexpr.specs.declared.lexing.Token.{Token}
use Rattle.sexpr.specs.declared.lexing.TokenKind.TheVariants.{Close}
use Rattle.sexpr.specs.Source.{source, position}
use Rattle.sexpr.specs.Tokens.{Read, next_token, AreTokens, IsSpanFrom}
use Rattle.sexpr.specs.Items.{Item}
use Rattle.text_items.specs.declared.nodes.Node.{Node}
use Rattle.text_items.specs.Lexers.{GoesOnWith}
use Rattle.text_items.specs.Nesting.{AreItsNodes}
use Rattle.text_items.specs.Adding.{IsAdded}
use Rattle.text_items.proofs.NodeLemmas.{its_nodes}
use Rattle.text_items.proofs.OpenLists.{GoesOn, item_begins, goes_on, whole_read, goes_further, inner_there, never_closes, added_few}

-- what the tokens to come make of the nodes
pub record Continues (text : List ℕ) (whole : Item) (rest : List Token) (nodes : List Node) (inner place : ℕ) : Type 0 where
  pub tokens : List Token
  pub read : AreTokens text place tokens
  pub on : GoesOn text whole rest nodes inner tokens place

-- The item that begins with `first` is read so far.
pub record IsReadSoFar (old : Lexer) (first : Token) (l : Lexer) (nodes : List Node) (inner : ℕ) : Type 0 where
  pub same_text : source l ≡ source old
  pub later : position old ≤ position l
  pub inside : position l ≤ length (source old)
  pub few : length nodes + first.start ≤ position l
  pub some : inner ≤ length nodes
  pub continues : (i : Item) (rest : List Token) → GoesOnWith old first i rest → Continues (source old) i rest nodes inner (position l)

token_same : (t u : Token) → ◌≡◌ {A = Read} (Ok (Some t)) (Ok (Some u)) → t ≡ u
token_same t u e = cc

module _ (old : Lexer) (first : Token) (there : (i : Item) × (rest : List Token) × GoesOnWith old first i rest) where
  -- the first token of an item closes no list
  pub first_opens : first.kind ≡ Close → ⊥
  first_opens e = never_closes (source old) there.0 there.1 first there.2.after there.0 there.1 there.2.item e

  pub so_far_first : (nodes : List Node) (inner : ℕ) → position old ≡ first.end → first.start < first.end → first.end ≤ length (source old)
      → IsAdded [] 0 first first.kind nodes inner → IsReadSoFar old first old nodes inner
  so_far_first nodes inner behind some within added =
      let few = added_few first.kind [] 0 first nodes inner added in
      let on = begins there.0 there.1 there.2 in
      record {
        same_text = refl;
        later = omega arith;
        inside = omega arith;
        few = omega arith;
        some = inner_there (source old) there.0 there.1 nodes inner on.tokens (position old) on.on;
        continues = begins;
      }
    where
      begins : (i : Item) (rest : List Token) → GoesOnWith old first i rest → Continues (source old) i rest nodes inner (position old)
      begins i rest g = record {
        tokens = g.after;
        read = g.read;
        on = subst (λ n. GoesOn (source old) i rest nodes inner g.after n) (sym behind) (item_begins (source old) i rest [] nodes [] i 0 inner first g.after rest (record { some = some; within = within }) (λ later. absurd (omega arith)) [] tt (refl, refl, refl, refl) g.item added);
      }

  module _ (l : Lexer) (nodes : List Node) (inner : ℕ) (so_far : IsReadSoFar old first l nodes inner) where
    -- the tokens to come, where a list is open
    record Comes (i : Item) (rest : List Token) : Type 0 where
      token : Token
      others : List Token
      next : next_token (source old) (position l) ≡ Ok (Some token)
      read : AreTokens (source old) token.end others
      on : GoesOn (source old) i rest nodes inner (token ∷ others) (position l)

    comes : 0 < inner → (i : Item) (rest : List Token) → GoesOnWith old first i rest → Comes i rest
    comes some i rest g =
        let k = so_far.continues i rest g in
        let n = goes_further (source old) i rest nodes inner k.tokens (position l) some k.on in
        let read = subst (λ ts. AreTokens (source old) (position l) ts) n.first k.read in
        record { token = n.token; others = n.others; next = read.0; read = read.1; on = subst (λ ts. GoesOn (source old) i rest nodes inner ts (position l)) n.first k.on }

    -- no fault and no end comes where a list is open
    pub next_comes : (read : Read) → (inner ≡ 0 → ⊥) → read ≡ next_token (source l) (position l) → (t : Token) × (read ≡ Ok (Some t))
    next_comes read open_list e =
        let c = comes (omega arith) there.0 there.1 there.2 in
        (c.token, e ∙ ap (λ s. next_token s (position l)) so_far.same_text ∙ c.next)

    pub so_far_next : (t : Token) (m : Lexer) (after : List Node) (now : ℕ) → (inner ≡ 0 → ⊥) → Ok (Some t) ≡ next_token (source l) (position l)
        → IsSpanFrom (position l) (length (source l)) t → source m ≡ source l → position m ≡ t.end → IsAdded nodes inner t t.kind after now → IsReadSoFar old first m after now
    so_far_next t m after now open_list next span text place added =
        let few = added_few t.kind nodes inner t after now added in
        let some : 0 < inner = omega arith in
        let before = so_far.few in
        let later = so_far.later in
        let within : t.end ≤ length (source old) = subst (λ (s : List ℕ). t.end ≤ length s) so_far.same_text span.within in
        let after_l = span.after in
        let long = span.some in
        let on = goes some within there.0 there.1 there.2 in
        record {
          same_text = text ∙ so_far.same_text;
          later = omega arith;
          inside = omega arith;
          few = omega arith;
          some = inner_there (source old) there.0 there.1 after now on.tokens (position m) on.on;
          continues = goes some within;
        }
      where
        goes : 0 < inner → t.end ≤ length (source old) → (i : Item) (rest : List Token) → GoesOnWith old first i rest → Continues (source old) i rest after now (position m)
        goes some within i rest g =
            let c = comes some i rest g in
            let same = token_same c.token t (sym c.next ∙ sym (ap (λ s. next_token s (position l)) so_far.same_text) ∙ sym next) in
            let on = subst (λ u. GoesOn (source old) i rest nodes inner (u ∷ c.others) (position l)) same c.on in
            record {
              tokens = c.others;
              read = subst (λ n. AreTokens (source old) n c.others) (ap (λ (u : Token). u.end) same ∙ sym place) c.read;
              on = subst (λ n. GoesOn (source old) i rest after now c.others n) (sym place) (goes_on (source old) i rest nodes after inner now t c.others (position l) some (sym (next ∙ ap (λ s. next_token s (position l)) so_far.same_text)) (record { after = span.after; some = span.some; within = within }) on added);
            }

    pub item_there : inner ≡ 0 → (i : Item) (rest : List Token) → GoesOnWith old first i rest → AreItsNodes (source l) nodes i
    item_there none i rest g =
        let k = so_far.continues i rest g in
        let w = whole_read (source old) i rest nodes inner k.tokens (position l) none k.on in
        subst (λ s. AreItsNodes s nodes i) (sym so_far.same_text) (its_nodes (source old) nodes i w.there)

    pub rest_there : inner ≡ 0 → (i : Item) (rest : List Token) → GoesOnWith old first i rest → AreTokens (source l) (position l) rest
    rest_there none i rest g =
        let k = so_far.continues i rest g in
        let w = whole_read (source old) i rest nodes inner k.tokens (position l) none k.on in
        subst (λ s. AreTokens s (position l) rest) (sym so_far.same_text) (subst (λ ts. AreTokens (source old) (position l) ts) w.rests k.read)
