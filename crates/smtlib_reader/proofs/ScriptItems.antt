-- The items of a text, the first one after the other.
use Rattle.std.proofs.Common.{◌≡◌, refl, sym, ◌∙◌, ap, subst, ℕ, List, [], ◌∷◌, Ok, Err, Some, None}
use Rattle.sexpr.specs.declared.causes.Refusal.{Refusal}
use Rattle.sexpr.specs.declared.lexing.Lexer.{Lexer}
use Rattle.sexpr.specs.declared.lexing.Token.{Token}
use Rattle.sexpr.specs.Items.{Item, Items, no_items, item, IsItem, AreItems}
use Rattle.sexpr.specs.Source.{source, position}
use Rattle.sexpr.specs.Tokens.{Read, next_token, AreTokens}
use Rattle.text_items.specs.Lexers.{GoesOnWith}
use Rattle.text_items.specs.Nesting.{AreItsNodes}
use Rattle.smtlib_reader.specs.ProblemReading.{HasItems, IsFirstItem}
use Rattle.text_items.specs.declared.nodes.Node.{Node}
use Rattle.text_items.proofs.TokensLeft.{Begins, begins, not_faulty, no_token}

pub no_fault : (text : List ℕ) (at : ℕ) (r : Refusal) → next_token text at ≡ Err r → (items : Items) × HasItems text at items → ⊥
no_fault text at r is (items, h) = not_faulty h.tokens r (subst (λ (x : Read). Begins x h.tokens) is (begins text at h.tokens h.read))

none_left : (text : List ℕ) (items : Items) → AreItems text [] items [] → items ≡ no_items
none_left text no_items h = refl
none_left text (item i others) (after, h, _) = absurd (no_token text i after h)

at_end : (text : List ℕ) (tokens : List Token) (items : Items) → Begins (Ok None) tokens → AreItems text tokens items [] → items ≡ no_items
at_end text [] items h nested = none_left text items nested
at_end text (t ∷ ts) items h nested = absurd (cc h)

pub text_ends : (text : List ℕ) (at : ℕ) (items : Items) → next_token text at ≡ Ok None → HasItems text at items → items ≡ no_items
text_ends text at items is h = at_end text h.tokens items (subst (λ (x : Read). Begins x h.tokens) is (begins text at h.tokens h.read)) h.nested

-- the token is the first of the first item
pub record IsSplit (text : List ℕ) (t : Token) (items : Items) : Type 0 where
  pub first : Item
  pub others : Items
  pub same : items ≡ item first others
  pub after : List Token
  pub behind : List Token
  pub read : AreTokens text t.end after
  pub here : IsItem text (t ∷ after) first behind
  pub rest : AreItems text behind others []

split_items : (text : List ℕ) (t : Token) (after : List Token) (items : Items) → AreTokens text t.end after → AreItems text (t ∷ after) items [] → IsSplit text t items
split_items text t after no_items read h = absurd (cc h)
split_items text t after (item i others) read (behind, h, rest) =
    record { first = i; others = others; same = refl; after = after; behind = behind; read = read; here = h; rest = rest }

split_at : (text : List ℕ) (at : ℕ) (t : Token) (tokens : List Token) (items : Items) → Begins (Ok (Some t)) tokens → AreTokens text at tokens → AreItems text tokens items [] → IsSplit text t items
split_at text at t [] items h read nested = absurd (cc h)
split_at text at t (u ∷ us) items h read nested =
    let e : t ≡ u = cc h in
    subst (λ (x : Token). IsSplit text x items) (sym e) (split_items text u us items read.1 nested)

pub splits : (text : List ℕ) (at : ℕ) (t : Token) (items : Items) → next_token text at ≡ Ok (Some t) → HasItems text at items → IsSplit text t items
splits text at t items is h = split_at text at t h.tokens items (subst (λ (x : Read). Begins x h.tokens) is (begins text at h.tokens h.read)) h.read h.nested

-- the lexer that gave the token last stands in the first item
pub stands_in : (l : Lexer) (t : Token) (items : Items) (h : IsSplit (source l) t items) → position l ≡ t.end → GoesOnWith l t h.first h.behind
stands_in l t items h at = record {
  after = h.after;
  read = subst (λ (n : ℕ). AreTokens (source l) n h.after) (sym at) h.read;
  item = h.here;
}

same_text : (text more : List ℕ) (at : ℕ) (items : Items) → more ≡ text → HasItems text at items → HasItems more at items
same_text text more at items e h = subst (λ (x : List ℕ). HasItems x at items) (sym e) h

splits_by : (l : Lexer) (text : List ℕ) (at : ℕ) (t : Token) → source l ≡ text → next_token text at ≡ Ok (Some t) → (items : Items) → HasItems text at items → IsSplit (source l) t items
splits_by l text at t e is items h = splits (source l) at t items (ap (λ x. next_token x at) e ∙ is) (same_text text (source l) at items e h)

pub some_item : (l : Lexer) (text : List ℕ) (at : ℕ) (t : Token) → source l ≡ text → position l ≡ t.end → next_token text at ≡ Ok (Some t)
    → (items : Items) × HasItems text at items → (i : Item) × (rest : List Token) × GoesOnWith l t i rest
some_item l text at t e behind is (items, h) =
    let p = splits_by l text at t e is items h in (p.first, p.behind, stands_in l t items p behind)

-- the nodes are those of the first item, and the lexer stands behind it
pub item_found : (l m : Lexer) (text : List ℕ) (at : ℕ) (t : Token) (nodes : List Node) → source l ≡ text → source m ≡ source l → position l ≡ t.end → next_token text at ≡ Ok (Some t)
    → ((i : Item) (rest : List Token) → GoesOnWith l t i rest → AreItsNodes (source m) nodes i)
    → ((i : Item) (rest : List Token) → GoesOnWith l t i rest → AreTokens (source m) (position m) rest)
    → (items : Items) → HasItems text at items → IsFirstItem (source m) nodes (position m) items
item_found l m text at t nodes e same behind is here left items h =
    let p = splits_by l text at t e is items h in
    let goes = stands_in l t items p behind in
    record {
      first = p.first;
      others = p.others;
      split = p.same;
      here = here p.first p.behind goes;
      left = record {
        tokens = p.behind;
        read = left p.first p.behind goes;
        nested = subst (λ (x : List ℕ). AreItems x p.behind p.others []) (sym same) p.rest;
      };
    }
