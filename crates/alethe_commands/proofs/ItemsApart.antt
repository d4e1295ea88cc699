-- The items of a proof's text, the first one after the other, and how they begin.
use Rattle.std.proofs.Common.{◌≡◌, refl, sym, ◌∙◌, ap, subst, ℕ, List, [], ◌∷◌, Bool, true, false, Ok, Err, Option, Some, None, bytes_eq, unwrap_or, if◌then◌else◌}
use Rattle.std.specs.Prelude.{codes}
use Rattle.sexpr.specs.declared.causes.Refusal.{Refusal}
use Rattle.sexpr.specs.declared.lexing.Lexer.{Lexer}
use Rattle.sexpr.specs.declared.lexing.Token.{Token}
use Rattle.sexpr.specs.declared.lexing.TokenKind.{TokenKind}
use Rattle.sexpr.specs.declared.lexing.TokenKind.TheVariants.{Open, Close, Text, Quoted, Word}
use Rattle.sexpr.specs.Items.{Item, word, quoted, string, list, Items, no_items, item, place_of, name_spelled, IsItem, AreItems}
use Rattle.sexpr.specs.Source.{source, position}
use Rattle.sexpr.specs.Tokens.{Read, next_token, AreTokens, token_text}
use Rattle.text_items.specs.ItemShapes.{name_at, excess, items_of}
use Rattle.text_items.specs.Lexers.{GoesOnWith}
use Rattle.text_items.specs.Nesting.{AreItsNodes}
use Rattle.text_items.specs.Spelling.{is_list_item}
use Rattle.text_items.specs.declared.nodes.Node.{Node}
use Rattle.text_items.proofs.TokensLeft.{Begins, begins, not_faulty, no_token}
use Rattle.alethe_text.specs.Commands.{is_symbol_of}
use Rattle.alethe_text.specs.ProofTexts.{behind_answer, unwrapped_commands, is_list_of_commands}
use Rattle.alethe_commands.specs.TextItems.{HasCommandItems, IsListEnd, IsFirst, behind_list}
use Rattle.alethe_commands.specs.Brackets.{is_open, is_close, is_bracket, begins_bracket}

pub no_fault : (text : List ℕ) (at : ℕ) (in_list : Bool) (items behind : Items) (r : Refusal) → next_token text at ≡ Err r → HasCommandItems text in_list at items behind → ⊥
no_fault text at in_list items behind r is h = not_faulty h.tokens r (subst (λ (x : Read). Begins x h.tokens) is (begins text at h.tokens h.read))

-- another name for the text and the place
pub moved : (text more : List ℕ) (at to : ℕ) {items : Items} → more ≡ text → to ≡ at → HasCommandItems text false at items no_items → HasCommandItems more false to items no_items
moved text more at to {items} e f h = subst (λ (x : List ℕ). HasCommandItems x false to items no_items) (sym e) (subst (λ (n : ℕ). HasCommandItems text false n items no_items) (sym f) h)

-- the kind of the first token of an item
abbrev kind_of : Item → TokenKind
kind_of (word place spelling) = Word
kind_of (quoted place spelling) = Quoted
kind_of (string place spelling) = Text
kind_of (list place items) = Open

same_first : (t u : Token) (after rest : List Token) → t ∷ after ≡ u ∷ rest → t ≡ u
same_first t u after rest e = cc e

same_rest : (t u : Token) (after rest : List Token) → t ∷ after ≡ u ∷ rest → after ≡ rest
same_rest t u after rest e = cc e

first_kind : (text : List ℕ) (t : Token) (after : List Token) (i : Item) (rest : List Token) → IsItem text (t ∷ after) i rest → t.kind ≡ kind_of i
first_kind text t after (word place spelling) rest h = ap (λ (x : Token). x.kind) (same_first t h.token after rest h.first) ∙ h.same_kind
first_kind text t after (quoted place spelling) rest h = ap (λ (x : Token). x.kind) (same_first t h.token after rest h.first) ∙ h.same_kind
first_kind text t after (string place spelling) rest h = ap (λ (x : Token). x.kind) (same_first t h.token after rest h.first) ∙ h.same_kind
first_kind text t after (list place items) rest (open_bracket, inside, behind, close_bracket, h, _, _, _) =
    ap (λ (x : Token). x.kind) (same_first t open_bracket after inside h.first) ∙ h.same_kind

first_place : (text : List ℕ) (t : Token) (after : List Token) (i : Item) (rest : List Token) → IsItem text (t ∷ after) i rest → t.start ≡ place_of i
first_place text t after (word place spelling) rest h = ap (λ (x : Token). x.start) (same_first t h.token after rest h.first) ∙ h.same_place
first_place text t after (quoted place spelling) rest h = ap (λ (x : Token). x.start) (same_first t h.token after rest h.first) ∙ h.same_place
first_place text t after (string place spelling) rest h = ap (λ (x : Token). x.start) (same_first t h.token after rest h.first) ∙ h.same_place
first_place text t after (list place items) rest (open_bracket, inside, behind, close_bracket, h, is, _, _) =
    ap (λ (x : Token). x.start) (same_first t open_bracket after inside h.first) ∙ is

closes_not : (i : Item) → is_close (kind_of i) ≡ false
closes_not (word place spelling) = refl
closes_not (quoted place spelling) = refl
closes_not (string place spelling) = refl
closes_not (list place items) = refl

no_item_closes : (text : List ℕ) (t : Token) (after : List Token) (i : Item) (rest : List Token) → IsItem text (t ∷ after) i rest → is_close t.kind ≡ true → ⊥
no_item_closes text t after i rest h is = let e = ap is_close (first_kind text t after i rest h) ∙ closes_not i in cc

-- the text is at its end
ends_at : (text : List ℕ) (in_list : Bool) (at : ℕ) (items behind : Items) (after : List Token) → next_token text at ≡ Ok None → AreItems text [] items after → IsListEnd text in_list after behind
    → (items ≡ no_items) × HasCommandItems text false at behind no_items
ends_at text in_list at (item i others) behind after is (mid, h, _) end = absurd (no_token text i mid h)
ends_at text false at no_items behind after is nested (_, none) =
    (refl, subst (λ (x : Items). HasCommandItems text false at x no_items) (sym none) (record { tokens = []; after = []; read = is; nested = refl; end = (refl, refl) }))
ends_at text true at no_items behind after is nested (bracket, rest, h, _) = absurd (let e = nested ∙ h.first in cc)

at_end : (text : List ℕ) (in_list : Bool) (at : ℕ) (items behind : Items) (tokens after : List Token) → next_token text at ≡ Ok None → Begins (Ok None) tokens → AreItems text tokens items after → IsListEnd text in_list after behind
    → (items ≡ no_items) × HasCommandItems text false at behind no_items
at_end text in_list at items behind [] after is h nested end = ends_at text in_list at items behind after is nested end
at_end text in_list at items behind (t ∷ ts) after is h nested end = absurd (cc h)

pub text_ends : (text : List ℕ) (in_list : Bool) (at : ℕ) (items behind : Items) → next_token text at ≡ Ok None → HasCommandItems text in_list at items behind
    → (items ≡ no_items) × HasCommandItems text false at behind no_items
text_ends text in_list at items behind is h =
    at_end text in_list at items behind h.tokens h.after is (subst (λ (x : Read). Begins x h.tokens) is (begins text at h.tokens h.read)) h.nested h.end

-- The rest of the text is this token and then these.
record StartsWith (text : List ℕ) (in_list : Bool) (t : Token) (items behind : Items) : Type 0 where
  tokens : List Token
  after : List Token
  read : AreTokens text t.end tokens
  nested : AreItems text (t ∷ tokens) items after
  end : IsListEnd text in_list after behind

starts_at : (text : List ℕ) (in_list : Bool) (at : ℕ) (t : Token) (items behind : Items) (tokens after : List Token)
    → Begins (Ok (Some t)) tokens → AreTokens text at tokens → AreItems text tokens items after → IsListEnd text in_list after behind → StartsWith text in_list t items behind
starts_at text in_list at t items behind [] after h read nested end = absurd (cc h)
starts_at text in_list at t items behind (u ∷ us) after h read nested end =
    let e : t ≡ u = cc h in
    subst (λ (x : Token). StartsWith text in_list x items behind) (sym e) (record { tokens = us; after = after; read = read.1; nested = nested; end = end })

starts : (text : List ℕ) (in_list : Bool) (at : ℕ) (t : Token) (items behind : Items) → next_token text at ≡ Ok (Some t) → HasCommandItems text in_list at items behind → StartsWith text in_list t items behind
starts text in_list at t items behind is h =
    starts_at text in_list at t items behind h.tokens h.after (subst (λ (x : Read). Begins x h.tokens) is (begins text at h.tokens h.read)) h.read h.nested h.end

-- the token closes the list
closed_with : (text : List ℕ) (in_list : Bool) (t : Token) (items behind : Items) (tokens after : List Token) → is_close t.kind ≡ true → AreTokens text t.end tokens → AreItems text (t ∷ tokens) items after → IsListEnd text in_list after behind
    → (items ≡ no_items) × HasCommandItems text false t.end behind no_items
closed_with text in_list t (item i others) behind tokens after is read (mid, h, _) end = absurd (no_item_closes text t tokens i mid h is)
closed_with text false t no_items behind tokens after is read nested (none, _) = absurd (let e = nested ∙ none in cc)
closed_with text true t no_items behind tokens after is read nested (bracket, rest, h, inside) =
    let e = same_rest t bracket tokens rest (nested ∙ h.first) in
    (refl, record { tokens = rest; after = []; read = subst (λ (x : List Token). AreTokens text t.end x) e read; nested = inside; end = (refl, refl) })

pub list_ends : (text : List ℕ) (in_list : Bool) (at : ℕ) (t : Token) (items behind : Items) → next_token text at ≡ Ok (Some t) → is_close t.kind ≡ true → HasCommandItems text in_list at items behind
    → (items ≡ no_items) × HasCommandItems text false t.end behind no_items
list_ends text in_list at t items behind is closes h =
    let w = starts text in_list at t items behind is h in
    closed_with text in_list t items behind w.tokens w.after closes w.read w.nested w.end

-- the token is the first of the first item
pub record IsSplit (text : List ℕ) (in_list : Bool) (t : Token) (items behind : Items) : Type 0 where
  pub first : Item
  pub others : Items
  pub same : items ≡ item first others
  pub tokens : List Token
  pub middle : List Token
  pub after : List Token
  pub read : AreTokens text t.end tokens
  pub here : IsItem text (t ∷ tokens) first middle
  pub rest : AreItems text middle others after
  pub end : IsListEnd text in_list after behind

split_with : (text : List ℕ) (in_list : Bool) (t : Token) (items behind : Items) (tokens after : List Token) → is_close t.kind ≡ false → AreTokens text t.end tokens → AreItems text (t ∷ tokens) items after → IsListEnd text in_list after behind
    → IsSplit text in_list t items behind
split_with text in_list t (item i others) behind tokens after is read (mid, h, rest) end =
    record { first = i; others = others; same = refl; tokens = tokens; middle = mid; after = after; read = read; here = h; rest = rest; end = end }
split_with text false t no_items behind tokens after is read nested (none, _) = absurd (let e = nested ∙ none in cc)
split_with text true t no_items behind tokens after is read nested (bracket, rest, h, inside) =
    absurd (let e = ap (λ (x : Token). is_close x.kind) (same_first t bracket tokens rest (nested ∙ h.first)) ∙ ap is_close h.same_kind in cc)

pub splits : (text : List ℕ) (in_list : Bool) (at : ℕ) (t : Token) (items behind : Items) → next_token text at ≡ Ok (Some t) → is_close t.kind ≡ false → HasCommandItems text in_list at items behind → IsSplit text in_list t items behind
splits text in_list at t items behind is opens h =
    let w = starts text in_list at t items behind is h in
    split_with text in_list t items behind w.tokens w.after opens w.read w.nested w.end

-- the lexer that gave the token last stands in the first item
pub stands_in : (l : Lexer) (in_list : Bool) (t : Token) (items behind : Items) (h : IsSplit (source l) in_list t items behind) → position l ≡ t.end → GoesOnWith l t h.first h.middle
stands_in l in_list t items behind h at = record {
  after = h.tokens;
  read = subst (λ (n : ℕ). AreTokens (source l) n h.tokens) (sym at) h.read;
  item = h.here;
}

same_text : (text more : List ℕ) (in_list : Bool) (at : ℕ) (items behind : Items) → more ≡ text → HasCommandItems text in_list at items behind → HasCommandItems more in_list at items behind
same_text text more in_list at items behind e h = subst (λ (x : List ℕ). HasCommandItems x in_list at items behind) (sym e) h

splits_by : (l : Lexer) (text : List ℕ) (in_list : Bool) (at : ℕ) (t : Token) → source l ≡ text → next_token text at ≡ Ok (Some t) → is_close t.kind ≡ false → (items behind : Items) → HasCommandItems text in_list at items behind
    → IsSplit (source l) in_list t items behind
splits_by l text in_list at t e is opens items behind h =
    splits (source l) in_list at t items behind (ap (λ x. next_token x at) e ∙ is) opens (same_text text (source l) in_list at items behind e h)

pub some_item : (l : Lexer) (text : List ℕ) (in_list : Bool) (at : ℕ) (t : Token) → source l ≡ text → position l ≡ t.end → next_token text at ≡ Ok (Some t) → is_close t.kind ≡ false
    → (items : Items) × (behind : Items) × HasCommandItems text in_list at items behind → (i : Item) × (rest : List Token) × GoesOnWith l t i rest
some_item l text in_list at t e behind is opens (items, others, h) =
    let p = splits_by l text in_list at t e is opens items others h in (p.first, p.middle, stands_in l in_list t items others p behind)

-- the nodes are those of the first item, and the lexer stands behind it
pub item_found : (l m : Lexer) (text : List ℕ) (in_list : Bool) (at : ℕ) (t : Token) (nodes : List Node) → source l ≡ text → source m ≡ source l → position l ≡ t.end → next_token text at ≡ Ok (Some t) → is_close t.kind ≡ false
    → ((i : Item) (rest : List Token) → GoesOnWith l t i rest → AreItsNodes (source m) nodes i)
    → ((i : Item) (rest : List Token) → GoesOnWith l t i rest → AreTokens (source m) (position m) rest)
    → (items behind : Items) → HasCommandItems text in_list at items behind → IsFirst (source m) in_list nodes (position m) items behind
item_found l m text in_list at t nodes e same behind is opens here left items others h =
    let p = splits_by l text in_list at t e is opens items others h in
    let goes = stands_in l in_list t items others p behind in
    record {
      first = p.first;
      others = p.others;
      split = p.same;
      here = here p.first p.middle goes;
      left = same_text (source l) (source m) in_list (position m) p.others others same
          (record { tokens = p.middle; after = p.after; read = subst (λ (x : List ℕ). AreTokens x (position m) p.middle) same (left p.first p.middle goes); nested = p.rest; end = p.end });
    }

-- the answer of the solver, where the text begins with it
abbrev name_of : Option (List ℕ) → List ℕ
name_of n = unwrap_or n []

spelled_as : (text : List ℕ) (t : Token) (after : List Token) (i : Item) (rest : List Token) → IsItem text (t ∷ after) i rest → name_of (name_spelled t.kind (token_text text t)) ≡ (name_at i).name
spelled_as text t after (word place spelling) rest h =
    let e = same_first t h.token after rest h.first in
    ap (λ (x : Token). name_of (name_spelled x.kind (token_text text x))) e ∙ rw (h.same_kind, h.same_spelling) refl
spelled_as text t after (quoted place spelling) rest h =
    let e = same_first t h.token after rest h.first in
    ap (λ (x : Token). name_of (name_spelled x.kind (token_text text x))) e ∙ rw (h.same_kind, h.same_spelling) refl
spelled_as text t after (string place spelling) rest h =
    let e = same_first t h.token after rest h.first in
    ap (λ (x : Token). name_of (name_spelled x.kind (token_text text x))) e ∙ rw h.same_kind refl
spelled_as text t after (list place items) rest (open_bracket, inside, behind, close_bracket, h, _, _, _) =
    let e = same_first t open_bracket after inside h.first in
    ap (λ (x : Token). name_of (name_spelled x.kind (token_text text x))) e ∙ rw h.same_kind refl

alone : (text : List ℕ) (t : Token) (after : List Token) (i : Item) (rest : List Token) → IsItem text (t ∷ after) i rest → is_symbol_of (codes "unsat") i ≡ true → rest ≡ after
alone text t after (word place spelling) rest h is = sym (same_rest t h.token after rest h.first)
alone text t after (quoted place spelling) rest h is = sym (same_rest t h.token after rest h.first)
alone text t after (string place spelling) rest h is = sym (same_rest t h.token after rest h.first)
alone text t after (list place items) rest h is = cc

module _ (text : List ℕ) (at : ℕ) (t : Token) (items : Items) (is : next_token text at ≡ Ok (Some t)) (h : HasCommandItems text false at items no_items) where
  kind_open : (t.kind ≡ Close → ⊥) → is_close t.kind ≡ false
  kind_open never = go t.kind never
    where
      go : (k : TokenKind) → (k ≡ Close → ⊥) → is_close k ≡ false
      go Open n = refl
      go Close n = absurd (n refl)
      go Text n = refl
      go Quoted n = refl
      go Word n = refl

  -- where the items stand by themselves, each token begins one
  by_itself : (items : Items) (tokens after : List Token) → AreItems text (t ∷ tokens) items after → after ≡ [] → is_close t.kind ≡ false
  by_itself no_items tokens after nested none = absurd (let e = nested ∙ none in cc)
  by_itself (item i others) tokens after (mid, here, _) none = ap is_close (first_kind text t tokens i mid here) ∙ closes_not i

  pub begins_item : IsSplit text false t items no_items
  begins_item =
      let w = starts text false at t items no_items is h in
      split_with text false t items no_items w.tokens w.after (by_itself items w.tokens w.after w.nested w.end.0) w.read w.nested w.end

  other_end : (others : Items) (middle after : List Token) → AreItems text middle others after → IsListEnd text false after no_items → AreItems text middle others []
  other_end others middle after rest end = subst (λ (x : List Token). AreItems text middle others x) end.0 rest

  next_is : (tokens : List Token) (v : Token) (rest : List Token) → tokens ≡ v ∷ rest → AreTokens text t.end tokens → next_token text t.end ≡ Ok (Some v)
  next_is tokens v rest e read = (subst (λ (x : List Token). AreTokens text t.end x) e read).0

  is_list_first : (i : Item) → is_bracket (kind_of i) ≡ is_list_item i
  is_list_first (word place spelling) = refl
  is_list_first (quoted place spelling) = refl
  is_list_first (string place spelling) = refl
  is_list_first (list place inside) = refl

  begins_with : (head : Item) (tokens mid : List Token) → IsItem text tokens head mid → AreTokens text t.end tokens → begins_bracket (next_token text t.end) ≡ is_list_item head
  begins_with head [] mid here read = absurd (no_token text head mid here)
  begins_with head (v ∷ vs) mid here read = ap begins_bracket read.0 ∙ (ap is_bracket (first_kind text v vs head mid here) ∙ is_list_first head)

  left_behind : (i : Item) (others : Items) (b : Bool) → is_symbol_of (codes "unsat") i ≡ b → behind_answer (item i others) ≡ (if b then others else item i others)
  left_behind i others b e = rw e refl

  pub answer_skipped : bytes_eq (name_of (name_spelled t.kind (token_text text t))) (codes "unsat") ≡ true → HasCommandItems text false t.end (behind_answer items) no_items
  answer_skipped e =
      let p = begins_item in
      let same : is_symbol_of (codes "unsat") p.first ≡ true = ap (λ n. bytes_eq n (codes "unsat")) (sym (spelled_as text t p.tokens p.first p.middle p.here)) ∙ e in
      let alike = alone text t p.tokens p.first p.middle p.here same in
      subst (λ (x : Items). HasCommandItems text false t.end x no_items) (sym (ap behind_answer p.same ∙ left_behind p.first p.others true same))
      (record { tokens = p.tokens; after = p.after; read = p.read; nested = subst (λ (x : List Token). AreItems text x p.others p.after) alike p.rest; end = p.end })

  pub no_answer : bytes_eq (name_of (name_spelled t.kind (token_text text t))) (codes "unsat") ≡ false → HasCommandItems text false at (behind_answer items) no_items
  no_answer e =
      let p = begins_item in
      let same : is_symbol_of (codes "unsat") p.first ≡ false = ap (λ n. bytes_eq n (codes "unsat")) (sym (spelled_as text t p.tokens p.first p.middle p.here)) ∙ e in
      subst (λ (x : Items). HasCommandItems text false at x no_items) (p.same ∙ sym (ap behind_answer p.same ∙ left_behind p.first p.others false same)) h

  pub first_at : Some t.start ≡ excess items
  first_at = let p = begins_item in ap Some (first_place text t p.tokens p.first p.middle p.here) ∙ ap excess (sym p.same)

  -- a list begins with a bracket, and within it stands another bracket or no item
  list_with : (i : Item) (others : Items) (tokens middle after : List Token) → AreTokens text t.end tokens → IsItem text (t ∷ tokens) i middle → AreItems text middle others after → IsListEnd text false after no_items → is_open t.kind ≡ true
      → (is_list_of_commands i ≡ begins_bracket (next_token text t.end)) × HasCommandItems text true t.end (items_of i) others
  list_with (word place spelling) others tokens middle after read here rest end opens = absurd (let e = sym (ap is_open (first_kind text t tokens (word place spelling) middle here)) ∙ opens in cc)
  list_with (quoted place spelling) others tokens middle after read here rest end opens = absurd (let e = sym (ap is_open (first_kind text t tokens (quoted place spelling) middle here)) ∙ opens in cc)
  list_with (string place spelling) others tokens middle after read here rest end opens = absurd (let e = sym (ap is_open (first_kind text t tokens (string place spelling) middle here)) ∙ opens in cc)
  list_with (list place no_items) others tokens middle after read (open_bracket, inside, closing, close_bracket, h, _, nested, g) rest end opens =
      let same : tokens ≡ close_bracket ∷ middle = same_rest t open_bracket tokens inside h.first ∙ (nested ∙ g.first) in (
        sym (ap begins_bracket (next_is tokens close_bracket middle same read) ∙ ap is_bracket g.same_kind),
        record { tokens = tokens; after = close_bracket ∷ middle; read = read; nested = same; end = (close_bracket, middle, record { first = refl; same_kind = g.same_kind }, other_end others middle after rest end) },
      )
  list_with (list place (item head more)) others tokens middle after read (open_bracket, inside, closing, close_bracket, h, _, (mid, first_here, then_more), g) rest end opens =
      let same : tokens ≡ inside = same_rest t open_bracket tokens inside h.first in
      let first_there : IsItem text tokens head mid = subst (λ (x : List Token). IsItem text x head mid) (sym same) first_here in (
        sym (begins_with head tokens mid first_there read),
        record {
          tokens = tokens;
          after = closing;
          read = read;
          nested = (mid, first_there, then_more);
          end = (close_bracket, middle, record { first = g.first; same_kind = g.same_kind }, other_end others middle after rest end);
        },
      )

  opens_no_list : (i : Item) (tokens middle : List Token) → IsItem text (t ∷ tokens) i middle → is_open t.kind ≡ false → is_list_of_commands i ≡ false
  opens_no_list (word place spelling) tokens middle here opens = refl
  opens_no_list (quoted place spelling) tokens middle here opens = refl
  opens_no_list (string place spelling) tokens middle here opens = refl
  opens_no_list (list place inside) tokens middle here opens = absurd (let e = sym (ap is_open (first_kind text t tokens (list place inside) middle here)) ∙ opens in cc)

  commands_with : (i : Item) (others : Items) (b : Bool) → is_list_of_commands i ≡ b → unwrapped_commands (item i others) ≡ (if b then items_of i else item i others)
  commands_with i others b e = rw e refl

  behind_with : (i : Item) (others : Items) (b : Bool) → is_list_of_commands i ≡ b → behind_list (item i others) ≡ (if b then others else no_items)
  behind_with i others b e = rw e refl

  by_themselves : (i : Item) (others : Items) → items ≡ item i others → is_list_of_commands i ≡ false → HasCommandItems text false at (unwrapped_commands items) (behind_list items)
  by_themselves i others same no_list =
      subst (λ (x : Items). HasCommandItems text false at x (behind_list items)) (same ∙ sym (ap unwrapped_commands same ∙ commands_with i others false no_list))
      (subst (λ (x : Items). HasCommandItems text false at items x) (sym (ap behind_list same ∙ behind_with i others false no_list)) h)

  pub no_bracket : is_open t.kind ≡ false → HasCommandItems text false at (unwrapped_commands items) (behind_list items)
  no_bracket opens = let p = begins_item in by_themselves p.first p.others p.same (opens_no_list p.first p.tokens p.middle p.here opens)

  pub no_list : is_open t.kind ≡ true → begins_bracket (next_token text t.end) ≡ false → HasCommandItems text false at (unwrapped_commands items) (behind_list items)
  no_list opens e =
      let p = begins_item in
      by_themselves p.first p.others p.same ((list_with p.first p.others p.tokens p.middle p.after p.read p.here p.rest p.end opens).0 ∙ e)

  pub in_a_list : is_open t.kind ≡ true → begins_bracket (next_token text t.end) ≡ true → HasCommandItems text true t.end (unwrapped_commands items) (behind_list items)
  in_a_list opens e =
      let p = begins_item in
      let w = list_with p.first p.others p.tokens p.middle p.after p.read p.here p.rest p.end opens in
      let is = w.0 ∙ e in
      subst (λ (x : Items). HasCommandItems text true t.end x (behind_list items)) (sym (ap unwrapped_commands p.same ∙ commands_with p.first p.others true is))
      (subst (λ (x : Items). HasCommandItems text true t.end (items_of p.first) x) (sym (ap behind_list p.same ∙ behind_with p.first p.others true is)) w.1)

-- a text without items has no answer and no list
pub nothing_skipped : (text : List ℕ) (at : ℕ) (items : Items) → items ≡ no_items → HasCommandItems text false at items no_items → HasCommandItems text false at (behind_answer items) no_items
nothing_skipped text at items none h = subst (λ (x : Items). HasCommandItems text false at x no_items) (none ∙ sym (ap behind_answer none)) h

pub nothing_entered : (text : List ℕ) (at : ℕ) (items : Items) → items ≡ no_items → HasCommandItems text false at items no_items → HasCommandItems text false at (unwrapped_commands items) (behind_list items)
nothing_entered text at items none h =
    subst (λ (x : Items). HasCommandItems text false at x (behind_list items)) (none ∙ sym (ap unwrapped_commands none))
    (subst (λ (x : Items). HasCommandItems text false at items x) (sym (ap behind_list none)) h)
