-- The tops of forms by the nodes of items.
use Rattle.std.proofs.Common.{◌≡◌, ℕ, ◌+◌, ◌<◌, ◌≢◌, arith, List, [], ◌∷◌, Some, None, Option, is_some, unwrap_or, cond, not, ◌&&◌, ◌||◌, ◌==◌, codes, refl, sym, ap, ◌∙◌, subst, Bool, true, false}
use Rattle.std.specs.Prelude.{bytes_eq, length, ◌≤◌, nat_le, nat_lt, slice_get, if◌then◌else◌}
use Rattle.std.proofs.lemmas.Bool.Decides.{nat_tests}
use Rattle.std.proofs.lemmas.Slice.Eq.{bytes_eq-Decides}
use Rattle.std.specs.Option.{option_or}
use Rattle.std.specs.Char.{is_ascii_digit}
use Rattle.sexpr.specs.declared.causes.Cause.TheVariants.{BadCommand, LeftOut}
use Rattle.sexpr.specs.declared.lexing.TokenKind.{TokenKind}
use Rattle.sexpr.specs.declared.lexing.TokenKind.TheVariants.{Open, Close, Text, Quoted, Word}
use Rattle.sexpr.specs.Tokens.{token_text}
use Rattle.sexpr.specs.Words.{is_symbol, is_keyword, between_bars}
use Rattle.sexpr.specs.Items.{Item, word, quoted, string, list, Items, no_items, item, place_of, name_spelled, symbol_name}
use Rattle.text_items.specs.ItemShapes.{Name, name_at, symbol_fault, pairs_fault, items_of}
use Rattle.problem_text.specs.Forms.{Form, faulty, symbol, application, let_form, annotated, Forms, form, first_form, LetBinds, form_of, forms_of, binds_of, binds_in, word_form, number_form, symbol_form, list_form, symbol_list_form, unless_faulty, bindings_fault, let_fault, naming_keyword, annotation_fault, names_after, names_given}
use Rattle.text_items.specs.Keywords.{Known, after_item, after_keyword, next_fault, misplaced, at_end, is_value, lacks_keyword, earlier, repeated, word_next, attributes_fault}
use Rattle.text_items.specs.declared.keywords.Next.{Next}
use Rattle.text_items.specs.declared.keywords.Wanted.TheVariants as Wanted
use Rattle.problem_text.specs.NamedItems.{is_named_item}
use Rattle.text_items.specs.Spelling.{is_list_item}
use Rattle.problem_text.specs.Words.{is_among, left_out_words}
use Rattle.term_reader.specs.declared.layers.Layer.{Layer}
use Rattle.text_items.specs.declared.nodes.Node.{Node}
use Rattle.text_items.specs.ItemsAt.{ItemsView, end_by, item_of_token, item_of_node, end_at, item_at, items_at}
use Rattle.term_reader.specs.Layers.{IsRange, form_at, forms_at, AreBinds, NamesAreSymbols, names_at, AreTermAttributes}
use Rattle.term_reader.specs.ShapeFaults.{IsLayer}
use Rattle.term_reader.specs.Shapes.{IsApplied, others_of, arguments_of, applied_form}
use Rattle.term_reader.specs.ShapeFaults.{IsSymbolLayer, IsTokenLayer}
use Rattle.text_items.specs.Stepping.{AreInside, BeginsItem, has_two, name_in, IsSymbolAt}
use Rattle.text_items.proofs.ItemsAtLemmas.{ends_behind, ends_inside, item_is, items_are, no_items_are}
use Rattle.text_items.proofs.ShapeLemmas.{list_is}
use Rattle.term_model.proofs.Basics.{or_none}
use Rattle.term_reader.proofs.FormSteps.{range_on}

pub is_symbol_item : (i : Item) → symbol_fault i ≡ None → is_some (symbol_name i) ≡ true
is_symbol_item i e = go (is_some (symbol_name i)) refl e
  where
    go : (b : Bool) → is_some (symbol_name i) ≡ b → cond b None (Some (place_of i)) ≡ None → is_some (symbol_name i) ≡ true
    go true h e = h
    go false h e = absurd cc

-- a symbol is no list
symbol_alone : (i : Item) → is_some (symbol_name i) ≡ true → is_list_item i ≡ false
symbol_alone (word place spelling) e = refl
symbol_alone (quoted place spelling) e = refl
symbol_alone (string place spelling) e = refl
symbol_alone (list place items) e = absurd cc

-- a symbol's name, where it stands
pub named_at : (i : Item) (name : List ℕ) → symbol_name i ≡ Some name → name_at i ≡ record { place = place_of i; name = name }
named_at i name e = ap (λ o. record { place = place_of i; name = unwrap_or o [] }) e

pub symbol_there : (items : ItemsView) (k : ℕ) (name : List ℕ) → k < length items.nodes → symbol_name (item_at items k) ≡ Some name → IsSymbolAt items k
symbol_there items k name inside e = record {
  inside = inside;
  symbol = ap (λ (o : Option (List ℕ)). if is_some o then None else Some (place_of (item_at items k))) e;
}

-- the top of a symbol, and that of another token
module _ (items : ItemsView) (k : ℕ) (inside : k < length items.nodes) (nested : AreInside items) where
  pub symbol_top : (name : List ℕ) (top : Layer) (f : Form) → symbol_name (item_at items k) ≡ Some name → IsSymbolLayer (place_of (item_at items k)) name top f → IsLayer items k top f
  symbol_top name (Layer.Faulty r) f e h = h
  symbol_top name (Layer.Number v) f e h = absurd h
  symbol_top name Layer.Symbol f e h = (
    h ∙ ap symbol (sym (named_at (item_at items k) name e)),
    symbol_there items k name inside e,
    nested.alone k inside (symbol_alone (item_at items k) (ap is_some e)),
  )
  symbol_top name (Layer.Application head first end) f e h = absurd h
  symbol_top name (Layer.Let first body) f e h = absurd h
  symbol_top name (Layer.Annotated t first end) f e h = absurd h

  pub token_top : (top : Layer) (f : Form) → is_list_item (item_at items k) ≡ false → IsTokenLayer (place_of (item_at items k)) top f → IsLayer items k top f
  token_top (Layer.Faulty r) f e h = h
  token_top (Layer.Number v) f e (n, same, value) = (n, same, value, nested.alone k inside e)
  token_top Layer.Symbol f e h = absurd h
  token_top (Layer.Application head first end) f e h = absurd h
  token_top (Layer.Let first body) f e h = absurd h
  token_top (Layer.Annotated t first end) f e h = absurd h

-- a word that is a symbol
symbol_word : (keyword literal digit : Bool) (a c d e : Form) → (not digit && not keyword && not literal) ≡ true
    → cond keyword a (cond literal c (cond digit d e)) ≡ e
symbol_word true literal true a c d e h = absurd cc
symbol_word true literal false a c d e h = absurd cc
symbol_word false true true a c d e h = absurd cc
symbol_word false true false a c d e h = absurd cc
symbol_word false false true a c d e h = absurd cc
symbol_word false false false a c d e h = refl

word_symbol : (place : ℕ) (spelling : List ℕ) → is_symbol spelling ≡ true → word_form place spelling ≡ symbol_form (record { place = place; name = spelling })
word_symbol place [] h = absurd cc
word_symbol place (b ∷ rest) h =
    symbol_word (b == 58) (b == 35) (is_ascii_digit b) (faulty BadCommand place) (faulty LeftOut place) (number_form place (b ∷ rest)) (symbol_form (record { place = place; name = b ∷ rest })) h

-- what a word's name says
record IsNamedSo (spelling name : List ℕ) : Type 0 where
  spelled : is_symbol spelling ≡ true
  same : spelling ≡ name

named_so : (spelling name : List ℕ) → name_spelled Word spelling ≡ Some name → IsNamedSo spelling name
named_so spelling name e = go (is_symbol spelling) refl e
  where
    go : (b : Bool) → is_symbol spelling ≡ b → cond b (Some spelling) None ≡ Some name → IsNamedSo spelling name
    go true h e = record { spelled = h; same = cc }
    go false h e = absurd cc

pub symbol_spelled : (i : Item) (name : List ℕ) → symbol_name i ≡ Some name → form_of i ≡ symbol_form (record { place = place_of i; name = name })
unfolding form_of
symbol_spelled (word place spelling) name e =
    let n = named_so spelling name e in word_symbol place spelling n.spelled ∙ ap (λ v. symbol_form (record { place = place; name = v })) n.same
symbol_spelled (quoted place spelling) name e =
    let same : between_bars spelling ≡ name = cc in ap (λ v. symbol_form (record { place = place; name = v })) same
symbol_spelled (string place spelling) name e = absurd cc
symbol_spelled (list place items) name e = absurd cc

-- a token that is no symbol: a word or a string
pub word_spelled : (kind : TokenKind) (spelling : List ℕ) (i : Item) (top : Layer) (place : ℕ) → kind ≡ Word → BeginsItem kind spelling i → place ≡ place_of i → IsTokenLayer place top (word_form place spelling) → IsTokenLayer (place_of i) top (form_of i)
unfolding form_of
word_spelled kind spelling (word at own) top place is begins same h = rw (← same, ← begins.1) h
word_spelled kind spelling (quoted at own) top place is begins same h = absurd (cc (begins.0, is))
word_spelled kind spelling (string at own) top place is begins same h = absurd (cc (begins.0, is))
word_spelled kind spelling (list at items) top place is begins same h = absurd (cc (begins, is))

pub string_spelled : (kind : TokenKind) (spelling : List ℕ) (i : Item) (place : ℕ) → kind ≢ Word → BeginsItem kind spelling i → place ≡ place_of i → is_list_item i ≡ false → symbol_name i ≡ None → form_of i ≡ faulty LeftOut place
unfolding form_of
string_spelled kind spelling (word at own) place other begins same e none = absurd (other begins.0)
string_spelled kind spelling (quoted at own) place other begins same e none = absurd cc
string_spelled kind spelling (string at own) place other begins same e none = ap (faulty LeftOut) (sym same)
string_spelled kind spelling (list at items) place other begins same e none = absurd cc

-- lists
pub short_list : (place : ℕ) (items : Items) → has_two items ≡ false → form_of (list place items) ≡ faulty BadCommand place
unfolding form_of
short_list place no_items e = refl
short_list place (item head no_items) e = refl
short_list place (item head (item first rest)) e = absurd cc

pub headed_list : (place : ℕ) (head first : Item) (rest : Items) → form_of (list place (item head (item first rest))) ≡ list_form place head (item first rest) (form_of first) (forms_of rest) (binds_of first)
unfolding form_of
headed_list place head first rest = refl

pub unnamed_head : (place : ℕ) (head : Item) (items : Items) (f : Form) (fs : Forms) (bs : LetBinds) → symbol_name head ≡ None
    → list_form place head items f fs bs ≡ faulty (cond (is_list_item head) LeftOut BadCommand) (place_of head)
unnamed_head place head items f fs bs e =
    ap (λ b. cond b (symbol_list_form place (name_at head) items f fs bs) (cond (is_list_item head) (faulty LeftOut (place_of head)) (faulty BadCommand (place_of head)))) (ap is_some e)
    ∙ either (is_list_item head)
  where
    either : (b : Bool) → cond b (faulty LeftOut (place_of head)) (faulty BadCommand (place_of head)) ≡ faulty (cond b LeftOut BadCommand) (place_of head)
    either true = refl
    either false = refl

pub named_head : (place : ℕ) (head : Item) (items : Items) (f : Form) (fs : Forms) (bs : LetBinds) (name : List ℕ) → symbol_name head ≡ Some name
    → list_form place head items f fs bs ≡ symbol_list_form place (name_at head) items f fs bs
named_head place head items f fs bs name e =
    ap (λ b. cond b (symbol_list_form place (name_at head) items f fs bs) (cond (is_list_item head) (faulty LeftOut (place_of head)) (faulty BadCommand (place_of head)))) (ap is_some e)

-- the first of some items, and none
record AreFirst (items : ItemsView) (k m : ℕ) (i : Item) (rest : Items) : Type 0 where
  less : k < m
  first : item_at items k ≡ i
  others : items_at items (end_at items k) m ≡ rest

firsts : (items : ItemsView) (k m : ℕ) (i : Item) (rest : Items) → m ≤ length items.nodes → items_at items k m ≡ item i rest → AreFirst items k m i rest
firsts items k m i rest inside e = go (nat_lt k m) refl
  where
    go : (b : Bool) → nat_lt k m ≡ b → AreFirst items k m i rest
    go true h =
        let less : k < m = grind (arith, nat_tests) in
        let split = sym (items_are items k m less inside) ∙ e in
        record { less = less; first = cc split; others = cc split }
    go false h = let none = no_items_are items k m (grind (arith, nat_tests)) in absurd cc

none_left : (items : ItemsView) (k m : ℕ) → m ≤ length items.nodes → items_at items k m ≡ no_items → m ≤ k
none_left items k m inside e = go (nat_lt k m) refl
  where
    go : (b : Bool) → nat_lt k m ≡ b → m ≤ k
    go true h = let some = items_are items k m (grind (arith, nat_tests)) inside in absurd cc
    go false h = grind (arith, nat_tests)

-- what stands in a list
inside_list : (items : ItemsView) (k place : ℕ) (its : Items) → k < length items.nodes → item_at items k ≡ list place its → items_at items (k + 1) (end_at items k) ≡ its
inside_list items k place its inside e = go (slice_get items.nodes k) (sym (item_is items k inside) ∙ e)
  where
    token : (kind : TokenKind) (at : ℕ) (spelling : List ℕ) (those : Items) → item_of_token kind at spelling those ≡ list place its → those ≡ its
    token Word at spelling those h = absurd cc
    token Quoted at spelling those h = absurd cc
    token Text at spelling those h = absurd cc
    token Open at spelling those h = cc
    token Close at spelling those h = cc

    go : (o : Option Node) → item_of_node items.source o (items_at items (k + 1) (end_by (length items.nodes) k o)) ≡ list place its → items_at items (k + 1) (end_by (length items.nodes) k o) ≡ its
    go None h = let none = no_items_are items (k + 1) (k + 1) (omega arith) in cc
    go (Some node) h = token node.token.kind node.token.start (token_text items.source node.token) _ h

third : (p q r : Bool) (a b c d : Form) → p ≡ false → q ≡ false → r ≡ false → cond p a (cond q b (cond r c d)) ≡ d
third p q r a b c d e f g = rw (e, f, g) refl

none_first : (o p : Option ℕ) → option_or o p ≡ None → o ≡ None
none_first None p e = refl
none_first (Some n) p e = absurd cc

none_second : (o p : Option ℕ) → option_or o p ≡ None → p ≡ None
none_second None p e = e
none_second (Some n) p e = absurd cc

-- Pairs without fault are bindings.
module _ (items : ItemsView) (nested : AreInside items) where
  -- a pair of a symbol and another item
  record IsPair (k : ℕ) (x t : Item) : Type 0 where
    named : IsSymbolAt items (k + 1)
    called : name_at x ≡ name_in items (k + 1)
    below : k + 2 < length items.nodes
    spelled : form_of t ≡ form_at items (k + 2)
    ends : end_at items k ≡ end_at items (k + 2)

  is_pair : (k place : ℕ) (x t : Item) → k < length items.nodes → item_at items k ≡ list place (item x (item t no_items)) → symbol_fault x ≡ None → IsPair k x t
  is_pair k place x t inside e fit =
      let end = ends_inside items k inside in
      let a = firsts items (k + 1) (end_at items k) x (item t no_items) end (inside_list items k place _ inside e) in
      let named : symbol_fault (item_at items (k + 1)) ≡ None = ap symbol_fault a.first ∙ fit in
      let less = a.less in
      let next = nested.alone (k + 1) (omega arith) (symbol_alone (item_at items (k + 1)) (is_symbol_item (item_at items (k + 1)) named)) in
      let two : (k + 1) + 1 ≡ k + 2 = omega arith in
      let b = firsts items (k + 2) (end_at items k) t no_items end (ap (λ n. items_at items n (end_at items k)) (sym (next ∙ two)) ∙ a.others) in
      let below = b.less in
      let last = none_left items (end_at items (k + 2)) (end_at items k) end b.others in
      let within = nested.ends k (k + 2) (omega arith) below in
      record {
        named = record { inside = omega arith; symbol = named };
        called = ap name_at (sym a.first);
        below = omega arith;
        spelled = ap form_of (sym b.first);
        ends = omega arith;
      }

  pub pairs_bind : (k m : ℕ) (its : Items) → IsRange items k m → items_at items k m ≡ its → pairs_fault its ≡ None → AreBinds items k (binds_in its) m
  unfolding form_of
  pairs_bind k m no_items range e h = let none = none_left items k m range.inside e in omega (arith, none, range.before)
  pairs_bind k m (item (word place spelling) others) range e h = absurd cc
  pairs_bind k m (item (quoted place spelling) others) range e h = absurd cc
  pairs_bind k m (item (string place spelling) others) range e h = absurd cc
  pairs_bind k m (item (list place no_items) others) range e h = absurd cc
  pairs_bind k m (item (list place (item x no_items)) others) range e h = absurd cc
  pairs_bind k m (item (list place (item x (item t (item y rest)))) others) range e h =
      absurd (some_none (symbol_fault x) (none_first (option_or (symbol_fault x) (Some (place_of y))) (pairs_fault others) h))
    where
      some_none : (o : Option ℕ) → option_or o (Some (place_of y)) ≡ None → ⊥
      some_none None h = cc
      some_none (Some n) h = cc
  pairs_bind k m (item (list place (item x (item t no_items))) others) range e h =
      let inside = range.inside in
      let a = firsts items k m _ others inside e in
      let less = a.less in
      let p = is_pair k place x t (omega arith) a.first (none_first (symbol_fault x) None (none_first (option_or (symbol_fault x) None) (pairs_fault others) h)) in (
        p.named,
        p.called,
        p.below,
        p.spelled,
        subst (λ (n : ℕ). AreBinds items n (binds_in others) m) p.ends
            (pairs_bind (end_at items k) m others (range_on items k m range less) a.others (none_second (option_or (symbol_fault x) None) (pairs_fault others) h)),
      )

-- An application, of which the first argument is at node `first`.
module _ (items : ItemsView) (k first : ℕ) (a : IsApplied items k first) (nested : AreInside items) where
  abbrev place : ℕ
  place = place_of (item_at items k)

  pub behind_head : k < first
  behind_head = let later = a.second.later in omega arith

  end_within : end_at items k ≤ length items.nodes
  end_within = ends_inside items k a.inside

  pub first_within : first < length items.nodes
  first_within = let e = end_within in let less = a.second.less in omega arith

  pub arguments_range : IsRange items first (end_at items k)
  arguments_range = let less = a.second.less in let h = behind_head in record { before = omega arith; inside = end_within; nested = λ j from to. nested.ends k j (omega arith) to }

  arguments_are : items_at items first (end_at items k) ≡ arguments_of items k first
  arguments_are = items_are items first (end_at items k) a.second.less end_within

  pub applied_spelled : (name : List ℕ) → symbol_name (item_at items (k + 1)) ≡ Some name → form_of (item_at items k) ≡ applied_form items k first
  unfolding form_of
  applied_spelled name e =
      let is = list_is (item_at items k) a.is in
      let those = sym (inside_list items k place (items_of (item_at items k)) a.inside is) ∙ a.second.split in
      ap form_of (is ∙ ap (list place) those) ∙ headed_list place (item_at items (k + 1)) (item_at items first) (others_of items k first)
      ∙ named_head place (item_at items (k + 1)) (arguments_of items k first) (form_of (item_at items first)) (forms_of (others_of items k first)) (binds_of (item_at items first)) name e

  pub application_top : (end : ℕ) (name : List ℕ) → symbol_name (item_at items (k + 1)) ≡ Some name
      → bytes_eq name (codes "let") ≡ false → bytes_eq name (codes "!") ≡ false → is_among left_out_words name ≡ false → end ≡ end_at items k
      → IsLayer items k (Layer.Application (k + 1) first end) (applied_form items k first)
  unfolding form_of
  application_top end name e no_let no_mark kept same =
      let those = arguments_of items k first in
      let less = a.second.less in
      let named : name_at (item_at items (k + 1)) ≡ record { place = place_of (item_at items (k + 1)); name = name } = named_at (item_at items (k + 1)) name e in (
        ap (λ n. symbol_list_form place n those (form_of (item_at items first)) (forms_of (others_of items k first)) (binds_of (item_at items first))) named
            ∙ third (bytes_eq name (codes "let")) (bytes_eq name (codes "!")) (is_among left_out_words name)
            (unless_faulty (let_fault place those) (let_form place (binds_of (item_at items first)) (first_form (forms_of (others_of items k first)))))
            (unless_faulty (annotation_fault place those) (annotated place (form_of (item_at items first)) (names_given those)))
            (faulty LeftOut (place_of (item_at items (k + 1)))) (application place (record { place = place_of (item_at items (k + 1)); name = name }) (form (form_of (item_at items first)) (forms_of (others_of items k first))))
            no_let no_mark kept
            ∙ ap (λ v. application place (record { place = place_of (item_at items (k + 1)); name = name }) v) (sym (ap forms_of arguments_are) ∙ ap (λ n. forms_at items first n) (sym same))
            ∙ ap (λ n. application place n (forms_at items first end)) (sym named),
        symbol_there items (k + 1) name (let w = first_within in let h = a.second.later in omega arith) e,
        subst (λ (n : ℕ). IsRange items first n) (sym same) arguments_range,
        omega arith,
        same,
        behind_head,
      )

  -- what a let binds, and its body
  record IsLetShape : Type 0 where
    binds : AreBinds items (first + 1) (binds_of (item_at items first)) (end_at items first)
    some : first + 1 < end_at items first
    within : end_at items first < length items.nodes
    body : first_form (forms_of (others_of items k first)) ≡ form_at items (end_at items first)
    ends : end_at items (end_at items first) ≡ end_at items k

  let_shape : (arg : Item) (rest : Items) → item_at items first ≡ arg → others_of items k first ≡ rest → let_fault place (item arg rest) ≡ None → IsLetShape
  unfolding form_of
  let_shape arg no_items is are e = absurd cc
  let_shape arg (item body (item more rest)) is are e = absurd (go (bindings_fault arg) e)
    where
      go : (o : Option ℕ) → option_or o (Some (place_of more)) ≡ None → ⊥
      go None h = cc
      go (Some n) h = cc
  let_shape (word at spelling) (item body no_items) is are e = absurd cc
  let_shape (quoted at spelling) (item body no_items) is are e = absurd cc
  let_shape (string at spelling) (item body no_items) is are e = absurd cc
  let_shape (list at no_items) (item body no_items) is are e = absurd cc
  let_shape (list at (item pair others)) (item body no_items) is are e =
      let those = inside_list items first at (item pair others) first_within is in
      let within = ends_inside items first first_within in
      let p = firsts items (first + 1) (end_at items first) pair others within those in
      let some = p.less in
      let b = firsts items (end_at items first) (end_at items k) body no_items end_within are in
      let below = b.less in
      let over = end_within in
      let head = behind_head in
      let later = ends_behind items first in
      let last = none_left items (end_at items (end_at items first)) (end_at items k) end_within b.others in
      let inner = nested.ends k (end_at items first) (omega arith) below in
      record {
        binds = rw is (pairs_bind items nested (first + 1) (end_at items first) (item pair others) (record { before = omega arith; inside = within; nested = λ j from to. nested.ends first j (omega arith) to }) those
            (none_first (pairs_fault (item pair others)) None e));
        some = some;
        within = omega arith;
        body = ap (λ (v : Items). first_form (forms_of v)) are ∙ ap form_of (sym b.first);
        ends = omega arith;
      }

  pub let_top : (body : ℕ) → let_fault place (arguments_of items k first) ≡ None → body ≡ end_at items first
      → IsLayer items k (Layer.Let (first + 1) body) (unless_faulty (let_fault place (arguments_of items k first)) (let_form place (binds_of (item_at items first)) (first_form (forms_of (others_of items k first)))))
  let_top body none same =
      let shape = let_shape (item_at items first) (others_of items k first) refl refl none in (
        binds_of (item_at items first),
        ap (λ o. unless_faulty o (let_form place (binds_of (item_at items first)) (first_form (forms_of (others_of items k first))))) none
            ∙ ap (let_form place (binds_of (item_at items first))) (shape.body ∙ ap (form_at items) (sym same)),
        subst (λ (v : ℕ). AreBinds items (first + 1) (binds_of (item_at items first)) v) (sym same) shape.binds,
        subst (λ (v : ℕ). first + 1 < v) (sym same) shape.some,
        subst (λ (v : ℕ). v < length items.nodes) (sym same) shape.within,
        ap (end_at items) same ∙ shape.ends,
        let h = behind_head in omega arith,
      )

-- Attributes without fault of shape: after each `:named` stands a symbol.
abbrev naming : List Known
naming = naming_keyword ∷ []

name_wanted : (i : Item) → is_named_item i ≡ true → after_item naming i ≡ Next.Value Wanted.Name
name_wanted (word place spelling) e = ap (λ (s : List ℕ). after_keyword naming (if is_keyword s then Some s else None)) ((bytes_eq-Decides spelling (codes ":named")).0 e)
name_wanted (quoted place spelling) e = absurd cc
name_wanted (string place spelling) e = absurd cc
name_wanted (list place items) e = absurd cc

names_symbols : (before : Item) (others : Items) → misplaced naming (after_item naming before) others ≡ None → NamesAreSymbols before others
names_symbols before no_items e = tt
names_symbols before (item i rest) e =
    let (none, later) = or_none (next_fault (after_item naming before) i) (misplaced naming (after_item naming i) rest) e in (
      λ named. is_symbol_item i (ap (λ (n : Next). next_fault n i) (sym (name_wanted before named)) ∙ none),
      names_symbols i rest later,
    )

attributes_fit : (place : ℕ) (first : Item) (rest : Items) → attributes_fault naming place (item first rest) ≡ None → misplaced naming (after_item naming first) rest ≡ None
attributes_fit place first rest e =
    (or_none (next_fault word_next first) (misplaced naming (after_item naming first) rest) (go (is_value (at_end naming word_next (item first rest)) || lacks_keyword naming (item first rest)) e)).1
  where
    earliest : (a b : Option ℕ) → earlier a b ≡ None → a ≡ None
    earliest None b e = refl
    earliest (Some n) None e = absurd cc
    earliest (Some n) (Some m) e = some (nat_le n m) e
      where
        some : (b : Bool) → (if b then Some n else Some m) ≡ None → Some n ≡ None
        some true f = absurd cc
        some false f = absurd cc

    go : (b : Bool) → (if b then Some place else earlier (misplaced naming word_next (item first rest)) (repeated naming (item first rest))) ≡ None → misplaced naming word_next (item first rest) ≡ None
    go true f = absurd cc
    go false f = earliest (misplaced naming word_next (item first rest)) (repeated naming (item first rest)) f

record GivesAttributes (items : ItemsView) (k : ℕ) (names : List Name) (m : ℕ) : Type 0 where
  are : AreTermAttributes items k m
  give : names ≡ names_at items k m

attributes_there : (items : ItemsView) (place k m : ℕ) (arg : Item) (rest : Items) → IsRange items k m → items_at items k m ≡ rest → annotation_fault place (item arg rest) ≡ None
    → GivesAttributes items k (names_given (item arg rest)) m
attributes_there items place k m arg no_items range are e = absurd cc
attributes_there items place k m arg (item first others) range are e =
    let a = firsts items k m first others range.inside are in
    record {
      are = record { some = a.less; range = range; named = rw (a.first, a.others) (names_symbols first others (attributes_fit place first others e)) };
      give = ap (λ i. names_after i others) (sym a.first) ∙ ap (names_after (item_at items k)) (sym a.others);
    }

pub annotation_top : (items : ItemsView) (k first : ℕ) (a : IsApplied items k first) → AreInside items → (behind end : ℕ) → annotation_fault (place_of (item_at items k)) (arguments_of items k first) ≡ None → behind ≡ end_at items first → end ≡ end_at items k
    → IsLayer items k (Layer.Annotated first behind end) (unless_faulty (annotation_fault (place_of (item_at items k)) (arguments_of items k first)) (annotated (place_of (item_at items k)) (form_of (item_at items first)) (names_given (arguments_of items k first))))
annotation_top items k first a nested behind end none same last =
    let head = behind_head items k first a nested in
    let given = attributes_there items (place_of (item_at items k)) (end_at items first) (end_at items k) (item_at items first) (others_of items k first) (range_on items first (end_at items k) (arguments_range items k first a nested) a.second.less) refl none in (
      ap (λ o. unless_faulty o (annotated (place_of (item_at items k)) (form_of (item_at items first)) (names_given (arguments_of items k first)))) none
          ∙ ap (annotated (place_of (item_at items k)) (form_at items first)) (given.give ∙ ap (λ n. names_at items n (end_at items k)) (sym same) ∙ ap (λ n. names_at items behind n) (sym last)),
      first_within items k first a nested,
      sym same,
      subst (λ (v : ℕ). AreTermAttributes items v end) (sym same) (subst (λ (v : ℕ). AreTermAttributes items (end_at items first) v) (sym last) given.are),
      last,
      head,
    )

-- a shape that is faulty
pub faulty_top : (o : Option ℕ) (f : Form) (at : ℕ) → Some at ≡ o → unless_faulty o f ≡ faulty BadCommand at
faulty_top o f at e = ap (λ v. unless_faulty v f) (sym e)
