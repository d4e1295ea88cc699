-- Cited by crates above. The commands of a proof by their words, and by the nodes of their items.
use Rattle.std.proofs.Common.{◌≡◌, ℕ, ◌+◌, ◌<◌, ◌≤◌, ◌∙◌, Bool, true, false, ◌||◌, List, length, Option, Some, None, Result, Ok, Err, refl, sym, ap, arith}
use Rattle.std.specs.Prelude.{⊤, if◌then◌else◌, codes, bytes_eq, nat_le, nat_lt, slice_get}
use Rattle.std.proofs.lemmas.Bool.Decides.{nat_tests}
use Rattle.std.proofs.lemmas.Slice.Eq.{bytes_eq-Decides}
use Rattle.std.specs.Option.{option_or}
use Rattle.sexpr.specs.declared.causes.Cause.TheVariants.{BadCommand}
use Rattle.sexpr.specs.declared.causes.Refusal.{Refusal}
use Rattle.sexpr.specs.Words.{is_symbol}
use Rattle.sexpr.specs.Items.{Item, word, quoted, string, list, Items, no_items, item, place_of}
use Rattle.sexpr.specs.declared.lexing.TokenKind.{TokenKind}
use Rattle.sexpr.specs.declared.lexing.TokenKind.TheVariants.{Open, Close, Text, Quoted, Word}
use Rattle.text_items.specs.declared.nodes.Node.{Node}
use Rattle.text_items.specs.ItemShapes.{excess, symbol_fault, items_of, name_at}
use Rattle.text_items.specs.ItemsAt.{ItemsView, end_at, end_by, item_of_node, item_of_token, item_at, items_at}
use Rattle.text_items.specs.Keywords.{Known, list_fault, earlier, is_value, at_end, word_next, misplaced, repeated, lacks_keyword, attributes_fault}
use Rattle.text_items.specs.Spelling.{is_list_item}
use Rattle.text_items.specs.Stepping.{HasTaken, HasSecond, has_two, head_word}
use Rattle.text_items.proofs.ItemsAtLemmas.{item_is, items_are, no_items_are, ends_inside, end_by_all}
use Rattle.term_model.proofs.Basics.{choice, or_none}
use Rattle.problem_text.specs.Commands.{refused}
use Rattle.alethe_text.specs.Commands.{Command as Shape, step, step_keywords, clause_fault, attributes_of, word_fault, each_argument_fault, arguments_fault, argument_items, step_shape, command_named, headed_command, command_of}
use Rattle.problem_text.specs.Commands.{shaped}
use Rattle.text_items.specs.Keywords.{behind_first}
use Rattle.alethe_commands.specs.declared.commands.CommandWord.{CommandWord}
use Rattle.alethe_commands.specs.CommandNodes.{IsStepThere}
use Rattle.alethe_commands.specs.CommandShapes.{without_fault, word_named, command_so, HasLiterals, HasArguments}

pub turned : (a b : List ℕ) → bytes_eq a b ≡ bytes_eq b a
turned a b = go (bytes_eq a b) (bytes_eq b a) refl refl
  where
    go : (p q : Bool) → bytes_eq a b ≡ p → bytes_eq b a ≡ q → bytes_eq a b ≡ bytes_eq b a
    go true q e f = e ∙ sym ((bytes_eq-Decides b a).1 (sym ((bytes_eq-Decides a b).0 e)))
    go false true e f = (bytes_eq-Decides a b).1 (sym ((bytes_eq-Decides b a).0 f)) ∙ sym f
    go false false e f = e ∙ sym f

-- the same of a comparison whose sides are turned
turned_choice : {A B : Type 0} (f : A → B) (name known : List ℕ) (x y : A) (u v : B) → u ≡ f x → v ≡ f y → (if bytes_eq name known then u else v) ≡ f (if bytes_eq known name then x else y)
turned_choice f name known x y u v p q = ap (λ b. if b then u else v) (turned name known) ∙ choice f (bytes_eq known name) x y u v p q

by_word : (place word_place : ℕ) (name : List ℕ) (items : Items) → command_named place word_place name items ≡ command_so (word_named name) place word_place items
by_word place word_place name items =
    let f : CommandWord → Result Shape Refusal = λ w. command_so w place word_place items in
    turned_choice f name (codes "assume") _ _ _ _ refl
    (turned_choice f name (codes "step") _ _ _ _ refl
    (turned_choice f name (codes "anchor") _ _ _ _ refl
    (turned_choice f name (codes "define-fun") _ _ _ _ refl refl)))

-- the command by its head
abbrev headed : ℕ → ℕ → Option (List ℕ) → Items → Result Shape Refusal
headed place word_place (Some name) items = command_named place word_place name items
headed place word_place None items = refused BadCommand word_place

by_head : (place : ℕ) (head : Item) (items : Items) → headed_command place head items ≡ headed place (place_of head) (head_word head) items
by_head place (word p s) items = go (is_symbol s)
  where
    go : (b : Bool) → (if b then command_named place p s items else refused BadCommand p) ≡ headed place p (if b then Some s else None) items
    go true = refl
    go false = refl
by_head place (quoted p s) items = refl
by_head place (string p s) items = refl
by_head place (list p inside) items = refl

-- the command by what stands in the item
abbrev inside : ℕ → Items → Result Shape Refusal
inside place no_items = refused BadCommand place
inside place (item head items) = headed_command place head items

by_items : (i : Item) → command_of i ≡ inside (place_of i) (items_of i)
unfolding command_of
by_items (word p s) = refl
by_items (quoted p s) = refl
by_items (string p s) = refl
by_items (list p no_items) = refl
by_items (list p (item head items)) = refl

pub lacks_word : (i : Item) → items_of i ≡ no_items → (p : ℕ) → p ≡ place_of i → (r : Refusal) → r ≡ record { cause = BadCommand; at = p } → command_of i ≡ Err r
lacks_word i e p start r is =
    by_items i ∙ ap (inside (place_of i)) e ∙ ap (λ q. refused {A = Shape} BadCommand q) (sym start) ∙ ap Err (sym is)

has_head : (i head : Item) (items : Items) → items_of i ≡ item head items → (name : Option (List ℕ)) → name ≡ head_word head
    → command_of i ≡ headed (place_of i) (place_of head) name items
has_head i head items e name is =
    by_items i ∙ ap (inside (place_of i)) e ∙ by_head (place_of i) head items
    ∙ ap (λ o. headed (place_of i) (place_of head) o items) (sym is)

pub with_word : (i head : Item) (items : Items) → items_of i ≡ item head items → (name : List ℕ) → Some name ≡ head_word head → (w : CommandWord) → w ≡ word_named name
    → (p q : ℕ) → p ≡ place_of i → q ≡ place_of head → command_of i ≡ command_so w p q items
with_word i head items e name is w named p q start word_start =
    has_head i head items e (Some name) is ∙ by_word (place_of i) (place_of head) name items
    ∙ ap (λ v. command_so v (place_of i) (place_of head) items) (sym named)
    ∙ ap (λ r. command_so w r (place_of head) items) (sym start) ∙ ap (λ r. command_so w p r items) (sym word_start)

pub without_word : (i head : Item) (items : Items) → items_of i ≡ item head items → None ≡ head_word head → (q : ℕ) → q ≡ place_of head → command_of i ≡ refused BadCommand q
without_word i head items e is q word_start = has_head i head items e None is ∙ ap (λ r. refused {A = Shape} BadCommand r) (sym word_start)

earlier_none : (a b : Option ℕ) → earlier a b ≡ None → (a ≡ None) × (b ≡ None)
earlier_none None b e = (refl, e)
earlier_none (Some a) None e = cc
earlier_none (Some a) (Some b) e = go (nat_le a b) e
  where
    go : (t : Bool) → (if t then Some a else Some b) ≡ None → (Some a ≡ None) × (Some b ≡ None)
    go true e = cc
    go false e = cc

-- attributes without a fault
pub attributes_fit : (known : List Known) (place : ℕ) (items : Items) → attributes_fault known place items ≡ None → (misplaced known word_next items ≡ None) × (is_value (at_end known word_next items) ≡ false)
attributes_fit known place items e = go (is_value (at_end known word_next items)) (lacks_keyword known items) refl e
  where
    go : (a b : Bool) → is_value (at_end known word_next items) ≡ a → (if a || b then Some place else earlier (misplaced known word_next items) (repeated known items)) ≡ None
        → (misplaced known word_next items ≡ None) × (is_value (at_end known word_next items) ≡ false)
    go true b is e = cc
    go false true is e = cc
    go false false is e = ((earlier_none (misplaced known word_next items) (repeated known items) e).0, is)

pub faultless : (o : Option ℕ) (r : Result ⊤ Refusal) (u : ⊤) → r ≡ without_fault o → r ≡ Ok u → o ≡ None
faultless None r u e is = refl
faultless (Some place) r u e is = cc

-- A step without a fault is said by its nodes.
pub step_said : (items : ItemsView) (start a b rest : ℕ) → HasTaken items a b (length items.nodes) → HasTaken items b rest (length items.nodes)
    → earlier (attributes_fault step_keywords start (items_at items rest (length items.nodes))) (option_or (symbol_fault (item_at items a)) (clause_fault (item_at items b))) ≡ None
    → (clause_fault (item_at items b) ≡ None → HasLiterals items b)
    → (step_shape start (items_at items a (length items.nodes)) ≡ Ok (step (name_at (item_at items a)) (items_at items (b + 2) rest) (attributes_of (items_at items rest (length items.nodes)))))
    × IsStepThere items a (b + 2) rest
step_said items start a b rest t u none literals =
    let behind = items_at items rest (length items.nodes) in
    let parts = earlier_none (attributes_fault step_keywords start behind) (option_or (symbol_fault (item_at items a)) (clause_fault (item_at items b))) none in
    let before = or_none (symbol_fault (item_at items a)) (clause_fault (item_at items b)) parts.1 in
    let fit = attributes_fit step_keywords start behind parts.0 in
    let clause = literals before.1 in (
      ap (step_shape start) (t.split ∙ ap (item (item_at items a)) u.split)
          ∙ ap (λ o. shaped o (step (name_at (item_at items a)) (behind_first (items_of (item_at items b))) (attributes_of behind))) none
          ∙ ap (λ (xs : Items). Ok (step (name_at (item_at items a)) xs (attributes_of behind))) (clause.same ∙ ap (items_at items (b + 2)) (sym u.here)),
      record {
        name_there = record { inside = t.less; symbol = before.0 };
        ordered = omega (arith, clause.inside, u.here);
        literals_there = record { inside = u.inside; nested = rw u.here clause.nested };
        attributes_there = record { inside = omega arith; nested = end_by_all items rest; next = word_next; fit = fit.0; ended = fit.1 };
      },
    )

-- what stands in a list
children : (items : ItemsView) (k : ℕ) → k < length items.nodes → is_list_item (item_at items k) ≡ true → items_of (item_at items k) ≡ items_at items (k + 1) (end_at items k)
children items k inside listed = ap items_of (item_is items k inside) ∙ go (slice_get items.nodes k) (sym (ap is_list_item (item_is items k inside)) ∙ listed)
  where
    by_kind : (kind : TokenKind) (place : ℕ) (spelling : List ℕ) (xs : Items) → is_list_item (item_of_token kind place spelling xs) ≡ true → items_of (item_of_token kind place spelling xs) ≡ xs
    by_kind Word place spelling xs e = cc
    by_kind Quoted place spelling xs e = cc
    by_kind Text place spelling xs e = cc
    by_kind Open place spelling xs e = refl
    by_kind Close place spelling xs e = refl

    go : (o : Option Node) → is_list_item (item_of_node items.source o (items_at items (k + 1) (end_by (length items.nodes) k o))) ≡ true
        → items_of (item_of_node items.source o (items_at items (k + 1) (end_by (length items.nodes) k o))) ≡ items_at items (k + 1) (end_by (length items.nodes) k o)
    go None e = sym (no_items_are items (k + 1) (k + 1) (omega arith))
    go (Some node) e = by_kind node.token.kind _ _ _ e

-- without an item more, the items end
ended : (items : ItemsView) (k m : ℕ) → m ≤ length items.nodes → excess (items_at items k m) ≡ None → m ≤ k
ended items k m inside none = go (nat_lt k m) refl
  where
    go : (b : Bool) → nat_lt k m ≡ b → m ≤ k
    go true is = let split = items_are items k m (grind (arith, nat_tests)) inside in let e = sym (ap excess split) ∙ none in cc
    go false is = grind (arith, nat_tests)

listed : (i : Item) → list_fault i ≡ None → is_list_item i ≡ true
listed (word p s) e = cc
listed (quoted p s) e = cc
listed (string p s) e = cc
listed (list p items) e = refl

pub arguments_there : (items : ItemsView) (k second : ℕ) → HasSecond items k second (length items.nodes) → arguments_fault (items_at items k (length items.nodes)) ≡ None → HasArguments items k (second + 1)
arguments_there items k second h none =
    let all = length items.nodes in
    let value = item_at items second in
    let parts = (or_none (word_fault (codes ":args") (item_at items k)) _ (sym (ap arguments_fault h.split) ∙ none)).1 in
    let listed = listed value (or_none (list_fault value) _ parts).0 in
    let inside = (or_none (each_argument_fault (items_of value)) _ (or_none (list_fault value) _ parts).1) in
    let high = ended items (end_at items second) all (omega arith) inside.1 in
    let low = ends_inside items second h.less in
    let ends : end_at items second ≡ all = omega (arith, high, low) in
    let are = children items second h.less listed ∙ ap (items_at items (second + 1)) ends in
    record {
      same = ap argument_items h.split ∙ are;
      there = record { inside = omega arith; fit = sym (ap each_argument_fault are) ∙ inside.0 };
      inside = omega (arith, h.less);
    }

short : (xs : Items) → has_two xs ≡ false → arguments_fault xs ≡ None → xs ≡ no_items
short no_items e none = refl
short (item x no_items) e none = cc
short (item x (item y rest)) e none = cc

pub no_arguments_there : (items : ItemsView) (k : ℕ) → has_two (items_at items k (length items.nodes)) ≡ false → arguments_fault (items_at items k (length items.nodes)) ≡ None → HasArguments items k (length items.nodes)
no_arguments_there items k few none =
    let all = length items.nodes in
    let empty = no_items_are items all all (omega arith) in
    record {
      same = ap argument_items (short (items_at items k all) few none) ∙ sym empty;
      there = record { inside = omega arith; fit = ap each_argument_fault empty };
      inside = omega arith;
    }
