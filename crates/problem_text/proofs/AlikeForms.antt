-- What an item spells, but for places, depends on no place.
use Rattle.std.proofs.Common.{◌≡◌, ℕ, ◌^◌, List, [], ◌∷◌, map, Bool, true, false, ◌||◌, Option, Some, None, is_some, option_map, codes, bytes_eq, nat_lt, if◌then◌else◌, refl, sym, ◌∙◌, ap, subst}
use Rattle.std.specs.Option.{option_or}
use Rattle.sexpr.specs.declared.causes.Cause.{Cause}
use Rattle.sexpr.specs.declared.causes.Cause.TheVariants.{BadCommand, LeftOut, WideNumber}
use Rattle.sexpr.specs.Words.{starts_with_digit, is_numeral, is_decimal, is_keyword, is_bit_literal, between_bars, numeral_value}
use Rattle.sexpr.specs.Items.{Item, word, quoted, string, list, Items, no_items, item, place_of, symbol_name}
use Rattle.text_items.specs.ItemShapes.{Name, excess, name_at, symbol_fault, pair_fault, pairs_fault}
use Rattle.text_items.specs.Keywords.{Known, keyword_of, list_fault, symbols_fault, symbol_list_fault, wanted_fault, after_keyword, after_item, next_fault, word_next, misplaced, at_end, is_value, earlier, attributes_fault}
use Rattle.text_items.specs.Spelling.{is_list_item}
use Rattle.text_items.specs.declared.keywords.Next.{Next}
use Rattle.text_items.specs.declared.keywords.Wanted.{Wanted}
use Rattle.text_items.specs.declared.keywords.Wanted.TheVariants as Wanted
use Rattle.problem_text.specs.NamedItems.{is_named_item}
use Rattle.problem_text.specs.Words.{is_among, left_out_words}
use Rattle.problem_text.specs.Forms.{Form, faulty, number, symbol, application, let_form, annotated, Forms, no_forms, form, LetBinds, no_binds, bind, first_form, bindings_fault, let_fault, naming_keyword, annotation_fault, names_after, names_given, number_form, symbol_form, word_form, unless_faulty, symbol_list_form, list_form, form_of, forms_of, binds_of, binds_in}
use Rattle.sexpr.specs.Spans.{unplaced, all_unplaced}
use Rattle.problem_text.specs.Alike.{name_unplaced, form_unplaced, forms_unplaced, binds_unplaced}

-- a fault at the place 0
abbrev zeroed : Option ℕ → Option ℕ
zeroed None = None
zeroed (Some place) = Some 0

zeroed_or : (a b : Option ℕ) → option_or (zeroed a) (zeroed b) ≡ zeroed (option_or a b)
zeroed_or None b = refl
zeroed_or (Some a) b = refl

zeroed_if : (b : Bool) (place : ℕ) → (if b then None else Some 0) ≡ zeroed (if b then None else Some place)
zeroed_if true place = refl
zeroed_if false place = refl

form_if : (b : Bool) (f g f' g' : Form) → f' ≡ form_unplaced f → g' ≡ form_unplaced g → (if b then f' else g') ≡ form_unplaced (if b then f else g)
form_if true f g f' g' e h = e
form_if false f g f' g' e h = h

unless_unplaced : (o q : Option ℕ) (f g : Form) → q ≡ zeroed o → g ≡ form_unplaced f → unless_faulty q g ≡ form_unplaced (unless_faulty o f)
unless_unplaced None q f g e h = rw e h
unless_unplaced (Some place) q f g e h = rw e refl

symbol_name_unplaced : (i : Item) → symbol_name (unplaced i) ≡ symbol_name i
symbol_name_unplaced (word place s) = refl
symbol_name_unplaced (quoted place s) = refl
symbol_name_unplaced (string place s) = refl
symbol_name_unplaced (list place is) = refl

name_at_unplaced : (i : Item) → name_at (unplaced i) ≡ name_unplaced (name_at i)
name_at_unplaced (word place s) = refl
name_at_unplaced (quoted place s) = refl
name_at_unplaced (string place s) = refl
name_at_unplaced (list place is) = refl

place_unplaced : (i : Item) → place_of (unplaced i) ≡ 0
place_unplaced (word place s) = refl
place_unplaced (quoted place s) = refl
place_unplaced (string place s) = refl
place_unplaced (list place is) = refl

list_item_unplaced : (i : Item) → is_list_item (unplaced i) ≡ is_list_item i
list_item_unplaced (word place s) = refl
list_item_unplaced (quoted place s) = refl
list_item_unplaced (string place s) = refl
list_item_unplaced (list place is) = refl

excess_unplaced : (is : Items) → excess (all_unplaced is) ≡ zeroed (excess is)
excess_unplaced no_items = refl
excess_unplaced (item i rest) = ap Some (place_unplaced i)

symbol_fault_unplaced : (i : Item) → symbol_fault (unplaced i) ≡ zeroed (symbol_fault i)
symbol_fault_unplaced (word place s) = zeroed_if (is_some (symbol_name (word place s))) place
symbol_fault_unplaced (quoted place s) = refl
symbol_fault_unplaced (string place s) = refl
symbol_fault_unplaced (list place is) = refl

pair_fault_unplaced : (i : Item) → pair_fault (unplaced i) ≡ zeroed (pair_fault i)
pair_fault_unplaced (word place s) = refl
pair_fault_unplaced (quoted place s) = refl
pair_fault_unplaced (string place s) = refl
pair_fault_unplaced (list place no_items) = refl
pair_fault_unplaced (list place (item x no_items)) = refl
pair_fault_unplaced (list place (item x (item t rest))) = rw (symbol_fault_unplaced x, excess_unplaced rest) (zeroed_or (symbol_fault x) (excess rest))

pairs_fault_unplaced : (is : Items) → pairs_fault (all_unplaced is) ≡ zeroed (pairs_fault is)
pairs_fault_unplaced no_items = refl
pairs_fault_unplaced (item i rest) = rw (pair_fault_unplaced i, pairs_fault_unplaced rest) (zeroed_or (pair_fault i) (pairs_fault rest))

bindings_fault_unplaced : (i : Item) → bindings_fault (unplaced i) ≡ zeroed (bindings_fault i)
bindings_fault_unplaced (word place s) = refl
bindings_fault_unplaced (quoted place s) = refl
bindings_fault_unplaced (string place s) = refl
bindings_fault_unplaced (list place no_items) = refl
bindings_fault_unplaced (list place (item i rest)) = pairs_fault_unplaced (item i rest)

let_fault_unplaced : (place : ℕ) (is : Items) → let_fault 0 (all_unplaced is) ≡ zeroed (let_fault place is)
let_fault_unplaced place no_items = refl
let_fault_unplaced place (item i no_items) = refl
let_fault_unplaced place (item i (item j rest)) = rw (bindings_fault_unplaced i, excess_unplaced rest) (zeroed_or (bindings_fault i) (excess rest))

keyword_unplaced : (i : Item) → keyword_of (unplaced i) ≡ keyword_of i
keyword_unplaced (word place s) = refl
keyword_unplaced (quoted place s) = refl
keyword_unplaced (string place s) = refl
keyword_unplaced (list place is) = refl

list_fault_unplaced : (i : Item) → list_fault (unplaced i) ≡ zeroed (list_fault i)
list_fault_unplaced (word place s) = refl
list_fault_unplaced (quoted place s) = refl
list_fault_unplaced (string place s) = refl
list_fault_unplaced (list place is) = refl

symbols_fault_unplaced : (is : Items) → symbols_fault (all_unplaced is) ≡ zeroed (symbols_fault is)
symbols_fault_unplaced no_items = refl
symbols_fault_unplaced (item i rest) = rw (symbol_fault_unplaced i, symbols_fault_unplaced rest) (zeroed_or (symbol_fault i) (symbols_fault rest))

symbol_list_unplaced : (i : Item) → symbol_list_fault (unplaced i) ≡ zeroed (symbol_list_fault i)
symbol_list_unplaced (word place s) = refl
symbol_list_unplaced (quoted place s) = refl
symbol_list_unplaced (string place s) = refl
symbol_list_unplaced (list place is) = symbols_fault_unplaced is

wanted_unplaced : (w : Wanted) (i : Item) → wanted_fault w (unplaced i) ≡ zeroed (wanted_fault w i)
wanted_unplaced Wanted.Name i = symbol_fault_unplaced i
wanted_unplaced Wanted.Names i = symbol_list_unplaced i
wanted_unplaced Wanted.AnyList i = list_fault_unplaced i

next_unplaced : (n : Next) (i : Item) → next_fault n (unplaced i) ≡ zeroed (next_fault n i)
next_unplaced Next.Word i = rw (keyword_unplaced i, place_unplaced i) (zeroed_if (is_some (keyword_of i)) (place_of i))
next_unplaced Next.Anything i = refl
next_unplaced (Next.Value w) i = wanted_unplaced w i

at_end_unplaced : (known : List Known) (n : Next) (is : Items) → at_end known n (all_unplaced is) ≡ at_end known n is
at_end_unplaced known n no_items = refl
at_end_unplaced known n (item i rest) = ap (λ k. at_end known (after_keyword known k) (all_unplaced rest)) (keyword_unplaced i) ∙ at_end_unplaced known
    (after_item known i) rest

misplaced_unplaced : (known : List Known) (n : Next) (is : Items) → misplaced known n (all_unplaced is) ≡ zeroed (misplaced known n is)
misplaced_unplaced known n no_items = refl
misplaced_unplaced known n (item i rest) =
    rw (keyword_unplaced i, next_unplaced n i, misplaced_unplaced known (after_item known i) rest)
    (zeroed_or (next_fault n i) (misplaced known (after_item known i) rest))

attributes_unplaced : (place : ℕ) (is : Items) → attributes_fault (naming_keyword ∷ []) 0 (all_unplaced is) ≡ zeroed
    (attributes_fault (naming_keyword ∷ []) place is)
attributes_unplaced place is =
    rw (at_end_unplaced (naming_keyword ∷ []) word_next is, misplaced_unplaced (naming_keyword ∷ []) word_next is)
    (go (is_value (at_end (naming_keyword ∷ []) word_next is) || false) (misplaced (naming_keyword ∷ []) word_next is))
  where
    go : (b : Bool) (o : Option ℕ) → (if b then Some 0 else earlier (zeroed o) None) ≡ zeroed (if b then Some place else earlier o None)
    go true o = refl
    go false None = refl
    go false (Some at) = refl

annotation_unplaced : (place : ℕ) (is : Items) → annotation_fault 0 (all_unplaced is) ≡ zeroed (annotation_fault place is)
annotation_unplaced place no_items = refl
annotation_unplaced place (item i no_items) = refl
annotation_unplaced place (item i (item j rest)) = attributes_unplaced place (item j rest)

named_unplaced : (i : Item) → is_named_item (unplaced i) ≡ is_named_item i
named_unplaced (word place s) = refl
named_unplaced (quoted place s) = refl
named_unplaced (string place s) = refl
named_unplaced (list place is) = refl

names_if : (b : Bool) (n : Name) (ns : List Name) → (if b then name_unplaced n ∷ map name_unplaced ns else map name_unplaced ns) ≡ map name_unplaced
    (if b then n ∷ ns else ns)
names_if true n ns = refl
names_if false n ns = refl

names_after_unplaced : (before : Item) (is : Items) → names_after (unplaced before) (all_unplaced is) ≡ map name_unplaced (names_after before is)
names_after_unplaced before no_items = refl
names_after_unplaced before (item i rest) =
    rw (named_unplaced before, name_at_unplaced i, names_after_unplaced i rest) (names_if (is_named_item before) (name_at i) (names_after i rest))

names_given_unplaced : (is : Items) → names_given (all_unplaced is) ≡ map name_unplaced (names_given is)
names_given_unplaced no_items = refl
names_given_unplaced (item i no_items) = refl
names_given_unplaced (item i (item j rest)) = names_after_unplaced j rest

number_unplaced : (place : ℕ) (s : List ℕ) → number_form 0 s ≡ form_unplaced (number_form place s)
number_unplaced place s =
    form_if (is_numeral s) _ _ _ _ (form_if (nat_lt (numeral_value s) (2 ^ 127)) _ _ _ _ refl refl) (form_if (is_decimal s) _ _ _ _ refl refl)

symbol_unplaced : (n : Name) → symbol_form (name_unplaced n) ≡ form_unplaced (symbol_form n)
symbol_unplaced n = form_if (is_among left_out_words n.name) _ _ _ _ refl refl

word_unplaced : (place : ℕ) (s : List ℕ) → word_form 0 s ≡ form_unplaced (word_form place s)
word_unplaced place s =
    form_if (is_keyword s) _ _ _ _ refl
    (form_if (is_bit_literal s) _ _ _ _ refl
    (form_if (starts_with_digit s) _ _ _ _ (number_unplaced place s) (symbol_unplaced (record { place = place; name = s }))))

first_form_unplaced : (fs : Forms) → first_form (forms_unplaced fs) ≡ form_unplaced (first_form fs)
first_form_unplaced no_forms = refl
first_form_unplaced (form f fs) = refl

symbol_list_form_unplaced : (place : ℕ) (n : Name) (is : Items) (first : Form) (others : Forms) (binds : LetBinds)
    → symbol_list_form 0 (name_unplaced n) (all_unplaced is) (form_unplaced first) (forms_unplaced others) (binds_unplaced binds) ≡ form_unplaced
    (symbol_list_form place n is first others binds)
symbol_list_form_unplaced place n is first others binds =
    form_if (bytes_eq n.name (codes "let")) _ _ _ _
    (unless_unplaced (let_fault place is) _ (let_form place binds (first_form others)) _ (let_fault_unplaced place is)
    (ap (let_form 0 (binds_unplaced binds)) (first_form_unplaced others)))
    (form_if (bytes_eq n.name (codes "!")) _ _ _ _
    (unless_unplaced (annotation_fault place is) _ (annotated place first (names_given is)) _ (annotation_unplaced place is)
    (ap (annotated 0 (form_unplaced first)) (names_given_unplaced is)))
    (form_if (is_among left_out_words n.name) _ _ _ _ refl refl))

list_form_unplaced : (place : ℕ) (head : Item) (is : Items) (first : Form) (others : Forms) (binds : LetBinds)
    → list_form 0 (unplaced head) (all_unplaced is) (form_unplaced first) (forms_unplaced others) (binds_unplaced binds) ≡ form_unplaced
    (list_form place head is first others binds)
list_form_unplaced place (word at s) is first others binds =
    form_if (is_some (symbol_name (word at s))) _ _ _ _ (symbol_list_form_unplaced place (name_at (word at s)) is first others binds) refl
list_form_unplaced place (quoted at s) is first others binds = symbol_list_form_unplaced place (name_at (quoted at s)) is first others binds
list_form_unplaced place (string at s) is first others binds = refl
list_form_unplaced place (list at inside) is first others binds = refl

mutual
  unfolding form_of forms_of binds_of binds_in

  pub form_of_unplaced : (i : Item) → form_of (unplaced i) ≡ form_unplaced (form_of i)
  form_of_unplaced (word place s) = word_unplaced place s
  form_of_unplaced (quoted place s) = symbol_unplaced (record { place = place; name = between_bars s })
  form_of_unplaced (string place s) = refl
  form_of_unplaced (list place no_items) = refl
  form_of_unplaced (list place (item head no_items)) = refl
  form_of_unplaced (list place (item head (item first rest))) =
      rw (form_of_unplaced first, forms_of_unplaced rest, binds_of_unplaced first)
      (list_form_unplaced place head (item first rest) (form_of first) (forms_of rest) (binds_of first))

  pub forms_of_unplaced : (is : Items) → forms_of (all_unplaced is) ≡ forms_unplaced (forms_of is)
  forms_of_unplaced no_items = refl
  forms_of_unplaced (item i rest) = rw (form_of_unplaced i, forms_of_unplaced rest) refl

  pub binds_of_unplaced : (i : Item) → binds_of (unplaced i) ≡ binds_unplaced (binds_of i)
  binds_of_unplaced (word place s) = refl
  binds_of_unplaced (quoted place s) = refl
  binds_of_unplaced (string place s) = refl
  binds_of_unplaced (list place is) = binds_in_unplaced is

  pub binds_in_unplaced : (is : Items) → binds_in (all_unplaced is) ≡ binds_unplaced (binds_in is)
  binds_in_unplaced no_items = refl
  binds_in_unplaced (item (word place s) others) = binds_in_unplaced others
  binds_in_unplaced (item (quoted place s) others) = binds_in_unplaced others
  binds_in_unplaced (item (string place s) others) = binds_in_unplaced others
  binds_in_unplaced (item (list place no_items) others) = binds_in_unplaced others
  binds_in_unplaced (item (list place (item x no_items)) others) = binds_in_unplaced others
  binds_in_unplaced (item (list place (item x (item t rest))) others) = rw (name_at_unplaced x, form_of_unplaced t, binds_in_unplaced others) refl
