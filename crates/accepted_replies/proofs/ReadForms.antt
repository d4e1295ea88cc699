-- Private. The forms of a text's items: numbers are ones that are read, and lets bind something.
use Rattle.std.proofs.Common.{◌≡◌, ℕ, ◌<◌, ◌^◌, nat_lt, Bool, true, false, Option, Some, None, List, if◌then◌else◌, codes, bytes_eq, refl, arith}
use Rattle.std.specs.Prelude.{⊤, is_some}
use Rattle.std.specs.Option.{option_or}
use Rattle.std.proofs.lemmas.Bool.Decides.{nat_tests}
use Rattle.sexpr.specs.declared.causes.Cause.TheVariants.{WideNumber}
use Rattle.sexpr.specs.Items.{Item, word, quoted, string, list, Items, no_items, item, symbol_name}
use Rattle.sexpr.specs.Words.{is_keyword, is_bit_literal, starts_with_digit, is_numeral, is_decimal, between_bars, numeral_value}
use Rattle.text_items.specs.ItemShapes.{Name, name_at, excess, pair_fault, pairs_fault}
use Rattle.text_items.specs.Spelling.{is_list_item}
use Rattle.problem_text.specs.Forms.{Form, faulty, number, symbol, application, let_form, annotated, Forms, no_forms, form, LetBinds, no_binds, bind}
use Rattle.problem_text.specs.Forms.{first_form, bindings_fault, let_fault, annotation_fault, names_given, number_form, symbol_form, word_form, unless_faulty}
use Rattle.problem_text.specs.Forms.{list_form, form_of, forms_of, binds_of, binds_in}
use Rattle.problem_text.specs.Words.{is_among, left_out_words}

abbrev pub BindsOne : LetBinds → Type 0
BindsOne no_binds = ⊥
BindsOne (bind n f bs) = ⊤

abbrev mutual
  pub IsGoodForm : Form → Type 0
  IsGoodForm (faulty cause place) = ⊤
  IsGoodForm (number place n) = n < 2 ^ 127
  IsGoodForm (symbol n) = ⊤
  IsGoodForm (application place head fs) = AreGoodForms fs
  IsGoodForm (let_form place bs body) = BindsOne bs × AreGoodBinds bs × IsGoodForm body
  IsGoodForm (annotated place f names) = IsGoodForm f

  pub AreGoodForms : Forms → Type 0
  AreGoodForms no_forms = ⊤
  AreGoodForms (form f fs) = IsGoodForm f × AreGoodForms fs

  pub AreGoodBinds : LetBinds → Type 0
  AreGoodBinds no_binds = ⊤
  AreGoodBinds (bind n f bs) = IsGoodForm f × AreGoodBinds bs

either_good : (b : Bool) (f g : Form) → IsGoodForm f → IsGoodForm g → IsGoodForm (if b then f else g)
either_good true f g h k = h
either_good false f g h k = k

number_good : (place : ℕ) (spelling : List ℕ) → IsGoodForm (number_form place spelling)
number_good place spelling =
    either_good (is_numeral spelling) _ _ (low (nat_lt (numeral_value spelling) (2 ^ 127)) refl)
    (either_good (is_decimal spelling) _ _ tt tt)
  where
    low : (b : Bool) → nat_lt (numeral_value spelling) (2 ^ 127) ≡ b
        → IsGoodForm (if b then number place (numeral_value spelling) else faulty WideNumber place)
    low true e = grind (arith, nat_tests, e)
    low false e = tt

symbol_good : (n : Name) → IsGoodForm (symbol_form n)
symbol_good n = either_good (is_among left_out_words n.name) _ _ tt tt

word_good : (place : ℕ) (spelling : List ℕ) → IsGoodForm (word_form place spelling)
word_good place spelling =
    either_good (is_keyword spelling) _ _ tt
    (either_good (is_bit_literal spelling) _ _ tt
    (either_good (starts_with_digit spelling) _ _ (number_good place spelling) (symbol_good (record { place = place; name = spelling }))))

first_good : (fs : Forms) → AreGoodForms fs → IsGoodForm (first_form fs)
first_good no_forms h = tt
first_good (form f fs) h = h.0

none_either : (a b : Option ℕ) → option_or a b ≡ None → a ≡ None
none_either None b e = refl
none_either (Some x) b e = absurd (cc)

-- the bindings of a let that has its shape
one_bound : (pair : Item) (rest : Items) → pair_fault pair ≡ None → BindsOne (binds_in (item pair rest))
unfolding form_of
one_bound (word place spelling) rest e = absurd (cc)
one_bound (quoted place spelling) rest e = absurd (cc)
one_bound (string place spelling) rest e = absurd (cc)
one_bound (list place no_items) rest e = absurd (cc)
one_bound (list place (item x no_items)) rest e = absurd (cc)
one_bound (list place (item x (item t others))) rest e = tt

some_bound : (i : Item) → bindings_fault i ≡ None → BindsOne (binds_of i)
unfolding form_of
some_bound (word place spelling) e = absurd (cc)
some_bound (quoted place spelling) e = absurd (cc)
some_bound (string place spelling) e = absurd (cc)
some_bound (list place no_items) e = absurd (cc)
some_bound (list place (item pair rest)) e = one_bound pair rest (none_either (pair_fault pair) (pairs_fault rest) e)

let_bound : (place : ℕ) (first : Item) (rest : Items) → let_fault place (item first rest) ≡ None → BindsOne (binds_of first)
let_bound place first no_items e = absurd (cc)
let_bound place first (item body rest) e = some_bound first (none_either (bindings_fault first) (excess rest) e)

unless_good : (o : Option ℕ) (f : Form) → (o ≡ None → IsGoodForm f) → IsGoodForm (unless_faulty o f)
unless_good (Some place) f h = tt
unless_good None f h = h refl

list_good : (place : ℕ) (head first : Item) (rest : Items) → IsGoodForm (form_of first) → AreGoodForms (forms_of rest) → AreGoodBinds (binds_of first)
    → IsGoodForm (list_form place head (item first rest) (form_of first) (forms_of rest) (binds_of first))
list_good place head first rest h k l =
    either_good (is_some (symbol_name head)) _ _
    (either_good (bytes_eq (name_at head).name (codes "let")) _ _
    (unless_good (let_fault place (item first rest)) (let_form place (binds_of first) (first_form (forms_of rest)))
    (λ e. (let_bound place first rest e, l, first_good (forms_of rest) k)))
    (either_good (bytes_eq (name_at head).name (codes "!")) _ _
    (unless_good (annotation_fault place (item first rest)) (annotated place (form_of first) (names_given (item first rest))) (λ e. h))
    (either_good (is_among left_out_words (name_at head).name) _ _ tt (h, k))))
    (either_good (is_list_item head) _ _ tt tt)

mutual
  unfolding form_of

  pub form_good : (i : Item) → IsGoodForm (form_of i)
  form_good (word place spelling) = word_good place spelling
  form_good (quoted place spelling) = symbol_good (record { place = place; name = between_bars spelling })
  form_good (string place spelling) = tt
  form_good (list place no_items) = tt
  form_good (list place (item head no_items)) = tt
  form_good (list place (item head (item first rest))) =
      list_good place head first rest (form_good first) (forms_good rest) (binds_good first)

  forms_good : (items : Items) → AreGoodForms (forms_of items)
  forms_good no_items = tt
  forms_good (item i rest) = (form_good i, forms_good rest)

  binds_good : (i : Item) → AreGoodBinds (binds_of i)
  binds_good (word place spelling) = tt
  binds_good (quoted place spelling) = tt
  binds_good (string place spelling) = tt
  binds_good (list place items) = pairs_good items

  pairs_good : (items : Items) → AreGoodBinds (binds_in items)
  pairs_good no_items = tt
  pairs_good (item (word place spelling) others) = pairs_good others
  pairs_good (item (quoted place spelling) others) = pairs_good others
  pairs_good (item (string place spelling) others) = pairs_good others
  pairs_good (item (list place no_items) others) = pairs_good others
  pairs_good (item (list place (item x no_items)) others) = pairs_good others
  pairs_good (item (list place (item x (item t rest))) others) = (form_good t, pairs_good others)
