-- Public. The forms of terms (SMT-LIB 2.6, "Terms and Formulas"): what an item in a term's place spells, before
-- any name is looked up. A fault of spelling or of shape is a form too, so that it is met where the text has it and no
-- earlier.
use Rattle.std.specs.Prelude.{ℕ, ◌^◌, nat_lt, false, if◌then◌else◌, List, [], ◌∷◌, codes, bytes_eq, Option, Some, None, is_some}
use Rattle.std.specs.Option.{option_or}
use Rattle.sexpr.specs.declared.causes.Cause.{Cause}
use Rattle.sexpr.specs.declared.causes.Cause.TheVariants.{BadCommand, LeftOut, WideNumber}
use Rattle.sexpr.specs.Words.{starts_with_digit, is_numeral, is_decimal, is_keyword, is_bit_literal, between_bars, numeral_value}
use Rattle.sexpr.specs.Items.{Item, word, quoted, string, list, Items, no_items, item, place_of, symbol_name}
use Rattle.problem_text.specs.NamedItems.{is_named_item}
use Rattle.text_items.specs.Spelling.{is_list_item}
use Rattle.problem_text.specs.Words.{is_among, left_out_words}
use Rattle.text_items.specs.Keywords.{Known, attributes_fault}
use Rattle.text_items.specs.declared.keywords.Wanted.TheVariants as Wanted
use Rattle.text_items.specs.ItemShapes.{Name, excess, name_at, pairs_fault}

-- A fault; a numeral; a symbol; a head with its arguments; a let with its bindings and its body; a term with the
-- names that attributes give it. Each has the place of its first byte.
mutual
  pub data Form : Type 0 where
    faulty : Cause → ℕ → Form
    number : ℕ → ℕ → Form
    symbol : Name → Form
    application : ℕ → Name → Forms → Form
    let_form : ℕ → LetBinds → Form → Form
    annotated : ℕ → Form → List Name → Form

  pub data Forms : Type 0 where
    no_forms : Forms
    form : Form → Forms → Forms

  pub data LetBinds : Type 0 where
    no_binds : LetBinds
    bind : Name → Form → LetBinds → LetBinds

-- the first of some forms
abbrev pub first_form : Forms → Form
first_form no_forms = faulty BadCommand 0
first_form (form f fs) = f

-- a list of one or more bindings
abbrev pub bindings_fault : Item → Option ℕ
bindings_fault (list place (item pair rest)) = pairs_fault (item pair rest)
bindings_fault other = Some (place_of other)

-- what stands after the word of a let that begins at this place: the bindings and the body
abbrev pub let_fault : ℕ → Items → Option ℕ
let_fault place (item bindings (item body rest)) = option_or (bindings_fault bindings) (excess rest)
let_fault place _ = Some place

-- the keyword that gives a term a name, as often as it stands
abbrev pub naming_keyword : Known
naming_keyword = record { spelling = codes ":named"; wants = Wanted.Name; once = false; needed = false }

-- what stands after the `!` of an annotated term that begins at this place: the term, and one or more attributes
abbrev pub annotation_fault : ℕ → Items → Option ℕ
annotation_fault place (item t (item first rest)) = attributes_fault (naming_keyword ∷ []) place (item first rest)
annotation_fault place _ = Some place

-- the names that attributes give, in their order
abbrev pub names_after : Item → Items → List Name
names_after before no_items = []
names_after before (item i rest) = if is_named_item before then name_at i ∷ names_after i rest else names_after i rest

abbrev pub names_given : Items → List Name
names_given (item t (item first rest)) = names_after first rest
names_given _ = []

-- A number is a numeral up to 2 ^ 127 - 1. Decimals are left out, and a ratio is no term.
abbrev pub number_form : ℕ → List ℕ → Form
number_form place spelling =
    if is_numeral spelling then (if nat_lt (numeral_value spelling) (2 ^ 127) then number place (numeral_value spelling) else faulty WideNumber place)
    else if is_decimal spelling then faulty LeftOut place
    else faulty BadCommand place

abbrev pub symbol_form : Name → Form
symbol_form n = if is_among left_out_words n.name then faulty LeftOut n.place else symbol n

abbrev pub word_form : ℕ → List ℕ → Form
word_form place spelling =
    if is_keyword spelling then faulty BadCommand place
    else if is_bit_literal spelling then faulty LeftOut place
    else if starts_with_digit spelling then number_form place spelling
    else symbol_form (record { place = place; name = spelling })

abbrev pub unless_faulty : Option ℕ → Form → Form
unless_faulty (Some place) f = faulty BadCommand place
unless_faulty None f = f

-- A list whose head is a symbol, with what stands after the head: the items, the forms of the first and of the
-- others, and the bindings that the first spells.
abbrev pub symbol_list_form : ℕ → Name → Items → Form → Forms → LetBinds → Form
symbol_list_form place head items first others binds =
    if bytes_eq head.name (codes "let") then unless_faulty (let_fault place items) (let_form place binds (first_form others))
    else if bytes_eq head.name (codes "!") then unless_faulty (annotation_fault place items) (annotated place first (names_given items))
    else if is_among left_out_words head.name then faulty LeftOut head.place
    else application place head (form first others)

-- A head that is a list is left out. Any other head has to be a symbol.
abbrev pub list_form : ℕ → Item → Items → Form → Forms → LetBinds → Form
list_form place head items first others binds =
    if is_some (symbol_name head) then symbol_list_form place (name_at head) items first others binds
    else if is_list_item head then faulty LeftOut (place_of head)
    else faulty BadCommand (place_of head)

unfoldable mutual
  -- what an item in a term's place spells
  pub form_of : Item → Form
  form_of (word place spelling) = word_form place spelling
  form_of (quoted place spelling) = symbol_form (record { place = place; name = between_bars spelling })
  form_of (string place spelling) = faulty LeftOut place
  form_of (list place no_items) = faulty BadCommand place
  form_of (list place (item head no_items)) = faulty BadCommand place
  form_of (list place (item head (item first rest))) =
      list_form place head (item first rest) (form_of first) (forms_of rest) (binds_of first)

  pub forms_of : Items → Forms
  forms_of no_items = no_forms
  forms_of (item i rest) = form (form_of i) (forms_of rest)

  -- what the list of a let's bindings spells, where it has that shape
  pub binds_of : Item → LetBinds
  binds_of (list place items) = binds_in items
  binds_of other = no_binds

  pub binds_in : Items → LetBinds
  binds_in no_items = no_binds
  binds_in (item (list place (item x (item t rest))) others) = bind (name_at x) (form_of t) (binds_in others)
  binds_in (item other others) = binds_in others
