-- Public. Lists of attributes: keywords, each with what has to stand after it (SMT-LIB 2.6, "S-expressions" and
-- "Attributes"; Alethe specification, "The Syntax").
use Rattle.std.specs.Prelude.{ℕ, nat_le, Bool, true, false, not, ◌&&◌, ◌||◌, if◌then◌else◌, List, [], ◌∷◌, bytes_eq, find, Option, Some, None, is_some}
use Rattle.std.specs.Option.{option_or}
use Rattle.sexpr.specs.Words.{is_keyword}
use Rattle.sexpr.specs.Items.{Item, word, list, Items, no_items, item, place_of}
use Rattle.text_items.specs.declared.keywords.Wanted.{Wanted}
use Rattle.text_items.specs.declared.keywords.Next.{Next}
use Rattle.text_items.specs.declared.keywords.Keyword.{Keyword}
use Rattle.text_items.specs.ItemShapes.{excess, symbol_fault}

-- A keyword that a list of attributes knows: what stands after it, whether it stands once at most, and whether the list
-- needs it. Any other keyword has at most one item after it that is no keyword.
pub record Known : Type 0 where
  pub spelling : List ℕ
  pub wants : Wanted
  pub once : Bool
  pub needed : Bool

abbrev pub known_of : Keyword → Known
known_of k = record { spelling = k.spelling.now; wants = k.wants; once = k.once; needed = k.needed }

-- the spelling of a keyword
abbrev pub keyword_of : Item → Option (List ℕ)
keyword_of (word place spelling) = if is_keyword spelling then Some spelling else None
keyword_of other = None

abbrev pub list_fault : Item → Option ℕ
list_fault (list place items) = None
list_fault other = Some (place_of other)

-- symbols and nothing else
abbrev pub symbols_fault : Items → Option ℕ
symbols_fault no_items = None
symbols_fault (item i rest) = option_or (symbol_fault i) (symbols_fault rest)

abbrev pub symbol_list_fault : Item → Option ℕ
symbol_list_fault (list place items) = symbols_fault items
symbol_list_fault other = Some (place_of other)

abbrev pub wanted_fault : Wanted → Item → Option ℕ
wanted_fault Wanted.Name i = symbol_fault i
wanted_fault Wanted.Names i = symbol_list_fault i
wanted_fault Wanted.AnyList i = list_fault i

-- what may stand behind an item
abbrev pub after_known : Option Known → Next
after_known None = Next.Anything
after_known (Some k) = Next.Value k.wants

abbrev pub after_keyword : List Known → Option (List ℕ) → Next
after_keyword known None = Next.Word
after_keyword known (Some name) = after_known (find (λ k. bytes_eq k.spelling name) known)

abbrev pub after_item : List Known → Item → Next
after_item known i = after_keyword known (keyword_of i)

abbrev pub next_fault : Next → Item → Option ℕ
next_fault Next.Word i = if is_some (keyword_of i) then None else Some (place_of i)
next_fault Next.Anything i = None
next_fault (Next.Value wants) i = wanted_fault wants i

-- a keyword stands first
abbrev pub word_next : Next
word_next = Next.Word

-- the first item that may not stand behind those before it
abbrev pub misplaced : List Known → Next → Items → Option ℕ
misplaced known next no_items = None
misplaced known next (item i rest) = option_or (next_fault next i) (misplaced known (after_item known i) rest)

-- what may stand behind the last item
abbrev pub at_end : List Known → Next → Items → Next
at_end known next no_items = next
at_end known next (item i rest) = at_end known (after_item known i) rest

abbrev pub is_value : Next → Bool
is_value (Next.Value wants) = true
is_value other = false

-- the item is this keyword
abbrev pub is_it : List ℕ → Option (List ℕ) → Bool
is_it name None = false
is_it name (Some other) = bytes_eq name other

abbrev pub is_spelled : List ℕ → Item → Bool
is_spelled name i = is_it name (keyword_of i)

-- the items from the first one on that is this keyword
abbrev pub from_word : List ℕ → Items → Items
from_word name no_items = no_items
from_word name (item i rest) = if is_spelled name i then item i rest else from_word name rest

-- those behind the first item
abbrev pub behind_first : Items → Items
behind_first no_items = no_items
behind_first (item i rest) = rest

-- the place of a keyword that stands among these items, the first time and the second
abbrev pub first_of : List ℕ → Items → Option ℕ
first_of name items = excess (from_word name items)

abbrev pub second_of : List ℕ → Items → Option ℕ
second_of name items = first_of name (behind_first (from_word name items))

-- of two places the one that comes first in the text
abbrev pub earlier : Option ℕ → Option ℕ → Option ℕ
earlier None b = b
earlier (Some a) None = Some a
earlier (Some a) (Some b) = if nat_le a b then Some a else Some b

-- the first keyword that stands again though it stands once at most
abbrev pub repeated : List Known → Items → Option ℕ
repeated [] items = None
repeated (k ∷ ks) items = earlier (if k.once then second_of k.spelling items else None) (repeated ks items)

-- a keyword that is needed does not stand there
abbrev pub lacks_keyword : List Known → Items → Bool
lacks_keyword [] items = false
lacks_keyword (k ∷ ks) items = k.needed && not (is_some (first_of k.spelling items)) || lacks_keyword ks items

-- The first fault of the attributes of a list that begins at this place and has them at its end. It is faulty at its
-- bracket where a keyword at the end lacks its value, or where one is lacking that is needed.
abbrev pub attributes_fault : List Known → ℕ → Items → Option ℕ
attributes_fault known place items =
    if is_value (at_end known word_next items) || lacks_keyword known items then Some place
    else earlier (misplaced known word_next items) (repeated known items)
