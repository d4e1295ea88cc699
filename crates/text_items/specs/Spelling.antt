-- Public. The kinds of items that shapes ask for (SMT-LIB 2.6, "Lexicon" and on attributes of terms).
use Rattle.std.specs.Prelude.{Bool, true, false}
use Rattle.sexpr.specs.Words.{is_keyword}
use Rattle.sexpr.specs.Items.{Item, word, list}

abbrev pub is_keyword_item : Item → Bool
is_keyword_item (word place spelling) = is_keyword spelling
is_keyword_item other = false

abbrev pub is_list_item : Item → Bool
is_list_item (list place items) = true
is_list_item other = false
