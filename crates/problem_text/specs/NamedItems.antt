-- Public. The attribute that gives a term a name (SMT-LIB 2.6, on attributes of terms).
use Rattle.std.specs.Prelude.{Bool, false, codes, bytes_eq}
use Rattle.sexpr.specs.Items.{Item, word}

-- the attribute that gives a term a name
abbrev pub is_named_item : Item → Bool
is_named_item (word place spelling) = bytes_eq spelling (codes ":named")
is_named_item other = false
