-- Whether an item is the numeral 0, by the token that it begins with.
use Rattle.std.proofs.Common.{◌≡◌, ℕ, ◌∙◌, List, None, ap}
use Rattle.std.specs.Prelude.{◌==◌, codes, bytes_eq}
use Rattle.sexpr.specs.declared.lexing.TokenKind.{TokenKind}
use Rattle.sexpr.specs.Words.{is_numeral}
use Rattle.sexpr.specs.Items.{Item, word, quoted, string, list}
use Rattle.problem_text.specs.Commands.{numeral_fault, value_of_numeral}
use Rattle.text_items.specs.Stepping.{BeginsItem}
use Rattle.term_model.proofs.Basics.{unless_so}
use Rattle.smtlib_reader.proofs.NumeralWords.{zero_numeral}

pub zero_told : (i : Item) (kind : TokenKind) (spelling : List ℕ) → BeginsItem kind spelling i → numeral_fault i ≡ None → bytes_eq spelling (codes "0") ≡ (value_of_numeral i == 0)
zero_told (word p s) kind spelling begins e = ap (λ w. bytes_eq w (codes "0")) begins.1 ∙ zero_numeral s (unless_so (is_numeral s) p e)
zero_told (quoted p s) kind spelling begins e = cc
zero_told (string p s) kind spelling begins e = cc
zero_told (list p items) kind spelling begins e = cc
