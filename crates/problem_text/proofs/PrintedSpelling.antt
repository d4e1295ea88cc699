-- What may be printed is spelled well, so it is read back from its bytes.
use Rattle.std.proofs.Common.{◌≡◌, ℕ, true, false, List, [], ◌∷◌, codes, refl, arith}
use Rattle.std.proofs.lemmas.List.Sums.{AllPass-from_list_all}
use Rattle.sexpr.specs.Characters.{is_word_byte, is_mark}
use Rattle.sexpr.specs.Grammar.{IsWord}
use Rattle.sexpr.specs.Items.{Items, no_items, item}
use Rattle.sexpr.specs.Printed.{IsSymbolItem, IsSpelledItem, AreSpelledItems}
use Rattle.sexpr.proofs.PrintedNumerals.{decimal_is_word}
use Rattle.term_model.specs.Terms.{Term, numeral, variable, operation, call, let_in, Terms, no_terms, term, Bindings, no_bindings, binding}
use Rattle.sym_table.specs.Words.{operator_symbol}
use Rattle.problem_text.specs.Names.{place_inside, Place}
use Rattle.problem_text.specs.Scripts.{Script}
use Rattle.problem_text.specs.PrintedTerms.{applied_item, term_item, term_items, pair_items, bounds_in}
use Rattle.problem_text.specs.PrintedTerms.{IsPrintable, ArePrintable, AreBoundPrintable}

pub applied_spelled : (name : List ℕ) (is : Items) → IsSymbolItem name → AreSpelledItems is → IsSpelledItem (applied_item name is)
applied_spelled name no_items is all = is.spelled
applied_spelled name (item i rest) is all = (is.spelled, all)

let_spelled : IsWord (codes "let")
unfolding is_word_byte is_mark
let_spelled = record {
  some = omega arith;
  bytes = AllPass-from_list_all is_word_byte (codes "let") refl;
  number = λ digit. absurd (let f : false ≡ true = digit in cc);
}

mutual
  pub term_spelled : (t : Term) (p : Place) (s : Script) → IsPrintable p s t → IsSpelledItem (term_item t)
  term_spelled (numeral n) p s k = decimal_is_word n (omega (arith, k))
  term_spelled (variable x) p s k = k.0.1.spelled
  term_spelled (operation op ts) p s k = applied_spelled (operator_symbol op) (term_items ts) k.0.symbol (terms_spelled ts p s k.2)
  term_spelled (call f ts) p s k = applied_spelled f.name (term_items ts) k.0.symbol (terms_spelled ts p s k.2)
  term_spelled (let_in bs t) p s k = (let_spelled, (pairs_spelled bs [] p s k.2, (term_spelled t (place_inside (bounds_in bs) p) s k.3, tt)))

  terms_spelled : (ts : Terms) (p : Place) (s : Script) → ArePrintable p s ts → AreSpelledItems (term_items ts)
  terms_spelled no_terms p s k = tt
  terms_spelled (term t ts) p s k = (term_spelled t p s k.0, terms_spelled ts p s k.1)

  pairs_spelled : (bs : Bindings) (earlier : List (List ℕ)) (p : Place) (s : Script) → AreBoundPrintable p s earlier bs
      → AreSpelledItems (pair_items bs)
  pairs_spelled no_bindings earlier p s k = tt
  pairs_spelled (binding x t bs) earlier p s k = ((k.0.spelled, (term_spelled t p s k.2, tt)), pairs_spelled bs (x.name ∷ earlier) p s k.3)
