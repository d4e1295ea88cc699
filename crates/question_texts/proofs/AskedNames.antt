-- Private. The names that a question gives: letters with numbers. They are symbols, and no words of operators.
use Rattle.std.proofs.Common.{◌≡◌, refl, sym, ap, ◌∙◌, arith, ℕ, ◌+◌, ◌<◌, ◌^◌, ◌==◌, eqb-true, Bool, true, false, List, [], ◌∷◌}
use Rattle.std.proofs.Common.{codes, decimal, bytes_eq, Some}
use Rattle.std.proofs.lemmas.Bool.{and_parts}
use Rattle.std.proofs.lemmas.List.Sums.{AllPass-from_list_all}
use Rattle.std.proofs.lemmas.Slice.Eq.{bytes_eq-Decides}
use Rattle.std.specs.Char.{is_ascii_digit}
use Rattle.std.specs.List.{list_all}
use Rattle.sexpr.specs.Characters.{is_word_byte, is_mark, is_between_bars}
use Rattle.sexpr.specs.Grammar.{IsWord}
use Rattle.sexpr.specs.Printed.{IsSymbolItem}
use Rattle.sexpr.proofs.PrintedItems.{symbol_is}
use Rattle.sexpr.proofs.PrintedNumerals.{decimal_is}
use Rattle.sym_table.specs.Words.{operator_symbol}
use Rattle.term_model.specs.declared.symbols.Op.{Op}
use Rattle.problem_text.specs.PrintedTerms.{IsUsable, MayLead}
use Rattle.problem_text.specs.Words.{is_among, is_built_in, left_out_words, operator_named}
use Rattle.hole_fillers.specs.Questions.{name_with}

-- names that are equal, and names that aren't
pub same_name : (a b : List ℕ) → bytes_eq a b ≡ true → a ≡ b
same_name a b e = (bytes_eq-Decides a b).0 e

pub name_same : (a : List ℕ) → bytes_eq a a ≡ true
name_same a = (bytes_eq-Decides a a).1 refl

pub other_name : (a b : List ℕ) → (a ≡ b → ⊥) → bytes_eq a b ≡ false
other_name a b differs = go (bytes_eq a b) refl
  where
    go : (t : Bool) → bytes_eq a b ≡ t → t ≡ false
    go true e = absurd (differs (same_name a b e))
    go false e = refl

-- DIGITS

pub is_digits : (k : ℕ) → k < 2 ^ 64 → list_all is_ascii_digit (decimal (k + 1)) ≡ true
is_digits k few = (decimal_is (k + 1) (omega (arith, few))).digits

no_digit : (d c : ℕ) → is_ascii_digit d ≡ true → is_ascii_digit c ≡ false → (d == c) ≡ false
no_digit d c e f = go (d == c) refl
  where
    go : (b : Bool) → (d == c) ≡ b → b ≡ false
    go true h = let same : is_ascii_digit d ≡ is_ascii_digit c = ap is_ascii_digit (eqb-true d c h) in absurd (let g = sym e ∙ (same ∙ f) in cc)
    go false h = refl

-- digits are no word that begins with anything else
pub digits_differ : (ds : List ℕ) (c : ℕ) (cs : List ℕ) → list_all is_ascii_digit ds ≡ true → is_ascii_digit c ≡ false → bytes_eq ds (c ∷ cs) ≡ false
digits_differ [] c cs e f = refl
digits_differ (d ∷ ds) c cs e f =
    let other = no_digit d c (and_parts (is_ascii_digit d) (list_all is_ascii_digit ds) e).0 f in
    rw other refl

digit_between : (d : ℕ) → is_ascii_digit d ≡ true → is_between_bars d ≡ true
digit_between d e =
    let bar = no_digit d 124 e refl in
    let slash = no_digit d 92 e refl in
    rw (bar, slash) refl

digits_between : (ds : List ℕ) → list_all is_ascii_digit ds ≡ true → list_all is_between_bars ds ≡ true
digits_between [] e = refl
digits_between (d ∷ ds) e =
    let both = and_parts (is_ascii_digit d) (list_all is_ascii_digit ds) e in
    let first = digit_between d both.0 in
    let others = digits_between ds both.1 in
    rw (first, others) refl

digit_word : (b : ℕ) → is_ascii_digit b ≡ true → is_word_byte b ≡ true
unfolding is_word_byte
digit_word b e = rw e refl

digits_word : (ds : List ℕ) → list_all is_ascii_digit ds ≡ true → list_all is_word_byte ds ≡ true
digits_word [] e = refl
digits_word (d ∷ ds) e =
    let both = and_parts (is_ascii_digit d) (list_all is_ascii_digit ds) e in
    let first = digit_word d both.0 in
    let others = digits_word ds both.1 in
    rw (first, others) refl

-- A letter with a number is a word, and a symbol.
lettered_word : (c : ℕ) (ds : List ℕ) → is_word_byte c ≡ true → is_ascii_digit c ≡ false → list_all is_ascii_digit ds ≡ true → IsWord (c ∷ ds)
lettered_word c ds word letter digits =
    let others = digits_word ds digits in
    record {
      some = omega arith;
      bytes = AllPass-from_list_all is_word_byte (c ∷ ds) (rw (word, others) refl);
      number = λ digit. absurd (let f : false ≡ true = sym letter ∙ digit in cc);
    }

lettered_symbol : (c : ℕ) (ds : List ℕ) → is_between_bars c ≡ true → list_all is_ascii_digit ds ≡ true → IsSymbolItem (c ∷ ds)
lettered_symbol c ds between digits =
    let others = digits_between ds digits in
    symbol_is (c ∷ ds) (AllPass-from_list_all is_between_bars (c ∷ ds) (rw (between, others) refl))

pub sort_word : (k : ℕ) → k < 2 ^ 64 → IsWord (name_with (codes "S") k)
unfolding is_word_byte is_mark
sort_word k few = lettered_word 83 (decimal (k + 1)) refl refl (is_digits k few)

pub function_word : (k : ℕ) → k < 2 ^ 64 → IsWord (name_with (codes "f") k)
unfolding is_word_byte is_mark
function_word k few = lettered_word 102 (decimal (k + 1)) refl refl (is_digits k few)

pub variable_word : (k : ℕ) → k < 2 ^ 64 → IsWord (name_with (codes "v") k)
unfolding is_word_byte is_mark
variable_word k few = lettered_word 118 (decimal (k + 1)) refl refl (is_digits k few)

pub variable_symbol : (k : ℕ) → k < 2 ^ 64 → IsSymbolItem (name_with (codes "v") k)
variable_symbol k few = lettered_symbol 118 (decimal (k + 1)) refl (is_digits k few)

pub variable_usable : (k : ℕ) → IsUsable (name_with (codes "v") k)
variable_usable k = refl

pub variable_own : (k : ℕ) → is_built_in (name_with (codes "v") k) ≡ false
variable_own k = refl

pub variable_leads : (k : ℕ) → k < 2 ^ 64 → MayLead (name_with (codes "v") k)
variable_leads k few = record { usable = refl; no_let = refl; no_mark = refl; symbol = variable_symbol k few }

pub function_leads : (k : ℕ) → k < 2 ^ 64 → MayLead (name_with (codes "f") k)
function_leads k few =
    let other = digits_differ (decimal (k + 1)) 111 (codes "rall") (is_digits k few) refl in
    record { usable = rw other refl; no_let = refl; no_mark = refl; symbol = lettered_symbol 102 (decimal (k + 1)) refl (is_digits k few) }

-- OPERATORS

-- The word of an operator leads an application, names the operator, and is no name of a question.
pub record IsOperatorWord (op : Op) : Type 0 where
  pub leads : MayLead (operator_symbol op)
  pub named : operator_named (operator_symbol op) ≡ Some op
  pub no_function : (k : ℕ) → k < 2 ^ 64 → bytes_eq (name_with (codes "f") k) (operator_symbol op) ≡ false
  pub no_variable : (k : ℕ) → bytes_eq (name_with (codes "v") k) (operator_symbol op) ≡ false

word_leads : (name : List ℕ) → is_among left_out_words name ≡ false → bytes_eq name (codes "let") ≡ false → bytes_eq name (codes "!") ≡ false →
    list_all is_between_bars name ≡ true → MayLead name
word_leads name usable no_let no_mark between = record {
  usable = usable;
  no_let = no_let;
  no_mark = no_mark;
  symbol = symbol_is name (AllPass-from_list_all is_between_bars name between);
}

abbrev simple : (op : Op) → MayLead (operator_symbol op) → operator_named (operator_symbol op) ≡ Some op →
    ((k : ℕ) → bytes_eq (name_with (codes "f") k) (operator_symbol op) ≡ false) →
    ((k : ℕ) → bytes_eq (name_with (codes "v") k) (operator_symbol op) ≡ false) → IsOperatorWord op
simple op leads named no_function no_variable =
    record { leads = leads; named = named; no_function = λ k few. no_function k; no_variable = no_variable }

pub operator_word : (op : Op) → IsOperatorWord op
operator_word Op.True = simple Op.True (word_leads _ refl refl refl refl) refl (λ k. refl) (λ k. refl)
operator_word Op.False = record {
  leads = word_leads _ refl refl refl refl;
  named = refl;
  no_function = λ k few. digits_differ (decimal (k + 1)) 97 (codes "lse") (is_digits k few) refl;
  no_variable = λ k. refl;
}
operator_word Op.Not = simple Op.Not (word_leads _ refl refl refl refl) refl (λ k. refl) (λ k. refl)
operator_word Op.Implies = simple Op.Implies (word_leads _ refl refl refl refl) refl (λ k. refl) (λ k. refl)
operator_word Op.And = simple Op.And (word_leads _ refl refl refl refl) refl (λ k. refl) (λ k. refl)
operator_word Op.Or = simple Op.Or (word_leads _ refl refl refl refl) refl (λ k. refl) (λ k. refl)
operator_word Op.Xor = simple Op.Xor (word_leads _ refl refl refl refl) refl (λ k. refl) (λ k. refl)
operator_word Op.Equal = simple Op.Equal (word_leads _ refl refl refl refl) refl (λ k. refl) (λ k. refl)
operator_word Op.Distinct = simple Op.Distinct (word_leads _ refl refl refl refl) refl (λ k. refl) (λ k. refl)
operator_word Op.Ite = simple Op.Ite (word_leads _ refl refl refl refl) refl (λ k. refl) (λ k. refl)
operator_word Op.Minus = simple Op.Minus (word_leads _ refl refl refl refl) refl (λ k. refl) (λ k. refl)
operator_word Op.Plus = simple Op.Plus (word_leads _ refl refl refl refl) refl (λ k. refl) (λ k. refl)
operator_word Op.Times = simple Op.Times (word_leads _ refl refl refl refl) refl (λ k. refl) (λ k. refl)
operator_word Op.Div = simple Op.Div (word_leads _ refl refl refl refl) refl (λ k. refl) (λ k. refl)
operator_word Op.Mod = simple Op.Mod (word_leads _ refl refl refl refl) refl (λ k. refl) (λ k. refl)
operator_word Op.LessEq = simple Op.LessEq (word_leads _ refl refl refl refl) refl (λ k. refl) (λ k. refl)
operator_word Op.Less = simple Op.Less (word_leads _ refl refl refl refl) refl (λ k. refl) (λ k. refl)
operator_word Op.GreaterEq = simple Op.GreaterEq (word_leads _ refl refl refl refl) refl (λ k. refl) (λ k. refl)
operator_word Op.Greater = simple Op.Greater (word_leads _ refl refl refl refl) refl (λ k. refl) (λ k. refl)
