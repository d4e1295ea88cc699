-- Sorts that are read are read again from their names, also where more sorts are declared.
use Rattle.std.proofs.Common.{◌≡◌, ℕ, suc, ◌+◌, ◌<◌, nat_lt, Bool, true, false, not, Option, Some, None, IfSome, List, [], ◌∷◌, ◌++◌, length, if◌then◌else◌}
use Rattle.std.proofs.Common.{cond}
use Rattle.std.proofs.Common.{codes, bytes_eq, position, slice_index_or, refl, sym, ap, ◌∙◌, subst, arith}
use Rattle.std.specs.Prelude.{Result, Ok}
use Rattle.std.specs.List.{prefix_len}
use Rattle.std.proofs.lemmas.Bool.Decides.{nat_tests}
use Rattle.std.proofs.lemmas.List.{length-append}
use Rattle.std.proofs.lemmas.List.Quantifiers.{position-Some}
use Rattle.sexpr.specs.declared.causes.Cause.TheVariants.{LeftOut}
use Rattle.sexpr.specs.declared.causes.Refusal.{Refusal}
use Rattle.sexpr.specs.Items.{Item, word, quoted, string, list, place_of, symbol_name}
use Rattle.sexpr.specs.Printed.{symbol_item, placed, IsSpelledItem}
use Rattle.sexpr.specs.Words.{is_symbol}
use Rattle.term_model.specs.declared.symbols.Sort.{Sort}
use Rattle.rule_model.specs.RuleNames.{IsSymbolName}
use Rattle.problem_text.specs.Commands.{refused}
use Rattle.problem_text.specs.Scripts.{Script}
use Rattle.problem_text.specs.Sorts.{declared_sort, sort_named, sort_spelled, sort_from}
use Rattle.problem_text.specs.Words.{is_among, left_out_sorts}
use Rattle.alethe_text.specs.CommandNames.{HasNames}
use Rattle.printed_proofs.specs.Readable.{IsSortReadable}
use Rattle.readable_proofs.proofs.Names.{same_name, symbol_named}
use Rattle.readable_proofs.proofs.SortsOfTerms.{bool_readable, int_readable}

-- a sort that is read from a name, wherever that stands
pub record IsNamedSort (sorts : List (List ℕ)) (t : Sort) : Type 0 where
  name : List ℕ
  symbol : IsSymbolName name
  read : (place : ℕ) → sort_named sorts (record { place = place; name = name }) ≡ Ok t

-- what a name is read to, by the tests that are made
abbrev by_tests : ℕ → Bool → Bool → Bool → Option ℕ → Result Sort Refusal
by_tests place a b c o =
    if a then Ok Sort.Bool else if b then Ok Sort.Int else if c then refused LeftOut place else declared_sort place o

other_place : (p q : ℕ) (a b c : Bool) (o : Option ℕ) (t : Sort) → by_tests p a b c o ≡ Ok t → by_tests q a b c o ≡ Ok t
other_place p q true b c o t e = e
other_place p q false true c o t e = e
other_place p q false false true o t e = absurd (cc)
other_place p q false false false None t e = absurd (cc)
other_place p q false false false (Some n) t e = e

spelled_named : (sorts : List (List ℕ)) (place : ℕ) (o : Option (List ℕ)) (t : Sort) → IfSome o IsSymbolName → sort_spelled sorts place o ≡ Ok t
    → IsNamedSort sorts t
spelled_named sorts place None t h e = absurd (cc)
spelled_named sorts place (Some name) t h e = record {
  name = name;
  symbol = h;
  read = λ q. other_place place q (bytes_eq name (codes "Bool")) (bytes_eq name (codes "Int")) (is_among left_out_sorts name)
      (position (bytes_eq name) sorts) t e;
}

pub sort_named_so : (sorts : List (List ℕ)) (i : Item) (t : Sort) → HasNames i → sort_from sorts i ≡ Ok t → IsNamedSort sorts t
unfolding sort_from
sort_named_so sorts (word place spelling) t h e = spelled_named sorts place (symbol_name (word place spelling)) t (go (is_symbol spelling)) e
  where
    go : (b : Bool) → IfSome (if b then Some spelling else None) IsSymbolName
    go true = h
    go false = tt
sort_named_so sorts (quoted place spelling) t h e = spelled_named sorts place (symbol_name (quoted place spelling)) t h e
sort_named_so sorts (string place spelling) t h e = absurd (cc)
sort_named_so sorts (list place items) t h e = absurd (cc)

-- more sorts leave it
prefix_more : (q : List ℕ → Bool) (xs ys : List (List ℕ)) → prefix_len q xs < length xs → prefix_len q (xs ++ ys) ≡ prefix_len q xs
prefix_more q [] ys h = absurd (omega (arith, h))
prefix_more q (x ∷ xs) ys h = go (q x) h (prefix_more q xs ys)
  where
    go : (b : Bool) → cond b (1 + prefix_len q xs) 0 < suc (length xs) → (prefix_len q xs < length xs → prefix_len q (xs ++ ys) ≡ prefix_len q xs)
        → cond b (1 + prefix_len q (xs ++ ys)) 0 ≡ cond b (1 + prefix_len q xs) 0
    go true h rest = ap (λ n. 1 + n) (rest (omega (arith, h)))
    go false h rest = refl

position_more : (p : List ℕ → Bool) (xs ys : List (List ℕ)) (i : ℕ) → position p xs ≡ Some i → position p (xs ++ ys) ≡ Some i
position_more p xs ys i e = go (nat_lt before (length xs)) refl
  where
    before : ℕ
    before = prefix_len (λ x. not (p x)) xs

    go : (b : Bool) → nat_lt before (length xs) ≡ b → position p (xs ++ ys) ≡ Some i
    go true f =
        let low : before < length xs = grind (arith, nat_tests, f) in
        let same : prefix_len (λ x. not (p x)) (xs ++ ys) ≡ before = prefix_more (λ x. not (p x)) xs ys low in
        let is : cond (nat_lt before (length xs)) (Some before) None ≡ Some i = e in
        let there : Some before ≡ Some i = ap (λ b. cond b (Some before) None) (sym f) ∙ is in
        let lower : nat_lt before (length (xs ++ ys)) ≡ true = grind (arith, nat_tests, low, length-append xs ys) in
        ap (λ n. cond (nat_lt n (length (xs ++ ys))) (Some n) None) same ∙ (ap (λ b. cond b (Some before) None) lower ∙ there)
    go false f =
        let is : cond (nat_lt before (length xs)) (Some before) None ≡ Some i = e in
        absurd (let g = ap (λ b. cond b (Some before) None) (sym f) ∙ is in cc)

more_tests : (place : ℕ) (a b c : Bool) (o u : Option ℕ) (t : Sort) → ((n : ℕ) → o ≡ Some n → u ≡ Some n) → by_tests place a b c o ≡ Ok t
    → by_tests place a b c u ≡ Ok t
more_tests place true b c o u t h e = e
more_tests place false true c o u t h e = e
more_tests place false false true o u t h e = absurd (cc)
more_tests place false false false None u t h e = absurd (cc)
more_tests place false false false (Some n) u t h e = ap (declared_sort place) (h n refl) ∙ e

pub named_still : (sorts more : List (List ℕ)) (t : Sort) → IsNamedSort sorts t → IsNamedSort (sorts ++ more) t
named_still sorts more t h = record {
  name = h.name;
  symbol = h.symbol;
  read = λ place. more_tests place (bytes_eq h.name (codes "Bool")) (bytes_eq h.name (codes "Int")) (is_among left_out_sorts h.name)
      (position (bytes_eq h.name) sorts) (position (bytes_eq h.name) (sorts ++ more)) t
      (λ n e. position_more (bytes_eq h.name) sorts more n e) (h.read place);
}

-- it is read from what is printed
from_symbol : (sorts : List (List ℕ)) (i : Item) (name : List ℕ) → symbol_name i ≡ Some name
    → sort_from sorts i ≡ sort_named sorts (record { place = place_of i; name = name })
unfolding sort_from
from_symbol sorts (word place spelling) name e = ap (sort_spelled sorts place) e
from_symbol sorts (quoted place spelling) name e = ap (sort_spelled sorts place) e
from_symbol sorts (string place spelling) name e = ap (sort_spelled sorts place) e
from_symbol sorts (list place items) name e = absurd (cc)

declared_at : (place : ℕ) (a b c : Bool) (o : Option ℕ) (n : ℕ) → by_tests place a b c o ≡ Ok (Sort.Declared n) → o ≡ Some n
declared_at place true b c o n e = absurd (cc)
declared_at place false true c o n e = absurd (cc)
declared_at place false false true o n e = absurd (cc)
declared_at place false false false None n e = absurd (cc)
declared_at place false false false (Some k) n e = cc

pub named_readable : (s : Script) (t : Sort) → IsNamedSort s.sorts t → IsSortReadable s t
named_readable s Sort.Bool h = bool_readable s
named_readable s Sort.Int h = int_readable s
named_readable s (Sort.Declared n) h =
    let there =
    declared_at 0 (bytes_eq h.name (codes "Bool")) (bytes_eq h.name (codes "Int")) (is_among left_out_sorts h.name)
    (position (bytes_eq h.name) s.sorts) n (h.read 0) in
    let name_is : h.name ≡ slice_index_or s.sorts n [] = same_name h.name _ (position-Some (bytes_eq h.name) s.sorts n [] there).1 in
    let symbol = symbol_named h.name h.symbol in
    record {
      spelled = subst (λ name. IsSpelledItem (symbol_item name)) name_is symbol.spelled;
      read = λ at. subst (λ name. sort_from s.sorts (placed at (symbol_item name)) ≡ Ok (Sort.Declared n)) name_is
          (from_symbol s.sorts (placed at (symbol_item h.name)) h.name (symbol.named at) ∙ h.read _);
    }
