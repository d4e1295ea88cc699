-- Private. Names and terms are printed as tokens that are spelled as their kinds say, in whatever state they are printed.
use Rattle.std.proofs.Common.{◌≡◌, ℕ, zero, suc, ◌+◌, ◌<◌, ◌/◌, ◌%◌, ◌==◌, Bool, true, false, Option, Some, None, List, [], ◌∷◌, Contains}
use Rattle.std.proofs.Common.{codes, find, map, refl, sym, ◌∙◌, subst, arith, if◌then◌else◌, eqb-true}
use Rattle.std.specs.List.{AllByRecursion, list_all}
use Rattle.std.specs.Char.{is_ascii_digit}
use Rattle.std.specs.Fmt.{digits, digits_onto, digit_glyph}
use Rattle.std.proofs.lemmas.List.Elements.{All-head, All-tail}
use Rattle.std.proofs.lemmas.List.Sums.{AllPass-from_list_all}
use Rattle.sexpr.specs.Characters.{is_between_bars, is_word_byte, is_mark}
use Rattle.sexpr.specs.Grammar.{IsWord}
use Rattle.sexpr.specs.Items.{Item}
use Rattle.sexpr.specs.Printed.{IsSymbolItem, IsSpelledItem, AreSpelledItems, symbol_item}
use Rattle.sexpr.proofs.PrintedItems.{symbol_is}
use Rattle.sexpr.proofs.PrintedNumerals.{decimal_is_word}
use Rattle.sym_table.specs.Words.{operator_symbol}
use Rattle.term_model.specs.Terms.{Term, numeral, variable, operation, call, let_in, Terms, no_terms, term, Bindings, no_bindings, binding}
use Rattle.term_model.proofs.Lists.{contains_head, contains_later}
use Rattle.rule_model.specs.RuleNames.{IsSymbolName}
use Rattle.rule_model.specs.TermTests.{term_eq}
use Rattle.problem_text.specs.Names.{Place, place_inside}
use Rattle.problem_text.specs.PrintedTerms.{IsPrintable, ArePrintable, AreBoundPrintable, named_item, bounds_in}
use Rattle.problem_text.specs.Scripts.{Named, Script, with_let_name, with_named, with_term}
use Rattle.problem_text.specs.Words.{is_among}
use Rattle.problem_text.proofs.PrintedSpelling.{applied_spelled}
use Rattle.printed_proofs.specs.Naming.{IsPlan}
use Rattle.printed_proofs.specs.Numbered.{printed_id}
use Rattle.printed_proofs.specs.Shared.{Plan, planned, shared_as, behind_as, shared_item, shared_items, shared_pairs, behind_term, behind_terms, behind_pairs}

-- words
pub plain_word : (b : ℕ) (bs : List ℕ) → list_all is_word_byte (b ∷ bs) ≡ true → is_ascii_digit b ≡ false → IsWord (b ∷ bs)
plain_word b bs word none = record {
  some = omega arith;
  bytes = AllPass-from_list_all is_word_byte (b ∷ bs) word;
  number = λ digit. absurd (let f : false ≡ true = sym none ∙ digit in cc);
}

-- names of symbols
other_byte : (b c : ℕ) → (b ≡ c → ⊥) → (b == c) ≡ false
other_byte b c differs = go (b == c) refl
  where
    go : (test : Bool) → (b == c) ≡ test → test ≡ false
    go true e = absurd (differs (eqb-true b c e))
    go false e = refl

names_between : (name : List ℕ) → IsSymbolName name → list_all is_between_bars name ≡ true
names_between [] h = refl
names_between (b ∷ bs) h =
    let first = All-head (λ b. (b ≡ 124 → ⊥) × (b ≡ 92 → ⊥)) b bs h in
    let bar = other_byte b 124 first.0 in
    let slash = other_byte b 92 first.1 in
    let rest = names_between bs (All-tail (λ b. (b ≡ 124 → ⊥) × (b ≡ 92 → ⊥)) b bs h) in
    rw (bar, slash, rest) refl

pub name_symbol : (name : List ℕ) → IsSymbolName name → IsSymbolItem name
name_symbol name is = symbol_is name (AllPass-from_list_all is_between_bars name (names_between name is))

-- printed ids
glyph_between : (n : ℕ) → n < 10 → is_between_bars (digit_glyph false n) ≡ true
glyph_between zero l = refl
glyph_between (suc zero) l = refl
glyph_between (suc (suc zero)) l = refl
glyph_between (suc (suc (suc zero))) l = refl
glyph_between (suc (suc (suc (suc zero)))) l = refl
glyph_between (suc (suc (suc (suc (suc zero))))) l = refl
glyph_between (suc (suc (suc (suc (suc (suc zero)))))) l = refl
glyph_between (suc (suc (suc (suc (suc (suc (suc zero))))))) l = refl
glyph_between (suc (suc (suc (suc (suc (suc (suc (suc zero)))))))) l = refl
glyph_between (suc (suc (suc (suc (suc (suc (suc (suc (suc zero))))))))) l = refl
glyph_between (suc (suc (suc (suc (suc (suc (suc (suc (suc (suc n)))))))))) l = absurd (omega (arith, l))

onto_between : (k n : ℕ) (rest : List ℕ) → list_all is_between_bars rest ≡ true → list_all is_between_bars (digits_onto k 10 false n rest) ≡ true
onto_between zero n rest h = h
onto_between (suc k) n rest h =
    let g = glyph_between (n % 10) (omega arith) in
    let more : list_all is_between_bars (digit_glyph false (n % 10) ∷ rest) ≡ true = rw (g, h) refl in
    go (n / 10 == 0) more (onto_between k (n / 10) (digit_glyph false (n % 10) ∷ rest) more)
  where
    go : (b : Bool) → list_all is_between_bars (digit_glyph false (n % 10) ∷ rest) ≡ true
        → list_all is_between_bars (digits_onto k 10 false (n / 10) (digit_glyph false (n % 10) ∷ rest)) ≡ true
        → list_all is_between_bars
        (if b then digit_glyph false (n % 10) ∷ rest else digits_onto k 10 false (n / 10) (digit_glyph false (n % 10) ∷ rest)) ≡ true
    go true more longer = more
    go false more longer = longer

pub id_symbol : (k : ℕ) → IsSymbolItem (printed_id k)
unfolding digits
id_symbol k =
    let all : list_all is_between_bars (digits_onto 64 10 false (k + 1) []) ≡ true = onto_between 64 (k + 1) [] refl in
    symbol_is (printed_id k) (AllPass-from_list_all is_between_bars (printed_id k) all)

pub id_symbols : (ks : List ℕ) → AllByRecursion IsSymbolItem (map printed_id ks)
id_symbols [] = tt
id_symbols (k ∷ ks) = (id_symbol k, id_symbols ks)

-- words of terms
record AreTermWords : Type 0 where
  let_word : IsWord (codes "let")
  mark_word : IsWord (codes "!")
  named_word : IsWord (codes ":named")

term_words : AreTermWords
unfolding is_word_byte is_mark
term_words = record { let_word = plain_word _ _ refl refl; mark_word = plain_word _ _ refl refl; named_word = plain_word _ _ refl refl }

-- the name that a term is to have is one of the plan
planned_there : (plan : Plan) (t : Term) (n : Named) → planned plan t ≡ Some n → Contains plan n
planned_there [] t n e = absurd (let f : None ≡ Some n = e in cc)
planned_there (m ∷ plan) t n e = go (term_eq m.meant.tree t) e (planned_there plan t n)
  where
    go : (test : Bool) → (if test then Some m else find (λ (n : Named). term_eq n.meant.tree t) plan) ≡ Some n
        → (planned plan t ≡ Some n → Contains plan n) → Contains (m ∷ plan) n
    go true same later = let is : m ≡ n = cc in subst (λ x. Contains (m ∷ plan) x) is (contains_head m plan)
    go false other later = contains_later m n plan (later other)

module _ (plan : Plan) (sound : IsPlan plan) where
  shared_as_spelled : (s : Script) (o : Option Named) (t : Term) (whole : Item) → planned plan t ≡ o → IsSpelledItem whole
      → IsSpelledItem (shared_as s o whole)
  shared_as_spelled s None t whole is spelled = spelled
  shared_as_spelled s (Some n) t whole is spelled = go (is_among s.taken n.name)
    where
      symbol : IsSpelledItem (symbol_item n.name)
      symbol = (sound.symbol n (planned_there plan t n is)).spelled

      go : (test : Bool) → IsSpelledItem (if test then symbol_item n.name else named_item whole n.name)
      go true = symbol
      go false = (term_words.mark_word, (spelled, (term_words.named_word, (symbol, tt))))

  -- a term that is printable behind some script
  mutual
    pub shared_spelled : (t : Term) (s : Script) (p : Place) (u : Script) → IsPrintable p u t → IsSpelledItem (shared_item plan s t)
    shared_spelled (numeral n) s p u k = decimal_is_word n (omega (arith, k))
    shared_spelled (variable x) s p u k = k.0.1.spelled
    shared_spelled (operation op ts) s p u k =
        shared_as_spelled s _ (operation op ts) _ refl
        (applied_spelled (operator_symbol op) (shared_items plan s ts) k.0.symbol (all_shared_spelled ts s p u k.2))
    shared_spelled (call f ts) s p u k =
        shared_as_spelled s _ (call f ts) _ refl (applied_spelled f.name (shared_items plan s ts) k.0.symbol (all_shared_spelled ts s p u k.2))
    shared_spelled (let_in bs t) s p u k = (
      term_words.let_word,
      (pairs_shared_spelled bs s [] p u k.2, (shared_spelled t (behind_pairs plan s bs) (place_inside (bounds_in bs) p) u k.3, tt)),
    )

    all_shared_spelled : (ts : Terms) (s : Script) (p : Place) (u : Script) → ArePrintable p u ts → AreSpelledItems (shared_items plan s ts)
    all_shared_spelled no_terms s p u k = tt
    all_shared_spelled (term t ts) s p u k = (shared_spelled t s p u k.0, all_shared_spelled ts (behind_term plan s t) p u k.1)

    pairs_shared_spelled : (bs : Bindings) (s : Script) (earlier : List (List ℕ)) (p : Place) (u : Script) → AreBoundPrintable p u earlier bs
        → AreSpelledItems (shared_pairs plan s bs)
    pairs_shared_spelled no_bindings s earlier p u k = tt
    pairs_shared_spelled (binding x t bs) s earlier p u k = (
      (k.0.spelled, (shared_spelled t (with_let_name x.name s) p u k.2, tt)),
      pairs_shared_spelled bs (behind_term plan (with_let_name x.name s) t) (x.name ∷ earlier) p u k.3,
    )

  -- the state behind a term has the sorts of the one before it
  as_sorts : (s inside : Script) (o : Option Named) (t : Term) → inside.sorts ≡ s.sorts → (behind_as s o t inside).sorts ≡ s.sorts
  as_sorts s inside None t e = e
  as_sorts s inside (Some n) t e = go (is_among s.taken n.name)
    where
      go : (test : Bool) → (if test then with_term t s else with_named n inside).sorts ≡ s.sorts
      go true = refl
      go false = e

  mutual
    pub term_sorts : (t : Term) (s : Script) → (behind_term plan s t).sorts ≡ s.sorts
    term_sorts (numeral n) s = refl
    term_sorts (variable x) s = refl
    term_sorts (operation op ts) s = as_sorts s _ (planned plan (operation op ts)) (operation op ts) (terms_sorts ts s)
    term_sorts (call f ts) s = as_sorts s _ (planned plan (call f ts)) (call f ts) (terms_sorts ts s)
    term_sorts (let_in bs t) s = term_sorts t (behind_pairs plan s bs) ∙ pairs_sorts bs s

    terms_sorts : (ts : Terms) (s : Script) → (behind_terms plan s ts).sorts ≡ s.sorts
    terms_sorts no_terms s = refl
    terms_sorts (term t ts) s = terms_sorts ts (behind_term plan s t) ∙ term_sorts t s

    pairs_sorts : (bs : Bindings) (s : Script) → (behind_pairs plan s bs).sorts ≡ s.sorts
    pairs_sorts no_bindings s = refl
    pairs_sorts (binding x t bs) s = pairs_sorts bs (behind_term plan (with_let_name x.name s) t) ∙ term_sorts t (with_let_name x.name s)
