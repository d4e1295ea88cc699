-- Names: built-in words, names among others, and what a scope finds.
use Rattle.std.proofs.Common.{◌≡◌, ℕ, Bool, true, false, ◌||◌, ◌==◌, Some, None, List, [], ◌∷◌, codes, bytes_eq, find, cond, eqb-true, refl, sym, ap, ◌∙◌}
use Rattle.std.proofs.Common.{subst}
use Rattle.std.specs.Prelude.{Contains, IfSome}
use Rattle.std.specs.List.{AllByRecursion, list_all}
use Rattle.std.proofs.lemmas.Bool.{or_parts}
use Rattle.std.proofs.lemmas.List.Folds.{list_any-append}
use Rattle.std.proofs.lemmas.List.Sums.{AllPass-from_list_all}
use Rattle.std.proofs.lemmas.Slice.Eq.{bytes_eq-Decides}
use Rattle.sexpr.specs.Characters.{is_between_bars}
use Rattle.sexpr.specs.Printed.{IsSymbolItem}
use Rattle.sexpr.proofs.PrintedItems.{symbol_is}
use Rattle.term_model.specs.declared.symbols.Op.{Op}
use Rattle.term_model.proofs.Lists.{contains_head, contains_later}
use Rattle.sym_table.specs.Words.{operator_symbol}
use Rattle.rule_model.specs.RuleNames.{IsSymbolName}
use Rattle.problem_text.specs.Names.{Bound, innermost}
use Rattle.problem_text.specs.PrintedTerms.{IsUsable, MayLead}
use Rattle.problem_text.specs.Words.{is_among, is_built_in, left_out_words}
use Rattle.problem_text.proofs.Outcomes.{if_found}
use Rattle.readable_proofs.specs.Names.{IsOwnName}

-- the test of names
pub same_name : (a b : List ℕ) → bytes_eq a b ≡ true → a ≡ b
same_name a b e = (bytes_eq-Decides a b).0 e

pub name_same : (a : List ℕ) → bytes_eq a a ≡ true
name_same a = (bytes_eq-Decides a a).1 refl

pub other_name : (a b : List ℕ) → (a ≡ b → ⊥) → bytes_eq a b ≡ false
other_name a b differs = go (bytes_eq a b) refl
  where
    go : (t : Bool) → bytes_eq a b ≡ t → t ≡ false
    go true e = absurd (differs (same_name a b e))
    go false e = refl

pub not_same : (a b : List ℕ) → bytes_eq a b ≡ false → a ≡ b → ⊥
not_same a b e same = let f = (bytes_eq-Decides a b).1 same in absurd (cc)

-- a name that is among others is one of them, and the other way round
pub among_is : (names : List (List ℕ)) (name : List ℕ) → is_among names name ≡ true → Contains names name
among_is [] name e = absurd (let f : false ≡ true = e in cc)
among_is (x ∷ xs) name e = go (bytes_eq name x) refl e (among_is xs name)
  where
    go : (b : Bool) → bytes_eq name x ≡ b → (b || is_among xs name) ≡ true → (is_among xs name ≡ true → Contains xs name) → Contains (x ∷ xs) name
    go true same f rest = subst (λ y. Contains (y ∷ xs) name) (same_name name x same) (contains_head name xs)
    go false other f rest = contains_later x name xs (rest f)

-- names that are built-in words
head_of : List (List ℕ)
head_of =
    codes "true" ∷ codes "false" ∷ codes "not" ∷ codes "=>" ∷ codes "and" ∷ codes "or" ∷ codes "xor" ∷ codes "="
    ∷ codes "distinct" ∷ codes "ite" ∷ codes "-" ∷ codes "+" ∷ codes "*" ∷ codes "div" ∷ codes "mod" ∷ codes "<="
    ∷ codes "<" ∷ codes ">=" ∷ codes ">" ∷ codes "let" ∷ codes "!" ∷ codes "Bool" ∷ codes "Int" ∷ []

pub usable : (name : List ℕ) → is_built_in name ≡ false → IsUsable name
unfolding head_of
usable name free =
    let parts : (is_among head_of name || is_among left_out_words name) ≡ false =
    sym (list_any-append (bytes_eq name) head_of left_out_words) ∙ free in
    (or_parts (is_among head_of name) (is_among left_out_words name) parts).1

pub no_word : (name word : List ℕ) → is_built_in word ≡ true → is_built_in name ≡ false → bytes_eq name word ≡ false
no_word name word built free = other_name name word (λ same. let f = ap is_built_in same in absurd (cc))

pub leads : (name : List ℕ) → IsOwnName name → MayLead name
leads name own = record {
  usable = usable name own.free_word;
  no_let = no_word name (codes "let") refl own.free_word;
  no_mark = no_word name (codes "!") refl own.free_word;
  symbol = own.symbol;
}

-- the name of a symbol
other_byte : (b c : ℕ) → (b ≡ c → ⊥) → (b == c) ≡ false
other_byte b c differs = go (b == c) refl
  where
    go : (test : Bool) → (b == c) ≡ test → test ≡ false
    go true e = absurd (differs (eqb-true b c e))
    go false e = refl

byte_between : (b : ℕ) → (b ≡ 124 → ⊥) × (b ≡ 92 → ⊥) → is_between_bars b ≡ true
byte_between b h =
    let bar = other_byte b 124 h.0 in
    let slash = other_byte b 92 h.1 in
    rw (bar, slash) refl

pub symbol_named : (name : List ℕ) → IsSymbolName name → IsSymbolItem name
symbol_named name is = symbol_is name (λ k d within. byte_between _ (is k d within))

-- the words of operators
record IsOperatorWord (name : List ℕ) : Type 0 where
  usable : is_among left_out_words name ≡ false
  no_let : bytes_eq name (codes "let") ≡ false
  no_mark : bytes_eq name (codes "!") ≡ false
  between : list_all is_between_bars name ≡ true
  built_in : is_built_in name ≡ true

operator_word : (op : Op) → IsOperatorWord (operator_symbol op)
operator_word Op.True = record { usable = refl; no_let = refl; no_mark = refl; between = refl; built_in = refl }
operator_word Op.False = record { usable = refl; no_let = refl; no_mark = refl; between = refl; built_in = refl }
operator_word Op.Not = record { usable = refl; no_let = refl; no_mark = refl; between = refl; built_in = refl }
operator_word Op.Implies = record { usable = refl; no_let = refl; no_mark = refl; between = refl; built_in = refl }
operator_word Op.And = record { usable = refl; no_let = refl; no_mark = refl; between = refl; built_in = refl }
operator_word Op.Or = record { usable = refl; no_let = refl; no_mark = refl; between = refl; built_in = refl }
operator_word Op.Xor = record { usable = refl; no_let = refl; no_mark = refl; between = refl; built_in = refl }
operator_word Op.Equal = record { usable = refl; no_let = refl; no_mark = refl; between = refl; built_in = refl }
operator_word Op.Distinct = record { usable = refl; no_let = refl; no_mark = refl; between = refl; built_in = refl }
operator_word Op.Ite = record { usable = refl; no_let = refl; no_mark = refl; between = refl; built_in = refl }
operator_word Op.Minus = record { usable = refl; no_let = refl; no_mark = refl; between = refl; built_in = refl }
operator_word Op.Plus = record { usable = refl; no_let = refl; no_mark = refl; between = refl; built_in = refl }
operator_word Op.Times = record { usable = refl; no_let = refl; no_mark = refl; between = refl; built_in = refl }
operator_word Op.Div = record { usable = refl; no_let = refl; no_mark = refl; between = refl; built_in = refl }
operator_word Op.Mod = record { usable = refl; no_let = refl; no_mark = refl; between = refl; built_in = refl }
operator_word Op.LessEq = record { usable = refl; no_let = refl; no_mark = refl; between = refl; built_in = refl }
operator_word Op.Less = record { usable = refl; no_let = refl; no_mark = refl; between = refl; built_in = refl }
operator_word Op.GreaterEq = record { usable = refl; no_let = refl; no_mark = refl; between = refl; built_in = refl }
operator_word Op.Greater = record { usable = refl; no_let = refl; no_mark = refl; between = refl; built_in = refl }

pub operator_leads : (op : Op) → MayLead (operator_symbol op)
operator_leads op =
    let w = operator_word op in
    record {
      usable = w.usable;
      no_let = w.no_let;
      no_mark = w.no_mark;
      symbol = symbol_is (operator_symbol op) (AllPass-from_list_all is_between_bars (operator_symbol op) w.between);
    }

pub operator_built_in : (op : Op) → is_built_in (operator_symbol op) ≡ true
operator_built_in op = (operator_word op).built_in

-- what a scope finds has a name of these, where all its variables do; and it finds nothing by another name

pub found_is : (P : Bound → Type 0) (scope : List Bound) (name : List ℕ) (b : Bound) → AllByRecursion P scope → innermost scope name ≡ Some b → P b
found_is P scope name b all found = subst (λ o. IfSome o P) found (if_found P (λ b. bytes_eq b.variable.name name) scope all)

pub found_named : (names : List (List ℕ)) (scope : List Bound) (name : List ℕ) (b : Bound) → AllByRecursion (λ b. Contains names b.variable.name) scope
    → innermost scope name ≡ Some b → Contains names b.variable.name
found_named names scope name b named found = found_is (λ b. Contains names b.variable.name) scope name b named found

pub none_found : (names : List (List ℕ)) (scope : List Bound) (name : List ℕ) → AllByRecursion (λ b. Contains names b.variable.name) scope
    → (Contains names name → ⊥) → innermost scope name ≡ None
none_found names [] name named none = refl
none_found names (b ∷ scope) name named none =
    let other = other_name b.variable.name name (λ same. none (subst (Contains names) same named.0)) in
    let rest = none_found names scope name named.1 none in
    rw other rest

-- what is found passes the test
pub found_passes : {X : Type 0} (test : X → Bool) (xs : List X) → IfSome (find test xs) (λ x. test x ≡ true)
found_passes test [] = tt
found_passes test (x ∷ xs) = go (test x) refl (found_passes test xs)
  where
    go : (b : Bool) → test x ≡ b → IfSome (find test xs) (λ x. test x ≡ true) → IfSome (cond b (Some x) (find test xs)) (λ x. test x ≡ true)
    go true e rest = e
    go false e rest = rest

pub found_named_so : (scope : List Bound) (name : List ℕ) (b : Bound) → innermost scope name ≡ Some b → b.variable.name ≡ name
found_named_so scope name b found =
    same_name b.variable.name name
    (subst (λ o. IfSome o (λ b. bytes_eq b.variable.name name ≡ true)) found (found_passes (λ b. bytes_eq b.variable.name name) scope))

-- what all have, and what follows from it
pub all_more : {X : Type 0} (P Q : X → Type 0) (xs : List X) → ((x : X) → P x → Q x) → AllByRecursion P xs → AllByRecursion Q xs
all_more P Q [] more h = tt
all_more P Q (x ∷ xs) more h = (more x h.0, all_more P Q xs more h.1)

pub all_in : {X : Type 0} (xs all : List X) → ((x : X) → Contains xs x → Contains all x) → AllByRecursion (Contains all) xs
all_in [] all h = tt
all_in (x ∷ xs) all h = (h x (contains_head x xs), all_in xs all (λ y there. h y (contains_later x y xs there)))
