-- Private. The text of a question is read back.
use Rattle.std.proofs.Common.{◌≡◌, refl, sym, ap, subst, ◌∙◌, arith, ℕ, suc, ◌+◌, ◌<◌, ◌≤◌, ◌^◌, Bool, true, false, ◌||◌, List, [], ◌∷◌, ◌++◌, codes}
use Rattle.std.proofs.Common.{length, map, filter, flat_map, if◌then◌else◌}
use Rattle.std.specs.Char.{is_ascii_digit}
use Rattle.std.specs.List.{list_any, list_all, AllByRecursion}
use Rattle.std.proofs.lemmas.List.{append_assoc, append-nil}
use Rattle.std.proofs.lemmas.List.Folds.{list_any-append}
use Rattle.std.proofs.lemmas.List.Sums.{AllPass-from_list_all}
use Rattle.sexpr.specs.Characters.{is_word_byte, is_mark}
use Rattle.sexpr.specs.Grammar.{IsWord}
use Rattle.sexpr.specs.Items.{Item, Items, StandsForItems}
use Rattle.sexpr.specs.Words.{is_number}
use Rattle.sexpr.specs.Printed.{placed_lines, IsSpelledItem, AreSpelledItems}
use Rattle.sexpr.proofs.PrintedItems.{lines_stand}
use Rattle.term_model.specs.declared.symbols.Sort.{Sort}
use Rattle.term_model.specs.Sorts.{IsOf}
use Rattle.term_model.specs.Terms.{Var, var_eq, Fun, Term}
use Rattle.rule_model.specs.Replacement.{free_variables}
use Rattle.rule_model.specs.TermTests.{fun_eq}
use Rattle.problem_text.specs.PrintedTerms.{term_item, IsPrintable}
use Rattle.problem_text.specs.Problems.{problem, StandsForProblem}
use Rattle.problem_text.specs.Scripts.{Script, empty_script, with_sort, with_name, with_function}
use Rattle.problem_text.proofs.PrintedSpelling.{term_spelled}
use Rattle.hole_fillers.specs.Questions.{Naming, naming_of, functions_in, variables_in, place_among, sort_named, asked_function}
use Rattle.hole_fillers.specs.Questions.{constant_for, asked_term, items_of, command_item, sort_item, declared_sort_items, declared_function_item, assert_item}
use Rattle.hole_fillers.specs.Questions.{question_commands, question_text, question_terms, most_bytes}
use Rattle.hole_fillers.proofs.Places.{Has, all_left, all_right, each_there, each_in_itself}
use Rattle.hole_fillers.proofs.Lookup.{functions_tell, variables_tell}
use Rattle.question_texts.specs.Askable.{IsAskedFormula, AreAskedFormulas}
use Rattle.question_texts.proofs.FewNames.{few, few_sorts}
use Rattle.question_texts.proofs.AskedNames.{sort_word, function_word, variable_word}
use Rattle.question_texts.proofs.AskedSorts.{asked_of}
use Rattle.question_texts.proofs.Found.{function_place, variable_place}
use Rattle.question_texts.proofs.PrintableAsked.{printable}
use Rattle.question_texts.proofs.ReadSorts.{names_from, one_name_more, IsSmall, asked_small, all_small}
use Rattle.question_texts.proofs.ReadCommands.{ends_as, Leads, sort_step, IsPlainFunction, function_step, top_place, assert_step, check_step}

-- WHAT IS SPELLED

all_spelled : (is js : List Item) → AreSpelledItems (items_of is) → AreSpelledItems (items_of js) → AreSpelledItems (items_of (is ++ js))
all_spelled [] js h k = k
all_spelled (i ∷ is) js h k = (h.0, all_spelled is js h.1 k)

closed_word : (c : ℕ) (cs : List ℕ) → list_all is_word_byte (c ∷ cs) ≡ true → is_ascii_digit c ≡ false → IsWord (c ∷ cs)
closed_word c cs e l = record {
  some = omega arith;
  bytes = AllPass-from_list_all is_word_byte (c ∷ cs) e;
  number = λ digit. absurd (let f : false ≡ true = sym l ∙ digit in cc);
}

no_arity : IsWord (codes "0")
unfolding is_word_byte is_mark is_number
no_arity = record {
  some = omega arith;
  bytes = AllPass-from_list_all is_word_byte (codes "0") refl;
  number = λ digit. refl;
}

sort_spelled : (s : Sort) → IsSmall s → IsSpelledItem (sort_item s)
unfolding is_word_byte is_mark
sort_spelled Sort.Bool h = closed_word 66 (codes "ool") refl refl
sort_spelled Sort.Int h = closed_word 73 (codes "nt") refl refl
sort_spelled (Sort.Declared k) h = sort_word k h

arguments_spelled : (ss : List Sort) → AllByRecursion IsSmall ss → AreSpelledItems (items_of (map sort_item ss))
arguments_spelled [] h = tt
arguments_spelled (s ∷ ss) h = (sort_spelled s h.0, arguments_spelled ss h.1)

sorts_spelled : (k : ℕ) (ns : List ℕ) → k + length ns < 2 ^ 64 → AreSpelledItems (items_of (declared_sort_items k ns))
unfolding is_word_byte is_mark
sorts_spelled k [] few = tt
sorts_spelled k (n ∷ ns) few = (
  (closed_word 100 (codes "eclare-sort") refl refl, (sort_word k (omega (arith, few)), (no_arity, tt))),
  sorts_spelled (k + 1) ns (omega (arith, few)),
)

function_spelled : (f : Fun) → IsWord f.name → IsPlainFunction f → IsSpelledItem (declared_function_item f)
unfolding is_word_byte is_mark
function_spelled f name plain = (
  closed_word 100 (codes "eclare-fun") refl refl,
  (name, (arguments_spelled f.arguments plain.arguments, (sort_spelled f.target plain.target, tt))),
)

functions_spelled : {X : Type 0} (called : X → Fun) → ((x : X) → IsWord (called x).name × IsPlainFunction (called x)) → (xs : List X) →
    AreSpelledItems (items_of (map (λ x. declared_function_item (called x)) xs))
functions_spelled called plain [] = tt
functions_spelled called plain (x ∷ xs) = (function_spelled (called x) (plain x).0 (plain x).1, functions_spelled called plain xs)

assert_spelled : (t : Term) → IsSpelledItem (term_item t) → IsSpelledItem (assert_item t)
unfolding is_word_byte is_mark
assert_spelled t h = (closed_word 97 (codes "ssert") refl refl, (h, tt))

check_spelled : IsSpelledItem (command_item (codes "check-sat") [])
unfolding is_word_byte is_mark
check_spelled = (closed_word 99 (codes "heck-sat") refl refl, tt)

-- WHERE THE COMMANDS LEAD

-- Some items are left, and the script so far has these sorts, functions and assertions.
record LeadsOn (is : List Item) (u : Script) (sorts : List (List ℕ)) (functions : List Fun) (assertions : List Term) : Type 0 where
  at : ℕ
  before : List ℕ
  last : Script
  leads : Leads is at before last u
  fresh : last.is_checked ≡ false
  sorts_are : last.sorts ≡ sorts
  functions_are : last.functions ≡ functions
  macros : last.macros ≡ []
  named : last.named ≡ []
  assertions_are : last.assertions ≡ assertions

sorts_on : (k : ℕ) (ns : List ℕ) (is : List Item) (u : Script) (fs : List Fun) (ts : List Term) →
    LeadsOn (declared_sort_items k ns ++ is) u (names_from 0 k) fs ts → LeadsOn is u (names_from 0 (k + length ns)) fs ts
sorts_on k [] is u fs ts h = let e : k ≡ k + 0 = omega arith in subst (λ j. LeadsOn is u (names_from 0 j) fs ts) e h
sorts_on k (n ∷ ns) is u fs ts h =
    let next : suc k ≡ k + 1 = omega arith in
    let start : 0 + k ≡ k = omega arith in
    let more : names_from 0 k ++ sort_named k ∷ [] ≡ names_from 0 (k + 1) =
    ap (λ j. names_from 0 k ++ sort_named j ∷ []) (sym start) ∙ (one_name_more 0 k ∙ ap (names_from 0) next) in
    let e : k + 1 + length ns ≡ k + length (n ∷ ns) = omega arith in
    subst (λ j. LeadsOn is u (names_from 0 j) fs ts) e
    (sorts_on (k + 1) ns is u fs ts (record {
      at = _;
      before = 10 ∷ [];
      last = with_sort (sort_named k) h.last;
      leads = sort_step k (declared_sort_items (k + 1) ns ++ is) h.at h.before h.last u h.fresh h.leads;
      fresh = h.fresh;
      sorts_are = ap (λ names. names ++ sort_named k ∷ []) h.sorts_are ∙ more;
      functions_are = h.functions_are;
      macros = h.macros;
      named = h.named;
      assertions_are = h.assertions_are;
    }))

functions_on : {X : Type 0} (called : X → Fun) → ((x : X) → IsWord (called x).name × IsPlainFunction (called x)) → (m : ℕ) → m < 2 ^ 64 →
    (xs : List X) (is : List Item) (u : Script) (fs : List Fun) (ts : List Term) →
    LeadsOn (map (λ x. declared_function_item (called x)) xs ++ is) u (names_from 0 m) fs ts → LeadsOn is u (names_from 0 m) (fs ++ map called xs) ts
functions_on called plain m small [] is u fs ts h = subst (λ gs. LeadsOn is u (names_from 0 m) gs ts) (sym (append-nil fs)) h
functions_on called plain m small (x ∷ xs) is u fs ts h =
    subst (λ gs. LeadsOn is u (names_from 0 m) gs ts) (append_assoc fs (called x ∷ []) (map called xs))
    (functions_on called plain m small xs is u (fs ++ called x ∷ []) ts (record {
      at = _;
      before = 10 ∷ [];
      last = with_function (called x) (with_name (called x).name h.last);
      leads =
          function_step m small (called x) (map (λ x. declared_function_item (called x)) xs ++ is) h.at h.before h.last u (plain x).1 h.fresh h.sorts_are
          h.leads;
      fresh = h.fresh;
      sorts_are = h.sorts_are;
      functions_are = ap (λ gs. gs ++ called x ∷ []) h.functions_are;
      macros = h.macros;
      named = h.named;
      assertions_are = h.assertions_are;
    }))

-- A formula that is printable behind these functions.
record IsFine (functions : List Fun) (t : Term) : Type 0 where
  formula : IsOf t Sort.Bool
  printed : (s : Script) → s.functions ≡ functions → s.macros ≡ [] → s.named ≡ [] → IsPrintable top_place s t

asserts_on : (called : Term → Term) (xs : List Term) (is : List Item) (u : Script) (names : List (List ℕ)) (fs : List Fun) (ts : List Term) →
    AllByRecursion (λ x. IsFine fs (called x)) xs → LeadsOn (map (λ x. assert_item (called x)) xs ++ is) u names fs ts →
    LeadsOn is u names fs (ts ++ map called xs)
asserts_on called [] is u names fs ts fine h = subst (LeadsOn is u names fs) (sym (append-nil ts)) h
asserts_on called (x ∷ xs) is u names fs ts fine h =
    let r =
    assert_step (called x) (map (λ x. assert_item (called x)) xs ++ is) h.at h.before h.last u h.fresh fine.0.formula
    (fine.0.printed h.last h.functions_are h.macros h.named) h.leads in
    subst (LeadsOn is u names fs) (append_assoc ts (called x ∷ []) (map called xs))
    (asserts_on called xs is u names fs (ts ++ called x ∷ []) fine.1 (record {
      at = r.next;
      before = 10 ∷ [];
      last = r.last;
      leads = r.leads;
      fresh = r.fresh ∙ h.fresh;
      sorts_are = r.sorts ∙ h.sorts_are;
      functions_are = r.functions ∙ h.functions_are;
      macros = r.macros ∙ h.macros;
      named = r.named ∙ h.named;
      assertions_are = r.assertions ∙ ap (λ us. us ++ called x ∷ []) h.assertions_are;
    }))

-- A QUESTION

filter_all : {X : Type 0} (P : X → Type 0) (test : X → Bool) (xs : List X) → AllByRecursion P xs → AllByRecursion P (filter test xs)
filter_all P test [] h = tt
filter_all P test (x ∷ xs) h = go (test x) (filter_all P test xs h.1)
  where
    go : (b : Bool) → AllByRecursion P (filter test xs) → AllByRecursion P (if b then x ∷ filter test xs else filter test xs)
    go true rest = (h.0, rest)
    go false rest = rest

any_left : (x : Var) (xs ys : List Var) → Has var_eq xs x → Has var_eq (xs ++ ys) x
any_left x xs ys h = list_any-append (var_eq x) xs ys ∙ (let e : list_any (var_eq x) xs ≡ true = h in rw e refl)

any_right : (x : Var) (xs ys : List Var) → Has var_eq ys x → Has var_eq (xs ++ ys) x
any_right x xs ys h = list_any-append (var_eq x) xs ys ∙ go (list_any (var_eq x) xs) (list_any (var_eq x) ys) h
  where
    go : (a b : Bool) → b ≡ true → (a || b) ≡ true
    go true b e = refl
    go false b e = e

module _ (asserted : List Term) (short : length (question_text asserted) ≤ most_bytes) where
  abbrev n : Naming
  n = naming_of asserted

  abbrev is_free : Var → Bool
  is_free x = list_any (var_eq x) (flat_map free_variables asserted)

  abbrev declared : List Fun
  declared = map (asked_function n) n.functions ++ map (constant_for n) n.constants

  few_f : length n.functions < 2 ^ 32
  few_f = (few asserted short).functions

  few_v : length n.variables < 2 ^ 32
  few_v = (few asserted short).variables

  few_s : length n.sorts < 2 ^ 32
  few_s = few_sorts asserted short

  function_plain : (f : Fun) → IsWord (asked_function n f).name × IsPlainFunction (asked_function n f)
  function_plain f = (
    function_word (place_among fun_eq f n.functions) (function_place n few_f few_v f),
    record { named = refl; arguments = all_small n few_s f.arguments; target = asked_small n few_s f.target },
  )

  constant_plain : (x : Var) → IsWord (constant_for n x).name × IsPlainFunction (constant_for n x)
  constant_plain x = (
    variable_word (place_among var_eq x n.variables) (variable_place n few_f few_v x),
    record { named = refl; arguments = tt; target = asked_small n few_s x.sort },
  )

  fine : (t : Term) → IsAskedFormula t → AllByRecursion (Has fun_eq n.functions) (functions_in t) →
      AllByRecursion (Has var_eq n.variables) (variables_in t) → ((x : Var) → Has var_eq (free_variables t) x → is_free x ≡ true) →
      IsFine declared (asked_term n [] t)
  fine t h fs xs free = record {
    formula = asked_of n [] t Sort.Bool h.formula;
    printed = λ s e macros named.
        printable n few_f few_v
        (filter_all (Has var_eq n.variables) is_free n.variables (each_in_itself var_eq variables_tell n.variables)) is_free s
        (record { functions = e; macros = macros; named = named }) refl t [] top_place (record { kept = refl; scope = refl; named = tt }) h.askable fs xs
        (λ x has unbound. free x has);
  }

  all_fine : (ts : List Term) → AreAskedFormulas ts → AllByRecursion (Has fun_eq n.functions) (flat_map functions_in ts) →
      AllByRecursion (Has var_eq n.variables) (flat_map variables_in ts) → ((x : Var) → Has var_eq (flat_map free_variables ts) x → is_free x ≡ true) →
      AllByRecursion (λ t. IsFine declared (asked_term n [] t)) ts
  all_fine [] h fs xs free = tt
  all_fine (t ∷ ts) h fs xs free = (
    fine t h.0 (all_left (Has fun_eq n.functions) (functions_in t) (flat_map functions_in ts) fs)
        (all_left (Has var_eq n.variables) (variables_in t) (flat_map variables_in ts) xs)
        (λ x has. free x (any_left x (free_variables t) (flat_map free_variables ts) has)),
    all_fine ts h.1 (all_right (Has fun_eq n.functions) (functions_in t) (flat_map functions_in ts) fs)
        (all_right (Has var_eq n.variables) (variables_in t) (flat_map variables_in ts) xs)
        (λ x has. free x (any_right x (free_variables t) (flat_map free_variables ts) has)),
  )

  asserts_spelled : (ts : List Term) → AllByRecursion (λ t. IsFine declared (asked_term n [] t)) ts →
      AreSpelledItems (items_of (map (λ t. assert_item (asked_term n [] t)) ts))
  asserts_spelled [] h = tt
  asserts_spelled (t ∷ ts) h =
      let s = record empty_script { functions = declared } in (
        assert_spelled (asked_term n [] t) (term_spelled (asked_term n [] t) top_place s (h.0.printed s refl refl refl)),
        asserts_spelled ts h.1,
      )

  module _ (formulas : AreAskedFormulas asserted) where
    all_are : AllByRecursion (λ t. IsFine declared (asked_term n [] t)) asserted
    all_are =
        all_fine asserted formulas (each_there fun_eq functions_tell [] (flat_map functions_in asserted))
        (each_there var_eq variables_tell [] (flat_map variables_in asserted)) (λ x has. has)

    abbrev asserts : List Item
    asserts = map (λ t. assert_item (asked_term n [] t)) asserted

    abbrev check : List Item
    check = command_item (codes "check-sat") [] ∷ []

    abbrev constants : List Item
    constants = map (λ x. declared_function_item (constant_for n x)) n.constants

    abbrev functions : List Item
    functions = map (λ f. declared_function_item (asked_function n f)) n.functions

    spelled : AreSpelledItems (items_of (question_commands n asserted))
    spelled =
        all_spelled (declared_sort_items 0 n.sorts) (functions ++ (constants ++ (asserts ++ check)))
        (sorts_spelled 0 n.sorts (omega (arith, few_s)))
        (all_spelled functions (constants ++ (asserts ++ check)) (functions_spelled (asked_function n) function_plain n.functions)
        (all_spelled constants (asserts ++ check) (functions_spelled (constant_for n) constant_plain n.constants)
        (all_spelled asserts check (asserts_spelled asserted all_are) (check_spelled, tt))))

    leads : (u : Script) → Leads (question_commands n asserted) 0 [] empty_script u → u.assertions ≡ question_terms asserted
    leads u h =
        let start : LeadsOn (question_commands n asserted) u [] [] [] = record {
          at = 0;
          before = [];
          last = empty_script;
          leads = h;
          fresh = refl;
          sorts_are = refl;
          functions_are = refl;
          macros = refl;
          named = refl;
          assertions_are = refl;
        } in
        let m : ℕ = 0 + length n.sorts in
        let few : m < 2 ^ 64 = omega (arith, few_s) in
        let sorts = sorts_on 0 n.sorts (functions ++ (constants ++ (asserts ++ check))) u [] [] start in
        let fs = functions_on (asked_function n) function_plain m few n.functions (constants ++ (asserts ++ check)) u [] [] sorts in
        let cs =
        functions_on (constant_for n) constant_plain m few n.constants (asserts ++ check) u (map (asked_function n) n.functions) [] fs in
        let ts = asserts_on (asked_term n []) asserted check u (names_from 0 m) declared [] all_are cs in
        sym (check_step ts.at ts.before ts.last u ts.fresh ts.leads) ∙ ts.assertions_are

    pub read_back : ((source : List ℕ) (is js : Items) → StandsForItems source is → StandsForItems source js → is ≡ js) → (u : Script) →
        StandsForProblem (question_text asserted) false u → u.assertions ≡ question_terms asserted
    read_back one_text u h =
        let items : h.items ≡ placed_lines 0 [] (items_of (question_commands n asserted)) =
        one_text (question_text asserted) h.items (placed_lines 0 [] (items_of (question_commands n asserted))) h.nested
        (lines_stand (items_of (question_commands n asserted)) spelled) in
        leads u (subst (λ is. problem false is ≡ ends_as u) items h.read)
