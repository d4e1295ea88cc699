-- Private. The text of declarations, by the numbers of sorts that are given in all of them.
use Rattle.std.proofs.Common.{◌≡◌, refl, sym, ap, subst, ◌∙◌, arith, eq-eqb, ℕ, suc, ◌+◌, nat_eq, Bool, true, false, List, [], ◌∷◌, ◌++◌, codes, map}
use Rattle.std.proofs.Common.{flat_map, filter, length, if◌then◌else◌, nat_le, ◌<◌, None}
use Rattle.std.proofs.lemmas.Bool.Decides.{nat_tests}
use Rattle.std.proofs.lemmas.Grind.{flat_map-append}
use Rattle.std.proofs.lemmas.List.{append_assoc, append-nil, length-append}
use Rattle.std.specs.List.{list_any}
use Rattle.sexpr.specs.Items.{Item}
use Rattle.sexpr.specs.Printed.{printed, printed_all, printed_lines}
use Rattle.term_model.specs.declared.symbols.Sort.{Sort}
use Rattle.term_model.specs.Terms.{Var, var_eq, Fun, Term}
use Rattle.term_model.proofs.Existence.{fun_eq_decides}
use Rattle.term_model.proofs.Tests.{var_eq_decides}
use Rattle.rule_model.specs.TermTests.{fun_eq}
use Rattle.rule_model.specs.Replacement.{free_variables}
use Rattle.hole_fillers.specs.Questions.{firsts_behind, firsts, place_among, declared_number, declared_sorts, Naming, naming_of, name_with, sort_named, asked_sort}
use Rattle.hole_fillers.specs.Questions.{asked_function, constant_for, asked_term, items_of, sort_item, declared_sort_items, declared_function_item, assert_item}
use Rattle.hole_fillers.specs.Questions.{command_item, question_text, functions_in, variables_in, most_bytes, within}
use Rattle.hole_questions.specs.Asserts.{asserts_text}
use Rattle.hole_questions.specs.Declarations.{Part, bytes, sort, Declared, after_part, after_parts, each_part, argument_parts, line_parts, function_parts}
use Rattle.hole_questions.specs.Declarations.{constant_parts, sort_line, sort_lines, check_line}
use Rattle.hole_questions.proofs.DeclarationLists.{two}
use Rattle.hole_questions.proofs.Firsts.{place_first, place_last, AreFresh, firsts_fresh}

-- THE SORTS THAT ARE NAMED

abbrev pub part_sorts : Part → List ℕ
part_sorts (bytes b) = []
part_sorts (sort s) = declared_number s

sorts_after : (d : Declared) (ps : List Part) → (after_parts d ps).sorts ≡ firsts_behind nat_eq d.sorts (flat_map part_sorts ps)
sorts_after d [] = refl
sorts_after d (bytes b ∷ ps) = sorts_after (after_part d (bytes b)) ps
sorts_after d (sort Sort.Bool ∷ ps) = sorts_after (after_part d (sort Sort.Bool)) ps
sorts_after d (sort Sort.Int ∷ ps) = sorts_after (after_part d (sort Sort.Int)) ps
sorts_after d (sort (Sort.Declared n) ∷ ps) = sorts_after (after_part d (sort (Sort.Declared n))) ps

argument_sorts : (k : ℕ) (ss : List Sort) → flat_map part_sorts (each_part argument_parts k ss) ≡ flat_map declared_number ss
argument_sorts k [] = refl
argument_sorts k (s ∷ ss) = ap (λ ns. declared_number s ++ ns) (argument_sorts (suc k) ss)

line_sorts : (name : List ℕ) (ss : List Sort) (t : Sort) → flat_map part_sorts (line_parts name ss t) ≡ flat_map declared_number (ss ++ t ∷ [])
line_sorts name ss t =
    flat_map-append part_sorts (each_part argument_parts 0 ss) (bytes (codes ") ") ∷ sort t ∷ bytes (41 ∷ 10 ∷ []) ∷ [])
    ∙ (ap (λ ns. ns ++ (declared_number t ++ [])) (argument_sorts 0 ss) ∙ sym (flat_map-append declared_number ss (t ∷ [])))

function_sorts : (k : ℕ) (fs : List Fun) →
    flat_map part_sorts (each_part function_parts k fs) ≡ flat_map declared_number (flat_map (λ f. f.arguments ++ f.target ∷ []) fs)
function_sorts k [] = refl
function_sorts k (f ∷ fs) =
    flat_map-append part_sorts (function_parts k f) (each_part function_parts (suc k) fs)
    ∙ (ap (λ ns. ns ++ flat_map part_sorts (each_part function_parts (suc k) fs)) (line_sorts (name_with (codes "f") k) f.arguments f.target)
    ∙ (ap (λ ns. flat_map declared_number (f.arguments ++ f.target ∷ []) ++ ns) (function_sorts (suc k) fs)
    ∙ sym (flat_map-append declared_number (f.arguments ++ f.target ∷ []) (flat_map (λ f. f.arguments ++ f.target ∷ []) fs))))

constant_sorts : (is_free : Var → Bool) (k : ℕ) (xs : List Var) →
    flat_map part_sorts (each_part (constant_parts is_free) k xs) ≡ flat_map declared_number (map (λ x. x.sort) (filter is_free xs))
constant_sorts is_free k [] = refl
constant_sorts is_free k (x ∷ xs) = go (is_free x) refl (constant_sorts is_free (suc k) xs)
  where
    go : (b : Bool) → is_free x ≡ b →
        flat_map part_sorts (each_part (constant_parts is_free) (suc k) xs) ≡ flat_map declared_number (map (λ x. x.sort) (filter is_free xs)) →
        flat_map part_sorts ((if b then line_parts (name_with (codes "v") k) [] x.sort else []) ++ each_part (constant_parts is_free) (suc k) xs)
        ≡ flat_map declared_number (map (λ x. x.sort) (if b then x ∷ filter is_free xs else filter is_free xs))
    go true e rest = ap (λ ns. declared_number x.sort ++ ns) rest
    go false e rest = rest

-- THE TEXT

abbrev pub sort_text : List ℕ → Sort → List ℕ
sort_text ns Sort.Bool = codes "Bool"
sort_text ns Sort.Int = codes "Int"
sort_text ns (Sort.Declared n) = sort_named (place_among nat_eq n ns)

abbrev pub part_text : List ℕ → Part → List ℕ
part_text ns (bytes b) = b
part_text ns (sort s) = sort_text ns s

same_number : (n : ℕ) → nat_eq n n ≡ true
same_number n = eq-eqb n n refl

joined : (text name rest whole : List ℕ) → whole ≡ (text ++ name) ++ rest → whole ≡ text ++ (name ++ rest)
joined text name rest whole e = e ∙ append_assoc text name rest

text_after : (ns : List ℕ) (d : Declared) (ps : List Part) → firsts_behind nat_eq d.sorts (flat_map part_sorts ps) ≡ ns →
    (after_parts d ps).text ≡ d.text ++ flat_map (part_text ns) ps
text_after ns d [] e = sym (append-nil d.text)
text_after ns d (bytes b ∷ ps) e =
    joined d.text b (flat_map (part_text ns) ps) (after_parts d (bytes b ∷ ps)).text (text_after ns (after_part d (bytes b)) ps e)
text_after ns d (sort Sort.Bool ∷ ps) e =
    joined d.text (codes "Bool") (flat_map (part_text ns) ps) (after_parts d (sort Sort.Bool ∷ ps)).text (text_after ns (after_part d (sort Sort.Bool)) ps e)
text_after ns d (sort Sort.Int ∷ ps) e =
    joined d.text (codes "Int") (flat_map (part_text ns) ps) (after_parts d (sort Sort.Int ∷ ps)).text (text_after ns (after_part d (sort Sort.Int)) ps e)
text_after ns d (sort (Sort.Declared n) ∷ ps) e =
    joined d.text (sort_named (place_among nat_eq n d.sorts)) (flat_map (part_text ns) ps) (after_parts d (sort (Sort.Declared n) ∷ ps)).text
    (text_after ns (after_part d (sort (Sort.Declared n))) ps e)
    ∙ ap (λ t. d.text ++ (t ++ flat_map (part_text ns) ps)) next
  where
    next : sort_named (place_among nat_eq n d.sorts) ≡ sort_named (place_among nat_eq n ns)
    next = ap sort_named (sym (place_first nat_eq same_number n d.sorts (flat_map part_sorts ps)) ∙ ap (place_among nat_eq n) e)

-- a declaration
line_bytes : (name arguments target : List ℕ) →
    codes "(declare-fun " ++ (name ++ (codes " (" ++ (arguments ++ (codes ") " ++ (target ++ (41 ∷ 10 ∷ []))))))
    ≡ (40 ∷ ((codes "declare-fun" ++ (32 ∷ (name ++ (32 ∷ ((40 ∷ (arguments ++ 41 ∷ [])) ++ (32 ∷ (target ++ []))))))) ++ 41 ∷ [])) ++ 10 ∷ []
line_bytes name arguments target = simp (append_assoc, append-nil)

module _ (n : Naming) where
  sort_same : (s : Sort) → sort_text n.sorts s ≡ printed (sort_item (asked_sort n s))
  sort_same Sort.Bool = refl
  sort_same Sort.Int = refl
  sort_same (Sort.Declared k) = refl

  more_arguments : (k : ℕ) (ss : List Sort) →
      flat_map (part_text n.sorts) (each_part argument_parts (suc k) ss) ≡ printed_all (32 ∷ []) (items_of (map sort_item (map (asked_sort n) ss)))
  more_arguments k [] = refl
  more_arguments k (s ∷ ss) =
      ap (λ b. 32 ∷ (b ++ flat_map (part_text n.sorts) (each_part argument_parts (suc (suc k)) ss))) (sort_same s)
      ∙ ap (λ b. 32 ∷ (printed (sort_item (asked_sort n s)) ++ b)) (more_arguments (suc k) ss)

  arguments : (ss : List Sort) →
      flat_map (part_text n.sorts) (each_part argument_parts 0 ss) ≡ printed_all [] (items_of (map sort_item (map (asked_sort n) ss)))
  arguments [] = refl
  arguments (s ∷ ss) =
      ap (λ b. b ++ flat_map (part_text n.sorts) (each_part argument_parts 1 ss)) (sort_same s)
      ∙ ap (λ b. printed (sort_item (asked_sort n s)) ++ b) (more_arguments 0 ss)

  abbrev declared_item : List ℕ → List Sort → Sort → Item
  declared_item name ss t =
      declared_function_item (record { name = name; arguments = map (asked_sort n) ss; target = asked_sort n t })

  line_text : (name : List ℕ) (ss : List Sort) (t : Sort) →
      flat_map (part_text n.sorts) (line_parts name ss t) ≡ printed (declared_item name ss t) ++ 10 ∷ []
  line_text name ss t =
      let tail = bytes (codes ") ") ∷ sort t ∷ bytes (41 ∷ 10 ∷ []) ∷ [] in
      let inside = printed_all [] (items_of (map sort_item (map (asked_sort n) ss))) in
      let target = printed (sort_item (asked_sort n t)) in
      let behind : flat_map (part_text n.sorts) (each_part argument_parts 0 ss ++ tail) ≡ inside ++ (codes ") " ++ (target ++ (41 ∷ 10 ∷ []))) =
      flat_map-append (part_text n.sorts) (each_part argument_parts 0 ss) tail
      ∙ (ap (λ b. b ++ flat_map (part_text n.sorts) tail) (arguments ss)
      ∙ ap (λ b. inside ++ (codes ") " ++ (b ++ (41 ∷ 10 ∷ [])))) (sort_same t)) in
      ap (λ b. codes "(declare-fun " ++ (name ++ (codes " (" ++ b))) behind ∙ line_bytes name inside target

  one_line : (i : Item) (rest : List ℕ) → (printed i ++ 10 ∷ []) ++ rest ≡ printed i ++ 10 ∷ rest
  one_line i rest = append_assoc (printed i) (10 ∷ []) rest

  functions_text : (seen fs : List Fun) (k : ℕ) → k ≡ length seen → n.functions ≡ seen ++ fs → AreFresh fun_eq seen fs →
      flat_map (part_text n.sorts) (each_part function_parts k fs)
      ≡ printed_lines (items_of (map (λ f. declared_function_item (asked_function n f)) fs))
  functions_text seen [] k e whole fresh = refl
  functions_text seen (f ∷ fs) k e whole fresh =
      let place : place_among fun_eq f n.functions ≡ k =
      ap (place_among fun_eq f) whole ∙ (place_last fun_eq (λ f. (fun_eq_decides f f).1 refl) f seen fs fresh.0 ∙ sym e) in
      let rest = printed_lines (items_of (map (λ f. declared_function_item (asked_function n f)) fs)) in
      flat_map-append (part_text n.sorts) (function_parts k f) (each_part function_parts (suc k) fs)
      ∙ (ap (λ b. b ++ flat_map (part_text n.sorts) (each_part function_parts (suc k) fs)) (line_text (name_with (codes "f") k) f.arguments f.target)
      ∙ (ap (λ j. (printed (declared_item (name_with (codes "f") j) f.arguments f.target) ++ 10 ∷ [])
      ++ flat_map (part_text n.sorts) (each_part function_parts (suc k) fs)) (sym place)
      ∙ (ap (λ b. (printed (declared_function_item (asked_function n f)) ++ 10 ∷ []) ++ b)
      (functions_text (seen ++ f ∷ []) fs (suc k) (omega (arith, e, length-append seen (f ∷ []))) (whole ∙ sym (append_assoc seen (f ∷ []) fs)) fresh.1)
      ∙ one_line (declared_function_item (asked_function n f)) rest)))

  module _ (is_free : Var → Bool) where
    constants_text : (seen xs : List Var) (k : ℕ) → k ≡ length seen → n.variables ≡ seen ++ xs → AreFresh var_eq seen xs →
        flat_map (part_text n.sorts) (each_part (constant_parts is_free) k xs)
        ≡ printed_lines (items_of (map (λ x. declared_function_item (constant_for n x)) (filter is_free xs)))
    constants_text seen [] k e whole fresh = refl
    constants_text seen (x ∷ xs) k e whole fresh =
        go (is_free x)
        (constants_text (seen ++ x ∷ []) xs (suc k) (omega (arith, e, length-append seen (x ∷ []))) (whole ∙ sym (append_assoc seen (x ∷ []) xs)) fresh.1)
      where
        place : place_among var_eq x n.variables ≡ k
        place = ap (place_among var_eq x) whole ∙ (place_last var_eq (λ x. (var_eq_decides x x).1 refl) x seen xs fresh.0 ∙ sym e)

        others : List Part
        others = each_part (constant_parts is_free) (suc k) xs

        rest : List ℕ
        rest = printed_lines (items_of (map (λ x. declared_function_item (constant_for n x)) (filter is_free xs)))

        go : (b : Bool) → flat_map (part_text n.sorts) others ≡ rest →
            flat_map (part_text n.sorts) ((if b then line_parts (name_with (codes "v") k) [] x.sort else []) ++ others)
            ≡ printed_lines (items_of (map (λ x. declared_function_item (constant_for n x)) (if b then x ∷ filter is_free xs else filter is_free xs)))
        go true h =
            flat_map-append (part_text n.sorts) (line_parts (name_with (codes "v") k) [] x.sort) others
            ∙ (ap (λ b. b ++ flat_map (part_text n.sorts) others) (line_text (name_with (codes "v") k) [] x.sort)
            ∙ (ap (λ j. (printed (declared_item (name_with (codes "v") j) [] x.sort) ++ 10 ∷ []) ++ flat_map (part_text n.sorts) others) (sym place)
            ∙ (ap (λ b. (printed (declared_function_item (constant_for n x)) ++ 10 ∷ []) ++ b) h
            ∙ one_line (declared_function_item (constant_for n x)) rest)))
        go false h = h

-- ALL LINES

lines_joined : (is js : List Item) → printed_lines (items_of (is ++ js)) ≡ printed_lines (items_of is) ++ printed_lines (items_of js)
lines_joined [] js = refl
lines_joined (i ∷ is) js =
    ap (λ b. printed i ++ 10 ∷ b) (lines_joined is js) ∙ sym (append_assoc (printed i) (10 ∷ printed_lines (items_of is)) (printed_lines (items_of js)))

line_count : (is js : List Item) →
    length (printed_lines (items_of (is ++ js))) ≡ length (printed_lines (items_of is)) + length (printed_lines (items_of js))
line_count is js = ap length (lines_joined is js) ∙ length-append (printed_lines (items_of is)) (printed_lines (items_of js))

sort_bytes : (name rest : List ℕ) →
    (40 ∷ ((codes "declare-sort" ++ (32 ∷ (name ++ (32 ∷ (codes "0" ++ []))))) ++ 41 ∷ [])) ++ 10 ∷ rest
    ≡ (codes "(declare-sort " ++ (name ++ (codes " 0)" ++ 10 ∷ []))) ++ rest
sort_bytes name rest = simp (append_assoc, append-nil)

sorts_text : (k : ℕ) (ns : List ℕ) → sort_lines k ++ printed_lines (items_of (declared_sort_items k ns)) ≡ sort_lines (k + length ns)
sorts_text k [] = append-nil (sort_lines k) ∙ ap sort_lines (let e : k ≡ k + 0 = omega arith in e)
sorts_text k (m ∷ ns) =
    let rest = printed_lines (items_of (declared_sort_items (k + 1) ns)) in
    let next : suc k ≡ k + 1 = omega arith in
    let length_is : k + 1 + length ns ≡ k + length (m ∷ ns) = omega arith in
    ap (λ b. sort_lines k ++ b) (sort_bytes (sort_named k) rest)
    ∙ (sym (append_assoc (sort_lines k) (sort_line k) rest)
    ∙ (ap (λ j. sort_lines j ++ rest) next ∙ (sorts_text (k + 1) ns ∙ ap sort_lines length_is)))

abbrev pub empty_declared : Declared
empty_declared = record { text = []; sorts = [] }

module _ (asserted : List Term) where
  abbrev pub is_free : Var → Bool
  is_free x = list_any (var_eq x) (flat_map free_variables asserted)

  abbrev n : Naming
  n = naming_of asserted

  abbrev functions : List Part
  functions = each_part function_parts 0 n.functions

  abbrev constants : List Part
  constants = each_part (constant_parts is_free) 0 n.variables

  all_sorts : flat_map part_sorts (functions ++ constants) ≡ flat_map declared_number (declared_sorts n.functions n.constants)
  all_sorts =
      flat_map-append part_sorts functions constants
      ∙ (ap (λ ns. ns ++ flat_map part_sorts constants) (function_sorts 0 n.functions)
      ∙ (ap (λ ns. flat_map declared_number (flat_map (λ f. f.arguments ++ f.target ∷ []) n.functions) ++ ns) (constant_sorts is_free 0 n.variables)
      ∙ sym (flat_map-append declared_number (flat_map (λ f. f.arguments ++ f.target ∷ []) n.functions) (map (λ x. x.sort) n.constants))))

  all_text : flat_map (part_text n.sorts) (functions ++ constants)
      ≡ printed_lines (items_of (map (λ f. declared_function_item (asked_function n f)) n.functions))
      ++ printed_lines (items_of (map (λ x. declared_function_item (constant_for n x)) n.constants))
  all_text =
      let fs = firsts_fresh fun_eq [] (flat_map functions_in asserted) in
      let xs = firsts_fresh var_eq [] (flat_map variables_in asserted) in
      let first = functions_text n [] n.functions 0 refl refl (subst (AreFresh fun_eq []) (sym fs.is) fs.fresh) in
      let second = constants_text n is_free [] n.variables 0 refl refl (subst (AreFresh var_eq []) (sym xs.is) xs.fresh) in
      flat_map-append (part_text n.sorts) functions constants
      ∙ (ap (λ b. b ++ flat_map (part_text n.sorts) constants) first
      ∙ ap (λ b. printed_lines (items_of (map (λ f. declared_function_item (asked_function n f)) n.functions)) ++ b) second)

  -- what is declared, with the assert lines, is the question
  pub whole_text : (a b d : Declared) (asserts : List ℕ) → a ≡ empty_declared → b ≡ after_parts a functions → d ≡ after_parts b constants →
      asserts ≡ asserts_text asserted → sort_lines (length d.sorts) ++ (d.text ++ (asserts ++ check_line)) ≡ question_text asserted
  whole_text a b d asserts start f c e =
      let is : d ≡ after_parts empty_declared (functions ++ constants) =
      two empty_declared b d functions constants (f ∙ ap (λ x. after_parts x functions) start) c in
      let sorts : d.sorts ≡ n.sorts =
      ap (λ x. x.sorts) is ∙ (sorts_after empty_declared (functions ++ constants) ∙ ap (firsts nat_eq) all_sorts) in
      let text : d.text ≡ flat_map (part_text n.sorts) (functions ++ constants) =
      ap (λ x. x.text) is ∙ text_after n.sorts empty_declared (functions ++ constants) (ap (firsts nat_eq) all_sorts) in
      let ss = declared_sort_items 0 n.sorts in
      let fs = map (λ f. declared_function_item (asked_function n f)) n.functions in
      let cs = map (λ x. declared_function_item (constant_for n x)) n.constants in
      let ts = map (λ t. assert_item (asked_term n [] t)) asserted in
      let check = command_item (codes "check-sat") [] ∷ [] in
      let last : printed_lines (items_of (ts ++ check)) ≡ asserts_text asserted ++ check_line = lines_joined ts check in
      let behind : printed_lines (items_of (fs ++ (cs ++ (ts ++ check)))) ≡ d.text ++ (asserts ++ check_line) =
      lines_joined fs (cs ++ (ts ++ check))
      ∙ (ap (λ x. printed_lines (items_of fs) ++ x) (lines_joined cs (ts ++ check))
      ∙ (ap (λ x. printed_lines (items_of fs) ++ (printed_lines (items_of cs) ++ x)) last
      ∙ (sym (append_assoc (printed_lines (items_of fs)) (printed_lines (items_of cs)) (asserts_text asserted ++ check_line))
      ∙ (ap (λ x. x ++ (asserts_text asserted ++ check_line)) (sym (text ∙ all_text))
      ∙ ap (λ x. d.text ++ (x ++ check_line)) (sym e))))) in
      let from_none : length n.sorts ≡ 0 + length n.sorts = omega arith in
      ap (λ ns. sort_lines (length ns) ++ (d.text ++ (asserts ++ check_line))) sorts
      ∙ (ap (λ b. b ++ (d.text ++ (asserts ++ check_line))) (ap sort_lines from_none ∙ sym (sorts_text 0 n.sorts))
      ∙ (ap (λ b. printed_lines (items_of ss) ++ b) (sym behind)
      ∙ sym (lines_joined ss (fs ++ (cs ++ (ts ++ check))))))

  -- where the assert lines are too long, so is the question
  pub asserts_too_long : most_bytes < length (asserts_text asserted) → within (question_text asserted) ≡ None
  asserts_too_long long =
      let ss = declared_sort_items 0 n.sorts in
      let fs = map (λ f. declared_function_item (asked_function n f)) n.functions in
      let cs = map (λ x. declared_function_item (constant_for n x)) n.constants in
      let ts = map (λ t. assert_item (asked_term n [] t)) asserted in
      let check = command_item (codes "check-sat") [] ∷ [] in
      let longer : most_bytes < length (question_text asserted) =
      omega (arith, long, line_count ss (fs ++ (cs ++ (ts ++ check))), line_count fs (cs ++ (ts ++ check)), line_count cs (ts ++ check), line_count ts check) in
      let e : nat_le (length (question_text asserted)) most_bytes ≡ false = grind (arith, nat_tests, longer) in
      rw e refl
