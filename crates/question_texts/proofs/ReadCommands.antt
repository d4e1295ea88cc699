-- Private. The script that the commands of a question lead to, where they are read at all.
use Rattle.std.proofs.Common.{◌≡◌, refl, sym, ap, subst, ◌∙◌, ℕ, ◌+◌, ◌<◌, ◌^◌, ◌==◌, Bool, true, false, ◌||◌, List, [], ◌∷◌, ◌++◌, codes}
use Rattle.std.proofs.Common.{length, map, None, if◌then◌else◌}
use Rattle.std.specs.Prelude.{Result, Ok, Err, ⊤}
use Rattle.std.specs.List.{AllByRecursion}
use Rattle.sexpr.specs.declared.causes.Cause.TheVariants.{Repeated, LeftOut, SortMismatch}
use Rattle.sexpr.specs.declared.causes.Refusal.{Refusal}
use Rattle.sexpr.specs.Items.{Item, word, list, place_of}
use Rattle.sexpr.specs.Printed.{placed, placed_all, placed_lines, printed}
use Rattle.sexpr.specs.Words.{is_symbol}
use Rattle.term_model.specs.declared.symbols.Sort.{Sort}
use Rattle.term_model.specs.Sorts.{IsOf}
use Rattle.term_model.specs.Terms.{sort_eq, Fun, Term}
use Rattle.problem_text.specs.Alike.{SayTheSame}
use Rattle.problem_text.specs.Commands.{ScriptCommand, declare_fun, assert_term, script_command_of}
use Rattle.problem_text.specs.Limits.{AreLow, limited}
use Rattle.problem_text.specs.Names.{Place}
use Rattle.problem_text.specs.Outcomes.{Outcome, done, refuse, given, and_then, going_on}
use Rattle.problem_text.specs.PrintedTerms.{term_item, IsPrintable}
use Rattle.problem_text.specs.Problems.{script_performed, script_commands, goes_on_after}
use Rattle.problem_text.specs.Scripts.{Script, is_taken, with_name, with_sort, with_function, with_assertion}
use Rattle.problem_text.specs.Sorts.{sort_from, sorts_from}
use Rattle.problem_text.specs.Terms.{read_term}
use Rattle.problem_text.specs.TypedTerms.{Typed}
use Rattle.problem_text.specs.Words.{is_among, is_built_in}
use Rattle.problem_text.proofs.OtherLimits.{term_within}
use Rattle.problem_text.proofs.PrintedTerms.{term_read}
use Rattle.text_items.specs.ItemShapes.{Name}
use Rattle.hole_fillers.specs.Questions.{sort_named, sort_item, items_of, command_item, declared_function_item, assert_item}
use Rattle.question_texts.proofs.ReadSorts.{ok, ok_is, names_from, IsSmall, sort_read, sorts_read}

-- a reading of commands that is done
abbrev pub ends_as : Script → Outcome Script ⊤
ends_as u = done tt u

-- The items stand at some place, and from this script on they lead to that one.
abbrev pub Leads : List Item → ℕ → List ℕ → Script → Script → Type 0
Leads is at before s u = script_commands false (placed_lines at before (items_of is)) s ≡ ends_as u

-- WHERE NOTHING IS CHECKED YET

unchecked : (is : List Item) (i : Item) (at : ℕ) (before : List ℕ) (s u : Script) → s.is_checked ≡ false → Leads (i ∷ is) at before s u →
    going_on (script_command_of false (placed (at + length before) i)) s
    (λ c here. goes_on_after false c here (script_commands false (placed_lines (at + length before + length (printed i)) (10 ∷ []) (items_of is))))
    ≡ ends_as u
unfolding script_commands
unchecked is i at before s u fresh h =
    subst (λ b. going_on (script_command_of b (placed (at + length before) i)) s
    (λ c here. goes_on_after false c here (script_commands false (placed_lines (at + length before + length (printed i)) (10 ∷ []) (items_of is))))
    ≡ ends_as u) fresh h

-- SORTS

sort_added : (b : Bool) (n : Name) (place : ℕ) (s u : Script) (next : Script → Outcome Script ⊤) →
    and_then (if b then refuse Repeated n.place s else if 0 == 0 then ends_as (with_sort n.name s) else refuse LeftOut place s) (λ _ after. next after)
    ≡ ends_as u → next (with_sort n.name s) ≡ ends_as u
sort_added true n place s u next h = absurd (let e = ap (λ o. o.result) h in cc)
sort_added false n place s u next h = h

abbrev pub sort_command : ℕ → Item
sort_command k = command_item (codes "declare-sort") (word 0 (sort_named k) ∷ word 0 (codes "0") ∷ [])

-- the place of its name
abbrev sort_place : ℕ → ℕ
sort_place at = at + 1 + 0 + length (codes "declare-sort") + 1

pub sort_step : (k : ℕ) (is : List Item) (at : ℕ) (before : List ℕ) (s u : Script) → s.is_checked ≡ false →
    Leads (sort_command k ∷ is) at before s u →
    Leads is (at + length before + length (printed (sort_command k))) (10 ∷ []) (with_sort (sort_named k) s) u
unfolding script_command_of script_performed
sort_step k is at before s u fresh h =
    sort_added (is_built_in (sort_named k) || is_among s.sorts (sort_named k)) (record { place = sort_place (at + length before); name = sort_named k })
    (sort_place (at + length before) + length (sort_named k) + 1) s u
    (script_commands false (placed_lines (at + length before + length (printed (sort_command k))) (10 ∷ []) (items_of is)))
    (unchecked is (sort_command k) at before s u fresh h)

-- FUNCTIONS

function_added : (b : Bool) (n : Name) (r : Result (List Sort) Refusal) (q : Result Sort Refusal) (s u : Script) (next : Script → Outcome Script ⊤)
    (f : Fun) → ((ss : List Sort) → r ≡ Ok ss → ss ≡ f.arguments) → ((t : Sort) → q ≡ Ok t → t ≡ f.target) →
    and_then (if b then refuse Repeated n.place s
    else and_then (given r s) (λ ss after. and_then (given q after) (λ t last.
    ends_as (with_function (record { name = n.name; arguments = ss; target = t }) (with_name n.name last))))) (λ _ after. next after)
    ≡ ends_as u → next (with_function (record { name = n.name; arguments = f.arguments; target = f.target }) (with_name n.name s)) ≡ ends_as u
function_added true n r q s u next f first second h = absurd (let e = ap (λ o. o.result) h in cc)
function_added false n (Err refusal) q s u next f first second h = absurd (let e = ap (λ o. o.result) h in cc)
function_added false n (Ok ss) (Err refusal) s u next f first second h = absurd (let e = ap (λ o. o.result) h in cc)
function_added false n (Ok ss) (Ok t) s u next f first second h =
    subst (λ t. next (with_function (record { name = n.name; arguments = f.arguments; target = t }) (with_name n.name s)) ≡ ends_as u) (second t refl)
    (subst (λ ss. next (with_function (record { name = n.name; arguments = ss; target = t }) (with_name n.name s)) ≡ ends_as u) (first ss refl) h)

-- a name that is spelled as a word, and sorts with small numbers
pub record IsPlainFunction (f : Fun) : Type 0 where
  pub named : is_symbol f.name ≡ true
  pub arguments : AllByRecursion IsSmall f.arguments
  pub target : IsSmall f.target

-- the places of its name, of its arguments and of its target
abbrev name_place : ℕ → ℕ
name_place at = at + 1 + 0 + length (codes "declare-fun") + 1

abbrev arguments_place : Fun → ℕ → ℕ
arguments_place f at = name_place at + length f.name + 1

abbrev target_place : Fun → ℕ → ℕ
target_place f at = arguments_place f at + length (printed (list 0 (items_of (map sort_item f.arguments)))) + 1

abbrev command_of_function : Fun → ℕ → ScriptCommand
command_of_function f at =
    declare_fun (record { place = name_place at; name = f.name }) (placed_all (arguments_place f at + 1) [] (items_of (map sort_item f.arguments)))
    (placed (target_place f at) (sort_item f.target))

function_command : (f : Fun) (at : ℕ) → is_symbol f.name ≡ true →
    script_command_of false (placed at (declared_function_item f)) ≡ Ok (command_of_function f at)
unfolding script_command_of
function_command f at e = rw e refl

pub function_step : (m : ℕ) (few : m < 2 ^ 64) (f : Fun) (is : List Item) (at : ℕ) (before : List ℕ) (s u : Script) → IsPlainFunction f →
    s.is_checked ≡ false → s.sorts ≡ names_from 0 m → Leads (declared_function_item f ∷ is) at before s u →
    Leads is (at + length before + length (printed (declared_function_item f))) (10 ∷ []) (with_function f (with_name f.name s)) u
unfolding script_performed
function_step m few f is at before s u plain fresh sorts h =
    let here : ℕ = at + length before in
    let next : Script → Outcome Script ⊤ =
    script_commands false (placed_lines (at + length before + length (printed (declared_function_item f))) (10 ∷ []) (items_of is)) in
    let e = subst (λ r. going_on r s (λ c here. goes_on_after false c here next) ≡ ends_as u) (function_command f here plain.named)
    (unchecked is (declared_function_item f) at before s u fresh h) in
    let a : ℕ = arguments_place f here + 1 in
    let b : ℕ = target_place f here in
    function_added (is_taken s f.name) (record { place = name_place here; name = f.name })
    (sorts_from s.sorts (placed_all a [] (items_of (map sort_item f.arguments)))) (sort_from s.sorts (placed b (sort_item f.target))) s u next f
    (λ ss r. sorts_read m few a [] f.arguments ss plain.arguments
    (subst (λ names. sorts_from names (placed_all a [] (items_of (map sort_item f.arguments))) ≡ ok ss) sorts r))
    (λ t r. sort_read m few b f.target t plain.target (subst (λ names. sort_from names (placed b (sort_item f.target)) ≡ ok t) sorts r))
    e

-- ASSERTIONS

all_low : (ts : List Term) → AreLow None ts
all_low [] = tt
all_low (t ∷ ts) = (refl, all_low ts)

-- where assertions are read, but for the limit of heights
abbrev pub top_place : Place
top_place = record { scope = []; settings = record { replaces_lets = false; limit = None } }

-- the script behind a term that was read
pub record IsBehind (t : Term) (i : Item) (s after : Script) : Type 0 where
  pub same : SayTheSame s after
  pub one : (x : Typed) (last : Script) → read_term i (record { scope = []; settings = limited false }) s ≡ done x last →
      (x ≡ record { tree = t; sort = Sort.Bool }) × (last ≡ after)

behind : (t : Term) (at : ℕ) (s : Script) → IsOf t Sort.Bool → IsPrintable top_place s t → (after : Script) × IsBehind t (placed at (term_item t)) s after
behind t at s of printable =
    let r = term_read t Sort.Bool top_place s at refl of printable in (
      r.after,
      record {
        same = r.same;
        one = λ x last e.
            let both = sym (term_within None (placed at (term_item t)) (record { scope = []; settings = limited false }) s last x e (all_low last.terms)) ∙ r.read in
            (ok_is x (record { tree = t; sort = Sort.Bool }) (ap (λ o. o.result) both), ap (λ o. o.state) both);
      },
    )

term_added : (r : Result Typed Refusal) (st : Script) (place : ℕ) (t : Term) (s u after : Script) (next : Script → Outcome Script ⊤) →
    ((x : Typed) (last : Script) → record { result = r; state = st } ≡ done x last → (x ≡ record { tree = t; sort = Sort.Bool }) × (last ≡ after)) →
    and_then (and_then (record { result = r; state = st })
    (λ x last. if sort_eq x.sort Sort.Bool then ends_as (with_assertion x.tree last) else refuse SortMismatch place last)) (λ _ last. next last)
    ≡ ends_as u → next (with_assertion t after) ≡ ends_as u
term_added (Err refusal) st place t s u after next one h = absurd (let e = ap (λ o. o.result) h in cc)
term_added (Ok x) st place t s u after next one h =
    let both = one x st refl in
    let same : and_then (if sort_eq x.sort Sort.Bool then ends_as (with_assertion x.tree st) else refuse SortMismatch place st) (λ _ last. next last)
    ≡ next (with_assertion t after) =
    ap (λ (y : Typed). and_then (if sort_eq y.sort Sort.Bool then ends_as (with_assertion y.tree st) else refuse SortMismatch place st)
    (λ _ last. next last)) both.0
    ∙ ap (λ (l : Script). next (with_assertion t l)) both.1 in
    sym same ∙ h

assert_command : (t : Term) (at : ℕ) → (k : ℕ) × (script_command_of false (placed at (assert_item t)) ≡ Ok (assert_term (placed k (term_item t))))
unfolding script_command_of
assert_command t at = (_, refl)

-- the script behind an assertion
pub record Asserts (t : Term) (is : List Item) (s u : Script) : Type 0 where
  pub next : ℕ
  pub last : Script
  pub leads : Leads is next (10 ∷ []) last u
  pub assertions : last.assertions ≡ s.assertions ++ t ∷ []
  pub functions : last.functions ≡ s.functions
  pub macros : last.macros ≡ s.macros
  pub named : last.named ≡ s.named
  pub sorts : last.sorts ≡ s.sorts
  pub fresh : last.is_checked ≡ s.is_checked

pub assert_step : (t : Term) (is : List Item) (at : ℕ) (before : List ℕ) (s u : Script) → s.is_checked ≡ false → IsOf t Sort.Bool →
    IsPrintable top_place s t → Leads (assert_item t ∷ is) at before s u → Asserts t is s u
unfolding script_performed
assert_step t is at before s u fresh of printable h =
    let command = assert_command t (at + length before) in
    let next : Script → Outcome Script ⊤ =
    script_commands false (placed_lines (at + length before + length (printed (assert_item t))) (10 ∷ []) (items_of is)) in
    let e = subst (λ r. going_on r s (λ c here. goes_on_after false c here next) ≡ ends_as u) command.1
    (unchecked is (assert_item t) at before s u fresh h) in
    let r = behind t command.0 s of printable in
    let o = read_term (placed command.0 (term_item t)) (record { scope = []; settings = limited false }) s in
    record {
      next = at + length before + length (printed (assert_item t));
      last = with_assertion t r.0;
      leads = term_added o.result o.state (place_of (placed command.0 (term_item t))) t s u r.0 next r.1.one e;
      assertions = ap (λ x. x.assertions ++ t ∷ []) (sym r.1.same);
      functions = ap (λ x. x.functions) (sym r.1.same);
      macros = ap (λ x. x.macros) (sym r.1.same);
      named = ap (λ x. x.named) (sym r.1.same);
      sorts = ap (λ x. x.sorts) (sym r.1.same);
      fresh = ap (λ x. x.is_checked) (sym r.1.same);
    }

-- THE CHECK, AND THE END

pub check_step : (at : ℕ) (before : List ℕ) (s u : Script) → s.is_checked ≡ false → Leads (command_item (codes "check-sat") [] ∷ []) at before s u →
    s.assertions ≡ u.assertions
unfolding script_commands script_command_of script_performed
check_step at before s u fresh h = ap (λ o. o.state.assertions) (unchecked [] (command_item (codes "check-sat") []) at before s u fresh h)
