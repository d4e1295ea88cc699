-- Private. Each assertion of a script is one of the terms that were read.
use Rattle.std.proofs.Common.{◌≡◌, ℕ, ◌==◌, Bool, true, false, ◌||◌, List, [], ◌∷◌, ◌++◌, map, Option, Some}
use Rattle.std.proofs.Common.{None, Ok, Err, Result, IfOk, if◌then◌else◌, Contains, subst}
use Rattle.std.specs.Prelude.{⊤}
use Rattle.std.specs.List.{AllByRecursion}
use Rattle.std.proofs.lemmas.List.Elements.{Contains-append_left, Contains-append_right}
use Rattle.sexpr.specs.declared.causes.Cause.{Cause}
use Rattle.sexpr.specs.declared.causes.Cause.TheVariants.{Repeated, LeftOut, SortMismatch, TooHigh}
use Rattle.sexpr.specs.declared.causes.Refusal.{Refusal}
use Rattle.sexpr.specs.Items.{Item, Items, no_items, item, place_of}
use Rattle.term_model.specs.declared.symbols.Sort.{Sort}
use Rattle.term_model.specs.Heights.{height}
use Rattle.term_model.specs.Terms.{Term, numeral, sort_eq}
use Rattle.term_model.proofs.Lists.{all_at_end, contains_head}
use Rattle.text_items.specs.ItemShapes.{Name}
use Rattle.problem_text.specs.Commands.{ScriptCommand, set_logic, without_effect, declare_sort, declare_fun, define_fun, assert_term, check_sat, exit}
use Rattle.problem_text.specs.Commands.{script_command_of}
use Rattle.problem_text.specs.Forms.{Form, faulty, number, symbol, application, let_form, annotated, form_of}
use Rattle.problem_text.specs.Limits.{limited, is_low}
use Rattle.problem_text.specs.Names.{Place, Meaning, meaning_of, meaning_applied, refusal_of, place_inside, let_term, itself}
use Rattle.problem_text.specs.Outcomes.{Outcome, done, refuse, given, going_on, and_then}
use Rattle.problem_text.specs.Problems.{logic_set, sort_declared, function_declared, function_defined, term_asserted, script_performed, ends, script_commands}
use Rattle.problem_text.specs.Problems.{StandsForProblem}
use Rattle.problem_text.specs.Scripts.{Script, empty_script, is_taken, with_name, with_named, with_term, with_assertion}
use Rattle.problem_text.specs.Sorts.{sort_from, sorts_from, parameters_from}
use Rattle.problem_text.specs.Terms.{settled, with_meaning, with_names, term_from, terms_from, bounds_from, read_term}
use Rattle.problem_text.specs.TypedTerms.{Typed}
use Rattle.problem_text.specs.Words.{is_among, is_built_in, logics}
use Rattle.problem_text.proofs.Growing.{kept_term}

-- what is so of a result that is no fault
abbrev Gives : {A : Type 0} → (A → Script → Type 0) → Outcome Script A → Type 0
Gives Q o = IfOk o.result (λ a. Q a o.state)

gives-going_on : {A B : Type 0} (Q : A → Script → Type 0) (R : B → Script → Type 0) (r : Result A Refusal) (s : Script) (next : A → Script
    → Outcome Script B)
    → IfOk r (λ a. Q a s) → ((a : A) → Q a s → Gives R (next a s)) → Gives R (going_on r s next)
gives-going_on Q R (Ok a) s next h k = k a h
gives-going_on Q R (Err refusal) s next h k = tt

gives-and_then : {A B : Type 0} (Q : A → Script → Type 0) (R : B → Script → Type 0) (o : Outcome Script A) (next : A → Script → Outcome Script B)
    → Gives Q o → ((a : A) (s : Script) → Q a s → Gives R (next a s)) → Gives R (and_then o next)
gives-and_then Q R o next h k = gives-going_on Q R o.result o.state next h (λ a q. k a o.state q)

gives-unless : {A : Type 0} (Q : A → Script → Type 0) (b : Bool) (cause : Cause) (place : ℕ) (s : Script) (o : Outcome Script A) → Gives Q o
    → Gives Q (if b then refuse cause place s else o)
gives-unless Q true cause place s o h = tt
gives-unless Q false cause place s o h = h

gives-where : {A : Type 0} (Q : A → Script → Type 0) (b : Bool) (cause : Cause) (place : ℕ) (s : Script) (o : Outcome Script A) → Gives Q o
    → Gives Q (if b then o else refuse cause place s)
gives-where Q true cause place s o h = h
gives-where Q false cause place s o h = tt

-- nothing is said of what was read
abbrev Anything : {A : Type 0} → A → Script → Type 0
Anything a s = ⊤

any_result : {A : Type 0} (r : Result A Refusal) → IfOk r (λ a. ⊤)
any_result (Ok a) = tt
any_result (Err refusal) = tt

-- A TERM THAT IS READ

abbrev IsThere : Typed → Script → Type 0
IsThere t s = Contains s.terms t.tree

settled-there : (cause : Cause) (limit : Option ℕ) (place : ℕ) (o : Option Typed) (s : Script) → Gives IsThere (settled cause limit place o s)
settled-there cause limit place None s = tt
settled-there cause limit place (Some t) s = go (is_low limit (height t.tree))
  where
    go : (b : Bool) → Gives IsThere (if b then done t (with_term t.tree s) else refuse TooHigh place (with_term t.tree s))
    go true = Contains-append_right s.terms (t.tree ∷ []) t.tree (contains_head t.tree [])
    go false = tt

with_meaning-there : (place : ℕ) (o : Option Meaning) (s : Script) (next : Meaning → Outcome Script Typed)
    → ((m : Meaning) → Gives IsThere (next m)) → Gives IsThere (with_meaning place o s next)
with_meaning-there place None s next k = tt
with_meaning-there place (Some m) s next k = k m

names-there : (t : Typed) (ns : List Name) (s : Script) → IsThere t s → Gives IsThere (with_names t ns s)
names-there t [] s there = there
names-there t (n ∷ ns) s there = gives-unless IsThere (is_taken s n.name) Repeated n.place s _ (names-there t ns _ there)

term-there : (f : Form) (p : Place) (s : Script) → Gives IsThere (term_from f p s)
unfolding term_from
term-there (faulty cause place) p s = tt
term-there (number place n) p s = settled-there SortMismatch p.settings.limit place (Some (record { tree = numeral n; sort = Sort.Int })) s
term-there (symbol n) p s =
    with_meaning-there n.place (meaning_of p s n.name) s _
    (λ m. settled-there SortMismatch p.settings.limit n.place (meaning_applied m []) s)
term-there (application place head fs) p s =
    with_meaning-there head.place (meaning_of p s head.name) s _
    (λ m. gives-and_then Anything IsThere (terms_from fs p s) _ (any_result (terms_from fs p s).result)
    (λ ts after _. settled-there (refusal_of m ts) p.settings.limit place (meaning_applied m ts) after))
term-there (let_form place bs body) p s =
    gives-and_then Anything IsThere (bounds_from bs [] p s) _ (any_result (bounds_from bs [] p s).result)
    (λ bound after _. gives-and_then Anything IsThere (term_from body (place_inside bound p) after) _
    (any_result (term_from body (place_inside bound p) after).result)
    (λ t last _. settled-there SortMismatch p.settings.limit place (Some (let_term p bound t)) last))
term-there (annotated place f names) p s =
    gives-and_then IsThere IsThere (term_from f p s) _ (term-there f p s) (λ t after there. names-there t names after there)

-- ASSERTIONS

abbrev AreRead : Script → Type 0
AreRead s = AllByRecursion (Contains s.terms) s.assertions

all_more : {X : Type 0} (P Q : X → Type 0) → ((x : X) → P x → Q x) → (xs : List X) → AllByRecursion P xs → AllByRecursion Q xs
all_more P Q f [] h = tt
all_more P Q f (x ∷ xs) h = (f x h.0, all_more P Q f xs h.1)

one_more : (t : Term) (s : Script) → AreRead s → AreRead (with_term t s)
one_more t s h =
    all_more (Contains s.terms) (Contains (s.terms ++ t ∷ [])) (λ x there. Contains-append_left s.terms (t ∷ []) x there) s.assertions h

abbrev StayRead : {A : Type 0} → A → Script → Type 0
StayRead a s = AreRead s

given-read : {A : Type 0} (r : Result A Refusal) (s : Script) → AreRead s → Gives StayRead (given r s)
given-read (Ok a) s h = h
given-read (Err refusal) s h = tt

-- a term that is read leaves them read, and is there
abbrev IsReadToo : Typed → Script → Type 0
IsReadToo t s = AreRead s × IsThere t s

term-read : (i : Item) (p : Place) (s : Script) → AreRead s → Gives IsReadToo (read_term i p s)
term-read i p s h =
    both (read_term i p s) (kept_term AreRead one_more (λ name s k. k) (λ n s e k. k) (form_of i) p s h).0 (term-there (form_of i) p s)
  where
    both : (o : Outcome Script Typed) → AreRead o.state → Gives IsThere o → Gives IsReadToo o
    both o k there = go o.result there
      where
        go : (r : Result Typed Refusal) → IfOk r (λ t. IsThere t o.state) → IfOk r (λ t. IsReadToo t o.state)
        go (Ok t) there = (k, there)
        go (Err refusal) there = tt

-- COMMANDS

logic-read : (n : Name) (s : Script) → AreRead s → Gives StayRead (logic_set n s)
logic-read n s h = gives-unless StayRead s.has_logic Repeated n.place s _ (gives-where StayRead (is_among logics n.name) LeftOut n.place s _ h)

sort-read : (n : Name) (place arity : ℕ) (s : Script) → AreRead s → Gives StayRead (sort_declared n place arity s)
sort-read n place arity s h =
    gives-unless StayRead (is_built_in n.name || is_among s.sorts n.name) Repeated n.place s _ (gives-where StayRead (arity == 0) LeftOut place s _ h)

function-read : (n : Name) (arguments : Items) (target : Item) (s : Script) → AreRead s → Gives StayRead (function_declared n arguments target s)
function-read n arguments target s h =
    gives-unless StayRead (is_taken s n.name) Repeated n.place s _
    (gives-and_then StayRead StayRead (given (sorts_from s.sorts arguments) s) _ (given-read (sorts_from s.sorts arguments) s h)
    (λ ss after k. gives-and_then StayRead StayRead (given (sort_from s.sorts target) after) _ (given-read (sort_from s.sorts target) after k)
    (λ t last l. l)))

macro-read : (n : Name) (parameters : Items) (target body : Item) (s : Script) → AreRead s → Gives StayRead (function_defined n parameters target body s)
macro-read n parameters target body s h =
    gives-unless StayRead (is_taken s n.name) Repeated n.place s _
    (gives-and_then StayRead StayRead (given (parameters_from s.sorts [] parameters) (with_name n.name s)) _
    (given-read (parameters_from s.sorts [] parameters) (with_name n.name s) h)
    (λ xs named k. gives-and_then StayRead StayRead (given (sort_from s.sorts target) named) _ (given-read (sort_from s.sorts target) named k)
    (λ sort sorted l. gives-and_then IsReadToo StayRead (read_term body (record { scope = map itself xs; settings = limited true }) sorted) _
    (term-read body (record { scope = map itself xs; settings = limited true }) sorted l)
    (λ t last m. gives-where StayRead (sort_eq t.sort sort) SortMismatch (place_of body) last _ m.0))))

assertion-read : (replaces : Bool) (i : Item) (s : Script) → AreRead s → Gives StayRead (term_asserted replaces i s)
assertion-read replaces i s h =
    gives-and_then IsReadToo StayRead (read_term i (record { scope = []; settings = limited replaces }) s) _
    (term-read i (record { scope = []; settings = limited replaces }) s h)
    (λ t after k. gives-where StayRead (sort_eq t.sort Sort.Bool) SortMismatch (place_of i) after (done tt (with_assertion t.tree after))
    (all_at_end (Contains after.terms) after.assertions t.tree k.0 k.1))

performed-read : (replaces : Bool) (c : ScriptCommand) (s : Script) → AreRead s → Gives StayRead (script_performed replaces c s)
unfolding script_performed
performed-read replaces (set_logic n) s h = logic-read n s h
performed-read replaces without_effect s h = h
performed-read replaces (declare_sort n place arity) s h = sort-read n place arity s h
performed-read replaces (declare_fun n arguments target) s h = function-read n arguments target s h
performed-read replaces (define_fun n parameters target body) s h = macro-read n parameters target body s h
performed-read replaces (assert_term i) s h = assertion-read replaces i s h
performed-read replaces check_sat s h = h
performed-read replaces exit s h = h

next-read : (b replaces : Bool) (c : ScriptCommand) (s : Script) (next : Script → Outcome Script ⊤) → AreRead s
    → ((after : Script) → AreRead after → Gives StayRead (next after))
    → Gives StayRead (if b then done tt s else and_then (script_performed replaces c s) (λ _ after. next after))
next-read true replaces c s next h k = h
next-read false replaces c s next h k =
    gives-and_then StayRead StayRead (script_performed replaces c s) (λ _ after. next after) (performed-read replaces c s h) (λ _ after l. k after l)

commands-read : (items : Items) (replaces : Bool) (s : Script) → AreRead s → Gives StayRead (script_commands replaces items s)
unfolding script_commands
commands-read no_items replaces s h = h
commands-read (item i rest) replaces s h =
    gives-going_on Anything StayRead (script_command_of s.is_checked i) s _ (any_result (script_command_of s.is_checked i))
    (λ c _. next-read (ends c) replaces c s (script_commands replaces rest) h (λ after k. commands-read rest replaces after k))

pub assertions_read : (source : List ℕ) (replaces : Bool) (s : Script) → StandsForProblem source replaces s → AreRead s
assertions_read source replaces s h = subst (Gives StayRead) h.read (commands-read h.items replaces empty_script tt)
