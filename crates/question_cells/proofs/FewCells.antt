-- The commands of a text without definitions add few cells.
use Rattle.std.proofs.Common.{◌≡◌, ℕ, suc, ◌+◌, ◌<◌, ◌≤◌, ◌==◌, Bool, true, false, ◌||◌, List, [], ◌∷◌, length, Option, Some, None, Ok, Err, Result, IfOk}
use Rattle.std.proofs.Common.{codes, bytes_eq, if◌then◌else◌, refl, subst, arith, length-append}
use Rattle.std.specs.Prelude.{⊤}
use Rattle.std.specs.Option.{option_map_or}
use Rattle.sexpr.specs.declared.causes.Cause.{Cause}
use Rattle.sexpr.specs.declared.causes.Cause.TheVariants.{Repeated, LeftOut, SortMismatch, BadCommand, UnknownCommand}
use Rattle.sexpr.specs.declared.causes.Refusal.{Refusal}
use Rattle.sexpr.specs.declared.lexing.Token.{Token}
use Rattle.sexpr.specs.Grammar.{IsSpelledNext}
use Rattle.sexpr.specs.Items.{Item, word, quoted, string, list, Items, no_items, item, place_of, symbol_name}
use Rattle.sexpr.specs.Tokens.{next_token}
use Rattle.sexpr.specs.Words.{is_symbol}
use Rattle.term_model.specs.declared.symbols.Sort.{Sort}
use Rattle.term_model.specs.Terms.{sort_eq}
use Rattle.text_items.specs.ItemShapes.{Name, name_at, excess, items_of}
use Rattle.problem_text.specs.Words.{is_among, is_built_in, logics, left_out_commands}
use Rattle.problem_text.specs.Commands.{ScriptCommand, set_logic, without_effect, declare_sort, declare_fun, define_fun, assert_term, check_sat, exit, refused}
use Rattle.problem_text.specs.Commands.{shaped, set_logic_shape, attribute_shape, declare_sort_shape, declare_fun_shape, declare_const_shape, assert_shape}
use Rattle.problem_text.specs.Commands.{script_command_named, headed_script_command, script_command_of}
use Rattle.problem_text.specs.Forms.{form_of}
use Rattle.problem_text.specs.Outcomes.{Outcome, done, refuse, given, and_then}
use Rattle.problem_text.specs.Scripts.{Script, empty_script, is_taken, with_sort, with_assertion}
use Rattle.problem_text.specs.Limits.{limited}
use Rattle.problem_text.specs.Names.{Place}
use Rattle.problem_text.specs.Sorts.{sort_from, sorts_from}
use Rattle.problem_text.specs.Terms.{read_term}
use Rattle.problem_text.specs.TypedTerms.{Typed}
use Rattle.problem_text.proofs.Growing.{kept_term}
use Rattle.problem_text.specs.Problems.{logic_set, sort_declared, function_declared, term_asserted, script_performed, ends, script_commands, StandsForProblem}
use Rattle.question_cells.specs.Definitions.{defining_words, defines_in, HasDefinitions}
use Rattle.question_cells.specs.SymbolTrees.{SymbolTree, HaveFewCells}
use Rattle.question_cells.proofs.Plain.{IsPlain, ArePlain, tokens_in, tokens_of, some_token, or_left, tells_text}
use Rattle.question_cells.proofs.PlainForms.{weight, form_fits}
use Rattle.question_cells.proofs.ReadCells.{Adds, AreAmong, Gives, gives-and_then, gives-unless, gives-going_on, gives-more, term-adds, HasTerm}
use Rattle.question_cells.proofs.TokenCounts.{few_tokens}

-- a command that defines no function, and asserts a term of so many tokens at most
abbrev IsPlainCommand : ℕ → ScriptCommand → Type 0
IsPlainCommand n (set_logic name) = ⊤
IsPlainCommand n without_effect = ⊤
IsPlainCommand n (declare_sort name place arity) = ⊤
IsPlainCommand n (declare_fun name arguments target) = ⊤
IsPlainCommand n (define_fun name parameters target body) = ⊥
IsPlainCommand n (assert_term i) = IsPlain i × (tokens_in i ≤ n)
IsPlainCommand n check_sat = ⊤
IsPlainCommand n exit = ⊤

abbrev IsPlainRead : ℕ → Result ScriptCommand Refusal → Type 0
IsPlainRead n r = IfOk r (IsPlainCommand n)

choose : (n : ℕ) (b : Bool) (r q : Result ScriptCommand Refusal) → IsPlainRead n r → IsPlainRead n q → IsPlainRead n (if b then r else q)
choose n true r q h k = h
choose n false r q h k = k

plain_shaped : (n : ℕ) (o : Option ℕ) (c : ScriptCommand) → IsPlainCommand n c → IsPlainRead n (shaped o c)
plain_shaped n None c h = h
plain_shaped n (Some place) c h = tt

plain_assert : (place : ℕ) (items : Items) → ArePlain items → IsPlainRead (tokens_of items) (assert_shape place items)
plain_assert place no_items h = tt
plain_assert place (item t rest) h = plain_shaped (tokens_of (item t rest)) (excess rest) (assert_term t) (h.0, omega arith)

plain_logic : (n place : ℕ) (items : Items) → IsPlainRead n (set_logic_shape place items)
plain_logic n place no_items = tt
plain_logic n place (item logic rest) = plain_shaped n _ (set_logic (name_at logic)) tt

plain_attribute : (n place : ℕ) (items : Items) → IsPlainRead n (attribute_shape place items)
plain_attribute n place no_items = tt
plain_attribute n place (item keyword rest) = plain_shaped n _ without_effect tt

plain_sort : (n place : ℕ) (items : Items) → IsPlainRead n (declare_sort_shape place items)
plain_sort n place no_items = tt
plain_sort n place (item name no_items) = tt
plain_sort n place (item name (item arity rest)) = plain_shaped n _ (declare_sort (name_at name) (place_of arity) _) tt

plain_fun : (n place : ℕ) (items : Items) → IsPlainRead n (declare_fun_shape place items)
plain_fun n place no_items = tt
plain_fun n place (item name no_items) = tt
plain_fun n place (item name (item sorts no_items)) = tt
plain_fun n place (item name (item sorts (item target rest))) = plain_shaped n _ (declare_fun (name_at name) (items_of sorts) target) tt

plain_const : (n place : ℕ) (items : Items) → IsPlainRead n (declare_const_shape place items)
plain_const n place no_items = tt
plain_const n place (item name no_items) = tt
plain_const n place (item name (item target rest)) = plain_shaped n _ (declare_fun (name_at name) no_items target) tt

named_plain : (checked : Bool) (place word_place : ℕ) (name : List ℕ) (items : Items) → bytes_eq name (codes "define-fun") ≡ false → ArePlain items
    → IsPlainRead (tokens_of items) (script_command_named checked place word_place name items)
named_plain checked place word_place name items none plain =
    let n = tokens_of items in
    choose n (bytes_eq name (codes "assert")) _ _ (choose n checked (refused LeftOut word_place) _ tt (plain_assert place items plain))
    (choose n (bytes_eq name (codes "declare-fun")) _ _ (plain_fun n place items)
    (choose n (bytes_eq name (codes "declare-const")) _ _ (plain_const n place items)
    (rw none
    (choose n (bytes_eq name (codes "declare-sort")) _ _ (plain_sort n place items)
    (choose n (bytes_eq name (codes "set-logic")) _ _ (plain_logic n place items)
    (choose n (is_among (codes "set-info" ∷ codes "set-option" ∷ []) name) _ _ (plain_attribute n place items)
    (choose n (bytes_eq name (codes "check-sat")) _ _ (plain_shaped n (excess items) check_sat tt)
    (choose n (is_among (codes "get-proof" ∷ codes "get-unsat-core" ∷ []) name) _ _ (plain_shaped n (excess items) without_effect tt)
    (choose n (bytes_eq name (codes "exit")) _ _ (plain_shaped n (excess items) exit tt)
    (choose n (is_among left_out_commands name) (refused LeftOut word_place) (refused UnknownCommand word_place) tt tt))))))))))

headed_plain : (checked : Bool) (place : ℕ) (head : Item) (items : Items)
    → option_map_or (is_among defining_words) (symbol_name head) false ≡ false
    → ArePlain items → IsPlainRead (tokens_of items) (headed_script_command checked place head items)
headed_plain checked place (word word_place spelling) items none plain = go (is_symbol spelling) none
  where
    go : (b : Bool) → option_map_or (is_among defining_words) (if b then Some spelling else None) false ≡ false
        → IsPlainRead (tokens_of items) (if b then script_command_named checked place word_place spelling items else refused BadCommand word_place)
    go true e = named_plain checked place word_place spelling items (or_left _ _ e) plain
    go false e = tt
headed_plain checked place (quoted at spelling) items none plain = tt
headed_plain checked place (string at spelling) items none plain = tt
headed_plain checked place (list at inside) items none plain = tt

command_plain : (checked : Bool) (i : Item) → IsPlain i → IsPlainRead (tokens_in i) (script_command_of checked i)
unfolding script_command_of
command_plain checked (word place s) plain = tt
command_plain checked (quoted place s) plain = tt
command_plain checked (string place s) plain = tt
command_plain checked (list place no_items) plain = tt
command_plain checked (list place (item head items)) plain =
    more (headed_script_command checked place head items) (headed_plain checked place head items plain.0 plain.1.1)
  where
    fewer : (c : ScriptCommand) → IsPlainCommand (tokens_of items) c → IsPlainCommand (tokens_in (list place (item head items))) c
    fewer (set_logic name) h = tt
    fewer without_effect h = tt
    fewer (declare_sort name place arity) h = tt
    fewer (declare_fun name arguments target) h = tt
    fewer (define_fun name parameters target body) h = h
    fewer (assert_term i) h = (h.0, let k = h.1 in omega (arith, k))
    fewer check_sat h = tt
    fewer exit h = tt

    more : (r : Result ScriptCommand Refusal) → IsPlainRead (tokens_of items) r → IsPlainRead (tokens_in (list place (item head items))) r
    more (Ok c) h = fewer c h
    more (Err refusal) h = tt

abbrev Whatever : List SymbolTree → Type 0
Whatever cells = ⊤

-- so many cells were added at most, and there are so many assertions at most
record Runs (old : List SymbolTree) (n k : ℕ) (s : Script) : Type 0 where
  adds : Adds old n Whatever s
  count : length s.assertions ≤ k

abbrev AddsAny : {A : Type 0} → List SymbolTree → ℕ → ℕ → A → Script → Type 0
AddsAny old n k a s = Runs old n k s

-- what is known of a script before a command
record Stands (old : List SymbolTree) (k : ℕ) (s : Script) : Type 0 where
  among : AreAmong old s
  count : length s.assertions ≤ k

abbrev StillStands : {A : Type 0} → List SymbolTree → ℕ → A → Script → Type 0
StillStands old k a s = Stands old k s

-- nothing of what is known of terms has changed
same : (old : List SymbolTree) (s : Script) (after : Script) → after.terms ≡ s.terms → after.macros ≡ s.macros → after.named ≡ s.named → AreAmong old s
    → AreAmong old after
same old s after e f g among = record {
  each = rw e among.each;
  bare = record { macros = rw f among.bare.macros; named = rw g among.bare.named };
}

nothing_added : (old : List SymbolTree) (n k : ℕ) (s : Script) → Stands old k s → Runs old n (suc k) s
nothing_added old n k s h = record {
  adds = record { cells = old; few = omega arith; more = λ c h. h; among = h.among; is = tt };
  count = let few = h.count in omega (arith, few);
}

-- a script with the same terms and assertions
as_before : (old : List SymbolTree) (n k : ℕ) (s after : Script) → after.terms ≡ s.terms → after.macros ≡ s.macros → after.named ≡ s.named
    → after.assertions ≡ s.assertions → Stands old k s → Runs old n (suc k) after
as_before old n k s after e f g a h = nothing_added old n k after (record { among = same old s after e f g h.among; count = rw a h.count })

module _ (old : List SymbolTree) (n k : ℕ) where
  where_allowed : (b : Bool) (cause : Cause) (place : ℕ) (s : Script) (o : Outcome Script ⊤) → Gives (AddsAny old n (suc k)) o
      → Gives (AddsAny old n (suc k)) (if b then o else refuse cause place s)
  where_allowed true cause place s o h = h
  where_allowed false cause place s o h = tt

  logic-adds : (name : Name) (s : Script) → Stands old k s → Gives (AddsAny old n (suc k)) (logic_set name s)
  logic-adds name s h =
      gives-unless (AddsAny old n (suc k)) s.has_logic Repeated name.place s _
      (where_allowed (is_among logics name.name) LeftOut name.place s (done tt (record s { has_logic = true })) (as_before old n k s _ refl refl refl refl h))

  sort-adds : (name : Name) (place arity : ℕ) (s : Script) → Stands old k s → Gives (AddsAny old n (suc k)) (sort_declared name place arity s)
  sort-adds name place arity s h =
      gives-unless (AddsAny old n (suc k)) (is_built_in name.name || is_among s.sorts name.name) Repeated name.place s _
      (where_allowed (arity == 0) LeftOut place s (done tt (with_sort name.name s)) (as_before old n k s _ refl refl refl refl h))

  given-stands : {A : Type 0} (r : Result A Refusal) (s : Script) → Stands old k s → Gives (StillStands old k) (given r s)
  given-stands (Ok a) s h = h
  given-stands (Err refusal) s h = tt

  function-adds : (name : Name) (arguments : Items) (target : Item) (s : Script) → Stands old k s
      → Gives (AddsAny old n (suc k)) (function_declared name arguments target s)
  function-adds name arguments target s h =
      gives-unless (AddsAny old n (suc k)) (is_taken s name.name) Repeated name.place s _
      (gives-and_then (StillStands old k) (AddsAny old n (suc k)) (given (sorts_from s.sorts arguments) s) _ (given-stands (sorts_from s.sorts arguments) s h)
      (λ ss after h'. gives-and_then (StillStands old k) (AddsAny old n (suc k)) (given (sort_from s.sorts target) after) _
      (given-stands (sort_from s.sorts target) after h') (λ t last h''. as_before old n k last _ refl refl refl refl h'')))

  -- a term is read
  term-runs : (i : Item) (s : Script) → IsPlain i → tokens_in i ≤ n → Stands old k s
      → Gives (λ t after. Runs old n k after) (read_term i (record { scope = []; settings = limited false }) s)
  term-runs i s plain few h =
      let at : Place = record { scope = []; settings = limited false } in
      let fits = form_fits i plain in
      let counted : length (read_term i at s).state.assertions ≤ k =
      (kept_term (λ s. length s.assertions ≤ k) (λ t s h. h) (λ name s h. h) (λ name s e h. h) (form_of i) at s h.count).0 in
      both (read_term i at s) counted (term-adds (form_of i) at s old fits.0 (record { keeps = refl; alone = tt }) h.among) (omega (arith, few, fits.1))
    where
      both : (o : Outcome Script Typed) → length o.state.assertions ≤ k → Gives (λ t after. Adds old (weight (form_of i)) (HasTerm t) after) o
          → weight (form_of i) ≤ n → Gives (λ t after. Runs old n k after) o
      both o counted adds less = go o.result adds
        where
          go : (r : Result Typed Refusal) → IfOk r (λ t. Adds old (weight (form_of i)) (HasTerm t) o.state) → IfOk r (λ t. Runs old n k o.state)
          go (Err refusal) h = tt
          go (Ok t) adds = record {
            adds = record { cells = adds.cells; few = let h = adds.few in omega (arith, h, less); more = adds.more; among = adds.among; is = tt };
            count = counted;
          }

  assertion-adds : (i : Item) (s : Script) → IsPlain i → tokens_in i ≤ n → Stands old k s → Gives (AddsAny old n (suc k)) (term_asserted false i s)
  assertion-adds i s plain few h =
      gives-and_then (λ t after. Runs old n k after) (AddsAny old n (suc k)) (read_term i (record { scope = []; settings = limited false }) s) _
      (term-runs i s plain few h)
      (λ t after runs. where_allowed (sort_eq t.sort Sort.Bool) SortMismatch (place_of i) after (done tt (with_assertion t.tree after)) (record {
        adds = record {
          cells = runs.adds.cells;
          few = runs.adds.few;
          more = runs.adds.more;
          among = same runs.adds.cells after _ refl refl refl runs.adds.among;
          is = tt;
        };
        count = let few = runs.count in let more = length-append after.assertions (t.tree ∷ []) in omega (arith, few, more);
      }))

  performed-adds : (c : ScriptCommand) (s : Script) → IsPlainCommand n c → Stands old k s → Gives (AddsAny old n (suc k)) (script_performed false c s)
  unfolding script_performed
  performed-adds (set_logic name) s plain h = logic-adds name s h
  performed-adds without_effect s plain h = nothing_added old n k s h
  performed-adds (declare_sort name place arity) s plain h = sort-adds name place arity s h
  performed-adds (declare_fun name arguments target) s plain h = function-adds name arguments target s h
  performed-adds (define_fun name parameters target body) s plain h = absurd plain
  performed-adds (assert_term i) s plain h = assertion-adds i s plain.0 plain.1 h
  performed-adds check_sat s plain h = as_before old n k s _ refl refl refl refl h
  performed-adds exit s plain h = nothing_added old n k s h

-- with a higher bound
fewer_runs : (old : List SymbolTree) (m n j k : ℕ) (s : Script) → m ≤ n → j ≤ k → Runs old m j s → Runs old n k s
fewer_runs old m n j k s less fewer h = record {
  adds = record { cells = h.adds.cells; few = let few = h.adds.few in omega (arith, few, less); more = h.adds.more; among = h.adds.among; is = tt };
  count = let few = h.count in omega (arith, few, fewer);
}

-- a command of so many tokens, and then those behind it
command-adds : (old : List SymbolTree) (m n k : ℕ) (c : ScriptCommand) (s : Script) (rest : Script → Outcome Script ⊤) → 0 < m → IsPlainCommand m c
    → Stands old k s
    → ((after : Script) (cells : List SymbolTree) (l : ℕ) → Stands cells l after → Gives (AddsAny cells n (l + n)) (rest after))
    → (b : Bool) → Gives (AddsAny old (m + n) (k + (m + n))) (if b then done tt s else and_then (script_performed false c s) (λ _ after. rest after))
command-adds old m n k c s rest some fits h others true =
    fewer_runs old (m + n) (m + n) (suc k) (k + (m + n)) s (omega arith) (omega (arith, some)) (nothing_added old (m + n) k s h)
command-adds old m n k c s rest some fits h others false =
    gives-and_then (AddsAny old m (suc k)) (AddsAny old (m + n) (k + (m + n))) (script_performed false c s) (λ _ after. rest after)
    (performed-adds old m k c s fits h)
    (λ d after first. gives-more (AddsAny first.adds.cells n (suc k + n)) (AddsAny old (m + n) (k + (m + n))) (rest after)
    (λ e last second. record {
      adds = record {
        cells = second.adds.cells;
        few = let h = first.adds.few in let k = second.adds.few in omega (arith, h, k);
        more = λ t h. second.adds.more t (first.adds.more t h);
        among = second.adds.among;
        is = tt;
      };
      count = let few = second.count in omega (arith, few, some);
    }) (others after first.adds.cells (suc k) (record { among = first.adds.among; count = first.count })))

commands-add : (items : Items) (s : Script) (old : List SymbolTree) (k : ℕ) → ArePlain items → Stands old k s
    → Gives (AddsAny old (tokens_of items) (k + tokens_of items)) (script_commands false items s)
unfolding script_commands
commands-add no_items s old k plain h = record {
  adds = record { cells = old; few = omega arith; more = λ c h. h; among = h.among; is = tt };
  count = let few = h.count in omega (arith, few);
}
commands-add (item i rest) s old k plain h =
    gives-going_on (λ c before. IsPlainCommand (tokens_in i) c) (AddsAny old (tokens_of (item i rest)) (k + tokens_of (item i rest)))
    (script_command_of s.is_checked i) s _ (command_plain s.is_checked i plain.0)
    (λ c fits. command-adds old (tokens_in i) (tokens_of rest) k c s (script_commands false rest) (some_token i) fits h
    (λ after cells l h'. commands-add rest after cells l plain.1 h') (ends c))

-- what is known of the script of a text without definitions
pub record IsPlainScript (text : List ℕ) (s : Script) : Type 0 where
  pub cells : HaveFewCells s.terms (length text)
  pub macros : s.macros ≡ []
  pub named : s.named ≡ []
  pub assertions : length s.assertions ≤ length text

pub plain_script : (spelled : (text : List ℕ) (at : ℕ) (t : Token) → next_token text at ≡ Ok (Some t) → IsSpelledNext text at t)
    (text : List ℕ) (s : Script) → StandsForProblem text false s → (HasDefinitions text → ⊥) → IsPlainScript text s
plain_script spelled text s h none =
    let nested = h.nested in
    let plain : defines_in text false nested.tokens ≡ false = not_so (defines_in text false nested.tokens) refl in
    let tells = tells_text text nested.tokens h.items nested.nested plain in
    let start : Stands [] 0 empty_script = record { among = record { each = tt; bare = record { macros = refl; named = refl } }; count = omega arith } in
    let runs : Runs [] (tokens_of h.items) (0 + tokens_of h.items) s =
    subst (λ o. Gives (AddsAny [] (tokens_of h.items) (0 + tokens_of h.items)) o) h.read (commands-add h.items empty_script [] 0 tells.plain start) in
    let tokens = few_tokens spelled text 0 nested.tokens nested.read in
    record {
      cells = record { cells = runs.adds.cells; few = let few = runs.adds.few in omega (arith, few, tells.count, tokens); each = runs.adds.among.each };
      macros = runs.adds.among.bare.macros;
      named = runs.adds.among.bare.named;
      assertions = let few = runs.count in omega (arith, few, tells.count, tokens);
    }
  where
    not_so : (b : Bool) → defines_in text false h.nested.tokens ≡ b → b ≡ false
    not_so true e = absurd (none (record { tokens = h.nested.tokens; are = h.nested.read; defines = e }))
    not_so false e = refl
