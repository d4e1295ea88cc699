-- The scripts that texts of problems stand for: each name means one thing, and terms are over the script's vocabulary.
use Rattle.std.proofs.Common.{◌≡◌, ℕ, ◌==◌, Bool, true, false, ◌||◌, Some, Result, Ok, Err, IfOk, List, [], ◌∷◌, ◌++◌, map}
use Rattle.std.proofs.Common.{if◌then◌else◌, bytes_eq, refl, subst}
use Rattle.std.specs.Prelude.{⊤, Contains}
use Rattle.std.specs.List.{AllByRecursion}
use Rattle.std.proofs.lemmas.List.Elements.{Contains-append_left}
use Rattle.sexpr.specs.declared.causes.Cause.{Cause}
use Rattle.sexpr.specs.declared.causes.Cause.TheVariants.{Repeated, LeftOut, SortMismatch}
use Rattle.sexpr.specs.declared.causes.Refusal.{Refusal}
use Rattle.sexpr.specs.Items.{Item, Items, no_items, item, place_of}
use Rattle.term_model.specs.declared.symbols.Sort.{Sort}
use Rattle.term_model.specs.FreeVariables.{IsClosed}
use Rattle.term_model.specs.Terms.{Var, sort_eq, Fun}
use Rattle.term_model.proofs.Lists.{all_at_end, contains_head, contains_later, contains_none}
use Rattle.rule_model.specs.RuleNames.{IsSymbolName}
use Rattle.text_items.specs.ItemShapes.{Name}
use Rattle.problem_text.specs.Commands.{ScriptCommand, set_logic, without_effect, declare_sort, declare_fun, define_fun, assert_term, check_sat, exit}
use Rattle.problem_text.specs.Commands.{script_command_of}
use Rattle.problem_text.specs.Forms.{form_of}
use Rattle.problem_text.specs.Limits.{AreLow, limited, most_height}
use Rattle.problem_text.specs.Names.{Place, itself}
use Rattle.problem_text.specs.Outcomes.{Outcome, done, refuse, given, and_then}
use Rattle.problem_text.specs.Problems.{logic_set, sort_declared, function_declared, function_defined, term_asserted, script_performed, ends, script_commands}
use Rattle.problem_text.specs.Problems.{StandsForProblem}
use Rattle.problem_text.specs.Scripts.{Macro, Named, Script, empty_script, is_taken, with_name, with_function}
use Rattle.problem_text.specs.Sorts.{sort_from, sorts_from, parameters_from}
use Rattle.problem_text.specs.Terms.{read_term}
use Rattle.problem_text.specs.TypedTerms.{Typed}
use Rattle.problem_text.specs.Words.{is_among, is_built_in, logics}
use Rattle.problem_text.proofs.Growing.{kept_term}
use Rattle.problem_text.proofs.ScopedTerms.{IsOver, AreOver, AreScoped, term-over}
use Rattle.alethe_text.specs.CommandNames.{HasNames, HaveNames}
use Rattle.alethe_text.proofs.SymbolNames.{AreSpelled, text_named}
use Rattle.printed_proofs.specs.Naming.{IsReady}
use Rattle.printed_proofs.specs.Shared.{Plan}
use Rattle.readable_proofs.specs.Names.{IsWellNamed, IsVocabularyWithin}
use Rattle.readable_proofs.specs.TermsOver.{IsTermOver}
use Rattle.readable_proofs.proofs.DistinctNames.{AreDistinct, name_distinct, naming_distinct, function_distinct, macro_distinct, functions_differ}
use Rattle.readable_proofs.proofs.DistinctNames.{all_contained, not_taken, last_taken, still_taken, function_means, function_named, operator_means, none_named}
use Rattle.readable_proofs.proofs.ItemForms.{form_good}
use Rattle.readable_proofs.proofs.Names.{all_more}
use Rattle.readable_proofs.proofs.ReadNames.{AfterRead, Reads, goes_on, reads_then, words_of, IsOwnMacro, HasOwnTerms, IsOwnPlace, own_name}
use Rattle.readable_proofs.proofs.ReadTerms.{IsReadTerm, term_own}
use Rattle.readable_proofs.proofs.Replaced.{still_of}
use Rattle.readable_proofs.proofs.ScriptItems.{IsGoodCommand, command_good}
use Rattle.readable_proofs.proofs.SortsRead.{IsNamedSort, sort_named_so, named_still, named_readable}

abbrev pub HasNamedSorts : Script → Type 0
HasNamedSorts s = AllByRecursion (λ f. IsNamedSort s.sorts f.target) s.functions

-- what is kept as a text is read
pub record IsGoodScript (s : Script) : Type 0 where
  pub own : HasOwnTerms s
  pub scoped : AreScoped s
  pub distinct : AreDistinct s
  pub sorts : HasNamedSorts s

-- a term that is read, behind which the script is good, and what is free in it
pub record IsReadGood (V : Var → Type 0) (p : Place) (s : Script) (t : Typed) (u : Script) : Type 0 where
  pub read : IsReadTerm p s t u
  pub good : IsGoodScript u
  pub over : IsOver V t.tree

pub term_good : (i : Item) (V : Var → Type 0) (p : Place) (s : Script) → HasNames i → IsGoodScript s → IsOwnPlace s p → AreOver V p.scope
    → Reads (IsReadGood V p s) (read_term i p s)
term_good i V p s named good here over =
    let distinct : AreDistinct (read_term i p s).state =
    (kept_term AreDistinct (λ t s h. h) (λ name s h. h) (λ n s e h. naming_distinct s h n e) (form_of i) p s good.distinct).0 in
    let sorts : HasNamedSorts (read_term i p s).state =
    (kept_term HasNamedSorts (λ t s h. h) (λ name s h. h) (λ n s e h. h) (form_of i) p s good.sorts).0 in
    let scoped = term-over (form_of i) V p s over here.themselves good.scoped in
    go (read_term i p s).result (read_term i p s).state (term_own (form_of i) p s (form_good i named) good.own here) scoped.0 scoped.1 distinct sorts
  where
    go : (r : Result Typed Refusal) (u : Script) → AfterRead (IsReadTerm p s) r u → AreScoped u → IfOk r (λ t. IsOver V t.tree) → AreDistinct u
        → HasNamedSorts u → AfterRead (IsReadGood V p s) r u
    go (Ok t) u read scoped free distinct sorts =
        record { read = read; good = record { own = read.own; scoped = scoped; distinct = distinct; sorts = sorts }; over = free }
    go (Err refusal) u read scoped free distinct sorts = tt

-- a script of a problem: no term that was read is too high
pub record IsProblemScript (s : Script) : Type 0 where
  pub good : IsGoodScript s
  pub low : AreLow (Some most_height) s.terms

-- what it is behind a command
abbrev IsDone : Outcome Script ⊤ → Type 0
IsDone o = Reads (λ _ u. IsProblemScript u) o

unless_refused : (b : Bool) (cause : Cause) (place : ℕ) (s : Script) (o : Outcome Script ⊤) → (b ≡ false → IsDone o)
    → IsDone (if b then refuse cause place s else o)
unless_refused true cause place s o h = tt
unless_refused false cause place s o h = h refl

where_allowed : (b : Bool) (cause : Cause) (place : ℕ) (s : Script) (o : Outcome Script ⊤) → (b ≡ true → IsDone o)
    → IsDone (if b then o else refuse cause place s)
where_allowed true cause place s o h = h refl
where_allowed false cause place s o h = tt

given_good : {A B : Type 0} (R : B → Script → Type 0) (r : Result A Refusal) (s : Script) (next : A → Script → Outcome Script B)
    → ((a : A) → r ≡ Ok a → Reads R (next a s)) → Reads R (and_then (given r s) next)
given_good R (Ok a) s next h = h a refl
given_good R (Err refusal) s next h = tt

logic_good : (n : Name) (s : Script) → IsProblemScript s → IsDone (logic_set n s)
logic_good n s here =
    unless_refused s.has_logic Repeated n.place s _
    (λ _. where_allowed (is_among logics n.name) LeftOut n.place s _
    (λ _. record {
      good = record {
        own = record { named = here.good.own.named; macros = here.good.own.macros; names = here.good.own.names };
        scoped = here.good.scoped;
        distinct = here.good.distinct;
        sorts = here.good.sorts;
      };
      low = here.low;
    }))

sort_good : (n : Name) (arity_place arity : ℕ) (s : Script) → IsProblemScript s → IsDone (sort_declared n arity_place arity s)
sort_good n arity_place arity s here =
    unless_refused (is_built_in n.name || is_among s.sorts n.name) Repeated n.place s _
    (λ _. where_allowed (arity == 0) LeftOut arity_place s _
    (λ _. record {
      good = record {
        own = record { named = here.good.own.named; macros = here.good.own.macros; names = here.good.own.names };
        scoped = here.good.scoped;
        distinct = here.good.distinct;
        sorts =
            all_more (λ f. IsNamedSort s.sorts f.target) (λ f. IsNamedSort (s.sorts ++ n.name ∷ []) f.target) s.functions
            (λ f h. named_still s.sorts (n.name ∷ []) f.target h) here.good.sorts;
      };
      low = here.low;
    }))

-- a function more
function_within : (f : Fun) (s : Script) → IsVocabularyWithin (words_of s) (words_of (with_function f s))
function_within f s = record { functions = λ g there. Contains-append_left s.functions (f ∷ []) g there; variables = λ name there. there }

function_owned : (f : Fun) (s : Script) → HasOwnTerms s → HasOwnTerms (with_function f s)
function_owned f s own =
    let u : Script = with_function f s in
    let more = function_within f s in
    record {
      named =
          all_more (λ n. IsTermOver (words_of s) n.meant.tree) (λ n. IsTermOver (words_of u) n.meant.tree) s.named
          (λ n h. still_of (words_of s) (words_of u) more n.meant.tree h) own.named;
      macros =
          all_more (IsOwnMacro (words_of s)) (IsOwnMacro (words_of u)) s.macros
          (λ m h. record { of = still_of (words_of s) (words_of u) more m.body h.of; scoped = h.scoped }) own.macros;
      names = own.names;
    }

function_good : (n : Name) (arguments : Items) (target : Item) (s : Script) → IsSymbolName n.name → HasNames target → IsProblemScript s
    → IsDone (function_declared n arguments target s)
function_good n arguments target s symbol named here =
    unless_refused (is_taken s n.name) Repeated n.place s _
    (λ new. given_good (λ _ u. IsProblemScript u) (sorts_from s.sorts arguments) s _
    (λ ss _. given_good (λ _ u. IsProblemScript u) (sort_from s.sorts target) s _
    (λ t e. let f : Fun = record { name = n.name; arguments = ss; target = t } in
    let parts = not_taken s n.name new in
    record {
      good = record {
        own =
            function_owned f (with_name n.name s)
            (record { named = here.good.own.named; macros = here.good.own.macros; names = here.good.own.names });
        scoped = here.good.scoped;
        distinct = function_distinct s here.good.distinct f (own_name n.name symbol parts.0) parts.1;
        sorts = all_at_end (λ f. IsNamedSort s.sorts f.target) s.functions f here.good.sorts (sort_named_so s.sorts target t named e);
      };
      low = here.low;
    })))

-- parameters stand for themselves
parameters_of : (s : Script) (xs : List Var) → AllByRecursion (λ b. IsTermOver (words_of s) b.stands_for) (map itself xs)
parameters_of s [] = tt
parameters_of s (x ∷ xs) = (tt, parameters_of s xs)

parameters_over : (W : Var → Type 0) (xs : List Var) → ((x : Var) → Contains xs x → W x) → AreOver W (map itself xs)
parameters_over W [] w = tt
parameters_over W (x ∷ xs) w =
    (λ y e. w y (subst (Contains (x ∷ xs)) e (contains_head x xs)), parameters_over W xs (λ y there. w y (contains_later x y xs there)))

-- what was read, and what holds of the state behind it
with_state : {A : Type 0} (Q : A → Script → Type 0) (P : Script → Type 0) (r : Result A Refusal) (u : Script) → AfterRead Q r u → P u
    → AfterRead (λ a u. Q a u × P u) r u
with_state Q P (Ok a) u h p = (h, p)
with_state Q P (Err refusal) u h p = tt

macro_good : (n : Name) (parameters : Items) (target body : Item) (s : Script) → HasNames body → IsProblemScript s
    → IsDone (function_defined n parameters target body s)
macro_good n parameters target body s named here =
    unless_refused (is_taken s n.name) Repeated n.place s _
    (λ new. let begun : Script = with_name n.name s in
    let parts = not_taken s n.name new in
    let start : IsGoodScript begun = record {
      own = record { named = here.good.own.named; macros = here.good.own.macros; names = here.good.own.names };
      scoped = here.good.scoped;
      distinct = name_distinct s here.good.distinct n.name;
      sorts = here.good.sorts;
    } in
    given_good (λ _ u. IsProblemScript u) (parameters_from s.sorts [] parameters) begun _
    (λ xs _. given_good (λ _ u. IsProblemScript u) (sort_from begun.sorts target) begun _
    (λ sort _. let p : Place = record { scope = map itself xs; settings = limited true } in
    reads_then (λ t u. IsReadGood (Contains xs) p begun t u × (is_among u.taken n.name ≡ true)) (λ _ u. IsProblemScript u) (read_term body p begun) _
    (with_state (IsReadGood (Contains xs) p begun) (λ u. is_among u.taken n.name ≡ true) (read_term body p begun).result (read_term body p begun).state
    (term_good body (Contains xs) p begun named start (record { of = parameters_of begun xs; themselves = λ e. absurd (cc) })
    (parameters_over (Contains xs) xs (λ x there. there)))
    (still_taken n.name (form_of body) p begun (last_taken s n.name)))
    (λ t last k. where_allowed (sort_eq t.sort sort) SortMismatch (place_of body) last _
    (λ _. let m : Macro = record { name = n.name; parameters = xs; target = sort; body = t.tree } in
    record {
      good = record {
        own = record {
          named = k.0.good.own.named;
          macros = all_at_end (IsOwnMacro (words_of last)) last.macros m k.0.good.own.macros (record { of = k.0.read.term.0; scoped = k.0.over });
          names = k.0.good.own.names;
        };
        scoped = (all_at_end (λ m. IsOver (Contains m.parameters) m.body) last.macros m k.0.good.scoped.0 k.0.over, k.0.good.scoped.1);
        distinct =
            macro_distinct last k.0.good.distinct m (parts.0, k.1)
            (subst (AllByRecursion (λ (f : Fun). bytes_eq n.name f.name ≡ false)) k.0.read.grown.functions
            (functions_differ s here.good.distinct n.name parts.1));
        sorts = k.0.good.sorts;
      };
      low = k.0.read.low here.low;
    })))))

assertion_good : (replaces : Bool) (i : Item) (s : Script) → HasNames i → IsProblemScript s → IsDone (term_asserted replaces i s)
assertion_good replaces i s named here =
    let p : Place = record { scope = []; settings = limited replaces } in
    reads_then (IsReadGood (λ x. ⊥) p s) (λ _ u. IsProblemScript u) (read_term i p s) _
    (term_good i (λ x. ⊥) p s named here.good (record { of = tt; themselves = λ e. tt }) tt)
    (λ t after k. where_allowed (sort_eq t.sort Sort.Bool) SortMismatch (place_of i) after _
    (λ _. record {
      good = record {
        own = record { named = k.good.own.named; macros = k.good.own.macros; names = k.good.own.names };
        scoped = (k.good.scoped.0, all_at_end IsClosed after.assertions t.tree k.good.scoped.1 k.over);
        distinct = k.good.distinct;
        sorts = k.good.sorts;
      };
      low = k.read.low here.low;
    }))

performed_good : (replaces : Bool) (c : ScriptCommand) (s : Script) → IsGoodCommand c → IsProblemScript s → IsDone (script_performed replaces c s)
unfolding script_performed
performed_good replaces (set_logic n) s named good = logic_good n s good
performed_good replaces without_effect s named good = good
performed_good replaces (declare_sort n arity_place arity) s named good = sort_good n arity_place arity s good
performed_good replaces (declare_fun n arguments target) s named good = function_good n arguments target s named.0 named.1 good
performed_good replaces (define_fun n parameters target body) s named good = macro_good n parameters target body s named good
performed_good replaces (assert_term i) s named good = assertion_good replaces i s named good
performed_good replaces check_sat s named here = record {
  good = record {
    own = record { named = here.good.own.named; macros = here.good.own.macros; names = here.good.own.names };
    scoped = here.good.scoped;
    distinct = here.good.distinct;
    sorts = here.good.sorts;
  };
  low = here.low;
}
performed_good replaces exit s named good = good

next_good : (b replaces : Bool) (c : ScriptCommand) (s : Script) (next : Script → Outcome Script ⊤) → IsGoodCommand c → IsProblemScript s
    → ((u : Script) → IsProblemScript u → IsDone (next u)) → IsDone (if b then done tt s else and_then (script_performed replaces c s) (λ _ after. next after))
next_good true replaces c s next named good k = good
next_good false replaces c s next named good k =
    reads_then (λ _ u. IsProblemScript u) (λ _ u. IsProblemScript u) (script_performed replaces c s) (λ _ after. next after)
    (performed_good replaces c s named good) (λ _ after h. k after h)

commands_good : (replaces : Bool) (items : Items) (s : Script) → HaveNames items → IsProblemScript s → IsDone (script_commands replaces items s)
unfolding script_commands
commands_good replaces no_items s named good = good
commands_good replaces (item i rest) s named good =
    goes_on (λ c u. IsGoodCommand c × IsProblemScript u) (λ _ u. IsProblemScript u) (script_command_of s.is_checked i) s _
    (go (script_command_of s.is_checked i) (command_good s.is_checked i named.0))
    (λ c u h. next_good (ends c) replaces c u (script_commands replaces rest) h.0 h.1 (λ after k. commands_good replaces rest after named.1 k))
  where
    go : (r : Result ScriptCommand Refusal) → IfOk r IsGoodCommand → AfterRead (λ c u. IsGoodCommand c × IsProblemScript u) r s
    go (Ok c) h = (h, good)
    go (Err refusal) h = tt

none_yet : IsProblemScript empty_script
none_yet = record {
  good = record {
    own = record { named = tt; macros = tt; names = λ name there. absurd (contains_none name there) };
    scoped = (tt, tt);
    distinct = (tt, tt, tt);
    sorts = tt;
  };
  low = tt;
}

pub problem_good : AreSpelled → (source : List ℕ) (replaces : Bool) (s : Script) → StandsForProblem source replaces s → IsProblemScript s
problem_good law source replaces s h =
    subst (λ (o : Outcome Script ⊤). AfterRead {S = Script} {A = ⊤} (λ _ u. IsProblemScript u) o.result o.state) h.read
    (commands_good replaces h.items empty_script (text_named law source h.items h.nested) none_yet)

-- a good script is well named, and a name that is not taken is given to nothing
pub well_named : (s : Script) → IsGoodScript s → IsWellNamed s
well_named s good = record {
  operators = operator_means s good.distinct;
  functions = function_means s good.distinct;
  names = function_named s good.distinct;
  sorts = λ f there. named_readable s f.target (all_contained (λ f. IsNamedSort s.sorts f.target) s.functions f good.sorts there);
}

pub ready : (plan : Plan) (s : Script) → IsGoodScript s → ((n : Named) → Contains plan n → is_among s.taken n.name ≡ false) → IsReady plan s
ready plan s good new = record {
  given = λ n inside taken. absurd (let e = new n inside in cc);
  taken = none_named s good.distinct;
}
