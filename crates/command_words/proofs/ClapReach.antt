-- `clap` takes the words behind a command where the grammar does, but for the number of workers, and reads the same in them.
use Rattle.std.proofs.Common.{◌≡◌, ◌∙◌, ◌++◌, subst, sym, refl, ℕ, Bool, true, false, List, [], ◌∷◌, Option, Some, None}
use Rattle.std.specs.Prelude.{codes, filter, fold, ⊤}
use Rattle.std.specs.Str.{IsUtf8}
use Rattle.clap.specs.Walk.{Row, Text, Walk, finished, settled_rows, used, walked}
use Rattle.clap.specs.Faults.{settle_fault, turn_fault, walk_fault}
use Rattle.command_words.specs.CommandLine.{Wanted, wanted_with, be_strict, expand_lets, gives_number, ignore_unknown, is_flag, is_operand, num_threads}
use Rattle.command_words.specs.CommandLine.{num_threads_by, operands_of, options_of, with_values}
use Rattle.command_words.specs.Found.{Given, wanted_from, workers_of}
use Rattle.command_words.specs.declared.request.Options.{Options}
use Rattle.command_words.proofs.ClapApp.{rules, check_shape, expand_rule, ignore_rule, strict_rule, workers_rule}
use Rattle.command_words.proofs.ClapRows.{Seen, one, two, nothing, AreRows, more_expand, more_ignore, more_number, more_proof, more_problem, more_strict}
use Rattle.command_words.proofs.ClapRows.{used_expand, used_ignore, used_proof, used_problem, used_strict, used_workers}
use Rattle.command_words.proofs.ClapWords.{IsFlag, IsNoOption, IsPlain, Word, ends, expands, ignores, is_strict, numbers, plain, strange, waits, word_is}
use Rattle.command_words.proofs.ClapWalk.{at, at_end, at_expand, at_ignore, at_strict, at_workers, end_turn, expand_again, expand_turn, held}
use Rattle.command_words.proofs.ClapWalk.{ignore_again, ignore_turn, number_turn, problem_settles, problem_turn, proof_settles, proof_turn, strange_turn}
use Rattle.command_words.proofs.ClapWalk.{settles_no_more, stray_turn, strict_again, strict_turn, to_number, to_problem, to_proof, to_wait, wait_turn, waits_at}
use Rattle.command_words.proofs.ClapWalk.{workers_again, workers_settles, workers_turn}
use Rattle.command_words.proofs.ClapEnd.{AreDone, closes, done, lacks_both, lacks_problem}
use Rattle.command_words.proofs.ClapLost.{AllUtf8, end_follows, fault_from, fault_step, flag_follows, lost_from, nothing_follows, position_after, stops}
use Rattle.command_words.proofs.ClapGrammar.{asks_no_workers, asks_nothing, more_operand, more_option, no_workers, one_word, same_operands}
use Rattle.command_words.proofs.ClapGrammar.{same_options, told, workers_after}

-- what is given is read from the rows at the end
abbrev pub ReadsAs : Given → List Row → Type 0
ReadsAs g rows = AreDone (two g.proof g.problem) g.options.replaces_lets g.options.ignores_unknown_rules g.options.is_strict g.number rows

-- what is read asks for this
pub record IsAskedBy (asked : Option Wanted) (rows : List Row) : Type 0 where
  pub given : Given
  pub asks : wanted_from given ≡ asked
  pub reads : ReadsAs given rows

abbrev pub rows_from : Walk → List Text → List Row
rows_from w words = finished rules (fold (walked rules []) w words).held

abbrev pub Answers : Option Wanted → Walk → List Text → Type 0
Answers None w words = fault_from w words ≡ [] → IsAskedBy None (rows_from w words)
Answers (Some a) w words = (fault_from w words ≡ []) × IsAskedBy (Some a) (rows_from w words)

go_on : (asked : Option Wanted) (w next : Walk) (word : Text) (rest : List Text) → turn_fault check_shape [] w word ≡ [] → walked rules [] w word ≡ next
    → Answers asked next rest → Answers asked w (word ∷ rest)
go_on None w next word rest turn step h =
    λ bad. subst (λ x. IsAskedBy None (rows_from x rest)) (sym step) (h (sym (fault_step w next word rest turn step) ∙ bad))
go_on (Some a) w next word rest turn step h =
    (fault_step w next word rest turn step ∙ h.0, subst (λ x. IsAskedBy (Some a) (rows_from x rest)) (sym step) h.1)

fails : (w : Walk) (word : Text) (rest : List Text) → (turn_fault check_shape [] w word ≡ [] → ⊥) → Answers None w (word ∷ rest)
fails w word rest turn bad = absurd (stops w word rest turn bad)

-- ---- the operands so far

abbrev pub listed : Seen → List Text
listed nothing = []
listed (one a) = a ∷ []
listed (two a b) = a ∷ b ∷ []

-- what is asked for by operands, where these options stood before, and by options
abbrev pub asked_by : List Text → Bool → Bool → Bool → Option Text → List Text → Option Wanted
asked_by operands e i s n options = wanted_with operands (told e i s (filter is_flag options)) (workers_after n (filter gives_number options))

-- what is asked for by the operands and options so far and the words
abbrev pub asked_so : Seen → Bool → Bool → Bool → Option Text → Bool → List Text → Option Wanted
asked_so seen e i s n true words = asked_by (listed seen ++ words) e i s n []
asked_so seen e i s n false words = asked_by (listed seen ++ operands_of (with_values words)) e i s n (options_of (with_values words))

-- what holds between two words
pub record Stands (seen : Seen) (e i s : Bool) (n : Option Text) (rows : List Row) (p : Option (Text × List Text)) : Type 0 where
  pub settles : settle_fault rules false (held rows p) ≡ []
  pub are : AreRows seen e i s n (settled_rows rules p rows)

at_both : (a b : Text) (e i s t : Bool) (n : Option Text) (rows : List Row) (p : Option (Text × List Text)) → Stands (two a b) e i s n rows p
    → Answers (asked_by (a ∷ b ∷ []) e i s n []) (at rows p 3 t) []
unfolding walk_fault
at_both a b e i s t n rows p h = go (workers_of n) refl
  where
    options : Options
    options = record { replaces_lets = e; ignores_unknown_rules = i; is_strict = s }

    given : Given
    given = record { proof = a; problem = b; options = options; number = n }

    read : ReadsAs given (finished rules (held rows p))
    read = done (held rows p) (two a b) e i s n h.are

    go : (workers : Option ℕ) → workers_of n ≡ workers → Answers (wanted_with (a ∷ b ∷ []) (Some options) workers) (at rows p 3 t) []
    go None is = λ _. record { given = given; asks = rw is refl; reads = read }
    go (Some k) is = (closes (held rows p) e i s n h.settles a b h.are, record { given = given; asks = rw is refl; reads = read })

at_no_word : (seen : Seen) (e i s t : Bool) (n : Option Text) (rows : List Row) (p : Option (Text × List Text)) → Stands seen e i s n rows p
    → Answers (asked_by (listed seen) e i s n []) (at rows p (position_after seen) t) []
unfolding walk_fault
at_no_word nothing e i s t n rows p h = λ bad. absurd (lacks_both (held rows p) e i s n h.settles h.are bad)
at_no_word (one a) e i s t n rows p h = λ bad. absurd (lacks_problem (held rows p) e i s n h.settles a h.are bad)
at_no_word (two a b) e i s t n rows p h = at_both a b e i s t n rows p h

module _ (rows : List Row) (p : Option (Text × List Text)) where
  abbrev settled_now : List Row
  settled_now = settled_rows rules p rows

  after_proof : (word : Text) (e i s : Bool) (n : Option Text) → Stands nothing e i s n rows p
      → Stands (one word) e i s n settled_now (Some (codes "proof", word ∷ []))
  after_proof word e i s n h = record {
    settles = proof_settles word settled_now h.are.proof;
    are = rw (used_proof word settled_now h.are.proof) (more_proof word e i s n settled_now h.are);
  }

  after_problem : (a word : Text) (e i s : Bool) (n : Option Text) → Stands (one a) e i s n rows p
      → Stands (two a word) e i s n settled_now (Some (codes "problem", word ∷ []))
  after_problem a word e i s n h = record {
    settles = problem_settles word settled_now h.are.problem;
    are = rw (used_problem word settled_now h.are.problem) (more_problem a word e i s n settled_now h.are);
  }

  after_expand : (seen : Seen) (i s : Bool) (n : Option Text) → Stands seen false i s n rows p
      → Stands seen true i s n (used expand_rule [] settled_now) None
  after_expand seen i s n h =
      record { settles = refl; are = rw (used_expand settled_now h.are.expand) (more_expand seen i s n settled_now h.are) }

  after_ignore : (seen : Seen) (e s : Bool) (n : Option Text) → Stands seen e false s n rows p
      → Stands seen e true s n (used ignore_rule [] settled_now) None
  after_ignore seen e s n h =
      record { settles = refl; are = rw (used_ignore settled_now h.are.ignore) (more_ignore seen e s n settled_now h.are) }

  after_strict : (seen : Seen) (e i : Bool) (n : Option Text) → Stands seen e i false n rows p
      → Stands seen e i true n (used strict_rule [] settled_now) None
  after_strict seen e i n h =
      record { settles = refl; are = rw (used_strict settled_now h.are.strict) (more_strict seen e i n settled_now h.are) }

  -- the number of workers behind `=`, and as the next word
  after_number : (seen : Seen) (e i s : Bool) (v : Text) → Stands seen e i s None rows p
      → Stands seen e i s (Some v) (used workers_rule (v ∷ []) settled_now) None
  after_number seen e i s v h =
      record { settles = refl; are = rw (used_workers v settled_now h.are.number) (more_number seen e i s v settled_now h.are) }

  after_value : (seen : Seen) (e i s : Bool) (v : Text) → Stands seen e i s None rows p
      → Stands seen e i s (Some v) settled_now (Some (codes "workers", v ∷ []))
  after_value seen e i s v h = record {
    settles = workers_settles v settled_now h.are.number;
    are = rw (used_workers v settled_now h.are.number) (more_number seen e i s v settled_now h.are);
  }

-- the words from here on are taken and read as the grammar says
abbrev pub Reaches : List Text → Type 0
Reaches words =
    (seen : Seen) (e i s t : Bool) (n : Option Text) (rows : List Row) (p : Option (Text × List Text)) → Stands seen e i s n rows p
    → Answers (asked_so seen e i s n t words) (at rows p (position_after seen) t) words

module _ (word : Text) (rest : List Text) (next : Reaches rest) where
  -- an operand
  value_trailing : (seen : Seen) (e i s : Bool) (n : Option Text) (rows : List Row) (p : Option (Text × List Text)) → Stands seen e i s n rows p
      → Answers (asked_so seen e i s n true (word ∷ rest)) (at rows p (position_after seen) true) (word ∷ rest)
  value_trailing nothing e i s n rows p h =
      go_on _ _ _ word rest (proof_turn rows p word true tt ∙ h.settles) (to_proof rows p word true tt)
      (next (one word) e i s true n _ _ (after_proof rows p word e i s n h))
  value_trailing (one a) e i s n rows p h =
      go_on _ _ _ word rest (problem_turn rows p word true tt ∙ h.settles) (to_problem rows p word true tt)
      (next (two a word) e i s true n _ _ (after_problem rows p a word e i s n h))
  value_trailing (two a b) e i s n rows p h = third (workers_of n)
    where
      third : (workers : Option ℕ)
          → Answers (wanted_with (a ∷ b ∷ word ∷ rest) (Some (record { replaces_lets = e; ignores_unknown_rules = i; is_strict = s })) workers) (at rows p 3 true) (word ∷ rest)
      third None = fails _ word rest (stray_turn rows p word true tt)
      third (Some k) = fails _ word rest (stray_turn rows p word true tt)

  value_before : (seen : Seen) (e i s : Bool) (n : Option Text) (rows : List Row) (p : Option (Text × List Text)) → IsPlain word → Stands seen e i s n rows p
      → Answers (asked_by (listed seen ++ word ∷ operands_of (with_values rest)) e i s n (options_of (with_values rest)))
      (at rows p (position_after seen) false) (word ∷ rest)
  value_before nothing e i s n rows p is h =
      go_on _ _ _ word rest (proof_turn rows p word false is ∙ h.settles) (to_proof rows p word false is)
      (next (one word) e i s false n _ _ (after_proof rows p word e i s n h))
  value_before (one a) e i s n rows p is h =
      go_on _ _ _ word rest (problem_turn rows p word false is ∙ h.settles) (to_problem rows p word false is)
      (next (two a word) e i s false n _ _ (after_problem rows p a word e i s n h))
  value_before (two a b) e i s n rows p is h =
      third (told e i s (filter is_flag (options_of (with_values rest)))) (workers_after n (filter gives_number (options_of (with_values rest))))
    where
      third : (options : Option Options) (workers : Option ℕ)
          → Answers (wanted_with (a ∷ b ∷ word ∷ operands_of (with_values rest)) options workers) (at rows p 3 false) (word ∷ rest)
      third None workers = fails _ word rest (stray_turn rows p word false is)
      third (Some o) None = fails _ word rest (stray_turn rows p word false is)
      third (Some o) (Some k) = fails _ word rest (stray_turn rows p word false is)

-- an option
module _ (rest : List Text) (next : Reaches rest) (seen : Seen) (rows : List Row) (p : Option (Text × List Text)) where
  -- the operands so far and those behind, and the options behind
  abbrev all_operands : List Text
  all_operands = listed seen ++ operands_of (with_values rest)

  abbrev later : List Text
  later = options_of (with_values rest)

  abbrev here : Walk
  here = at rows p (position_after seen) false

  flag_expand : (e i s : Bool) (n : Option Text) → Stands seen e i s n rows p
      → Answers (asked_by all_operands e i s n (expand_lets ∷ later)) here (expand_lets ∷ rest)
  flag_expand true i s n h =
      rw (asks_nothing all_operands (workers_after n (filter gives_number later)))
      (fails _ expand_lets rest (expand_again rows p (position_after seen) h.settles _ h.are.expand))
  flag_expand false i s n h =
      go_on _ _ _ expand_lets rest (expand_turn rows p (position_after seen) h.settles h.are.expand) (at_expand rows p (position_after seen))
      (next seen true i s false n _ _ (after_expand rows p seen i s n h))

  flag_ignore : (e i s : Bool) (n : Option Text) → Stands seen e i s n rows p
      → Answers (asked_by all_operands e i s n (ignore_unknown ∷ later)) here (ignore_unknown ∷ rest)
  flag_ignore e true s n h =
      rw (asks_nothing all_operands (workers_after n (filter gives_number later)))
      (fails _ ignore_unknown rest (ignore_again rows p (position_after seen) h.settles _ h.are.ignore))
  flag_ignore e false s n h =
      go_on _ _ _ ignore_unknown rest (ignore_turn rows p (position_after seen) h.settles h.are.ignore) (at_ignore rows p (position_after seen))
      (next seen e true s false n _ _ (after_ignore rows p seen e s n h))

  flag_strict : (e i s : Bool) (n : Option Text) → Stands seen e i s n rows p
      → Answers (asked_by all_operands e i s n (be_strict ∷ later)) here (be_strict ∷ rest)
  flag_strict e i true n h =
      rw (asks_nothing all_operands (workers_after n (filter gives_number later)))
      (fails _ be_strict rest (strict_again rows p (position_after seen) h.settles _ h.are.strict))
  flag_strict e i false n h =
      go_on _ _ _ be_strict rest (strict_turn rows p (position_after seen) h.settles h.are.strict) (at_strict rows p (position_after seen))
      (next seen e i true false n _ _ (after_strict rows p seen e i n h))

  number_behind : (v : Text) (e i s : Bool) (n : Option Text) → Stands seen e i s n rows p
      → Answers (asked_by all_operands e i s n ((num_threads_by ++ v) ∷ later)) here ((num_threads_by ++ v) ∷ rest)
  number_behind v e i s (Some u) h =
      rw (asks_no_workers all_operands (told e i s (filter is_flag later)))
      (fails _ (num_threads_by ++ v) rest (workers_again rows p (position_after seen) v h.settles _ h.are.number))
  number_behind v e i s None h =
      go_on _ _ _ (num_threads_by ++ v) rest (workers_turn rows p (position_after seen) v h.settles h.are.number) (at_workers rows p (position_after seen) v)
      (next seen e i s false (Some v) _ _ (after_number rows p seen e i s v h))

  flag_strange : (word : Text) (e i s : Bool) (n : Option Text) → IsUtf8 word → IsFlag word → IsNoOption word
      → Answers (asked_by all_operands e i s n (word ∷ later)) here (word ∷ rest)
  flag_strange word e i s n u f none =
      rw (none.number, none.expand, none.ignore, none.strict, asks_nothing all_operands (workers_after n (filter gives_number later)))
      (fails _ word rest (strange_turn rows p (position_after seen) word u f none))

-- `--num-threads`, and what follows it
module _ (rest : List Text) (seen : Seen) (rows : List Row) (p : Option (Text × List Text)) (e i s : Bool) where
  abbrev settled_here : List Row
  settled_here = settled_rows rules p rows

  abbrev waiting : Walk
  waiting = waits_at settled_here (position_after seen)

  nothing_behind : (n : Option Text) → Answers (asked_so seen e i s n false (num_threads ∷ [])) waiting []
  nothing_behind n =
      rw (asks_nothing (listed seen ++ []) (workers_after n [])) (λ bad. absurd (nothing_follows settled_here (position_after seen) bad))

  abbrev asked_with_value : Option Text → Text → Option Wanted
  asked_with_value n word =
      asked_by (listed seen ++ operands_of (with_values rest)) e i s n ((num_threads_by ++ word) ∷ options_of (with_values rest))

  refused : (n : Option Text) (word : Text) → is_operand word ≡ false → (fault_from waiting (word ∷ rest) ≡ [] → ⊥)
      → Answers (asked_with_value n word) waiting (word ∷ rest)
  refused n word is bad =
      rw (
        no_workers n word (filter gives_number (options_of (with_values rest))) is,
        asks_no_workers (listed seen ++ operands_of (with_values rest)) (told e i s (filter is_flag (options_of (with_values rest)))),
      )
      (λ f. absurd (bad f))

  flag_refused : (n : Option Text) (word : Text) → IsUtf8 word → IsFlag word → Answers (asked_with_value n word) waiting (word ∷ rest)
  flag_refused n word u f = refused n word f.operand (flag_follows settled_here (position_after seen) word rest f u)

  number_taken : (next : Reaches rest) → AllUtf8 rest → (n : Option Text) (word : Text) → IsPlain word → Stands seen e i s n rows p
      → Answers (asked_with_value n word) waiting (word ∷ rest)
  number_taken next u None word is h =
      go_on _ _ _ word rest (number_turn settled_here (position_after seen) word is) (to_number settled_here (position_after seen) word is)
      (next seen e i s false (Some word) _ _ (after_value rows p seen e i s word h))
  number_taken next u (Some v) word is h =
      rw (asks_no_workers (listed seen ++ operands_of (with_values rest)) (told e i s (filter is_flag (options_of (with_values rest)))))
      (go_on None _ _ word rest (number_turn settled_here (position_after seen) word is) (to_number settled_here (position_after seen) word is)
      (λ bad. absurd (lost_from settled_here _ (settles_no_more v word settled_here h.are.number) seen rest u bad)))

  value_of : (next : Reaches rest) → AllUtf8 rest → (n : Option Text) (word : Text) → IsUtf8 word → Word word → Stands seen e i s n rows p
      → Answers (asked_with_value n word) waiting (word ∷ rest)
  value_of next us n word u (plain is) h = number_taken next us n word is h
  value_of next us n word u (ends is) h =
      subst (λ w. Answers (asked_with_value n w) waiting (w ∷ rest)) (sym is) (refused n (codes "--") refl (end_follows settled_here seen rest))
  value_of next us n word u (expands is) h = flag_refused n word u (rw is (record { operand = refl; no_end = refl }))
  value_of next us n word u (ignores is) h = flag_refused n word u (rw is (record { operand = refl; no_end = refl }))
  value_of next us n word u (is_strict is) h = flag_refused n word u (rw is (record { operand = refl; no_end = refl }))
  value_of next us n word u (numbers v is) h = flag_refused n word u (rw is (record { operand = refl; no_end = refl }))
  value_of next us n word u (waits is) h = flag_refused n word u (rw is (record { operand = refl; no_end = refl }))
  value_of next us n word u (strange f none) h = flag_refused n word u f

-- the words behind a word, and those behind the next one, are taken and read so
abbrev ReachesBehind : List Text → Type 0
ReachesBehind [] = ⊤
ReachesBehind (word ∷ rest) = Reaches rest

module _ (rest : List Text) (next : Reaches rest) (behind : ReachesBehind rest) (us : AllUtf8 rest) where
  threads_behind : (seen : Seen) (rows : List Row) (p : Option (Text × List Text)) (e i s : Bool) (n : Option Text) → Stands seen e i s n rows p
      → Answers (asked_so seen e i s n false (num_threads ∷ rest)) (at rows p (position_after seen) false) (num_threads ∷ rest)
  threads_behind seen rows p e i s n h =
      go_on _ _ _ num_threads rest (wait_turn rows p (position_after seen) h.settles) (to_wait rows p (position_after seen)) (follows rest us behind)
    where
      follows : (rest : List Text) → AllUtf8 rest → ReachesBehind rest
          → Answers (asked_so seen e i s n false (num_threads ∷ rest)) (waits_at (settled_rows rules p rows) (position_after seen)) rest
      follows [] us behind = nothing_behind [] seen rows p e i s n
      follows (word ∷ rest) us behind =
          rw (same_operands (num_threads_by ++ word) (with_values rest) refl refl, more_option (num_threads_by ++ word) (with_values rest) refl refl)
          (value_of rest seen rows p e i s behind us.1 n word us.0 (word_is word) h)

  word_before : (seen : Seen) (rows : List Row) (p : Option (Text × List Text)) (word : Text) (e i s : Bool) (n : Option Text) → IsUtf8 word → Word word
      → Stands seen e i s n rows p
      → Answers (asked_so seen e i s n false (word ∷ rest)) (at rows p (position_after seen) false) (word ∷ rest)
  word_before seen rows p word e i s n u (ends is) h =
      rw is (go_on _ _ _ (codes "--") rest (end_turn rows p (position_after seen)) (at_end rows p (position_after seen)) (next seen e i s true n _ _ h))
  word_before seen rows p word e i s n u (plain is) h =
      rw (
        one_word word rest is.no_end is.no_threads,
        more_operand word (with_values rest) is.no_end is.operand,
        same_options word (with_values rest) is.no_end is.operand,
      )
      (value_before word rest next seen e i s n rows p is h)
  word_before seen rows p word e i s n u (expands is) h =
      rw (is, same_operands expand_lets (with_values rest) refl refl, more_option expand_lets (with_values rest) refl refl)
      (flag_expand rest next seen rows p e i s n h)
  word_before seen rows p word e i s n u (ignores is) h =
      rw (is, same_operands ignore_unknown (with_values rest) refl refl, more_option ignore_unknown (with_values rest) refl refl)
      (flag_ignore rest next seen rows p e i s n h)
  word_before seen rows p word e i s n u (is_strict is) h =
      rw (is, same_operands be_strict (with_values rest) refl refl, more_option be_strict (with_values rest) refl refl)
      (flag_strict rest next seen rows p e i s n h)
  word_before seen rows p word e i s n u (numbers v is) h =
      rw (is, same_operands (num_threads_by ++ v) (with_values rest) refl refl, more_option (num_threads_by ++ v) (with_values rest) refl refl)
      (number_behind rest next seen rows p v e i s n h)
  word_before seen rows p word e i s n u (waits is) h = rw is (threads_behind seen rows p e i s n h)
  word_before seen rows p word e i s n u (strange f none) h =
      rw (
        one_word word rest f.no_end none.threads,
        same_operands word (with_values rest) f.no_end f.operand,
        more_option word (with_values rest) f.no_end f.operand,
      )
      (flag_strange rest next seen rows p word e i s n u f none)

pub reaches : (words : List Text) → AllUtf8 words → Reaches words
reaches [] u nothing e i s true n rows p h = at_no_word nothing e i s true n rows p h
reaches [] u (one a) e i s true n rows p h = at_no_word (one a) e i s true n rows p h
reaches [] u (two a b) e i s true n rows p h = at_no_word (two a b) e i s true n rows p h
reaches [] u nothing e i s false n rows p h = at_no_word nothing e i s false n rows p h
reaches [] u (one a) e i s false n rows p h = at_no_word (one a) e i s false n rows p h
reaches [] u (two a b) e i s false n rows p h = at_no_word (two a b) e i s false n rows p h
reaches (word ∷ []) u seen e i s true n rows p h = value_trailing word [] (reaches [] tt) seen e i s n rows p h
reaches (word ∷ []) u seen e i s false n rows p h = word_before [] (reaches [] tt) tt tt seen rows p word e i s n u.0 (word_is word) h
reaches (word ∷ other ∷ rest) u seen e i s true n rows p h = value_trailing word (other ∷ rest) (reaches (other ∷ rest) u.1) seen e i s n rows p h
reaches (word ∷ other ∷ rest) u seen e i s false n rows p h =
    word_before (other ∷ rest) (reaches (other ∷ rest) u.1) (reaches rest u.1.1) u.1 seen rows p word e i s n u.0 (word_is word) h
