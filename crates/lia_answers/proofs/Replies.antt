-- Private. A combination of the assertions of a question, as a reply.
use Rattle.std.proofs.Common.{◌≡◌, inl, ◌≤◌, ◌<◌, ◌+◌, ◌-◌, ◌*◌, ◌^◌, ℕ, ℤ, Bool, false, List, [], ◌∷◌, ◌++◌}
use Rattle.std.proofs.Common.{length, map, Option, Some, None, IfSome, All, Contains}
use Rattle.std.proofs.Common.{Vec, refl, sym, ap, subst, ◌∙◌, arith}
use Rattle.std.specs.Prelude.{Any}
use Rattle.std.specs.declared.alloc.Global.{Global}
use Rattle.std.specs.List.{AllByRecursion}
use Rattle.std.proofs.lemmas.List.{length-map}
use Rattle.std.proofs.lemmas.List.Elements.{All-from_recursion, All-weaker}
use Rattle.pair_pool.specs.Views.{PoolView, PassView}
use Rattle.sym_table.specs.Table.{Table}
use Rattle.term_model.specs.declared.symbols.Sort.{Sort}
use Rattle.term_model.specs.Heights.{height, highest}
use Rattle.term_model.specs.Terms.{Term, not_of}
use Rattle.term_model.proofs.Zips.{zip_length}
use Rattle.term_pool.specs.Views.{TermsView, ReferToAll, KeepsTerms}
use Rattle.sort_check.specs.WellSorted.{IsWellSortedTerm}
use Rattle.rule_model.specs.declared.rules.Rule.{Rule}
use Rattle.rule_model.specs.Conditions.{IsTooWide, Met}
use Rattle.rule_model.specs.Judged.{Judged}
use Rattle.rule_model.specs.WellFormed.{IsLowest}
use Rattle.proof_store.specs.declared.answers.Ratio.{Ratio}
use Rattle.proof_store.specs.Ratios.{fraction_of_ratio}
use Rattle.problem_text.specs.Limits.{most_height}
use Rattle.problem_text.specs.Problems.{StandsForProblem}
use Rattle.problem_text.specs.Scripts.{Script}
use Rattle.problem_text.specs.Soundness.{IsSound, IsRead}
use Rattle.fillers.specs.Books.{reply_bytes}
use Rattle.lia_rows.specs.declared.refuting.Refutation.{Refutation}
use Rattle.lia_rows.specs.Combinations.{AreNarrow, AreSearched, IsPlainCombination}
use Rattle.lia_rows.specs.Refutations.{IsRefutation, HaveNoRefutation}
use Rattle.lia_rows.specs.Rows.{Row, IsRow, AreRowsOf}
use Rattle.lia_rows.specs.Steps.{IsStepBy, used, whole_fraction}
use Rattle.accepted_replies.specs.Refutations.{IsAccepted}
use Rattle.accepted_replies.specs.Replies.{Inference, IsAnswer, IsNegation, MayInfer, judged_inference}
use Rattle.accepted_replies.specs.Texts.{IsTextOfReply}
use Rattle.question_cells.proofs.Membership.{all_have}
use Rattle.question_cells.specs.SymbolTrees.{HaveFewCells}
use Rattle.question_reading.specs.declared.reading.ReadQuestion.{ReadQuestion}
use Rattle.question_reading.specs.Questions.{IsLeftOut, IsReadOf, terms_in}
use Rattle.lia_answers.specs.Filling.{assumed_by, inference_by, AreRefutedBy, IsReplyTo, IsUnanswered, IsAnswerTo, left_out, unrefuted}
use Rattle.lia_answers.specs.Negating.{IsReadInto, IsPoolFull}
use Rattle.lia_answers.proofs.Lists.{assertion_of, of_used, same_clause, of_negations}
use Rattle.lia_answers.proofs.Room.{all_stay, have_negations, holds_more, room_left}

-- what is inferred by references, with whole numbers as coefficients
abbrev pub inferred : List ℕ → List Ratio → Inference ℕ
inferred clause ratios = record { rule = Rule.LaGeneric; clause = clause; ratios = Some (map fraction_of_ratio ratios) }

-- THE LAWS THAT ARE USED

abbrev pub HasOneReading : Type 0
HasOneReading = (source : List ℕ) (replaces : Bool) (s t : Script) → StandsForProblem source replaces s → StandsForProblem source replaces t → s ≡ t

abbrev pub HaveRows : Type 0
HaveRows = (ts : List Term) (rows : List Row) → AreRowsOf ts rows → All IsRow rows

abbrev pub StandThere : Type 0
StandThere = (ts : List Term) (rows : List Row) → AreRowsOf ts rows → All (λ (row : Row). Contains ts row.assertion) rows

abbrev pub AreDenied : Type 0
AreDenied = (ts : List Term) → AllByRecursion (λ l. Any (λ t. IsNegation t l) ts) (map not_of ts)

abbrev pub AreMet : Type 0
AreMet = (rows : List Row) (ms : List ℤ) (j : Judged) → All IsRow rows → IsPlainCombination rows ms → IsStepBy rows ms j → Met j

abbrev pub AreLight : Type 0
AreLight =
    (rows : List Row) (ms : List ℤ) (j : Judged) → All IsRow rows → IsPlainCombination rows ms → IsStepBy rows ms j → AreSearched rows → AreNarrow ms
    → IsTooWide j → ⊥

abbrev pub AreLowest : Type 0
AreLowest = (ms : List ℤ) → AreNarrow ms → All IsLowest (map whole_fraction (used ms ms))

abbrev pub AddTwoCells : Type 0
AddTwoCells =
    (terms ts : List Term) (n : ℕ) → HaveFewCells terms n → ((t : Term) → Contains ts t → Contains terms t)
    → HaveFewCells (map not_of ts ++ terms) (n + 2 * length ts)

abbrev pub AreFew : Type 0
AreFew = (rows : List Row) (ms : List ℤ) → AreSearched rows → length (used ms rows) ≤ 8

-- A REPLY IS AN ANSWER

-- the `not` of an assertion that gives a row is no higher than the limit
low_row : (row : Row) → IsRow row → height (not_of row.assertion) ≤ most_height
unfolding height highest
low_row row is = let low = is.low in omega (arith, low)

-- no more than eight assertions are assumed
pub few_assumed : AreFew → (rows : List Row) (ms : List ℤ) → AreSearched rows → length (assumed_by rows ms) ≤ 8
few_assumed few rows ms searched = let same = length-map (used ms rows) assertion_of in let at_most = few rows ms searched in omega (arith, same, at_most)

module _ (given : HaveRows) (there : StandThere) (denied : AreDenied) (met : AreMet) (light : AreLight) (lowest : AreLowest) (script : Script) (rows : List Row)
    (ms : List ℤ) (refuted : AreRefutedBy script.assertions rows ms) (narrow : AreNarrow ms) where
  step : IsStepBy rows ms (judged_inference (inference_by rows ms))
  step = record { rule = refl; clause = same_clause (used ms rows); premises = refl; ratios = refl }

  pub answer : IsAnswer script (assumed_by rows ms) (inference_by rows ms)
  answer =
      let all = given script.assertions rows refuted.given in
      record {
        asserted = of_used (Contains script.assertions) rows ms (there script.assertions rows refuted.given);
        denied = denied (assumed_by rows ms);
        low =
            of_negations (λ l. height l ≤ most_height) (assumed_by rows ms)
            (of_used (λ t. height (not_of t) ≤ most_height) rows ms
            (All-weaker IsRow (λ (row : Row). height (not_of row.assertion) ≤ most_height) low_row rows all));
        may = record { judged = record { family = _; is = refl }; ratios = inl refl; lowest = lowest ms narrow };
        met = met rows ms (judged_inference (inference_by rows ms)) all refuted.combination step;
        narrow = light rows ms (judged_inference (inference_by rows ms)) all refuted.combination step refuted.searched narrow;
      }

pub accepted_answer : (question : List ℕ)
    → ((bytes : List ℕ) (unknown_are_holes : Bool) → IsReplyTo question bytes → IsAccepted question unknown_are_holes bytes)
    → (found : Option (Vec ℕ Global)) → IsAnswerTo question (reply_bytes found)
    → IfSome found (λ bytes. (unknown_are_holes : Bool) → IsAccepted question unknown_are_holes bytes.items)
accepted_answer question law None is = tt
accepted_answer question law (Some bytes) is = λ unknown_are_holes. law bytes.items unknown_are_holes is

-- A QUESTION HAS NO REPLY WHERE THERE IS A CAUSE

pub not_both : HasOneReading → (question bytes : List ℕ) → IsReplyTo question bytes → IsUnanswered question → ⊥
not_both reading question bytes reply (left_out cause) = reply.not_left_out cause
not_both reading question bytes reply (unrefuted script stands none) =
    let same = reading question false reply.script script reply.stands stands in
    none reply.rows reply.multipliers (subst (λ (t : Script). AreRefutedBy t.assertions reply.rows reply.multipliers) same reply.refuted)

-- WHAT IS FOUND

pub no_reply : (question : List ℕ) (script : Script) → StandsForProblem question false script → HaveNoRefutation script.assertions → IsUnanswered question
no_reply question script stands none = unrefuted script stands (λ rows ms r. none rows r.given r.searched ms r.combination)

module _ {s : Table} {v : TermsView} {ts : List Term} {found : Refutation} (is : IsRefutation s v ts found) where
  -- what the multipliers are as coefficients
  pub same_ratios : (ratios : List Ratio) → map fraction_of_ratio ratios ≡ map whole_fraction found.multipliers.items
      → map fraction_of_ratio ratios ≡ map whole_fraction (used is.multipliers is.multipliers)
  same_ratios ratios e = e ∙ ap (map whole_fraction) is.numbers

  pub may_infer : AreLowest → (clause : List ℕ) (ratios : List Ratio) → map fraction_of_ratio ratios ≡ map whole_fraction found.multipliers.items
      → MayInfer (inferred clause ratios)
  may_infer lowest clause ratios e = record {
    judged = record { family = _; is = refl };
    ratios = inl refl;
    lowest = subst (All IsLowest) (sym (same_ratios ratios e)) (lowest is.multipliers is.narrow);
  }

  pub few_references : AreFew → length found.assertions.items + 2 < 2 ^ 32 - 1
  few_references few =
      let same = zip_length _ found.assertions.items (assumed_by is.rows is.multipliers) is.assertions in
      let at_most = few_assumed few is.rows is.multipliers is.searched in
      omega (arith, same, at_most)

module _ (question : List ℕ) (script : Script) (s : Table) (v : TermsView) (refs : List ℕ) (read : IsReadInto question s v refs script)
    (found : Refutation) (is : IsRefutation s v script.assertions found) where
  pub replied : (w : TermsView) → KeepsTerms v w → (clause : List ℕ)
      → ((ts : List Term) → ReferToAll s v found.assertions.items ts → ReferToAll s w clause (map not_of ts))
      → (ratios : List Ratio) → map fraction_of_ratio ratios ≡ map whole_fraction found.multipliers.items
      → (bytes : List ℕ) → IsTextOfReply s w found.assertions.items (inferred clause ratios) bytes → IsReplyTo question bytes
  replied w keeps clause negated ratios coefficients bytes text =
      let ts = assumed_by is.rows is.multipliers in
      record {
        script = script;
        stands = read.stands;
        not_left_out = read.not_left_out;
        rows = is.rows;
        multipliers = is.multipliers;
        refuted = record { given = is.given; searched = is.searched; combination = is.combination };
        narrow = is.narrow;
        text =
            text script ts (inference_by is.rows is.multipliers) read.sorts (all_stay s v w found.assertions.items ts keeps is.assertions)
            (record { rule = refl; clause = negated ts is.assertions; ratios = ap Some (same_ratios is ratios coefficients) });
      }

  -- The pool is never full: besides the terms of the script at most eight negations stand in it.
  pub never_full : StandThere → AreFew → AllByRecursion (Contains script.terms) script.assertions → HaveFewCells script.terms (length question)
      → AddTwoCells → IsPoolFull s v found.assertions.items → ⊥
  never_full there few asserted cells negations full =
      let ts = assumed_by is.rows is.multipliers in
      let among : AllByRecursion (Contains script.assertions) ts =
      of_used (Contains script.assertions) is.rows is.multipliers (there script.assertions is.rows is.given) in
      let with_negations = negations script.terms ts (length question) cells
      (λ t here. all_have (Contains script.terms) script.assertions t asserted (all_have (Contains script.assertions) ts t among here)) in
      room_left v.pass.places (length question) (length question + 2 * length ts) (length ts) read.room read.places
      (few_assumed few is.rows is.multipliers is.searched) refl
      (full (map not_of ts ++ script.terms) ts (length question + 2 * length ts) is.assertions (have_negations ts script.terms) read.shares
      (holds_more s v.pass (map not_of ts) script.terms read.holds) with_negations)

-- WHAT IS READ

-- references of well-sorted terms are those of some
pub meant : (s : Table) (v : TermsView) (refs : List ℕ) → AllByRecursion (IsWellSortedTerm s v) refs → (ts : List Term) × ReferToAll s v refs ts
meant s v [] all = ([], tt)
meant s v (r ∷ refs) all = let (ts, more) = meant s v refs all.1 in (all.0.means ∷ ts, (all.0.refers, more))

-- the assertions of a script are well sorted
sound_sorts : (s : Table) (v : TermsView) (refs : List ℕ) (ts : List Term) → AllByRecursion (λ t. IsRead (record { tree = t; sort = Sort.Bool })) ts
    → ReferToAll s v refs ts → AllByRecursion (IsWellSortedTerm s v) refs
sound_sorts s v [] ts h refer = tt
sound_sorts s v (r ∷ refs) [] h refer = absurd refer
sound_sorts s v (r ∷ refs) (t ∷ ts) h refer =
    (record { means = t; refers = refer.0; sorted = record { sort = Sort.Bool; of = h.0.sorted } }, sound_sorts s v refs ts h.1 refer.1)

pub sorted_assertions : (script : Script) (s : Table) (v : TermsView) (refs : List ℕ) → IsSound script → ReferToAll s v refs script.assertions
    → All (IsWellSortedTerm s v) refs
sorted_assertions script s v refs sound refer =
    All-from_recursion (IsWellSortedTerm s v) refs (sound_sorts s v refs script.assertions sound.assertions refer)

-- what was read of a question
pub read_into : (question : List ℕ) (q : ReadQuestion) (is : IsReadOf question q) → (IsLeftOut question → ⊥)
    → IsReadInto question q.symbols (terms_in q) q.problem.assertions is.script
read_into question q is read = record {
  stands = is.stands;
  not_left_out = read;
  sorts = sym is.problem.script.sorts;
  assertions = is.problem.assertions;
  holds = is.holds;
  shares = is.shares;
  room = is.room;
  places = is.places;
}

-- a view by its parts
abbrev seen : PoolView → PassView → TermsView
seen pool pass = record { pool = pool; pass = pass }

pub same_view : (v : TermsView) (pool : PoolView) (pass : PassView) → v.pool ≡ pool → v.pass ≡ pass → v ≡ record { pool = pool; pass = pass }
same_view v pool pass e f = ap (λ p. seen p v.pass) e ∙ ap (λ q. seen pool q) f
