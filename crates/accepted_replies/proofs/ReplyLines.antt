-- Private. The commands of a reply, in file order.
use Rattle.std.proofs.Common.{◌≡◌, ℕ, suc, ◌+◌, Some, List, [], ◌∷◌, ◌++◌, map, length, slice_get, refl, sym, ap, ◌∙◌, subst, arith}
use Rattle.std.specs.List.{AllByRecursion}
use Rattle.std.specs.Prelude.{Contains}
use Rattle.std.proofs.lemmas.List.{append_assoc, append-nil}
use Rattle.term_model.proofs.Lists.{slice_get-left, slice_get-last, contains_head, contains_later}
use Rattle.rule_model.specs.Commands.{Line, assume, step, lines_in}
use Rattle.rule_model.specs.Proofs.{ProofItems, no_items, with_step}
use Rattle.rule_model.specs.Reading.{clause_at}
use Rattle.rule_model.specs.Scopes.{outermost, at, commands_in}
use Rattle.rule_model.proofs.LineReading.{clause_is}
use Rattle.rule_model.proofs.Numbers.{lines_in_count}
use Rattle.printed_proofs.specs.Numbered.{printed_id}
use Rattle.accepted_replies.specs.Replies.{Inference, numbers_from, assumed_behind, assumes_behind, inferring, resolving, reply_of}

module _ {V T : Type 0} where
  -- the lines of the assumes behind some commands
  abbrev pub assume_lines : ProofItems V T → List T → List (Line V T)
  assume_lines items [] = []
  assume_lines items (t ∷ ts) =
      record { scope = at outermost items; command = assume (printed_id (commands_in items)) t } ∷ assume_lines (assumed_behind items t) ts

  pub lines_assumed : (items : ProofItems V T) (ts : List T) → lines_in outermost (assumes_behind items ts) ≡ lines_in outermost items ++ assume_lines items ts
  lines_assumed items [] = sym (append-nil (lines_in outermost items))
  lines_assumed items (t ∷ ts) =
      lines_assumed (assumed_behind items t) ts
      ∙ append_assoc (lines_in outermost items) (record { scope = at outermost items; command = assume (printed_id (commands_in items)) t } ∷ [])
      (assume_lines (assumed_behind items t) ts)

  pub count_assumed : (items : ProofItems V T) (ts : List T) → commands_in (assumes_behind items ts) ≡ commands_in items + length ts
  count_assumed items [] = omega arith
  count_assumed items (t ∷ ts) = let rest = count_assumed (assumed_behind items t) ts in omega (arith, rest)

  -- what is so of the lines of assumes in the outermost scope
  pub record IsAssumeOf (ts : List T) (l : Line V T) : Type 0 where
    pub id : List ℕ
    pub term : T
    pub is : l.command ≡ assume id term
    pub outer : l.scope.nesting ≡ outermost
    pub among : Contains ts term

  later : (t : T) (ts : List T) (ls : List (Line V T)) → AllByRecursion (IsAssumeOf ts) ls → AllByRecursion (IsAssumeOf (t ∷ ts)) ls
  later t ts [] h = tt
  later t ts (l ∷ ls) h =
      (record { id = h.0.id; term = h.0.term; is = h.0.is; outer = h.0.outer; among = contains_later t h.0.term ts h.0.among }, later t ts ls h.1)

  pub lines_are : (items : ProofItems V T) (ts : List T) → AllByRecursion (IsAssumeOf ts) (assume_lines items ts)
  lines_are items [] = tt
  lines_are items (t ∷ ts) = (
    record { id = printed_id (commands_in items); term = t; is = refl; outer = refl; among = contains_head t ts },
    later t ts (assume_lines (assumed_behind items t) ts) (lines_are (assumed_behind items t) ts),
  )

  -- the clauses of the assumes, by their numbers
  pub clauses_assumed : (proof items : ProofItems V T) (ts : List T) (k : ℕ)
      → ((j : ℕ) (l : Line V T) → slice_get (assume_lines items ts) j ≡ Some l → slice_get (lines_in outermost proof) (k + j) ≡ Some l)
      → map (clause_at proof) (numbers_from k (length ts)) ≡ map (λ t. t ∷ []) ts
  clauses_assumed proof items [] k h = refl
  clauses_assumed proof items (t ∷ ts) k h =
      let line : Line V T = record { scope = at outermost items; command = assume (printed_id (commands_in items)) t } in
      let start : k + 0 ≡ k = omega arith in
      let there : slice_get (lines_in outermost proof) k ≡ Some line =
      subst (λ n. slice_get (lines_in outermost proof) n ≡ Some line) start (h 0 line refl) in
      ap (λ c. c ∷ map (clause_at proof) (numbers_from (suc k) (length ts))) (clause_is proof k line there)
      ∙ ap (λ cs. (t ∷ []) ∷ cs)
      (clauses_assumed proof (assumed_behind items t) ts (suc k)
      (λ j l e. let same : k + suc j ≡ suc k + j = omega arith in
      subst (λ n. slice_get (lines_in outermost proof) n ≡ Some l) same (h (suc j) l e)))

module _ (V : Type 0) {T : Type 0} (assumed : List T) (x : Inference T) where
  abbrev before : ProofItems V T
  before = assumes_behind no_items assumed

  abbrev inferred : ProofItems V T
  inferred = with_step before (inferring (length assumed) x)

  abbrev pub step_line : Line V T
  step_line = record { scope = at outermost before; command = step (inferring (length assumed) x) }

  abbrev pub last_line : Line V T
  last_line = record { scope = at outermost inferred; command = step (resolving (length assumed)) }

  pub count_before : commands_in before ≡ length assumed
  count_before = let all = count_assumed {V = V} no_items assumed in omega (arith, all)

  lines_before_count : length (lines_in outermost before) ≡ length assumed
  lines_before_count = lines_in_count outermost before ∙ count_before

  pub assume_at : (j : ℕ) (l : Line V T) → slice_get (assume_lines no_items assumed) j ≡ Some l → slice_get (lines_in outermost (reply_of assumed x)) j ≡ Some l
  assume_at j l e =
      slice_get-left (lines_in outermost before ++ step_line ∷ []) (last_line ∷ []) j l
      (slice_get-left (lines_in outermost before) (step_line ∷ []) j l (subst (λ ls. slice_get ls j ≡ Some l) (sym (lines_assumed no_items assumed)) e))

  pub step_at : slice_get (lines_in outermost (reply_of assumed x)) (length assumed) ≡ Some step_line
  step_at =
      slice_get-left (lines_in outermost before ++ step_line ∷ []) (last_line ∷ []) (length assumed) step_line
      (subst (λ n. slice_get (lines_in outermost before ++ step_line ∷ []) n ≡ Some step_line) lines_before_count
      (slice_get-last (lines_in outermost before) step_line))

  pub count : commands_in (reply_of {V = V} assumed x) ≡ suc (suc (length assumed))
  count = ap (λ n. suc (suc n)) count_before

  pub last_at : slice_get (lines_in outermost (reply_of assumed x)) (suc (length assumed)) ≡ Some last_line
  last_at =
      let same : length (lines_in outermost before ++ step_line ∷ []) ≡ suc (length assumed) =
      lines_in_count outermost inferred ∙ ap suc count_before in
      subst (λ n. slice_get ((lines_in outermost before ++ step_line ∷ []) ++ last_line ∷ []) n ≡ Some last_line) same
      (slice_get-last (lines_in outermost before ++ step_line ∷ []) last_line)
