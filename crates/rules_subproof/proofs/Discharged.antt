-- What a step discharges are assumes before it, whose clauses are one literal.
use Rattle.std.proofs.Common.{◌≡◌, ◌<◌, ◌+◌, ℕ, List, [], ◌∷◌, ◌++◌, take, slice_get, Option, Some, None, Contains, refl, sym, ◌∙◌, ap, subst, arith}
use Rattle.std.specs.List.{AllByRecursion}
use Rattle.std.proofs.lemmas.List.{append_assoc, map-append}
use Rattle.std.proofs.lemmas.List.Elements.{All-contains, All-from_recursion}
use Rattle.std.proofs.lemmas.Option.{slice_get_within, slice_get-map}
use Rattle.std.specs.Option.{option_map, option_map_or}
use Rattle.term_model.proofs.Lists.{slice_get-left, slice_get-last, all_joined}
use Rattle.rule_model.specs.Proofs.{ProofItems, no_items, with_assume, with_step, with_subproof}
use Rattle.rule_model.specs.Scopes.{Nesting, outermost, inside, at, inner, commands_in, first_index}
use Rattle.rule_model.specs.Commands.{IndexedCommand, assume, step, closing, Line, Entry, entry_of, lines_in, lines_around, lines_to}
use Rattle.rule_model.specs.Reading.{clause_of, discharged_of, clause_at, discharged_at}
use Rattle.rule_model.specs.Visibility.{Sight, sight, direct_assumes, assumes_in}
use Rattle.rule_model.specs.WellFormed.{AreWellFormed}
use Rattle.rule_model.specs.Writing.{MayAddHere}
use Rattle.rule_model.proofs.LineReading.{clause_is, discharged_are}
use Rattle.rule_model.proofs.Lines.{lines_before}
use Rattle.rule_model.proofs.Numbers.{lines_count}
use Rattle.rule_model.proofs.Standing.{command_may, slice_get_taken, taken_few}

module _ {V T : Type 0} where
  -- the line at an index is an assume
  record IsAssumeLine (lines : List (Line V T)) (j : ℕ) : Type 0 where
    line : Line V T
    there : slice_get lines j ≡ Some line
    id : List ℕ
    term : T
    is : line.command ≡ assume id term

  more : (lines others next : List (Line V T)) (js : List ℕ) → next ≡ lines ++ others → AllByRecursion (IsAssumeLine lines) js → AllByRecursion (IsAssumeLine next) js
  more lines others next [] e h = tt
  more lines others next (j ∷ js) e h =
      let first = h.0 in
      (record { line = first.line; there = rw e (slice_get-left lines others j first.line first.there); id = first.id; term = first.term; is = first.is }, more lines others next js e h.1)

  assume_lines : (nesting : Nesting V T) (items : ProofItems V T) → AllByRecursion (IsAssumeLine (lines_around nesting ++ lines_in nesting items)) (assumes_in nesting items)
  assume_lines nesting no_items = tt
  assume_lines nesting (with_assume items id t) =
      let l : Line V T = record { scope = at nesting items; command = assume id t } in
      let lines = lines_around nesting ++ lines_in nesting items in
      let join = sym (append_assoc (lines_around nesting) (lines_in nesting items) (l ∷ [])) in
      let place : slice_get (lines ++ l ∷ []) (first_index nesting + commands_in items) ≡ Some l = subst (λ k. slice_get (lines ++ l ∷ []) k ≡ Some l) (lines_count (at nesting items)) (slice_get-last lines l) in
      subst (AllByRecursion (IsAssumeLine (lines_around nesting ++ (lines_in nesting items ++ l ∷ []))))
      (sym (map-append (λ (c : Sight). c.index) (direct_assumes nesting items) (sight (first_index nesting + commands_in items) id ∷ [])))
      (all_joined _ (assumes_in nesting items) _ (more lines (l ∷ []) _ (assumes_in nesting items) join (assume_lines nesting items))
      (record { line = l; there = rw join place; id = id; term = t; is = refl }, tt))
  assume_lines nesting (with_step items s) =
      let l : Line V T = record { scope = at nesting items; command = step s } in
      more _ (l ∷ []) _ (assumes_in nesting items) (sym (append_assoc (lines_around nesting) (lines_in nesting items) (l ∷ []))) (assume_lines nesting items)
  assume_lines nesting (with_subproof items bindings proof s) =
      let deep = inner nesting items bindings s in
      let l : Line V T = record { scope = at deep proof; command = closing s } in
      more _ (lines_in deep proof ++ l ∷ []) _ (assumes_in nesting items)
      (ap (λ ls. lines_around nesting ++ ls) (append_assoc (lines_in nesting items) (lines_in deep proof) (l ∷ [])) ∙ sym (append_assoc (lines_around nesting) (lines_in nesting items) (lines_in deep proof ++ l ∷ [])))
      (assume_lines nesting items)

  module _ (proof : ProofItems V T) (formed : AreWellFormed outermost proof) where
    -- an assume before, with its term
    pub record IsAssumed (i j : ℕ) : Type 0 where
      pub before : j < i
      pub term : T
      pub clause : clause_at proof j ≡ term ∷ []

    nothing_in : {P : Type 0} (j : ℕ) → Contains [] j → P
    nothing_in j has = let below = has.1 in absurd (omega arith)

    assumed_at : (i : ℕ) (nesting : Nesting V T) (items : ProofItems V T) (c : IndexedCommand T) → slice_get (lines_in outermost proof) i ≡ Some (record { scope = at nesting items; command = c }) → MayAddHere (at nesting items) c → (j : ℕ) → Contains (discharged_of c) j → IsAssumed i j
    assumed_at i nesting items (assume id t) here may j has = nothing_in j has
    assumed_at i nesting items (step s) here may j has = nothing_in j (subst (λ ds. Contains ds j) may.discharged has)
    assumed_at i outermost items (closing s) here may j has = absurd may
    assumed_at i (inside around before anchor) items (closing s) here may j has =
        let l : Line V T = record { scope = at (inside around before anchor) items; command = closing s } in
        let m = All-contains (IsAssumeLine (lines_to l.scope)) (assumes_in (inside around before anchor) items) j
        (All-from_recursion _ (assumes_in (inside around before anchor) items) (assume_lines (inside around before anchor) items))
        (All-contains (Contains (assumes_in (inside around before anchor) items)) s.discharged j may.discharged has) in
        let taken = subst (λ ls. slice_get ls j ≡ Some m.line) (lines_before outermost proof i l here) m.there in
        let within = slice_get_within (take i (lines_in outermost proof)) j m.line taken in
        let few = taken_few i (lines_in outermost proof) in
        record {
          before = omega arith;
          term = m.term;
          clause = clause_is proof j m.line (slice_get_taken i (lines_in outermost proof) j m.line taken) ∙ ap clause_of m.is;
        }

    pub discharged_assumed : (i j : ℕ) → Contains (discharged_at proof i) j → IsAssumed i j
    discharged_assumed i j has = go (slice_get (lines_in outermost proof) i) refl
      where
        go : (o : Option (Line V T)) → slice_get (lines_in outermost proof) i ≡ o → IsAssumed i j
        go None e = nothing_in j (subst (λ ds. Contains ds j) (none e) has)
          where
            none : slice_get (lines_in outermost proof) i ≡ None → discharged_at proof i ≡ []
            none e = ap (λ o. option_map_or (λ (e : Entry T). discharged_of e.command) o []) (slice_get-map entry_of (lines_in outermost proof) i ∙ ap (option_map entry_of) e)
        go (Some l) e = assumed_at i l.scope.nesting l.scope.items l.command e (command_may proof i l formed e) j (subst (λ ds. Contains ds j) (discharged_are proof i l e) has)
