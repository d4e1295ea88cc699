-- What is met next, from the beginning of a proof on.
use Rattle.std.proofs.Common.{◌≡◌, ◌<◌, ◌≤◌, ℕ, suc, ◌+◌, nat_eq, nat_lt, Bool, true, false, if◌then◌else◌, List, [], ◌∷◌, ◌++◌, refl, sym, ap, ◌∙◌, subst}
use Rattle.std.proofs.Common.{arith}
use Rattle.std.proofs.lemmas.List.{append_assoc, append-nil, length-append}
use Rattle.std.proofs.lemmas.Bool.Decides.{nat_tests}
use Rattle.std.specs.List.{AllByRecursion}
use Rattle.term_model.specs.Terms.{Var, Term}
use Rattle.term_model.proofs.Lists.{all_joined}
use Rattle.rule_model.specs.Commands.{Line, assume, step, closing, lines_in, ScopeEntry, scope_entry, scopes_in}
use Rattle.rule_model.specs.Proofs.{ProofItems, with_assume, with_step, with_subproof}
use Rattle.rule_model.specs.Proofs as proof
use Rattle.rule_model.specs.Scopes.{Nesting, outermost, inner, at, scope_number, first_index, next_index, last_index, commands_in, subproofs_in}
use Rattle.rule_model.proofs.Numbers.{lines_in_count}
use Rattle.printed_proofs.specs.FileOrder.{Event, opens, reaches, scope_events, AreClosedBy}
use Rattle.alethe_printer.specs.Places.{closing_index, IsClosing, StandsIn, AreNext, AreLeft}

-- the index of the command that closes a scope, as a table
module _ (f : ℕ → ℕ) where
  abbrev AgreesIn : Nesting Var Term → ProofItems Var Term → Type 0
  AgreesIn nesting items = (k : ℕ) → scope_number nesting < k → k ≤ scope_number nesting + subproofs_in items → f k ≡ closing_index nesting items k

  closed_by : (nesting : Nesting Var Term) (items : ProofItems Var Term) → AgreesIn nesting items → AreClosedBy f nesting items
  closed_by nesting proof.no_items h = tt
  closed_by nesting (with_assume items id t) h = closed_by nesting items h
  closed_by nesting (with_step items s) h = closed_by nesting items h
  closed_by nesting (with_subproof items bindings within s) h =
      let here : Nesting Var Term = inner nesting items bindings s in
      let own : ℕ = first_index nesting + commands_in items + commands_in within in
      let pick = λ (k : ℕ) (b c : Bool). if b then closing_index nesting items k else (if c then own else closing_index here within k) in (
        closed_by nesting items (λ k above most.
            let test : nat_lt k (scope_number here) ≡ true = grind (arith, nat_tests, most) in
            h k above (omega (arith, most)) ∙ ap (λ b. pick k b (nat_eq k (scope_number here))) test),
        (let not_below : nat_lt (scope_number here) (scope_number here) ≡ false = grind (arith, nat_tests) in
            let same : nat_eq (scope_number here) (scope_number here) ≡ true = grind (arith, nat_tests) in
            h (scope_number here) (omega arith) (omega arith) ∙ (ap (λ b. pick (scope_number here) b (nat_eq (scope_number here) (scope_number here))) not_below
            ∙ ap (λ c. pick (scope_number here) false c) same)),
        closed_by here within (λ k above most.
            let not_below : nat_lt k (scope_number here) ≡ false = grind (arith, nat_tests, above) in
            let other : nat_eq k (scope_number here) ≡ false = grind (arith, nat_tests, above) in
            h k (omega (arith, above)) (omega (arith, most)) ∙ (ap (λ b. pick k b (nat_eq k (scope_number here))) not_below
            ∙ ap (λ c. pick k false c) other)),
      )

pub closed_by_index : (of : ProofItems Var Term) → AreClosedBy (closing_index outermost of) outermost of
closed_by_index of = closed_by (closing_index outermost of) outermost of (λ k above most. refl)

-- the first command of a scope stands in it
deep_lines : (number : ℕ) (nesting : Nesting Var Term) (items : ProofItems Var Term) → number ≤ scope_number nesting
    → AllByRecursion (λ (l : Line Var Term). number ≤ scope_number l.scope.nesting) (lines_in nesting items)
deep_lines number nesting proof.no_items low = tt
deep_lines number nesting (with_assume items id t) low = all_joined _ (lines_in nesting items) _ (deep_lines number nesting items low) (low, tt)
deep_lines number nesting (with_step items s) low = all_joined _ (lines_in nesting items) _ (deep_lines number nesting items low) (low, tt)
deep_lines number nesting (with_subproof items bindings within s) low =
    let here : Nesting Var Term = inner nesting items bindings s in
    let deeper : number ≤ scope_number here = omega (arith, low) in
    all_joined _ (lines_in nesting items ++ lines_in here within) _
    (all_joined _ (lines_in nesting items) _ (deep_lines number nesting items low) (deep_lines number here within deeper)) (deeper, tt)

first_deep : (number : ℕ) (ms : List (Line Var Term)) (l : Line Var Term) (ls : List (Line Var Term))
    → AllByRecursion (λ (m : Line Var Term). number ≤ scope_number m.scope.nesting) ms → number ≤ scope_number l.scope.nesting
    → StandsIn number (ms ++ (l ∷ ls))
first_deep number [] l ls all low = low
first_deep number (m ∷ ms) l ls all low = all.0

-- the closing step stands behind the last command directly inside
closes_behind : (here : Nesting Var Term) (within : ProofItems Var Term) → IsClosing (first_index here) (last_index here within)
    (first_index here + commands_in within)
closes_behind here proof.no_items = omega arith
closes_behind here (with_assume items id t) = omega arith
closes_behind here (with_step items s) = omega arith
closes_behind here (with_subproof items bindings inside_items s) = omega arith

-- the items of a scope are met, and then others
module _ (f : ℕ → ℕ) where
  abbrev Meets : ℕ → ℕ → List (Line Var Term) → List (ScopeEntry Var Term) → List Event → Type 0
  Meets opened next lines entries es = AreNext f opened next lines entries es

  line_met : (l : Line Var Term) (opened next : ℕ) (lines : List (Line Var Term)) (entries : List (ScopeEntry Var Term)) (es : List Event)
      → next_index l.scope ≡ next → scope_number l.scope.nesting ≤ opened → Meets opened (suc next) lines entries es
      → Meets opened next (l ∷ lines) entries (reaches l ∷ es)
  line_met l opened next lines entries es index low h = (record { same = refl; index = index; open_already = low }, h)

  pub meets : (nesting : Nesting Var Term) (items : ProofItems Var Term) (lines : List (Line Var Term)) (entries : List (ScopeEntry Var Term))
      (es : List Event) → AreClosedBy f nesting items
      → Meets (scope_number nesting + subproofs_in items) (first_index nesting + commands_in items) lines entries es
      → Meets (scope_number nesting) (first_index nesting) (lines_in nesting items ++ lines) (scopes_in nesting items ++ entries)
      (scope_events nesting items ++ es)
  meets nesting proof.no_items lines entries es closed h =
      let a : scope_number nesting + 0 ≡ scope_number nesting = omega arith in
      let b : first_index nesting + 0 ≡ first_index nesting = omega arith in
      subst (λ n. Meets (scope_number nesting) n lines entries es) b (subst (λ n. Meets n (first_index nesting + 0) lines entries es) a h)
  meets nesting (with_assume items id t) lines entries es closed h =
      let l : Line Var Term = record { scope = at nesting items; command = assume id t } in
      let more : first_index nesting + suc (commands_in items) ≡ suc (first_index nesting + commands_in items) = omega arith in
      let deeper = meets nesting items (l ∷ lines) entries (reaches l ∷ es) closed
      (line_met l (scope_number nesting + subproofs_in items) (first_index nesting + commands_in items) lines entries es refl (omega arith)
      (subst (λ n. Meets (scope_number nesting + subproofs_in items) n lines entries es) more h)) in
      subst (λ xs. Meets (scope_number nesting) (first_index nesting) xs (scopes_in nesting items ++ entries)
      ((scope_events nesting items ++ reaches l ∷ []) ++ es))
      (sym (append_assoc (lines_in nesting items) (l ∷ []) lines))
      (subst (λ xs. Meets (scope_number nesting) (first_index nesting) (lines_in nesting items ++ (l ∷ lines)) (scopes_in nesting items ++ entries) xs)
      (sym (append_assoc (scope_events nesting items) (reaches l ∷ []) es)) deeper)
  meets nesting (with_step items s) lines entries es closed h =
      let l : Line Var Term = record { scope = at nesting items; command = step s } in
      let more : first_index nesting + suc (commands_in items) ≡ suc (first_index nesting + commands_in items) = omega arith in
      let deeper = meets nesting items (l ∷ lines) entries (reaches l ∷ es) closed
      (line_met l (scope_number nesting + subproofs_in items) (first_index nesting + commands_in items) lines entries es refl (omega arith)
      (subst (λ n. Meets (scope_number nesting + subproofs_in items) n lines entries es) more h)) in
      subst (λ xs. Meets (scope_number nesting) (first_index nesting) xs (scopes_in nesting items ++ entries)
      ((scope_events nesting items ++ reaches l ∷ []) ++ es))
      (sym (append_assoc (lines_in nesting items) (l ∷ []) lines))
      (subst (λ xs. Meets (scope_number nesting) (first_index nesting) (lines_in nesting items ++ (l ∷ lines)) (scopes_in nesting items ++ entries) xs)
      (sym (append_assoc (scope_events nesting items) (reaches l ∷ []) es)) deeper)
  meets nesting (with_subproof items bindings within s) lines entries es closed h =
      let here : Nesting Var Term = inner nesting items bindings s in
      let l : Line Var Term = record { scope = at here within; command = closing s } in
      let e : ScopeEntry Var Term = scope_entry here within in
      let n : ℕ = scope_number nesting + subproofs_in items in
      let opened_now : scope_number nesting + suc (subproofs_in items + subproofs_in within) ≡ scope_number here + subproofs_in within = omega arith in
      let next_now : first_index nesting + suc (commands_in items + commands_in within) ≡ suc (first_index here + commands_in within) = omega arith in
      let last = line_met l (scope_number here + subproofs_in within) (first_index here + commands_in within) lines entries es refl (omega arith)
      (subst (λ k. Meets (scope_number here + subproofs_in within) k lines entries es) next_now
      (subst (λ k. Meets k (first_index nesting + suc (commands_in items + commands_in within)) lines entries es) opened_now h)) in
      let inside = meets here within (l ∷ lines) entries (reaches l ∷ es) closed.2 last in
      let first = meets nesting items (lines_in here within ++ (l ∷ lines)) (e ∷ (scopes_in here within ++ entries))
      (opens here ∷ (scope_events here within ++ (reaches l ∷ es))) closed.0 (
        record {
          number = refl;
          bindings = refl;
          closing = subst (λ k. IsClosing (first_index here) (last_index here within) k) (sym closed.1) (closes_behind here within);
          within =
              let count = length-append (lines_in here within) (l ∷ lines) in
              let own = lines_in_count here within in
              let is = closed.1 in omega arith;
          deep = first_deep (suc n) (lines_in here within) l lines (deep_lines (suc n) here within (omega arith)) (omega arith);
        },
        inside,
      ) in
      subst (λ xs. Meets (scope_number nesting) (first_index nesting) xs ((scopes_in nesting items ++ (e ∷ scopes_in here within)) ++ entries)
      ((scope_events nesting items ++ (opens here ∷ (scope_events here within ++ reaches l ∷ []))) ++ es))
      (sym (append_assoc (lines_in nesting items ++ lines_in here within) (l ∷ []) lines ∙ append_assoc (lines_in nesting items) (lines_in here within)
      (l ∷ lines)))
      (subst (λ xs. Meets (scope_number nesting) (first_index nesting) (lines_in nesting items ++ (lines_in here within ++ (l ∷ lines))) xs
      ((scope_events nesting items ++ (opens here ∷ (scope_events here within ++ reaches l ∷ []))) ++ es))
      (sym (append_assoc (scopes_in nesting items) (e ∷ scopes_in here within) entries))
      (subst (λ xs. Meets (scope_number nesting) (first_index nesting) (lines_in nesting items ++ (lines_in here within ++ (l ∷ lines)))
      (scopes_in nesting items ++ ((e ∷ scopes_in here within) ++ entries)) xs)
      (sym (append_assoc (scope_events nesting items) (opens here ∷ (scope_events here within ++ reaches l ∷ [])) es
      ∙ ap (λ xs. scope_events nesting items ++ (opens here ∷ xs)) (append_assoc (scope_events here within) (reaches l ∷ []) es))) first))

-- at the beginning all is left
pub all_left : (of : ProofItems Var Term) → AreLeft of 0 0 (scope_events outermost of)
all_left of =
    let f : ℕ → ℕ = closing_index outermost of in
    let h = meets f outermost of [] [] [] (closed_by_index of) refl in
    subst (λ xs. AreNext f 0 0 xs (scopes_in outermost of) (scope_events outermost of)) (append-nil (lines_in outermost of))
    (subst (λ xs. AreNext f 0 0 (lines_in outermost of ++ []) xs (scope_events outermost of)) (append-nil (scopes_in outermost of))
    (subst (λ xs. AreNext f 0 0 (lines_in outermost of ++ []) (scopes_in outermost of ++ []) xs) (append-nil (scope_events outermost of)) h))
