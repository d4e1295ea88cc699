-- Going from command to command meets the events of a proof scope by scope.
use Rattle.std.proofs.Common.{◌≡◌, ◌⊎◌, inl, inr, ℕ, suc, ◌+◌, ◌<◌, ◌≤◌, nat_le, max, true, false, if◌then◌else◌, List, [], ◌∷◌, ◌++◌}
use Rattle.std.proofs.Common.{refl, sym, ap, ◌∙◌, subst, arith}
use Rattle.std.proofs.lemmas.List.{append_assoc}
use Rattle.std.proofs.lemmas.Bool.Decides.{nat_tests}
use Rattle.std.specs.List.{AllByRecursion}
use Rattle.term_model.specs.Terms.{Var, Term}
use Rattle.term_model.proofs.Lists.{all_joined}
use Rattle.rule_model.specs.Commands.{Line, lines_in}
use Rattle.rule_model.specs.Commands.{assume, step, closing}
use Rattle.rule_model.specs.Proofs.{Step, ProofItems, with_assume, with_step, with_subproof}
use Rattle.rule_model.specs.Proofs as proof
use Rattle.rule_model.specs.Scopes.{Anchor, Nesting, outermost, inside, inner, at, scope_number, subproofs_in}
use Rattle.printed_proofs.specs.FileOrder.{opens, reaches, anchors_above, file_order, scope_events}

none_above : (nesting : Nesting Var Term) (opened : ℕ) → scope_number nesting ≤ opened → anchors_above opened nesting ≡ []
none_above outermost opened low = refl
none_above (inside around before anchor) opened low =
    let test : nat_le (scope_number (inside around before anchor)) opened ≡ true = grind (arith, nat_tests, low) in
    ap (λ b. if b then [] else anchors_above opened around ++ opens (inside around before anchor) ∷ []) test

some_above : (around : Nesting Var Term) (before : ProofItems Var Term) (anchor : Anchor Var Term) (opened : ℕ)
    → opened < scope_number (inside around before anchor)
    → anchors_above opened (inside around before anchor) ≡ anchors_above opened around ++ opens (inside around before anchor) ∷ []
some_above around before anchor opened high =
    let test : nat_le (scope_number (inside around before anchor)) opened ≡ false = grind (arith, nat_tests, high) in
    ap (λ b. if b then [] else anchors_above opened around ++ opens (inside around before anchor) ∷ []) test

-- a scope that is this one, or stands in it
abbrev IsWithin : Nesting Var Term → Nesting Var Term → Type 0
IsWithin here outermost = here ≡ outermost
IsWithin here (inside around before anchor) = (here ≡ inside around before anchor) ⊎ IsWithin here around

itself : (here : Nesting Var Term) → IsWithin here here
itself outermost = refl
itself (inside around before anchor) = inl refl

-- in a scope that is about to open, its anchor comes first
record OpensFirst (here : Nesting Var Term) (opened : ℕ) (nesting : Nesting Var Term) : Type 0 where
  later : scope_number here ≤ scope_number nesting
  first : anchors_above opened nesting ≡ opens here ∷ anchors_above (scope_number here) nesting

own_first : (here : Nesting Var Term) (opened : ℕ) → anchors_above opened here ≡ opens here ∷ [] → OpensFirst here opened here
own_first here opened alone = record {
  later = omega arith;
  first = alone ∙ ap (λ es. opens here ∷ es) (sym (none_above here (scope_number here) (omega arith)));
}

opens_first : (here nesting : Nesting Var Term) (opened : ℕ) → IsWithin here nesting → opened < scope_number here
    → anchors_above opened here ≡ opens here ∷ [] → OpensFirst here opened nesting
opens_first here outermost opened same high alone = subst (λ n. OpensFirst here opened n) same (own_first here opened alone)
opens_first here (inside around before anchor) opened (inl same) high alone = subst (λ n. OpensFirst here opened n) same (own_first here opened alone)
opens_first here (inside around before anchor) opened (inr within) high alone =
    let h = opens_first here around opened within high alone in
    let l = h.later in
    let more : scope_number here < scope_number (inside around before anchor) = omega (arith, l) in
    record {
      later = omega (arith, more);
      first =
          some_above around before anchor opened (omega (arith, more, high))
          ∙ (ap (λ es. es ++ opens (inside around before anchor) ∷ []) h.first
          ∙ ap (λ es. opens here ∷ es) (sym (some_above around before anchor (scope_number here) more)));
    }

all_within : (here nesting : Nesting Var Term) (items : ProofItems Var Term) → IsWithin here nesting
    → AllByRecursion (λ (l : Line Var Term). IsWithin here l.scope.nesting) (lines_in nesting items)
all_within here nesting proof.no_items within = tt
all_within here nesting (with_assume items id t) within = all_joined _ (lines_in nesting items) _ (all_within here nesting items within) (within, tt)
all_within here nesting (with_step items s) within = all_joined _ (lines_in nesting items) _ (all_within here nesting items within) (within, tt)
all_within here nesting (with_subproof items bindings inside_items s) within =
    let deep : IsWithin here (inner nesting items bindings s) = inr within in
    all_joined _ (lines_in nesting items ++ lines_in (inner nesting items bindings s) inside_items) _
    (all_joined _ (lines_in nesting items) _ (all_within here nesting items within)
    (all_within here (inner nesting items bindings s) inside_items deep)) (deep, tt)

-- the first command of a scope that is about to open
first_reached : (here : Nesting Var Term) (opened : ℕ) (l : Line Var Term) (ls : List (Line Var Term)) → opened < scope_number here
    → anchors_above opened here ≡ opens here ∷ [] → IsWithin here l.scope.nesting
    → file_order opened (l ∷ ls) ≡ opens here ∷ file_order (scope_number here) (l ∷ ls)
first_reached here opened l ls high alone within =
    let h = opens_first here l.scope.nesting opened within high alone in
    let k = h.later in
    let greatest : max opened (scope_number l.scope.nesting) ≡ max (scope_number here) (scope_number l.scope.nesting) = grind (arith, k, high) in
    ap (λ n. anchors_above opened l.scope.nesting ++ (reaches l ∷ file_order n ls)) greatest
    ∙ ap (λ es. es ++ (reaches l ∷ file_order (max (scope_number here) (scope_number l.scope.nesting)) ls)) h.first

scope_first : (here : Nesting Var Term) (opened : ℕ) (ms : List (Line Var Term)) (l : Line Var Term) (ls : List (Line Var Term))
    → opened < scope_number here → anchors_above opened here ≡ opens here ∷ [] → AllByRecursion (λ (m : Line Var Term). IsWithin here m.scope.nesting) ms
    → IsWithin here l.scope.nesting → file_order opened (ms ++ (l ∷ ls)) ≡ opens here ∷ file_order (scope_number here) (ms ++ (l ∷ ls))
scope_first here opened [] l ls high alone all within = first_reached here opened l ls high alone within
scope_first here opened (m ∷ ms) l ls high alone all within = first_reached here opened m (ms ++ (l ∷ ls)) high alone all.0

-- one command that opens nothing
one_reached : (l : Line Var Term) (ls : List (Line Var Term)) (opened : ℕ) → scope_number l.scope.nesting ≤ opened
    → file_order opened (l ∷ ls) ≡ reaches l ∷ file_order opened ls
one_reached l ls opened low =
    let greatest : max opened (scope_number l.scope.nesting) ≡ opened = grind (arith, low) in
    ap (λ es. es ++ (reaches l ∷ file_order (max opened (scope_number l.scope.nesting)) ls)) (none_above l.scope.nesting opened low)
    ∙ ap (λ n. reaches l ∷ file_order n ls) greatest

pub in_file_order : (nesting : Nesting Var Term) (items : ProofItems Var Term) (ls : List (Line Var Term))
    → file_order (scope_number nesting) (lines_in nesting items ++ ls)
    ≡ scope_events nesting items ++ file_order (scope_number nesting + subproofs_in items) ls
in_file_order nesting proof.no_items ls = ap (λ n. file_order n ls) (omega arith)
in_file_order nesting (with_assume items id t) ls =
    let l : Line Var Term = record { scope = at nesting items; command = assume id t } in
    let n : ℕ = scope_number nesting + subproofs_in items in
    ap (file_order (scope_number nesting)) (append_assoc (lines_in nesting items) (l ∷ []) ls)
    ∙ (in_file_order nesting items (l ∷ ls)
    ∙ (ap (λ es. scope_events nesting items ++ es) (one_reached l ls n (omega arith))
    ∙ sym (append_assoc (scope_events nesting items) (reaches l ∷ []) (file_order n ls))))
in_file_order nesting (with_step items s) ls =
    let l : Line Var Term = record { scope = at nesting items; command = step s } in
    let n : ℕ = scope_number nesting + subproofs_in items in
    ap (file_order (scope_number nesting)) (append_assoc (lines_in nesting items) (l ∷ []) ls)
    ∙ (in_file_order nesting items (l ∷ ls)
    ∙ (ap (λ es. scope_events nesting items ++ es) (one_reached l ls n (omega arith))
    ∙ sym (append_assoc (scope_events nesting items) (reaches l ∷ []) (file_order n ls))))
in_file_order nesting (with_subproof items bindings within s) ls =
    let here : Nesting Var Term = inner nesting items bindings s in
    let l : Line Var Term = record { scope = at here within; command = closing s } in
    let n : ℕ = scope_number nesting + subproofs_in items in
    let m : ℕ = scope_number here + subproofs_in within in
    let alone : anchors_above n here ≡ opens here ∷ [] =
    some_above nesting items _ n (omega arith) ∙ ap (λ es. es ++ opens here ∷ []) (none_above nesting n (omega arith)) in
    let last : m ≡ scope_number nesting + suc (subproofs_in items + subproofs_in within) = omega arith in
    ap (file_order (scope_number nesting))
    (append_assoc (lines_in nesting items ++ lines_in here within) (l ∷ []) ls ∙ append_assoc (lines_in nesting items) (lines_in here within) (l ∷ ls))
    ∙ (in_file_order nesting items (lines_in here within ++ (l ∷ ls))
    ∙ (ap (λ es. scope_events nesting items ++ es)
    (scope_first here n (lines_in here within) l ls (omega arith) alone (all_within here here within (itself here)) (itself here)
    ∙ ap (λ es. opens here ∷ es)
    (in_file_order here within (l ∷ ls)
    ∙ (ap (λ es. scope_events here within ++ es) (one_reached l ls m (omega arith) ∙ ap (λ k. reaches l ∷ file_order k ls) last)
    ∙ sym (append_assoc (scope_events here within) (reaches l ∷ []) _))))
    ∙ sym (append_assoc (scope_events nesting items) (opens here ∷ (scope_events here within ++ reaches l ∷ [])) _)))
