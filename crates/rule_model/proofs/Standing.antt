-- Each command of a well-formed proof may stand where it is reached, and its premises stand before it.
use Rattle.std.proofs.Common.{◌≡◌, ◌<◌, ◌≤◌, ℕ, zero, suc, List, [], ◌∷◌, ◌++◌, length, take, slice_get, Some, Contains, refl, sym, ◌∙◌, subst, arith, ap, map, get_or}
use Rattle.std.specs.List.{AllByRecursion}
use Rattle.std.specs.Option.{option_map_or}
use Rattle.std.proofs.lemmas.List.{length-append, get_or_default}
use Rattle.std.proofs.lemmas.Option.{slice_get_within}
use Rattle.std.proofs.lemmas.List.Elements.{Contains-push}
use Rattle.term_model.proofs.Lists.{slice_get-left, all_joined}
use Rattle.rule_model.specs.Proofs.{ProofItems, no_items, with_assume, with_step, with_subproof}
use Rattle.rule_model.specs.Scopes.{Nesting, outermost, inside, Scope, at, inner, scope_number, commands_in}
use Rattle.rule_model.specs.Commands.{IndexedCommand, assume, step, closing, Line, lines_in, lines_around, lines_to, own_scope, entry_of}
use Rattle.rule_model.specs.Reading.{premises_of, premises_at}
use Rattle.rule_model.specs.Visibility.{visible, open_scopes}
use Rattle.rule_model.specs.WellFormed.{AreWellFormed, IsWellFormed}
use Rattle.rule_model.specs.Writing.{add_command, MayAddHere, own_nesting}
use Rattle.rule_model.proofs.Lines.{lines_before}
use Rattle.rule_model.proofs.Sights.{IsOpenAt, own, outside, Opens, IsSeen, visible_seen}

pub all_at : {X : Type 0} (P : X → Type 0) (xs : List X) (i : ℕ) (x : X) → AllByRecursion P xs → slice_get xs i ≡ Some x → P x
all_at P [] i x h at = absurd (cc)
all_at P (y ∷ ys) zero x h at = subst P (some_same at) h.0
  where
    some_same : {Y : Type 0} {a b : Y} → Some a ≡ Some b → a ≡ b
    some_same e = cc
all_at P (y ∷ ys) (suc i) x h at = all_at P ys i x h.1 at

pub slice_get_taken : {X : Type 0} (n : ℕ) (xs : List X) (k : ℕ) (x : X) → slice_get (take n xs) k ≡ Some x → slice_get xs k ≡ Some x
slice_get_taken zero xs k x e = absurd (cc)
slice_get_taken (suc n) [] k x e = absurd (cc)
slice_get_taken (suc n) (y ∷ xs) zero x e = e
slice_get_taken (suc n) (y ∷ xs) (suc k) x e = slice_get_taken n xs k x e

pub taken_few : {X : Type 0} (n : ℕ) (xs : List X) → length (take n xs) ≤ n
taken_few zero xs = omega arith
taken_few (suc n) [] = omega arith
taken_few (suc n) (x ∷ xs) = let ih = taken_few n xs in omega arith

-- each command may stand where it is reached
lines_may : {V T : Type 0} (nesting : Nesting V T) (items : ProofItems V T) → AreWellFormed nesting items → AllByRecursion (λ l. MayAddHere l.scope l.command) (lines_in nesting items)
lines_may nesting no_items h = tt
lines_may nesting (with_assume items id t) h = all_joined _ (lines_in nesting items) _ (lines_may nesting items h.0) (h.1, tt)
lines_may nesting (with_step items s) h = all_joined _ (lines_in nesting items) _ (lines_may nesting items h.0) (h.1, tt)
lines_may nesting (with_subproof items bindings proof s) h =
    all_joined _ (lines_in nesting items ++ lines_in (inner nesting items bindings s) proof) _
    (all_joined _ (lines_in nesting items) _ (lines_may nesting items h.0) (lines_may (inner nesting items bindings s) proof h.2))
    (h.3, tt)

pub command_may : {V T : Type 0} (proof : ProofItems V T) (i : ℕ) (l : Line V T) → AreWellFormed outermost proof → slice_get (lines_in outermost proof) i ≡ Some l → MayAddHere l.scope l.command
command_may proof i l h e = all_at (λ l. MayAddHere l.scope l.command) (lines_in outermost proof) i l (lines_may outermost proof h) e

contains_more : (xs ys : List ℕ) (x : ℕ) → Contains xs x → Contains (xs ++ ys) x
contains_more xs ys x (k, h, e) =
    (k, rw (length-append xs ys) (omega arith), Rattle.std.proofs.Math.ListN.get_or-append xs ys x k h ∙ e)

own_open : {V T : Type 0} (nesting : Nesting V T) → Contains (open_scopes nesting) (scope_number nesting)
own_open outermost = (0, omega arith, refl)
own_open (inside around before anchor) = Contains-push (open_scopes around) _

-- the number of an open scope is one of theirs
number_open : {V T : Type 0} (scope : Scope V T) (nesting : Nesting V T) (items : ProofItems V T) → IsOpenAt scope nesting items → Contains (open_scopes nesting) (scope_number scope.nesting)
number_open _ _ _ (own nesting items more f) = own_open nesting
number_open _ _ _ (outside scope around before anchor items o) =
    contains_more (open_scopes around) _ _ (number_open scope around before o)

pub own_number : {V T : Type 0} (nesting : Nesting V T) (items : ProofItems V T) (c : IndexedCommand T) → scope_number (add_command (at nesting items) c).nesting ≡ own_scope nesting c
own_number nesting items (assume id t) = refl
own_number nesting items (step s) = refl
own_number outermost items (closing s) = refl
own_number (inside around before anchor) items (closing s) = refl

-- a premise of a command is visible where the command belongs
pub premise_seen : {V T : Type 0} (scope : Scope V T) (c : IndexedCommand T) (j : ℕ) → MayAddHere scope c → Contains (premises_of c) j → (before : ProofItems V T) × IsSeen (Opens (own_nesting scope.nesting c) before) (lines_to scope) j
premise_seen scope (assume id t) j may has = let none = has.1 in absurd (omega arith)
premise_seen scope (step s) j may has =
    (scope.items, visible_seen scope.nesting scope.items j (subst (Contains (visible scope.nesting scope.items)) has.2 (may.premises has.0 j has.1)))
premise_seen {V} {T} scope (closing s) j may has = close scope.nesting scope.items may
  where
    close : (nesting : Nesting V T) (items : ProofItems V T) → MayAddHere (at nesting items) (closing s) → (before : ProofItems V T) × IsSeen (Opens (own_nesting nesting (closing s)) before) (lines_to (at nesting items)) j
    close outermost items may = absurd may
    close (inside around before anchor) items may =
        let out = visible_seen around before j (subst (Contains (visible around before)) has.2 (may.premises has.0 j has.1)) in
        (before, (out.0, slice_get-left (lines_around around ++ lines_in around before) (lines_in (inside around before anchor) items) j out.0 out.1, out.2))

pub premise_visible : {V T : Type 0} (scope : Scope V T) (c : IndexedCommand T) (j : ℕ) → MayAddHere scope c → Contains (premises_of c) j → (l : Line V T) × (slice_get (lines_to scope) j ≡ Some l) × Contains (open_scopes (own_nesting scope.nesting c)) (own_scope l.scope.nesting l.command)
premise_visible scope c j may has =
    let out = premise_seen scope c j may has in
    (out.1.0, out.1.1, subst (Contains (open_scopes (own_nesting scope.nesting c))) (own_number out.1.0.scope.nesting out.1.0.scope.items out.1.0.command) (number_open _ _ _ out.1.2))

pub premise_earlier : {V T : Type 0} (proof : ProofItems V T) (i j : ℕ) (l : Line V T) → AreWellFormed outermost proof → slice_get (lines_in outermost proof) i ≡ Some l → Contains (premises_of l.command) j → j < i
premise_earlier proof i j l h e has =
    let out = premise_visible l.scope l.command j (command_may proof i l h e) has in
    let before = lines_before outermost proof i l e in
    let within = slice_get_within (take i (lines_in outermost proof)) j out.0 (subst (λ ls. slice_get ls j ≡ Some out.0) before out.1) in
    let few = taken_few i (lines_in outermost proof) in omega arith

pub premise_encloses : {V T : Type 0} (proof : ProofItems V T) (i j : ℕ) (l m : Line V T) → AreWellFormed outermost proof → slice_get (lines_in outermost proof) i ≡ Some l → Contains (premises_of l.command) j → slice_get (lines_in outermost proof) j ≡ Some m → Contains (open_scopes (own_nesting l.scope.nesting l.command)) (own_scope m.scope.nesting m.command)
premise_encloses {V} {T} proof i j l m h e has there_is =
    let out = premise_visible l.scope l.command j (command_may proof i l h e) has in
    let before = lines_before outermost proof i l e in
    let there = slice_get_taken i (lines_in outermost proof) j out.0 (subst (λ ls. slice_get ls j ≡ Some out.0) before out.1) in
    subst (λ (x : Line V T). Contains (open_scopes (own_nesting l.scope.nesting l.command)) (own_scope x.scope.nesting x.command)) (some_same (sym there ∙ there_is)) out.2
  where
    some_same : {Y : Type 0} {a b : Y} → Some a ≡ Some b → a ≡ b
    some_same e = cc

-- a premise is that of the command at its place, and the index of a command
pub premise_line : (ls : List (Line ℕ ℕ)) (i k : ℕ) → k < length (option_map_or (λ e. premises_of e.command) (slice_get (map entry_of ls) i) [])
    → (l : Line ℕ ℕ) × (slice_get ls i ≡ Some l) × (premises_of l.command ≡ option_map_or (λ e. premises_of e.command) (slice_get (map entry_of ls) i) [])
premise_line [] i k h = absurd (omega (arith, h))
premise_line (l ∷ ls) zero k h = (l, refl, refl)
premise_line (l ∷ ls) (suc i) k h = premise_line ls i k h

pub premise_within : (proof : ProofItems ℕ ℕ) (i k d : ℕ) → IsWellFormed proof → i < commands_in proof → k < length (premises_at proof i) → get_or (premises_at proof i) k d < commands_in proof
premise_within proof i k d formed h within =
    let line = premise_line (lines_in outermost proof) i k within in
    let size : length (premises_of line.0.command) ≡ length (premises_at proof i) = ap length line.2 in
    let below : k < length (premises_of line.0.command) = omega arith in
    let here : get_or (premises_of line.0.command) k (get_or (premises_at proof i) k d) ≡ get_or (premises_at proof i) k d =
    ap (λ (js : List ℕ). get_or js k (get_or (premises_at proof i) k d)) line.2 ∙ get_or_default (premises_at proof i) k (get_or (premises_at proof i) k d) d within in
    let earlier = premise_earlier proof i (get_or (premises_at proof i) k d) line.0 formed line.1 (k, below, here) in
    omega arith
