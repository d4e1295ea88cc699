-- A printed command adds itself to what is written, with its number as its id.
use Rattle.std.proofs.Common.{◌≡◌, inl, inr, ℕ, ◌+◌, ◌<◌, ◌≤◌, ◌^◌, Bool, true, false, ◌==◌, List, [], ◌∷◌, map, Contains, All}
use Rattle.std.proofs.Common.{bytes_eq, eqb-true, refl, sym, ap, ◌∙◌, subst, arith}
use Rattle.std.specs.List.{AllByRecursion, AllZip, list_all}
use Rattle.std.proofs.lemmas.List.Sums.{AllPass-from_list_all}
use Rattle.std.proofs.lemmas.List.Elements.{All-head, All-tail}
use Rattle.std.proofs.lemmas.Slice.Eq.{bytes_eq-Decides}
use Rattle.sexpr.specs.Characters.{is_between_bars}
use Rattle.sexpr.specs.Items.{Item, Items}
use Rattle.sexpr.specs.Printed.{IsSymbolItem, AreSpelledItems, printed_lines}
use Rattle.sexpr.proofs.PrintedItems.{symbol_is}
use Rattle.term_model.specs.Terms.{Var, Term}
use Rattle.term_model.proofs.Lists.{contains_head, contains_later}
use Rattle.rule_model.specs.Proofs.{Step, ProofItems, with_subproof}
use Rattle.rule_model.specs.RuleNames.{IsSymbolName, left_out_rules}
use Rattle.rule_model.specs.Scopes.{Anchor, Nesting, outermost, inside, inner, Scope, at, first_index, commands_in, next_index}
use Rattle.rule_model.specs.Visibility.{Sight, seen, visible, assumes_in, direct_assumes}
use Rattle.rule_model.specs.WellFormed.{MayStand, MayClose}
use Rattle.rule_model.specs.Writing.{unwritten, add_assume, add_step, close_scope, take_step, open_anchor}
use Rattle.problem_text.specs.Scripts.{Script}
use Rattle.problem_text.specs.Words.{is_among}
use Rattle.alethe_text.specs.Ids.{stands_in, closes_scope}
use Rattle.alethe_text.specs.PrintedCommands.{assume_item, step_item, anchor_item, ArgumentItems, printed_arguments, Written, ItemLeads, LeadAll}
use Rattle.alethe_text.specs.PrintedCommands.{BeginsAsProof, IsFormulaItem, IsStepRead, IsSeenAs, AreArgumentItems}
use Rattle.alethe_text.specs.ProofTexts.{StandsForProof}
use Rattle.alethe_text.specs.States.{ProofSettings}
use Rattle.alethe_text.proofs.PrintedProofs.{assume_leads, step_leads, anchor_leads, text_led}
use Rattle.printed_proofs.specs.Numbered.{printed_id, numbered_step, numbered, numbered_proof, numbered_nesting, numbered_scope, CloseEach, AreBehind}
use Rattle.printed_proofs.specs.Printing.{written, printed_step, HasParts}
use Rattle.printed_proofs.proofs.PrintedIds.{id_same, id_symbol}
use Rattle.printed_proofs.proofs.NumberedScopes.{seen_numbered, seen_indices, assumes_numbered, assumes_indices, index_within, all_found}
use Rattle.printed_proofs.proofs.NumberedScopes.{id_is_free, not_closing}

by_recursion : {X : Type 0} (P : X → Type 0) (xs : List X) → All P xs → AllByRecursion P xs
by_recursion P [] h = tt
by_recursion P (x ∷ xs) h = (All-head P x xs h, by_recursion P xs (All-tail P x xs h))

-- names of symbols
other_byte : (b c : ℕ) → (b ≡ c → ⊥) → (b == c) ≡ false
other_byte b c differs = go (b == c) refl
  where
    go : (test : Bool) → (b == c) ≡ test → test ≡ false
    go true e = absurd (differs (eqb-true b c e))
    go false e = refl

all_between : (name : List ℕ) → AllByRecursion (λ b. (b ≡ 124 → ⊥) × (b ≡ 92 → ⊥)) name → list_all is_between_bars name ≡ true
all_between [] h = refl
all_between (b ∷ bs) h =
    let bar = other_byte b 124 h.0.0 in
    let slash = other_byte b 92 h.0.1 in
    let rest = all_between bs h.1 in
    rw (bar, slash, rest) refl

pub rule_symbol : (name : List ℕ) → IsSymbolName name → IsSymbolItem name
rule_symbol name is =
    symbol_is name (AllPass-from_list_all is_between_bars name (all_between name (by_recursion (λ b. (b ≡ 124 → ⊥) × (b ≡ 92 → ⊥)) name is)))

not_left_out : (names : List (List ℕ)) (name : List ℕ) → (Contains names name → ⊥) → is_among names name ≡ false
not_left_out [] name h = refl
not_left_out (n ∷ names) name h =
    let first : bytes_eq name n ≡ false = other (bytes_eq name n) refl in
    let rest = not_left_out names name (λ there. h (contains_later n name names there)) in
    rw (first, rest) refl
  where
    other : (test : Bool) → bytes_eq name n ≡ test → test ≡ false
    other true e =
        let same = (bytes_eq-Decides name n).0 e in
        absurd (h (subst (λ x. Contains (x ∷ names) name) same (contains_head name names)))
    other false e = refl

symbols : (js : List ℕ) → AllByRecursion (λ j. j < 2 ^ 32) js → AllByRecursion IsSymbolItem (map printed_id js)
symbols [] h = tt
symbols (j ∷ js) h = (id_symbol j h.0, symbols js h.1)

-- what is seen at indices is found by printed ids
pub record AreFoundAt (sights : List Sight) (js : List ℕ) : Type 0 where
  pub found : AllZip (IsSeenAs sights) (map printed_id js) js
  pub symbols_are : AllByRecursion IsSymbolItem (map printed_id js)

low_indices : (sights : List Sight) (end : ℕ) (js : List ℕ) → end ≤ 2 ^ 32
    → AllByRecursion (λ c. (c.id ≡ printed_id c.index) × (c.index < end)) sights
    → AllByRecursion (λ j. Contains (map (λ c. c.index) sights) j) js → AllByRecursion (λ j. j < 2 ^ 32) js
low_indices sights end [] few numbered there = tt
low_indices sights end (j ∷ js) few numbered there =
    let l = index_within sights end j numbered there.0 in (omega (arith, l, few), low_indices sights end js few numbered there.1)

there_too : (xs ys : List ℕ) (js : List ℕ) → xs ≡ ys → AllByRecursion (λ j. Contains ys j) js → AllByRecursion (λ j. Contains xs j) js
there_too xs ys js e h = subst (λ zs. AllByRecursion (λ j. Contains zs j) js) (sym e) h

pub found_at : (sights : List Sight) (end : ℕ) (ys js : List ℕ) → end ≤ 2 ^ 32
    → AllByRecursion (λ c. (c.id ≡ printed_id c.index) × (c.index < end)) sights → map (λ c. c.index) sights ≡ ys → All (Contains ys) js
    → AreFoundAt sights js
found_at sights end ys js few numbered e all =
    let there = there_too (map (λ c. c.index) sights) ys js e (by_recursion (Contains ys) js all) in
    record {
      found = all_found sights end js few numbered there;
      symbols_are = symbols js (low_indices sights end js few numbered there);
    }

pub none_found : (sights : List Sight) (js : List ℕ) → js ≡ [] → AreFoundAt sights js
none_found sights js e = subst (λ is. AreFoundAt sights is) (sym e) (record { found = tt; symbols_are = tt })

pub assume_printed : (settings : ProofSettings) (closings : List ℕ) (scope : Scope Var Term) (id : List ℕ) (t : Term) (i : Item)
    (before after : Script) → CloseEach closings scope.nesting → AreBehind (next_index scope) closings → next_index scope < 2 ^ 32
    → IsFormulaItem settings (numbered_nesting closings scope.nesting) i before t after
    → ItemLeads settings (assume_item (printed_id (next_index scope)) i) (written before closings scope)
    (written after closings (add_assume scope id t))
assume_printed settings closings scope id t i before after each behind few read =
    assume_leads settings (printed_id (next_index scope)) i (written before closings scope) t after (id_symbol (next_index scope) few)
    (id_is_free closings scope (next_index scope) (omega arith) few each behind) read

pub step_printed : (settings : ProofSettings) (closings : List ℕ) (scope : Scope Var Term) (s : Step Term) (literals arguments : Items)
    (before after : Script) → CloseEach closings scope.nesting → AreBehind (next_index scope) closings → next_index scope < 2 ^ 32
    → MayStand scope.nesting scope.items s
    → HasParts settings (numbered_nesting closings scope.nesting) (next_index scope) s literals arguments before after
    → ItemLeads settings (step_item (printed_step (next_index scope) s literals arguments)) (written before closings scope)
    (written after closings (add_step scope s))
step_printed settings closings scope s literals arguments before after each behind few may parts =
    let k : ℕ = next_index scope in
    let n : Scope Var Term = numbered_scope closings scope in
    let made : Step Term = numbered_step k s in
    let start : Written = written before closings scope in
    let plain = not_closing closings scope.nesting k few each behind in
    let premises = found_at (seen n.nesting n.items) k (visible scope.nesting scope.items) s.premises (omega (arith, few))
    (seen_numbered closings scope.nesting scope.items each) (seen_indices closings scope.nesting scope.items each) may.premises in
    let discharged = none_found [] s.discharged may.discharged in
    let read : IsStepRead settings (printed_step k s literals arguments) start made after = record {
      at = stands_in n;
      stands = inr (plain, id_is_free closings scope k (omega arith) few each behind, refl);
      clause = s.clause;
      behind_clause = parts.behind_clause;
      literals = parts.clause;
      kept = not_left_out left_out_rules s.rule_name may.rule.kept;
      premises = s.premises;
      seen = premises.found;
      argued = record made { discharged = [] };
      arguments = parts.argued;
      discharged = s.discharged;
      nothing_yet = refl;
      seen_inside = discharged.found;
      is = refl;
    } in
    let leads = step_leads settings (printed_step k s literals arguments) start made after read (id_symbol k few)
    (rule_symbol s.rule_name may.rule.symbol) premises.symbols_are discharged.symbols_are in
    let added : take_step n made ≡ add_step n made = rw plain refl in
    subst (λ sc. ItemLeads settings (step_item (printed_step k s literals arguments)) start (record { script = after; scope = sc })) added leads

pub closing_printed : (settings : ProofSettings) (closings : List ℕ) (around : Nesting Var Term) (items_before : ProofItems Var Term)
    (bindings : List (Var × Term)) (items : ProofItems Var Term) (s : Step Term) (literals arguments : Items) (before after : Script)
    → CloseEach closings around → AreBehind (next_index (at (inner around items_before bindings s) items)) closings
    → next_index (at (inner around items_before bindings s) items) < 2 ^ 32
    → MayClose around items_before (inner around items_before bindings s) items s
    → HasParts settings (numbered_nesting closings around) (next_index (at (inner around items_before bindings s) items)) s literals arguments
    before after
    → ItemLeads settings (step_item (printed_step (next_index (at (inner around items_before bindings s) items)) s literals arguments))
    (written before (next_index (at (inner around items_before bindings s) items) ∷ closings) (at (inner around items_before bindings s) items))
    (written after closings (at around (with_subproof items_before bindings items s)))
closing_printed settings closings around items_before bindings items s literals arguments before after each behind few may parts =
    let here : Nesting Var Term = inner around items_before bindings s in
    let k : ℕ = first_index here + commands_in items in
    let n : Scope Var Term = numbered_scope (k ∷ closings) (at here items) in
    let made : Step Term = numbered_step k s in
    let start : Written = written before (k ∷ closings) (at here items) in
    let low : first_index around + commands_in items_before ≤ 2 ^ 32 = omega (arith, few) in
    let premises = found_at (seen (numbered_nesting closings around) (numbered around items_before)) (first_index around + commands_in items_before)
    (visible around items_before) s.premises low (seen_numbered closings around items_before each) (seen_indices closings around items_before each)
    may.premises in
    let discharged = found_at (direct_assumes n.nesting n.items) k (assumes_in here items) s.discharged (omega (arith, few))
    (assumes_numbered (k ∷ closings) here items) (assumes_indices (k ∷ closings) here items) may.discharged in
    let read : IsStepRead settings (printed_step k s literals arguments) start made after = record {
      at = closes_scope n.nesting n.items;
      stands = inl (id_same k, refl);
      clause = s.clause;
      behind_clause = parts.behind_clause;
      literals = parts.clause;
      kept = not_left_out left_out_rules s.rule_name may.rule.kept;
      premises = s.premises;
      seen = premises.found;
      argued = record made { discharged = [] };
      arguments = parts.argued;
      discharged = s.discharged;
      nothing_yet = refl;
      seen_inside = discharged.found;
      is = refl;
    } in
    let leads = step_leads settings (printed_step k s literals arguments) start made after read (id_symbol k few)
    (rule_symbol s.rule_name may.rule.symbol) premises.symbols_are discharged.symbols_are in
    let same = id_same k in
    let closed : take_step n made ≡ close_scope n.nesting n.items made = rw same refl in
    let index : k ≡ first_index around + (commands_in items_before + commands_in items) = omega arith in
    let renumbered : close_scope n.nesting n.items made
    ≡ numbered_scope closings (at around (with_subproof items_before bindings items s)) =
    ap (λ j. at (numbered_nesting closings around)
    (with_subproof (numbered around items_before) bindings (numbered here items) (numbered_step j s))) index in
    subst (λ sc. ItemLeads settings (step_item (printed_step k s literals arguments)) start (record { script = after; scope = sc })) (closed ∙ renumbered)
    leads

pub anchor_printed : (settings : ProofSettings) (closings : List ℕ) (scope : Scope Var Term) (anchor : Anchor Var Term) (closing : ℕ)
    (xs : List ArgumentItems) (before after : Script) → CloseEach closings scope.nesting → next_index scope ≤ closing → closing < 2 ^ 32
    → AreBehind closing closings → AllByRecursion (λ x. IsSymbolItem x.name) xs
    → AreArgumentItems settings (numbered_scope closings scope) [] xs before anchor.bindings after
    → ItemLeads settings (anchor_item (printed_id closing) (printed_arguments xs)) (written before closings scope)
    (written after (closing ∷ closings) (open_anchor scope anchor))
anchor_printed settings closings scope anchor closing xs before after each later few behind named read =
    anchor_leads settings (printed_id closing) xs (written before closings scope) anchor.bindings after (id_symbol closing few)
    (id_is_free closings scope closing later few each behind) named read

pub text_printed : (settings : ProofSettings) (before after : Script) (items : Items) (proof : ProofItems Var Term) → AreSpelledItems items
    → BeginsAsProof items → LeadAll settings items (record { script = before; scope = unwritten }) (written after [] (at outermost proof))
    → StandsForProof (printed_lines items) settings before (numbered_proof proof) after
text_printed settings before after items proof spelled begins lead =
    text_led settings before items (written after [] (at outermost proof)) spelled begins lead refl
