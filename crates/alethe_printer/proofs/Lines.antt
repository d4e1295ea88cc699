-- The beginning of a command, and of an anchor.
use Rattle.std.proofs.Common.{◌≡◌, ◌<◌, ◌≤◌, ℕ, Bool, true, false, List, [], ◌∷◌, ◌++◌, codes, length, get_or, refl, sym, ap, ◌∙◌, subst, arith}
use Rattle.std.proofs.lemmas.List.{append_assoc, append-nil, nil_from_length}
use Rattle.std.specs.List.{AllZip}
use Rattle.sexpr.specs.Items.{no_items}
use Rattle.sexpr.specs.Printed.{symbol_item, printed, printed_all}
use Rattle.sym_table.specs.Table.{Table}
use Rattle.term_model.specs.Terms.{Var, Term}
use Rattle.term_pool.specs.Bindings.{IsBindingOf}
use Rattle.term_pool.specs.Views.{TermsView, RefersTo}
use Rattle.term_model.proofs.Zips.{zip_length}
use Rattle.rule_model.specs.declared.rules.Rule.{Rule}
use Rattle.rule_model.specs.Commands.{IndexedCommand, assume, step, closing}
use Rattle.rule_model.specs.Proofs.{Step, ProofItems}
use Rattle.rule_model.specs.Reading.{is_assume, rule_at, clause_at, bindings_at}
use Rattle.rule_model.specs.Scopes.{Nesting, commands_in, subproofs_in}
use Rattle.problem_text.specs.Scripts.{Script}
use Rattle.alethe_text.specs.PrintedCommands.{assume_item, attribute_items, anchor_item, printed_arguments}
use Rattle.printed_proofs.specs.FileOrder.{command_item, behind_command}
use Rattle.printed_proofs.specs.Numbered.{printed_id}
use Rattle.printed_proofs.specs.Parts.{literals, variables, end_line}
use Rattle.printed_proofs.specs.PrintedProof.{literal_items, behind_literals, step_arguments, shared_step, behind_step, shared_bindings, behind_bindings}
use Rattle.printed_proofs.specs.Printing.{printed_step}
use Rattle.printed_proofs.specs.Shared.{Plan, shared_item, behind_term}
use Rattle.term_printer.specs.Names.{AreGiven}
use Rattle.term_printer.specs.Pages.{ComesTo}
use Rattle.term_printer.specs.declared.page.Page.{Page}
use Rattle.alethe_printer.specs.declared.stages.Stage.{Stage}
use Rattle.alethe_printer.specs.Printing.{IsCommandAt}
use Rattle.alethe_printer.specs.Stages.{IsStepAt}
use Rattle.alethe_printer.specs.Steps.{BeginsIn}
use Rattle.alethe_printer.proofs.Doing.{IsUntouched, begins_bytes, begins_term}

step_text : (name lits attributes : List ℕ)
    → (codes "(step " ++ (name ++ codes " (cl")) ++ ((lits ++ 41 ∷ (attributes ++ 41 ∷ 10 ∷ [])) ++ [])
    ≡ (40 ∷ ((codes "step" ++ ((32 ∷ []) ++ (name ++ ((32 ∷ []) ++ ((40 ∷ ((codes "cl" ++ lits) ++ 41 ∷ [])) ++ attributes))))) ++ 41 ∷ [])) ++ 10 ∷ []
step_text name lits attributes = simp (append_assoc, append-nil)

anchor_text : (name : List ℕ)
    → (codes "(anchor :step " ++ name) ++ ((41 ∷ 10 ∷ []) ++ [])
    ≡ (40 ∷ ((codes "anchor" ++ ((32 ∷ []) ++ (codes ":step" ++ ((32 ∷ []) ++ (name ++ []))))) ++ 41 ∷ [])) ++ 10 ∷ []
anchor_text name =
    let closed : name ++ (41 ∷ 10 ∷ []) ≡ ((name ++ []) ++ 41 ∷ []) ++ 10 ∷ [] =
    sym (ap (λ x. (x ++ 41 ∷ []) ++ 10 ∷ []) (append-nil name) ∙ append_assoc name (41 ∷ []) (10 ∷ [])) in
    ap (λ x. codes "(anchor :step " ++ x) closed

anchor_with : (name others : List ℕ)
    → (codes "(anchor :step " ++ (name ++ codes " :args (")) ++ ((others ++ 41 ∷ []) ++ ((41 ∷ 10 ∷ []) ++ []))
    ≡ (40 ∷ ((codes "anchor" ++ ((32 ∷ []) ++ (codes ":step" ++ ((32 ∷ []) ++ (name ++ ((32 ∷ []) ++ (codes ":args" ++ ((32 ∷ [])
    ++ ((40 ∷ (others ++ 41 ∷ [])) ++ []))))))))) ++ 41 ∷ [])) ++ 10 ∷ []
anchor_with name others = simp (append_assoc, append-nil)

module _ (plan : Plan) (s : Table) (v : TermsView) (refs : ProofItems ℕ ℕ) (i : ℕ) (old new : Page) (before after : List Stage) where
  abbrev word : List ℕ
  word = printed (symbol_item (printed_id i))

  pub assume_begins : (mid : Page) (t : Term) (u : Script) → mid.text.items ≡ old.text.items ++ (codes "(assume " ++ (word ++ codes " "))
      → after ≡ before ++ Stage.EndLine ∷ [] → ComesTo plan s v new (mid.text.items ++ printed (shared_item plan u t)) (behind_term plan u t)
      → BeginsIn plan s v refs old new before after (assume_item (printed_id i) (shared_item plan u t)) u (behind_term plan u t)
  assume_begins mid t u text left comes =
      begins_term plan s v refs old new before after (Stage.EndLine ∷ []) (end_line ∷ []) left ((tt, tt), tt) mid (codes "(assume " ++ (word ++ codes " ")) t u
      comes text (assume_item (printed_id i) (shared_item plan u t)) (behind_term plan u t) (simp (append_assoc, append-nil)) refl

  module _ (same : IsUntouched old new) where
    pub step_begins : (st : Step Term) (u : Script) → AreGiven plan s v old.names u.taken → i < commands_in refs → IsStepAt s v refs i st
        → new.text.items ≡ old.text.items ++ (codes "(step " ++ (word ++ codes " (cl")) → after ≡ before ++ Stage.Literals i 0 ∷ []
        → BeginsIn plan s v refs old new before after (shared_step plan u i st) u (behind_step plan u st)
    step_begins st u given within at text left =
        begins_bytes plan s v refs old new before after (Stage.Literals i 0 ∷ []) (literals st st.clause ∷ []) left ((within, (at, at.clause)), tt)
        (shared_step plan u i st) (codes "(step " ++ (word ++ codes " (cl")) u (behind_step plan u st) same given text
        (step_text word (printed_all (32 ∷ []) (literal_items plan u st.clause))
        (printed_all (32 ∷ []) (attribute_items (printed_step 0 st no_items (step_arguments plan (behind_literals plan u st.clause) st))))) refl

    module _ (scope : ℕ) (nesting : Nesting Var Term) (u : Script) (given : AreGiven plan s v old.names u.taken)
        (within : scope ≤ subproofs_in refs) where
      pub no_variables : (bs : List (Var × Term)) → bs ≡ [] → new.text.items ≡ old.text.items ++ (codes "(anchor :step " ++ word)
          → after ≡ before ++ Stage.EndLine ∷ [] → BeginsIn plan s v refs old new before after
          (anchor_item (printed_id i) (printed_arguments (shared_bindings plan nesting u bs))) u (behind_bindings plan nesting u bs)
      no_variables bs empty text left =
          subst (λ xs. BeginsIn plan s v refs old new before after (anchor_item (printed_id i) (printed_arguments (shared_bindings plan nesting u xs))) u
          (behind_bindings plan nesting u xs)) (sym empty)
          (begins_bytes plan s v refs old new before after (Stage.EndLine ∷ []) (end_line ∷ []) left ((tt, tt), tt)
          (anchor_item (printed_id i) (printed_arguments (shared_bindings plan nesting u []))) (codes "(anchor :step " ++ word) u u same given text
          (anchor_text word) refl)

      pub some_variables : (b : Var × Term) (bs : List (Var × Term)) → AllZip (IsBindingOf s v) (bindings_at refs scope) (b ∷ bs)
          → new.text.items ≡ old.text.items ++ (codes "(anchor :step " ++ (word ++ codes " :args ("))
          → after ≡ before ++ (Stage.EndLine ∷ Stage.Variables scope 0 ∷ []) → BeginsIn plan s v refs old new before after
          (anchor_item (printed_id i) (printed_arguments (shared_bindings plan nesting u (b ∷ bs)))) u (behind_bindings plan nesting u (b ∷ bs))
      some_variables b bs zip text left =
          begins_bytes plan s v refs old new before after (Stage.EndLine ∷ Stage.Variables scope 0 ∷ []) (end_line ∷ variables nesting [] (b ∷ bs) ∷ []) left
          ((tt, tt), ((within, (refl, zip)), tt)) (anchor_item (printed_id i) (printed_arguments (shared_bindings plan nesting u (b ∷ bs))))
          (codes "(anchor :step " ++ (word ++ codes " :args (")) u (behind_bindings plan nesting u (b ∷ bs)) same given text
          (anchor_with word (printed_all [] (printed_arguments (shared_bindings plan nesting u (b ∷ bs))))) refl

      pub anchor_alone : (bs : List (Var × Term)) → AllZip (IsBindingOf s v) (bindings_at refs scope) bs → length (bindings_at refs scope) ≡ 0
          → new.text.items ≡ old.text.items ++ (codes "(anchor :step " ++ word) → after ≡ before ++ Stage.EndLine ∷ []
          → BeginsIn plan s v refs old new before after
          (anchor_item (printed_id i) (printed_arguments (shared_bindings plan nesting u bs))) u (behind_bindings plan nesting u bs)
      anchor_alone bs zip none_bound text left =
          no_variables bs (nil_from_length bs (sym (zip_length (IsBindingOf s v) (bindings_at refs scope) bs zip) ∙ none_bound)) text left

      pub anchor_binds : (bs : List (Var × Term)) → AllZip (IsBindingOf s v) (bindings_at refs scope) bs → 0 < length (bindings_at refs scope)
          → new.text.items ≡ old.text.items ++ (codes "(anchor :step " ++ (word ++ codes " :args ("))
          → after ≡ before ++ (Stage.EndLine ∷ Stage.Variables scope 0 ∷ []) → BeginsIn plan s v refs old new before after
          (anchor_item (printed_id i) (printed_arguments (shared_bindings plan nesting u bs))) u (behind_bindings plan nesting u bs)
      anchor_binds [] zip some text left =
          let e = zip_length (IsBindingOf s v) (bindings_at refs scope) [] zip in absurd (omega (arith, e, some))
      anchor_binds (b ∷ bs) zip some text left = some_variables b bs zip text left

-- the one literal of an assume
pub only_literal : {A B : Type 0} (R : A → B → Type 0) (xs : List A) (x : A) (y : B) → AllZip R xs (y ∷ []) → x ≡ get_or xs 0 x → R x y
only_literal R [] x y h e = absurd h
only_literal R (z ∷ xs) x y h e = subst (λ w. R w y) (sym e) h.0

rule_is : (r : Rule) → is_assume r ≡ true → r ≡ Rule.Assume
rule_is Rule.Assume e = refl
rule_is _ e = absurd (cc)

two_ways : (b : Bool) → b ≡ true → b ≡ false → ⊥
two_ways b e f = absurd (let g : true ≡ false = sym e ∙ f in cc)

module _ (s : Table) (v : TermsView) (refs : ProofItems ℕ ℕ) (i : ℕ) where
  pub assume_has_term : (c : IndexedCommand Term) → is_assume (rule_at refs i) ≡ true → IsCommandAt s v refs i c → 0 < length (clause_at refs i)
  assume_has_term (assume _ t) is h = let e = zip_length (RefersTo s v) (clause_at refs i) (t ∷ []) h.1 in omega arith
  assume_has_term (step st) is h = absurd (two_ways (is_assume (rule_at refs i)) is h.0)
  assume_has_term (closing st) is h = absurd (two_ways (is_assume (rule_at refs i)) is h.0)

  module _ (old new : Page) (before after : List Stage) where
    abbrev BeginsCommand : Plan → Script → IndexedCommand Term → Type 0
    BeginsCommand plan u c = BeginsIn plan s v refs old new before after (command_item plan u i c) u (behind_command plan u c)

    pub assume_begun : (plan : Plan) (c : IndexedCommand Term) (u : Script) → is_assume (rule_at refs i) ≡ true → IsCommandAt s v refs i c
        → ((t : Term) → AllZip (RefersTo s v) (clause_at refs i) (t ∷ [])
        → BeginsIn plan s v refs old new before after (assume_item (printed_id i) (shared_item plan u t)) u (behind_term plan u t)) → BeginsCommand plan u c
    assume_begun plan (assume _ t) u is h f = f t h.1
    assume_begun plan (step st) u is h f = absurd (two_ways (is_assume (rule_at refs i)) is h.0)
    assume_begun plan (closing st) u is h f = absurd (two_ways (is_assume (rule_at refs i)) is h.0)

    pub step_begun : (plan : Plan) (c : IndexedCommand Term) (u : Script) → AreGiven plan s v old.names u.taken → i < commands_in refs →
        (rule_at refs i ≡ Rule.Assume → ⊥) → IsCommandAt s v refs i c
        → IsUntouched old new → new.text.items ≡ old.text.items ++ (codes "(step " ++ (printed (symbol_item (printed_id i)) ++ codes " (cl"))
        → after ≡ before ++ Stage.Literals i 0 ∷ [] → BeginsCommand plan u c
    step_begun plan (assume _ t) u given within other h same text left = absurd (other (rule_is (rule_at refs i) h.0))
    step_begun plan (step st) u given within other h same text left =
        step_begins plan s v refs i old new before after same st u given within h.1 text left
    step_begun plan (closing st) u given within other h same text left =
        step_begins plan s v refs i old new before after same st u given within h.1 text left
