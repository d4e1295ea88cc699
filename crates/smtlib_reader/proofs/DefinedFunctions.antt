-- What the command that defines a function comes to, step by step.
use Rattle.std.proofs.Common.{◌≡◌, ℕ, Bool, true, false, List, [], Result, Ok, Err, if◌then◌else◌, refl, sym, ◌∙◌, ap, subst}
use Rattle.std.specs.Prelude.{⊤}
use Rattle.sexpr.specs.declared.causes.Cause.TheVariants.{Repeated}
use Rattle.sexpr.specs.declared.causes.Refusal.{Refusal}
use Rattle.sexpr.specs.Items.{Item, Items}
use Rattle.sym_table.specs.Table.{Table, Keeps}
use Rattle.sym_table.proofs.Tables.{keeps_table}
use Rattle.term_model.specs.declared.symbols.Sort.{Sort}
use Rattle.term_model.specs.Terms.{Var}
use Rattle.term_pool.specs.Views.{TermsView, KeepsTerms}
use Rattle.term_pool.proofs.Keeping.{terms-refl}
use Rattle.problem_text.specs.Commands.{ScriptCommand, define_fun}
use Rattle.smtlib_reader.specs.Defining.{Signature, signature_from, IsSignatureRead, macro_defined, IsDefining, IsDefined}
use Rattle.term_names.specs.Entries.{EntriesView}
use Rattle.text_items.specs.ItemShapes.{Name}
use Rattle.term_names.specs.Scope.{Scoped}
use Rattle.problem_text.specs.Problems.{script_performed}
use Rattle.problem_text.specs.Outcomes.{Outcome, refuse, given, going_on, and_then}
use Rattle.problem_text.specs.Scripts.{Script, is_taken, with_name}
use Rattle.smtlib_reader.specs.Sessions.{top, IsSession, IsPerformed}
use Rattle.problem_text.specs.Sorts.{result_then, sort_from, parameters_from}
use Rattle.problem_text.specs.Words.{is_among, is_built_in}
use Rattle.term_names.specs.declared.faults.ReadFault.{ReadFault}
use Rattle.text_items.specs.ItemsAt.{ItemsView}
use Rattle.smtlib_reader.specs.declared.parameters.Parameter.{Parameter}
use Rattle.term_reader.specs.ReadingViews.{ReadingView}
use Rattle.smtlib_reader.specs.Sessions.{SessionView}
use Rattle.smtlib_reader.proofs.AgreeingScripts.{idle_moves}
use Rattle.smtlib_reader.proofs.JudgedTerms.{and_is}
use Rattle.smtlib_reader.proofs.DefinedMacros.{TakesName, name_reserved, reserved_script}
use Rattle.term_reader.proofs.GivenNames.{either_false, no_entry}
use Rattle.smtlib_reader.proofs.KeptByReading.{IsStill, still_after_macro}
use Rattle.term_reader.proofs.Coming.{refuses, no_memory, same_outcome, answers_more}
use Rattle.term_reader.proofs.Staying.{all_stay}
use Rattle.term_expansion.specs.SymbolsAndTerms.{both}
use Rattle.term_reader.specs.Reading.{ComesTo, terms_read}

module _ (replaces : Bool) (n : Name) (parameters : Items) (target body : Item) (sc : Script) where
  abbrev command : ScriptCommand
  command = define_fun n parameters target body

  -- once the signature is read
  abbrev signed : Result Signature Refusal → Outcome Script ⊤
  signed r = going_on r (with_name n.name sc) (λ q named. macro_defined n.name q.parameters q.target body named)

  abbrev by_name : Bool → Result Signature Refusal → Outcome Script ⊤
  by_name b r = if b then refuse Repeated n.place sc else signed r

  comes_to : script_performed replaces command sc ≡ by_name (is_taken sc n.name) (signature_from sc.sorts parameters target)
  unfolding script_performed
  comes_to = ap (λ (o : Outcome Script ⊤). if is_taken sc n.name then refuse Repeated n.place sc else o) (go (parameters_from sc.sorts [] parameters) (sort_from sc.sorts target))
    where
      go : (a : Result (List Var) Refusal) (b : Result Sort Refusal)
          → and_then (given a (with_name n.name sc)) (λ xs named. and_then (given b named) (λ sort sorted. macro_defined n.name xs sort body sorted))
          ≡ signed (result_then a (λ xs. result_then b (λ t. Ok (record { parameters = xs; target = t }))))
      go (Ok xs) (Ok sort) = refl
      go (Ok xs) (Err refusal) = refl
      go (Err refusal) b = refl

  pub name_taken : {s : Table} {v : TermsView} {M : Unit {0} → ⊤ → Script → Type 0} (refusal : Refusal) → is_taken sc n.name ≡ true → refusal ≡ record { cause = Repeated; at = n.place }
      → ComesTo terms_read v (both s v) M (script_performed replaces command sc) (Err (ReadFault.Text refusal))
  name_taken refusal taken is = refuses refl (ap (λ (o : Outcome Script ⊤). o.result) (comes_to ∙ ap (λ b. by_name b (signature_from sc.sorts parameters target)) taken) ∙ ap Err (sym is))

  module _ {s : Table} {v : TermsView} (d : SessionView) (session : IsSession (both s v) d sc) (free : is_taken sc n.name ≡ false) where
    named_so : (r : Result Signature Refusal) → signature_from s.sorts parameters target ≡ r → script_performed replaces command sc ≡ signed r
    named_so r e =
        comes_to ∙ ap (λ b. by_name b (signature_from sc.sorts parameters target)) free
        ∙ ap (λ (sorts : List (List ℕ)). signed (signature_from sorts parameters target)) (sym session.idle.script.sorts) ∙ ap signed e

    pub signature_fails : {M : Unit {0} → ⊤ → Script → Type 0} (items : ItemsView) (end : ℕ) (ps : List Parameter) (fault : ReadFault)
        → IsSignatureRead items end ps (signature_from s.sorts parameters target) (Err fault) → ComesTo terms_read v (both s v) M (script_performed replaces command sc) (Err fault)
    signature_fails items end ps (ReadFault.Text refusal) h = refuses refl (ap (λ (o : Outcome Script ⊤). o.result) (named_so (Err refusal) h))
    signature_fails items end ps ReadFault.PoolFull h = absurd h
    signature_fails items end ps ReadFault.Memory h = no_memory refl

    -- the name is taken for the macro
    pub is_defining : (e : EntriesView) (scope : List Scoped) (name : List ℕ) → name ≡ n.name → TakesName d.reader.names.known.own e name → scope ≡ d.reader.names.scope
        → IsDefining (both s v) (record d.reader { names = record { known = record d.reader.names.known { own = e }; scope = scope } }) name (with_name n.name sc)
    is_defining e scope name same takes same_scope =
        let k = d.reader.names.known in
        let none = no_entry s v k sc n.name session.idle.script free in
        rw same (record {
          idle = idle_moves s s v v (keeps_table s) (terms-refl v) d.reader (record { known = record k { own = e }; scope = scope }) sc (with_name n.name sc) (top d.reader.replaces_lets) same_scope session.idle
              (reserved_script s v k sc n.name session.idle.script e (subst (λ (x : List ℕ). TakesName k.own e x) same takes) free none);
          reserved = name_reserved s v k sc n.name session.idle.script (either_false (is_built_in n.name) (is_among sc.taken n.name) free) none;
        })

    -- the macro was read
    pub is_performed : {z : Table} {w : TermsView} (r : ReadingView) (name : List ℕ) (xs : List Var) (sort : Sort) (result : Result Unit ReadFault) → name ≡ n.name
        → signature_from s.sorts parameters target ≡ Ok (record { parameters = xs; target = sort }) → Keeps s z → KeepsTerms v w
        → ComesTo terms_read v (both z w) (IsDefined (both z w) r) (macro_defined name xs sort body (with_name n.name sc)) result
        → ComesTo terms_read v (both z w) (IsPerformed (both z w) (record d { reader = r })) (script_performed replaces command sc) result
    is_performed {z} {w} r name xs sort result same e keeps terms h =
        let whole : Outcome Script ⊤ = macro_defined n.name xs sort body (with_name n.name sc) in
        let defines : ComesTo terms_read v (both z w) (IsDefined (both z w) r) whole result =
        subst (λ (x : List ℕ). ComesTo terms_read v (both z w) (IsDefined (both z w) r) (macro_defined x xs sort body (with_name n.name sc)) result) same h in
        same_outcome (named_so (Ok (record { parameters = xs; target = sort })) e) (answers_more (IsPerformed (both z w) (record d { reader = r })) (λ t a last m.
        let still : IsStill sc last =
        subst (λ (o : Outcome Script ⊤). IsStill sc o.state) m.1
        (let p = still_after_macro n.name xs sort body (with_name n.name sc) in record { assertions = p.assertions; has_logic = p.has_logic; is_checked = p.is_checked }) in
        record {
          session = record {
            idle = m.0.idle;
            assertions = rw still.assertions (all_stay s z v w keeps terms d.assertions.items sc.assertions session.assertions);
            has_logic = session.has_logic ∙ sym still.has_logic;
            is_checked = session.is_checked ∙ sym still.is_checked;
          };
        }) (and_is defines))
