-- A text of items has one reading: a script, or the first fault.
use Rattle.std.proofs.Common.{◌≡◌, ℕ, List, Bool, Result, Ok, Err, refl, sym, ap, ◌∙◌, ◌⊎◌, inl, inr}
use Rattle.std.specs.Prelude.{⊤}
use Rattle.sexpr.specs.declared.causes.Refusal.{Refusal}
use Rattle.sexpr.specs.Form.{HasForm, IsFormFault}
use Rattle.sexpr.specs.Items.{Items, StandsForItems}
use Rattle.problem_text.specs.Outcomes.{Outcome, done}
use Rattle.problem_text.specs.Scripts.{Script}
use Rattle.problem_text.specs.Problems.{problem, StandsForProblem, IsCommandFault, IsFirstFault}

-- a text stands for one list of items at most
abbrev pub OneNesting : Type 0
OneNesting = (source : List ℕ) (a b : Items) → StandsForItems source a → StandsForItems source b → a ≡ b

-- a text of items has no fault of form
abbrev pub NoFormFault : Type 0
NoFormFault = (source : List ℕ) (refusal : Refusal) → HasForm source → IsFormFault source refusal → ⊥

-- a text has one fault of form at most
abbrev pub OneFormFault : Type 0
OneFormFault = (source : List ℕ) (a b : Refusal) → IsFormFault source a → IsFormFault source b → a ≡ b

done_same : (s t : Script) → ◌≡◌ {A = Outcome Script ⊤} (done tt s) (done tt t) → s ≡ t
done_same s t e = ap (λ o. o.state) e

err_same : (a b : Refusal) → ◌≡◌ {A = Result ⊤ Refusal} (Err a) (Err b) → a ≡ b
err_same a b e = cc

ok_or_err : (r : Refusal) → ◌≡◌ {A = Result ⊤ Refusal} (Ok tt) (Err r) → ⊥
ok_or_err r e = cc

pub one_script : OneNesting → (source : List ℕ) (replaces : Bool) (s t : Script) → StandsForProblem source replaces s → StandsForProblem source replaces t → s ≡ t
one_script one source replaces s t a b =
    done_same s t (sym a.read ∙ ap (problem replaces) (one source a.items b.items a.nested b.nested) ∙ b.read)

one_command_fault : OneNesting → (source : List ℕ) (replaces : Bool) (r q : Refusal) → IsCommandFault source replaces r → IsCommandFault source replaces q → r ≡ q
one_command_fault one source replaces r q a b =
    err_same r q (sym a.refused ∙ ap (λ i. (problem replaces i).result) (one source a.items b.items a.nested b.nested) ∙ b.refused)

pub one_fault : OneNesting → NoFormFault → OneFormFault → (source : List ℕ) (replaces : Bool) (r q : Refusal) → IsFirstFault source replaces r → IsFirstFault source replaces q → r ≡ q
one_fault one none form source replaces r q (inl a) (inl b) = form source r q a b
one_fault one none form source replaces r q (inl a) (inr b) = absurd (none source r (b.items, b.nested) a)
one_fault one none form source replaces r q (inr a) (inl b) = absurd (none source q (a.items, a.nested) b)
one_fault one none form source replaces r q (inr a) (inr b) = one_command_fault one source replaces r q a b

pub no_fault : OneNesting → NoFormFault → (source : List ℕ) (replaces : Bool) (s : Script) (r : Refusal) → StandsForProblem source replaces s → IsFirstFault source replaces r → ⊥
no_fault one none source replaces s r a (inl b) = none source r (a.items, a.nested) b
no_fault one none source replaces s r a (inr b) =
    ok_or_err r (sym (ap (λ o. o.result) a.read) ∙ ap (λ i. (problem replaces i).result) (one source a.items b.items a.nested b.nested) ∙ b.refused)

pub one_of_both : (source : List ℕ) (replaces : Bool) → HasForm source → ((s : Script) × StandsForProblem source replaces s) ⊎ ((r : Refusal) × IsFirstFault source replaces r)
one_of_both source replaces (items, nested) = go (problem replaces items).result refl
  where
    go : (result : Result ⊤ Refusal) → (problem replaces items).result ≡ result → ((s : Script) × StandsForProblem source replaces s) ⊎ ((r : Refusal) × IsFirstFault source replaces r)
    go (Ok u) e = inl ((problem replaces items).state, record { items = items; nested = nested; read = ap (λ o. record { result = o; state = (problem replaces items).state }) e })
    go (Err r) e = inr (r, inr (record { items = items; nested = nested; refused = e }))
