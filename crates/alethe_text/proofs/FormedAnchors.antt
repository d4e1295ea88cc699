-- Anchors that are read may stand where they do.
use Rattle.std.proofs.Common.{◌≡◌, ◌≢◌, ℕ, zero, suc, List, [], ◌∷◌, map, true, false, not, ◌||◌, AllPairs, Contains, sym, ap, arith}
use Rattle.std.specs.Prelude.{⊤, bytes_eq}
use Rattle.std.specs.List.{AllByRecursion}
use Rattle.std.specs.Option.{option_map_or}
use Rattle.std.proofs.lemmas.List.Elements.{All-from_recursion}
use Rattle.std.proofs.lemmas.List.Kept.{AllPairs-cons}
use Rattle.std.proofs.lemmas.Slice.Eq.{bytes_eq-Decides}
use Rattle.std.proofs.lemmas.Bool.{not-true, or_parts}
use Rattle.sexpr.specs.declared.causes.Cause.TheVariants.{Repeated, BadAnchor, SortMismatch, TooHigh}
use Rattle.term_model.specs.Terms.{Var, sort_eq, Term}
use Rattle.term_model.specs.Heights.{height}
use Rattle.rule_model.specs.RuleNames.{IsSymbolName}
use Rattle.rule_model.specs.Scopes.{Nesting, Scope}
use Rattle.rule_model.specs.Visibility.{open_bindings}
use Rattle.text_items.specs.ItemShapes.{Name}
use Rattle.problem_text.specs.Limits.{is_low}
use Rattle.problem_text.specs.Words.{is_among, is_built_in}
use Rattle.alethe_text.specs.Commands.{Argument, variable_alone, assigned}
use Rattle.alethe_text.specs.States.{ProofSettings, ProofState}
use Rattle.alethe_text.specs.ProofTerms.{term_in}
use Rattle.alethe_text.specs.Anchors.{bound_names, sort_given, image_of, argument_read, arguments_read, anchor_read}
use Rattle.alethe_text.proofs.Endings.{Ends, and_next, looked, asked, given_next, changed_next, always}
use Rattle.alethe_text.proofs.Lists.{not_among}
use Rattle.alethe_text.proofs.Staying.{term_stays}
use Rattle.alethe_text.proofs.FormedSteps.{id_next, Placed}
use Rattle.alethe_text.proofs.Formed.{IsPlaced, IsNew, anchor_placed}

-- a binding whose name is none of these, and none that an open anchor has
abbrev IsFresh : List (List ℕ) → Var × Term → Scope Var Term → Type 0
IsFresh earlier b scope = (is_among earlier b.0.name ≡ false) × (is_among (bound_names scope.nesting) b.0.name ≡ false)

argument_formed : (P : Scope Var Term → Type 0) (settings : ProofSettings) (earlier : List (List ℕ)) (a : Argument) (s : ProofState) → P s.scope → Ends (λ b t. P t.scope × IsFresh earlier b t.scope) (argument_read settings earlier a s)
unfolding argument_read
argument_formed P settings earlier (variable_alone place) s h = tt
argument_formed P settings earlier (assigned place x sort i) s h =
    let R : Var × Term → ProofState → Type 0 = λ b t. P t.scope × IsFresh earlier b t.scope in
    let W : Scope Var Term → Type 0 = λ scope. P scope × (is_among earlier x.name ≡ false) × (is_among (bound_names scope.nesting) x.name ≡ false) in
    looked R (λ s. s) _ s
    (asked R (not (is_built_in x.name)) Repeated x.place _ s
    (λ _. asked R (not (is_among earlier x.name || is_among (bound_names s.scope.nesting) x.name)) BadAnchor x.place _ s
    (λ e. let parts = or_parts (is_among earlier x.name) (is_among (bound_names s.scope.nesting) x.name) (not-true _ e) in
    changed_next R _ _ s
    (given_next (λ _. ⊤) R (sort_given s.script.sorts sort) _ _ (always (sort_given s.script.sorts sort))
    (λ wanted _. and_next (λ _ t. W t.scope) R (term_in settings s.scope.nesting i) _ _ (term_stays W settings s.scope.nesting i _ (h, parts.0, parts.1))
    (λ term t k. asked R (option_map_or (λ z. sort_eq term.sort z) wanted true) SortMismatch place _ t
    (λ _. changed_next R _ _ t
    (asked R (is_low settings.limit (height (image_of s.scope.nesting term.tree))) TooHigh place _ _
    (λ _. (k.0, (k.1, k.2)))))))))))

-- the bindings of an anchor are fresh, and their variables differ
pub record AreFresh (earlier : List (List ℕ)) (scope : Scope Var Term) (bs : List (Var × Term)) : Type 0 where
  pub new : AllByRecursion (λ b. is_among earlier b.0.name ≡ false) bs
  pub unbound : AllByRecursion (λ b. is_among (bound_names scope.nesting) b.0.name ≡ false) bs
  pub distinct : AllPairs (λ x y. x ≢ y) (map (λ b. b.0) bs)

no_pairs : AllPairs {X = Var} (λ x y. x ≢ y) []
no_pairs i j d below within = absurd (omega (arith, within))

-- names that differ from the first
differ : (x : Var) (earlier : List (List ℕ)) (bs : List (Var × Term)) → AllByRecursion (λ b. is_among (x.name ∷ earlier) b.0.name ≡ false) bs → AllByRecursion (λ y. x ≢ y) (map (λ b. b.0) bs) × AllByRecursion (λ b. is_among earlier b.0.name ≡ false) bs
differ x earlier [] h = (tt, tt)
differ x earlier (b ∷ bs) h =
    let parts = or_parts (bytes_eq b.0.name x.name) (is_among earlier b.0.name) h.0 in
    let rest = differ x earlier bs h.1 in
    ((λ e. (let f = (bytes_eq-Decides b.0.name x.name).1 (ap (λ (y : Var). y.name) (sym e)) in absurd (cc)), rest.0), (parts.1, rest.1))

arguments_formed : (P : Scope Var Term → Type 0) (settings : ProofSettings) (earlier : List (List ℕ)) (others : List Argument) (s : ProofState) → P s.scope → Ends (λ bs t. P t.scope × AreFresh earlier t.scope bs) (arguments_read settings earlier others s)
unfolding arguments_read
arguments_formed P settings earlier [] s h = (h, record { new = tt; unbound = tt; distinct = no_pairs })
arguments_formed P settings earlier (a ∷ others) s h =
    and_next (λ b t. P t.scope × IsFresh earlier b t.scope) (λ bs t. P t.scope × AreFresh earlier t.scope bs) (argument_read settings earlier a) _ s (argument_formed P settings earlier a s h)
    (λ b t k. and_next (λ bs u. (P u.scope × (is_among (bound_names u.scope.nesting) b.0.name ≡ false)) × AreFresh (b.0.name ∷ earlier) u.scope bs) (λ bs t. P t.scope × AreFresh earlier t.scope bs) (arguments_read settings (b.0.name ∷ earlier) others) _ t
    (arguments_formed (λ scope. P scope × (is_among (bound_names scope.nesting) b.0.name ≡ false)) settings (b.0.name ∷ earlier) others t (k.0, k.1.1))
    (λ bs u l. let apart = differ b.0 earlier bs l.1.new in (
      l.0.0,
      record {
        new = (k.1.0, apart.1);
        unbound = (l.0.1, l.1.unbound);
        distinct = AllPairs-cons (λ x y. x ≢ y) b.0 (map (λ b. b.0) bs) (All-from_recursion (λ y. b.0 ≢ y) (map (λ b. b.0) bs) apart.0) l.1.distinct;
      },
    )))

-- a variable that is bound has a name that is bound
bound_name : (bs : List (Var × Term)) (x : Var) → Contains (map (λ b. b.0) bs) x → Contains (map (λ b. b.0.name) bs) x.name
bound_name [] x (k, h, e) = absurd (omega (arith, h))
bound_name (b ∷ bs) x (zero, h, e) = (zero, omega arith, ap (λ (y : Var). y.name) e)
bound_name (b ∷ bs) x (suc k, h, e) =
    let rest = bound_name bs x (k, omega (arith, h), e) in
    (suc rest.0, omega (arith, rest.1), rest.2)

unbound_variables : (nesting : Nesting Var Term) (bs : List (Var × Term)) → AllByRecursion (λ b. is_among (bound_names nesting) b.0.name ≡ false) bs → AllByRecursion (λ x. ¬ Contains (map (λ b. b.0) (open_bindings nesting)) x) (map (λ b. b.0) bs)
unbound_variables nesting [] h = tt
unbound_variables nesting (b ∷ bs) h =
    (λ bound. not_among (bound_names nesting) b.0.name h.0 (bound_name (open_bindings nesting) b.0 bound), unbound_variables nesting bs h.1)

pub anchor_formed : (settings : ProofSettings) (place : ℕ) (n : Name) (others : List Argument) (s : ProofState) → IsSymbolName n.name → IsPlaced s.scope → Ends Placed (anchor_read settings place n others s)
unfolding anchor_read
anchor_formed settings place n others s symbol placed =
    id_next Placed Repeated n _ s symbol
    (λ new. and_next (λ bs t. (IsPlaced t.scope × IsNew t.scope n.name) × AreFresh [] t.scope bs) Placed (arguments_read settings [] others) _ s
    (arguments_formed (λ scope. IsPlaced scope × IsNew scope n.name) settings [] others s (placed, new))
    (λ bs t h. anchor_placed t.scope (record { id = n.name; bindings = bs }) h.0.0 (record {
      id = h.0.1;
      distinct = h.1.distinct;
      unbound = All-from_recursion (λ x. ¬ Contains (map (λ b. b.0) (open_bindings t.scope.nesting)) x) (map (λ b. b.0) bs) (unbound_variables t.scope.nesting bs h.1.unbound);
    })))
