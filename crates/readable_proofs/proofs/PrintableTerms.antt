-- Terms over a vocabulary are printable where the place binds their free variables to themselves, if names are apart.
use Rattle.std.proofs.Common.{◌≡◌, ℕ, Bool, true, false, ◌||◌, ◌⊎◌, inl, inr, Some, None, List, [], ◌∷◌, ◌++◌, map, bytes_eq}
use Rattle.std.proofs.Common.{refl, sym, ap, ◌∙◌, subst}
use Rattle.std.specs.Prelude.{Contains}
use Rattle.std.specs.Option.{option_or}
use Rattle.std.specs.List.{AllByRecursion}
use Rattle.std.proofs.Math.Bool.{or-true}
use Rattle.std.proofs.lemmas.Bool.{or_parts}
use Rattle.std.proofs.lemmas.List.Folds.{find-append}
use Rattle.term_model.specs.declared.symbols.Op.{Op}
use Rattle.term_model.specs.FreeVariables.{Binds, IsFree, IsFreeAmong, IsFreeBound}
use Rattle.term_model.specs.Terms.{Var, Term, numeral, variable, operation, call, let_in, Terms, no_terms, term, Bindings, no_bindings, binding}
use Rattle.term_model.proofs.Lists.{all_joined}
use Rattle.sym_table.specs.Words.{operator_symbol}
use Rattle.problem_text.specs.Names.{Bound, Place, itself, innermost, value, meaning_of, place_inside}
use Rattle.problem_text.specs.PrintedTerms.{bounds_in, IsPrintable, ArePrintable, AreBoundPrintable}
use Rattle.problem_text.specs.Scripts.{Script}
use Rattle.problem_text.specs.Words.{is_among, is_built_in}
use Rattle.readable_proofs.specs.Names.{IsWellNamed, vocabulary_of, AreOwnNames, AreNamesApart}
use Rattle.readable_proofs.specs.TermsOver.{names_of, BindOnce, BindsFree, IsTermOver, AreTermsOver, AreBoundOver}
use Rattle.readable_proofs.proofs.Names.{same_name, name_same, not_same, other_name, usable, leads, operator_leads, operator_built_in, found_named, none_found}

-- the variables of a let, which stand for themselves in its body
abbrev pub within : Bindings → List Bound
within bs = map (λ b. itself b.variable) (bounds_in bs)

-- a name of `earlier` is that of no variable of the let
not_earlier : (bs : Bindings) (earlier : List (List ℕ)) (x : Var) → BindOnce earlier bs → Binds bs x → is_among earlier x.name ≡ false
not_earlier no_bindings earlier x once bound = absurd bound
not_earlier (binding y t bs) earlier x once (inl same) = subst (λ z. is_among earlier z.name ≡ false) same once.0
not_earlier (binding y t bs) earlier x once (inr later) =
    (or_parts (bytes_eq x.name y.name) (is_among earlier x.name) (not_earlier bs (y.name ∷ earlier) x once.1 later)).1

-- the variable that the let binds is found in its body
pub bound_found : (bs : Bindings) (earlier : List (List ℕ)) (x : Var) → BindOnce earlier bs → Binds bs x
    → innermost (within bs) x.name ≡ Some (itself x)
bound_found no_bindings earlier x once bound = absurd bound
bound_found (binding y t bs) earlier x once bound = go (bytes_eq y.name x.name) refl bound (bound_found bs (y.name ∷ earlier) x once.1)
  where
    go : (b : Bool) → bytes_eq y.name x.name ≡ b → (y ≡ x) ⊎ Binds bs x → (Binds bs x → innermost (within bs) x.name ≡ Some (itself x))
        → innermost (within (binding y t bs)) x.name ≡ Some (itself x)
    go true e (inl same) rest = rw e (ap (λ z. Some (itself z)) same)
    go true e (inr later) rest =
        let apart = or_parts (bytes_eq x.name y.name) (is_among earlier x.name) (not_earlier bs (y.name ∷ earlier) x once.1 later) in
        absurd (not_same x.name y.name apart.0 (sym (same_name y.name x.name e)))
    go false e (inl same) rest = absurd (not_same y.name x.name e (ap (λ (z : Var). z.name) same))
    go false e (inr later) rest = rw e (rest later)

-- a name that it does not bind is not
pub unbound_not_found : (bs : Bindings) (name : List ℕ) → is_among (names_of bs) name ≡ false → innermost (within bs) name ≡ None
unbound_not_found no_bindings name e = refl
unbound_not_found (binding y t bs) name e =
    let apart = or_parts (bytes_eq name y.name) (is_among (names_of bs) name) e in
    let other = other_name y.name name (λ same. not_same name y.name apart.0 (sym same)) in
    let rest = unbound_not_found bs name apart.1 in
    rw other rest

pub bound_among : (bs : Bindings) (x : Var) → Binds bs x → is_among (names_of bs) x.name ≡ true
bound_among no_bindings x bound = absurd bound
bound_among (binding y t bs) x (inl same) =
    let e : bytes_eq x.name y.name ≡ true = ap (λ (z : Var). bytes_eq x.name z.name) same ∙ name_same x.name in
    rw e refl
bound_among (binding y t bs) x (inr later) = let e = bound_among bs x later in rw e (or-true (bytes_eq x.name y.name))

-- what the body of a let finds
pub inside_found : (bs : Bindings) (scope : List Bound) (name : List ℕ)
    → innermost (within bs ++ scope) name ≡ option_or (innermost (within bs) name) (innermost scope name)
inside_found bs scope name = find-append (λ b. bytes_eq b.variable.name name) (within bs) scope

-- where the body of a let stands that is kept
pub kept_scope : (bs : List Bound) (p : Place) → p.settings.replaces_lets ≡ false
    → (place_inside bs p).scope ≡ map (λ b. itself b.variable) bs ++ p.scope
kept_scope bs p kept = rw kept refl

module _ (s : Script) (names : List (List ℕ)) (well : IsWellNamed s) (own : AreOwnNames names) (apart : AreNamesApart (vocabulary_of s names)) where
  -- lets are kept, and the variables in scope have names of these
  pub record IsIn (p : Place) : Type 0 where
    pub kept : p.settings.replaces_lets ≡ false
    pub named : AllByRecursion (λ b. Contains names b.variable.name) p.scope

  no_operator : (op : Op) → Contains names (operator_symbol op) → ⊥
  no_operator op named =
      let free = (own (operator_symbol op) named).free_word in
      let built = operator_built_in op in absurd (cc)

  found_means : (p : Place) (x : Var) → innermost p.scope x.name ≡ Some (itself x)
      → meaning_of p s x.name ≡ Some (value (record { tree = variable x; sort = x.sort }))
  unfolding meaning_of
  found_means p x found = rw found refl

  within_named : (bs : Bindings) → AreBoundOver (vocabulary_of s names) bs → AllByRecursion (λ b. Contains names b.variable.name) (within bs)
  within_named no_bindings h = tt
  within_named (binding x t bs) h = (h.0, within_named bs h.2)

  inside_in : (bs : Bindings) (p : Place) → IsIn p → AreBoundOver (vocabulary_of s names) bs → IsIn (place_inside (bounds_in bs) p)
  inside_in bs p here h = record {
    kept = here.kept;
    named =
        subst (AllByRecursion (λ b. Contains names b.variable.name)) (sym (kept_scope (bounds_in bs) p here.kept))
        (all_joined (λ b. Contains names b.variable.name) (within bs) p.scope (within_named bs h) here.named);
  }

  inside_binds : (bs : Bindings) (t : Term) (p : Place) → IsIn p → BindOnce [] bs
      → ((x : Var) → IsFree x t → is_among (names_of bs) x.name ≡ true → Binds bs x)
      → BindsFree p.scope (let_in bs t) → BindsFree (place_inside (bounds_in bs) p).scope t
  inside_binds bs t p here once hides_none free x h =
      ap (λ scope. innermost scope x.name) (kept_scope (bounds_in bs) p here.kept)
      ∙ (inside_found bs p.scope x.name ∙ go (is_among (names_of bs) x.name) refl)
    where
      go : (b : Bool) → is_among (names_of bs) x.name ≡ b
          → option_or (innermost (within bs) x.name) (innermost p.scope x.name) ≡ Some (itself x)
      go true e = let found = bound_found bs [] x once (hides_none x h e) in rw found refl
      go false e =
          let none = unbound_not_found bs x.name e in
          let outer = free x (inr (λ bound. absurd (let f = bound_among bs x bound in cc), h)) in
          rw none outer

  mutual
    pub printable : (t : Term) (p : Place) → IsIn p → BindsFree p.scope t → IsTermOver (vocabulary_of s names) t → IsPrintable p s t
    printable (numeral n) p here free h = h
    printable (variable x) p here free h =
        let found = free x refl in
        let is_own = own x.name (found_named names p.scope x.name (itself x) here.named found) in
        ((usable x.name is_own.free_word, is_own.symbol), found_means p x found)
    printable (operation op ts) p here free h =
        (operator_leads op, well.operators op p (none_found names p.scope (operator_symbol op) here.named (no_operator op)), all_printable ts p here free h)
    printable (call f ts) p here free h = (
      leads f.name (well.names f h.0),
      well.functions f h.0 p (none_found names p.scope f.name here.named (apart f h.0)),
      all_printable ts p here free h.1,
    )
    printable (let_in bs t) p here free h = (
      here.kept,
      h.0.some,
      bound_printable bs [] p here (λ x bound. free x (inl bound)) h.0.once h.1,
      printable t (place_inside (bounds_in bs) p) (inside_in bs p here h.1) (inside_binds bs t p here h.0.once h.0.hides_none free) h.2,
    )

    all_printable : (ts : Terms) (p : Place) → IsIn p → ((x : Var) → IsFreeAmong x ts → innermost p.scope x.name ≡ Some (itself x))
        → AreTermsOver (vocabulary_of s names) ts → ArePrintable p s ts
    all_printable no_terms p here free h = tt
    all_printable (term t ts) p here free h =
        (printable t p here (λ x f. free x (inl f)) h.0, all_printable ts p here (λ x f. free x (inr f)) h.1)

    bound_printable : (bs : Bindings) (earlier : List (List ℕ)) (p : Place) → IsIn p
        → ((x : Var) → IsFreeBound x bs → innermost p.scope x.name ≡ Some (itself x)) → BindOnce earlier bs → AreBoundOver (vocabulary_of s names) bs
        → AreBoundPrintable p s earlier bs
    bound_printable no_bindings earlier p here free once h = tt
    bound_printable (binding x t bs) earlier p here free once h =
        let is_own = own x.name h.0 in (
          is_own.symbol,
          neither (is_built_in x.name) (is_among earlier x.name) is_own.free_word once.0,
          printable t p here (λ y f. free y (inl f)) h.1,
          bound_printable bs (x.name ∷ earlier) p here (λ y f. free y (inr f)) once.1 h.2,
        )
      where
        neither : (a b : Bool) → a ≡ false → b ≡ false → (a || b) ≡ false
        neither a b e f = rw (e, f) refl
