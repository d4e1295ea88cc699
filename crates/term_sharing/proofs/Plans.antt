-- One term more gets a name.
use Rattle.std.proofs.Common.{◌≡◌, ◌≢◌, ◌⊎◌, inl, inr, ⊎_elim, ℕ, ◌+◌, ◌≤◌, ◌<◌, ◌-◌, ◌^◌, Bool, true, false, Some, None, List, [], ◌∷◌, Contains}
use Rattle.std.proofs.Common.{nat_eq, refl, sym, ap, ◌∙◌, subst, arith}
use Rattle.std.specs.Map.{update}
use Rattle.std.proofs.lemmas.Bool.{cases_eq}
use Rattle.std.proofs.lemmas.Map.{update_here, update_apart}
use Rattle.sexpr.specs.Printed.{IsSymbolItem}
use Rattle.sym_table.specs.Table.{Table}
use Rattle.term_model.specs.Terms.{Term}
use Rattle.term_model.proofs.Lists.{contains_none, contains_cases}
use Rattle.term_pool.specs.Views.{TermsView, RefersTo}
use Rattle.rule_model.specs.TermTests.{term_eq}
use Rattle.rule_model.proofs.TermTests.{term_eq_decides}
use Rattle.problem_text.specs.Scripts.{Named}
use Rattle.problem_text.specs.PrintedTerms.{IsUsable}
use Rattle.problem_text.specs.Words.{is_among, is_built_in}
use Rattle.printed_proofs.specs.Shared.{planned}
use Rattle.term_printer.specs.Names.{name_numbered, entry_at, IsEntryOf, AreGiven}
use Rattle.term_printer.specs.declared.names.Entry.{Entry}
use Rattle.term_printer.specs.declared.names.Names.{Names}
use Rattle.term_sharing.specs.Naming.{IsNoLeaf, HasPlan}
use Rattle.term_sharing.specs.NamedTerms.{MayHaveName, IsNamedBelow, HasPlanBelow}
use Rattle.term_sharing.proofs.NumberNames.{one_number, number_symbol, number_usable, number_no_word}

module _ (s : Table) (v : TermsView) (taken : List (List ℕ)) where
  pub no_names : (names : Names) (next : ℕ) → AreGiven [] s v names taken → ((q : ℕ) → entry_at names q ≡ None) → HasPlanBelow s v names taken next
  no_names names next given empty = record {
    plan = [];
    each = λ n h. absurd (nothing n h);
    distinct = λ m n h k e. absurd (nothing m h);
    below = λ r e some. absurd (let f : None ≡ Some e = sym (empty r) ∙ some in cc);
    given = given;
  }
    where
      nothing : (n : Named) → Contains [] n → ⊥
      nothing n h = contains_none n h

  -- a term gets the name of a number
  module _ (one : (p q : ℕ) (t w : Term) → RefersTo s v p t → RefersTo s v q w → (p ≡ q → t ≡ w) × (t ≡ w → p ≡ q))
      (old new : Names) (next r k : ℕ) (h : HasPlanBelow s v old taken next) (may : MayHaveName s v r) (behind : next ≤ k) (few : k < 2 ^ 64 - 1)
      (free : is_among taken (name_numbered k) ≡ false) (no_leaf : IsNoLeaf s (name_numbered k))
      (now : (q : ℕ) → entry_at new q ≡ update nat_eq (entry_at old) r (Some (record { number = k; is_given = false })) q) where
    abbrev named : Named
    named = record { name = name_numbered k; meant = record { tree = may.term.means; sort = may.term.sorted.sort } }

    abbrev entry : Entry
    entry = record { number = k; is_given = false }

    here : entry_at new r ≡ Some entry
    here = now r ∙ update_here (entry_at old) r (Some entry)

    elsewhere : (q : ℕ) → q ≢ r → entry_at new q ≡ entry_at old q
    elsewhere q other = now q ∙ update_apart (entry_at old) r (Some entry) q other

    is_named : IsNamedBelow s taken (k + 1) named
    is_named = record {
      number = k;
      few = omega arith;
      name = refl;
      sorted = may.term.sorted.of;
      closed = may.closed may.term.means may.term.refers;
      free = free;
      no_leaf = no_leaf;
    }

    later : (n : Named) → IsNamedBelow s taken next n → IsNamedBelow s taken (k + 1) n
    later n b = record {
      number = b.number;
      few = let l = b.few in omega (arith, l, behind);
      name = b.name;
      sorted = b.sorted;
      closed = b.closed;
      free = b.free;
      no_leaf = b.no_leaf;
    }

    -- a name that is there is that of another number
    not_named : (n : Named) → Contains h.plan n → n.name ≡ name_numbered k → ⊥
    not_named n at e =
        let b = h.each n at in
        let l = b.few in
        let same : b.number ≡ k = one_number b.number k (omega (arith, l, behind, few)) (omega (arith, few)) (sym b.name ∙ e) in
        absurd (omega (arith, same, l, behind))

    numbers : (q : ℕ) (d : Entry) → entry_at old q ≡ Some d → name_numbered d.number ≡ name_numbered k → ⊥
    numbers q d some e =
        let l = h.below q d some in
        let same : d.number ≡ k = one_number d.number k (omega (arith, l, behind, few)) (omega (arith, few)) e in
        absurd (omega (arith, same, l, behind))

    planned_here : (t : Term) → RefersTo s v r t → planned (named ∷ h.plan) t ≡ Some named
    planned_here t at =
        let same = (term_eq_decides may.term.means t).1 ((one r r may.term.means t may.term.refers at).0 refl) in
        rw same refl

    planned_later : (q : ℕ) (t : Term) → q ≢ r → RefersTo s v q t → planned (named ∷ h.plan) t ≡ planned h.plan t
    planned_later q t other at = go (term_eq may.term.means t) refl
      where
        go : (test : Bool) → term_eq may.term.means t ≡ test → planned (named ∷ h.plan) t ≡ planned h.plan t
        go true e = absurd (other (sym ((one r q may.term.means t may.term.refers at).1 ((term_eq_decides may.term.means t).0 e))))
        go false e = rw e refl

    in_step : (q : ℕ) (t : Term) → RefersTo s v q t → IsEntryOf taken (entry_at new q) (planned (named ∷ h.plan) t)
    in_step q t at = ⊎_elim first rest (cases_eq q r)
      where
        first : q ≡ r → IsEntryOf taken (entry_at new q) (planned (named ∷ h.plan) t)
        first same =
            subst (λ o. IsEntryOf taken o (planned (named ∷ h.plan) t)) (sym (ap (entry_at new) same ∙ here))
            (subst (λ o. IsEntryOf taken (Some entry) o) (sym (planned_here t (subst (λ x. RefersTo s v x t) same at))) (refl, free))

        rest : q ≢ r → IsEntryOf taken (entry_at new q) (planned (named ∷ h.plan) t)
        rest other =
            subst (λ o. IsEntryOf taken o (planned (named ∷ h.plan) t)) (sym (elsewhere q other))
            (subst (λ o. IsEntryOf taken (entry_at old q) o) (sym (planned_later q t other at)) (h.given.in_step q t at))

    given : AreGiven (named ∷ h.plan) s v new taken
    given = record {
      cells = λ q low. elsewhere q (λ same. let c = may.cell in absurd (omega (arith, c, low, same))) ∙ h.given.cells q low;
      apart = λ p q d e some also same. apart p q d e some also same (cases_eq p r) (cases_eq q r);
      in_step = in_step;
    }
      where
        is_entry : (p : ℕ) (d : Entry) → p ≡ r → entry_at new p ≡ Some d → d ≡ entry
        is_entry p d e some = let f : Some d ≡ Some entry = sym some ∙ (ap (entry_at new) e ∙ here) in cc

        apart : (p q : ℕ) (d e : Entry) → entry_at new p ≡ Some d → entry_at new q ≡ Some e → name_numbered d.number ≡ name_numbered e.number
            → (p ≡ r) ⊎ (p ≢ r) → (q ≡ r) ⊎ (q ≢ r) → p ≡ q
        apart p q d e some also same (inl a) (inl b) = a ∙ sym b
        apart p q d e some also same (inl a) (inr b) =
            absurd (numbers q e (sym (elsewhere q b) ∙ also) (sym same ∙ ap (λ (x : Entry). name_numbered x.number) (is_entry p d a some)))
        apart p q d e some also same (inr a) (inl b) =
            absurd (numbers p d (sym (elsewhere p a) ∙ some) (same ∙ ap (λ (x : Entry). name_numbered x.number) (is_entry q e b also)))
        apart p q d e some also same (inr a) (inr b) = h.given.apart p q d e (sym (elsewhere p a) ∙ some) (sym (elsewhere q b) ∙ also) same

    pub one_more : HasPlanBelow s v new taken (k + 1)
    one_more = record {
      plan = named ∷ h.plan;
      each = λ n at. ⊎_elim (λ e. subst (IsNamedBelow s taken (k + 1)) e is_named) (λ l. later n (h.each n l)) (contains_cases named n h.plan at);
      distinct = λ m n a b e. distinct m n e (contains_cases named m h.plan a) (contains_cases named n h.plan b);
      below = λ q e some. below q e some (cases_eq q r);
      given = given;
    }
      where
        distinct : (m n : Named) → m.name ≡ n.name → (named ≡ m) ⊎ Contains h.plan m → (named ≡ n) ⊎ Contains h.plan n → m ≡ n
        distinct m n e (inl a) (inl b) = sym a ∙ b
        distinct m n e (inl a) (inr b) = absurd (not_named n b (sym e ∙ sym (ap (λ (x : Named). x.name) a)))
        distinct m n e (inr a) (inl b) = absurd (not_named m a (e ∙ sym (ap (λ (x : Named). x.name) b)))
        distinct m n e (inr a) (inr b) = h.distinct m n a b e

        below : (q : ℕ) (e : Entry) → entry_at new q ≡ Some e → (q ≡ r) ⊎ (q ≢ r) → e.number < k + 1
        below q e some (inl a) =
            let f : Some e ≡ Some entry = sym some ∙ (ap (entry_at new) a ∙ here) in
            let same : e ≡ entry = cc in
            let number : e.number ≡ k = ap (λ (x : Entry). x.number) same in
            omega (arith, number)
        below q e some (inr a) = let l = h.below q e (sym (elsewhere q a) ∙ some) in omega (arith, l, behind)

  -- what the names come to
  pub all_named : (names : Names) (next : ℕ) → next < 2 ^ 64 → HasPlanBelow s v names taken next → HasPlan s v names taken
  all_named names next few h = record {
    plan = h.plan;
    is_plan = record {
      usable = λ n at. subst IsUsable (sym (h.each n at).name) (number_usable (h.each n at).number);
      symbol = λ n at. subst IsSymbolItem (sym (h.each n at).name) (number_symbol (h.each n at).number (let l = (h.each n at).few in omega (arith, l, few)));
      free_word = λ n at. subst (λ x. is_built_in x ≡ false) (sym (h.each n at).name) (number_no_word (h.each n at).number);
      sorted = λ n at. (h.each n at).sorted;
      closed = λ n at. (h.each n at).closed;
      distinct = h.distinct;
    };
    given = h.given;
    free = λ n at. (h.each n at).free;
    no_leaf = λ n at. (h.each n at).no_leaf;
  }
