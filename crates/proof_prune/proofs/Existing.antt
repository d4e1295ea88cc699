-- A proof whose kept assumes have assertions has a core.
use Rattle.std.proofs.Common.{◌≡◌, ◌<◌, ◌+◌, ◌&&◌, ◌⊎◌, inl, inr, ℕ, zero, suc, nat_eq, Bool, true, false, List, [], ◌∷◌, ◌++◌, length, slice_get, Option, Some, None, set, All, Any, refl, sym, ap, ◌∙◌, subst, arith}
use Rattle.std.specs.List.{AllZip}
use Rattle.std.proofs.lemmas.List.Elements.{All-contains}
use Rattle.sym_table.specs.Leaf.{operator}
use Rattle.sym_table.specs.Table.{Table, IsTable}
use Rattle.pair_pool.specs.Views.{IsOneToOne}
use Rattle.std.proofs.lemmas.Option.{slice_get_within}
use Rattle.term_model.proofs.Basics.{any_cases, any_none, same_some}
use Rattle.term_model.proofs.Lists.{contains_cases, contains_head, contains_later}
use Rattle.term_model.specs.declared.symbols.Op.{Op}
use Rattle.term_model.specs.Flips.{EqualUpToFlips}
use Rattle.term_model.specs.Terms.{Var, Term}
use Rattle.term_pool.specs.Pairs.{same_terms}
use Rattle.term_pool.specs.Views.{TermsView, RefersTo, ReferToAll, IsTerm}
use Rattle.term_pool.proofs.FlipLemmas.{flips_are}
use Rattle.rule_model.specs.Proofs.{ProofItems}
use Rattle.rule_model.specs.Reading.{clause_at, rule_at, scope_at, is_assume}
use Rattle.rule_model.specs.Scopes.{commands_in}
use Rattle.proof_store.specs.Meaning.{StandForItems}
use Rattle.pruned_proofs.specs.Reached.{is_kept}
use Rattle.pruned_proofs.proofs.Nested.{all_if}
use Rattle.flip_keys.specs.Assertions.{IsFirstLike}
use Rattle.proof_prune.specs.Firsts.{AreFirsts, AreNumbersTo, TellsFirst}
use Rattle.proof_prune.specs.Marking.{MarksMore}
use Rattle.proof_prune.specs.Numbering.{AreAsserted, HasCore}
use Rattle.proof_prune.specs.Wanted.{AreWantedTo}
use Rattle.proof_prune.proofs.Found.{wanted_terms, found_core}
use Rattle.proof_prune.proofs.FirstMarks.{none_first, one_first}
use Rattle.proof_prune.proofs.Listing.{no_numbers, one_number, same_numbers}
use Rattle.proof_prune.proofs.Marks.{marked_count, no_more, one_marked}
use Rattle.proof_prune.proofs.Wanted.{none_yet, one_wanted, none_wanted}

abbrev Is : Type 0 → Type 0
Is A = A ⊎ (¬ A)

false_true : false ≡ true → ⊥
false_true e = cc

-- as many numbers, of which none is marked
none_of : (count : ℕ) → (marks : List Bool) × (length marks ≡ count) × ((n : ℕ) → is_kept marks n ≡ true → ⊥)
none_of zero = ([], refl, λ n e. false_true e)
none_of (suc count) =
    let rest = none_of count in
    let few = rest.1 in
    (false ∷ rest.0, omega arith, λ n e. go rest.0 rest.2 n e)
  where
    go : (marks : List Bool) → ((n : ℕ) → is_kept marks n ≡ true → ⊥) → (n : ℕ) → is_kept (false ∷ marks) n ≡ true → ⊥
    go marks none zero e = false_true e
    go marks none (suc n) e = none n e

-- the first of some terms that is equal up to flips to a term
module _ (s : Table) (v : TermsView) (table : IsTable s) (pass : IsOneToOne v.pass) where
  is_alike : (r q : ℕ) (t u : Term) → RefersTo s v r t → RefersTo s v q u → Is (EqualUpToFlips t u)
  is_alike r q t u left right = go (same_terms 9 left.tree right.tree) refl
    where
      go : (b : Bool) → same_terms 9 left.tree right.tree ≡ b → Is (EqualUpToFlips t u)
      go b e =
          let both = flips_are s v 9 r q b table (table.begins 9 (operator Op.Equal) refl)
          (λ x y known other. sym e ∙ rw (pass.one_tree r x left.tree known left.known, pass.one_tree q y right.tree other right.known) refl) in
          ending b (λ is. (both t u left right).0 is) (λ h. (both t u left right).1 h)
        where
          ending : (c : Bool) → (c ≡ true → EqualUpToFlips t u) → (EqualUpToFlips t u → c ≡ true) → Is (EqualUpToFlips t u)
          ending true f g = inl (f refl)
          ending false f g = inr (λ h. false_true (g h))

  next_others : (u : Term) (ts : List Term) (t : Term) (k : ℕ) → ¬ EqualUpToFlips u t → IsFirstLike ts t k → (n : ℕ) (w : Term) → n < suc k
      → slice_get (u ∷ ts) n ≡ Some w → ¬ EqualUpToFlips w t
  next_others u ts t k not h zero w less there equal = not (subst (λ x. EqualUpToFlips x t) (sym (same_some there)) equal)
  next_others u ts t k not h (suc n) w less there equal = h.others n w (omega (arith, less)) there equal

  first_among : (rs : List ℕ) (ts : List Term) → ReferToAll s v rs ts → (q : ℕ) (t : Term) → RefersTo s v q t
      → ((n : ℕ) × IsFirstLike ts t n) ⊎ (¬ Any (λ a. EqualUpToFlips a t) ts)
  first_among [] [] refer q t right = inr (λ any. any_none (λ a. EqualUpToFlips a t) any)
  first_among [] (u ∷ ts) refer q t right = absurd refer
  first_among (x ∷ rs) [] refer q t right = absurd refer
  first_among (x ∷ rs) (u ∷ ts) refer q t right =
      elim (is_alike x q u t refer.0 right) [
        | inl equal ↦ inl (0, record { term = u; there = refl; equal = equal; others = λ n w less. absurd (omega (arith, less)) })
        | inr not ↦ elim (first_among rs ts refer.1 q t right) [
          | inl found ↦ inl (
            suc found.0,
            record {
              term = found.1.term;
              there = found.1.there;
              equal = found.1.equal;
              others = next_others u ts t found.0 not found.1;
            },
          )
          | inr none ↦ inr (λ any. elim (any_cases (λ a. EqualUpToFlips a t) u ts any) [ inl h ↦ not h | inr h ↦ none h ])
        ]
      ]

  module _ (one : (r : ℕ) (t u : Term) → RefersTo s v r t → RefersTo s v r u → t ≡ u) (assertions : List ℕ) (ts : List Term)
      (refer : ReferToAll s v assertions ts) where
    tells : (r : ℕ) (is : IsTerm s v r) → (found : Option ℕ) × TellsFirst s v ts r found
    tells r is =
        elim (first_among assertions ts refer r is.means is.refers) [
          | inl found ↦ (
            Some found.0,
            record {
              first = λ t refers. subst (λ u. IsFirstLike ts u found.0) (one r is.means t is.refers refers) found.1;
              none = λ t refers. tt;
            },
          )
          | inr none ↦ (
            None,
            record {
              first = λ t refers. tt;
              none = λ t refers. subst (λ u. ¬ Any (λ a. EqualUpToFlips a u) ts) (one r is.means t is.refers refers) none;
            },
          )
        ]

    -- the number is marked, where there is one
    mark_one : (r : ℕ) (is : IsTerm s v r) (marks : List Bool) → length marks ≡ length ts → (found : Option ℕ) → TellsFirst s v ts r found
        → (more : List Bool) × (length more ≡ length ts) × MarksMore marks more (λ n. found ≡ Some n)
    mark_one r is marks count None told = (marks, count, no_more marks (λ n. None ≡ Some n) (λ n e. absurd (cc)))
    mark_one r is marks count (Some n) told =
        let first = told.first is.means is.refers in
        let below = slice_get_within ts n first.term first.there in (
          set marks n true,
          marked_count marks n ∙ count,
          same_more marks (set marks n true) n (one_marked marks n (omega arith)),
        )
      where
        same_more : (a b : List Bool) (n : ℕ) → MarksMore a b (λ j. j ≡ n) → MarksMore a b (λ j. Some n ≡ Some j)
        same_more a b n h = record {
          stays = h.stays;
          added = λ j e. h.added j (sym (same_some e));
          only = λ j e. elim (h.only j e) [ inl old ↦ inl old | inr same ↦ inr (ap Some (sym same)) ];
        }

    pub some_firsts : (list : List ℕ) → All (IsTerm s v) list → (marks : List Bool) × (length marks ≡ length ts) × AreFirsts s v ts list marks
    some_firsts [] all =
        let none = none_of (length ts) in
        (none.0, none.1, none_first s v ts none.0 none.2)
    some_firsts (r ∷ list) all =
        let is = All-contains (IsTerm s v) (r ∷ list) r all (contains_head r list) in
        let rest = some_firsts list (all_if (IsTerm s v) list (λ q has. All-contains (IsTerm s v) (r ∷ list) q all (contains_later r q list has))) in
        let told = tells r is in
        let more = mark_one r is rest.0 rest.1 told.0 told.1 in (
          more.0,
          more.1,
          one_first s v ts list (r ∷ list) r is (λ q has. contains_later r q list has) (contains_head r list)
              (λ q has. elim (contains_cases r q list has) [ inl same ↦ inr same | inr old ↦ inl old ]) rest.0 more.0 told.0 more.2 told.1 rest.2,
        )

pub some_numbers : (marks : List Bool) (i : ℕ) → (numbers : List ℕ) × AreNumbersTo marks i numbers
some_numbers marks zero = ([], no_numbers marks)
some_numbers marks (suc i) =
    let before = some_numbers marks i in
    let next : i + 1 ≡ suc i = omega arith in
    go before (is_kept marks i) refl next
  where
    go : (before : (numbers : List ℕ) × AreNumbersTo marks i numbers) (b : Bool) → is_kept marks i ≡ b → i + 1 ≡ suc i → (numbers : List ℕ) × AreNumbersTo marks (suc i) numbers
    go before true e next = (before.0 ++ i ∷ [], subst (λ n. AreNumbersTo marks n (before.0 ++ i ∷ [])) next (one_number marks i before.0 before.1 e))
    go before false e next = (before.0, subst (λ n. AreNumbersTo marks n before.0) next (same_numbers marks i before.0 before.1 e))

pub some_wanted : (marks : List Bool) (proof : ProofItems ℕ ℕ) (i : ℕ) → (list : List ℕ) × AreWantedTo marks proof i list
some_wanted marks proof zero = ([], none_yet marks proof)
some_wanted marks proof (suc i) =
    let next : i + 1 ≡ suc i = omega arith in
    go (some_wanted marks proof i) (is_kept marks i && (is_assume (rule_at proof i) && nat_eq (scope_at proof i) 0)) refl next
  where
    go : (before : (list : List ℕ) × AreWantedTo marks proof i list) (b : Bool) → (is_kept marks i && (is_assume (rule_at proof i) && nat_eq (scope_at proof i) 0)) ≡ b → i + 1 ≡ suc i
        → (list : List ℕ) × AreWantedTo marks proof (suc i) list
    go before true e next = (before.0 ++ clause_at proof i, subst (λ n. AreWantedTo marks proof n (before.0 ++ clause_at proof i)) next (one_wanted marks proof i before.0 before.1 e))
    go before false e next = (before.0, subst (λ n. AreWantedTo marks proof n before.0) next (none_wanted marks proof i before.0 before.1 e))

module _ (s : Table) (v : TermsView) (table : IsTable s) (pass : IsOneToOne v.pass) (one : (r : ℕ) (t u : Term) → RefersTo s v r t → RefersTo s v r u → t ≡ u)
    (refs : ProofItems ℕ ℕ) (proof : ProofItems Var Term) (stand : StandForItems s v refs proof) (rule : (i : ℕ) → rule_at refs i ≡ rule_at proof i)
    (scope : (i : ℕ) → scope_at refs i ≡ scope_at proof i) (clause : (i : ℕ) → AllZip (RefersTo s v) (clause_at refs i) (clause_at proof i)) where
  pub some_core : (marks : List Bool) (assertions : List ℕ) (ts : List Term) → ReferToAll s v assertions ts → AreAsserted marks ts proof → HasCore marks ts proof
  some_core marks assertions ts refer asserted =
      let wanted = some_wanted marks refs (commands_in refs) in
      let firsts = some_firsts s v table pass one assertions ts refer wanted.0 (wanted_terms s v refs proof stand rule scope clause marks wanted.0 wanted.1) in
      let numbers = some_numbers firsts.0 (length firsts.0) in
      record {
        numbers = numbers.0;
        is = found_core s v refs proof stand rule scope clause marks ts one wanted.0 wanted.1 firsts.0 firsts.2 asserted numbers.0 numbers.1;
      }
