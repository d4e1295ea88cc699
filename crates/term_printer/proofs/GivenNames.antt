-- The names of terms: what the table says of a term, and that it stays in step where a name is given.
use Rattle.std.proofs.Common.{◌≡◌, ◌≢◌, ℕ, Bool, true, false, ◌||◌, Option, Some, None, List, [], ◌∷◌, ◌++◌, ⊎_elim}
use Rattle.std.proofs.Common.{bytes_eq, nat_eq, refl, sym, ap, ◌∙◌, subst}
use Rattle.std.specs.Map.{update}
use Rattle.std.proofs.lemmas.Bool.{cases_eq}
use Rattle.std.proofs.lemmas.List.Folds.{list_any-append}
use Rattle.std.proofs.lemmas.Map.{update_here, update_apart}
use Rattle.std.proofs.lemmas.Slice.Eq.{bytes_eq-Decides}
use Rattle.sym_table.specs.Table.{Table}
use Rattle.term_model.specs.Terms.{Term}
use Rattle.term_pool.specs.Views.{TermsView, RefersTo}
use Rattle.problem_text.specs.Scripts.{Named}
use Rattle.problem_text.specs.Words.{is_among}
use Rattle.printed_proofs.specs.Shared.{Plan, planned}
use Rattle.term_printer.specs.Names.{name_numbered, entry_at, given_entry, IsEntryOf, AreGiven}
use Rattle.term_printer.specs.declared.names.Entry.{Entry}
use Rattle.term_printer.specs.declared.names.Names.{Names}

-- what has no entry is not planned
none_of : (taken : List (List ℕ)) (e : Option Entry) (o : Option Named) → e ≡ None → IsEntryOf taken e o → o ≡ None
none_of taken None None none is = refl
none_of taken None (Some n) none is = absurd is
none_of taken (Some e) o none is = absurd (let f : Some e ≡ None = none in cc)

-- the term is to have the name of this entry
pub record IsPlannedAs (plan : Plan) (t : Term) (taken : List (List ℕ)) (e : Entry) : Type 0 where
  pub named : Named
  pub is : planned plan t ≡ Some named
  pub name : named.name ≡ name_numbered e.number
  pub given : is_among taken named.name ≡ e.is_given

some_of : (plan : Plan) (t : Term) (taken : List (List ℕ)) (e : Entry) (m : Option Entry) (o : Option Named) → m ≡ Some e → planned plan t ≡ o
    → IsEntryOf taken m o → IsPlannedAs plan t taken e
some_of plan t taken e None o some is entry = absurd (let f : None ≡ Some e = some in cc)
some_of plan t taken e (Some d) None some is entry = absurd entry
some_of plan t taken e (Some d) (Some n) some is entry =
    let same : d ≡ e = (let f : Some d ≡ Some e = some in cc) in
    record {
      named = n;
      is = is;
      name = entry.0 ∙ ap (λ (x : Entry). name_numbered x.number) same;
      given = entry.1 ∙ ap (λ (x : Entry). x.is_given) same;
    }

-- the entry of a name is that of the same number
number_of : (taken : List (List ℕ)) (m : Option Entry) (n : Named) → IsEntryOf taken m (Some n) → (e : Entry) × (m ≡ Some e) × (n.name ≡ name_numbered e.number)
number_of taken None n is = absurd is
number_of taken (Some e) n is = (e, refl, is.0)

-- names that are given, with one more
given_here : (xs : List (List ℕ)) (m : List ℕ) → is_among (xs ++ m ∷ []) m ≡ true
given_here xs m =
    let same : bytes_eq m m ≡ true = (bytes_eq-Decides m m).1 refl in
    list_any-append (bytes_eq m) xs (m ∷ []) ∙ rw same (go (is_among xs m))
  where
    go : (b : Bool) → (b || (true || false)) ≡ true
    go true = refl
    go false = refl

given_apart : (xs : List (List ℕ)) (m name : List ℕ) → bytes_eq name m ≡ false → is_among (xs ++ m ∷ []) name ≡ is_among xs name
given_apart xs m name other = list_any-append (bytes_eq name) xs (m ∷ []) ∙ rw other (go (is_among xs name))
  where
    go : (b : Bool) → (b || (false || false)) ≡ b
    go true = refl
    go false = refl

module _ (plan : Plan) (s : Table) (v : TermsView) (old : Names) (taken : List (List ℕ)) (g : AreGiven plan s v old taken) where
  pub unplanned : (r : ℕ) (t : Term) → RefersTo s v r t → entry_at old r ≡ None → planned plan t ≡ None
  unplanned r t refers none = none_of taken (entry_at old r) (planned plan t) none (g.in_step r t refers)

  pub planned_as : (r : ℕ) (t : Term) (e : Entry) → RefersTo s v r t → entry_at old r ≡ Some e → IsPlannedAs plan t taken e
  planned_as r t e refers some = some_of plan t taken e (entry_at old r) (planned plan t) some refl (g.in_step r t refers)

  pub has_entry : (r : ℕ) (t : Term) (n : Named) → RefersTo s v r t → planned plan t ≡ Some n
      → (e : Entry) × (entry_at old r ≡ Some e) × (n.name ≡ name_numbered e.number)
  has_entry r t n refers is =
      number_of taken (entry_at old r) n (subst (λ x. IsEntryOf taken (entry_at old r) x) is (g.in_step r t refers))

  -- where the name of a term is given
  module _ (new : Names) (r : ℕ) (t : Term) (n : Named) (refers : RefersTo s v r t) (is : planned plan t ≡ Some n)
      (one : (q : ℕ) (u : Term) → RefersTo s v q u → q ≡ r → u ≡ t)
      (now : (q : ℕ) → entry_at new q ≡ update nat_eq (entry_at old) r (given_entry (entry_at old r)) q) where
    here : (q : ℕ) → q ≡ r → entry_at new q ≡ given_entry (entry_at old q)
    here q e =
        subst (λ x. entry_at new x ≡ given_entry (entry_at old x)) (sym e)
        (now r ∙ update_here (entry_at old) r (given_entry (entry_at old r)))

    elsewhere : (q : ℕ) → q ≢ r → entry_at new q ≡ entry_at old q
    elsewhere q other = now q ∙ update_apart (entry_at old) r (given_entry (entry_at old r)) q other

    -- each entry has the number that it had
    was : (q : ℕ) (e : Entry) → entry_at new q ≡ Some e → (d : Entry) × (entry_at old q ≡ Some d) × (d.number ≡ e.number)
    was q e some = ⊎_elim (λ same. given (entry_at old q) refl (sym (here q same) ∙ some)) (λ other. (e, sym (elsewhere q other) ∙ some, refl)) (cases_eq q r)
      where
        given : (o : Option Entry) → entry_at old q ≡ o → given_entry o ≡ Some e → (d : Entry) × (entry_at old q ≡ Some d) × (d.number ≡ e.number)
        given None is f = absurd (let k : None ≡ Some e = f in cc)
        given (Some d) is f =
            let k : Some (record { number = d.number; is_given = true }) ≡ Some e = f in
            let same : record { number = d.number; is_given = true } ≡ e = cc in
            (d, is, ap (λ (x : Entry). x.number) same)

    given_step : (o : Option Entry) → IsEntryOf taken o (Some n) → IsEntryOf (taken ++ n.name ∷ []) (given_entry o) (Some n)
    given_step None is = absurd is
    given_step (Some e) is = (is.0, given_here taken n.name)

    other_step : (q : ℕ) (o : Option Named) → q ≢ r → IsEntryOf taken (entry_at old q) o → IsEntryOf (taken ++ n.name ∷ []) (entry_at old q) o
    other_step q o other step = go (entry_at old q) refl o step
      where
        other_name : (d : Entry) (k : Named) → entry_at old q ≡ Some d → k.name ≡ name_numbered d.number → (test : Bool)
            → bytes_eq k.name n.name ≡ test → test ≡ false
        other_name d k e name false f = refl
        other_name d k e name true f =
            let same : k.name ≡ n.name = (bytes_eq-Decides k.name n.name).0 f in
            let mine = has_entry r t n refers is in
            absurd (other (g.apart q r d mine.0 e mine.1 (sym name ∙ (same ∙ mine.2))))

        go : (m : Option Entry) → entry_at old q ≡ m → (o : Option Named) → IsEntryOf taken m o → IsEntryOf (taken ++ n.name ∷ []) m o
        go None e None h = tt
        go None e (Some k) h = absurd h
        go (Some d) e None h = absurd h
        go (Some d) e (Some k) h = (h.0, given_apart taken n.name k.name (other_name d k e h.0 (bytes_eq k.name n.name) refl) ∙ h.1)

    pub given_now : AreGiven plan s v new (taken ++ n.name ∷ [])
    given_now = record {
      cells = λ q low. ⊎_elim (λ same. here q same ∙ ap given_entry (g.cells q low)) (λ other. elsewhere q other ∙ g.cells q low) (cases_eq q r);
      apart = λ p q d e some also same.
          let a = was p d some in
          let b = was q e also in
          g.apart p q a.0 b.0 a.1 b.1 (ap name_numbered a.2 ∙ (same ∙ sym (ap name_numbered b.2)));
      in_step = λ q u at. ⊎_elim (λ same. first q u at same) (λ other. rest q u at other) (cases_eq q r);
    }
      where
        first : (q : ℕ) (u : Term) → RefersTo s v q u → q ≡ r → IsEntryOf (taken ++ n.name ∷ []) (entry_at new q) (planned plan u)
        first q u at same =
            let of_t : planned plan u ≡ Some n = ap (planned plan) (one q u at same) ∙ is in
            let before : IsEntryOf taken (entry_at old q) (Some n) = subst (λ x. IsEntryOf taken (entry_at old q) x) of_t (g.in_step q u at) in
            subst (λ x. IsEntryOf (taken ++ n.name ∷ []) (entry_at new q) x) (sym of_t)
            (subst (λ x. IsEntryOf (taken ++ n.name ∷ []) x (Some n)) (sym (here q same)) (given_step (entry_at old q) before))

        rest : (q : ℕ) (u : Term) → RefersTo s v q u → q ≢ r → IsEntryOf (taken ++ n.name ∷ []) (entry_at new q) (planned plan u)
        rest q u at other =
            subst (λ x. IsEntryOf (taken ++ n.name ∷ []) x (planned plan u)) (sym (elsewhere q other))
            (other_step q (planned plan u) other (g.in_step q u at))
