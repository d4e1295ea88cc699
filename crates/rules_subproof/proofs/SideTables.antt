-- The table of the sides of premises.
use Rattle.std.proofs.Common.{◌≡◌, ◌≢◌, ◌↔◌, ◌⊎◌, ◌<◌, ◌+◌, inl, inr, ℕ, Bool, true, false, ◌||◌, cond, List, [], ◌∷◌, ◌++◌, take, length, get_or, Contains, IsTrue, Decides, refl, sym, ◌∙◌, ap, subst}
use Rattle.std.specs.List.{AllZip, list_any}
use Rattle.std.proofs.lemmas.Bool.Decides.{Decides-eqb, Decides-and}
use Rattle.std.proofs.lemmas.List.{map-append, take_more}
use Rattle.std.proofs.lemmas.List.Elements.{Contains-append_left, Contains-push, Contains-push_cases}
use Rattle.indexmap.proofs.CallerLemmas.{Contains-list_any}
use Rattle.indexmap.specs.IndexSet.{insert_key}
use Rattle.sym_table.specs.Table.{Table}
use Rattle.term_model.specs.Flips.{equality}
use Rattle.term_model.specs.Terms.{Var, Term}
use Rattle.term_model.proofs.Lists.{contains_none, contains_cases}
use Rattle.term_pool.specs.Views.{TermsView, RefersTo}
use Rattle.rule_model.specs.Congruence.{AreSides}
use Rattle.rule_model.specs.Proofs.{ProofItems}
use Rattle.rule_model.specs.Reading.{clause_at}
use Rattle.rule_model.proofs.ArgumentLists.{same_sides}
use Rattle.term_pool.specs.Bindings.{IsBindingOf}
use Rattle.rules_subproof.specs.contracts.sides.SidesPartialEq.TheImpl as tables
use Rattle.rules_subproof.specs.declared.sides.Sides.{Sides}
use Rattle.rules_subproof.specs.Lets.{IsUnitOf, IsEqualBy, clauses_at}
use Rattle.rules_subproof.specs.SideTables.{sides_are, AddsSides, TellsSides, AreOneBy, IsBoundTo}
use Rattle.rules_subproof.proofs.Linking.{images_of}
use Rattle.rules_subproof.proofs.UnitClauses.{both_same}

sides_same : (x y : Sides) → x.left ≡ y.left → x.right ≡ y.right → x ≡ y
sides_same x y e f = λ i. record { left = e i; right = f i }

pub Decides-sides : (x y : Sides) → Decides ((tables.ghosts).eq x y) (x ≡ y)
Decides-sides x y =
    let both = Decides-and _ _ (Decides-eqb x.left y.left) (Decides-eqb x.right y.right) in
    (λ h. let e = both.0 h in sides_same x y e.0 e.1, λ h. both.1 (ap (λ (z : Sides). z.left) h, ap (λ (z : Sides). z.right) h))

-- a test of each item finds those that are there
any_of : (x : Sides) (xs : List Sides) → list_any ((tables.ghosts).eq x) xs ≡ true → Contains xs x
any_of x xs e = Contains-list_any ((tables.ghosts).eq) (λ y z. (Decides-sides y z).0) xs x e

of_any : (x : Sides) (xs : List Sides) → Contains xs x → list_any ((tables.ghosts).eq x) xs ≡ true
of_any x [] h = absurd (contains_none x h)
of_any x (y ∷ xs) h =
    elim (contains_cases y x xs h) [
      | inl e ↦ rw ((Decides-sides x y).1 (sym e)) refl
      | inr later ↦ (let rest = of_any x xs later in rw rest (or_right ((tables.ghosts).eq x y)))
    ]
  where
    or_right : (b : Bool) → (b || true) ≡ true
    or_right true = refl
    or_right false = refl

pub has_sides : (xs : List Sides) (x : Sides) → IsTrue (list_any ((tables.ghosts).eq x) xs) ↔ Contains xs x
has_sides xs x = (any_of x xs, of_any x xs)

-- sides more in a table
record Inserts (old : List Sides) (x : Sides) (new : List Sides) : Type 0 where
  stays : (y : Sides) → Contains old y → Contains new y
  here : Contains new x
  only : (y : Sides) → Contains new y → Contains old y ⊎ (x ≡ y)

inserts : (xs : List Sides) (x : Sides) → Inserts xs x (insert_key ((tables.ghosts).eq) xs x)
inserts xs x = go (list_any ((tables.ghosts).eq x) xs) refl
  where
    go : (b : Bool) → list_any ((tables.ghosts).eq x) xs ≡ b → Inserts xs x (cond b xs (xs ++ x ∷ []))
    go true e = record { stays = λ y h. h; here = any_of x xs e; only = λ y h. inl h }
    go false e =
        record { stays = λ y h. Contains-append_left xs (x ∷ []) y h; here = Contains-push xs x; only = λ y h. Contains-push_cases xs x y h }

pub adds_sides : (xs : List Sides) (a b : ℕ) → AddsSides xs a b (insert_key ((tables.ghosts).eq) (insert_key ((tables.ghosts).eq) xs (sides_are a b)) (sides_are b a))
adds_sides xs a b =
    let first = inserts xs (sides_are a b) in
    let second = inserts (insert_key ((tables.ghosts).eq) xs (sides_are a b)) (sides_are b a) in
    record {
      stays = λ x h. second.stays x (first.stays x h);
      one = second.stays (sides_are a b) first.here;
      other = second.here;
      only = λ x h. elim (second.only x h) [
        | inl before ↦ elim (first.only x before) [ inl old ↦ inl old | inr e ↦ inr (inl e) ]
        | inr e ↦ inr (inr e)
      ];
    }

-- a premise more
sides_push : (cs : List (List Term)) (c : List Term) (t u : Term) → AreSides (cs ++ c ∷ []) t u ↔ (AreSides cs t u ⊎ ((c ≡ equality t u ∷ []) ⊎ (c ≡ equality u t ∷ [])))
sides_push cs c t u = (
  λ h. elim h [
    | inl a ↦ elim (Contains-push_cases cs c (equality t u ∷ []) a) [ inl k ↦ inl (inl k) | inr e ↦ inr (inl e) ]
    | inr b ↦ elim (Contains-push_cases cs c (equality u t ∷ []) b) [ inl k ↦ inl (inr k) | inr e ↦ inr (inr e) ]
  ],
  λ h. elim h [
    | inl s ↦ elim s [
      | inl a ↦ inl (Contains-append_left cs (c ∷ []) (equality t u ∷ []) a)
      | inr b ↦ inr (Contains-append_left cs (c ∷ []) (equality u t ∷ []) b)
    ]
    | inr s ↦ elim s [
      | inl e ↦ inl (subst (Contains (cs ++ c ∷ [])) e (Contains-push cs c))
      | inr e ↦ inr (subst (Contains (cs ++ c ∷ [])) e (Contains-push cs c))
    ]
  ],
)

pub clauses_next : (of : ProofItems Var Term) (js : List ℕ) (k : ℕ) → k < length js → clauses_at of (take (k + 1) js) ≡ clauses_at of (take k js) ++ clause_at of (get_or js k 0) ∷ []
clauses_next of js k below =
    ap (clauses_at of) (take_more js k 0 below) ∙ map-append (clause_at of) (take k js) (get_or js k 0 ∷ [])

module _ (s : Table) (v : TermsView) where
  pub told_none : (table : List Sides) → table ≡ [] → TellsSides s v table []
  told_none table e a b t u l r = (
    λ h. absurd (contains_none (sides_are a b) (subst (λ xs. Contains xs (sides_are a b)) e h)),
    λ h. elim h [ inl k ↦ absurd (contains_none _ k) | inr k ↦ absurd (contains_none _ k) ],
  )

  pub told_other : (table : List Sides) (cs : List (List Term)) (c : List Term) → ((t u : Term) → c ≢ equality t u ∷ []) → TellsSides s v table cs → TellsSides s v table (cs ++ c ∷ [])
  told_other table cs c other told a b t u l r =
      let more = sides_push cs c t u in
      let before = told a b t u l r in (
        λ h. more.1 (inl (before.0 h)),
        λ h. elim (more.0 h) [
          | inl k ↦ before.1 k
          | inr d ↦ elim d [ inl e ↦ absurd (other t u e) | inr e ↦ absurd (other u t e) ]
        ],
      )

  module _ (equal : (p q : ℕ) (t u : Term) → RefersTo s v p t → RefersTo s v q u → (p ≡ q) ↔ (t ≡ u)) where
    pub told_one : (old new : List Sides) (cs : List (List Term)) (c : List Term) (p : ℕ × ℕ) → AddsSides old p.0 p.1 new → IsUnitOf s v p c → TellsSides s v old cs → TellsSides s v new (cs ++ c ∷ [])
    told_one old new cs c p adds unit told a b t u l r =
        let more = sides_push cs c t u in
        let before = told a b t u l r in (
          λ h. more.1 (elim (adds.only (sides_are a b) h) [
            | inl k ↦ inl (before.0 k)
            | inr d ↦ elim d [
              | inl e ↦ inr (inl (both_same s v equal p a b t u c unit l r (ap (λ (z : Sides). z.left) e) (ap (λ (z : Sides). z.right) e)))
              | inr e ↦ inr (inr (both_same s v equal p b a u t c unit r l (ap (λ (z : Sides). z.right) e) (ap (λ (z : Sides). z.left) e)))
            ]
          ]),
          λ h. elim (more.0 h) [
            | inl k ↦ adds.stays (sides_are a b) (before.1 k)
            | inr d ↦ elim d [
              | inl e ↦ subst (Contains new) (same_pair a b t u l r e) adds.one
              | inr e ↦ subst (Contains new) (turned_pair a b t u l r e) adds.other
            ]
          ],
        )
      where
        same_pair : (a b : ℕ) (t u : Term) → RefersTo s v a t → RefersTo s v b u → c ≡ equality t u ∷ [] → sides_are p.0 p.1 ≡ sides_are a b
        same_pair a b t u l r e =
            let parts = same_sides _ _ _ _ (sym unit.is ∙ e) in
            sides_same (sides_are p.0 p.1) (sides_are a b) ((equal p.0 a unit.left t unit.left_refers l).1 parts.0) ((equal p.1 b unit.right u unit.right_refers r).1 parts.1)

        turned_pair : (a b : ℕ) (t u : Term) → RefersTo s v a t → RefersTo s v b u → c ≡ equality u t ∷ [] → sides_are p.1 p.0 ≡ sides_are a b
        turned_pair a b t u l r e =
            let parts = same_sides _ _ _ _ (sym unit.is ∙ e) in
            sides_same (sides_are p.1 p.0) (sides_are a b) ((equal p.1 a unit.right t unit.right_refers l).1 parts.1) ((equal p.0 b unit.left u unit.left_refers r).1 parts.0)

    -- what a let binds its variables to is linked with what an anchor does exactly where the references are
    one_by_is : (table : List Sides) (cs : List (List Term)) → TellsSides s v table cs → (a b : ℕ) (t u : Term) → RefersTo s v a t → RefersTo s v b u → AreOneBy table a b ↔ IsEqualBy cs t u
    one_by_is table cs told a b t u l r = (
      λ h. elim h [ inl e ↦ inl ((equal a b t u l r).0 e) | inr k ↦ inr ((told a b t u l r).0 k) ],
      λ h. elim h [ inl e ↦ inl ((equal a b t u l r).1 e) | inr k ↦ inr ((told a b t u l r).1 k) ],
    )

    pub linked_are : (table : List Sides) (cs : List (List Term)) → TellsSides s v table cs → (values : List ℕ) (anchor : List (ℕ × ℕ)) (ts : List Term) (bound : List (Var × Term)) → AllZip (RefersTo s v) values ts → AllZip (IsBindingOf s v) anchor bound → AllZip (IsBoundTo table) values anchor ↔ AllZip (IsEqualBy cs) ts (images_of bound)
    linked_are table cs told [] [] [] [] h i = (λ k. k, λ k. k)
    linked_are table cs told [] [] [] (b ∷ bound) h i = absurd i
    linked_are table cs told [] (a ∷ anchor) [] [] h i = absurd i
    linked_are table cs told [] (a ∷ anchor) [] (b ∷ bound) h i = (λ k. k, λ k. k)
    linked_are table cs told [] anchor (t ∷ ts) bound h i = absurd h
    linked_are table cs told (x ∷ values) anchor [] bound h i = absurd h
    linked_are table cs told (x ∷ values) [] (t ∷ ts) [] h i = (λ k. k, λ k. k)
    linked_are table cs told (x ∷ values) [] (t ∷ ts) (b ∷ bound) h i = absurd i
    linked_are table cs told (x ∷ values) (a ∷ anchor) (t ∷ ts) [] h i = absurd i
    linked_are table cs told (x ∷ values) (a ∷ anchor) (t ∷ ts) (b ∷ bound) h i =
        let here = one_by_is table cs told x a.1 t b.1 h.0 i.0.term in
        let later = linked_are table cs told values anchor ts bound h.1 i.1 in
        (λ k. (here.0 k.0, later.0 k.1), λ k. (here.1 k.0, later.1 k.1))
