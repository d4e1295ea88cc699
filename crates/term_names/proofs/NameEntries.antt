-- The entries of names, by the numbers of the names and as contracts see them.
use Rattle.std.proofs.Common.{◌≡◌, ◌≢◌, ℕ, suc, ◌≤◌, ◌<◌, Bool, true, false, cond, List, [], ◌∷◌, ◌++◌, ◌+◌, length, get_or, set, eqb, position, slice_get, Option, Some, None, IfSome, refl, sym, ◌∙◌, ap, subst, arith}
use Rattle.std.specs.Str.{bytes_eq}
use Rattle.std.proofs.lemmas.List.{length_push, length-set, get_or-set_same, get_or-set_other}
use Rattle.std.proofs.lemmas.List.Quantifiers.{position-Some}
use Rattle.std.proofs.lemmas.Option.{slice_get-get_or, same_Some}
use Rattle.std.proofs.lemmas.Slice.Eq.{bytes_eq-Decides}
use Rattle.name_set.specs.Names.{StandOnce}
use Rattle.sym_table.proofs.Places.{position-there}
use Rattle.term_names.specs.declared.entries.Entry.{Entry}
use Rattle.term_names.specs.declared.entries.Entry.TheVariants.{Function, Reserved, Macro, Named}
use Rattle.term_names.specs.Entries.{EntriesView, lookup, Puts, IsThere}
use Rattle.term_names.specs.EntryTables.{AreThere, AreTableNumbers, number_given}
use Rattle.term_names.specs.NameTable.{entries_in}
use Rattle.term_names.proofs.Positions.{next_place, position_cons}

-- a new name that means nothing yet has no entry
pub same_entries : (names : List (List ℕ)) (es : List (Option Entry)) (name : List ℕ) → length es ≡ length names → entries_in (names ++ name ∷ []) (es ++ None ∷ []) ≡ entries_in names es
same_entries [] [] name l = refl
same_entries [] (o ∷ es) name l = absurd (omega arith)
same_entries (n ∷ names) [] name l = absurd (omega arith)
same_entries (n ∷ names) (None ∷ es) name l = same_entries names es name (omega (arith, l))
same_entries (n ∷ names) (Some e ∷ es) name l = ap (λ xs. (n, e) ∷ xs) (same_entries names es name (omega (arith, l)))

-- a name without a number has no entry
pub lookup_nowhere : (names : List (List ℕ)) (es : List (Option Entry)) (name : List ℕ) → position (bytes_eq name) names ≡ None → lookup (entries_in names es) name ≡ None
lookup_nowhere [] es name p = refl
lookup_nowhere (n ∷ names) [] name p = refl
lookup_nowhere (n ∷ names) (x ∷ es) name p =
    go (bytes_eq name n) (position (bytes_eq name) names) x (λ f. lookup_nowhere names es name f) refl refl (sym (position_cons (bytes_eq name) n names) ∙ p)
  where
    go : (b : Bool) (o : Option ℕ) (x : Option Entry) → (position (bytes_eq name) names ≡ None → lookup (entries_in names es) name ≡ None)
        → bytes_eq name n ≡ b → position (bytes_eq name) names ≡ o → next_place b o ≡ None → lookup (entries_in (n ∷ names) (x ∷ es)) name ≡ None
    go true o x rest d f h = cc
    go false None None rest d f h = rest f
    go false None (Some e) rest d f h = rw d (rest f)
    go false (Some j) x rest d f h = cc

-- where each name stands once, the first stands nowhere else, and each later one once
first_alone : (n : List ℕ) (names : List (List ℕ)) (name : List ℕ) → StandOnce (n ∷ names) → bytes_eq name n ≡ true → position (bytes_eq name) names ≡ None
first_alone n names name once e = go (position (bytes_eq name) names) refl
  where
    first : position (bytes_eq name) (n ∷ names) ≡ Some 0
    first = position_cons (bytes_eq name) n names ∙ ap (λ b. next_place b (position (bytes_eq name) names)) e

    go : (o : Option ℕ) → position (bytes_eq name) names ≡ o → o ≡ None
    go None f = refl
    go (Some j) f =
        let later : position (bytes_eq name) (n ∷ names) ≡ Some (suc j) = once (suc j) name (position-there names name j f) in
        let here = first in
        cc

later_once : (n : List ℕ) (names : List (List ℕ)) → StandOnce (n ∷ names) → StandOnce names
later_once n names once k name e =
    go (bytes_eq name n) (position (bytes_eq name) names) (sym (position_cons (bytes_eq name) n names) ∙ once (suc k) name e)
  where
    go : (b : Bool) (o : Option ℕ) → next_place b o ≡ Some (suc k) → o ≡ Some k
    go true o h = cc
    go false None h = cc
    go false (Some j) h = cc

-- the entry of a name with a number stands at that place
pub lookup_at : (names : List (List ℕ)) (es : List (Option Entry)) (name : List ℕ) (k : ℕ) (o : Option Entry) → StandOnce names → position (bytes_eq name) names ≡ Some k → slice_get es k ≡ Some o → lookup (entries_in names es) name ≡ o
lookup_at [] es name k o once p g = cc
lookup_at (n ∷ names) [] name k o once p g = cc
lookup_at (n ∷ names) (x ∷ es) name k o once p g =
    go (bytes_eq name n) (position (bytes_eq name) names) x (λ j. lookup_at names es name j o (later_once n names once)) refl refl (sym (position_cons (bytes_eq name) n names) ∙ p) g
  where
    go : (b : Bool) (q : Option ℕ) (x : Option Entry) → ((j : ℕ) → position (bytes_eq name) names ≡ Some j → slice_get es j ≡ Some o → lookup (entries_in names es) name ≡ o)
        → bytes_eq name n ≡ b → position (bytes_eq name) names ≡ q → next_place b q ≡ Some k → slice_get (x ∷ es) k ≡ Some o → lookup (entries_in (n ∷ names) (x ∷ es)) name ≡ o
    go true q None rest d f h g =
        let here : k ≡ 0 = cc in
        lookup_nowhere names es name (first_alone n names name once d) ∙ same_Some _ _ (subst (λ i. slice_get (None ∷ es) i ≡ Some o) here g)
    go true q (Some e) rest d f h g =
        let here : k ≡ 0 = cc in
        rw d (same_Some _ _ (subst (λ i. slice_get (Some e ∷ es) i ≡ Some o) here g))
    go false None x rest d f h g = cc
    go false (Some j) None rest d f h g =
        let later : k ≡ suc j = cc in
        rest j f (subst (λ i. slice_get (None ∷ es) i ≡ Some o) later g)
    go false (Some j) (Some e) rest d f h g =
        let later : k ≡ suc j = cc in
        rw d (rest j f (subst (λ i. slice_get (Some e ∷ es) i ≡ Some o) later g))

-- the entry that is read at the number of a name is the name's
pub lookup_found : (names : List (List ℕ)) (es : List (Option Entry)) (name : List ℕ) (k : ℕ) (o : Option Entry) → StandOnce names → length es ≡ length names → position (bytes_eq name) names ≡ Some k → o ≡ get_or es k o → lookup (entries_in names es) name ≡ o
lookup_found names es name k o once l p g =
    let place = position-Some (bytes_eq name) names k [] p in
    lookup_at names es name k o once p (slice_get-get_or es k o (omega (arith, l, place.0)) ∙ ap Some (sym g))

-- what is put at the number of a name
module _ (names : List (List ℕ)) (es : List (Option Entry)) (name : List ℕ) (k : ℕ) (e : Entry) (once : StandOnce names) (l : length es ≡ length names) (here : position (bytes_eq name) names ≡ Some k) where
  below : k < length es
  below =
      let place = position-Some (bytes_eq name) names k [] here in
      omega (arith, l, place.0)

  set_here : slice_get (set es k (Some e)) k ≡ Some (Some e)
  set_here =
      slice_get-get_or (set es k (Some e)) k None (let same = length-set es k (Some e) in let b = below in omega (arith, same))
      ∙ ap Some (get_or-set_same es k (Some e) None below)

  set_elsewhere : (j : ℕ) → j ≢ k → j < length es → slice_get (set es k (Some e)) j ≡ Some (get_or es j None)
  set_elsewhere j apart within =
      slice_get-get_or (set es k (Some e)) j None (let same = length-set es k (Some e) in omega (arith, same))
      ∙ ap Some (get_or-set_other es k j (Some e) None apart)

  pub Puts-entered : Puts (entries_in names es) name e (entries_in names (set es k (Some e)))
  Puts-entered other = by_name (bytes_eq other name) refl
    where
      elsewhere : bytes_eq other name ≡ false → (o : Option ℕ) → position (bytes_eq other) names ≡ o → lookup (entries_in names (set es k (Some e))) other ≡ lookup (entries_in names es) other
      elsewhere d None f = lookup_nowhere names (set es k (Some e)) other f ∙ sym (lookup_nowhere names es other f)
      elsewhere d (Some j) f =
          let place = position-Some (bytes_eq other) names j [] f in
          let within : j < length es = omega (arith, l, place.0) in
          lookup_at names (set es k (Some e)) other j (get_or es j None) once f (set_elsewhere j apart within)
          ∙ sym (lookup_at names es other j (get_or es j None) once f (slice_get-get_or es j None within))
        where
          apart : j ≢ k
          apart g =
              let same : other ≡ name = same_Some _ _ (sym (position-there names other j f) ∙ ap (slice_get names) g ∙ position-there names name k here) in
              let equal = (bytes_eq-Decides other name).1 same in
              absurd cc

      by_name : (b : Bool) → bytes_eq other name ≡ b → lookup (entries_in names (set es k (Some e))) other ≡ cond b (Some e) (lookup (entries_in names es) other)
      by_name true d =
          let same : other ≡ name = (bytes_eq-Decides other name).0 d in
          ap (lookup (entries_in names (set es k (Some e)))) same ∙ lookup_at names (set es k (Some e)) name k (Some e) once here set_here
      by_name false d = elsewhere d (position (bytes_eq other) names) refl

-- entries stay where more macros and named terms come
pub IsThere-more : (v w : EntriesView) (e : Entry) → length v.macros ≤ length w.macros → length v.named ≤ length w.named → IsThere v e → IsThere w e
IsThere-more v w (Function leaf) m n h = tt
IsThere-more v w Reserved m n h = tt
IsThere-more v w (Macro k) m n h = omega arith
IsThere-more v w (Named k) m n h = omega arith

pub AreThere-Puts : (v w : EntriesView) (name : List ℕ) (e : Entry) → length v.macros ≤ length w.macros → length v.named ≤ length w.named → AreThere v → Puts v.names name e w.names → IsThere w e → AreThere w
AreThere-Puts v w name e m n h puts there other =
    subst (λ o. IfSome o (IsThere w)) (sym (puts other)) (go (bytes_eq other name) (lookup v.names other) (h other))
  where
    go : (b : Bool) (o : Option Entry) → IfSome o (IsThere v) → IfSome (cond b (Some e) o) (IsThere w)
    go true o h = there
    go false None h = tt
    go false (Some x) h = IsThere-more v w x m n h

-- one more at the end
pub length_pushed : {X : Type 0} (xs ys more : List X) (x : X) → more ≡ ys ++ x ∷ [] → ys ≡ xs → length more ≡ length xs + 1
length_pushed xs ys more x e g = ap length (e ∙ ap (λ zs. zs ++ x ∷ []) g) ∙ length_push xs x

-- numbers of names stay that where more names come, and where the references are put in another order
pub AreTableNumbers-more : (given : List (ℕ × ℕ)) (m n : ℕ) → m ≤ n → AreTableNumbers given m → AreTableNumbers given n
AreTableNumbers-more given m n more h r k is = let below = h r k is in omega arith

pub AreTableNumbers-same : (given other : List (ℕ × ℕ)) (n : ℕ) → ((r : ℕ) → number_given other r ≡ number_given given r) → AreTableNumbers given n → AreTableNumbers other n
AreTableNumbers-same given other n same h r k is = h r k (sym (same r) ∙ is)

-- one more number is kept
pub AreTableNumbers-put : (given other : List (ℕ × ℕ)) (r number n : ℕ) → ((q : ℕ) → number_given other q ≡ cond (eqb r q) (Some number) (number_given given q)) → number < n → AreTableNumbers given n → AreTableNumbers other n
AreTableNumbers-put given other r number n updates below h q k is = go (eqb r q) (sym (updates q) ∙ is)
  where
    go : (b : Bool) → cond b (Some number) (number_given given q) ≡ Some k → k < n
    go true e = subst (λ j. j < n) (same_Some _ _ e) below
    go false e = h q k e
