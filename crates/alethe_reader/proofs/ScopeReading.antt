-- What a reader of terms stands for stays when terms and names are added to its script, and as variables of an anchor enter and leave.
use Rattle.std.proofs.Common.{◌≡◌, ◌<◌, ◌≤◌, ◌+◌, ◌-◌, ℕ, zero, suc, List, [], ◌∷◌, ◌++◌, map, reverse, length, take, get_or, refl, sym, ap, subst, ◌∙◌, arith}
use Rattle.std.proofs.lemmas.List.{map-append, reverse-append, take_all, take_more}
use Rattle.std.specs.List.{AllZip}
use Rattle.sym_table.specs.Table.{Table, IsLeaf}
use Rattle.term_model.specs.Terms.{Var, Term}
use Rattle.term_pool.specs.StandsFor.{variable_leaf}
use Rattle.term_pool.specs.Views.{TermsView}
use Rattle.term_pool.specs.Bindings.{IsBindingOf}
use Rattle.rule_model.specs.Proofs.{ProofItems}
use Rattle.rule_model.specs.Scopes.{Anchor, Nesting, outermost, inside, own_bindings}
use Rattle.rule_model.specs.Visibility.{open_bindings}
use Rattle.problem_text.specs.Names.{Bound, Place, itself}
use Rattle.problem_text.specs.Scripts.{Script, with_term, with_let_name}
use Rattle.term_reader.specs.ProblemViews.{ReaderView, IsReaderOf}
use Rattle.term_reader.proofs.ViewsStay.{reader_behind}
use Rattle.alethe_text.specs.ProofTerms.{variables_in, place_in}
use Rattle.alethe_text.specs.States.{ProofSettings}
use Rattle.alethe_reader.specs.Opening.{entered}

module _ (s : Table) (v : TermsView) (r : ReaderView) (sc : Script) (p : Place) (h : IsReaderOf s v r sc p) where
  pub reader_named : (name : List ℕ) → IsReaderOf s v r (with_let_name name sc) p
  reader_named name = reader_behind s v r sc (with_let_name name sc) p refl h

  pub reader_more : (t : Term) → IsReaderOf s v r (with_term t sc) p
  reader_more t = reader_behind s v r sc (with_term t sc) p refl h

-- The variables of an anchor in scope, one after another.
pub none_entered : (bs : List (Var × Term)) (around : List Bound) → entered 0 bs around ≡ around
none_entered bs around = refl

pub one_entered : (bs : List (Var × Term)) (around : List Bound) (k : ℕ) (d : Var × Term) → k < length bs → entered (k + 1) bs around ≡ itself (get_or bs k d).0 ∷ entered k bs around
one_entered bs around k d below =
    ap (λ (cs : List (Var × Term)). map (λ b. itself b.0) (reverse cs) ++ around) (take_more bs k d below)
    ∙ ap (λ (cs : List (Var × Term)). map (λ b. itself b.0) cs ++ around) (reverse-append (take k bs) (get_or bs k d ∷ []))

-- the next of the variables, by its leaf
pub pair_at : {A B : Type 0} (R : A → B → Type 0) (xs : List A) (ys : List B) → AllZip R xs ys → (k : ℕ) → k < length xs → (d : A) → (y : B) × R (get_or xs k d) y × (take (suc k) ys ≡ take k ys ++ y ∷ [])
pair_at R [] ys h k below d = absurd (omega (arith, below))
pair_at R (x ∷ xs) [] h k below d = absurd h
pair_at R (x ∷ xs) (y ∷ ys) h zero below d = (y, h.0, refl)
pair_at R (x ∷ xs) (y ∷ ys) h (suc k) below d = let (z, r, e) = pair_at R xs ys h.1 k (omega (arith, below)) d in (z, r, ap (λ zs. y ∷ zs) e)

pub enters : (s : Table) (v : TermsView) (sc : Script) (p : Place) (opened : List (ℕ × ℕ)) (bs : List (Var × Term)) (k : ℕ) (d : ℕ × ℕ) (r new : ReaderView) → AllZip (IsBindingOf s v) opened bs → k < length opened
    → ((x : Var) → IsLeaf s (get_or opened k d).0 (variable_leaf x) → IsReaderOf s v r sc (record p { scope = entered k bs p.scope }) → IsReaderOf s v new sc (record p { scope = itself x ∷ entered k bs p.scope }))
    → IsReaderOf s v r sc (record p { scope = entered k bs p.scope }) → IsReaderOf s v new sc (record p { scope = entered (k + 1) bs p.scope })
enters s v sc p opened bs k d r new zip below push h =
    let (y, binds, more) = pair_at (IsBindingOf s v) opened bs zip k below d in
    subst (λ bounds. IsReaderOf s v new sc (record p { scope = bounds })) (sym (scope_more y more)) (push y.0 binds.variable h)
  where
    next : k + 1 ≡ suc k
    next = omega arith

    scope_more : (y : Var × Term) → take (suc k) bs ≡ take k bs ++ y ∷ [] → entered (k + 1) bs p.scope ≡ itself y.0 ∷ entered k bs p.scope
    scope_more y e =
        ap (λ n. entered n bs p.scope) next
        ∙ (ap (λ (cs : List (Var × Term)). map (λ b. itself b.0) (reverse cs) ++ p.scope) e
        ∙ ap (λ (cs : List (Var × Term)). map (λ b. itself b.0) cs ++ p.scope) (reverse-append (take k bs) (y ∷ [])))

-- no more are left
pub entered_all : (bs : List (Var × Term)) (around : List Bound) (k : ℕ) → length bs ≤ k → entered k bs around ≡ entered (length bs) bs around
entered_all bs around k h = ap (λ (cs : List (Var × Term)). map (λ b. itself b.0) (reverse cs) ++ around) (take_all k bs h ∙ sym (take_all (length bs) bs (omega arith)))

-- all are in scope
pub all_entered : (around : Nesting Var Term) (before : ProofItems Var Term) (anchor : Anchor Var Term) → variables_in (inside around before anchor) ≡ entered (length anchor.bindings) anchor.bindings (variables_in around)
all_entered around before anchor =
    ap (map (λ b. itself b.0)) (reverse-append (open_bindings around) anchor.bindings)
    ∙ (map-append (λ b. itself b.0) (reverse anchor.bindings) (reverse (open_bindings around))
    ∙ ap (λ (cs : List (Var × Term)). map (λ b. itself b.0) (reverse cs) ++ variables_in around) (sym (take_all (length anchor.bindings) anchor.bindings (omega arith))))

-- where an anchor stands, with so many of its variables
abbrev pub place_with : ProofSettings → Nesting Var Term → Anchor Var Term → ℕ → Place
place_with settings around anchor left = record (place_in settings around) { scope = entered left anchor.bindings (variables_in around) }

module _ (s : Table) (v : TermsView) (r : ReaderView) (sc : Script) (settings : ProofSettings) (around : Nesting Var Term) (before : ProofItems Var Term) (anchor : Anchor Var Term) where
  pub reader_inside : IsReaderOf s v r sc (place_with settings around anchor (length anchor.bindings)) → IsReaderOf s v r sc (place_in settings (inside around before anchor))
  reader_inside h = subst (λ bs. IsReaderOf s v r sc (record (place_in settings around) { scope = bs })) (sym (all_entered around before anchor)) h

  pub reader_outside : IsReaderOf s v r sc (place_in settings (inside around before anchor)) → IsReaderOf s v r sc (place_with settings around anchor (length anchor.bindings))
  reader_outside h = subst (λ bs. IsReaderOf s v r sc (record (place_in settings around) { scope = bs })) (all_entered around before anchor) h

-- The variables of an anchor leave the scope, the last one first.
last_entered : (bs : List (Var × Term)) (around : List Bound) (left : ℕ) → 0 < left → left ≤ length bs → (b : Var × Term) × (entered left bs around ≡ itself b.0 ∷ entered (left - 1) bs around)
last_entered [] around left some fewer = absurd (omega (arith, some, fewer))
last_entered (b ∷ bs) around left some fewer =
    (get_or (b ∷ bs) (left - 1) b, ap (λ n. entered n (b ∷ bs) around) next ∙ one_entered (b ∷ bs) around (left - 1) b (omega (arith, some, fewer)))
  where
    next : left ≡ left - 1 + 1
    next = omega (arith, some)

module _ (s : Table) (v : TermsView) (sc : Script) (settings : ProofSettings) where
  pub some_left : (r t : ReaderView) (nesting : Nesting Var Term) (count left : ℕ) → count ≡ length (own_bindings nesting) → 0 < left → left ≤ count
      → ((around : Nesting Var Term) (before : ProofItems Var Term) (anchor : Anchor Var Term) → count ≡ length anchor.bindings → IsReaderOf s v r sc (place_in settings (inside around before anchor)) → IsReaderOf s v t sc (place_with settings around anchor left))
      → IsReaderOf s v r sc (place_in settings nesting) → (p : Place) × (x : Bound) × (outer : List Bound) × IsReaderOf s v t sc p × (p.scope ≡ x ∷ outer)
  some_left r t outermost count left same some fewer scope h = absurd (omega (arith, same, some, fewer))
  some_left r t (inside around before anchor) count left same some fewer scope h =
      let (b, is) = last_entered anchor.bindings (variables_in around) left some (omega (arith, same, fewer)) in
      (place_with settings around anchor left, itself b.0, entered (left - 1) anchor.bindings (variables_in around), scope around before anchor same h, is)

  pub one_left : (t : ReaderView) (around : Nesting Var Term) (anchor : Anchor Var Term) (left : ℕ) → 0 < left → left ≤ length anchor.bindings
      → ((x : Bound) (outer : List Bound) → entered left anchor.bindings (variables_in around) ≡ x ∷ outer → IsReaderOf s v t sc (record (place_in settings around) { scope = outer }))
      → IsReaderOf s v t sc (place_with settings around anchor (left - 1))
  one_left t around anchor left some fewer pop =
      let (b, is) = last_entered anchor.bindings (variables_in around) left some fewer in pop (itself b.0) (entered (left - 1) anchor.bindings (variables_in around)) is

  pub none_left : (t : ReaderView) (around : Nesting Var Term) (anchor : Anchor Var Term) (left : ℕ) → left ≡ 0 → IsReaderOf s v t sc (place_with settings around anchor left) → IsReaderOf s v t sc (place_in settings around)
  none_left t around anchor left none h = subst (λ k. IsReaderOf s v t sc (place_with settings around anchor k)) none h
