-- Terms that are made of terms over a vocabulary: applications, and terms with closed terms put in.
use Rattle.std.proofs.Common.{◌≡◌, inl, inr, ℕ, Bool, true, false, not, Some, List, [], ◌∷◌, filter, cond, refl, sym, ap, ◌∙◌}
use Rattle.std.specs.Prelude.{Contains}
use Rattle.std.specs.List.{AllByRecursion}
use Rattle.term_model.specs.declared.symbols.Sort.{Sort}
use Rattle.term_model.specs.declared.symbols.Op.{Op}
use Rattle.term_model.specs.FreeVariables.{IsFreeAmong, IsClosed}
use Rattle.term_model.specs.Sorts.{operation_sort, call_sort, AreOf}
use Rattle.term_model.specs.Terms.{Var, sort_eq, Fun, Term, numeral, variable, operation, call, let_in, Terms, no_terms, term, Bindings, no_bindings, binding}
use Rattle.term_model.proofs.Lists.{all_joined}
use Rattle.term_model.proofs.Tests.{sort_eq_decides}
use Rattle.rule_model.specs.Contexts.{put_in_each, images, IsBoundBy, AreAnchorsNested}
use Rattle.rule_model.specs.Judged.{open_anchors}
use Rattle.rule_model.specs.Replacement.{Replacement, binds}
use Rattle.rule_model.specs.Scopes.{Nesting}
use Rattle.rule_model.specs.Substitution.{unbound, put_in, put_in_all, put_in_bound, AreClosed}
use Rattle.rule_model.proofs.ContextLaws.{images_closed}
use Rattle.rule_model.proofs.Substituting.{put_in_binds, free_was}
use Rattle.problem_text.specs.PrintedTerms.{BindsSome}
use Rattle.problem_text.specs.Words.{is_among}
use Rattle.readable_proofs.specs.Names.{Vocabulary}
use Rattle.readable_proofs.specs.ProofsOver.{IsTermIn, AreTermsIn}
use Rattle.readable_proofs.specs.TermsOver.{names_of, BindOnce, IsTermOver, AreTermsOver, AreBoundOver}
use Rattle.readable_proofs.proofs.Replaced.{ArePutOf, put_of}

-- applications
module _ (v : Vocabulary) (nesting : Nesting Var Term) where
  parts_of : (ts : Terms) (sorts : List Sort) → AreTermsIn v nesting ts sorts → AreTermsOver v ts
  parts_of no_terms sorts h = tt
  parts_of (term t ts) [] h = absurd h
  parts_of (term t ts) (sort ∷ sorts) h = (h.0.of, parts_of ts sorts h.1)

  parts_sorted : (ts : Terms) (sorts : List Sort) → AreTermsIn v nesting ts sorts → AreOf ts sorts
  parts_sorted no_terms [] h = tt
  parts_sorted no_terms (sort ∷ sorts) h = absurd h
  parts_sorted (term t ts) [] h = absurd h
  parts_sorted (term t ts) (sort ∷ sorts) h = (h.0.sorted, parts_sorted ts sorts h.1)

  parts_closed : (ts : Terms) (sorts : List Sort) → AreTermsIn v nesting ts sorts → (x : Var) → IsFreeAmong x ts → IsBoundBy (open_anchors nesting) x
  parts_closed no_terms sorts h x free = absurd free
  parts_closed (term t ts) [] h x free = absurd h
  parts_closed (term t ts) (sort ∷ sorts) h x (inl free) = h.0.closed x free
  parts_closed (term t ts) (sort ∷ sorts) h x (inr free) = parts_closed ts sorts h.1 x free

  pub operation_in : (op : Op) (ts : Terms) (sorts : List Sort) (sort : Sort) → AreTermsIn v nesting ts sorts → operation_sort op ts sorts ≡ Some sort
      → IsTermIn v nesting (operation op ts) sort
  operation_in op ts sorts sort h e = record {
    of = parts_of ts sorts h;
    sorted = record { sorts = sorts; arguments = parts_sorted ts sorts h; is = e };
    closed = parts_closed ts sorts h;
  }

  pub call_in : (f : Fun) (ts : Terms) (sorts : List Sort) (sort : Sort) → Contains v.functions f → AreTermsIn v nesting ts sorts
      → call_sort f sorts ≡ Some sort → IsTermIn v nesting (call f ts) sort
  call_in f ts sorts sort there h e = record {
    of = (there, parts_of ts sorts h);
    sorted = record { sorts = sorts; arguments = parts_sorted ts sorts h; is = e };
    closed = parts_closed ts sorts h;
  }

  pub equality_in : (a b : Term) (sort : Sort) → IsTermIn v nesting a sort → IsTermIn v nesting b sort
      → IsTermIn v nesting (operation Op.Equal (term a (term b no_terms))) Sort.Bool
  equality_in a b sort h k =
      operation_in Op.Equal (term a (term b no_terms)) (sort ∷ sort ∷ []) Sort.Bool (h, (k, tt))
      (let e : sort_eq sort sort ≡ true = (sort_eq_decides sort sort).1 refl in rw e refl)

-- closed terms that are put in
filtered : (P : Var × Term → Type 0) (test : Var × Term → Bool) (s : Replacement) → AllByRecursion P s → AllByRecursion P (filter test s)
filtered P test [] h = tt
filtered P test (b ∷ s) h = go (test b) (filtered P test s h.1)
  where
    go : (t : Bool) → AllByRecursion P (filter test s) → AllByRecursion P (cond t (b ∷ filter test s) (filter test s))
    go true rest = (h.0, rest)
    go false rest = rest

some_still : (s : Replacement) (bs : Bindings) → BindsSome bs → BindsSome (put_in_bound s bs)
some_still s no_bindings h = h
some_still s (binding x t bs) h = tt

once_still : (s : Replacement) (bs : Bindings) (earlier : List (List ℕ)) → BindOnce earlier bs → BindOnce earlier (put_in_bound s bs)
once_still s no_bindings earlier h = tt
once_still s (binding x t bs) earlier h = (h.0, once_still s bs (x.name ∷ earlier) h.1)

same_names : (s : Replacement) (bs : Bindings) → names_of (put_in_bound s bs) ≡ names_of bs
same_names s no_bindings = refl
same_names s (binding x t bs) = ap (λ names. x.name ∷ names) (same_names s bs)

module _ (v : Vocabulary) where
  mutual
    pub put_in_of : (t : Term) (s : Replacement) → AreClosed s → ArePutOf v s → IsTermOver v t → IsTermOver v (put_in s t)
    put_in_of (numeral n) s closed h k = k
    put_in_of (variable x) s closed h k = put_of v s x h
    put_in_of (operation op ts) s closed h k = all_put_in_of ts s closed h k
    put_in_of (call f ts) s closed h k = (k.0, all_put_in_of ts s closed h k.1)
    put_in_of (let_in bs t) s closed h k =
        let inner = filtered (λ b. IsClosed b.1) (λ b. not (binds bs b.0)) s closed in (
          record {
            some = some_still s bs k.0.some;
            once = once_still s bs [] k.0.once;
            hides_none = λ x free named. put_in_binds s bs x
                (k.0.hides_none x (free_was (unbound bs s) t x inner free).0 (ap (λ names. is_among names x.name) (sym (same_names s bs)) ∙ named));
          },
          bound_put_in_of bs s closed h k.1,
          put_in_of t (unbound bs s) inner (filtered (λ b. IsTermOver v b.1) (λ b. not (binds bs b.0)) s h) k.2,
        )

    all_put_in_of : (ts : Terms) (s : Replacement) → AreClosed s → ArePutOf v s → AreTermsOver v ts → AreTermsOver v (put_in_all s ts)
    all_put_in_of no_terms s closed h k = tt
    all_put_in_of (term t ts) s closed h k = (put_in_of t s closed h k.0, all_put_in_of ts s closed h k.1)

    bound_put_in_of : (bs : Bindings) (s : Replacement) → AreClosed s → ArePutOf v s → AreBoundOver v bs → AreBoundOver v (put_in_bound s bs)
    bound_put_in_of no_bindings s closed h k = tt
    bound_put_in_of (binding x t bs) s closed h k = (k.0, put_in_of t s closed h k.1, bound_put_in_of bs s closed h k.2)

  each_of : (outer : List Replacement) (anchor : Replacement) → AreClosed (images outer) → ArePutOf v (images outer) → ArePutOf v anchor
      → ArePutOf v (put_in_each (images outer) anchor)
  each_of outer [] closed h k = tt
  each_of outer (b ∷ anchor) closed h k = (put_in_of b.1 (images outer) closed h k.0, each_of outer anchor closed h k.1)

  pub images_of : (anchors : List Replacement) → AreAnchorsNested anchors → AllByRecursion (ArePutOf v) anchors → ArePutOf v (images anchors)
  images_of [] nested h = tt
  images_of (anchor ∷ outer) nested h =
      let rest = images_of outer nested.1 h.1 in
      all_joined (λ b. IsTermOver v b.1) (put_in_each (images outer) anchor) (images outer)
      (each_of outer anchor (images_closed outer nested.1) rest h.0) rest
