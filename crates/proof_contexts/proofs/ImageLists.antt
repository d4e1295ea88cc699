-- Lists of bindings, and the images of the variables that they bind.
use Rattle.std.proofs.Common.{◌≡◌, ◌<◌, ◌+◌, ℕ, zero, suc, List, [], ◌∷◌, ◌++◌, length, get_or, take, slice_get, Some, refl, sym, ap, subst, arith, add-one}
use Rattle.std.specs.List.{AllZip}
use Rattle.term_pool.specs.Bindings.{IsBindingOf}
use Rattle.rule_model.specs.Contexts.{put_in_each}
use Rattle.rule_model.specs.Replacement.{Replacement}
use Rattle.rule_model.specs.Substitution.{put_in}
use Rattle.sym_table.specs.Table.{Table}
use Rattle.term_model.proofs.Zips.{zip_weaken, zip_push}
use Rattle.term_model.specs.Terms.{Var, Term}
use Rattle.term_pool.specs.Views.{TermsView, KeepsTerms}
use Rattle.proof_contexts.specs.Bindings.{BindTerms}

pub binding_later : (s : Table) (v w : TermsView) → KeepsTerms v w → (b : ℕ × ℕ) (c : Var × Term) → IsBindingOf s v b c → IsBindingOf s w b c
binding_later s v w grows b c h = record {
  variable = h.variable;
  term = record { tree = h.term.tree; known = grows.pass.grows b.1 h.term.tree h.term.known; stands = h.term.stands };
}

pub bindings_later : (s : Table) (v w : TermsView) → KeepsTerms v w → (bs : List (ℕ × ℕ)) (q : List (Var × Term)) → AllZip (IsBindingOf s v) bs q → AllZip (IsBindingOf s w) bs q
bindings_later s v w grows = zip_weaken (IsBindingOf s v) (IsBindingOf s w) (binding_later s v w grows)

-- the binding at an index
pub record HasNext (s : Table) (v : TermsView) (bound : List (Var × Term)) (i : ℕ) (b : ℕ × ℕ) : Type 0 where
  pub of : Var × Term
  pub is : IsBindingOf s v b of
  pub there : slice_get bound i ≡ Some of
  pub more : take (i + 1) bound ≡ take i bound ++ of ∷ []

pub next_of : (s : Table) (v : TermsView) (bs : List (ℕ × ℕ)) (bound : List (Var × Term)) (i : ℕ) (b : ℕ × ℕ) → AllZip (IsBindingOf s v) bs bound → i < length bs → b ≡ get_or bs i b → HasNext s v bound i b
next_of s v [] bound i b h inside e = absurd (omega arith)
next_of s v (x ∷ bs) [] i b h inside e = absurd h
next_of s v (x ∷ bs) (c ∷ bound) zero b h inside e = record { of = c; is = subst (λ z. IsBindingOf s v z c) (sym e) h.0; there = refl; more = refl }
next_of s v (x ∷ bs) (c ∷ bound) (suc i) b h inside e =
    let rest = next_of s v bs bound i b h.1 (omega arith) e in
    record { of = rest.of; is = rest.is; there = rest.there; more = more rest.of rest.more }
  where
    more : (y : Var × Term) → take (i + 1) bound ≡ take i bound ++ y ∷ [] → take (suc i + 1) (c ∷ bound) ≡ (c ∷ take i bound) ++ y ∷ []
    more y e = rw (add-one (suc i)) (ap (λ xs. c ∷ xs) (rw (add-one i) at e))

pub bind_next : (s : Table) (v w : TermsView) → KeepsTerms v w → (bs : List (ℕ × ℕ)) (i : ℕ) (b : ℕ × ℕ) → BindTerms s v bs → i < length bs → b ≡ get_or bs i b → BindTerms s w (b ∷ [])
bind_next s v w grows bs i b h inside e =
    let n = next_of s v bs h.bound i b h.are inside e in
    record { bound = n.of ∷ []; are = (binding_later s v w grows b n.of n.is, tt) }

each_more : (q : Replacement) (xs : List (Var × Term)) (c : Var × Term) → put_in_each q (xs ++ c ∷ []) ≡ put_in_each q xs ++ (c.0, put_in q c.1) ∷ []
each_more q [] c = refl
each_more q (x ∷ xs) c = ap (λ ys. (x.0, put_in q x.1) ∷ ys) (each_more q xs c)

-- one more image
pub images_more : (s : Table) (v w : TermsView) → KeepsTerms v w → (list : List (ℕ × ℕ)) (image : ℕ × ℕ) (q : Replacement) (bound : List (Var × Term)) (i : ℕ) (c : Var × Term) → take (i + 1) bound ≡ take i bound ++ c ∷ [] → AllZip (IsBindingOf s v) list (put_in_each q (take i bound)) → IsBindingOf s w image (c.0, put_in q c.1) → AllZip (IsBindingOf s w) (list ++ image ∷ []) (put_in_each q (take (i + 1) bound))
images_more s v w grows list image q bound i c more h g =
    subst (λ xs. AllZip (IsBindingOf s w) (list ++ image ∷ []) (put_in_each q xs)) (sym more)
    (subst (AllZip (IsBindingOf s w) (list ++ image ∷ [])) (sym (each_more q (take i bound) c))
    (zip_push (IsBindingOf s w) list (put_in_each q (take i bound)) image (c.0, put_in q c.1) (bindings_later s v w grows list (put_in_each q (take i bound)) h) g))

-- as many
pub taken_all : (s : Table) (v : TermsView) (bs : List (ℕ × ℕ)) (bound : List (Var × Term)) (i : ℕ) → AllZip (IsBindingOf s v) bs bound → i ≡ length bs → take i bound ≡ bound
taken_all s v bs bound i h e = rw e (all bs bound h)
  where
    all : (xs : List (ℕ × ℕ)) (ys : List (Var × Term)) → AllZip (IsBindingOf s v) xs ys → take (length xs) ys ≡ ys
    all [] [] h = refl
    all [] (y ∷ ys) h = absurd h
    all (x ∷ xs) [] h = absurd h
    all (x ∷ xs) (y ∷ ys) h = ap (λ zs. y ∷ zs) (all xs ys h.1)
